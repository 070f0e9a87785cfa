use Rattle.units.proofs.HoursMeant.{age_meant, age_exact}
use Rattle.units.proofs.ages.Age.from_hours.Goals as goal

pub returns : goal.returns
returns c =
    let x = c.args.hours in
    let r = c.ticks.result in
    let k = c.ticks.ensures in
    record { value = rw c.ok_or.ensures.value (age_meant x r k); exact = rw c.ok_or.ensures.value (age_exact x r k) }
