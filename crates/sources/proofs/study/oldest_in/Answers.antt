use Rattle.std.proofs.Common.{◌≡◌, max, rules}
use Rattle.std.specs.List.{reduce}
use Rattle.std.specs.Option.{option_map}
use Rattle.std.proofs.lemmas.Iterator.{YieldsList-from_slice, YieldsList-from_map_by}
use Rattle.std.proofs.lemmas.Iterator.Consumers.{max_from_yields_List}
use borrow.Author.Tests.{tests}
use Rattle.lives.specs.Lives.{plain}
use Rattle.units.specs.Hours.{age_ticks}
use Rattle.sources.specs.Studies.{last_age_of, study_watched}
use Rattle.sources.proofs.Lives.{age_or_zero, last_ages, oldest_lives}
use Rattle.sources.proofs.study.oldest_in.Goals as goal

pub returns : goal.returns
unfolding study_watched
returns c =
    let ps = c.args.places.now in
    let most : option_map age_ticks c.max.result ≡ reduce max (last_ages ps) = max_from_yields_List c.map.result c.max.result c.max.ensures.ran
    (YieldsList-from_map_by _ age_ticks (λ p. last_age_of (plain p)) (YieldsList-from_slice ps (cc)) c.map.ensures.closure (λ x r q k. search (rules, tests))) in
    rw (age_or_zero c.max.result c.unwrap_or_default.result c.unwrap_or_default.ensures, most) (oldest_lives ps)
