use Rattle.std.proofs.Common.{◌≡◌, ◌≤◌, ◌-◌, length, rules, arith, ◌∙◌, Some}
use Rattle.std.specs.List.{slice_get}
use Rattle.std.proofs.lemmas.Bool.Decides.{nat_tests}
use Rattle.sources.proofs.Benches.{false_from, order_sorted, order_within}
use Rattle.sources.proofs.bench.are_in_order.Goals as goal
use Rattle.sources.proofs.bench.are_in_order.Goals.{then-ge, else-ge}

pub returns-then-le : goal.returns-then-le
returns-then-le c =
    let xs = c.args.ages.now in
    let hi = c.args.stop.0 in
    let a = c.in-Some-Some.first.now in
    let b = c.in-Some-Some.last.now in
    let first : Some a ≡ slice_get xs 0 = search (rules) in
    let last : Some b ≡ slice_get xs (length xs - 1) = search (rules) in
    let within : (1 ≤ a.0) × (b.0 ≤ hi) = elim c.if-ge.branch [ then-ge w ↦ (grind (arith, nat_tests), grind (arith, nat_tests)) | else-ge w ↦ (grind (arith, nat_tests), grind (arith, nat_tests)) ] in
    order_sorted c.is_sorted.result hi xs a b first last within.0 within.1 c.is_sorted.ensures.cases

pub returns-else-le : goal.returns-else-le
returns-else-le c =
    let xs = c.args.ages.now in
    let hi = c.args.stop.0 in
    let a = c.in-Some-Some.first.now in
    let b = c.in-Some-Some.last.now in
    let first : Some a ≡ slice_get xs 0 = search (rules) in
    let last : Some b ≡ slice_get xs (length xs - 1) = search (rules) in
    c.if-le.false ∙ false_from _ (λ e.
    let low : 1 ≤ a.0 = (order_within hi xs 0 a first e).0 in
    let high : b.0 ≤ hi = (order_within hi xs (length xs - 1) b last e).1 in
    elim c.if-ge.branch [ then-ge w ↦ absurd (grind (arith, nat_tests)) | else-ge w ↦ absurd (grind (arith, nat_tests)) ])
