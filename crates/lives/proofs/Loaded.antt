-- What a load promises, on each way through it.
use Rattle.std.proofs.Common.{◌≡◌, ℕ, ◌<◌, ◌≤◌, true, false, eqb, leb, List, map, length, drop, Ok, Err, Result, sym, ap, ◌∙◌, arith}
use Rattle.std.proofs.lemmas.Grind.{common_steps}
use Rattle.std.proofs.lemmas.List.{drop-map}
use Rattle.std.proofs.lemmas.Bool.{cond-true, cond-false, le-leb, lt-leb}
use Rattle.units.specs.Refusals.{Refused, refused}
use Rattle.lives.specs.declared.studies.OpenStudy.{OpenStudy}
use Rattle.lives.specs.Lives.{PlainPlace, plain}
use Rattle.lives.specs.Studies.{held, room}
use Rattle.lives.specs.Archive.{archive_of}
use Rattle.lives.specs.Decode.{Checked, decode, places_in, load_after, load_answer, room_after, room_answer}
use Rattle.lives.proofs.Decoded.{ok_is}
use Rattle.lives.proofs.OneByOne.{length_lives}
use Rattle.lives.proofs.RoundTrip.{only_written}
use Rattle.lives.proofs.Places.{room_is, same_held}

-- whether places are used
pub empty : (s : OpenStudy) → s.used ≡ 0 → eqb (length (held s).places) 0 ≡ true
empty s z = grind (arith, common_steps)

-- an empty study answers by what the words say
to_empty : (s : OpenStudy) (ws : List ℕ) (d : Result (List PlainPlace) Refused) → s.used ≡ 0 → decode ws ≡ d → (load_answer (held s) ws ≡ room_answer (room (held s)) d) × (load_after (held s) ws ≡ room_after (held s) d)
to_empty s ws d z e = grind (arith, common_steps)

-- the lives are too many for the memory
pub no_room : (s : OpenStudy) (ws : List ℕ) (lives : List (List ℕ)) → s.used ≡ 0 → length s.memory.now < length lives → Checked ws lives →
    (load_answer (held s) ws ≡ Err (refused 9)) × (load_after (held s) ws ≡ held s)
no_room s ws lives z h c =
    let ps = c.1.0 in
    let k = to_empty s ws (Ok ps) z c.1.2 in
    let full : leb (length ps) (room (held s)) ≡ false = lt-leb (length ps) (room (held s)) (omega (arith, length_lives 2 lives ps c.1.1, room_is s.memory.now s.used s.ok.1)) in
    (k.0 ∙ cond-false _ _ _ full, k.1 ∙ cond-false _ _ _ full)

-- what is left of the memory past n places
spare_past : (s : OpenStudy) (n : ℕ) → s.used ≡ 0 → map plain (drop n s.memory.now) ≡ drop n (held s).spare
spare_past s n z = sym (drop-map plain n s.memory.now) ∙ ap (λ k. drop n (map plain (drop k s.memory.now))) (sym z)

-- the lives are in the memory
pub loaded : (s t : OpenStudy) (ws : List ℕ) (lives : List (List ℕ)) → s.used ≡ 0 → length lives ≤ length s.memory.now → Checked ws lives →
    places_in 2 lives ≡ Ok (held t).places → (held t).spare ≡ map plain (drop (length lives) s.memory.now) →
    (Ok (length lives) ≡ load_answer (held s) ws) × (held t ≡ load_after (held s) ws) × (ws ≡ archive_of (held t).places)
loaded s t ws lives z h c read left =
    let ps = c.1.0 in
    let k = to_empty s ws (Ok ps) z c.1.2 in
    let size : length ps ≡ length lives = length_lives 2 lives ps c.1.1 in
    let few = c.0 in
    let fits : leb (length ps) (room (held s)) ≡ true = le-leb (length ps) (room (held s)) (omega (arith, room_is s.memory.now s.used s.ok.1)) in
    let these : (held t).places ≡ ps = ok_is (held t).places ps (sym read ∙ c.1.1) in (
      ap Ok (sym size) ∙ sym (k.0 ∙ cond-true _ _ _ fits),
      same_held these (left ∙ spare_past s (length lives) z ∙ ap (λ i. drop i (held s).spare) (sym size)) ∙ sym (k.1 ∙ cond-true _ _ _ fits),
      only_written ws ps c.1.2 ∙ ap archive_of (sym these),
    )
