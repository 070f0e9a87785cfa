-- Digits of a radix, and the number that they write.
use Rattle.std.proofs.Common.{◌≡◌, ℕ, ◌^◌, ◌<◌, ◌≤◌, Bool, true, false, cond, ◌&&◌, ltb, List, [], ◌∷◌, length, get_or, Some, None, Ok, Err, IsUtf8, Result, sym, refl, ap, ◌∙◌, inl, inr, arith}
use Rattle.std.specs.Str.Parse.{AllDigits, IsNumeral, ParsesUnsigned, digits_value}
use Rattle.std.specs.Result.{result_ok}
use Rattle.std.specs.Char.{digit_value}
use Rattle.std.specs.List.{AllByRecursion}
use Rattle.std.proofs.ByRecursion.{IsAscii-from_all}
use Rattle.std.proofs.lemmas.Str.Parse.{without_leading_plus_none}
use Rattle.std.proofs.lemmas.Bool.{and_parts, and_from, cases_Bool, eqb-false, eqb-true, lt-ltb, ltb-true}
use Rattle.std.proofs.lemmas.Bool.Decides.{nat_tests}
use Rattle.std.proofs.lemmas.Str.{IsUtf8-from_ascii}
use Rattle.lines.specs.Fields.{begins}
use Rattle.lines.specs.Numbers.{digits, number_of}

digits_true : (radix : ℕ) (bs : List ℕ) → AllDigits radix bs → digits radix bs ≡ true
digits_true radix [] h = refl
digits_true radix (c ∷ cs) h = and_from (ltb (digit_value c) radix) (digits radix cs) (lt-ltb (digit_value c) radix h.0) (digits_true radix cs h.1)

digits_from : (radix : ℕ) (bs : List ℕ) → digits radix bs ≡ true → AllDigits radix bs
digits_from radix [] h = tt
digits_from radix (c ∷ cs) h =
    let p = and_parts (ltb (digit_value c) radix) (digits radix cs) h in (ltb-true (digit_value c) radix p.0, digits_from radix cs p.1)

-- the digits of a number that fits, and nothing else
abbrev Fitting : ℕ → List ℕ → Type 0
Fitting radix bs = IsNumeral radix bs × (digits_value radix bs < 2 ^ 32)

fitting_from : (radix : ℕ) (bs : List ℕ) → (ltb 0 (length bs) && (digits radix bs && ltb (digits_value radix bs) (2 ^ 32))) ≡ true → Fitting radix bs
fitting_from radix bs h =
    let p = and_parts (ltb 0 (length bs)) (digits radix bs && ltb (digits_value radix bs) (2 ^ 32)) h in
    let q = and_parts (digits radix bs) (ltb (digits_value radix bs) (2 ^ 32)) p.1 in
    ((ltb-true 0 (length bs) p.0, digits_from radix bs q.0), ltb-true (digits_value radix bs) (2 ^ 32) q.1)

number_some : (radix : ℕ) (bs : List ℕ) → Fitting radix bs → number_of radix bs ≡ Some (digits_value radix bs)
unfolding number_of
number_some radix bs h =
    let a = lt-ltb 0 (length bs) h.0.0 in
    let b = digits_true radix bs h.0.1 in
    let d = lt-ltb (digits_value radix bs) (2 ^ 32) h.1 in
    simp (a, b, d)

number_none : (radix : ℕ) (bs : List ℕ) → (Fitting radix bs → ⊥) → number_of radix bs ≡ None
unfolding number_of
number_none radix bs h =
    let t : Bool = ltb 0 (length bs) && (digits radix bs && ltb (digits_value radix bs) (2 ^ 32)) in
    elim (cases_Bool t) [ inl e ↦ absurd (h (fitting_from radix bs e)) | inr e ↦ ap (λ b. cond b (Some (digits_value radix bs)) None) e ]

plain : (bs : List ℕ) → begins 43 bs ≡ false → get_or bs 0 0 ≡ 43 → ⊥
plain [] h e = omega arith
plain (c ∷ cs) h e = eqb-false c 43 h e

pub number_read : {E : Type 0} (radix : ℕ) (bs : List ℕ) (r : Result ℕ E) → begins 43 bs ≡ false → ParsesUnsigned 32 radix bs r → result_ok r ≡ number_of radix bs
number_read radix bs (Ok n) h reads =
    let k = rw (without_leading_plus_none bs (plain bs h)) at reads in ap (λ v. Some v) k.1 ∙ sym (number_some radix bs k.0)
number_read radix bs (Err e) h reads =
    let k = rw (without_leading_plus_none bs (plain bs h)) at reads in sym (number_none radix bs k)

-- ---- what is no number

digit_ascii : (c radix : ℕ) → radix ≤ 36 → digit_value c < radix → c < 128
digit_ascii c radix top h = grind (arith, nat_tests)

digits_ascii : (radix : ℕ) (bs : List ℕ) → radix ≤ 36 → AllDigits radix bs → AllByRecursion (λ b. b < 128) bs
digits_ascii radix [] top h = tt
digits_ascii radix (c ∷ cs) top h = (digit_ascii c radix top h.0, digits_ascii radix cs top h.1)

pub no_text : (radix : ℕ) (bs : List ℕ) → radix ≤ 36 → (IsUtf8 bs → ⊥) → None ≡ number_of radix bs
no_text radix bs top h =
    sym (number_none radix bs (λ n. h (IsUtf8-from_ascii bs (IsAscii-from_all bs (digits_ascii radix bs top n.0.1)))))

plus_is_none : (radix : ℕ) (bs : List ℕ) → radix ≤ 36 → begins 43 bs ≡ true → IsNumeral radix bs → ⊥
plus_is_none radix [] top h n = omega arith
plus_is_none radix (c ∷ cs) top h n =
    let e : c ≡ 43 = eqb-true c 43 h in let k : digit_value 43 < radix = rw e at n.1.0 in omega arith

pub plus_first : (radix : ℕ) (bs : List ℕ) → radix ≤ 36 → begins 43 bs ≡ true → None ≡ number_of radix bs
plus_first radix bs top h = sym (number_none radix bs (λ n. plus_is_none radix bs top h n.0))
