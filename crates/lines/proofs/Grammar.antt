-- The form of hours by its parts, and that every text of that form is read as a float.
use Rattle.std.proofs.Common.{◌≡◌, ℕ, ◌-◌, ◌<◌, Bool, true, false, ◌||◌, eqb, ltb, List, [], ◌∷◌, length, take, drop, IsUtf8, sym, refl, ap, ◌∙◌, inl, inr, one-add, arith}
use Rattle.std.specs.Float.Parse.{is_float_text, is_infinity_text, is_nan_text, completes_number, without_sign}
use Rattle.std.specs.Char.{is_ascii_digit}
use Rattle.std.specs.List.{prefix_len, AllByRecursion}
use Rattle.std.proofs.ByRecursion.{IsAscii-from_all}
use Rattle.std.proofs.lemmas.List.{take_rest}
use Rattle.std.proofs.lemmas.Bool.{and_parts, cases_Bool, eqb-true, false≢true, lt-ltb, or_left}
use Rattle.std.proofs.lemmas.Str.{IsUtf8-from_ascii}
use Rattle.std.proofs.lemmas.Bool.Decides.{nat_tests}
use Rattle.lines.specs.Fields.{begins}
use Rattle.lines.specs.Numbers.{fraction, hours_form, numeral, unsigned_hours}

pub point_is : (bs : List ℕ) → begins 46 bs ≡ true → numeral (take (length bs - 1) (drop 1 bs)) ≡ fraction bs
point_is [] h = absurd (false≢true h)
point_is (c ∷ cs) h = ap numeral (take_rest (c ∷ cs) 1) ∙ simp h

pub unsigned_is : (bs : List ℕ) (n : ℕ) → n ≡ prefix_len is_ascii_digit bs → 0 < n → fraction (take (length bs - n) (drop n bs)) ≡ unsigned_hours bs
unsigned_is bs n e h =
    let l = lt-ltb 0 (prefix_len is_ascii_digit bs) (omega arith) in
    ap fraction (take_rest bs n) ∙ ap (λ k. fraction (drop k bs)) e ∙ simp l

pub minus_is : (bs : List ℕ) → begins 45 bs ≡ true → unsigned_hours (take (length bs - 1) (drop 1 bs)) ≡ hours_form bs
minus_is bs h = ap unsigned_hours (take_rest bs 1) ∙ simp h

-- all bytes are ASCII, and a reader that has come to s goes on to the end
abbrev Reads : ℕ → List ℕ → Type 0
Reads s bs = (completes_number s bs ≡ true) × AllByRecursion (λ b. b < 128) bs

digit_small : (c : ℕ) → is_ascii_digit c ≡ true → c < 128
digit_small c h = grind (arith, nat_tests)

digits_read : (bs : List ℕ) → prefix_len is_ascii_digit bs ≡ length bs → Reads 3 bs
digits_read [] h = (refl, tt)
digits_read (c ∷ cs) h =
    elim (cases_Bool (is_ascii_digit c)) [
      | inl d ↦ let k = simp d at h in let r = digits_read cs (omega arith) in (simp d r.0, (digit_small c d, r.1))
      | inr d ↦ let k : 0 ≡ length (c ∷ cs) = simp d at h in let z : ⊥ = omega arith in absurd z
    ]

fraction_reads : (bs : List ℕ) → fraction bs ≡ true → Reads 1 bs
fraction_reads [] h = (refl, tt)
fraction_reads (c ∷ cs) h =
    let p = and_parts (eqb c 46) (numeral cs) h in
    let q = and_parts (ltb 0 (length cs)) (eqb (prefix_len is_ascii_digit cs) (length cs)) p.1 in
    let e : c ≡ 46 = eqb-true c 46 p.0 in
    let r = digits_read cs (eqb-true (prefix_len is_ascii_digit cs) (length cs) q.1) in
    (simp e r.0, (omega arith, r.1))

whole_reads : (bs : List ℕ) → fraction (drop (prefix_len is_ascii_digit bs) bs) ≡ true → Reads 1 bs
whole_reads [] h = (refl, tt)
whole_reads (c ∷ cs) h =
    elim (cases_Bool (is_ascii_digit c)) [
      | inl d ↦ let r = whole_reads cs (simp (d, one-add) at h) in (simp d r.0, (digit_small c d, r.1))
      | inr d ↦ fraction_reads (c ∷ cs) (simp d at h)
    ]

unsigned_reads : (bs : List ℕ) → unsigned_hours bs ≡ true → Reads 0 bs
unsigned_reads [] h = absurd (false≢true h)
unsigned_reads (c ∷ cs) h =
    let p = and_parts (ltb 0 (prefix_len is_ascii_digit (c ∷ cs))) (fraction (drop (prefix_len is_ascii_digit (c ∷ cs)) (c ∷ cs))) h in
    elim (cases_Bool (is_ascii_digit c)) [
      | inl d ↦ let r = whole_reads cs (simp (d, one-add) at p.1) in (simp d r.0, (digit_small c d, r.1))
      | inr d ↦ absurd (false≢true (simp d at p.0))
    ]

first_digit : (c : ℕ) (cs : List ℕ) → unsigned_hours (c ∷ cs) ≡ true → is_ascii_digit c ≡ true
first_digit c cs h =
    elim (cases_Bool (is_ascii_digit c)) [ inl d ↦ d | inr d ↦ absurd (false≢true (simp d at h)) ]

no_plus : (c : ℕ) → is_ascii_digit c ≡ true → eqb c 43 ≡ false
no_plus c h = grind (arith, nat_tests)

hours_read : (bs : List ℕ) → hours_form bs ≡ true → (is_float_text bs ≡ true) × AllByRecursion (λ b. b < 128) bs
hours_read [] h = absurd (false≢true h)
hours_read (c ∷ cs) h =
    elim (cases_Bool (eqb c 45)) [
      | inl m ↦ let e : c ≡ 45 = eqb-true c 45 m in let r = unsigned_reads cs (simp m at h) in (simp (e, r.0), (omega arith, r.1))
      | inr m ↦
          let u : unsigned_hours (c ∷ cs) ≡ true = simp m at h in
          let r = unsigned_reads (c ∷ cs) u in
          let p = no_plus c (first_digit c cs u) in
          let e : without_sign (c ∷ cs) ≡ c ∷ cs = simp (p, m) in
          let other : Bool = is_infinity_text (without_sign (c ∷ cs)) || is_nan_text (without_sign (c ∷ cs)) in
          (or_left (completes_number 0 (without_sign (c ∷ cs))) other (ap (completes_number 0) e ∙ r.0), r.1)
    ]

pub hours_text : (bs : List ℕ) → hours_form bs ≡ true → IsUtf8 bs
hours_text bs h = IsUtf8-from_ascii bs (IsAscii-from_all bs (hours_read bs h).1)

pub hours_parsed : (bs text : List ℕ) (ok some : Bool) → text ≡ bs → hours_form bs ≡ true → ok ≡ is_float_text text → some ≡ ok → some ≡ hours_form bs
hours_parsed bs text ok some e h reads same = same ∙ reads ∙ ap is_float_text e ∙ (hours_read bs h).0 ∙ sym h
