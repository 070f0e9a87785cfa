-- Lists laid into a memory.
use Rattle.std.proofs.Common.{◌≡◌, ℕ, ◌+◌, ◌-◌, ◌<◌, ◌≤◌, cond, eqb, false, List, [], ◌∷◌, ◌++◌, map, length, get_or, take, drop, set, sym, refl, ap, ◌∙◌, ap₂, arith}
use Rattle.std.proofs.Math.Seq.{drop-append-add}
use Rattle.std.proofs.lemmas.List.{append_assoc, drop-drop, drop_more, length-append, length-map, length_push, length-take-le, map_more, set-append_right, set_at, take-append-drop, take_at}
use Rattle.std.proofs.lemmas.Bool.{cond_both, cond-false}
use Rattle.pooling.specs.Pooling.{laid_at, written}

module _ {X : Type 0} where
  pub drop_later : (a b : ℕ) (xs ys : List X) → a ≤ b → drop a xs ≡ drop a ys → drop b xs ≡ drop b ys
  drop_later a b xs ys h e =
      ap (λ (k : ℕ). drop k xs) parts ∙ sym (drop-drop (b - a) a xs) ∙ ap (drop (b - a)) e ∙ drop-drop (b - a) a ys ∙ ap (λ (k : ℕ). drop k ys) (sym parts)
    where
      parts : b ≡ a + (b - a)
      parts = omega arith

  pub laid_none : (at : ℕ) (ms : List X) → ms ≡ laid_at at [] ms
  laid_none at ms = sym (take-append-drop at ms) ∙ ap (λ (k : ℕ). take at ms ++ drop k ms) none
    where
      none : at ≡ at + 0
      none = omega arith

  -- one more element written behind a list that is laid into a memory
  laid_push : (at : ℕ) (ys ms : List X) (y : X) → at + length ys < length ms → set (laid_at at ys ms) (at + length ys) y ≡ laid_at at (ys ++ (y ∷ [])) ms
  laid_push at ys ms y room =
      set-append_right (take at ms) (ys ++ drop (at + length ys) ms) at (at + length ys) y (length-take-le at ms (omega arith)) (omega arith)
      ∙ ap (λ (k : ℕ). take at ms ++ set (ys ++ drop (at + length ys) ms) k y) behind
      ∙ ap (λ zs. take at ms ++ set (ys ++ zs) (length ys) y) (drop_more ms (at + length ys) y room)
      ∙ ap (λ zs. take at ms ++ zs) (set_at ys (get_or ms (at + length ys) y) (drop (at + length ys + 1) ms) y (length ys) refl ∙ sym (append_assoc ys (y ∷ []) (drop (at + length ys + 1) ms)))
      ∙ ap (λ (k : ℕ). take at ms ++ ((ys ++ (y ∷ [])) ++ drop k ms)) next
    where
      behind : at + length ys - at ≡ length ys
      behind = omega arith

      next : at + length ys + 1 ≡ at + length (ys ++ (y ∷ []))
      next = omega (arith, length_push ys y)

  -- a list laid behind another
  laid_twice : (at : ℕ) (xs ys ms : List X) → at + length xs ≤ length ms → laid_at (at + length xs) ys (laid_at at xs ms) ≡ laid_at at (xs ++ ys) ms
  laid_twice at xs ys ms room =
      ap₂ (λ (us vs : List X). us ++ (ys ++ vs)) front behind
      ∙ append_assoc (take at ms) xs (ys ++ drop (at + length (xs ++ ys)) ms)
      ∙ ap (λ zs. take at ms ++ zs) (sym (append_assoc xs ys (drop (at + length (xs ++ ys)) ms)))
    where
      long : length (take at ms ++ xs) ≡ at + length xs
      long = length-append (take at ms) xs ∙ ap (λ (k : ℕ). k + length xs) (length-take-le at ms (omega arith))

      split : laid_at at xs ms ≡ (take at ms ++ xs) ++ drop (at + length xs) ms
      split = sym (append_assoc (take at ms) xs (drop (at + length xs) ms))

      front : take (at + length xs) (laid_at at xs ms) ≡ take at ms ++ xs
      front = ap (take (at + length xs)) split ∙ take_at (take at ms ++ xs) (drop (at + length xs) ms) (at + length xs) long

      sum : at + length xs + length ys ≡ at + length (xs ++ ys)
      sum = omega (arith, length-append xs ys)

      behind : drop (at + length xs + length ys) (laid_at at xs ms) ≡ drop (at + length (xs ++ ys)) ms
      behind =
          ap₂ (λ (k : ℕ) (zs : List X). drop (k + length ys) zs) (sym long) split
          ∙ drop-append-add (take at ms ++ xs) (drop (at + length xs) ms) (length ys)
          ∙ drop-drop (length ys) (at + length xs) ms ∙ ap (λ (k : ℕ). drop k ms) sum

  laid_first : (ys ms : List X) → laid_at 0 ys ms ≡ written ys ms
  laid_first ys ms = ap (λ (k : ℕ). ys ++ drop k ms) none
    where
      none : 0 + length ys ≡ length ys
      none = omega arith

-- three lists in a row, from the start of a memory
pub laid_thrice : {X : Type 0} (xs ys zs before first second third : List X) (a b : ℕ) → a ≡ length xs → b ≡ a + length ys → b ≤ length before
    → first ≡ laid_at 0 xs before → second ≡ laid_at a ys first → third ≡ laid_at b zs second → third ≡ written (xs ++ (ys ++ zs)) before
laid_thrice xs ys zs before first second third a b one two room p q r =
    r ∙ ap₂ (λ (k : ℕ) ms. laid_at k zs ms) past (q ∙ ap₂ (λ (k : ℕ) ms. laid_at k ys ms) start p ∙ laid_twice 0 xs ys before (omega arith))
    ∙ laid_twice 0 (xs ++ ys) zs before (omega (arith, past)) ∙ laid_first ((xs ++ ys) ++ zs) before
    ∙ ap (λ us. written us before) (append_assoc xs ys zs)
  where
    start : a ≡ 0 + length xs
    start = omega arith

    past : b ≡ 0 + length (xs ++ ys)
    past = omega (arith, length-append xs ys)

-- an element laid into a memory unless two numbers are equal
pub one_at_most : {X : Type 0} (a b : ℕ) (y : X) → length (cond (eqb a b) [] (y ∷ [])) ≤ 1
one_at_most a b y = cond_both (eqb a b) [] (y ∷ []) (λ ys. length ys ≤ 1) (λ _. omega arith) (λ _. omega arith)

pub one_laid : {X : Type 0} (a b at : ℕ) (y : X) (ms : List X) → eqb a b ≡ false → at < length ms → set ms at y ≡ laid_at at (cond (eqb a b) [] (y ∷ [])) ms
one_laid a b at y ms apart room =
    ap₂ (λ zs (k : ℕ). set zs k y) (laid_none at ms) none ∙ laid_push at [] ms y (omega arith)
    ∙ ap (λ ys. laid_at at ys ms) (sym (cond-false (eqb a b) [] (y ∷ []) apart))
  where
    none : at ≡ at + 0
    none = omega arith

-- one more of xs, seen by f, laid into a memory that was `before`
pub laid_more : {X Y : Type 0} (f : X → Y) (xs : List X) (before ms : List Y) (at i : ℕ) (x : X) (y : Y) → i < length xs → at + i < length before → x ≡ get_or xs i x → y ≡ f x
    → ms ≡ laid_at at (map f (take i xs)) before → set ms (at + i) y ≡ laid_at at (map f (take (i + 1) xs)) before
laid_more f xs before ms at i x y within room read is done =
    ap₂ (λ (zs : List _) (k : ℕ). set zs (at + k) y) done (sym long)
    ∙ laid_push at (map f (take i xs)) before y (rw long room)
    ∙ ap (λ zs. laid_at at zs before) (ap (λ z. map f (take i xs) ++ (z ∷ [])) (is ∙ ap f read) ∙ sym (map_more f xs i x within))
  where
    long : length (map f (take i xs)) ≡ i
    long = length-map (take i xs) f ∙ length-take-le i xs (omega arith)
