-- Where a pair of numbers is parted.
use Rattle.std.proofs.Common.{◌≡◌, ℕ, ◌+◌, ◌-◌, Bool, true, false, cond, nat_lt, List, length, take, drop, Some, None, Option, position, refl, ap, ◌∙◌, arith}
use Rattle.std.proofs.lemmas.List.{take_rest}
use Rattle.std.specs.List.{prefix_len}
use Rattle.lines.specs.Numbers.{decimals_of, is_slash, next, no_slash, pair_of}

-- the numbers before and after the slash that was found
abbrev Parted : List ℕ → Option ℕ → Option (ℕ × ℕ)
Parted bs found = next found (λ s. decimals_of (take s bs) (drop (s + 1) bs))

next_where : {X Y : Type 0} (b : Bool) (x : X) (f : X → Option Y) → next (cond b (Some x) None) f ≡ cond b (f x) None
next_where true x f = refl
next_where false x f = refl

pub pair_is : (bs : List ℕ) (found : Option ℕ) → found ≡ position is_slash bs → Parted bs found ≡ pair_of bs
pair_is bs found e =
    ap (Parted bs) e ∙ next_where (nat_lt (prefix_len no_slash bs) (length bs)) (prefix_len no_slash bs) (λ s. decimals_of (take s bs) (drop (s + 1) bs))

-- the two as the code cuts them out
pub pair_cut : (bs : List ℕ) (s : ℕ) → decimals_of (take (s - 0) bs) (take (length bs - (s + 1)) (drop (s + 1) bs)) ≡ Parted bs (Some s)
pair_cut bs s =
    let z : s - 0 ≡ s = omega arith in
    ap (decimals_of (take (s - 0) bs)) (take_rest bs (s + 1)) ∙ ap (λ k. decimals_of (take k bs) (drop (s + 1) bs)) z
