-- A list written from the start of a memory, one by one.
use Rattle.std.proofs.Common.{◌≡◌, ℕ, ◌+◌, ◌<◌, ◌≤◌, List, [], ◌∷◌, ◌++◌, map, length, get_or, take, drop, set, sym, ap, ◌∙◌, append_assoc, arith}
use Rattle.std.proofs.lemmas.List.{drop_more, set_at, map_more, length-map, length-take-le}
use Rattle.pooling.specs.Pooling.{written}

-- one more of xs, seen by f
pub written_more : {X Y : Type 0} (f : X → Y) (xs : List X) (before : List Y) (i : ℕ) (x : X) (y : Y) → i < length xs → length xs ≤ length before → x ≡ get_or xs i x → y ≡ f x → set (written (map f (take i xs)) before) i y ≡ written (map f (take (i + 1) xs)) before
written_more f xs before i x y within room read is =
    let ys = map f (take i xs) in
    let long : length ys ≡ i = omega (arith, length-map (take i xs) f, length-take-le i xs (omega arith)) in
    let longer : i + 1 ≡ length (map f (take (i + 1) xs)) = omega (arith, length-map (take (i + 1) xs) f, length-take-le (i + 1) xs (omega arith)) in
    let more = ap (λ z. ys ++ (z ∷ [])) (is ∙ ap f read) ∙ sym (map_more f xs i x within) in
    ap (λ zs. set (ys ++ zs) i y) (ap (λ (k : ℕ). drop k before) long ∙ drop_more before i y (omega arith))
    ∙ set_at ys (get_or before i y) (drop (i + 1) before) y i long ∙ sym (append_assoc ys (y ∷ []) (drop (i + 1) before))
    ∙ (λ t. more t ++ drop (longer t) before)
