-- How the lives of an archive are read one after another.
use Rattle.std.proofs.Common.{◌≡◌, ℕ, zero, suc, ◌+◌, ◌*◌, ◌<◌, List, [], ◌∷◌, ◌++◌, length, get_or, take, drop, Ok, Err, Result, sym, refl, ap, ◌∙◌, append_assoc, add-zero, arith, lit<}
use Rattle.std.proofs.lemmas.Grind.{common_steps}
use Rattle.std.specs.Simd.{first_chunks}
use Rattle.std.proofs.lemmas.List.{drop-drop, get_or-take, get_or-drop}
use Rattle.lives.specs.Lives.{PlainPlace}
use Rattle.lives.specs.Decode.{place_from, place_in, places_from, places_in, join_place, FramedLives, checked, decode}
use Rattle.lives.proofs.Decoded.{decoded, join_ok}

abbrev pub prefixed : List PlainPlace → Result (List PlainPlace) ℕ → Result (List PlainPlace) ℕ
prefixed ls (Ok ms) = Ok (ls ++ ms)
prefixed ls (Err p) = Err p

-- the lives from life i on
abbrev pub rest : List (List ℕ) → ℕ → Result (List PlainPlace) ℕ
rest lives i = places_in (2 + 4 * i) (drop i lives)

-- one turn of a loop over the lives
pub rest_step : (lives : List (List ℕ)) (i : ℕ) (d : List ℕ) (r : Result PlainPlace ℕ) → i < length lives → r ≡ place_in (get_or lives i d) → rest lives i ≡ join_place (2 + 4 * i) r (rest lives (i + 1))
rest_step lives i d r h e = grind (arith, common_steps)

pub prefixed_join : (ls : List PlainPlace) (i : ℕ) (l : PlainPlace) (r : Result (List PlainPlace) ℕ) → prefixed ls (join_place i (Ok l) r) ≡ prefixed (ls ++ l ∷ []) r
prefixed_join ls i l (Ok ms) = ap Ok (sym (append_assoc ls (l ∷ []) ms))
prefixed_join ls i l (Err p) = refl

-- ---- words cut into lives

in_four : (ws : List ℕ) (i j : ℕ) → j < 4 → get_or ws (i + j) 0 ≡ get_or (take 4 (drop i ws)) j 0
in_four ws i j h = sym (get_or-take 4 (drop i ws) j 0 h ∙ get_or-drop i ws j 0)

place_cut : (ws : List ℕ) (i : ℕ) → place_from (get_or ws i 0) (get_or ws (i + 1) 0) (get_or ws (i + 2) 0) (get_or ws (i + 3) 0) ≡ place_in (take 4 (drop i ws))
place_cut ws i =
    let first = ap (λ (z : ℕ). get_or ws z 0) (sym (add-zero i)) ∙ in_four ws i 0 (lit< tt) in
    let second = in_four ws i 1 (lit< tt) in
    let third = in_four ws i 2 (lit< tt) in
    let fourth = in_four ws i 3 (lit< tt) in
    λ k. place_from (first k) (second k) (third k) (fourth k)

pub places_cut : (n i : ℕ) (ws : List ℕ) → places_from n i ws ≡ places_in i (first_chunks 4 n (drop i ws))
places_cut zero i ws = refl
places_cut (suc n) i ws =
    ap (λ (z : Result PlainPlace ℕ). join_place i z (places_from n (i + 4) ws)) (place_cut ws i)
    ∙ ap (join_place i (place_in (take 4 (drop i ws)))) (places_cut n (i + 4) ws ∙ ap (λ (z : List ℕ). places_in (i + 4) (first_chunks 4 n z)) (sym (drop-drop 4 i ws)))

-- the frame's lives are read as its words are
pub decoded_lives : (ws : List ℕ) (lives : List (List ℕ)) → FramedLives ws lives → decode ws ≡ checked ws (places_in 2 lives)
decoded_lives ws lives f = decoded ws _ f.0 ∙ ap (checked ws) (places_cut (length lives) 2 ws ∙ ap (places_in 2) (sym f.1))

-- ---- as many places as lives

pub length_lives : (i : ℕ) (lives : List (List ℕ)) (ps : List PlainPlace) → places_in i lives ≡ Ok ps → length ps ≡ length lives
length_lives i [] [] e = refl
length_lives i [] (p ∷ ps) e = absurd (cc)
length_lives i (w ∷ lives) ps e =
    let j = join_ok i (place_in w) (places_in (i + 4) lives) ps e in
    ap length j.4 ∙ ap suc (length_lives (i + 4) lives j.1 j.3)

length_cut : (n : ℕ) (xs : List ℕ) → length (first_chunks 4 n xs) ≡ n
length_cut zero xs = refl
length_cut (suc n) xs = ap suc (length_cut n (drop 4 xs))

pub length_read : (m i : ℕ) (ws : List ℕ) (ps : List PlainPlace) → places_from m i ws ≡ Ok ps → length ps ≡ m
length_read m i ws ps e = length_lives i (first_chunks 4 m (drop i ws)) ps (sym (places_cut m i ws) ∙ e) ∙ length_cut m (drop i ws)
