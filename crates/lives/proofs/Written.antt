-- What the words hold while an archive is written.
use Rattle.std.proofs.Common.{◌≡◌, ℕ, ◌+◌, ◌-◌, ◌*◌, ◌<◌, true, leb, List, [], ◌∷◌, ◌++◌, map, length, get_or, take, drop, set, sym, refl, ap, ◌∙◌, append_assoc, arith}
use Rattle.std.proofs.lemmas.Grind.{common_steps}
use borrow.Rule.Slice.PartMut.{put_mid}
use Rattle.std.specs.List.{flat_map}
use Rattle.std.proofs.lemmas.List.{length-map, length-set, length-take-le, take_at, drop_at, drop-drop, drop_more, drop-set-lt, set_at, take_all}
use Rattle.lives.specs.declared.types.Place.{Place}
use Rattle.lives.specs.Archive.{word_of, check_of, place_words, archive_of, archive_length}
use Rattle.lives.specs.Lives.{PlainPlace, plain}

abbrev pub front : ℕ → List Place → List ℕ
front m ps = word_of 1 1 ∷ word_of 2 m ∷ flat_map place_words (map plain ps)

pub length_words : (ls : List PlainPlace) → length (flat_map place_words ls) ≡ 4 * length ls
length_words [] = refl
length_words (l ∷ ls) = let h = length_words ls in omega arith

pub length_front : (m : ℕ) (ps : List Place) → length (front m ps) ≡ 2 + 4 * length ps
length_front m ps = omega (arith, length_words (map plain ps), length-map ps plain)

front_more : (m : ℕ) (P : List Place) (i : ℕ) (x : Place) → i < length P → x ≡ get_or P i x → front m (take (i + 1) P) ≡ front m (take i P) ++ place_words (plain x)
front_more m P i x h e = grind (arith, common_steps)

pub grown : (E W r : List ℕ) (m : ℕ) (P : List Place) (i : ℕ) (x : Place) → i < length P → x ≡ get_or P i x → r ≡ place_words (plain x)
    → W ≡ front m (take i P) ++ drop (2 + 4 * i) E
    → put_mid (2 + 4 * i) (2 + 4 * i + 4 - (2 + 4 * i)) W r ≡ front m (take (i + 1) P) ++ drop (2 + 4 * (i + 1)) E
grown E W r m P i x h e q w =
    let k = 2 + 4 * i in
    let F = front m (take i P) in
    let n : length F ≡ k = length_front m (take i P) ∙ ap (λ (z : ℕ). 2 + 4 * z) (length-take-le i P (omega arith)) in
    let t : take k W ≡ F = ap (take k) w ∙ take_at F (drop k E) k n in
    let d : drop k W ≡ drop k E = ap (drop k) w ∙ drop_at F (drop k E) k n in
    let four : k + 4 - k ≡ 4 = omega arith in
    let next : k + 4 ≡ 2 + 4 * (i + 1) = omega arith in
    ap (λ (z : ℕ). put_mid k z W r) four
    ∙ ap (λ (z : List ℕ). z ++ (r ++ drop 4 (drop k W))) t
    ∙ ap (λ (z : List ℕ). F ++ (r ++ drop 4 z)) d
    ∙ ap (λ (z : List ℕ). F ++ (r ++ z)) (drop-drop 4 k E ∙ ap (λ (z : ℕ). drop z E) next)
    ∙ sym (append_assoc F r (drop (2 + 4 * (i + 1)) E))
    ∙ ap (λ (z : List ℕ). (F ++ z) ++ drop (2 + 4 * (i + 1)) E) q
    ∙ ap (λ (z : List ℕ). z ++ drop (2 + 4 * (i + 1)) E) (sym (front_more m P i x h e))

-- the words before the last, once all lives are written
pub covered : (E W : List ℕ) (m : ℕ) (P : List Place) → W ≡ front m P ++ drop (2 + 4 * length P) E → take (2 + 4 * length P) W ≡ front m P
covered E W m P w = ap (take (2 + 4 * length P)) w ∙ take_at (front m P) (drop (2 + 4 * length P) E) (2 + 4 * length P) (length_front m P)

pub closed : (E W : List ℕ) (m : ℕ) (P : List Place) (v : ℕ) → 2 + 4 * length P < length E → W ≡ front m P ++ drop (2 + 4 * length P) E
    → set W (2 + 4 * length P) v ≡ (front m P ++ v ∷ []) ++ drop (2 + 4 * length P + 1) E
closed E W m P v h w =
    let e = 2 + 4 * length P in
    let F = front m P in
    ap (λ (z : List ℕ). set z e v) (w ∙ ap (λ (z : List ℕ). F ++ z) (drop_more E e 0 h))
    ∙ set_at F (get_or E e 0) (drop (e + 1) E) v e (length_front m P)
    ∙ sym (append_assoc F (v ∷ []) (drop (e + 1) E))

-- the last word, and what lies past it
pub finished : (W0 W : List ℕ) (a b : ℕ) (P : List Place) (i v : ℕ) → 2 + 4 * length P < length W0 → i ≡ length P
    → W ≡ front (length P) (take i P) ++ drop (2 + 4 * i) (set (set W0 0 a) 1 b)
    → v ≡ check_of (take (2 + 4 * length P - 0) W)
    → set W (2 + 4 * length P) v ≡ archive_of (map plain P) ++ drop (2 + 4 * length P + 1) W0
finished W0 W a b P i v h q w c =
    let m = length P in
    let e = 2 + 4 * m in
    let E = set (set W0 0 a) 1 b in
    let long : e < length E = omega (arith, length-set (set W0 0 a) 1 b, length-set W0 0 a) in
    let at : W ≡ front m P ++ drop e E = w ∙ ap (λ (z : ℕ). front m (take z P) ++ drop (2 + 4 * z) E) q ∙ ap (λ (z : List Place). front m z ++ drop e E) (take_all m P (omega arith)) in
    let zero_off : e - 0 ≡ e = omega arith in
    let v_is : v ≡ check_of (front m P) = c ∙ ap (λ (z : ℕ). check_of (take z W)) zero_off ∙ ap check_of (covered E W m P at) in
    let past : drop (e + 1) E ≡ drop (e + 1) W0 = drop-set-lt (e + 1) (set W0 0 a) 1 b (omega arith) ∙ drop-set-lt (e + 1) W0 0 a (omega arith) in
    closed E W m P v long at
    ∙ ap (λ (z : List ℕ). (front m P ++ v ∷ []) ++ z) past
    ∙ ap (λ (z : ℕ). (front m P ++ z ∷ []) ++ drop (e + 1) W0) v_is
    ∙ ap (λ (z : ℕ). (front z P ++ check_of (front z P) ∷ []) ++ drop (e + 1) W0) (sym (length-map P plain))

-- ---- whether the words suffice
pub room_enough : (P : List Place) (ws : List ℕ) → 2 + 4 * length P < length ws → leb (archive_length (map plain P)) (length ws) ≡ true
room_enough P ws h = grind (arith, common_steps)
