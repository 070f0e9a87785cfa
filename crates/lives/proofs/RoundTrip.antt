-- What is written reads back, and nothing else is read.
use Rattle.std.proofs.Common.{◌≡◌, ℕ, zero, suc, ◌+◌, ◌-◌, ◌*◌, ◌^◌, ◌<◌, ◌≤◌, leb, List, [], ◌∷◌, ◌++◌, map, length, get_or, take, drop, IfOk, Ok, Err, Result, sym, refl, ap, ◌∙◌, append_assoc, add-zero, arith, length-append}
use Rattle.std.proofs.lemmas.Grind.{common_steps}
use Rattle.std.specs.List.{flat_map}
use Rattle.std.proofs.lemmas.List.{length-map, take_at, get_or_at, get_or-drop, drop-drop, drop_more, drop_all}
use Rattle.std.proofs.lemmas.Bool.{eqb-true, cond-true}
use Rattle.units.specs.Refusals.{refused, answer}
use Rattle.units.specs.declared.refusals.Refusal.{Refusal}
use Rattle.lives.specs.declared.types.Place.{Place}
use Rattle.lives.specs.Archive.{word_of, kind_of, payload_of, check_of, status_mark, place_words, body, archive_of, archive_length, write_answer, write_after}
use Rattle.lives.specs.Decode.{place_from, places_from, join_place, counted, check_right, checked, decode}
use Rattle.lives.specs.Lives.{PlainPlace, plain}
use Rattle.lives.specs.Studies.{most_places}
use Rattle.lives.specs.RoundTrip.{ReadsBack, OnlyWritten}
use Rattle.lives.proofs.Decoded.{cond_ok, ok_is, framed, frame_is, decoded, decoded_frame, checked_ok, join_ok}
use Rattle.lives.proofs.OneByOne.{length_read}
use Rattle.lives.proofs.Written.{length_words}

-- ---- a word has its kind and its payload
pub kind_is : (k p : ℕ) → p < 2 ^ 28 → kind_of (word_of k p) ≡ k
kind_is k p h = omega arith

pub payload_is : (k p : ℕ) → p < 2 ^ 28 → payload_of (word_of k p) ≡ p
payload_is k p h = omega arith

pub word_back : (k w : ℕ) → kind_of w ≡ k → word_of k (payload_of w) ≡ w
word_back k w h = omega arith

-- ---- one life, forth
pub place_forth : (p : Place) → place_from (word_of 3 p.life.serial) (word_of 4 p.life.entry.0) (word_of 5 p.life.exit.0) (word_of 6 (status_mark p.life.status p.struck)) ≡ Ok (plain p)
place_forth p = grind (arith, common_steps)

-- ---- all lives, forth
pub places_forth : (ps : List Place) (i : ℕ) (ws post : List ℕ) → drop i ws ≡ flat_map place_words (map plain ps) ++ post → places_from (length ps) i ws ≡ Ok (map plain ps)
places_forth [] i ws post e = refl
places_forth (p ∷ ps) i ws post e =
    let a : get_or ws i 0 ≡ word_of 3 p.life.serial = ap (λ (z : ℕ). get_or ws z 0) (sym (add-zero i)) ∙ sym (get_or-drop i ws 0 0) ∙ ap (λ (z : List ℕ). get_or z 0 0) e in
    let b : get_or ws (i + 1) 0 ≡ word_of 4 p.life.entry.0 = sym (get_or-drop i ws 1 0) ∙ ap (λ (z : List ℕ). get_or z 1 0) e in
    let x : get_or ws (i + 2) 0 ≡ word_of 5 p.life.exit.0 = sym (get_or-drop i ws 2 0) ∙ ap (λ (z : List ℕ). get_or z 2 0) e in
    let k : get_or ws (i + 3) 0 ≡ word_of 6 (status_mark p.life.status p.struck) = sym (get_or-drop i ws 3 0) ∙ ap (λ (z : List ℕ). get_or z 3 0) e in
    let one : place_from (get_or ws i 0) (get_or ws (i + 1) 0) (get_or ws (i + 2) 0) (get_or ws (i + 3) 0) ≡ Ok (plain p) = rw (a, b, x, k) (place_forth p) in
    let rest = places_forth ps (i + 4) ws post (sym (drop-drop 4 i ws) ∙ ap (drop 4) e) in
    ap (λ (z : Result PlainPlace ℕ). join_place i z (places_from (length ps) (i + 4) ws)) one ∙ ap (join_place i (Ok (plain p))) rest

-- ---- the whole, forth
length_body : (ls : List PlainPlace) → length (body ls) ≡ 2 + 4 * length ls
length_body ls = omega (arith, length_words ls)

length_archive : (ls : List PlainPlace) → length (archive_of ls) ≡ 3 + 4 * length ls
length_archive ls = omega (arith, length-append (body ls) (check_of (body ls) ∷ []), length_body ls)

pub reads_back : ReadsBack
reads_back ps h =
    let ls = map plain ps in
    let ws = archive_of ls in
    let n : length ls ≡ length ps = length-map ps plain in
    let v = check_of (body ls) in
    let m : counted ws ≡ length ls = payload_is 2 (length ls) (omega arith) in
    let long = length_archive ls in
    let last : length (body ls) ≡ length ws - 1 = omega (arith, length_body ls) in
    let front : take (length ws - 1) ws ≡ body ls = take_at (body ls) (v ∷ []) (length ws - 1) last in
    let check : check_of (take (length ws - 1) ws) ≡ get_or ws (length ws - 1) 0 = ap check_of front ∙ sym (get_or_at (body ls) v [] 0 (length ws - 1) last) in
    let frame = frame_is ws (length ps) (record { count = sym (m ∙ n); few = h; long = omega arith; form = refl; kind = kind_is 2 (length ls) (omega arith) }) in
    decoded ws (Ok (length ps)) frame ∙ ap (checked ws) (places_forth ps 2 ws (v ∷ []) refl) ∙ checked_ok ws ls check

-- ---- one life, back
pub place_back : (a b x k : ℕ) (l : PlainPlace) → place_from a b x k ≡ Ok l → a ∷ b ∷ x ∷ k ∷ [] ≡ place_words l
place_back a b x k l e = grind (arith, common_steps)

-- ---- all lives, back
drop_four : (ws : List ℕ) (i : ℕ) → i + 4 ≤ length ws → drop i ws ≡ get_or ws i 0 ∷ get_or ws (i + 1) 0 ∷ get_or ws (i + 2) 0 ∷ get_or ws (i + 3) 0 ∷ drop (i + 4) ws
drop_four ws i h = grind (arith, common_steps)

pub places_back : (m i : ℕ) (ws : List ℕ) (ls : List PlainPlace) → i + 4 * m ≤ length ws → places_from m i ws ≡ Ok ls → drop i ws ≡ flat_map place_words ls ++ drop (i + 4 * m) ws
places_back zero i ws [] h e = ap (λ (z : ℕ). drop z ws) (omega arith)
places_back zero i ws (l ∷ ls) h e = absurd (cc)
places_back (suc m) i ws ls h e =
    let j = join_ok i (place_from (get_or ws i 0) (get_or ws (i + 1) 0) (get_or ws (i + 2) 0) (get_or ws (i + 3) 0)) (places_from m (i + 4) ws) ls e in
    let one = place_back (get_or ws i 0) (get_or ws (i + 1) 0) (get_or ws (i + 2) 0) (get_or ws (i + 3) 0) j.0 j.2 in
    let rest = places_back m (i + 4) ws j.1 (omega arith) j.3 in
    let end : i + 4 + 4 * m ≡ i + 4 * suc m = omega arith in
    drop_four ws i (omega arith)
    ∙ ap (λ (z : List ℕ). z ++ drop (i + 4) ws) one
    ∙ ap (λ (z : List ℕ). place_words j.0 ++ z) (rest ∙ ap (λ (z : ℕ). flat_map place_words j.1 ++ drop z ws) end)
    ∙ sym (append_assoc (place_words j.0) (flat_map place_words j.1) (drop (i + 4 * suc m) ws))
    ∙ ap (λ (z : List PlainPlace). flat_map place_words z ++ drop (i + 4 * suc m) ws) (sym j.4)

-- ---- the whole, back
checked_back : (ws : List ℕ) (r : Result (List PlainPlace) ℕ) (ls : List PlainPlace) → checked ws r ≡ Ok ls → (r ≡ Ok ls) × (check_of (take (length ws - 1) ws) ≡ get_or ws (length ws - 1) 0)
checked_back ws (Err p) ls e = absurd (cc)
checked_back ws (Ok ms) ls e =
    let c = cond_ok (check_right ws) (Ok ms) _ ls e in
    (ap Ok (ok_is ms ls c.1), eqb-true _ _ c.0)

two_heads : (ws : List ℕ) → 2 ≤ length ws → ws ≡ get_or ws 0 0 ∷ get_or ws 1 0 ∷ drop 2 ws
two_heads [] h = absurd (omega arith)
two_heads (x ∷ []) h = absurd (omega arith)
two_heads (x ∷ y ∷ ws) h = refl

pub only_written : OnlyWritten
only_written ws ps e =
    let d = decoded_frame ws ps e in
    let m = d.0 in
    let f = framed ws m d.1 in
    let c = checked_back ws (places_from m 2 ws) ps d.2 in
    let many : length ps ≡ m = length_read m 2 ws ps c.0 in
    let n = 2 + 4 * m in
    let long : length ws ≡ 1 + n = omega (arith, f.long) in
    let last : length ws - 1 ≡ n = omega arith in
    let w1 : get_or ws 1 0 ≡ word_of 2 (length ps) = sym (word_back 2 (get_or ws 1 0) f.kind) ∙ ap (word_of 2) (sym f.count ∙ sym many) in
    let tail : drop n ws ≡ get_or ws n 0 ∷ [] = drop_more ws n 0 (omega arith) ∙ ap (λ z. get_or ws n 0 ∷ z) (drop_all (n + 1) ws (omega arith)) in
    let all : ws ≡ body ps ++ get_or ws n 0 ∷ [] =
    two_heads ws (omega arith) ∙ ap (λ z. z ∷ get_or ws 1 0 ∷ drop 2 ws) f.form ∙ ap (λ z. word_of 1 1 ∷ z ∷ drop 2 ws) w1
    ∙ ap (λ z. word_of 1 1 ∷ word_of 2 (length ps) ∷ z) (places_back m 2 ws ps (omega arith) c.0 ∙ ap (λ z. flat_map place_words ps ++ z) tail) in
    let size : length (body ps) ≡ n = length_body ps ∙ ap (λ z. 2 + 4 * z) many in
    let front : take n ws ≡ body ps = ap (take n) all ∙ take_at (body ps) (get_or ws n 0 ∷ []) n size in
    let v : get_or ws n 0 ≡ check_of (body ps) = sym (ap (λ z. get_or ws z 0) last) ∙ sym c.1 ∙ ap (λ z. check_of (take z ws)) last ∙ ap check_of front in
    all ∙ ap (λ z. body ps ++ z ∷ []) v

-- ---- what writing leaves, as loading reads it
pub written_read : (ps : List Place) (r : Result ℕ Refusal) (old new : List ℕ) → length ps ≤ most_places → answer r ≡ write_answer (map plain ps) old → new ≡ write_after (map plain ps) old → IfOk r (λ n. decode (take n new) ≡ Ok (map plain ps))
written_read ps (Err e) old new h a w = tt
written_read ps (Ok n) old new h a w =
    let qs = map plain ps in
    let c = cond_ok (leb (archive_length qs) (length old)) (Ok (archive_length qs)) (refused 13) n (sym a) in
    let size : archive_length qs ≡ n = ok_is (archive_length qs) n c.1 in
    let whole : new ≡ archive_of qs ++ drop (archive_length qs) old = w ∙ cond-true _ _ _ c.0 in
    ap (λ x. decode (take n x)) whole
    ∙ ap decode (take_at (archive_of qs) (drop (archive_length qs) old) n (length_archive qs ∙ size))
    ∙ reads_back ps h
