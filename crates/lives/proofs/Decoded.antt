-- What `decode` answers on each way through the check of an archive.
use Rattle.std.proofs.Common.{◌≡◌, ℕ, ◌+◌, ◌-◌, ◌*◌, ◌≤◌, Bool, true, false, cond, List, ◌∷◌, length, get_or, take, Some, None, Ok, Err, Option, Result, sym, refl, ap, arith}
use Rattle.std.proofs.lemmas.Grind.{common_steps}
use Rattle.std.proofs.lemmas.Bool.{eq-eqb, ne_eqb, cond-true, cond-false}
use Rattle.units.specs.declared.refusals.Layer.TheVariants.{Frame, Life as InLife}
use Rattle.units.specs.Refusals.{Refused, refused_at}
use Rattle.lives.specs.Archive.{word_of, kind_of, check_of}
use Rattle.lives.specs.Lives.{PlainPlace}
use Rattle.lives.specs.Studies.{most_places}
use Rattle.lives.specs.Decode.{places_from, join_place, error_of, counted, frame_of, check_right, checked, decode_lives, decode}

-- ---- answers that are not refused
pub cond_ok : {A E : Type 0} (b : Bool) (x : Result A E) (f : E) (l : A) → cond b x (Err f) ≡ Ok l → (b ≡ true) × (x ≡ Ok l)
cond_ok true x f l e = (refl, e)
cond_ok false x f l e = absurd (cc)

pub ok_is : {A E : Type 0} (x y : A) → ◌≡◌ {A = Result A E} (Ok x) (Ok y) → x ≡ y
ok_is x y e = cc

some_is : (x y : ℕ) → ◌≡◌ {A = Option ℕ} (Some x) (Some y) → x ≡ y
some_is x y e = cc

pub not_none : (x : ℕ) → ◌≡◌ {A = Option ℕ} (Some x) None → ⊥
not_none x e = cc

-- ---- the frame
pub record Framed (ws : List ℕ) (n : ℕ) : Type 0 where
  pub count : n ≡ counted ws
  pub few : n ≤ most_places
  pub long : length ws ≡ 3 + 4 * n
  pub form : get_or ws 0 0 ≡ word_of 1 1
  pub kind : kind_of (get_or ws 1 0) ≡ 2

pub framed : (ws : List ℕ) (n : ℕ) → frame_of ws ≡ Ok n → Framed ws n
framed ws n e = grind (arith, common_steps)

pub frame_is : (ws : List ℕ) (n : ℕ) → Framed ws n → frame_of ws ≡ Ok n
frame_is ws n f = grind (arith, common_steps)

-- ---- the whole
pub decoded : (ws : List ℕ) (f : Result ℕ Refused) → frame_of ws ≡ f → decode ws ≡ decode_lives ws f
unfolding decode
decoded ws f e = ap (decode_lives ws) e

-- what was decoded had a frame
pub decoded_frame : (ws : List ℕ) (ps : List PlainPlace) → decode ws ≡ Ok ps → (n : ℕ) × (frame_of ws ≡ Ok n) × (checked ws (places_from n 2 ws) ≡ Ok ps)
unfolding decode
decoded_frame ws ps e = grind (arith, common_steps)

pub checked_bad : (ws : List ℕ) (r : Result (List PlainPlace) ℕ) (p : ℕ) → Some p ≡ error_of r → checked ws r ≡ Err (refused_at 7 InLife p)
checked_bad ws (Ok ps) p e = absurd (not_none p e)
checked_bad ws (Err q) p e = ap (λ z. Err (refused_at 7 InLife z)) (some_is q p (sym e))

pub lives_of : (r : Result (List PlainPlace) ℕ) → None ≡ error_of r → (ps : List PlainPlace) × (r ≡ Ok ps)
lives_of (Ok ps) e = (ps, refl)
lives_of (Err p) e = absurd (not_none p (sym e))

pub checked_off : (ws : List ℕ) (r : Result (List PlainPlace) ℕ) → None ≡ error_of r → (check_of (take (length ws - 1) ws) ≡ get_or ws (length ws - 1) 0 → ⊥) → checked ws r ≡ Err (refused_at 8 Frame (length ws - 1))
checked_off ws (Ok ps) e h = cond-false (check_right ws) _ _ (ne_eqb _ _ h)
checked_off ws (Err q) e h = absurd (not_none q (sym e))

pub checked_ok : (ws : List ℕ) (ps : List PlainPlace) → check_of (take (length ws - 1) ws) ≡ get_or ws (length ws - 1) 0 → checked ws (Ok ps) ≡ Ok ps
checked_ok ws ps h = cond-true (check_right ws) _ _ (eq-eqb _ _ h)

-- ---- as many lives as were asked for
pub join_ok : (i : ℕ) (a : Result PlainPlace ℕ) (r : Result (List PlainPlace) ℕ) (ps : List PlainPlace) → join_place i a r ≡ Ok ps → (p : PlainPlace) × (qs : List PlainPlace) × (a ≡ Ok p) × (r ≡ Ok qs) × (ps ≡ p ∷ qs)
join_ok i (Err o) r ps e = absurd (cc)
join_ok i (Ok p) (Err q) ps e = absurd (cc)
join_ok i (Ok p) (Ok qs) ps e = (p, qs, refl, refl, (cc))
