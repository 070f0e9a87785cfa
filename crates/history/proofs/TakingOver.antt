-- Taking over a sealed study reaches what loading its archive reaches.
use Rattle.std.proofs.Common.{◌≡◌, ℕ, Bool, true, false, cond, ◌&&◌, eqb, leb, List, [], ◌∷◌, ◌++◌, map, length, drop, Ok, refl, sym, ap, ◌∙◌, subst}
use Rattle.lives.specs.declared.types.Place.{Place}
use Rattle.lives.specs.Archive.{archive_of, archive_length}
use Rattle.lives.specs.Decode.{room_after, load_after}
use Rattle.lives.specs.Lives.{plain}
use Rattle.lives.specs.RoundTrip.{ReadsBack, take_over_after}
use Rattle.lives.specs.Studies.{Held, room}
use Rattle.history.specs.Calls.{PlainCall, load}
use Rattle.history.specs.Runs.{Reached, by_load, TakingOverIsLoading}

-- of three tests, the last may be asked first
last_first : {X : Type 0} → (a b c : Bool) (x y : X) → cond (a && b && c) x y ≡ cond c (cond a (cond b x y) y) y
last_first true true true x y = refl
last_first true true false x y = refl
last_first true false true x y = refl
last_first true false false x y = refl
last_first false b true x y = refl
last_first false b false x y = refl

-- loading or not
loaded_where : (c : Bool) (n : ℕ) (cs : List PlainCall) (h : Held) (ws : List ℕ) → Reached n cs h → Reached n (cond c (cs ++ load ws ∷ []) cs) (cond c (load_after h ws) h)
loaded_where true n cs h ws r = by_load ws r
loaded_where false n cs h ws r = r

pub taking_over_is_loading : ReadsBack → TakingOverIsLoading
taking_over_is_loading reads_back n cs h ps ws few r =
    let qs = map plain ps in
    let long = leb (archive_length qs) (length ws) in
    let empty = eqb (length h.places) 0 in
    let taken : Held = record { places = qs; spare = drop (length qs) h.spare } in
    let after : take_over_after h qs ws ≡ cond long (load_after h (archive_of qs)) h =
    last_first empty (leb (length qs) (room h)) long taken h ∙ ap (λ z. cond long (cond empty (room_after h z) h) h) (sym (reads_back ps few)) in
    subst (Reached n (cond long (cs ++ load (archive_of qs) ∷ []) cs)) (sym after) (loaded_where long n cs h (archive_of qs) r)
