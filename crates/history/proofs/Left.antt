-- One call more of a list of calls.
use Rattle.std.proofs.Common.{◌≡◌, ℕ, ◌+◌, ◌<◌, List, map, length, get_or, drop, sym, ap, ◌∙◌}
use Rattle.std.proofs.lemmas.List.{at_drop_more}
use Rattle.lives.specs.Studies.{Held}
use Rattle.history.specs.declared.calls.Call.{Call}
use Rattle.history.specs.Calls.{plain_call}
use Rattle.history.specs.Runs.{call_after, calls_after}

pub calls_again : (h h' : Held) (x : Held) (cs : List Call) (i : ℕ) (c : Call) → i < length cs → h' ≡ call_after h (plain_call (get_or cs i c))
    → calls_after h (map plain_call (drop i cs)) ≡ x → calls_after h' (map plain_call (drop (i + 1) cs)) ≡ x
calls_again h h' x cs i c l e inv =
    ap (λ (k : Held). calls_after k (map plain_call (drop (i + 1) cs))) e
    ∙ sym (at_drop_more (λ (ds : List Call). calls_after h (map plain_call ds)) cs i c l)
    ∙ inv
