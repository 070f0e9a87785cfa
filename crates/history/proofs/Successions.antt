-- Calls in succession: the study and the plain list agree, and no curve has a fault.
use Rattle.std.proofs.Common.{◌≡◌, ℕ, List, [], ◌∷◌, ◌++◌, length, replicate, Ok, fold, sym, refl, ap, ◌∙◌, subst, arith}
use Rattle.std.proofs.lemmas.List.{append-nil, append_assoc, length-drop, length-replicate}
use Rattle.std.proofs.lemmas.List.Sums.{fold_push}
use Rattle.pooling.proofs.Answered.{accepted}
use Rattle.lives.specs.Lives.{PlainPlace, blank_place}
use Rattle.lives.specs.Studies.{Held, opened}
use Rattle.sources.specs.Counts.{Counts, Lawful}
use Rattle.sources.specs.StudyLaws.{study_laws}
use Rattle.curves.specs.Curves.{Curve, counted_ages, curve, fit_refusal, fit_answer}
use Rattle.curves.specs.Faults.{Fault}
use Rattle.curves.specs.declared.shapes.Shape.{Shape}
use Rattle.curves.proofs.Faultless.{no_curve_has_a_fault}
use Rattle.history.specs.Calls.{PlainCall, enter, row, strike, load, listed_after, listed}
use Rattle.history.specs.Runs.{Reached, at_open, by_enter, by_row, by_strike, by_load, call_after, calls_after, laid, kept, counts_after, Stands, NoSuccessionLeadsToAFault}
use Rattle.history.proofs.Steps.{Fits-in, agrees}
use Rattle.history.proofs.Counts.{counts_unmarked}

-- ---- the calls on a study, and on the plain list

calls_agree : (m ps : List PlainPlace) (cs : List PlainCall) → Fits-in (length m) ps → (calls_after (laid m ps) cs ≡ laid m (fold (listed_after (length m)) ps cs)) × Fits-in (length m) (fold (listed_after (length m)) ps cs)
calls_agree m ps [] f = (refl, f)
calls_agree m ps (c ∷ cs) f =
    let a = agrees m ps f c in
    let rest = calls_agree m (listed_after (length m) ps c) cs a.fits in
    (ap (λ h. calls_after h cs) a.after_is ∙ rest.0, rest.1)

none_fit : (n : ℕ) → Fits-in n []
none_fit n = record { few = omega arith; bounded = tt }

-- after calls on a study opened over memory m, the first places hold the plain list, and past it the memory is as it was
pub calls_kept : (m : List PlainPlace) (cs : List PlainCall) → calls_after (opened m) cs ≡ kept m cs
unfolding listed
calls_kept m cs = (calls_agree m [] cs (none_fit (length m))).0

-- the plain list is no longer than a study of its memory, and its lives have their bounds
pub listed_fits : (n : ℕ) (cs : List PlainCall) → Fits-in n (listed n cs)
unfolding listed
listed_fits n cs =
    let over : (m : List PlainPlace) → Fits-in (length m) (listed (length m) cs) = λ m. (calls_agree m [] cs (none_fit (length m))).1 in
    subst (λ (k : ℕ). Fits-in k (listed k cs)) (length-replicate n blank_place) (over (replicate n blank_place))

-- ---- the counts

pub lawful_after : (n : ℕ) (cs : List PlainCall) → Lawful (counts_after n cs).watched (counts_after n cs).failed
lawful_after n cs =
    let f = listed_fits n cs in
    subst (λ (c : Counts). Lawful c.watched c.failed) (counts_unmarked (listed n cs)) (study_laws (listed n cs) f.bounded (omega (arith, f.few)))

-- ---- the curves

-- no curve answered for lawful counts has a fault
pub no_answer_has_a_fault : (c : Counts) → Lawful c.watched c.failed → (shape : Shape) (steps works : ℕ) (a : Curve) → fit_answer c shape steps works ≡ Ok a → Fault c shape a → ⊥
no_answer_has_a_fault c laws shape steps works a e bad =
    no_curve_has_a_fault c shape laws (subst (Fault c shape) (accepted (fit_refusal (length (counted_ages c shape)) steps works) (curve c shape) a (sym e)).1 bad)

-- ---- the law

pub kept_stands : (m : List PlainPlace) (cs : List PlainCall) → Stands (length m) cs (kept m cs)
kept_stands m cs =
    let ps = listed (length m) cs in
    let f = listed_fits (length m) cs in
    let same = counts_unmarked ps in
    record {
      places = refl;
      answers = λ c. (agrees m ps f c).answer_is;
      few = f.few;
      whole = omega (arith, length-drop (length ps) m, f.few);
      counts = same;
      lawful = lawful_after (length m) cs;
      faultless = λ shape steps works a e. no_answer_has_a_fault (counts_after (length m) cs) (lawful_after (length m) cs) shape steps works a (ap (λ (c : Counts). fit_answer c shape steps works) (sym same) ∙ e);
    }

-- what is reached by calls is held after these calls
abbrev HeldAfter : ℕ → List PlainCall → Held → Type 0
HeldAfter n cs h = (m : List PlainPlace) × (length m ≡ n) × (h ≡ calls_after (opened m) cs)

one_more : (n : ℕ) (cs : List PlainCall) (h : Held) (c : PlainCall) → HeldAfter n cs h → HeldAfter n (cs ++ c ∷ []) (call_after h c)
one_more n cs h c g = (g.0, g.1, ap (λ (k : Held). call_after k c) g.2 ∙ sym (fold_push call_after (opened g.0) cs c))

reached_is : (n : ℕ) (cs : List PlainCall) (h : Held) → Reached n cs h → HeldAfter n cs h
reached_is n _ _ (at_open m e) = (m, e, refl)
reached_is n _ _ (by_enter {cs} {h} u r) = one_more n cs h (enter u) (reached_is n cs h r)
reached_is n _ _ (by_row {cs} {h} s r) = one_more n cs h (row s) (reached_is n cs h r)
reached_is n _ _ (by_strike {cs} {h} i r) = one_more n cs h (strike i) (reached_is n cs h r)
reached_is n _ _ (by_load {cs} {h} ws r) = one_more n cs h (load ws) (reached_is n cs h r)

pub no_succession_leads_to_a_fault : NoSuccessionLeadsToAFault
no_succession_leads_to_a_fault n cs h r =
    let g = reached_is n cs h r in
    let m = g.0 in
    subst (λ (k : ℕ). Stands k cs h) g.1 (subst (Stands (length m) cs) (sym (g.2 ∙ calls_kept m cs)) (kept_stands m cs))

-- ---- what calls reach

by_call : (n : ℕ) (cs : List PlainCall) (h : Held) (c : PlainCall) → Reached n cs h → Reached n (cs ++ c ∷ []) (call_after h c)
by_call n cs h (enter u) r = by_enter u r
by_call n cs h (row s) r = by_row s r
by_call n cs h (strike i) r = by_strike i r
by_call n cs h (load ws) r = by_load ws r

-- calls on a study that was reached reach what is held after them
pub reached_after : (n : ℕ) (ds : List PlainCall) (h : Held) (cs : List PlainCall) → Reached n ds h → Reached n (ds ++ cs) (calls_after h cs)
reached_after n ds h [] r = rw append-nil r
reached_after n ds h (c ∷ cs) r = rw append_assoc at (reached_after n (ds ++ c ∷ []) (call_after h c) cs (by_call n ds h c r))
