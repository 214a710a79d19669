-- One turn of a run: the picked action applies, and its line is written.
use Rattle.std.proofs.Common.{◌≡◌, ℕ, zero, suc, ◌+◌, ◌<◌, ◌%◌, Bool, true, false, List, [], ◌∷◌, length, filter, slice_index_or, ap, sym, subst, ◌∙◌, refl, arith, Option, None, Ok, Err, cond, ◌++◌}
use Rattle.std.proofs.Math.Nat.{mod-lt}
use Rattle.std.specs.Prelude.{option_to_list}
use Rattle.ded_io.specs.Counts.{Rose}
use Rattle.ded_io.specs.Written.{Wrote, Began, appended}
use Rattle.event_machine.specs.declared.Action.{Action}
use Rattle.event_machine.specs.declared.Action.TheVariants.{End}
use Rattle.event_machine.specs.declared.Event.{Event}
use Rattle.syn_event.specs.Numbering.{Numbering}
use Rattle.event_machine.specs.Applying.{actions_below}
use Rattle.task_model.specs.TaskOps.{task_ops}
use Rattle.task_model.specs.Machine.{MachineState, enabled_of, after, event_of}
use Rattle.task_machine.specs.Table.{can, seen_in}
use Rattle.task_model.specs.declared.picked_runs.report.RunEnd.{RunEnd}
use Rattle.interp.specs.declared.report.RunError.TheVariants.{Sink}
use Rattle.task_model.specs.picked_runs.Lines.{lines_of}
use Rattle.task_model.specs.picked_runs.Picked.{picked_action, halted}
use Rattle.interp.specs.inner.Chosen.{IsBroken, IsPicked}

-- what a write that went well has written
pub written : {A : Type 0} (E : Type 0) (x : A) (told told' : Option (List ℕ)) (bytes : List ℕ) → Wrote {E = E} (Ok x) told told' bytes → told' ≡ appended told bytes
unfolding Wrote
written E x told told' bytes h = h

-- what a write that failed has written
pub begun : {E : Type 0} (A : Type 0) (e : E) (told told' : Option (List ℕ)) (bytes : List ℕ) → Wrote {A = A} (Err e) told told' bytes → Began told told' bytes
unfolding Wrote
begun A e told told' bytes h = h

-- the line of the event that a step answered
pub line_written : {A : Type 0} (E : Type 0) (numbers : Numbering) (m : MachineState) (action : Action) (event : Option Event) (x : A) (told told' : Option (List ℕ)) →
    event ≡ event_of m action → Wrote {E = E} (Ok x) told told' (lines_of numbers (option_to_list event)) →
    told' ≡ appended told (lines_of numbers (option_to_list (event_of m action)))
line_written E numbers m action event x told told' is done =
    written E x told told' _ done ∙ ap (λ e. appended told (lines_of numbers (option_to_list e))) is

-- the machine made the action, and its line could not be written whole
pub line_broken : {E : Type 0} (A : Type 0) (numbers : Numbering) (m m' : MachineState) (action : Action) (event : Option Event) (e : E) (told told' : Option (List ℕ)) (faults faults' : ℕ) →
    event ≡ event_of m action → m' ≡ after m action → Wrote {A = A} (Err e) told told' (lines_of numbers (option_to_list event)) → Rose faults faults' →
    IsBroken numbers m action m' told told' faults faults' Sink
line_broken A numbers m m' action event e told told' faults faults' is made failed rose =
    (made, subst (λ o. Began told told' (lines_of numbers (option_to_list o))) is (begun A e told told' _ failed), rose)

-- an element of those that pass a test passes it
passes_cond : {A : Type 0} (p : A → Bool) (b : Bool) (x : A) (ys : List A) (k : ℕ) (d : A) → p x ≡ b → k < length (cond b (x ∷ ys) ys) →
    ((j : ℕ) → j < length ys → p (slice_index_or ys j d) ≡ true) → p (slice_index_or (cond b (x ∷ ys) ys) k d) ≡ true
passes_cond p true x ys zero d e h rest = e
passes_cond p true x ys (suc k) d e h rest = rest k (omega arith)
passes_cond p false x ys k d e h rest = rest k h

pub passes_filter : {A : Type 0} (p : A → Bool) (xs : List A) (k : ℕ) (d : A) → k < length (filter p xs) → p (slice_index_or (filter p xs) k d) ≡ true
passes_filter p [] k d h = absurd (omega arith)
passes_filter p (x ∷ xs) k d h = passes_cond p (p x) x (filter p xs) k d refl h (λ j hj. passes_filter p xs j d hj)

-- the picked action applies
pub picked_applies : (m : MachineState) (word : ℕ) → 0 < length (enabled_of m) → can m (picked_action m word) ≡ true
picked_applies m word some =
    passes_filter (can m) (actions_below task_ops (seen_in m.state.seats m.state.line) (length m.state.seats) ++ End ∷ []) (word % length (enabled_of m)) End
    (mod-lt word some)

-- the action that was picked from the list
pub is_picked : {C : Type 0} (word : C → ℕ) (next : C → C) (m : MachineState) (old new : C) (xs : List Action) (action : Action) (end : Option RunEnd) → end ≡ halted m → end ≡ None → xs ≡ enabled_of m → 0 < length xs →
    action ≡ slice_index_or xs (word old % length xs) End → new ≡ next old → IsPicked word next m old new action
is_picked word next m old new xs action end is none listed some picked chooser =
    let it : action ≡ picked_action m (word old) = picked ∙ ap (λ ys. slice_index_or ys (word old % length ys) End) listed in
    record {
      goes_on = sym is ∙ none;
      picked = it;
      applies = ap (λ a. can m a) it ∙ picked_applies m (word old) (subst (λ ys. 0 < length ys) listed some);
      chooser = chooser;
    }
