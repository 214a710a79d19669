-- The enabled list of a machine that has ended, and of one that goes on.
use Rattle.std.proofs.Common.{◌≡◌, ℕ, Bool, true, false, List, [], ◌∷◌, ◌++◌, length, filter, ap, sym, subst, ◌∙◌, refl}
use Rattle.event_machine.specs.declared.Action.{Action}
use Rattle.event_machine.specs.declared.Action.TheVariants.{End}
use Rattle.event_machine.specs.Applying.{actions_below}
use Rattle.syn_event.specs.Numbering.{Numbering}
use Rattle.task_model.specs.TaskOps.{task_ops}
use Rattle.task_model.specs.Machine.{Tasks, enabled_of}
use Rattle.task_machine.specs.Table.{can, applies_in, seen_in, whole}

-- nothing passes a test that always fails
pub filter_none : {A : Type 0} (p : A → Bool) (xs : List A) → ((x : A) → p x ≡ false) → filter p xs ≡ []
filter_none p [] h = refl
filter_none p (x ∷ xs) h = rw (h x) (filter_none p xs h)

-- where the program has ended, nothing applies
pub enabled_of-ended : (numbers : Numbering) (tasks : Tasks) (line : List ℕ) (ended : Bool) → ended ≡ true → enabled_of (whole numbers tasks line ended) ≡ []
enabled_of-ended numbers tasks line ended e =
    subst (λ b. enabled_of (whole numbers tasks line b) ≡ []) (sym e)
    (filter_none (can (whole numbers tasks line true)) (actions_below task_ops (seen_in tasks line) (length tasks) ++ End ∷ []) (λ x. refl))

-- where it has not, the list is that of the conditions
pub enabled_of-open : (numbers : Numbering) (tasks : Tasks) (line : List ℕ) (ended : Bool) → ended ≡ false →
    enabled_of (whole numbers tasks line ended) ≡ filter (applies_in numbers tasks line) (actions_below task_ops (seen_in tasks line) (length tasks) ++ End ∷ [])
enabled_of-open numbers tasks line ended e =
    ap (λ b. enabled_of (whole numbers tasks line b)) e

-- what was listed onto a cleared list
pub listed_onto : (p : Action → Bool) (old new xs : List Action) → old ≡ [] → new ≡ old ++ filter p xs → new ≡ filter p xs
listed_onto p old new xs e f = f ∙ ap (λ ys. ys ++ filter p xs) e
