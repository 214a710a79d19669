-- Feasible events are not judged infeasible.
use Rattle.std.proofs.Common.{◌≡◌, ℕ, false, List, [], ◌∷◌, ◌++◌, refl, sym, append_assoc, ◌∙◌}
use Rattle.event_machine.specs.declared.Event.{Event}
use Rattle.syn_event.specs.Numbering.{Numbering}
use Rattle.task_model.specs.Machine.{ProgramWithInputs, opening_of, rules_of}
use Rattle.task_machine.specs.Judging.{VerdictIs}
use Rattle.task_machine.specs.Views.{IsFeasible}
use Rattle.task_machine.specs.declared.verdict.Verdict.{Verdict}
use Rattle.task_machine.specs.declared.verdict.Verdict.TheVariants.{Feasible, Infeasible, Unsettled}
use Rattle.feasible.specs.Keeping.{is_infeasible}
use Rattle.debug_collect.proofs.loads.Front.{front_feasible}

pub not_infeasible : (setup : ProgramWithInputs) (numbers : Numbering) (bound : ℕ) (events : List Event) → IsFeasible setup numbers events → (v : Verdict) → VerdictIs setup numbers bound events v → is_infeasible v ≡ false
not_infeasible setup numbers bound events feasible Feasible h = refl
not_infeasible setup numbers bound events feasible (Infeasible at why) h =
    absurd (h.infeasible (front_feasible (rules_of numbers) (opening_of setup numbers).state events (h.before ++ h.event ∷ []) h.reached.rest
    (h.reached.splits ∙ sym (append_assoc h.before (h.event ∷ []) h.reached.rest)) feasible))
not_infeasible setup numbers bound events feasible (Unsettled at task) h = refl
