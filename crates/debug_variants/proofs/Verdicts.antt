-- What is found of events, by whether their verdict is feasible.
use Rattle.std.proofs.Common.{◌≡◌, refl, ℕ, List, true, false, sym, ap, ◌∙◌, subst, true≢false}
use Rattle.event_machine.specs.declared.Event.{Event}
use Rattle.syn_event.specs.Numbering.{Numbering}
use Rattle.task_model.specs.Machine.{ProgramWithInputs}
use Rattle.task_machine.specs.declared.verdict.Verdict.{Verdict}
use Rattle.task_machine.specs.declared.verdict.Verdict.TheVariants.{Feasible, Infeasible, Unsettled}
use Rattle.task_machine.specs.Judging.{VerdictIs}
use Rattle.task_machine.proofs.OneVerdict.{verdict_unique}
use Rattle.feasible.specs.Keeping.{is_feasible}

the_feasible : (v : Verdict) → is_feasible v ≡ true → v ≡ Feasible
the_feasible Feasible h = refl
the_feasible (Infeasible at why) h = absurd (true≢false (sym h))
the_feasible (Unsettled at t) h = absurd (true≢false (sym h))

module _ (setup : ProgramWithInputs) (numbers : Numbering) (bound : ℕ) (events : List Event) (v : Verdict) (is : VerdictIs setup numbers bound events v) where
  pub feasible_found : is_feasible v ≡ true → VerdictIs setup numbers bound events Feasible
  feasible_found well = subst (VerdictIs setup numbers bound events) (the_feasible v well) is

  pub other_found : is_feasible v ≡ false → VerdictIs setup numbers bound events Feasible → ⊥
  other_found other well = true≢false (sym (ap is_feasible (verdict_unique setup numbers bound events v Feasible is well)) ∙ other)
