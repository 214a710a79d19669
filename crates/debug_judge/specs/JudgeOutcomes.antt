-- What the judging of a sequence comes to: the text of its verdict with the status of that, or why the bytes stand for none (this project's rules).
use Rattle.std.specs.Prelude.{◌≡◌, ℕ, ◌-◌, List, take, All, IfSome, ⊤, ◌⊎◌}
use Rattle.event_machine.specs.declared.Event.{Event}
use Rattle.syn_event.specs.Numbering.{Numbering}
use Rattle.seq_file.specs.Lists.{ListReads}
use Rattle.task_model.specs.Machine.{ProgramWithInputs}
use Rattle.task_machine.specs.declared.verdict.Verdict.{Verdict}
use Rattle.task_machine.specs.declared.verdict.Verdict.TheVariants.{Feasible, Infeasible, Unsettled}
use Rattle.task_machine.specs.Conditions.{needed_of}
use Rattle.task_machine.specs.Judging.{VerdictIs}
use Rattle.task_machine.specs.Views.{View, ViewIs}
use Rattle.divergence.specs.JudgeText.{judge_text, event_at_place}
use Rattle.debug_judge.specs.order_law.Laws.{IsJudgedByOrder}
use Rattle.debug_outcome.specs.Outcomes.{Outcome, writes}
use Rattle.debug_sequence.specs.Sequences.{ReadsAs, IsRefusedSequence}

-- the status of a verdict
abbrev pub verdict_status : Verdict → ℕ
verdict_status Feasible = 0
verdict_status (Infeasible at why) = 4
verdict_status (Unsettled at t) = 5

-- each task that the event needs is seen so after these events
abbrev pub AreSeen : ProgramWithInputs → Numbering → List Event → (ℕ → View) → Event → Type 0
AreSeen setup numbers before views e = All (λ t. ViewIs setup numbers before t (views t)) (needed_of numbers e)

-- where a verdict refuses an event, the tasks that this event needs are seen so before it
abbrev pub ShowsWhy : ProgramWithInputs → Numbering → List Event → (ℕ → View) → Verdict → Type 0
ShowsWhy setup numbers events views Feasible = ⊤
ShowsWhy setup numbers events views (Infeasible at why) = IfSome (event_at_place events (Infeasible at why)) (AreSeen setup numbers (take (at - 1) events) views)
ShowsWhy setup numbers events views (Unsettled at t) = ⊤

-- The events of a program have this verdict, and the outcome is the text of it with its status.
pub record IsVerdictText (setup : ProgramWithInputs) (numbers : Numbering) (bound : ℕ) (events : List Event) (o : Outcome) : Type 0 where
  pub verdict : Verdict
  pub verdict_is : VerdictIs setup numbers bound events verdict
  pub views : ℕ → View
  pub seen : ShowsWhy setup numbers events views verdict
  pub is : o ≡ writes (judge_text setup.program.names numbers bound views events verdict) (verdict_status verdict)

-- The events have another verdict than feasible, and the outcome is the text of it.
pub record IsOtherVerdictText (setup : ProgramWithInputs) (numbers : Numbering) (bound : ℕ) (events : List Event) (o : Outcome) : Type 0 where
  pub other : VerdictIs setup numbers bound events Feasible → ⊥
  pub judged : IsVerdictText setup numbers bound events o

-- The bytes stand for a sequence of the program, and the outcome is the text of its verdict. Where they are lists by tasks, that is feasible exactly where
-- each sequence with these lists is judged feasible, and exactly where one is.
pub record IsVerdictOfSequence (setup : ProgramWithInputs) (numbers : Numbering) (lines : List ℕ) (bound : ℕ) (o : Outcome) : Type 0 where
  pub events : List Event
  pub reads : ReadsAs lines numbers setup.program.names events
  pub orders : (lists : List (List Event)) → ListReads lines numbers setup.program.names lists → IsJudgedByOrder setup numbers lists events bound
  pub judged : IsVerdictText setup numbers bound events o

-- The bytes of a sequence call for this outcome: the text of its verdict, or why they stand for no sequence.
abbrev pub SequenceMeans : ProgramWithInputs → Numbering → List ℕ → ℕ → Outcome → Type 0
SequenceMeans setup numbers lines bound o = IsVerdictOfSequence setup numbers lines bound o ⊎ IsRefusedSequence setup.program.names numbers lines o
