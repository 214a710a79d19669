-- A run that was cut off: some of its actions were made, and which of its lines are written.
use Rattle.std.specs.Prelude.{◌≡◌, ℕ, ◌+◌, ◌≤◌, List, ◌++◌, Option}
use Rattle.ded_io.specs.Counts.{Rose}
use Rattle.ded_io.specs.Written.{Began, appended}
use Rattle.syn_event.specs.Numbering.{Numbering}
use Rattle.task_model.specs.Machine.{MachineState}
use Rattle.interp.specs.declared.report.RunError.{RunError}
use Rattle.interp.specs.declared.report.RunError.TheVariants.{Memory, Sink}
use Rattle.task_model.specs.picked_runs.Picked.{picked}
use Rattle.task_model.specs.picked_runs.Lines.{lines_of}

-- the lines of the first k actions of the picked run
abbrev pub lines_to : {C : Type 0} → (C → ℕ) → (C → C) → Numbering → MachineState → C → ℕ → List ℕ
lines_to word next numbers m c k = lines_of numbers (picked word next k m c).events

-- A write of the line of the last action failed: a front of that line is written behind the lines of all the actions before it.
pub record IsCutAtLine {C : Type 0} (word : C → ℕ) (next : C → C) (numbers : Numbering) (m : MachineState) (c : C) (actions : ℕ) (told told_now : Option (List ℕ)) : Type 0 where
  pub earlier : ℕ
  pub last : actions ≡ earlier + 1
  pub front : List ℕ
  pub rest : List ℕ
  pub lines : lines_to word next numbers m c actions ≡ lines_to word next numbers m c earlier ++ (front ++ rest)
  pub written : told_now ≡ appended told (lines_to word next numbers m c earlier ++ front)

-- Without memory the lines of all actions that were made are written, and no write failed; else the last of them is not written whole.
abbrev pub HasLinesFor : {C : Type 0} → (C → ℕ) → (C → C) → Numbering → MachineState → C → ℕ → Option (List ℕ) → Option (List ℕ) → ℕ → ℕ → RunError → Type 0
HasLinesFor word next numbers m c actions told told_now faults faults_now Memory = (told_now ≡ appended told (lines_to word next numbers m c actions)) × (faults_now ≡ faults)
HasLinesFor word next numbers m c actions told told_now faults faults_now Sink = IsCutAtLine word next numbers m c actions told told_now × Rose faults faults_now

-- The machine stands behind the first k actions of the picked run, the lines of these are written as far as the error says, and so is a front of all that run's lines.
pub record IsCutOff {C : Type 0} (word : C → ℕ) (next : C → C) (n : ℕ) (numbers : Numbering) (m : MachineState) (c : C) (cut : MachineState) (told told_now : Option (List ℕ)) (faults faults_now : ℕ) (error : RunError) : Type 0 where
  pub actions : ℕ
  pub within : actions ≤ n
  pub made : (picked word next actions m c).made ≡ actions
  pub machine : cut ≡ (picked word next actions m c).machine
  pub own_lines : HasLinesFor word next numbers m c actions told told_now faults faults_now error
  pub lines : Began told told_now (lines_of numbers (picked word next n m c).events)
