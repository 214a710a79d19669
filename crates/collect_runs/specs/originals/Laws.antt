-- The collecting text of a legal program collects what the program itself does (this project's rule).
use Rattle.std.specs.Prelude.{◌≡◌, ℕ, ℤ, List, length, None}
use Rattle.ada_tree.specs.PlainProgram.{PProgram}
use Rattle.task_model.specs.Tasks.{Task}
use Rattle.run_laws.specs.imitation.Shown.{Opened, ShowSame}
use Rattle.run_laws.specs.collecting.Notes.{Lines}
use Rattle.normal_laws.specs.runs.forms.Normalisable.{numbers_of}
use Rattle.normal_laws.specs.structure.placed.Example.{passing}
use Rattle.normal_laws.specs.runs.runs.Example as family
use Rattle.normal_laws.specs.existence.Laws.{IsLegalOriginal}
use Rattle.replay_runs.specs.controls.replayed.Replaying.{starting, AgreeBelow}
use Rattle.replay_runs.specs.controls.replayed.Laws.{starting_form}
use Rattle.collect_model.specs.FirstAbort.{first_abort}
use Rattle.collect_model.specs.Lines.{header_text}
use Rattle.collect_runs.specs.lines.Pieces.{lines_with}
use Rattle.collect_runs.specs.starts.Texts.{text_for, recorder_number}
use Rattle.collect_runs.specs.originals.Recording.{CollectsRuns}

-- What collects a program collects each program of as many tasks that shows the same.
abbrev pub CollectsCarryOver : Type 0
CollectsCarryOver =
    (lines : Lines) (one two other : Opened Task) (recorder : ℕ) → one.program.size ≡ two.program.size → ShowSame one two → CollectsRuns lines two other recorder → CollectsRuns lines one other recorder

-- the lines of a sequence file of the program, by its own names and numbers
abbrev pub lines_for : PProgram → Lines
lines_for p = lines_with (header_text p.names (numbers_of p))

-- The text q collects the program p: with all inputs, where each task of p has the same input in q.
abbrev pub CollectsProgram : PProgram → PProgram → Type 0
CollectsProgram p q = (inputs others : List (List ℤ)) → AgreeBelow (length (numbers_of p).tasks) inputs others → CollectsRuns (lines_for p) (starting p inputs) (starting q others) (recorder_number p)

-- What collects the normal form of a legal program, whatever the inputs, collects the program.
abbrev pub LegalFormsCarryOver : Type 0
LegalFormsCarryOver =
    (p q : PProgram) → IsLegalOriginal p → ((inputs : List (List ℤ)) → CollectsRuns (lines_for p) (starting_form p inputs) (starting q inputs) (recorder_number p)) → CollectsProgram p q

-- The collecting text of a legal program without an abort statement collects the program.
abbrev pub LegalTextsCollectPrograms : Type 0
LegalTextsCollectPrograms = (p : PProgram) → IsLegalOriginal p → first_abort p ≡ None → CollectsProgram p (text_for p)

-- it is a legal program without an abort statement, and its text collects it
abbrev pub IsMetBy : PProgram → Type 0
IsMetBy p = IsLegalOriginal p × (first_abort p ≡ None) × CollectsProgram p (text_for p)

-- Nothing of this is empty: a program with a task and a call is so, and one that calls a family's entry and accepts it in a selective wait.
abbrev pub IsMet : Type 0
IsMet = IsMetBy passing × IsMetBy family.example
