-- What the accepts and the selective waits of a legal program are like (9.5, 9.7.1; this project's rule). So no task of it stands at one for which the
-- machine has no answer.
use Rattle.std.specs.Prelude.{◌≡◌, ℕ, ℤ, ◌≤◌, List, []}
use Rattle.ada_tree.specs.TypeTable.{TypeTable}
use Rattle.ada_tree.specs.Every.{alts_count}
use Rattle.ada_tree.specs.PlainStmt.{PHead, PStmt, SAccept, SWait, alternative, AAccept, ADelay, ATerminate, PAlts, no_alt, alt_then}
use Rattle.ada_tree.specs.PlainProgram.{PProgram}
use Rattle.ada_tree.specs.WellPlaced.{IsWellPlaced}
use Rattle.syn_event.specs.declared.numbering.Mode.{Mode}
use Rattle.syn_event.specs.Numbering.{Numbering}
use Rattle.syn_event.specs.Legal.{Legal}
use Rattle.task_model.specs.Setting.{Setting, entry_of, entry_parameters, parameters_of}
use Rattle.task_model.specs.Tasks.{Task}
use Rattle.task_model.specs.Starting.{unit_of, started}
use Rattle.task_laws.specs.statements.Each.{Loops, InBody, HoldsOf}
use Rattle.task_laws.specs.statements.Laws.{StaysSo}
use Rattle.normal_model.specs.Waits.{head_of}
use Rattle.normal_laws.specs.runs.forms.Choosing.{choosing}
use Rattle.normal_laws.specs.runs.forms.Normalisable.{numbers_of, setting_for}
use Rattle.normal_laws.specs.existence.Laws.{IsLegalOriginal}
use Rattle.task_laws.specs.legal.literals.Colours.{coloured}

-- An accept of the task t has the formals of its entry: their names, modes and subtypes (9.5).
abbrev pub HasFormals : Setting → ℕ → PHead → Type 0
HasFormals g t head = parameters_of g.types head.formals ≡ entry_parameters g (entry_of g.numbers t head.entry.name)

-- so have the accepts among alternatives
abbrev pub HaveFormals : Setting → ℕ → PAlts → Type 0
HaveFormals g t no_alt = Unit {0}
HaveFormals g t (alt_then (alternative guard (AAccept accept stmts) s) rest) = HasFormals g t (head_of accept) × HaveFormals g t rest
HaveFormals g t (alt_then (alternative guard (ADelay duration stmts) s) rest) = HaveFormals g t rest
HaveFormals g t (alt_then (alternative guard ATerminate s) rest) = HaveFormals g t rest

-- An accept statement of the task t has the formals of its entry. So has each accept alternative of a selective wait, which has at most 33 alternatives.
-- Nothing is asked of other statements.
abbrev pub CanAccept : Setting → ℕ → Loops → PStmt → Type 0
CanAccept g t loops (SAccept accept s) = HasFormals g t (head_of accept)
CanAccept g t loops (SWait alts otherwise s) = HaveFormals g t alts × (alts_count alts ≤ 33)
CanAccept g t loops _ = Unit {0}

-- So it is of each statement of main and of each task of a program that is legal in any mode, and well placed, as each one that is read.
abbrev pub LegalBodiesCanAccept : Type 0
LegalBodiesCanAccept =
    (p : PProgram) (types : TypeTable) (numbers : Numbering) (mode : Mode) → Legal p types numbers mode → IsWellPlaced p → (t : ℕ) →
    InBody (CanAccept (setting_for p) t) [] (unit_of p (numbers_of p) t).body

-- So it is as the task starts,
abbrev pub LegalTasksCanAccept : Type 0
LegalTasksCanAccept =
    (p : PProgram) (types : TypeTable) (numbers : Numbering) (mode : Mode) → Legal p types numbers mode → IsWellPlaced p → (inputs : List (List ℤ)) (t : ℕ) →
    HoldsOf (CanAccept (setting_for p) t) (started (setting_for p) inputs t)

-- and after each step and each event.
abbrev pub CanAcceptStays : Type 0
CanAcceptStays = (g : Setting) (t : ℕ) (l : Task) → HoldsOf (CanAccept g t) l → StaysSo (CanAccept g t) l

-- Two programs are such ones: one in which a variable chooses a member of an array of tasks, and one with an array of tasks whose index is an enumeration.
abbrev pub IsMet : Type 0
IsMet = IsLegalOriginal choosing × IsLegalOriginal coloured
