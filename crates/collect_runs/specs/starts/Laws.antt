-- What a legal program gives to the law of collecting (this project's rule).
use Rattle.std.specs.Prelude.{◌≡◌, ℕ, ℤ, pos, Bool, List, [], Some, None}
use Rattle.ada_tree.specs.PlainStmt.{PStmt, SAbort}
use Rattle.ada_tree.specs.PlainProgram.{PProgram}
use Rattle.ada_tree.specs.PlainDecl.{OPlain}
use Rattle.ada_static_rules.specs.Scope.{integer_kind}
use Rattle.ada_static_rules.specs.Refusals.{types_in}
use Rattle.ada_value.specs.Values.{truth_limits}
use Rattle.task_model.specs.Starting.{form_of, unit_of}
use Rattle.normal_model.specs.Ranges.{word_at, marked}
use Rattle.replay_model.specs.ReplayTree.{last_task}
use Rattle.task_laws.specs.statements.Each.{Loops, InBody}
use Rattle.normal_laws.specs.existence.Laws.{IsLegalOriginal}
use Rattle.replay_runs.specs.starts.Laws.{form_in}
use Rattle.replay_runs.specs.controls.meanings.Settings.{form_opening}
use Rattle.collect_model.specs.FirstAbort.{first_abort}
use Rattle.collect_runs.specs.recorder.Recorders.{IsRecorder}
use Rattle.collect_runs.specs.imitating.Settings.{Collecting}
use Rattle.collect_runs.specs.starts.Texts.{text_for, names_added, texts_of, recorder_of, note_number}

-- the statement is no abort statement (9.10)
abbrev pub IsNoAbort : Loops → PStmt → Type 0
IsNoAbort loops (SAbort callees s) = ⊥
IsNoAbort loops _ = Unit {0}

-- no abort statement stands in the normal form
abbrev pub HasNoAborts : PProgram → Type 0
HasNoAborts p = (t : ℕ) → InBody IsNoAbort [] (unit_of (form_in p).program (form_in p).numbers t).body

-- None does where none stands in the program, which is legal.
abbrev pub LegalHasNoAborts : Type 0
LegalHasNoAborts = (p : PProgram) → IsLegalOriginal p → first_abort p ≡ None → HasNoAborts p

-- DED_FLAGS is in the collecting text an array of BOOLEAN with one component for each task of the normal form (3.6).
abbrev pub HasFlags : PProgram → Type 0
HasFlags p =
    form_of (types_in (text_for p)) (OPlain (marked (word_at (form_in p).program.name.span (names_added p).flags)))
    ≡ Some record { limits = truth_limits; index = Some record { kind = integer_kind; first = pos 0; last = pos (last_task (form_in p).numbers) } }

-- It is in the text of each legal program.
abbrev pub LegalHasFlags : Type 0
LegalHasFlags = (p : PProgram) → IsLegalOriginal p → HasFlags p

-- So the recorder of a legal program's collecting text is as asked.
abbrev pub LegalIsRecorder : Type 0
LegalIsRecorder = (p : PProgram) (inputs : List (List ℤ)) → IsLegalOriginal p → IsRecorder (recorder_of p inputs) (note_number p)

-- What the law of collecting asks of a normal form is known, with this recorder and with these inputs.
pub record IsCollected (p : PProgram) (kept : ℕ → Bool) (inputs : List (List ℤ)) : Type 0 where
  pub known : Collecting (texts_of p kept)
  pub recorder : known.recorder ≡ recorder_of p inputs
  pub opening : known.opening ≡ form_opening p inputs

-- So it is of each legal program without an abort statement, where its recorder is as asked.
abbrev pub LegalFormsAreCollected : Type 0
LegalFormsAreCollected =
    (p : PProgram) (kept : ℕ → Bool) (inputs : List (List ℤ)) → IsLegalOriginal p → first_abort p ≡ None → IsRecorder (recorder_of p inputs) (note_number p) → IsCollected p kept inputs
