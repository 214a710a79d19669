-- Old names alone stand in the statements of the normal form of a legal program, and each exit there leaves a loop.
use Rattle.std.proofs.Common.{ℕ, List}
use Rattle.event_machine.specs.declared.Event.{Event}
use Rattle.ada_tree.specs.PlainProgram.{PProgram}
use Rattle.syn_event.specs.declared.numbering.Mode.TheVariants.{Any}
use Rattle.task_model.specs.Starting.{unit_of}
use Rattle.task_laws.proofs.statements.Legal.{legal_exits_leave as exits-leave}
use Rattle.task_laws.proofs.statements.Carried.{exits_start}
use Rattle.task_laws.specs.translation.OldTexts.{only_names, OldBody}
use Rattle.normal_laws.specs.runs.forms.Normalisable.{made_for}
use Rattle.normal_laws.proofs.legality.Legal.{normal_is_legal}
use Rattle.normal_laws.specs.existence.Laws.{IsLegalOriginal}
use Rattle.replay_structure.proofs.legal.names.form_names.Owned.{names-old}
use Rattle.replay_runs.specs.starts.Laws.{form_in}
use Rattle.replay_runs.specs.controls.translated.Laws.{form_and_text, LegalNamesAreOld, LegalExitsLeaveAtStart}
use Rattle.replay_runs.specs.starts.Formals.{form_setting, text_setting}
use Rattle.replay_structure.specs.scopes.Names.{old_name}
use Rattle.replay_runs.proofs.controls.translated.OldBodies.{only-old}

pub bodies-old : (p : PProgram) (events : List Event) → IsLegalOriginal p → (t : ℕ) → OldBody (only_names (form_and_text p events)) (unit_of (made_for p) (form_in p).numbers t).body
bodies-old p events h t = only-old p h (text_setting p events) (old_name (form_in p).program) (names-old p h) t

pub legal_names_are_old : LegalNamesAreOld
legal_names_are_old p events h t = bodies-old p events h t

pub legal_exits_leave_at_start : LegalExitsLeaveAtStart
legal_exits_leave_at_start p h inputs t = exits_start (form_setting p) inputs t (exits-leave (made_for p) Any (normal_is_legal p h).check_rules (form_in p).numbers t)
