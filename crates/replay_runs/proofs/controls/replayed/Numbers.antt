-- The replay text of a legal program as it starts, by the numbers that the rewriting gives it.
use Rattle.std.proofs.Common.{◌≡◌, suc, ◌+◌, ℤ, List, length, ap, sym, ◌∙◌, length-append, arith}
use Rattle.event_machine.specs.declared.Event.{Event}
use Rattle.ada_tree.specs.PlainProgram.{PProgram}
use Rattle.ada_static_rules.specs.Refusals.{types_in}
use Rattle.syn_event.specs.Numbering.{Numbering}
use Rattle.task_model.specs.Tasks.{Task}
use Rattle.task_model.specs.Machine.{ProgramWithInputs}
use Rattle.task_laws.proofs.invariants.Beginning.{length_first}
use Rattle.run_laws.specs.imitation.Shown.{Opened}
use Rattle.normal_laws.specs.runs.runs.Laws.{opened}
use Rattle.normal_laws.specs.runs.forms.Normalisable.{numbers_of}
use Rattle.normal_laws.specs.existence.Laws.{IsLegalOriginal}
use Rattle.replay_model.specs.ReplayNumbers.{numbers_replayed}
use Rattle.replay_structure.specs.legal.Laws.{text_for}
use Rattle.replay_structure.proofs.legal.Legal.{legal_replay_has_numbers}
use Rattle.replay_runs.specs.starts.Laws.{form_in}
use Rattle.replay_runs.specs.controls.Laws.{control_number}
use Rattle.replay_runs.specs.controls.meanings.Settings.{form_setup, form_program}
use Rattle.replay_runs.specs.controls.replayed.Replaying.{starting}

-- the text of a program and a sequence with these inputs
abbrev pub text_setup : PProgram → List Event → List (List ℤ) → ProgramWithInputs
text_setup p events inputs = record { program = text_for p events; types = types_in (text_for p events); inputs = inputs }

-- the numbers that the rewriting gives it
abbrev pub text_numbers : PProgram → Numbering
text_numbers p = numbers_replayed (form_in p)

-- the text as it starts by these numbers
abbrev pub text_opened : PProgram → List Event → List (List ℤ) → Opened Task
text_opened p events inputs = opened (text_setup p events inputs) (text_numbers p)

-- ---- its own numbers

-- The numbers that the text of a legal program has by itself are those that the rewriting gives it.
pub text-has-numbers : (p : PProgram) (events : List Event) → IsLegalOriginal p → numbers_of (text_for p events) ≡ text_numbers p
text-has-numbers p events h = legal_replay_has_numbers p events h

-- So it starts by its own numbers as by those.
pub text-starts-so : (p : PProgram) (events : List Event) (inputs : List (List ℤ)) → IsLegalOriginal p → starting (text_for p events) inputs ≡ text_opened p events inputs
text-starts-so p events inputs h = ap (λ n. opened (text_setup p events inputs) n) (text-has-numbers p events h)

-- ---- how many tasks there are

-- the normal form has those in front of the controller
pub form-tasks : (p : PProgram) (inputs : List (List ℤ)) → (form_program p inputs).size ≡ control_number p
form-tasks p inputs = length_first (form_setup p inputs) (form_in p).numbers (length (form_in p).numbers.tasks)

-- as many as the text has in its numbers
pub text-tasks : (p : PProgram) → length (text_numbers p).tasks ≡ suc (suc (control_number p))
text-tasks p = length-append (form_in p).numbers.tasks _ ∙ (let e : control_number p + 2 ≡ suc (suc (control_number p)) = omega arith in e)

-- the text has two more than the normal form
pub text-size : (p : PProgram) (events : List Event) (inputs : List (List ℤ)) → (text_opened p events inputs).program.size ≡ suc (suc (form_program p inputs).size)
text-size p events inputs = length_first (text_setup p events inputs) (text_numbers p) (length (text_numbers p).tasks) ∙ text-tasks p ∙ ap (λ n. suc (suc n)) (sym (form-tasks p inputs))
