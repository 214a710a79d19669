-- Shorthands for the trees of examples, and what a run of a program comes to.
use Rattle.std.specs.Prelude.{ℕ, ℤ, List}
use Rattle.ada_tree.specs.declared.naming.Span.{Span}
use Rattle.ada_tree.specs.declared.naming.Word.{Word}
use Rattle.ada_static_rules.specs.Refusals.{types_in}
use Rattle.ada_tree.specs.PlainExpr.{PExpr, EName}
use Rattle.ada_tree.specs.PlainProgram.{PProgram}
use Rattle.syn_event.specs.Numbering.{Numbering}
use Rattle.syn_event.specs.AllNumbers.{all_numbers}
use Rattle.event_machine.specs.declared.Event.{Event}
use Rattle.task_model.specs.Machine.{ProgramWithInputs, opening_of}
use Rattle.progress_law.specs.examples.Picking.{Ending, Run, outputs_of, picked}

-- a place, a word and a name
abbrev pub o : Span
o = record { start = 0; end = 0 }

abbrev pub w : ℕ → Word
w k = record { name = record { 0 = k }; span = o }

abbrev pub n : ℕ → PExpr
n k = EName record { 0 = k } o

-- what is seen of a run: its events, how many actions it made, how it ends, and what each task has written
pub record Outcome : Type 0 where
  pub events : List Event
  pub made : ℕ
  pub ending : Ending
  pub outputs : List (List ℕ)

abbrev pub seen_of : Run → Outcome
seen_of run = record { events = run.events; made = run.made; ending = run.ending; outputs = outputs_of run.machine }

abbrev pub setup_of : PProgram → List (List ℤ) → ProgramWithInputs
setup_of p inputs = record { program = p; types = types_in p; inputs = inputs }

abbrev pub numbers_in : PProgram → Numbering
numbers_in p = all_numbers (types_in p) p

-- What comes of a program on inputs as choices pick at most so many actions.
abbrev pub outcome : PProgram → List (List ℤ) → List ℕ → ℕ → Outcome
outcome p inputs choices turns = seen_of (picked turns (opening_of (setup_of p inputs) (numbers_in p)) choices)

-- an outcome with these events, so many actions, this end and these outputs
abbrev pub gives : List Event → ℕ → Ending → List (List ℕ) → Outcome
gives events made ending outputs = record { events = events; made = made; ending = ending; outputs = outputs }
