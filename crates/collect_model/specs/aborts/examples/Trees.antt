-- Shorthands for the trees of examples, and what comes of the runs of a program whose choices are named.
use Rattle.std.specs.Prelude.{ℕ, zero, suc, ◌%◌, Bool, true, false, List, [], ◌∷◌, length, map, slice_index_or}
use Rattle.event_machine.specs.declared.Action.{Action}
use Rattle.event_machine.specs.declared.Action.TheVariants.{End}
use Rattle.ada_tree.specs.declared.naming.Span.{Span}
use Rattle.ada_tree.specs.declared.naming.Word.{Word}
use Rattle.ada_static_rules.specs.Refusals.{types_in}
use Rattle.ada_tree.specs.PlainExpr.{PExpr, EName}
use Rattle.ada_tree.specs.PlainProgram.{PProgram}
use Rattle.syn_event.specs.Numbering.{Numbering}
use Rattle.syn_event.specs.AllNumbers.{all_numbers}
use Rattle.task_model.specs.Machine.{MachineState, enabled_of, after, opening_of}
use Rattle.collect_model.specs.aborts.AbortTree.{abort_tree}
use Rattle.collect_model.specs.aborts.AbortNumbers.{abort_numbers}

-- a place, a word and a name
abbrev pub o : Span
o = record { start = 0; end = 0 }

abbrev pub w : ℕ → Word
w k = record { name = record { 0 = k }; span = o }

abbrev pub n : ℕ → PExpr
n k = EName record { 0 = k } o

-- ---- texts

abbrev pub numbers_in : PProgram → Numbering
numbers_in p = all_numbers (types_in p) p

-- the collecting text of a program, and its numbers
abbrev pub text_in : PProgram → PProgram
text_in p = abort_tree p (types_in p) (numbers_in p)

abbrev pub text_numbers_in : PProgram → Numbering
text_numbers_in p = abort_numbers p (types_in p) (numbers_in p)

-- ---- runs

-- the next choice, which is 0 past the end of the list, and those behind it
abbrev pub first_choice : List ℕ → ℕ
first_choice [] = 0
first_choice (c ∷ rest) = c

abbrev pub later_choices : List ℕ → List ℕ
later_choices [] = []
later_choices (c ∷ rest) = rest

-- the action that a choice names among those that apply, modulo their number
abbrev pub action_at : List Action → ℕ → Action
action_at actions c = slice_index_or actions (c % length actions) End

-- The machine behind at most so many actions, each the one that the next choice names; it goes on no more where the program has ended.
abbrev pub picked : ℕ → MachineState → List ℕ → MachineState
picked zero m choices = m
picked (suc k) m choices =
    elim m.state.ended [ true ↦ m | false ↦ picked k (after m (action_at (enabled_of m) (first_choice choices))) (later_choices choices) ]

-- What is seen of a run: whether the program has ended, and what each task has written.
pub record Seen : Type 0 where
  pub ended : Bool
  pub outputs : List (List ℕ)

abbrev pub seen_of : MachineState → Seen
seen_of m = record { ended = m.state.ended; outputs = map (λ seat. seat.local.output) m.state.seats }

-- What comes of a program as these choices pick at most so many actions.
abbrev pub seen_by : PProgram → List ℕ → ℕ → Seen
seen_by p choices k = seen_of (picked k (opening_of (record { program = p; types = types_in p; inputs = [] }) (numbers_in p)) choices)
