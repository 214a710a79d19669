-- Shorthands for the trees of examples and their replay texts.
use Rattle.std.specs.Prelude.{ℕ, ℤ, List}
use Rattle.event_machine.specs.declared.Event.{Event}
use Rattle.ada_tree.specs.declared.naming.Span.{Span}
use Rattle.ada_tree.specs.declared.naming.Word.{Word}
use Rattle.ada_static_rules.specs.Refusals.{types_in}
use Rattle.ada_tree.specs.PlainExpr.{PExpr, EName}
use Rattle.ada_tree.specs.PlainProgram.{PProgram}
use Rattle.syn_event.specs.Numbering.{Numbering}
use Rattle.syn_event.specs.AllNumbers.{all_numbers}
use Rattle.progress_law.specs.rewritten.normal.Showing.{Show, shows}
use Rattle.replay_model.specs.ReplayTree.{replay_tree}
use Rattle.replay_model.specs.ReplayNumbers.{replay_numbers}

-- a place, a word and a name
abbrev pub o : Span
o = record { start = 0; end = 0 }

abbrev pub w : ℕ → Word
w k = record { name = record { 0 = k }; span = o }

abbrev pub n : ℕ → PExpr
n k = EName record { 0 = k } o

abbrev pub numbers_in : PProgram → Numbering
numbers_in p = all_numbers (types_in p) p

-- the replay text of a program and a sequence, and its numbers
abbrev pub replay_in : PProgram → List Event → PProgram
replay_in p events = replay_tree p (types_in p) (numbers_in p) events

abbrev pub replay_numbers_in : PProgram → Numbering
replay_numbers_in p = replay_numbers p (types_in p) (numbers_in p)

-- all that a program shows on inputs in at most so many events
abbrev pub shown_by : PProgram → List (List ℤ) → ℕ → List Show
shown_by p inputs k = shows (record { program = p; types = types_in p; inputs = inputs }) (numbers_in p) k
