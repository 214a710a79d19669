-- Shorthands for the trees of examples, with normal forms and what they show.
use Rattle.std.specs.Prelude.{ℕ, ℤ, List}
use Rattle.ada_tree.specs.declared.naming.Span.{Span}
use Rattle.ada_tree.specs.declared.naming.Word.{Word}
use Rattle.ada_static_rules.specs.Refusals.{types_in}
use Rattle.ada_tree.specs.PlainExpr.{PExpr, EName}
use Rattle.ada_tree.specs.PlainProgram.{PProgram}
use Rattle.syn_event.specs.Numbering.{Numbering}
use Rattle.syn_event.specs.AllNumbers.{all_numbers}
use Rattle.task_model.specs.Machine.{ProgramWithInputs}
use Rattle.normal_model.specs.NormalTree.{normal_tree}
use Rattle.normal_model.specs.NormalNumbers.{normal_numbers}
use Rattle.progress_law.specs.rewritten.normal.Showing.{Show, shows}

-- a place, a word and a name
abbrev pub o : Span
o = record { start = 0; end = 0 }

abbrev pub w : ℕ → Word
w k = record { name = record { 0 = k }; span = o }

abbrev pub n : ℕ → PExpr
n k = EName record { 0 = k } o

abbrev pub numbers_in : PProgram → Numbering
numbers_in p = all_numbers (types_in p) p

-- the normal form of a program, with its numbers
abbrev pub normal_in : PProgram → PProgram
normal_in p = normal_tree p (types_in p) (numbers_in p)

abbrev pub numbers_made : PProgram → Numbering
numbers_made p = normal_numbers (normal_in p) (numbers_in p)

abbrev pub setup_of : PProgram → List (List ℤ) → ProgramWithInputs
setup_of p inputs = record { program = p; types = types_in p; inputs = inputs }

-- all that a program shows on inputs in at most so many events
abbrev pub shown_by : PProgram → List (List ℤ) → ℕ → List Show
shown_by p inputs k = shows (setup_of p inputs) (numbers_in p) k
