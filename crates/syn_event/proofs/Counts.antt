-- How many tasks and indices a range stands for.
use Rattle.std.proofs.Common.{◌≡◌, ℕ, zero, suc, ℤ, pos, ◌+ℤ◌, length, Option, Some, None, refl, ap, ◌∙◌}
use Rattle.ada_tree.specs.PlainExpr.{PDrange}
use Rattle.ada_tree.specs.TypeTable.{TypeTable}
use Rattle.syn_event.specs.Extents.{Extent, extent, size_of, known_size}
use Rattle.syn_event.specs.NamedTasks.{NamedTasks, count_of_range, numbered_task, indices, numbers_on, tasks_of_range}
use Rattle.common_lemmas.proofs.Lists.{mapped_length}

pub numbers_length : (first : ℤ) (n : ℕ) → length (numbers_on first n) ≡ n
numbers_length first zero = refl
numbers_length first (suc n) = ap suc (numbers_length (first +ℤ pos 1) n)

pub indices_length : (o : Option Extent) → length (indices o) ≡ known_size o
indices_length (Some x) = numbers_length x.first (size_of x)
indices_length None = refl

pub tasks_length : (types : TypeTable) (x : NamedTasks) (o : Option PDrange) → length (tasks_of_range types x o) ≡ count_of_range types o
tasks_length types x (Some r) = mapped_length (λ i. numbered_task x (Some i)) (indices (extent types r)) ∙ indices_length (extent types r)
tasks_length types x None = refl
