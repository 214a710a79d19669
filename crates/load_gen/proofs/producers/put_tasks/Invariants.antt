use Rattle.std.proofs.Common.{◌≡◌, ◌++◌, map}
use Rattle.std.specs.List.{range_with_len}
use Rattle.ada_tree.specs.PlainDecl.{plain_decl}
use Rattle.load_gen.specs.LoadTree.{producer_task}
use Rattle.load_gen.proofs.producers.put_tasks.Given as goal

abbrev pub invariant-loop-k : goal.invariant-loop-k
invariant-loop-k l = map plain_decl l.out.items ≡ map plain_decl l.initial.out.items ++ map producer_task (range_with_len 1 l.k)
