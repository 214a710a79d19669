use Rattle.std.proofs.Common.{◌≡◌}
use Rattle.load_gen.specs.LoadTree.{load_names}
use Rattle.load_gen.proofs.names.load_names.Given as goal

abbrev pub invariant-loop-k : goal.invariant-loop-k
invariant-loop-k l = l.names ≡ load_names l.k
