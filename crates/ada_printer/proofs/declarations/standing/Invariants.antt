use Rattle.std.proofs.Common.{◌≡◌, ◌+◌, map, drop}
use Rattle.ada_tree.specs.PlainDecl.{plain_priority}
use Rattle.ada_printer.specs.DeclText.{standing}
use Rattle.ada_printer.proofs.declarations.standing.Given as goal

abbrev pub invariant-loop-count : goal.invariant-loop-count
invariant-loop-count l =
    standing l.before (map plain_priority l.priorities) ≡ l.count + standing l.before (drop l.count (map plain_priority l.priorities))
