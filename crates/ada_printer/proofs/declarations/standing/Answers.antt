use Rattle.std.proofs.Common.{◌≡◌, true, false, nat_le, arith}
use Rattle.std.proofs.lemmas.Bool.Decides.{leb_tells}
use Rattle.ada_tree.specs.PlainDecl.{plain_priority}
use Rattle.ada_printer.proofs.Declared.{stands_yes, stands_no, stands_all}
use Rattle.ada_printer.proofs.declarations.standing.Goals as goal

pub loop-count-preserved : goal.loop-count-preserved
loop-count-preserved c =
    let passes : nat_le (plain_priority c.index-priorities-count.result).place c.args.before ≡ true = grind (arith, leb_tells) in
    stands_yes plain_priority c.args.before c.args.priorities.now c.loop-count.count c.index-priorities-count.result _ c.loop-count-test.true c.index-priorities-count.is passes c.loop-count.invariant

pub returns-then-priority-before-clause-value : goal.returns-then-priority-before-clause-value
returns-then-priority-before-clause-value c =
    let fails : nat_le (plain_priority c.index-priorities-count.result).place c.args.before ≡ false = grind (arith, leb_tells) in
    stands_no plain_priority c.args.before c.args.priorities.now c.loop-count.count c.index-priorities-count.result _ c.loop-count-test.true c.index-priorities-count.is fails c.loop-count.invariant

pub returns-clause-value : goal.returns-clause-value
returns-clause-value c =
    stands_all plain_priority c.args.before c.args.priorities.now c.loop-count.count _ c.loop-count-test.false (omega arith) c.loop-count.invariant
