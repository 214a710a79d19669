use Rattle.std.proofs.Common.{refl, codes}
use Rattle.ded_io.specs.Written.{◌⧺◌}
use Rattle.ada_tree.specs.PlainStmt.{plain_callee}
use Rattle.ada_printer.specs.StmtText.{callee_text}
use Rattle.ded_io.proofs.pages.Drawn.{drew_then}
use Rattle.ada_printer.proofs.Listed.{drew_seen_member, drew_seen_all, drew_seen_list}
use Rattle.ada_printer.proofs.calls.put_callees.Goals as goal

pub loop-callee-preserved : goal.loop-callee-preserved
loop-callee-preserved g c =
    drew_seen_member _ _ plain_callee (λ x. codes ", " ⧺ callee_text c.args.names.now x) _ c.loop-callee.callee-index c.callee-item.result _ _ _ c.loop-callee-test.true c.callee-item.is c.loop-callee.invariant
    (drew_then _ _ _ _ _ c.put.ensures c.put_callee-in-loop-callee.ensures)

pub returns-after-loop-callee : goal.returns-after-loop-callee
returns-after-loop-callee g c =
    drew_seen_list _ _ plain_callee (codes ", ") (callee_text c.args.names.now) c.args.callees.now _ c.first-item.result _ _ _ c.in-len1-up.len_at_least c.first-item.is refl
    c.put_callee.ensures (drew_seen_all _ _ plain_callee (λ x. codes ", " ⧺ callee_text c.args.names.now x) _ _ _ _ c.loop-callee-test.false c.loop-callee.invariant)
