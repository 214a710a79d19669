use Rattle.std.proofs.Common.{refl, codes}
use Rattle.ded_io.specs.Written.{◌⧺◌}
use Rattle.ada_tree.specs.PlainStmt.{plain_formal}
use Rattle.ada_printer.specs.StmtText.{formal_text}
use Rattle.ded_io.proofs.pages.Drawn.{drew_then}
use Rattle.ada_printer.proofs.Listed.{drew_seen_member, drew_seen_all, drew_seen_list}
use Rattle.ada_printer.proofs.calls.put_separated_formals.Goals as goal

pub loop-formal-preserved : goal.loop-formal-preserved
loop-formal-preserved g c =
    drew_seen_member _ _ plain_formal (λ x. codes "; " ⧺ formal_text c.args.names.now x) _ c.loop-formal.formal-index c.formal-item.result _ _ _ c.loop-formal-test.true c.formal-item.is c.loop-formal.invariant
    (drew_then _ _ _ _ _ c.put.ensures c.put_formal-in-loop-formal.ensures)

pub returns-after-loop-formal : goal.returns-after-loop-formal
returns-after-loop-formal g c =
    drew_seen_list _ _ plain_formal (codes "; ") (formal_text c.args.names.now) c.args.formals.now _ c.first-item.result _ _ _ c.in-len1-up.len_at_least c.first-item.is refl
    c.put_formal.ensures (drew_seen_all _ _ plain_formal (λ x. codes "; " ⧺ formal_text c.args.names.now x) _ _ _ _ c.loop-formal-test.false c.loop-formal.invariant)
