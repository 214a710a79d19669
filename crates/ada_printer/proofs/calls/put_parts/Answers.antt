use Rattle.std.proofs.Common.{refl, codes}
use Rattle.ded_io.specs.Written.{◌⧺◌}
use Rattle.ada_tree.specs.PlainStmt.{plain_part}
use Rattle.ada_printer.specs.StmtText.{part_text}
use Rattle.ded_io.proofs.pages.Drawn.{drew_then}
use Rattle.ada_printer.proofs.Listed.{drew_seen_member, drew_seen_all, drew_seen_list}
use Rattle.ada_printer.proofs.calls.put_parts.Goals as goal

pub loop-part-preserved : goal.loop-part-preserved
loop-part-preserved g c =
    drew_seen_member _ _ plain_part (λ x. codes " & " ⧺ part_text c.args.names.now x) _ c.loop-part.part-index c.part-item.result _ _ _ c.loop-part-test.true c.part-item.is c.loop-part.invariant
    (drew_then _ _ _ _ _ c.put.ensures c.put_part-in-loop-part.ensures)

pub returns-after-loop-part : goal.returns-after-loop-part
returns-after-loop-part g c =
    drew_seen_list _ _ plain_part (codes " & ") (part_text c.args.names.now) c.args.parts.now _ c.first-item.result _ _ _ c.in-len1-up.len_at_least c.first-item.is refl
    c.put_part.ensures (drew_seen_all _ _ plain_part (λ x. codes " & " ⧺ part_text c.args.names.now x) _ _ _ _ c.loop-part-test.false c.loop-part.invariant)
