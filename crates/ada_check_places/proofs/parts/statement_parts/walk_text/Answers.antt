use Rattle.ada_tree.specs.PlainStmt.{plain_part}
use Rattle.syn_event.specs.CheckSites.{part_sites}
use Rattle.ada_check_rules.proofs.rules.Listing.{list_more, list_end}
use Rattle.ada_check_places.proofs.parts.statement_parts.walk_text.Goals as goal

pub loop-part-preserved : goal.loop-part-preserved
loop-part-preserved c =
    list_more c.args.by.now plain_part (part_sites c.args.around.now c.args.k) c.args.parts.now c.loop-part.part-index c.part-item.result _ _ _ _ c.loop-part-test.true c.part-item.is c.loop-part.invariant c.in_ok-found.ensures c.first-refusal.ensures

pub returns : goal.returns
returns c = list_end c.args.by.now plain_part (part_sites c.args.around.now c.args.k) c.args.parts.now c.loop-part.part-index _ _ c.loop-part-test.false c.loop-part.invariant
