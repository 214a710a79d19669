use Rattle.std.proofs.Common.{sym, ◌∙◌}
use Rattle.ada_tree.specs.PlainStmt.{PFormal, plain_formal}
use Rattle.ada_static_rules.specs.Demand.{scalar_only, stands_as_mark}
use Rattle.ada_static_rules.specs.Sites.{mark_sites}
use Rattle.ada_static_rules.proofs.Meeting.{met_one}
use Rattle.ada_static_rules.proofs.Listing.{list_more, list_end}
use Rattle.ada_entry_rules.proofs.accept_heads.walk_marks.Goals as goal

pub loop-formal-preserved : goal.loop-formal-preserved
loop-formal-preserved c =
    list_more plain_formal (λ (f : PFormal). mark_sites scalar_only c.args.scope.now f.mark) c.args.formals.now c.loop-formal.formal-index c.formal-item.result c.loop-formal.refusal c.walk_mark.result c.first-refusal.result _
    c.loop-formal-test.true c.formal-item.is c.loop-formal.invariant
    (c.walk_mark.ensures ∙ sym (met_one c.args.scope.now (stands_as_mark scalar_only c.formal-item.result.mark)))
    c.first-refusal.ensures

pub returns : goal.returns
returns c = list_end plain_formal (λ (f : PFormal). mark_sites scalar_only c.args.scope.now f.mark) c.args.formals.now c.loop-formal.formal-index c.loop-formal.refusal _ c.loop-formal-test.false c.loop-formal.invariant
