use Rattle.ada_tree.specs.PlainStmt.{plain_choice}
use Rattle.syn_event.specs.CheckSites.{choice_sites}
use Rattle.ada_check_rules.proofs.rules.Listing.{list_more, list_end}
use Rattle.ada_check_places.proofs.parts.statement_parts.walk_choices.Goals as goal

pub loop-choice-preserved : goal.loop-choice-preserved
loop-choice-preserved c =
    list_more c.args.by.now plain_choice (choice_sites c.args.around.now c.args.k) c.args.choices.now c.loop-choice.choice-index c.choice-item.result _ _ _ _ c.loop-choice-test.true c.choice-item.is c.loop-choice.invariant c.in_ok-found.ensures c.first-refusal.ensures

pub returns : goal.returns
returns c = list_end c.args.by.now plain_choice (choice_sites c.args.around.now c.args.k) c.args.choices.now c.loop-choice.choice-index _ _ c.loop-choice-test.false c.loop-choice.invariant
