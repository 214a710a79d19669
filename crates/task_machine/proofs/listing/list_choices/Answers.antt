use Rattle.std.proofs.lemmas.List.{take_more}
use Rattle.event_machine.specs.Applying.{delay_action}
use Rattle.task_machine.specs.Table.{applies_in}
use Rattle.task_machine.proofs.Filtered.{filter_map_more}
use Rattle.task_machine.proofs.listing.list_choices.Goals as goal

pub loop-choice-preserved : goal.loop-choice-preserved
loop-choice-preserved c =
    filter_map_more (applies_in c.args.numbers.now c.args.seats.now c.args.line.now) (delay_action c.args.t) c.args.out.now.items c.loop-choice.out.items
    c.list_choice.new.out.items c.args.choices.now c.loop-choice.choice-index _
    (take_more c.args.choices.now c.loop-choice.choice-index _ c.loop-choice-test.true) c.loop-choice.invariant c.in_ok-list_choice.ensures
