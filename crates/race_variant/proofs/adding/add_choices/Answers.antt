use Rattle.std.proofs.Common.{List, sym, subst, map, take}
use Rattle.std.specs.List.{filter_map}
use Rattle.std.specs.Option.{option_copied}
use Rattle.std.proofs.lemmas.List.{take_more}
use Rattle.event_machine.specs.declared.Choice.{Choice}
use Rattle.event_machine.specs.declared.Event.TheVariants as event
use Rattle.race_variant.specs.inner.Passing.{AreAllAdded}
use Rattle.race_variant.specs.inner.Proposing.{delay_number}
use Rattle.race_variant.proofs.Delays.{choice_added}
use Rattle.race_variant.proofs.adding.add_choices.Goals as goal

pub loop-choice-preserved : goal.loop-choice-preserved
loop-choice-preserved c =
    subst (λ (cs : List Choice). AreAllAdded (option_copied c.args.skip) (map (event.D c.args.t) (filter_map delay_number cs)) c.args.found.now.items c.add_choice.new.found.items)
    (sym (take_more c.args.choices.now c.loop-choice.choice-index _ c.loop-choice-test.true))
    (choice_added (option_copied c.args.skip) c.args.t _ (take c.loop-choice.choice-index c.args.choices.now) c.args.found.now.items c.loop-choice.found.items c.add_choice.new.found.items
    c.loop-choice.invariant c.in_ok-add_choice.ensures)
