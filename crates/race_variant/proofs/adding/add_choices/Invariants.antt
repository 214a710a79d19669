use Rattle.std.proofs.Common.{map, take}
use Rattle.std.specs.List.{filter_map}
use Rattle.std.specs.Option.{option_copied}
use Rattle.event_machine.specs.declared.Event.TheVariants as event
use Rattle.race_variant.specs.inner.Passing.{AreAllAdded}
use Rattle.race_variant.specs.inner.Proposing.{delay_number}
use Rattle.race_variant.proofs.adding.add_choices.Given as goal

-- the delays among the choices gone by are added
abbrev pub invariant-loop-choice : goal.invariant-loop-choice
invariant-loop-choice l =
    AreAllAdded (option_copied l.skip) (map (event.D l.t) (filter_map delay_number (take l.choice-index l.choices))) l.initial.found.items l.found.items
