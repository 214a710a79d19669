use Rattle.std.proofs.Common.{◌≡◌, ◌++◌, filter, take}
use Rattle.std.specs.List.{filter_map}
use Rattle.event_machine.specs.Applying.{delay_action}
use Rattle.task_machine.specs.Table.{applies_in}
use Rattle.task_machine.proofs.listing.list_choices.Given as goal

-- the delays gone by that apply are appended
abbrev pub invariant-loop-choice : goal.invariant-loop-choice
invariant-loop-choice l =
    l.out.items ≡ l.initial.out.items ++ filter (applies_in l.numbers l.seats l.line) (filter_map (delay_action l.t) (take l.choice-index l.choices))
