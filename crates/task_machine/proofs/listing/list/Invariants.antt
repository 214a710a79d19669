use Rattle.std.proofs.Common.{◌≡◌, ◌++◌, filter, take}
use Rattle.task_machine.specs.Table.{applies_in}
use Rattle.task_machine.proofs.listing.list.Given as goal

-- the actions gone by that apply are appended
abbrev pub invariant-loop-action : goal.invariant-loop-action
invariant-loop-action l =
    l.out.items ≡ l.initial.out.items ++ filter (applies_in l.numbers l.seats l.line) (take l.action-index l.actions)
