use Rattle.std.proofs.Common.{◌≡◌, vec_len}
use Rattle.task_model.specs.Machine.{first_tasks}
use Rattle.task_machine.specs.Table.{setup_in}
use Rattle.task_machine.proofs.starting.start_first.Given as goal

-- the tasks gone by are started
abbrev pub invariant-loop-t : goal.invariant-loop-t
invariant-loop-t l = (l.seats.items ≡ first_tasks (setup_in l.links l.inputs) l.links.numbers l.t) × (vec_len l.seats ≡ l.t)
