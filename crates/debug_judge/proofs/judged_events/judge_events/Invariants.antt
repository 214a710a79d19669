use Rattle.std.proofs.Common.{take}
use Rattle.task_machine.specs.Table.{setup_in}
use Rattle.debug_judge.specs.JudgedLines.{IsFoundOf}
use Rattle.debug_judge.proofs.judged_events.judge_events.Given as goal

-- this is found of the events gone by
abbrev pub invariant-loop-event : goal.invariant-loop-event
invariant-loop-event l = IsFoundOf (setup_in l.fn.links l.fn.inputs) l.fn.links.numbers l.fn.local_bound (take l.event-index l.events) l.found
