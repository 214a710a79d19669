use Rattle.task_machine.specs.Table.{setup_in}
use Rattle.debug_judge.proofs.Lining.{IsJudgedTo}
use Rattle.debug_judge.proofs.judged_lines.judge_lines.Given as goal

-- so many lines were read, and their events given to the judge
abbrev pub invariant-loop-given : goal.invariant-loop-given
invariant-loop-given l = IsJudgedTo (setup_in l.fn.links l.fn.inputs) l.fn.links.numbers l.fn.local_bound l.fn.bytes l._given l.lines l.found
