use Rattle.std.proofs.Common.{◌≡◌, ◌≤◌, take, []}
use Rattle.task_model.specs.Machine.{ProgramWithInputs}
use Rattle.feasible.specs.Keeping.{StandsFor, NothingFollows}
use Rattle.feasible.proofs.judge.judge_each.Given as goal

-- the judge stands for the events gone by
abbrev pub invariant-loop-e : goal.invariant-loop-e
invariant-loop-e l = record {
  stands : (setup : ProgramWithInputs) → StandsFor setup [] l.initial.judge → NothingFollows l.events → StandsFor setup (take l.e-index l.events) l.judge;
  taken : l.judge.taken ≤ l.e-index;
  numbers : l.judge.numbers ≡ l.initial.judge.numbers;
  bound : l.judge.bound ≡ l.initial.judge.bound;
}
