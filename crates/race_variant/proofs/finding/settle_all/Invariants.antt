use Rattle.std.proofs.Common.{◌≡◌, List, length, take}
use Rattle.event_machine.specs.declared.Event.{Event}
use Rattle.task_model.specs.Machine.{ProgramWithInputs}
use Rattle.feasible.specs.Keeping.{StandsFor}
use Rattle.race_variant.specs.inner.Passing.{AreAnswers, AreTold}
use Rattle.race_variant.proofs.finding.settle_all.Given as goal

-- the tasks gone by were asked, and nothing else has changed
abbrev pub invariant-loop-t : goal.invariant-loop-t
invariant-loop-t l = record {
  answers : AreAnswers l.j.tasks l.settled.items;
  size : length l.settled.items ≡ l.t;
  told : (setup : ProgramWithInputs) (events : List Event) → StandsFor setup events l.initial.j →
      AreTold setup l.initial.j.numbers l.initial.j.bound (take l.initial.j.taken events) l.settled.items l.unsettled.items;
  stands : (setup : ProgramWithInputs) (events : List Event) → StandsFor setup events l.initial.j → StandsFor setup events l.j;
  numbers : l.j.numbers ≡ l.initial.j.numbers;
  bound : l.j.bound ≡ l.initial.j.bound;
  taken : l.j.taken ≡ l.initial.j.taken;
  ended : l.j.ended ≡ l.initial.j.ended;
  verdict : l.j.verdict ≡ l.initial.j.verdict;
}
