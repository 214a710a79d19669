use Rattle.std.proofs.Common.{Option, Ok, subst, sym}
use Rattle.event_machine.specs.declared.Event.{Event}
use Rattle.seq_file.specs.Files.{HasFirstFault}
use Rattle.seq_file.specs.Stepping.{AnswersBehind}
use Rattle.debug_judge.proofs.Lining.{one_too_many, bad_behind_last}
use Rattle.debug_judge.proofs.judged_lines.fault_behind.Goals as goal

pub returns-in-Ok-Some : goal.returns-in-Ok-Some
returns-in-Ok-Some c = λ bytes numbers names events at most.
    one_too_many bytes numbers names events c.in-Ok-Some.field-0-0 c.next.new.self.rest.now
    (subst (λ (o : Option Event). AnswersBehind bytes numbers names events (Ok o) c.next.new.self) c.in-Ok-Some.field-0-is (c.in-Ok-Some.ensures.answers bytes numbers names events at)).read most

pub returns-in-Err : goal.returns-in-Err
returns-in-Err c = λ bytes numbers names events at most.
    subst (HasFirstFault bytes numbers names) (sym c.behind_last.ensures)
    (bad_behind_last bytes numbers names events c.in-Err.error (c.in-Err.ensures.answers bytes numbers names events at).0 most)
