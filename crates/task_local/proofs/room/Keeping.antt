-- What is enough for a task stays enough, all moves of one task together.
use Rattle.task_local.specs.room.Laws.{IsKept}
use Rattle.task_local.proofs.room.Steps.{stepped_has_room, stepped_by_has_room, sequential_has_room, raised_has_room}
use Rattle.task_local.proofs.room.Opened.{alternative_has_room, accepted_has_room}
use Rattle.task_local.proofs.room.Meetings.{behind_has_room, finished_has_room, returned_has_room, resumed_with_has_room, failed_has_room, else_has_room, delay_has_room, passed_has_room}

pub is_kept : IsKept
is_kept = record {
  stepped = stepped_has_room;
  stepped_by = λ stand n t k. stepped_by_has_room n stand t k;
  sequential = sequential_has_room;
  raised = λ x n t k. raised_has_room n x t k;
  behind = behind_has_room;
  opened = λ caller e i values n t k. alternative_has_room n caller e i values t k;
  accepted = λ e i caller calling n t k. accepted_has_room n e i caller calling t k;
  finished = finished_has_room;
  returned = λ values n t k. returned_has_room n values t k;
  resumed = λ o values n t k. resumed_with_has_room n o values t k;
  failed = failed_has_room;
  took_else = else_has_room;
  took_delay = λ d n t k. delay_has_room n d t k;
  passed = passed_has_room;
}
