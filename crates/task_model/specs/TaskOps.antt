-- What one task does, in one record, as the table of actions asks it.
use Rattle.event_machine.specs.States.{Ops}
use Rattle.task_model.specs.Frames.{callers_in}
use Rattle.task_model.specs.Tasks.{Task}
use Rattle.task_model.specs.Stands.{can_step, stepped, offer_of}
use Rattle.task_model.specs.Rendezvous.{accepted, finished, resumed, call_failed, took_else, took_delay, past_name}
use Rattle.task_model.specs.Starting.{nobody}

-- The table of what a task is asked and of what is done to it, for these tasks (9).
abbrev pub task_ops : Ops Task
task_ops = record {
  can_step = can_step;
  stepped = stepped;
  offer = offer_of;
  callers = λ t. callers_in t.control;
  accepted = accepted;
  finished = finished;
  resumed = resumed;
  raised = call_failed;
  took_else = took_else;
  took_delay = took_delay;
  passed = past_name;
  nobody = nobody;
}
