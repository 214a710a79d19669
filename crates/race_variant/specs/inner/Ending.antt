-- Whether a task that is seen so can end with the main program.
use Rattle.std.specs.Prelude.{Bool, true, not, ◌&&◌, ◌||◌}
use Rattle.event_machine.specs.Offers.{waits_with, is_terminate}
use Rattle.task_machine.specs.Conditions.{is_served_view, is_completed_view, is_at}
use Rattle.task_machine.specs.Views.{View}

-- it is no caller in a rendezvous, and has completed or offers to terminate, as the table of conditions asks it
abbrev pub can_end_view : View → Bool
can_end_view v = not (is_served_view v) && ((is_completed_view v || is_at (waits_with is_terminate) v) && true)
