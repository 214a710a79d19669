use Rattle.std.proofs.Common.{length}
use Rattle.task_state.proofs.frames.landing.+caller_among.Given as goal

abbrev pub decreases-caller_among : goal.decreases-caller_among
decreases-caller_among l = length l.frames.now
