use Rattle.std.proofs.Common.{length}
use Rattle.task_state.proofs.frames.landing.+handled_among.Given as goal

abbrev pub decreases-handled_among : goal.decreases-handled_among
decreases-handled_among l = length l.frames.now
