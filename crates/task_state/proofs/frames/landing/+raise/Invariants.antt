use Rattle.std.proofs.Common.{vec_len}
use Rattle.task_state.proofs.frames.landing.+raise.Given as goal

abbrev pub decreases-raise : goal.decreases-raise
decreases-raise l = vec_len l.outer.now
