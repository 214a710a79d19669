use Rattle.std.proofs.Common.{vec_len}
use Rattle.task_state.proofs.frames.landing.+exit.Given as goal

abbrev pub decreases-exit : goal.decreases-exit
decreases-exit l = vec_len l.outer.now
