use Rattle.std.proofs.Common.{vec_len}
use Rattle.task_state.proofs.frames.landing.+settle.Given as goal

abbrev pub decreases-settle : goal.decreases-settle
decreases-settle l = vec_len l.outer.now
