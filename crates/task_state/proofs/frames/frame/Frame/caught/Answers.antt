use Rattle.std.proofs.Common.{Some}
use Rattle.task_state.proofs.frames.CallLemmas.{unit_grounded, block_grounded, opened_grounded}
use Rattle.task_state.proofs.frames.frame.Frame.caught.Goals as goal

pub returns-in-OwnBody-default-None-clause-grounded : goal.returns-in-OwnBody-default-None-clause-grounded
returns-in-OwnBody-default-None-clause-grounded c fs grounded =
    unit_grounded c.args.self.place c.unit_caught.result.place fs c.unit_caught.ensures.unit grounded

pub returns-in-Block-clause-grounded : goal.returns-in-Block-clause-grounded
returns-in-Block-clause-grounded c fs grounded = block_grounded c.args.self.place c.in-Block.handlers c.block_caught.result fs c.in-Block.is grounded

pub returns-in-Opened-clause-grounded : goal.returns-in-Opened-clause-grounded
returns-in-Opened-clause-grounded c fs grounded =
    opened_grounded c.args.self.place _ _ _ (Some c.args.raised) fs c.in-Opened.is grounded
