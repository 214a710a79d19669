use Rattle.task_local.proofs.rendezvous.Standing.{closes_from}
use Rattle.task_local.proofs.rendezvous.closing.close_accept.Goals as goal

pub returns : goal.returns
returns c =
    closes_from
    c.args.task.now
    c.close-left.new.self
    c.leave.new.self
    c.leave-2.new.self
    c.close-left.result.formals
    c.close-left.result.parameters
    c.leave.ensures
    c.leave-2.ensures
    c.close-left.ensures
    c.requires
