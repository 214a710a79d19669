use Rattle.control_script.proofs.progress.Parting.{caller_below, has_served, parted_linked, parted_known}
use Rattle.control_script.proofs.progress.progress.finish.Goals as goal

pub part-requires-clause-caller : goal.part-requires-clause-caller
part-requires-clause-caller c = caller_below c.args.members.now c.args.served c.requires.linked c.args.a c.requires.acceptor c.requires.called

pub overflow_sub-result : goal.overflow_sub-result
overflow_sub-result c = has_served c.args.members.now c.args.served c.requires.linked c.args.a c.requires.acceptor c.requires.called

pub returns-clause-linked : goal.returns-clause-linked
returns-clause-linked c = rw c.part.ensures (parted_linked c.args.members.now c.args.served c.requires.linked c.args.a c.requires.acceptor c.requires.called)

pub returns-clause-known : goal.returns-clause-known
returns-clause-known c = rw c.part.ensures (parted_known c.args.members.now c.args.served c.requires.linked c.args.a c.requires.acceptor c.requires.called)
