use Rattle.control_script.proofs.progress.Meeting.{depth_room, served_room, met_linked, met_known}
use Rattle.control_script.proofs.progress.progress.start.Goals as goal

pub meet-requires-clause-room : goal.meet-requires-clause-room
meet-requires-clause-room c = depth_room c.args.members.now c.args.served c.requires.linked c.args.c c.args.a c.requires.caller c.requires.acceptor c.requires.apart

pub overflow_add-result : goal.overflow_add-result
overflow_add-result c = record { fits = served_room c.args.members.now c.args.served c.requires.linked c.args.c c.args.a c.requires.caller c.requires.acceptor c.requires.apart }

pub returns-clause-linked : goal.returns-clause-linked
returns-clause-linked c = rw c.meet.ensures (met_linked c.args.members.now c.args.served c.requires.linked c.args.c c.args.a c.requires.caller c.requires.acceptor c.requires.apart)

pub returns-clause-known : goal.returns-clause-known
returns-clause-known c = rw c.meet.ensures (met_known c.args.members.now c.args.served c.requires.linked c.args.c c.args.a c.requires.caller c.requires.acceptor c.requires.apart)
