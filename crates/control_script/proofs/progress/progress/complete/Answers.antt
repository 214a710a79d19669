use Rattle.control_script.proofs.progress.Tables.{free_parts}
use Rattle.control_script.proofs.progress.Shutting.{completed_linked, completed_known, uncalled_is}
use Rattle.control_script.proofs.progress.progress.complete.Goals as goal

pub returns-clause-linked : goal.returns-clause-linked
returns-clause-linked c = rw c.close.ensures (completed_linked c.args.members.now c.args.served c.requires.linked c.args.a (free_parts c.args.members.now c.args.a c.requires.free).0 (uncalled_is c.args.members.now c.args.a c.requires.free c.requires.uncalled))

pub returns-clause-known : goal.returns-clause-known
returns-clause-known c = rw c.close.ensures (completed_known c.args.members.now c.args.served c.requires.linked c.args.a (free_parts c.args.members.now c.args.a c.requires.free).0 (uncalled_is c.args.members.now c.args.a c.requires.free c.requires.uncalled))
