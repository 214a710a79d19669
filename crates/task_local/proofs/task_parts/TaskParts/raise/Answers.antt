use Rattle.std.proofs.Common.{sym, subst}
use Rattle.task_local.specs.room.Fitting.{HasRoom}
use Rattle.task_local.specs.inner.InOrder.{task_of}
use Rattle.task_local.proofs.room.Steps.{raised_has_room}
use Rattle.task_local.proofs.task_parts.TaskParts.raise.Goals as goal

pub renew-requires : goal.renew-requires
renew-requires c = record {
  room = subst (λ t. HasRoom c.args.self.now.widest t) (sym c.raise.ensures) (raised_has_room c.args.self.now.widest c.args.raised (task_of c.args.self.now) c.requires.roomy.room);
  wide = c.requires.roomy.wide;
  few = c.requires.roomy.few;
}
