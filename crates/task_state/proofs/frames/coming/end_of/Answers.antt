use Rattle.std.proofs.Common.{◌≡◌, refl, ap}
use Rattle.ada_tree.specs.PlainStmt.{seen}
use Rattle.task_state.specs.declared.frames.frame.Place.TheVariants as stands
use Rattle.task_state.specs.frames.Seen.{around, seen_handlers}
use Rattle.task_state.proofs.frames.coming.end_of.Goals as goal

pub returns-in-OwnBody : goal.returns-in-OwnBody
returns-in-OwnBody c = rw c.in-OwnBody.is (refl, (seen_handlers c.in-OwnBody.handlers.now, c.in-OwnBody.taken, refl))

pub returns-in-Loop : goal.returns-in-Loop
returns-in-Loop c =
    let is : c.args.place ≡ stands.Loop c.in-Loop.name c.in-Loop.turns c.in-Loop.stmts = cc in
    (refl, (c.in-Loop.name, seen c.in-Loop.stmts.now, ap around is))
