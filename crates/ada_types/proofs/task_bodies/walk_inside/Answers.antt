use Rattle.std.proofs.Common.{◌∙◌, []}
use Rattle.ada_scopes.proofs.Inner.{left, room, inner_formals}
use Rattle.ada_types.proofs.task_bodies.walk_inside.Goals as goal

pub leave-requires-clause-within : goal.leave-requires-clause-within
leave-requires-clause-within c =
    room c.args.scope.now _ c.walk_body.new.scope c.enter-outer.result c.enter-outer.ensures.outer (inner_formals c.args.scope.now [])
    (c.in_ok-refusal.ensures.kept ∙ c.enter-outer.ensures.scope)

pub returns-clause-kept : goal.returns-clause-kept
returns-clause-kept c =
    left c.args.scope.now _ c.walk_body.new.scope c.leave.new.self c.enter-outer.result c.enter-outer.ensures.outer (inner_formals c.args.scope.now [])
    (c.in_ok-refusal.ensures.kept ∙ c.enter-outer.ensures.scope) c.leave.ensures
