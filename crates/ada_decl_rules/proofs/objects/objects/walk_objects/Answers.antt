use Rattle.std.proofs.Common.{option_map}
use Rattle.ada_tree.specs.PlainDecl.{plain_init, plain_shape}
use Rattle.ada_decl_rules.proofs.objects.Objecting.{objects_after, objects_met}
use Rattle.ada_decl_rules.proofs.objects.objects.walk_objects.Goals as goal

pub returns-clause-scope : goal.returns-clause-scope
returns-clause-scope c =
    objects_after c.args.scope _ c.args.names.now c.args.constant (plain_shape c.args.shape.now) (option_map plain_init c.args.init.now) c.in_ok-walked.walked.planned c.known_of-known.result
    c.in_ok-walked.ensures.planned_is c.known_of-known.ensures c.in_ok-scope.ensures.scope

pub returns-clause-refusal : goal.returns-clause-refusal
returns-clause-refusal c =
    objects_met c.args.scope c.args.names.now c.args.constant (plain_shape c.args.shape.now) (option_map plain_init c.args.init.now) c.in_ok-walked.walked.planned _ _ _
    c.in_ok-walked.ensures.planned_is c.in_ok-walked.ensures.refusal_is c.walk_init_if-value.ensures c.first.ensures
