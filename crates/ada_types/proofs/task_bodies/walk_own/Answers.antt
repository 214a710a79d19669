use Rattle.std.proofs.Common.{◌∙◌, ap, option_map}
use Rattle.ada_tree.specs.PlainDecl.{plain_shape, plain_init}
use Rattle.ada_static_rules.specs.Declaring.{after_object, declared_object}
use Rattle.ada_static_rules.specs.Sites.{object_sites}
use Rattle.ada_static_rules.specs.RefusedFirst.{refused_first}
use Rattle.ada_types.proofs.Following.{own_kind, own_other}
use Rattle.ada_types.proofs.task_bodies.walk_own.Goals as goal

pub returns-in_ok-walked-in-Object : goal.returns-in_ok-walked-in-Object
returns-in_ok-walked-in-Object c =
    let scope = c.args.scope in
    let constant = c.in-Object.constant in
    let shape = plain_shape c.in-Object.shape in
    let init = option_map plain_init c.in-Object.init in
    own_kind scope c.args.decl.now _ _ c.in-Object.is record {
      scope_is = c.in_ok-walked-in-Object.ensures.scope ∙ ap (λ ws. after_object scope ws constant shape init) c.deref.ensures.value;
      refusal_is = c.in_ok-walked-in-Object.ensures.refusal ∙ ap (λ ws. refused_first (object_sites scope ws constant shape init (declared_object scope constant shape))) c.deref.ensures.value;
    }

pub returns-in_default : goal.returns-in_default
returns-in_default c = own_other c.args.scope c.args.decl.now.kind c.args.decl.now.span c.in_default.not-Object
