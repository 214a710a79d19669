use Rattle.std.proofs.Common.{◌∙◌, ap, map, refl}
use Rattle.ada_static_rules.specs.Declaring.{in_body, inner_scope, after_objects}
use Rattle.ada_tree.specs.PlainDecl.{decls_of, plain_decl}
use Rattle.ada_tree.specs.PlainStmt.{plain_body}
use Rattle.ada_static_rules.specs.Sites.{own_sites, body_sites}
use Rattle.ada_static_rules.specs.Sooner.{sooner}
use Rattle.ada_static_rules.specs.RefusedFirst.{refused_first}
use Rattle.ada_types.proofs.Following.{body_room, body_left, body_scope, objects_in}
use Rattle.ada_types.proofs.TaskDecls.{body_met}
use Rattle.ada_types.proofs.task_bodies.walk_task_body.Goals as goal

pub leave_body-requires-clause-within : goal.leave_body-requires-clause-within
leave_body-requires-clause-within c =
    let ds = decls_of (map plain_decl c.args.objects.now) in
    let here = objects_in c.args.scope _ c.args.name _ ds c.in_ok-own.ensures c.enter_body-outside.ensures.scope in
    body_room c.args.scope _ c.args.name ds _ c.enter_body-outside.ensures.outside.outer_is (c.in_ok-inner.ensures.kept ∙ c.in_ok-walked.ensures.scope_is ∙ here)

pub leave_body-requires-clause-ordered : goal.leave_body-requires-clause-ordered
leave_body-requires-clause-ordered c = c.enter_body-outside.ensures.outside.outer_is.base_within

pub returns : goal.returns
returns c =
    let ds = decls_of (map plain_decl c.args.objects.now) in
    let here = objects_in c.args.scope _ c.args.name _ ds c.in_ok-own.ensures c.enter_body-outside.ensures.scope in
    let there = c.in_ok-walked.ensures.scope_is ∙ here in
    record {
      scope_is = body_left c.args.scope _ _ c.args.name ds _ c.enter_body-outside.ensures.outside (c.in_ok-inner.ensures.kept ∙ there) c.in_ok-leave_body.ensures;
      refusal_is = c.first-2.ensures ∙ ap (λ o. sooner o c.in_ok-inner.inner) c.first.ensures ∙ body_met c.args.scope c.args.name (own_sites (in_body c.args.scope c.args.name) ds) (body_sites (inner_scope (after_objects (in_body c.args.scope c.args.name) ds)) (plain_body c.args.body.now)) _ _ _
          c.refuse_no_body-no_body.ensures
          (c.in_ok-walked.ensures.refusal_is ∙ ap (λ s. refused_first (own_sites s ds)) (body_scope c.args.scope _ c.args.name _ c.in_ok-own.ensures c.enter_body-outside.ensures.scope))
          (c.in_ok-inner.ensures.told ∙ ap (λ s. refused_first (body_sites (inner_scope s) (plain_body c.args.body.now))) there);
      of_tasks_is = refl;
    }
