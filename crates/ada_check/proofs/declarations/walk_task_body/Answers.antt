use Rattle.std.proofs.Common.{◌≡◌, ap, ◌∙◌, map}
use Rattle.ada_tree.specs.PlainStmt.{plain_body}
use Rattle.ada_tree.specs.PlainDecl.{plain_decl, decls_of}
use Rattle.syn_event.specs.CheckSites.{in_body, own_sites, after_own, body_sites}
use Rattle.ada_check_rules.specs.rules.RefusedFirst.{refused_first}
use Rattle.ada_check_rules.proofs.rules.Meeting.{joined}
use Rattle.ada_check_rules.proofs.scopes.Leaving.{room}
use Rattle.ada_check.proofs.declaration_places.Declaring.{within_body, left_body}
use Rattle.ada_check.proofs.declarations.walk_task_body.Goals as goal

pub leave_body-requires : goal.leave_body-requires
leave_body-requires c =
    let objects = decls_of (map plain_decl c.args.objects.now) in
    let same : c.walk_body.new.around ≡ after_own (in_body c.args.around.now c.args.name) objects = c.in_ok-inner.ensures.kept ∙ c.in_ok-own.ensures.after ∙ ap (λ x. after_own x objects) c.in_ok-outer.ensures.around in
    room c.args.around.now c.walk_body.new.around c.in_ok-outer.outer c.in_ok-outer.ensures.count (within_body c.args.around.now c.walk_body.new.around c.args.name objects same)

pub returns : goal.returns
returns c =
    let objects = decls_of (map plain_decl c.args.objects.now) in
    let around : c.walk_own.new.around ≡ after_own (in_body c.args.around.now c.args.name) objects = c.in_ok-own.ensures.after ∙ ap (λ x. after_own x objects) c.in_ok-outer.ensures.around in
    let same : c.walk_body.new.around ≡ after_own (in_body c.args.around.now c.args.name) objects = c.in_ok-inner.ensures.kept ∙ around in
    record {
      kept = left_body c.args.around.now c.walk_body.new.around c.leave_body.new.self c.args.name objects c.in_ok-outer.outer c.requires c.in_ok-outer.ensures.count same c.leave_body.ensures;
      told =
          c.first.ensures
          ∙ joined c.args.by.now (own_sites (in_body c.args.around.now c.args.name) objects) (body_sites (after_own (in_body c.args.around.now c.args.name) objects) 1 (plain_body c.args.body.now)) _ _
          (c.in_ok-own.ensures.told ∙ ap (λ x. refused_first c.args.by.now (own_sites x objects)) c.in_ok-outer.ensures.around)
          (c.in_ok-inner.ensures.told ∙ ap (λ x. refused_first c.args.by.now (body_sites x 1 (plain_body c.args.body.now))) around);
    }
