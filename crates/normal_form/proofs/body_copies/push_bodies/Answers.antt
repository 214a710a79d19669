use Rattle.ada_tree.specs.PlainDecl.{plain_decl}
use Rattle.normal_model.specs.NormalTree.{bodies_of, variables_of_body}
use Rattle.normal_form.proofs.unit_declarations.Listing.{flat_seen_more}
use Rattle.normal_form.proofs.Greatest.{greatest_turn}
use Rattle.normal_form.proofs.body_copies.push_bodies.Goals as goal

pub loop-decl-preserved : goal.loop-decl-preserved
loop-decl-preserved c = record {
  decls = flat_seen_more (bodies_of c.args.lookups.now) plain_decl c.args.decls.now c.loop-decl.decl-index c.decl-item.result _ _ _ c.loop-decl-test.true c.decl-item.is c.loop-decl.invariant.decls c.in_ok-push_bodies_of.ensures.decls;
  begins = c.in_ok-push_bodies_of.ensures.begins;
  count = greatest_turn (variables_of_body c.args.lookups.now) plain_decl c.args.decls.now c.loop-decl.decl-index c.decl-item.result _ _ _ c.loop-decl-test.true c.decl-item.is c.loop-decl.invariant.count c.in_ok-push_bodies_of.ensures.count;
}
