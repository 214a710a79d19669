use Rattle.std.proofs.Common.{refl}
use Rattle.ada_tree.specs.PlainDecl.{plain_decl}
use Rattle.syn_event.specs.CheckSites.{decl_sites, after_decl, decls_sites, after_decls}
use Rattle.scoped_names.specs.name_sets.Numbers.{numbers_in}
use Rattle.ada_check_rules.proofs.rules.Listing.{cut}
use Rattle.ada_check.proofs.declaration_places.Declaring.{decl_more, decl_end, after_more, after_end, own_none}
use Rattle.ada_check.proofs.declarations.walk_all.Goals as goal

pub loop-decl-preserved : goal.loop-decl-preserved
loop-decl-preserved c = record {
  told = decl_more c.args.by.now (λ s d. decl_sites s (numbers_in c.args.bodies.now) d) after_decl (λ s ds. decls_sites s (numbers_in c.args.bodies.now) ds) (λ s. refl) (λ s d rest. refl) c.args.decls.now c.loop-decl.decl-index c.decl-item.result _ _ _ _ _ _ (cut c.args.decls.now c.loop-decl.decl-index c.decl-item.result c.loop-decl-test.true c.decl-item.is) c.loop-decl.invariant.told c.in_ok-found.ensures.told c.in_ok-found.ensures.after c.first-refusal.ensures;
  after = after_more after_decl after_decls (λ s. refl) (λ s d rest. refl) c.args.decls.now c.loop-decl.decl-index c.decl-item.result _ _ _ (cut c.args.decls.now c.loop-decl.decl-index c.decl-item.result c.loop-decl-test.true c.decl-item.is) c.loop-decl.invariant.after c.in_ok-found.ensures.after;
  own = own_none _ _ (plain_decl c.decl-item.result) c.loop-decl.invariant.own c.in_ok-found.ensures.after;
}

pub returns : goal.returns
returns c = record {
  told = decl_end c.args.by.now (λ s d. decl_sites s (numbers_in c.args.bodies.now) d) after_decl (λ s ds. decls_sites s (numbers_in c.args.bodies.now) ds) (λ s. refl) (λ s d rest. refl) c.args.decls.now c.loop-decl.decl-index _ _ _ c.loop-decl-test.false c.loop-decl.invariant.told;
  after = after_end after_decl after_decls (λ s. refl) (λ s d rest. refl) c.args.decls.now c.loop-decl.decl-index _ _ c.loop-decl-test.false c.loop-decl.invariant.after;
}
