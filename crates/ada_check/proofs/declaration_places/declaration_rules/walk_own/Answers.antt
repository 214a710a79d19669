use Rattle.std.proofs.Common.{refl}
use Rattle.syn_event.specs.CheckSites.{own_object_sites, after_own_object, own_sites, after_own}
use Rattle.ada_check_rules.proofs.rules.Listing.{cut}
use Rattle.ada_check.proofs.declaration_places.Declaring.{decl_more, decl_end, after_more, after_end}
use Rattle.ada_check.proofs.declaration_places.declaration_rules.walk_own.Goals as goal

pub loop-decl-preserved : goal.loop-decl-preserved
loop-decl-preserved c = record {
  told = decl_more c.args.by.now own_object_sites after_own_object own_sites (λ s. refl) (λ s d rest. refl) c.args.objects.now c.loop-decl.decl-index c.decl-item.result _ _ _ _ _ _ (cut c.args.objects.now c.loop-decl.decl-index c.decl-item.result c.loop-decl-test.true c.decl-item.is) c.loop-decl.invariant.told c.in_ok-found.ensures.told c.in_ok-found.ensures.after c.first-refusal.ensures;
  after = after_more after_own_object after_own (λ s. refl) (λ s d rest. refl) c.args.objects.now c.loop-decl.decl-index c.decl-item.result _ _ _ (cut c.args.objects.now c.loop-decl.decl-index c.decl-item.result c.loop-decl-test.true c.decl-item.is) c.loop-decl.invariant.after c.in_ok-found.ensures.after;
}

pub returns : goal.returns
returns c = record {
  told = decl_end c.args.by.now own_object_sites after_own_object own_sites (λ s. refl) (λ s d rest. refl) c.args.objects.now c.loop-decl.decl-index _ _ _ c.loop-decl-test.false c.loop-decl.invariant.told;
  after = after_end after_own_object after_own (λ s. refl) (λ s d rest. refl) c.args.objects.now c.loop-decl.decl-index _ _ c.loop-decl-test.false c.loop-decl.invariant.after;
}
