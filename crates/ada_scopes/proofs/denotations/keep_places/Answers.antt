use Rattle.ada_scopes.specs.declared.denotations.EntryPart.{EntryPart}
use Rattle.ada_scopes.proofs.Keeping.{place_more}
use Rattle.ada_scopes.proofs.denotations.keep_places.Goals as goal

pub loop-place-preserved : goal.loop-place-preserved
loop-place-preserved c =
    place_more (λ (e : EntryPart). e.name.0) c.args.map.now c.loop-place.map c.keep_first.new.map c.args.parts.now c.loop-place.place c.index-parts-place.result
    c.loop-place-test.true c.index-parts-place.is c.loop-place.invariant c.in_ok-keep_first.ensures
