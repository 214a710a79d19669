use Rattle.std.proofs.Common.{◌≡◌, subst, sym}
use Rattle.debug_outcome.specs.Coming.{Never}
use Rattle.debug_outcome.proofs.Comings.{comes_more}
use Rattle.debug_collect.specs.loads.LoadOutcomes.{LoadMeans}
use Rattle.debug_collect.specs.loads.inner.Loaded.{outcome_of}
use Rattle.debug_collect.proofs.loads.loading.write_load.Goals as goal

pub returns-in-Ok : goal.returns-in-Ok
returns-in-Ok g c =
    comes_more (λ o. o ≡ outcome_of c.args.n c.in-Ok.loaded) (LoadMeans c.args.n) Never Never
    (g.K.Sink.told c.args.out.now) (g.K.Sink.told c.put_loaded.new.out) (g.K.Sink.faults c.args.out.now) (g.K.Sink.faults c.put_loaded.new.out) c.put_loaded.result
    (λ o is. subst (LoadMeans c.args.n) (sym is) c.in-Ok.ensures.loaded) (λ o never. never) c.put_loaded.ensures
