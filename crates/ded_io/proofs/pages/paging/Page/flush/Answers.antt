use Rattle.std.proofs.Common.{refl, []}
use Rattle.ded_io.proofs.pages.Drawn.{drew_none, from_inside, flushed, flush_stopped, skipped, counted_same}
use Rattle.ded_io.proofs.pages.paging.Page.flush.Goals as goal

pub returns-then-self-eq0-clause-drew : goal.returns-then-self-eq0-clause-drew
returns-then-self-eq0-clause-drew g c = drew_none _

pub returns-then-self-clause-drew : goal.returns-then-self-clause-drew
returns-then-self-clause-drew g c =
    from_inside _ c.args.self.now (g.K.Sink.told c.args.out.now) (g.K.Sink.faults c.args.out.now) _ [] c.self.view_is
    (skipped _ _ [] c.if-self.true c.if-self.true refl refl (counted_same c.self.inside.count _ refl))

pub returns-in-Ok-clause-drew : goal.returns-in-Ok-clause-drew
returns-in-Ok-clause-drew g c =
    from_inside _ c.args.self.now (g.K.Sink.told c.args.out.now) (g.K.Sink.faults c.args.out.now) _ [] c.self.view_is
    (flushed _ _ _ _ _ c.if-self.false c.if-self.false c.in-Ok.ensures.bytes refl c.in-Ok.ensures.cause refl)

pub returns-in-Err-clause-drew : goal.returns-in-Err-clause-drew
returns-in-Err-clause-drew g c =
    from_inside _ c.args.self.now (g.K.Sink.told c.args.out.now) (g.K.Sink.faults c.args.out.now) _ [] c.self.view_is
    (flush_stopped _ _ _ _ _ c.if-self.false refl c.in-Err.ensures.bytes c.in-Err.ensures.cause refl)
