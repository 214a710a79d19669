use Rattle.std.proofs.Common.{◌∙◌, refl, ap}
use Rattle.ded_io.proofs.pages.Drawn.{from_inside, passed, pass_stopped, skipped}
use Rattle.ded_io.proofs.pages.paging.Page.pass.Goals as goal

pub returns-then-self : goal.returns-then-self
returns-then-self g c =
    from_inside _ c.args.self.now (g.K.Sink.told c.args.out.now) (g.K.Sink.faults c.args.out.now) _ c.args.bytes.now c.self.view_is
    (skipped _ _ _ c.if-self.true c.if-self.true refl refl (λ le. c.saturating_add-self-inside.ensures))

pub returns-in-Ok : goal.returns-in-Ok
returns-in-Ok g c =
    from_inside _ c.args.self.now (g.K.Sink.told c.args.out.now) (g.K.Sink.faults c.args.out.now) _ c.args.bytes.now c.self.view_is
    (passed _ _ _ _ _ _ c.if-self.false c.if-self.false (ap (λ s. s.waiting) c.self.view_is ∙ c.requires) (ap (λ s. s.waiting) c.self.view_is ∙ c.requires)
    c.in-Ok.ensures.bytes c.in-Ok.ensures.cause (λ le. c.saturating_add-self-inside.ensures))

pub returns-in-Err : goal.returns-in-Err
returns-in-Err g c =
    from_inside _ c.args.self.now (g.K.Sink.told c.args.out.now) (g.K.Sink.faults c.args.out.now) _ c.args.bytes.now c.self.view_is
    (pass_stopped _ _ _ _ _ _ c.if-self.false refl (ap (λ s. s.waiting) c.self.view_is ∙ c.requires) c.in-Err.ensures.bytes c.in-Err.ensures.cause (λ le. c.saturating_add-self-inside.ensures))
