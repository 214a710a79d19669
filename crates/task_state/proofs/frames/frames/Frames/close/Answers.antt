use Rattle.std.proofs.Common.{◌≡◌, ap, length, refl, reverse}
use Rattle.task_state.specs.declared.frames.frame.Place.TheVariants as stands
use Rattle.task_state.specs.frames.Seen.{stack_of}
use Rattle.task_state.specs.frames.Stack.{Held}
use Rattle.task_state.proofs.frames.CallLemmas.{closes_from, closes_nothing}
use Rattle.task_state.proofs.frames.frames.Frames.close.Goals as goal

pub returns-in_default : goal.returns-in_default
returns-in_default c =
    closes_nothing
    c.self.inside.top
    c.self.inside.outer.items
    c.args.self.now.stack
    (ap (λ (h : Held). h.stack) c.self.view_is)
    c.self.invariant.0
    c.in_default.not-Opened

pub returns-in-Some : goal.returns-in-Some
returns-in-Some c =
    let is : c.self.inside.top.place ≡ stands.Opened c.in-Opened.caller c.in-Opened.formals c.in-Opened.pending = cc in
    closes_from
    c.self.inside.top
    c.in-Some.below
    c.in-Opened.caller
    c.in-Opened.formals
    c.in-Opened.pending
    c.self.inside.outer.items
    c.pop.new.self.items
    c.args.self.now.stack
    (stack_of c.raise_if-landing.result.frame (reverse c.raise_if-landing.new.outer.items))
    (stack_of c.settle-self-inside.result (reverse c.settle-self-inside.new.outer.items))
    (length c.in-Opened.formals.now)
    c.raise_if-landing.result.gone
    is
    c.in-Some.ensures.items
    (ap (λ (h : Held). h.stack) c.self.view_is)
    refl
    c.raise_if-landing.ensures.lands
    c.settle-self-inside.ensures.settles
