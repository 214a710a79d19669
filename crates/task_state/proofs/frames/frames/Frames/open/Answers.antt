use Rattle.std.proofs.Common.{None}
use Rattle.task_state.specs.declared.frames.frame.Place.TheVariants as stands
use Rattle.task_state.proofs.frames.StackLemmas.{opened_settled}
use Rattle.task_state.proofs.frames.CallLemmas.{two_grounded}
use Rattle.task_state.proofs.frames.frames.Frames.open.Goals as goal

pub invariant_of-self-2 : goal.invariant_of-self-2
invariant_of-self-2 c = (
  opened_settled c.args.body.now c.args.caller c.args.formals None,
  two_grounded
      (stands.Opened c.args.caller c.args.formals None)
      c.self.inside.top.place
      c.passed.result
      record { rest = c.args.behind; place = stands.Inside }
      c.self.inside.outer.items
      c.reserve.new.self.items
      c.push_reserved.new.self.items
      c.push_reserved-2.new.self.items
      c.reserve.ensures.items
      c.push_reserved.ensures.items
      c.push_reserved-2.ensures.items
      c.passed.ensures.place
      c.self.invariant.1,
)
