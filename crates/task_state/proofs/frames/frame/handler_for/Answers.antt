use Rattle.std.proofs.Common.{◌≡◌, ◌<◌, true, false, length, arith}
use Rattle.task_model.specs.Frames.{is_for}
use Rattle.task_state.proofs.frames.CallLemmas.{taken_at, passed_at}
use Rattle.task_state.proofs.frames.frame.handler_for.Goals as goal

pub returns-then-is_for : goal.returns-then-is_for
returns-then-is_for c =
    let within : c.loop-handler.handler-index < length c.args.handlers.now = omega arith in
    let taken : is_for c.args.raised c.deref.result.now ≡ true = cc in
    taken_at
    c.args.raised
    c.args.handlers.now
    c.loop-handler.handler-index
    c.handler-item.result
    c.deref.result.now
    c.deref-then-is_for.result.now
    within
    c.handler-item.is
    c.deref-then-is_for.ensures.value
    c.deref.ensures.value
    taken
    c.loop-handler.invariant

pub loop-handler-preserved : goal.loop-handler-preserved
loop-handler-preserved c =
    let within : c.loop-handler.handler-index < length c.args.handlers.now = omega arith in
    let passes : is_for c.args.raised c.deref.result.now ≡ false = cc in
    passed_at c.args.raised c.args.handlers.now c.loop-handler.handler-index c.handler-item.result c.deref.result.now within c.handler-item.is c.deref.ensures.value passes c.loop-handler.invariant
