use Rattle.std.proofs.Common.{◌≡◌, drop}
use Rattle.task_model.specs.Frames.{handler_for}
use Rattle.task_state.specs.frames.Seen.{seen_handlers}
use Rattle.task_state.proofs.frames.frame.handler_for.Given as goal

-- none of the handlers gone by is for the exception
abbrev pub invariant-loop-handler : goal.invariant-loop-handler
invariant-loop-handler l =
    handler_for l.raised (seen_handlers l.handlers) ≡ handler_for l.raised (seen_handlers (drop l.handler-index l.handlers))
