use Rattle.std.proofs.Common.{◌≡◌, map, take, fold, option_map, IfOk}
use Rattle.ada_tree.specs.PlainExpr.{plain_expr}
use Rattle.replay_model.specs.Waiting.{and_guard, and_later}
use Rattle.replay_asking.specs.Looked.{voice_of}
use Rattle.replay_asking.specs.Spoken.{is_for}
use Rattle.replay_statements.specs.waiting.Waited.{plain_pause}
use Rattle.replay_statements.proofs.waiting.guarding.is_due.Given as goal

abbrev pub invariant-loop-pause : goal.invariant-loop-pause
invariant-loop-pause l =
    IfOk l.test (λ made. plain_expr made ≡ fold (and_later l.s l.thousandths) (and_guard l.s (is_for (voice_of l.x) l.s 4 l.k) (option_map plain_expr l.guard)) (map plain_pause (take l.pause-index l.pauses)))
