use Rattle.std.proofs.Common.{◌∙◌, ap, length}
use Rattle.syn_event.specs.Numbering.{Numbering}
use Rattle.syn_order.proofs.Keeping.{kept_at_start}
use Rattle.syn_order.proofs.followed.Followed.new.Goals as goal

pub returns-clause-callers : goal.returns-clause-callers
returns-clause-callers c =
    kept_at_start (length c.args.numbers.now.tasks) _ c.in_ok-progress.progress _ c.in_ok-progress.ensures c.in_ok-callers.ensures
    (ap length c.as_slice.ensures.value ∙ ap (λ (n : Numbering). length n.tasks) c.numbers.view_is)
