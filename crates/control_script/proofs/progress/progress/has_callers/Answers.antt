use Rattle.std.proofs.Common.{not, ◌&&◌, nat_lt, sym, ap, ◌∙◌}
use Rattle.control_script.specs.progress.TaskRecords.{member_at}
use Rattle.control_script.proofs.progress.Reading.{callers_known}
use Rattle.control_script.proofs.progress.progress.has_callers.Goals as goal

pub returns-then-not-is_closed : goal.returns-then-not-is_closed
returns-then-not-is_closed c = rw c.depth.ensures
    (sym (callers_known c.args.members.now c.args.a ∙ ap (λ b. b && nat_lt 0 (member_at c.args.members.now c.args.a).depth) (ap not (sym c.is_closed.ensures ∙ c.if-not-is_closed.true))))
