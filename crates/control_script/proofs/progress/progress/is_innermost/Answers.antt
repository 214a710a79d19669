use Rattle.std.proofs.Common.{sym, ◌∙◌}
use Rattle.control_script.proofs.progress.Reading.{innermost_known}
use Rattle.control_script.proofs.progress.progress.is_innermost.Goals as goal

pub returns-then-has_callers : goal.returns-then-has_callers
returns-then-has_callers c = rw c.innermost.ensures (sym (innermost_known c.args.members.now c.args.a c.args.task (sym c.has_callers.ensures ∙ c.if-has_callers.true)))
