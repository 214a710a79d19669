use Rattle.std.proofs.Common.{rules, ◌==◌, not}
use Rattle.std.proofs.lemmas.Fn.{filter_same}
use Rattle.task_machine.proofs.moving.leave_line.Goals as goal

pub returns : goal.returns
returns c = filter_same _ (λ x. not (x == c.args.c)) _ (λ x b f h. search rules) _ _ c.retain.ensures.filtered
