use Rattle.std.proofs.Common.{◌∙◌}
use Rattle.progress_law.proofs.Runs.{never_refuses}
use Rattle.progress_law.proofs.can_come.Goals as goal

pub returns-clause-never_refuses : goal.returns-clause-never_refuses
returns-clause-never_refuses c = λ setup events is feasible. c.admits.ensures ∙ never_refuses c.args.numbers.now c.args.progress.now c.args.e.now setup events is feasible
