use Rattle.std.proofs.Common.{option_copied}
use Rattle.syn_constraint.specs.declared.constraints.Constraint.TheVariants.{Before}
use Rattle.syn_constraint.specs.inner.Reading.{words_left, capped_constraint}
use Rattle.syn_constraint.proofs.Lined.{two-missing}
use Rattle.syn_constraint.proofs.lines.read_before.Goals as goal

pub returns-in-None : goal.returns-in-None
returns-in-None c =
    two-missing capped_constraint Before (words_left (option_copied c.args.left)) (words_left (option_copied c.in-Some.behind)) c.in-Some.early c.in-Some.ensures c.in-None.ensures
