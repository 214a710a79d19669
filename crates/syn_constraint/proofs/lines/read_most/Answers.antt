use Rattle.std.proofs.Common.{option_copied}
use Rattle.syn_constraint.specs.declared.constraints.Constraint.TheVariants.{Most}
use Rattle.syn_constraint.specs.inner.Reading.{words_left, capped_constraint}
use Rattle.syn_constraint.proofs.Lined.{three-second, three-third}
use Rattle.syn_constraint.proofs.lines.read_most.Goals as goal

pub returns-in_default-read_pattern : goal.returns-in_default-read_pattern
returns-in_default-read_pattern c =
    three-second capped_constraint (Most c.args.limit) (words_left (option_copied c.args.left)) (words_left (option_copied c.in-Some.left)) c.in-Some.counted c.in-Some.ensures c.in_default-read_pattern.ensures

pub returns-in-None : goal.returns-in-None
returns-in-None c =
    three-third capped_constraint (Most c.args.limit) (words_left (option_copied c.args.left)) (words_left (option_copied c.in-Some.left)) (words_left (option_copied c.in-Some-read_pattern.left)) c.in-Some.counted
    c.in-Some-read_pattern.opens c.in-Some.ensures c.in-Some-read_pattern.ensures c.in-None.ensures
