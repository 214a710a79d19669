use Rattle.std.proofs.Common.{ap, option_copied}
use Rattle.syn_constraint.specs.inner.Reading.{words_left}
use Rattle.syn_constraint.proofs.Lined.{last-some, last-more}
use Rattle.syn_constraint.proofs.lines.read_last.Goals as goal

pub returns-in-None : goal.returns-in-None
returns-in-None c = last-some (words_left (option_copied c.args.left)) c.in-Some.pattern (option_copied c.in-Some.behind) (ap option_copied c.in-None.is) c.in-Some.ensures

pub returns-in-Some-behind : goal.returns-in-Some-behind
returns-in-Some-behind c =
    last-more (words_left (option_copied c.args.left)) c.in-Some.pattern (option_copied c.in-Some.behind) _ (ap option_copied c.in-Some-behind.is) c.in-Some.ensures
