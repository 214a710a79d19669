use Rattle.std.proofs.Common.{ap, sym, ◌∙◌, option_map}
use Rattle.normal_lookups.proofs.Finding.{range_is}
use Rattle.normal_lookups.proofs.ranges.array_range.Goals as goal

pub returns-in-Some : goal.returns-in-Some
returns-in-Some c = λ p same. range_is p c.args.ranges.now c.args.name _ (sym c.meaning.ensures ∙ ap (option_map (λ t. t.now)) c.in-Some.is) same

pub returns-in-None : goal.returns-in-None
returns-in-None c = λ p same. range_is p c.args.ranges.now c.args.name _ (sym c.meaning.ensures ∙ ap (option_map (λ t. t.now)) c.in-None.is) same
