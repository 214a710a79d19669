use Rattle.std.proofs.Common.{sym, ◌∙◌, rules}
use Rattle.std.proofs.lemmas.List.{at_drop_all}
use Rattle.common_lemmas.specs.Following.{every}
use Rattle.ada_lexer.specs.Numbers.{numeral_goes_on, decimal_from}
use Rattle.ada_lexer.proofs.NumberLemmas.{integer_value-some}
use Rattle.ada_lexer.proofs.numbers.integer.Goals as goal

-- the walk has come to the end
pub returns : goal.returns
returns c =
    let text = c.args.text.now in
    let value = c.loop-n.value in
    sym (integer_value-some text value (search (rules, c.is_empty.ensures)) (sym c.is_digit.ensures ∙ c.if-not-is_digit.false) (sym c.loop-n.invariant.goes_on ∙ at_drop_all (every numeral_goes_on) text c.loop-n.n c.loop-n-test.false) (sym (at_drop_all (decimal_from value) text c.loop-n.n c.loop-n-test.false) ∙ c.loop-n.invariant.counted) c.loop-n.invariant.small)
