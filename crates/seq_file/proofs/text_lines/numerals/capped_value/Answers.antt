use Rattle.std.proofs.Common.{sym, ◌∙◌}
use Rattle.std.proofs.lemmas.List.{at_drop_all}
use Rattle.seq_file.specs.text_lines.Numerals.{value_behind}
use Rattle.seq_file.specs.text_lines.Capped.{capped}
use Rattle.seq_file.proofs.text_lines.Capping.{capped-small}
use Rattle.seq_file.proofs.text_lines.numerals.capped_value.Goals as goal

-- the walk has come to the end
pub returns : goal.returns
returns c =
    sym (capped-small _ c.loop-b.invariant.small)
    ∙ sym (at_drop_all (λ t. capped (value_behind c.loop-b.value t)) c.args.word.now c.loop-b.b-index c.loop-b-test.false)
    ∙ c.loop-b.invariant.value
