use Rattle.std.proofs.Common.{◌∙◌, sym, option_copied}
use Rattle.syn_constraint.specs.inner.Reading.{words_left}
use Rattle.syn_constraint.proofs.Lined.{before-line, never-line}
use Rattle.syn_constraint.proofs.lines.read_line.Goals as goal

pub returns-then-is_text : goal.returns-then-is_text
returns-then-is_text c =
    c.read_before.ensures ∙ before-line c.args.text.now c.in-Some.word.now (words_left (option_copied c.in-Some.left)) c.in-Some.ensures (sym c.if-is_text.ensures)

pub returns-then-is_text-2 : goal.returns-then-is_text-2
returns-then-is_text-2 c =
    c.read_most.ensures
    ∙ never-line c.args.text.now c.in-Some.word.now (words_left (option_copied c.in-Some.left)) c.in-Some.ensures (sym c.if-is_text.ensures) (sym c.if-is_text-2.ensures)
