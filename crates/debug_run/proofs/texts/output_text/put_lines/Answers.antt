use Rattle.debug_run.proofs.texts.Lining.{drawn_none, drawn_more, drawn_last}
use Rattle.debug_run.proofs.texts.output_text.put_lines.Goals as goal

pub loop-line-init : goal.loop-line-init
loop-line-init g c = drawn_none _ _

pub loop-line-preserved : goal.loop-line-preserved
loop-line-preserved g c = drawn_more _ _ _ _ _ _ _ c.in-Some.ensures.text c.loop-line.invariant c.put_finished.ensures

pub returns : goal.returns
returns g c = drawn_last _ _ _ _ _ _ c.in_default.ensures.text c.loop-line.invariant c.put_unfinished.ensures
