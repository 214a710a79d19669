use Rattle.std.proofs.Common.{ap}
use Rattle.ded_io.proofs.pages.Drawn.{closed, drew_both}
use Rattle.debug_run.proofs.texts.output_text.put_output.Goals as goal

pub returns-clause-bytes : goal.returns-clause-bytes
returns-clause-bytes g c =
    (closed _ _ _ _ _ _ _ (ap (λ s. s.failed) c.new-page.ensures) (ap (λ s. s.waiting) c.new-page.ensures) c.close.ensures.empty
    (drew_both _ _ _ _ c.put_lines.ensures c.close.ensures.drew) c.close.result c.close.ensures.answer).0

pub returns-clause-cause : goal.returns-clause-cause
returns-clause-cause g c =
    (closed _ _ _ _ _ _ _ (ap (λ s. s.failed) c.new-page.ensures) (ap (λ s. s.waiting) c.new-page.ensures) c.close.ensures.empty
    (drew_both _ _ _ _ c.put_lines.ensures c.close.ensures.drew) c.close.result c.close.ensures.answer).1
