use Rattle.std.proofs.Common.{[], ◌∷◌, ◌++◌, ap, ◌∙◌}
use Rattle.debug_collect.proofs.Files.{line-put, lines-put}
use Rattle.debug_collect.proofs.recording.put_finished.Goals as goal

pub loop-line-preserved : goal.loop-line-preserved
loop-line-preserved c =
    line-put _ c.loop-line.file.items c.push.new.self.items c.loop-line.rest.now c.in-Some.line.now c.in-Some.behind.now c.in-Some.ensures.parts c.loop-line.invariant
    (c.in_ok-push.ensures.items ∙ ap (λ l. l ++ 10 ∷ []) c.in_ok-extend_from_slice.ensures.items)

pub returns : goal.returns
returns c = lines-put _ _ _ c.in_default.ensures.parts c.loop-line.invariant
