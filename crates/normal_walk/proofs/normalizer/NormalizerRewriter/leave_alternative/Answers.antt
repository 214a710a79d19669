use Rattle.common_lemmas.proofs.Results.{on_ok}
use Rattle.normal_walk.proofs.normalizer.NormalizerRewriter.leave_alternative.Goals as goal

pub returns : goal.returns
returns c = on_ok c.leave_alternative.result (λ h. h c.args.self.now.task) c.leave_alternative.ensures
