use Rattle.common_lemmas.proofs.Results.{on_ok}
use Rattle.normal_walk.proofs.normalizer.NormalizerRewriter.replace_stmt.Goals as goal

pub returns : goal.returns
returns c = on_ok c.put_image.result (λ h. h c.args.self.now.task) c.put_image.ensures
