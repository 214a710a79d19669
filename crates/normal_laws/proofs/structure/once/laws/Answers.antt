use Rattle.std.proofs.Common.{refl, sym, ◌∙◌}
use Rattle.normal_model.specs.NormalStmts.{normal_body}
use Rattle.normal_laws.proofs.structure.once.Places.{body-is}
use Rattle.normal_laws.proofs.structure.once.Rewritten.{body-same}
use Rattle.normal_laws.proofs.structure.once.Rules.{once-fit, fit-once, program-fit}
use Rattle.normal_laws.proofs.structure.once.Fits.{inner_is_fit, task_names_are_fixed, first_is_fit}
use Rattle.normal_laws.proofs.structure.once.Whole.{normal_declares}
use Rattle.normal_laws.proofs.structure.units.Examples.{original}
use Rattle.normal_laws.proofs.structure.once.laws.Goals as goal

pub returns : goal.returns
returns c = record {
  once = λ ss. (once-fit ss, fit-once ss);
  program = program-fit;
  inner = inner_is_fit;
  fixed = task_names_are_fixed;
  names = λ u b s t. body-is t (normal_body u b) ∙ body-same u b ∙ sym (body-is s b);
  first = first_is_fit;
  declares = normal_declares;
  met = (original, refl, refl);
}
