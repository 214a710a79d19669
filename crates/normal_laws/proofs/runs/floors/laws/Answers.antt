use Rattle.normal_laws.proofs.runs.floors.Carried.{normal_translates, normal_steps, normal_starts, normal_raises, normal_opens, normal_ends, normal_enters, normal_preludes}
use Rattle.normal_laws.proofs.runs.floors.Instances.{forms_are_asked}
use Rattle.normal_laws.proofs.runs.floors.laws.Goals as goal

pub returns : goal.returns
returns c = record {
  translates = normal_translates;
  steps = normal_steps;
  starts = normal_starts;
  raises = normal_raises;
  opens = normal_opens;
  ends = normal_ends;
  enters = normal_enters;
  preludes = normal_preludes;
  met = forms_are_asked;
}
