use Rattle.normal_laws.proofs.structure.types.Names.{added_names_are_new}
use Rattle.normal_laws.proofs.structure.types.Fronts.{first_decls_are_front}
use Rattle.normal_laws.proofs.structure.types.Normal.{normal_is_rooted, normal_agrees, normal_values, main_objects, body_objects, variable_is_object}
use Rattle.normal_laws.proofs.structure.types.RangeForms.{range_forms}
use Rattle.normal_laws.proofs.structure.types.Instance.{is_met}
use Rattle.normal_laws.proofs.structure.types.laws.Goals as goal

pub returns : goal.returns
returns c = record {
  new = added_names_are_new;
  front = first_decls_are_front;
  rooted = normal_is_rooted;
  agree = normal_agrees;
  values = normal_values;
  main = main_objects;
  bodies = body_objects;
  variables = variable_is_object;
  ranges = range_forms;
  met = is_met;
}
