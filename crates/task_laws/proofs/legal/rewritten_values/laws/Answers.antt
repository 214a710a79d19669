use Rattle.task_laws.proofs.legal.rewritten_values.Saying.{tables_agree_on_values}
use Rattle.task_laws.proofs.legal.rewritten_values.Named.{literals_are_named}
use Rattle.task_laws.proofs.legal.rewritten_values.Evaluating.{evaluated_alike}
use Rattle.task_laws.proofs.legal.rewritten_values.Objects.{forms_alike, objects_alike, marked_has_form}
use Rattle.task_laws.proofs.legal.rewritten_values.Staying.{objects_stay}
use Rattle.task_laws.proofs.legal.rewritten_values.FirstDeclarations.{is_met}
use Rattle.task_laws.proofs.legal.rewritten_values.laws.Goals as goal

pub returns : goal.returns
returns c = record {
  values = tables_agree_on_values;
  literals = literals_are_named;
  evaluated = evaluated_alike;
  forms = forms_alike;
  objects = objects_alike;
  stay = objects_stay;
  marked = marked_has_form;
  met = is_met;
}
