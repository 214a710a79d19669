use Rattle.task_laws.proofs.legal.alike_scopes.Tables.{rooted_is_same}
use Rattle.task_laws.proofs.legal.alike_scopes.Demands.{alike_refuses_same}
use Rattle.task_laws.proofs.legal.alike_scopes.Exprs.{exprs_are_same, dranges_are_same}
use Rattle.task_laws.proofs.legal.alike_scopes.Selectors.{selectors_are_same, targets_are_same}
use Rattle.task_laws.proofs.legal.alike_scopes.Inner.{inside_is_alike, formals_are_alike, loop_is_alike, objects_are_alike}
use Rattle.task_laws.proofs.legal.alike_scopes.Calls.{tasks_refuse_same, calls_refuse_same, called_is_same, fewer_are_alike}
use Rattle.task_laws.proofs.legal.alike_scopes.Examples.{is_met}
use Rattle.task_laws.proofs.legal.alike_scopes.laws.Goals as goal

pub returns : goal.returns
returns c = record {
  rooted = rooted_is_same;
  refused = alike_refuses_same;
  tasks = tasks_refuse_same;
  calls = calls_refuse_same;
  called = called_is_same;
  exprs = exprs_are_same;
  selectors = selectors_are_same;
  targets = targets_are_same;
  ranges = dranges_are_same;
  fewer = fewer_are_alike;
  inside = inside_is_alike;
  formals = formals_are_alike;
  loops = loop_is_alike;
  objects = objects_are_alike;
  met = is_met;
}
