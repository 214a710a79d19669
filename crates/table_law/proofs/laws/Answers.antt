use Rattle.table_law.proofs.Making.{controllers_make_operations}
use Rattle.table_law.proofs.Apart.{control_names_are_apart, control_names_are_there}
use Rattle.table_law.proofs.Examples.{example_is_controller, example_makes}
use Rattle.table_law.proofs.laws.Goals as goal

pub returns : goal.returns
returns c = record {
  makes = controllers_make_operations;
  apart = control_names_are_apart;
  there = control_names_are_there;
  met = example_is_controller;
  possible = example_makes;
}
