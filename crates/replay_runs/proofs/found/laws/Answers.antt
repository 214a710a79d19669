use Rattle.normal_laws.proofs.existence.Instance.{choosing-is-legal}
use Rattle.replay_runs.proofs.found.Doubled.{doubles_are_found}
use Rattle.replay_runs.proofs.found.Added.{more_are_found}
use Rattle.replay_runs.proofs.found.Legal.{legal_has_names_apart, legal_doubles_are_found, legal_more_are_found}
use Rattle.replay_runs.proofs.found.laws.Goals as goal

pub returns : goal.returns
returns c = record {
  doubles = doubles_are_found;
  more = more_are_found;
  apart = legal_has_names_apart;
  legal_doubles = legal_doubles_are_found;
  legal_more = legal_more_are_found;
  met = choosing-is-legal;
}
