use Rattle.normal_laws.proofs.legality.checks.Joined.{normal_meets_checks}
use Rattle.normal_laws.proofs.legality.checks.Examples.{is_met}
use Rattle.normal_laws.proofs.legality.checks.laws.Goals as goal

pub returns : goal.returns
returns c = record { checked = normal_meets_checks; met = is_met }
