use Rattle.normal_laws.proofs.existence.variable_types.Fields.{ready-legal, marks, families, truths, integers, scalar}
use Rattle.normal_laws.proofs.existence.clear_scopes.Ready.{is_ready}
use Rattle.normal_laws.proofs.existence.variable_types.laws.Goals as goal

pub returns : goal.returns
returns c = record { legal = ready-legal; marks = marks; families = families; truths = truths; integers = integers; scalar = scalar; met = is_ready }
