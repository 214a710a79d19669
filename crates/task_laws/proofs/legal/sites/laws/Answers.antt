use Rattle.task_laws.proofs.legal.sites.Meeting.{all_met, all_check_met}
use Rattle.task_laws.proofs.legal.sites.NamedDecls.{all_are_named}
use Rattle.task_laws.proofs.legal.sites.laws.Goals as goal

pub returns : goal.returns
returns c = record { met = all_met; checked = all_check_met; names = all_are_named }
