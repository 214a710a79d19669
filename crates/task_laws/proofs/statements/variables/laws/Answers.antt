use Rattle.task_laws.proofs.statements.variables.Carried.{variables_start, variables_stay, inner_stays, names_mean_kept, counts_one}
use Rattle.task_laws.proofs.statements.variables.Everywhere.{every_body_is_so}
use Rattle.task_laws.proofs.statements.variables.laws.Goals as goal

pub returns : goal.returns
returns c = record { starts = variables_start; stays = variables_stay; inner = inner_stays; means = names_mean_kept; counts = counts_one; any = every_body_is_so }
