use Rattle.std.proofs.Common.{ap, ◌∙◌}
use Rattle.feasible.specs.Keeping.{is_feasible}
use Rattle.race_variant.proofs.continuing.go_on.Goals as goal

pub returns-in-Err-clause-feasible : goal.returns-in-Err-clause-feasible
returns-in-Err-clause-feasible g c = λ setup events s. ap is_feasible c.give_up.ensures.verdict ∙ c.go_on_kept.ensures.so_far.feasible setup events s
