use Rattle.std.proofs.Common.{unwrap_or, ap, ◌∙◌}
use Rattle.replay_declarations.proofs.units.Running.{running}
use Rattle.replay_declarations.proofs.units.runners.first_running.Goals as goal

pub returns-in-Some : goal.returns-in-Some
returns-in-Some c = λ numbers is. ap (λ o. unwrap_or o 0) (c.in-Some.ensures ∙ running numbers c.args.runners.now c.args.name is)

pub returns-in-None : goal.returns-in-None
returns-in-None c = λ numbers is. ap (λ o. unwrap_or o 0) (c.in-None.ensures ∙ running numbers c.args.runners.now c.args.name is)
