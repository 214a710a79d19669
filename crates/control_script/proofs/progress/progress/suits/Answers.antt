use Rattle.control_script.proofs.progress.Reading.{none_served}
use Rattle.control_script.proofs.progress.progress.suits.Goals as goal

pub returns-in-Z : goal.returns-in-Z
returns-in-Z c = rw c.in-Z.is (none_served c.args.members.now c.args.served c.requires)
