use Rattle.feasible.proofs.JudgeLaws.{away_settled, verdict_each}
use Rattle.feasible.proofs.judge_laws.laws.Goals as goal

pub returns-clause-away : goal.returns-clause-away
returns-clause-away c = away_settled

pub returns-clause-verdicts : goal.returns-clause-verdicts
returns-clause-verdicts c = verdict_each
