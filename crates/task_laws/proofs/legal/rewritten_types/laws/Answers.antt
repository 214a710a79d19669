use Rattle.task_laws.proofs.legal.rewritten_types.Rooting.{rewritten_is_rooted, rooted_agrees}
use Rattle.task_laws.proofs.legal.rewritten_types.Refused.{declared_once}
use Rattle.task_laws.proofs.legal.rewritten_types.Staying.{staying_is_front}
use Rattle.task_laws.proofs.legal.rewritten_types.Unmarked.{unvalued_has_no_mark}
use Rattle.task_laws.proofs.legal.rewritten_types.NamedKinds.{kinds_are_named}
use Rattle.task_laws.proofs.legal.rewritten_types.laws.Goals as goal

pub returns : goal.returns
returns c = record { rooted = rewritten_is_rooted; agree = rooted_agrees; once = declared_once; unvalued = unvalued_has_no_mark; named = kinds_are_named; met = staying_is_front }
