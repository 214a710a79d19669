use Rattle.std.proofs.Common.{codes, sym, ◌∙◌}
use Rattle.ada_parser.proofs.Identifying.{found_here, later}
use Rattle.ada_parser.proofs.reading.is_priority.Goals as goal

pub returns-in-Some-clause-here : goal.returns-in-Some-clause-here
returns-in-Some-clause-here c = λ same. found_here c.args.names.now c.args.id (codes "PRIORITY") c.in-Some.text.now (sym c.in-Some.ensures.text) (sym c.eq.ensures ∙ same)

pub returns-in-Some-clause-later : goal.returns-in-Some-clause-later
returns-in-Some-clause-later c = λ other. later c.args.names.now c.args.id (codes "PRIORITY") c.in-Some.text.now (sym c.in-Some.ensures.text) (sym c.eq.ensures ∙ other)
