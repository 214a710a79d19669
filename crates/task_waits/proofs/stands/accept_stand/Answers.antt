use Rattle.std.proofs.Common.{rules, ◌∙◌, ◌++◌, ◌∷◌, [], ap, w32, FitsSigned}
use Rattle.std.proofs.lemmas.Int.{to_z-of_z}
use Rattle.event_machine.specs.declared.Choice.TheVariants as choice
use Rattle.ada_tree.specs.PlainStmt.{plain_accept}
use Rattle.task_waits.specs.Standing.{task_here}
use Rattle.task_waits.proofs.Offering.{accept_waits, accept_raises}
use Rattle.task_waits.proofs.stands.accept_stand.Goals as goal

pub returns-in-Ok-clause-ok : goal.returns-in-Ok-clause-ok
returns-in-Ok-clause-ok c =
    let fits : FitsSigned w32 c.in-Ok.member.index = search rules in
    accept_waits (task_here c.args.here.now) (plain_accept c.args.accept.now) c.in-Ok.member c.clear.new.self.items c.push_reserved.new.self.items c.in-Ok.ensures c.clear.ensures.items (c.push_reserved.ensures.items ∙ ap (λ i. c.clear.new.self.items ++ choice.Accept c.in-Ok.member.entry i ∷ []) (to_z-of_z w32 c.in-Ok.member.index fits))

pub returns-in-Err-clause-ok : goal.returns-in-Err-clause-ok
returns-in-Err-clause-ok c = accept_raises (task_here c.args.here.now) (plain_accept c.args.accept.now) c.in-Err.raised c.in-Err.ensures
