use Rattle.std.proofs.Common.{ap, ◌∙◌, ◌≡◌, ℤ, rules, w32, to_z, of_z}
use Rattle.event_machine.specs.Applying.{starts, starts_at}
use Rattle.syn_event.specs.Numbering.{owner_of}
use Rattle.task_model.specs.TaskOps.{task_ops}
use Rattle.task_machine.specs.Table.{seen_in}
use Rattle.task_machine.proofs.applying.starts.Goals as goal

pub returns-in-Call : goal.returns-in-Call
returns-in-Call c =
    let same : to_z w32 (of_z w32 c.in-Call.i) ≡ c.in-Call.i = search rules in
    c.starts_at.ensures
    ∙ ap (λ (i : ℤ). starts_at task_ops (owner_of c.args.numbers.now) (seen_in c.args.seats.now c.args.line.now) c.args.c c.in-Call.form c.in-Call.e i) same
    ∙ ap (starts task_ops (owner_of c.args.numbers.now) (seen_in c.args.seats.now c.args.line.now) c.args.c) c.in-Call.ensures
