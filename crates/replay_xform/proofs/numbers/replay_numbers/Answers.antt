use Rattle.std.proofs.Common.{ap, ◌∙◌, refl}
use Rattle.replay_xform.proofs.Counted.{counted}
use Rattle.replay_xform.proofs.numbers.replay_numbers.Goals as goal

pub returns : goal.returns
returns c =
    counted c.args.lookups.now
    (record { tables = record { ref_ptr = (0, 0); now = c.in_ok-tables.tables }; numbers = record { ref_ptr = (0, 0); now = c.in_ok-tasks.tasks }; task = 0 })
    c.args.names.now c.numbers_by.result c.requires c.in_ok-tables.ensures (c.in_ok-tasks.ensures ∙ c.numbers-numbers.ensures ∙ ap (λ g. g.numbers) c.links-2.ensures) refl c.numbers_by.ensures
