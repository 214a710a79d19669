use Rattle.std.proofs.Common.{map, ap, ◌∙◌}
use Rattle.ada_tree.specs.PlainDecl.{plain_decl, decls_of}
use Rattle.ada_tree.specs.PlainProgram.{plain_program}
use Rattle.ada_task_numbers.specs.task_objects.PlainNames.{plain_named_tasks}
use Rattle.ada_task_numbers.specs.task_counts.inner.Shares.{body_shares}
use Rattle.ada_task_numbers.proofs.task_counts.Copying.{copies_met}
use Rattle.ada_task_numbers.proofs.task_counts.copies.refuse_copies.Goals as goal

pub returns : goal.returns
returns c = λ around same.
    copies_met c.args.by.now around c.args.types.now (map plain_named_tasks c.args.parts.now) (plain_program c.args.p.now) _ _ c.body_share.result c.count_on-own.result _ same
    c.in_ok-rates.ensures
    (c.in_ok-shares.ensures ∙ ap (λ l. body_shares c.in_ok-rates.rates (decls_of (map plain_decl l))) c.deref.ensures.value)
    c.body_share.ensures
    c.count_on-own.ensures.count
    (c.count_on-own.ensures.refusal around)
    (c.count_copies.ensures around)
