use Rattle.std.proofs.Common.{◌∙◌, ap, Some}
use Rattle.task_model.specs.Setting.{Lists, member_index, entry_parameters}
use Rattle.task_model.specs.Calls.{openings, called_with, opening_values}
use Rattle.task_waits.specs.calls.Looks.{values_or_none, plain_lists}
use Rattle.task_waits.proofs.calls.Opening.{call_opens, index_opens}
use Rattle.common_lemmas.proofs.Results.{on_ok}
use Rattle.task_waits.proofs.calls.here.Here.put_actuals.Goals as goal

pub returns-in-Ok-clause-ok : goal.returns-in-Ok-clause-ok
returns-in-Ok-clause-ok c =
    let g = c.args.self.now.links.now in
    let vars = c.args.self.now.objects.now in
    let lists = plain_lists c.lists_of-lists.result in
    on_ok c.put_openings.result
    (λ is.
    is
    ∙ ap (λ fs. values_or_none (openings g.types vars fs lists.actuals)) c.entry_parameters-formals.ensures
    ∙ call_opens c.args.entry c.in-Ok.field-0 (member_index g vars c.args.entry lists.index) (openings g.types vars (entry_parameters g c.args.entry) lists.actuals) c.in-Ok.ensures
    ∙ ap (λ (l : Lists). opening_values (Some (called_with g vars c.args.entry l))) c.lists_of-lists.ensures)
    c.put_openings.ensures.ok

pub returns-in-Err-clause-ok : goal.returns-in-Err-clause-ok
returns-in-Err-clause-ok c =
    let g = c.args.self.now.links.now in
    let vars = c.args.self.now.objects.now in
    let lists = plain_lists c.lists_of-lists.result in
    c.clear.ensures.items
    ∙ index_opens c.args.entry c.in-Err.field-0 (member_index g vars c.args.entry lists.index) (openings g.types vars (entry_parameters g c.args.entry) lists.actuals) c.in-Err.ensures
    ∙ ap (λ (l : Lists). opening_values (Some (called_with g vars c.args.entry l))) c.lists_of-lists.ensures
