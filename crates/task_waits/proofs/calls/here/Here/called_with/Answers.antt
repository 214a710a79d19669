use Rattle.std.proofs.Common.{rules, ◌∙◌, ap, Ok, w32, FitsSigned}
use Rattle.std.proofs.lemmas.Int.{to_z-of_z}
use Rattle.task_model.specs.Setting.{Lists, member_index, entry_parameters}
use Rattle.task_model.specs.Calls.{openings, called_with}
use Rattle.task_waits.specs.calls.Looks.{raised_by, member_called, plain_lists}
use Rattle.task_waits.proofs.calls.Opening.{call_named, call_raises, index_raises}
use Rattle.task_waits.proofs.calls.here.Here.called_with.Goals as goal

pub returns-in-Some : goal.returns-in-Some
returns-in-Some c =
    let g = c.args.self.now.links.now in
    let vars = c.args.self.now.objects.now in
    let lists = plain_lists c.lists_of-lists.result in
    call_raises c.args.entry c.in-Ok.index c.in-Some.raised (member_index g vars c.args.entry lists.index) (openings g.types vars (entry_parameters g c.args.entry) lists.actuals)
    c.in-Ok.ensures
    (c.in-Some.ensures ∙ ap (λ fs. raised_by (openings g.types vars fs lists.actuals)) c.entry_parameters-formals.ensures)
    ∙ ap (λ (l : Lists). member_called (called_with g vars c.args.entry l)) c.lists_of-lists.ensures

pub returns-in-None : goal.returns-in-None
returns-in-None c =
    let g = c.args.self.now.links.now in
    let vars = c.args.self.now.objects.now in
    let lists = plain_lists c.lists_of-lists.result in
    let fits : FitsSigned w32 c.in-Ok.index = search rules in
    ap (λ i. Ok record { entry = c.args.entry; index = i }) (to_z-of_z w32 c.in-Ok.index fits)
    ∙ call_named c.args.entry c.in-Ok.index (member_index g vars c.args.entry lists.index) (openings g.types vars (entry_parameters g c.args.entry) lists.actuals)
    c.in-Ok.ensures
    (c.in-None.ensures ∙ ap (λ fs. raised_by (openings g.types vars fs lists.actuals)) c.entry_parameters-formals.ensures)
    ∙ ap (λ (l : Lists). member_called (called_with g vars c.args.entry l)) c.lists_of-lists.ensures

pub returns-in-Err : goal.returns-in-Err
returns-in-Err c =
    let g = c.args.self.now.links.now in
    let vars = c.args.self.now.objects.now in
    let lists = plain_lists c.lists_of-lists.result in
    index_raises c.args.entry c.in-Err.raised (member_index g vars c.args.entry lists.index) (openings g.types vars (entry_parameters g c.args.entry) lists.actuals) c.in-Err.ensures
    ∙ ap (λ (l : Lists). member_called (called_with g vars c.args.entry l)) c.lists_of-lists.ensures
