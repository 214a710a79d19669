use Rattle.std.proofs.Common.{ap, ◌∙◌, is_some}
use Rattle.normal_model.specs.Names.{name_of_task}
use Rattle.normal_model.specs.Members.{index_literal}
use Rattle.normal_lookups.proofs.meanings.Keeping.{kept_task}
use Rattle.common_lemmas.proofs.Results.{on_ok}
use Rattle.normal_lookups.proofs.meanings.array_members.keep_task.Goals as goal

pub returns-in-Some : goal.returns-in-Some
returns-in-Some c =
    let g = c.args.lookups.now in
    on_ok c.keep_member.result (λ h.
    kept_task g c.args.members.now c.keep_member.new.members c.args.info (record { index = c.index_literal.result; name = c.task.result })
    (ap is_some c.in-Some.is) h
    (λ s. c.index_literal.ensures s ∙ ap (λ k. index_literal k s c.args.info.member) c.kind_of_index.ensures)
    (c.task.ensures g c.requires.names ∙ ap (name_of_task g) c.requires.task)) c.keep_member.ensures
