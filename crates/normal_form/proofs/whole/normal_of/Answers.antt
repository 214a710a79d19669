use Rattle.std.proofs.Common.{ap, ◌∙◌}
use Rattle.ada_tree.specs.PlainProgram.{plain_program}
use Rattle.normal_form.proofs.Composing.{names_for}
use Rattle.normal_form.proofs.whole.normal_of.Goals as goal

pub members_of-requires : goal.members_of-requires
members_of-requires c =
    names_for c.args.lookups.now (plain_program c.program.result.now) c.numbers.result.now c.in_ok-names.names (c.program.ensures ∙ ap (λ h. h.program) c.links.ensures) (c.numbers.ensures ∙ ap (λ h. h.numbers) c.links-2.ensures) c.in_ok-names.ensures.names

pub normal_from-requires-clause-names : goal.normal_from-requires-clause-names
normal_from-requires-clause-names c =
    names_for c.args.lookups.now (plain_program c.program.result.now) c.numbers.result.now c.in_ok-names.names (c.program.ensures ∙ ap (λ h. h.program) c.links.ensures) (c.numbers.ensures ∙ ap (λ h. h.numbers) c.links-2.ensures) c.in_ok-names.ensures.names
