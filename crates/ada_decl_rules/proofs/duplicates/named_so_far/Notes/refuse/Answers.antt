use Rattle.std.proofs.Common.{◌∙◌, [], ap}
use Rattle.ada_tree.specs.PlainStmt.{plain_body}
use Rattle.ada_decl_rules.specs.duplicates.NamingsInOrder.{first_repeated}
use Rattle.ada_decl_rules.proofs.duplicates.Behind.{refused_by}
use Rattle.common_lemmas.proofs.Results.{if_ok}
use Rattle.ada_decl_rules.proofs.duplicates.named_so_far.Notes.refuse.Goals as goal

pub returns : goal.returns
returns c =
    if_ok c.refuse_repeats.result (λ r p before scope h. p ∙ ap (first_repeated [] []) c.deref.ensures.value
    ∙ refused_by before scope c.self.inside.namings.items c.note_body.new.namings.items (plain_body c.args.body.now) (ap (λ n. n.namings) c.self.view_is ∙ h) c.in_ok-note_body.ensures) c.refuse_repeats.ensures
