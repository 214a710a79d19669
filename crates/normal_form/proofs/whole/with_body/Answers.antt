use Rattle.std.proofs.Common.{length, ap, ◌∙◌}
use Rattle.ada_tree.specs.PlainStmt.{plain_body}
use Rattle.ada_tree.specs.PlainProgram.{plain_program}
use Rattle.normal_form.proofs.Composing.{composed}
use Rattle.normal_form.proofs.whole.with_body.Goals as goal

pub returns : goal.returns
returns c =
    composed c.args.lookups.now (plain_program c.program-p.result.now) c.texts_of.result c.all_decls-decls.new.track.names (length c.args.track.names.variables.items) c.args.track.decls.items (plain_body c.args.body)
    c.all_decls-decls.result c.program_of.result
    (c.program-p.ensures ∙ ap (λ h. h.program) c.links.ensures) c.texts_of.ensures c.requires.count c.requires.variables c.requires.body
    c.all_decls-decls.ensures.decls c.all_decls-decls.ensures.names c.all_decls-decls.ensures.count c.program_of.ensures
