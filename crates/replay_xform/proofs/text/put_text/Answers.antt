use Rattle.std.proofs.Common.{◌≡◌, ℕ, List, ap, sym, subst, ◌∙◌, refl}
use Rattle.ada_tree.specs.PlainDecl.{plain_decl}
use Rattle.ada_tree.specs.PlainProgram.{plain_program}
use Rattle.syn_event.specs.Numbering.{Numbering}
use Rattle.replay_model.specs.ReplayTree.{last_task}
use Rattle.replay_model.specs.tables.ControlTexts.{ids_in, with_control_names}
use Rattle.replay_declarations.specs.control.Controlled.{control_body}
use Rattle.replay_declarations.specs.ids.Looking.{AreTables}
use Rattle.table_law.proofs.Added.{control-names-stay}
use Rattle.replay_xform.proofs.Finished.{finished}
use Rattle.replay_xform.proofs.text.put_text.Goals as goal

pub returns : goal.returns
returns c =
    let numbers = c.numbers-numbers.ensures ∙ ap (λ g. g.numbers) c.links-2.ensures in
    let program = c.program-q.ensures ∙ ap (λ g. g.program) c.links.ensures in
    let named = c.in_ok-put_names.ensures in
    let stays : c.control_body.new.names ≡ c.put_names.new.names =
    c.in_ok-control.ensures.names ∙ ap with_control_names named ∙ control-names-stay (plain_program c.program-q.result.now) ∙ sym named in
    let tables : AreTables c.args.lookups.now c.control_body.new.names c.in_ok-tables.tables =
    subst (λ (ns : List (List ℕ)). AreTables c.args.lookups.now ns c.in_ok-tables.tables) (sym stays) c.in_ok-tables.ensures in
    let controlled =
    c.in_ok-control.ensures.body
    ∙ ap (λ (x : Numbering). control_body c.in_ok-tables.tables.added (ids_in c.control_body.new.names) x.tasks c.program-q.result.now.name.span c.args.ops.now) (sym c.in_ok-tasks.ensures) in
    finished c.args.lookups.now c.args.ops.now
    (record { tables = record { ref_ptr = (0, 0); now = c.in_ok-tables.tables }; numbers = record { ref_ptr = (0, 0); now = c.in_ok-tasks.tasks }; task = 0 })
    c.program-q.result.now c.args.text.now c.rewrite.new.text c.control_body.new.names (plain_decl c.in_ok-control.control) c.last_task.result c.rewrite.result
    tables (c.in_ok-tasks.ensures ∙ numbers) refl program c.requires (stays ∙ named) controlled (c.last_task.ensures ∙ ap last_task numbers)
    c.rewrite.ensures.names c.rewrite.ensures.text_io c.rewrite.ensures.name c.rewrite.ensures.decls c.rewrite.ensures.body
