use Rattle.std.proofs.Common.{ap, ◌∙◌, refl}
use Rattle.collect_xform.proofs.Made.{finished}
use Rattle.collect_xform.proofs.text.put_text.Goals as goal

pub returns : goal.returns
returns c =
    let numbers = c.numbers.ensures ∙ ap (λ g. g.numbers) c.links-2.ensures in
    let program = c.program-q.ensures ∙ ap (λ g. g.program) c.links.ensures in
    finished c.args.lookups.now
    (record { tables = record { ref_ptr = (0, 0); now = c.in_ok-tables.tables }; numbers = record { ref_ptr = (0, 0); now = c.in_ok-tasks.tasks }; task = 0 })
    c.program-q.result.now c.args.text.now c.rewrite.new.text c.add_names.new.names c.rewrite.result
    c.in_ok-tables.ensures (c.in_ok-tasks.ensures ∙ numbers) refl program c.requires c.in_ok-add_names.ensures
    c.rewrite.ensures.names c.rewrite.ensures.text_io c.rewrite.ensures.name c.rewrite.ensures.decls c.rewrite.ensures.body
