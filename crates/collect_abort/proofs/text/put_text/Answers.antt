use Rattle.std.proofs.Common.{ap, ◌∙◌, refl}
use Rattle.normal_model.specs.Names.{id_of}
use Rattle.collect_model.specs.aborts.Names.{acceptors_text, each_text}
use Rattle.collect_statements.specs.declared.reporter.Reporter.{Reporter}
use Rattle.collect_abort.proofs.Made.{failed, finished}
use Rattle.collect_abort.proofs.text.put_text.Goals as goal

pub returns : goal.returns
returns c =
    let numbers = c.numbers.ensures ∙ ap (λ g. g.numbers) c.links-2.ensures in
    let program = c.program-q.ensures ∙ ap (λ g. g.program) c.links.ensures in
    let reporter : Reporter = record { tables = record { ref_ptr = (0, 0); now = c.in_ok-tables.tables }; numbers = record { ref_ptr = (0, 0); now = c.in_ok-tasks.tasks }; task = 0 } in
    finished c.args.lookups.now
    (record { reporter = reporter; acceptors = c.find.result; each = c.find-2.result; names = record { ref_ptr = (0, 0); now = c.in_ok-names.names } })
    c.program-q.result.now c.args.text.now c.rewrite.new.text c.in_ok-most.most c.add_names.new.names c.rewrite.result
    c.in_ok-tables.ensures (c.in_ok-tasks.ensures ∙ numbers) refl
    c.in_ok-names.ensures (c.find.ensures ∙ ap (λ ns. id_of ns acceptors_text) c.in_ok-names.ensures) (c.find-2.ensures ∙ ap (λ ns. id_of ns each_text) c.in_ok-names.ensures)
    program c.requires c.in_ok-most.ensures c.in_ok-add_names.ensures
    c.rewrite.ensures.names c.rewrite.ensures.text_io c.rewrite.ensures.name c.rewrite.ensures.decls c.rewrite.ensures.body

pub returns-in_err-names : goal.returns-in_err-names
returns-in_err-names c = failed _ c.from_residual-in_err-names.result _ c.from_residual-in_err-names.ensures.1
