use Rattle.std.proofs.Common.{ap, sym, ◌∙◌, ◌==◌, map, None, if◌then◌else◌}
use Rattle.ada_static_rules.specs.StaticValue.{first_of_two}
use Rattle.ada_tree.specs.PlainDecl.{plain_entry, plain_task}
use Rattle.task_links.specs.inner.Made.{formals_at, formals_among}
use Rattle.task_links.proofs.UnitsLemmas.{known_step, new_step}
use Rattle.common_lemmas.proofs.Results.{on_ok}
use Rattle.task_links.proofs.entry_formals.keep_unit.Goals as goal

pub returns-then-known : goal.returns-then-known
returns-then-known c = λ tasks. known_step c.args.names.now tasks (plain_task c.args.unit.now) c.args.units.now c.args.kept.now (sym c.contains_key-known.ensures ∙ c.if-known.true)

pub returns : goal.returns
returns c =
    let unit = c.args.unit.now in
    on_ok c.keep_entries.result (λ h tasks.
    new_step c.args.names.now tasks (plain_task unit) c.args.units.now c.keep_first.new.map c.args.kept.now c.keep_entries.new.kept (sym c.contains_key-known.ensures ∙ c.if-known.false) c.in_ok-keep_first.ensures
    (λ q. h q ∙ ap (λ es. first_of_two (formals_at c.args.kept.now q) (if unit.name.name.0 == q.0 then formals_among c.args.names.now (map plain_entry es) q.1 else None)) c.deref.ensures.value)) c.keep_entries.ensures
