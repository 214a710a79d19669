use Rattle.std.proofs.Common.{ap, ◌∙◌, map}
use Rattle.std.specs.Prelude.{flat_map}
use Rattle.ada_tree.specs.PlainDecl.{PPriority, plain_entry, plain_priority}
use Rattle.syn_event.specs.CheckScope.{declares, needs_body}
use Rattle.syn_event.specs.CheckSites.{expr_sites, entry_sites}
use Rattle.ada_check_rules.specs.rules.RefusedFirst.{refused_first}
use Rattle.scoped_names.specs.name_sets.Numbers.{numbers_in}
use Rattle.ada_check.proofs.declaration_places.Declaring.{task_met}
use Rattle.ada_check.proofs.declaration_places.tasks.walk_task.Goals as goal

pub returns : goal.returns
returns c =
    task_met c.args.by.now c.args.around.now (needs_body (numbers_in c.args.bodies.now) c.args.unit.now.name c.args.span) (declares c.args.unit.now.name)
    (flat_map (entry_sites c.args.around.now) (map plain_entry c.args.unit.now.entries.items))
    (flat_map (λ (p : PPriority). expr_sites c.args.around.now 2 p.value) (map plain_priority c.args.unit.now.priorities.items))
    _ _ _ _ _ _ _
    (c.refuse_bodiless-missing.ensures c.args.by.now c.args.around.now)
    (c.refuse_name-name.ensures c.args.around.now)
    (c.in_ok-entries.ensures ∙ ap (λ l. refused_first c.args.by.now (flat_map (entry_sites c.args.around.now) (map plain_entry l))) c.deref.ensures.value)
    (c.in_ok-priorities.ensures ∙ ap (λ l. refused_first c.args.by.now (flat_map (λ (p : PPriority). expr_sites c.args.around.now 2 p.value) (map plain_priority l))) c.deref-2.ensures.value)
    c.first.ensures c.first-2.ensures c.first-3.ensures
