use Rattle.std.proofs.Common.{◌≡◌, ap, arith, sym, ◌∙◌, map, drop}
use Rattle.ada_tree.specs.PlainDecl.{plain_decl}
use Rattle.syn_event.specs.DeclaredTasks.{tasks_in}
use Rattle.normal_lookups.specs.inner.Kept.{units_named}
use Rattle.normal_lookups.proofs.Forming.{tasks_of_list}
use Rattle.normal_lookups.proofs.entry_forms.forms_of.Goals as goal

pub returns : goal.returns
returns c =
    let at_start : c.loop-place.place ≡ 0 = omega (arith, c.loop-place-test.false) in
    c.loop-place.invariant
    ∙ ap (λ k. units_named (tasks_in (map plain_decl (drop k c.args.decls.now)))) at_start
    ∙ ap units_named (sym (tasks_of_list (map plain_decl c.args.decls.now)))
