use Rattle.std.proofs.Common.{List, length, map, sym, ap, ◌∙◌}
use Rattle.ada_tree.specs.declared.declarations.Decl.{Decl}
use Rattle.ada_tree.specs.PlainDecl.{decls_of, plain_decl}
use Rattle.ada_tree.specs.PlainProgram.{plain_program}
use Rattle.normal_form.proofs.Composing.{appended, counted, filled, row_is}
use Rattle.normal_form.proofs.whole.fill_decls.Goals as goal

pub returns-clause-decls : goal.returns-clause-decls
returns-clause-decls c =
    let g = c.args.lookups.now in
    filled g (map plain_decl c.deref.result.now) (map plain_decl c.deref-2.result.now) (map plain_decl c.args.out.now.items)
    (map plain_decl c.push_firsts.new.out.items) (map plain_decl c.append_decls.new.list.items) (map plain_decl c.push_tasks.new.out.items) (map plain_decl c.push_bodies.new.out.items)
    (map plain_decl c.args.track.now.decls.items) c.push_bodies.result
    (row_is g (plain_program c.program.result.now) (map plain_decl c.deref.result.now) (c.program.ensures ∙ ap (λ h. h.program) c.links.ensures) (ap (λ (l : List Decl). decls_of (map plain_decl l)) (sym c.deref.ensures.value)))
    (ap (map plain_decl) (c.deref-2.ensures.value ∙ sym c.deref.ensures.value))
    c.in_ok-push_firsts.ensures
    (appended c.push_firsts.new.out.items c.take_variables-vars.result.items c.append_decls.new.list.items c.args.track.now.decls.items c.in_ok-append_decls.ensures c.take_variables-vars.ensures.taken)
    c.in_ok-push_tasks.ensures c.push_bodies.ensures.decls

pub returns-clause-count : goal.returns-clause-count
returns-clause-count c =
    let g = c.args.lookups.now in
    counted g (map plain_decl c.deref-2.result.now) (length c.args.track.now.names.variables.items) (length c.take_variables-vars.new.track.names.variables.items) (length c.push_bodies.new.track.names.variables.items) c.push_bodies.result
    (row_is g (plain_program c.program.result.now) (map plain_decl c.deref-2.result.now) (c.program.ensures ∙ ap (λ h. h.program) c.links.ensures) (ap (λ (l : List Decl). decls_of (map plain_decl l)) (sym c.deref-2.ensures.value)))
    (ap (λ n. length n.variables.items) c.take_variables-vars.ensures.names) c.push_bodies.ensures.count
