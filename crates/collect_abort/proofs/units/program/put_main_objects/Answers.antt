use Rattle.std.proofs.Common.{◌++◌, map, ap, ◌∙◌}
use Rattle.std.specs.List.{list_any}
use Rattle.ada_tree.specs.PlainDecl.{plain_decl}
use Rattle.ada_tree.specs.PlainProgram.{PProgram, plain_program}
use Rattle.replay_model.specs.ReplayTree.{last_task}
use Rattle.collect_model.specs.CollectTree.{is_int_io, main_declared}
use Rattle.collect_xform.proofs.units.Put.{any-seen, objects-put}
use Rattle.collect_model.specs.aborts.Places.{places_in}
use Rattle.collect_model.specs.aborts.AbortTree.{places_declared}
use Rattle.collect_abort.specs.Looked.{told_of}
use Rattle.collect_abort.proofs.units.program.put_main_objects.Goals as goal

pub returns : goal.returns
returns c =
    let old = c.args.objects.now.items in
    let q : PProgram = plain_program c.args.q.now in
    let x = told_of c.args.x.now in
    let s = c.args.q.now.name.span in
    let instance = c.has_int_io-instance.ensures ∙ ap (λ ds. list_any (λ d. is_int_io (plain_decl d)) ds) c.deref.ensures.value ∙ any-seen is_int_io old in
    objects-put c.args.q.now.names (main_declared x.teller.added s (list_any is_int_io (map plain_decl old)) (last_task x.teller.numbers) ++ places_declared x s (places_in q.body)) (map plain_decl old) (map plain_decl c.put_behind_own.new.decls.items) c.new-more.result.items c.put_more.new.out.items c.put_behind_own.result
    c.new-more.ensures.items (c.in_ok-put_more.ensures ∙ (λ i. map plain_decl c.new-more.result.items ++ (main_declared x.teller.added s (instance i) (last_task x.teller.numbers) ++ places_declared x s (c.in_ok-count.ensures i)))) c.put_behind_own.ensures
