use Rattle.std.proofs.Common.{ap, ◌∙◌, ◌+◌, ◌++◌, ◌∷◌, [], map, take}
use Rattle.ada_tree.specs.PlainDecl.{plain_decl}
use Rattle.syn_event.specs.DeclaredTasks.{tasks_in}
use Rattle.task_links.specs.inner.Made.{formals_declared}
use Rattle.task_links.proofs.UnitsLemmas.{keeps_same, tasks_more, tasks_end}
use Rattle.task_links.proofs.entry_formals.declared_formals.Goals as goal

pub loop-decl-preserved : goal.loop-decl-preserved
loop-decl-preserved c =
    let decls = c.args.decls.now in
    let i = c.loop-decl.decl-index in
    let so_far = tasks_in (map plain_decl (take i decls)) in
    keeps_same c.args.names.now (so_far ++ tasks_in (plain_decl c.decl-item.result ∷ [])) (tasks_in (map plain_decl (take (i + 1) decls))) c.keep_decl.new.units c.keep_decl.new.kept
    (tasks_more decls i c.decl-item.result c.loop-decl-test.true c.decl-item.is)
    (c.in_ok-keep_decl.ensures so_far c.loop-decl.invariant)

pub returns : goal.returns
returns c = λ q. c.loop-decl.invariant.formals_are q ∙ ap (λ l. formals_declared c.args.names.now l q) (tasks_end c.args.decls.now c.loop-decl.decl-index c.loop-decl-test.false)
