use Rattle.std.proofs.Common.{ap, ◌∙◌, List, map}
use Rattle.ada_tree.specs.declared.declarations.Decl.{Decl}
use Rattle.ada_tree.specs.PlainDecl.{decls_of, plain_decl}
use Rattle.syn_event.specs.DeclaredTasks.{decl_list, tasks_in}
use Rattle.task_links.specs.inner.Made.{formals_declared}
use Rattle.task_links.proofs.links.Links.new.Goals as goal

pub invariant_of-result : goal.invariant_of-result
invariant_of-result c = λ q. c.in_ok-formals.ensures q ∙ ap (λ (ds : List Decl). formals_declared c.in_ok-types.types (tasks_in (decl_list (decls_of (map plain_decl ds)))) q) c.deref.ensures.value
