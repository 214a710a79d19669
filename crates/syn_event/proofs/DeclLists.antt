-- A list of declarations, and the declarations as a list.
use Rattle.std.proofs.Common.{◌≡◌, List, [], ◌∷◌, refl, ap, ◌++◌}
use Rattle.ada_tree.specs.PlainDecl.{PDecl, DNumber, DObject, DEnumeration, DArray, DSubtype, DException, DIntIo, DPragma, DTask, DTaskBody, PDecls, no_decl, decl_then, decls_of}
use Rattle.syn_event.specs.DeclaredTasks.{decl_list, tasks_in}
use Rattle.std.specs.List.{AllByRecursion}
use Rattle.ada_tree.specs.Every.{Rules, EveryDecl, EveryDecls}

pub listed_back : (ds : List PDecl) → decl_list (decls_of ds) ≡ ds
listed_back [] = refl
listed_back (d ∷ ds) = ap (λ l. d ∷ l) (listed_back ds)

pub list_again : (ds : PDecls) → decls_of (decl_list ds) ≡ ds
list_again no_decl = refl
list_again (decl_then d ds) = ap (decl_then d) (list_again ds)

-- what is asked of each declaration
pub every_listed : (rules : Rules) (ds : PDecls) → EveryDecls rules ds → AllByRecursion (EveryDecl rules) (decl_list ds)
every_listed rules no_decl h = tt
every_listed rules (decl_then d ds) h = (h.0, every_listed rules ds h.1)

-- the tasks of two lists
pub tasks_joined : (xs ys : List PDecl) → tasks_in (xs ++ ys) ≡ tasks_in xs ++ tasks_in ys
tasks_joined [] ys = refl
tasks_joined (DTask t s ∷ xs) ys = ap (λ l. t ∷ l) (tasks_joined xs ys)
tasks_joined (DTaskBody w ds b s ∷ xs) ys = tasks_joined xs ys
tasks_joined (DNumber w e s ∷ xs) ys = tasks_joined xs ys
tasks_joined (DObject ws c x i s ∷ xs) ys = tasks_joined xs ys
tasks_joined (DEnumeration w ws s ∷ xs) ys = tasks_joined xs ys
tasks_joined (DArray w r x s ∷ xs) ys = tasks_joined xs ys
tasks_joined (DSubtype w x s ∷ xs) ys = tasks_joined xs ys
tasks_joined (DException ws s ∷ xs) ys = tasks_joined xs ys
tasks_joined (DIntIo w s ∷ xs) ys = tasks_joined xs ys
tasks_joined (DPragma e s ∷ xs) ys = tasks_joined xs ys
