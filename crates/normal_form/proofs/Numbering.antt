-- The tasks among declarations, one declaration after the other.
use Rattle.std.proofs.Common.{◌≡◌, ◌<◌, ◌+◌, ℕ, List, [], ◌∷◌, ◌++◌, map, take, length, get_or, sym, ap, ◌∙◌, append_assoc}
use Rattle.std.proofs.lemmas.List.{map_more, map-append}
use Rattle.ada_tree.specs.declared.declarations.Decl.{Decl}
use Rattle.ada_tree.specs.PlainDecl.{PDecl, PTask, decls_of, plain_decl}
use Rattle.ada_tree.specs.PlainProgram.{PProgram}
use Rattle.syn_event.specs.declared.numbering.TaskInfo.{TaskInfo}
use Rattle.syn_event.specs.Numbering.{Numbering}
use Rattle.syn_event.specs.AddedNames.{task_info}
use Rattle.syn_event.specs.DeclaredTasks.{decl_list, tasks_in, tasks_of}
use Rattle.normal_model.specs.NormalNumbers.{normal_numbers}
use Rattle.normal_form.specs.inner.Infos.{infos_of}
use Rattle.syn_event.proofs.DeclLists.{listed_back}
use Rattle.task_links.proofs.UnitsLemmas.{tasks_push}

-- what is made of the tasks of one declaration more
pub infos_more : (names : List (List ℕ)) (xs : List Decl) (i : ℕ) (x : Decl) (start so_far grown : List TaskInfo) → i < length xs → x ≡ get_or xs i x →
    so_far ≡ start ++ infos_of names (tasks_in (map plain_decl (take i xs))) → grown ≡ so_far ++ infos_of names (tasks_in (plain_decl x ∷ [])) → grown ≡ start ++ infos_of names (tasks_in (map plain_decl (take (i + 1) xs)))
infos_more names xs i x start so_far grown lt is before grows =
    let f = λ (task : PTask). task_info names task.name.name in
    grows
    ∙ ap (λ l. l ++ map f (tasks_in (plain_decl x ∷ []))) before
    ∙ append_assoc start (map f (tasks_in (map plain_decl (take i xs)))) (map f (tasks_in (plain_decl x ∷ [])))
    ∙ ap (λ l. start ++ l)
    (sym
    (ap (map f)
    (ap tasks_in (map_more plain_decl xs i x lt ∙ ap (λ y. map plain_decl (take i xs) ++ plain_decl y ∷ []) (sym is))
    ∙ tasks_push (map plain_decl (take i xs)) (plain_decl x))
    ∙ map-append f (tasks_in (map plain_decl (take i xs))) (tasks_in (plain_decl x ∷ []))))

-- numbers of these parts
pub numbers_are : (q : PProgram) (numbers made : Numbering) (ds : List PDecl) → q.decls ≡ decls_of ds → made.main ≡ numbers.main →
    made.tasks ≡ task_info q.names q.name.name ∷ infos_of q.names (tasks_in ds) → made.entries ≡ numbers.entries → made ≡ normal_numbers q numbers
numbers_are q numbers made ds row main tasks entries =
    let same : tasks_in ds ≡ tasks_of q = ap tasks_in (sym (listed_back ds) ∙ ap decl_list (sym row)) in
    let all : made.tasks ≡ task_info q.names q.name.name ∷ infos_of q.names (tasks_of q) = tasks ∙ ap (λ l. task_info q.names q.name.name ∷ infos_of q.names l) same in
    ap (λ m. record { main = m; tasks = made.tasks; entries = made.entries }) main
    ∙ ap (λ l. record { main = numbers.main; tasks = l; entries = made.entries }) all
    ∙ ap (λ l. record { main = numbers.main; tasks = task_info q.names q.name.name ∷ infos_of q.names (tasks_of q); entries = l }) entries
