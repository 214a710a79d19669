-- The names of the tasks beside main.
use Rattle.std.proofs.Common.{◌≡◌, ◌==◌, ◌<◌, ◌+◌, ℕ, if◌then◌else◌, List, [], ◌∷◌, ◌++◌, Vec, map, drop, take, length, get_or, ap, ◌∙◌}
use Rattle.std.specs.declared.alloc.Global.{Global}
use Rattle.std.specs.HashMap.{HashMap}
use Rattle.std.specs.List.{filter}
use Rattle.std.proofs.lemmas.List.{get_or_default}
use Rattle.ada_tree.specs.declared.naming.NameId.{NameId}
use Rattle.syn_event.specs.declared.numbering.TaskInfo.{TaskInfo}
use Rattle.task_model.specs.Setting.{Setting}
use Rattle.normal_model.specs.Names.{name_of_task, task_name, task_name_at}
use Rattle.normal_form.specs.unit_declarations.Groups.{group_at}
use Rattle.normal_form.proofs.unit_declarations.Listing.{behind_first, passed_more}

-- the name of a task beside main
pub name_beside : (g : Setting) (tasks : List TaskInfo) (i number : ℕ) (info : TaskInfo) (name : NameId) → tasks ≡ drop 1 g.numbers.tasks → i < length tasks → info ≡ get_or tasks i info →
    number ≡ i + 1 → name ≡ task_name_at g number → name ≡ task_name g info
name_beside g tasks i number info name same lt is numbered named = named ∙ ap (task_name_at g) numbered ∙ ap (name_of_task g) (behind_first g.numbers.tasks tasks i info same lt is)

-- the names of the tasks that run the bodies of all names, with one task more
pub names_more : {S : Type 0} (g : Setting) (tasks : List TaskInfo) (i number : ℕ) (d : TaskInfo) (name : NameId) (start so_far grown : HashMap ℕ (Vec NameId Global) S) → i < length tasks → tasks ≡ drop 1 g.numbers.tasks →
    number ≡ i + 1 → name ≡ task_name_at g number →
    ((q : ℕ) → group_at so_far q ≡ group_at start q ++ map (task_name g) (filter (λ info. info.unit.0 == q) (take i tasks))) →
    ((q : ℕ) → group_at grown q ≡ group_at so_far q ++ (if (get_or tasks i d).unit.0 == q then name ∷ [] else [])) →
    (q : ℕ) → group_at grown q ≡ group_at start q ++ map (task_name g) (filter (λ info. info.unit.0 == q) (take (i + 1) tasks))
names_more g tasks i number d name start so_far grown lt same numbered named before grows q =
    let x = get_or tasks i d in
    let is : x ≡ get_or tasks i x = get_or_default tasks i d x lt in
    passed_more (λ info. info.unit.0 == q) (task_name g) tasks i x name (group_at start q) (group_at so_far q) (group_at grown q) lt is (name_beside g tasks i number x name same lt is numbered named) (before q) (grows q)
