-- The names of tasks, one after the other: what the names are that come behind, and that a name once given is the task's in the end.
use Rattle.std.proofs.Common.{◌≡◌, ◌<◌, ◌+◌, ℕ, ℤ, List, [], ◌∷◌, ◌++◌, length, map, take, drop, fold, Option, Some, None, unwrap_or, get_or, sym, ap, ◌∙◌}
use Rattle.std.proofs.lemmas.List.{take_more, drop_more, map-append}
use Rattle.std.proofs.lemmas.List.Sums.{fold-append}
use Rattle.ada_tree.specs.declared.naming.NameId.{NameId}
use Rattle.ada_tree.specs.NameList.{interned}
use Rattle.syn_event.specs.declared.numbering.TaskInfo.{TaskInfo}
use Rattle.syn_event.specs.DeclaredTasks.{text_of}
use Rattle.normal_model.specs.Names.{name_of_member, member_texts, texts_of_member}
use Rattle.normal_lookups.specs.names.inner.MemberNames.{IsNamed, member_behind, name_behind}
use Rattle.normal_lookups.proofs.names.Places.{place_later}

-- the names once all members are named
abbrev pub named : List (List ℕ) → List TaskInfo → List (List ℕ)
named old tasks = fold interned old (member_texts old tasks)

-- a name that is given is the task's when all others have come
pub name_stays : (old texts rest : List (List ℕ)) (name : NameId) (member : Option ℤ) (id : NameId) → IsNamed old texts name member id → id ≡ member_behind old (fold interned texts rest) name member
name_stays old texts rest name None id h = h
name_stays old texts rest name (Some i) id h = sym (ap (λ o. let made : NameId = record { 0 = unwrap_or o 0 } in made) (place_later (name_of_member (text_of old name) i) rest texts id.0 h))

-- the texts of the tasks from one on
texts_from : (old : List (List ℕ)) (tasks : List TaskInfo) (i : ℕ) (d : TaskInfo) → i < length tasks →
    member_texts old (drop i tasks) ≡ texts_of_member (text_of old (get_or tasks i d).name) (get_or tasks i d).member ++ member_texts old (drop (i + 1) tasks)
texts_from old tasks i d lt = ap (member_texts old) (drop_more tasks i d lt)

-- what is left to come is the same in the end, whether it comes to the names before a task or to those behind it
pub rest_stays : (old names grown : List (List ℕ)) (tasks : List TaskInfo) (i : ℕ) (d : TaskInfo) → i < length tasks →
    grown ≡ fold interned names (texts_of_member (text_of old (get_or tasks i d).name) (get_or tasks i d).member) →
    fold interned names (member_texts old (drop i tasks)) ≡ named old tasks →
    fold interned grown (member_texts old (drop (i + 1) tasks)) ≡ named old tasks
rest_stays old names grown tasks i d lt grows so_far =
    ap (λ l. fold interned l (member_texts old (drop (i + 1) tasks))) grows
    ∙ sym (fold-append interned names (texts_of_member (text_of old (get_or tasks i d).name) (get_or tasks i d).member) (member_texts old (drop (i + 1) tasks)))
    ∙ ap (fold interned names) (sym (texts_from old tasks i d lt))
    ∙ so_far

-- one more name
pub ids_more : (old names : List (List ℕ)) (tasks : List TaskInfo) (i : ℕ) (d : TaskInfo) (id : NameId) (ids : List NameId) → i < length tasks →
    IsNamed old names (get_or tasks i d).name (get_or tasks i d).member id →
    fold interned names (member_texts old (drop (i + 1) tasks)) ≡ named old tasks →
    ids ≡ map (name_behind old (named old tasks)) (take i tasks) →
    ids ++ id ∷ [] ≡ map (name_behind old (named old tasks)) (take (i + 1) tasks)
ids_more old names tasks i d id ids lt is rest so_far =
    ap (λ l. l ++ id ∷ []) so_far
    ∙ ap (λ z. map f (take i tasks) ++ z ∷ []) (name_stays old names (member_texts old (drop (i + 1) tasks)) x.name x.member id is ∙ ap (λ l. member_behind old l x.name x.member) rest)
    ∙ sym (ap (map f) (take_more tasks i d lt) ∙ map-append f (take i tasks) (x ∷ []))
  where
    x : TaskInfo
    x = get_or tasks i d

    f : TaskInfo → NameId
    f = name_behind old (named old tasks)
