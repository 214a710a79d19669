-- The task whose body a copy is has in the normal form the entries that it has in the program.
use Rattle.std.proofs.Common.{◌≡◌, ℕ, Bool, true, false, not, ◌||◌, ◌==◌, if◌then◌else◌, List, [], ◌∷◌, map, find, unwrap_or, Option, Some, None, is_some, refl, sym, ap, subst, ◌∙◌}
use Rattle.std.specs.List.{AllByRecursion}
use Rattle.ada_tree.specs.declared.naming.NameId.{NameId}
use Rattle.ada_tree.specs.declared.naming.Span.{Span}
use Rattle.ada_tree.specs.declared.naming.Word.{Word}
use Rattle.ada_tree.specs.TypeTable.{TypeTable}
use Rattle.ada_tree.specs.PlainDecl.{PShape, OPlain, OArray, PEntry, PTask, DNumber, DObject, DEnumeration, DArray, DSubtype, DException, DIntIo, DPragma, DTask, DTaskBody, PDecls, no_decl, decl_then}
use Rattle.ada_tree.specs.PlainProgram.{PProgram}
use Rattle.syn_event.specs.declared.numbering.TaskInfo.{TaskInfo}
use Rattle.syn_event.specs.declared.meanings.Meant.{Meant}
use Rattle.syn_event.specs.declared.meanings.Meant.TheVariants.{MainProcedure, TaskType, TaskOf, Shared, Inner}
use Rattle.syn_event.specs.CheckScope.{EnclosingUnit, CheckScope, meaning}
use Rattle.syn_event.specs.CheckSites as check
use Rattle.syn_event.specs.Extents.{is_array_type}
use Rattle.syn_event.specs.DeclaredTasks.{decl_list, tasks_in, tasks_of}
use Rattle.syn_event.specs.NamedTasks.{NumberedTask, numbered_tasks}
use Rattle.syn_event.specs.AllNumbers.{info_of_task, all_numbers}
use Rattle.task_model.specs.Setting.{Setting}
use Rattle.normal_model.specs.Names.{task_name}
use Rattle.normal_model.specs.NormalTree.{tasks_beside, normal_tree}
use Rattle.task_laws.proofs.legal.rewritten_types.Lookups.{find-all}
use Rattle.normal_laws.specs.structure.types.Laws.{IsOrdered, setting_of}
use Rattle.normal_laws.proofs.structure.numbers.Tasked.{under, normal-tasks-of}
use Rattle.normal_laws.specs.structure.asked.Pieces.{IsAmong, first_among, later_among}
use Rattle.normal_laws.proofs.structure.placed.Whole.{among-mapped}
use Rattle.task_laws.specs.legal.types.Typed.{IsFirstTask}
use Rattle.common_lemmas.proofs.Lists.{found_passes}
use Rattle.common_lemmas.proofs.Numbers.{equal_self, equal_is}
use Rattle.common_lemmas.proofs.Options.{some_same, some_there}
use Rattle.normal_laws.proofs.structure.placed.Made.{among}
use Rattle.syn_event.proofs.CheckScopes.{meant_units}

-- ---- units behind declarations

value-units : (b : Bool) (ws : List Word) (c : CheckScope) → (check.with_declared_object b c ws).units ≡ c.units
value-units true ws c = meant_units Shared ws c
value-units false ws c = refl

object-units : (o : Option Meant) (mark : Word) (b : Bool) (ws : List Word) (c : CheckScope) → (check.with_object c o mark b ws).units ≡ c.units
object-units (Some TaskType) mark b ws c = meant_units (TaskOf mark.name) ws c
object-units (Some MainProcedure) mark b ws c = value-units b ws c
object-units (Some (TaskOf x)) mark b ws c = value-units b ws c
object-units (Some Shared) mark b ws c = value-units b ws c
object-units (Some Inner) mark b ws c = value-units b ws c
object-units None mark b ws c = value-units b ws c

shape-units : (x : PShape) (ws : List Word) (constant : Bool) (c : CheckScope) → (check.after_object c ws constant x).units ≡ c.units
shape-units (OPlain x) ws constant c = object-units (meaning c x.mark.name) x.mark (not constant || is_array_type c.types x.mark.name) ws c
shape-units (OArray r x) ws constant c = object-units (meaning c x.mark.name) x.mark true ws c

-- the unit of a task is one that is there, if the task is declared
pub units-all : (Q : EnclosingUnit → Type 0) (ds : PDecls) (c : CheckScope) → AllByRecursion (λ (t : PTask). Q (check.enclosing_unit t)) (tasks_in (decl_list ds)) → AllByRecursion Q c.units → AllByRecursion Q (check.after_decls c ds).units
units-all Q no_decl c h k = k
units-all Q (decl_then (DTask t s) rest) c h k = units-all Q rest (check.after_task c t) h.1 (h.0, k)
units-all Q (decl_then (DObject ws constant x i s) rest) c h k = units-all Q rest (check.after_object c ws constant x) h (subst (AllByRecursion Q) (sym (shape-units x ws constant c)) k)
units-all Q (decl_then (DNumber w e s) rest) c h k = units-all Q rest c h k
units-all Q (decl_then (DEnumeration w ws s) rest) c h k = units-all Q rest c h k
units-all Q (decl_then (DArray w q x s) rest) c h k = units-all Q rest c h k
units-all Q (decl_then (DSubtype w x s) rest) c h k = units-all Q rest c h k
units-all Q (decl_then (DException ws s) rest) c h k = units-all Q rest c h k
units-all Q (decl_then (DIntIo w s) rest) c h k = units-all Q rest c h k
units-all Q (decl_then (DPragma e s) rest) c h k = units-all Q rest c h k
units-all Q (decl_then (DTaskBody w objects its s) rest) c h k = units-all Q rest c h k

abbrev IsThere : ℕ → List EnclosingUnit → Type 0
IsThere n us = is_some (find (λ u. u.name.0 == n) us) ≡ true

there-more : (n : ℕ) (u : EnclosingUnit) (us : List EnclosingUnit) → IsThere n us → IsThere n (u ∷ us)
there-more n u us h = by_test (u.name.0 == n)
  where
    by_test : (b : Bool) → is_some (if b then Some u else find (λ v. v.name.0 == n) us) ≡ true
    by_test true = refl
    by_test false = h

there-first : (n : ℕ) (u : EnclosingUnit) (us : List EnclosingUnit) → (u.name.0 == n) ≡ true → IsThere n (u ∷ us)
there-first n u us e = ap (λ b. is_some (if b then Some u else find (λ v. v.name.0 == n) us)) e

units-kept : (n : ℕ) (ds : PDecls) (c : CheckScope) → IsThere n c.units → IsThere n (check.after_decls c ds).units
units-kept n no_decl c h = h
units-kept n (decl_then (DTask t s) rest) c h = units-kept n rest (check.after_task c t) (there-more n (check.enclosing_unit t) c.units h)
units-kept n (decl_then (DObject ws constant x i s) rest) c h = units-kept n rest (check.after_object c ws constant x) (subst (IsThere n) (sym (shape-units x ws constant c)) h)
units-kept n (decl_then (DNumber w e s) rest) c h = units-kept n rest c h
units-kept n (decl_then (DEnumeration w ws s) rest) c h = units-kept n rest c h
units-kept n (decl_then (DArray w q x s) rest) c h = units-kept n rest c h
units-kept n (decl_then (DSubtype w x s) rest) c h = units-kept n rest c h
units-kept n (decl_then (DException ws s) rest) c h = units-kept n rest c h
units-kept n (decl_then (DIntIo w s) rest) c h = units-kept n rest c h
units-kept n (decl_then (DPragma e s) rest) c h = units-kept n rest c h
units-kept n (decl_then (DTaskBody w objects its s) rest) c h = units-kept n rest c h

pub units-there : (ds : PDecls) (c : CheckScope) (t : PTask) → IsAmong t (tasks_in (decl_list ds)) → IsThere t.name.name.0 (check.after_decls c ds).units
units-there no_decl c t i = elim i [ ]
units-there (decl_then (DTask t s) rest) c _ (first_among _) = units-kept t.name.name.0 rest (check.after_task c t) (there-first t.name.name.0 (check.enclosing_unit t) c.units (equal_self t.name.name.0))
units-there (decl_then (DTask t s) rest) c u (later_among _ _ i) = units-there rest (check.after_task c t) u i
units-there (decl_then (DObject ws constant x i s) rest) c t j = units-there rest (check.after_object c ws constant x) t j
units-there (decl_then (DNumber w e s) rest) c t i = units-there rest c t i
units-there (decl_then (DEnumeration w ws s) rest) c t i = units-there rest c t i
units-there (decl_then (DArray w q x s) rest) c t i = units-there rest c t i
units-there (decl_then (DSubtype w x s) rest) c t i = units-there rest c t i
units-there (decl_then (DException ws s) rest) c t i = units-there rest c t i
units-there (decl_then (DIntIo w s) rest) c t i = units-there rest c t i
units-there (decl_then (DPragma e s) rest) c t i = units-there rest c t i
units-there (decl_then (DTaskBody w objects its s) rest) c t i = units-there rest c t i

-- ---- the unit of a body

-- what is found has the entries that each unit of the name has
pub found-entries : (c : CheckScope) (w : Word) (es : List NameId) → IsThere w.name.0 c.units → AllByRecursion (λ (u : EnclosingUnit). u.name.0 ≡ w.name.0 → u.entries ≡ es) c.units → (check.own_unit c w).entries ≡ es
found-entries c w es there h =
    let u = some_there (find (λ (v : EnclosingUnit). v.name.0 == w.name.0) c.units) there in
    let passes : (u.0.name.0 == w.name.0) ≡ true = found_passes (λ (v : EnclosingUnit). v.name.0 == w.name.0) c.units u.0 u.1 in
    ap (λ (o : Option EnclosingUnit). (unwrap_or {T = EnclosingUnit} o record { name = w.name; entries = [] }).entries) u.1
    ∙ find-all (λ (v : EnclosingUnit). v.name.0 ≡ w.name.0 → v.entries ≡ es) (λ (v : EnclosingUnit). v.name.0 == w.name.0) c.units u.0 h u.1 (equal_is u.0.name.0 w.name.0 passes)

-- ---- a program and its normal form

-- two tasks that are the first of one name are one
pub same-first : (ts : List PTask) (t u : PTask) → IsFirstTask ts t → IsFirstTask ts u → t.name.name.0 ≡ u.name.name.0 → t ≡ u
same-first ts t u h k e = some_same (sym h ∙ ap (λ n. find (λ (x : PTask). x.name.name.0 == n) ts) e ∙ k)

-- one of a mapped list
pub among-back-mapped : {A B : Type 0} (f : A → B) (y : B) (xs : List A) → IsAmong y (map f xs) → (x : A) × IsAmong x xs × (y ≡ f x)
among-back-mapped f y [] i = elim i [ ]
among-back-mapped f _ (x ∷ xs) (first_among _) = (x, first_among xs, refl)
among-back-mapped f y (x ∷ xs) (later_among _ _ i) = let r = among-back-mapped f y xs i in (r.0, later_among x xs r.1, r.2)

abbrev pub entry_names : PTask → List NameId
entry_names t = map (λ (e : PEntry). e.name.name) t.entries

module _ (p : PProgram) (T : TypeTable) (ordered : IsOrdered p) where
  abbrev g : Setting
  g = setting_of p T (all_numbers T p)

  abbrev n : PProgram
  n = normal_tree p T (all_numbers T p)

  -- the tasks of the normal form that have the name of this one have its entries
  under-entries : (info : TaskInfo) (es : List NameId) (ys : List NumberedTask) → AllByRecursion (λ (y : NumberedTask). (task_name g (info_of_task p.names y)).0 ≡ (task_name g info).0 → entry_names y.unit ≡ es) ys →
      AllByRecursion (λ (t : PTask). (check.enclosing_unit t).name.0 ≡ (task_name g info).0 → (check.enclosing_unit t).entries ≡ es) (map (under g) ys)
  under-entries info es [] h = tt
  under-entries info es (y ∷ ys) h = (h.0, under-entries info es ys h.1)

  one-of-name : (info : TaskInfo) (t : PTask) (ys : List NumberedTask) → IsFirstTask (tasks_of p) t → info.unit.0 ≡ t.name.name.0 → AllByRecursion (λ (y : NumberedTask). IsFirstTask (tasks_of p) y.unit) ys →
      AllByRecursion (λ (b : TaskInfo). (task_name g info).0 ≡ (task_name g b).0 → info.unit.0 ≡ b.unit.0) (map (info_of_task p.names) ys) →
      AllByRecursion (λ (y : NumberedTask). (task_name g (info_of_task p.names y)).0 ≡ (task_name g info).0 → entry_names y.unit ≡ entry_names t) ys
  one-of-name info t [] first e h k = tt
  one-of-name info t (y ∷ ys) first e h k = ((λ f. ap entry_names (same-first (tasks_of p) y.unit t h.0 first (sym (k.0 (sym f)) ∙ e))), one-of-name info t ys first e h.1 k.1)

  -- The own unit in a copy of the body of a task has the entries that the task declares.
  pub copy-entries : (info : TaskInfo) (t : PTask) (c : CheckScope) (s : Span) → c.units ≡ [] → IsAmong info (tasks_beside g) → IsFirstTask (tasks_of p) t → info.unit.0 ≡ t.name.name.0 → AllByRecursion (λ (y : NumberedTask). IsFirstTask (tasks_of p) y.unit) (numbered_tasks T p) →
      AllByRecursion (λ (a : TaskInfo). AllByRecursion (λ (b : TaskInfo). (task_name g a).0 ≡ (task_name g b).0 → a.unit.0 ≡ b.unit.0) (tasks_beside g)) (tasks_beside g) →
      (check.own_unit (check.after_decls c n.decls) (record { name = task_name g info; span = s })).entries ≡ entry_names t
  copy-entries info t c s none i first e firsts tell =
      let y = among-back-mapped (info_of_task p.names) info (numbered_tasks T p) i in
      let here : IsAmong (under g y.0) (tasks_of n) = subst (IsAmong (under g y.0)) (sym (normal-tasks-of p T ordered)) (among-mapped (under g) y.0 (numbered_tasks T p) y.1) in
      let there : IsThere (task_name g info).0 (check.after_decls c n.decls).units = subst (λ (x : TaskInfo). IsThere (task_name g x).0 (check.after_decls c n.decls).units) (sym y.2) (units-there n.decls c (under g y.0) here) in
      let told = one-of-name info t (numbered_tasks T p) first e firsts (among (λ (a : TaskInfo). AllByRecursion (λ (b : TaskInfo). (task_name g a).0 ≡ (task_name g b).0 → a.unit.0 ≡ b.unit.0) (tasks_beside g)) info (tasks_beside g) i tell) in
      let all = subst (AllByRecursion (λ (x : PTask). (check.enclosing_unit x).name.0 ≡ (task_name g info).0 → (check.enclosing_unit x).entries ≡ entry_names t)) (sym (normal-tasks-of p T ordered)) (under-entries info (entry_names t) (numbered_tasks T p) told) in
      found-entries (check.after_decls c n.decls) (record { name = task_name g info; span = s }) (entry_names t) there
      (units-all (λ (u : EnclosingUnit). u.name.0 ≡ (task_name g info).0 → u.entries ≡ entry_names t) n.decls c all (subst (AllByRecursion (λ (u : EnclosingUnit). u.name.0 ≡ (task_name g info).0 → u.entries ≡ entry_names t)) (sym none) tt))
