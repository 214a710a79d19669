-- The tasks of a normal form have names that are added there where they are in the program.
use Rattle.std.proofs.Common.{◌≡◌, ℕ, suc, ◌<◌, ℤ, Bool, true, false, ◌&&◌, nat_eq, List, [], ◌∷◌, length, flat_map, slice_get, is_some, option_map, codes, Option, Some, None, IfSome, refl, sym, ap, ◌∙◌, subst}
use Rattle.std.specs.Prelude.{All}
use Rattle.std.specs.List.{AllByRecursion, starts_with}
use Rattle.std.proofs.lemmas.Bool.{eqb-true}
use Rattle.std.proofs.lemmas.List.Elements.{recursion_from_All}
use Rattle.std.proofs.lemmas.Option.{slice_get-map}
use Rattle.ada_tree.specs.declared.naming.NameId.{NameId}
use Rattle.ada_tree.specs.declared.naming.Span.{Span}
use Rattle.ada_tree.specs.declared.naming.Word.{Word}
use Rattle.ada_tree.specs.TypeTable.{TypeTable}
use Rattle.ada_tree.specs.PlainExpr.{PDrange}
use Rattle.ada_tree.specs.PlainDecl.{PShape, OPlain, OArray, PTask, PDecl, DNumber, DObject, DEnumeration, DArray, DSubtype, DException, DIntIo, DPragma, DTask, DTaskBody, PDecls, no_decl, decl_then}
use Rattle.ada_tree.specs.PlainProgram.{PProgram}
use Rattle.ada_tree.specs.Every.{EveryDrange, EveryEntry, EveryTask, EveryDecl, EveryDecls}
use Rattle.ada_static_rules.specs.Refusals.{types_in}
use Rattle.syn_event.specs.declared.numbering.TaskInfo.{TaskInfo}
use Rattle.syn_event.specs.Numbering.{Numbering}
use Rattle.syn_event.specs.AddedNames.{is_added_name}
use Rattle.syn_event.specs.Extents.{extent}
use Rattle.syn_event.specs.NamedTasks.{NamedTasks, type_named, task_names_of_type, object_task_names, with_type, single_task_name, task_names_in, task_names_of, NumberedTask, numbered_task, indices, tasks_of_range, tasks_of_name, numbered_tasks}
use Rattle.syn_event.specs.AllNumbers.{family_extent, info_of_task, all_numbers}
use Rattle.syn_event.specs.DeclaredTasks.{text_of, decl_list, tasks_in}
use Rattle.task_model.specs.Setting.{Setting}
use Rattle.normal_model.specs.Names.{name_of_member, texts_of_member, member_texts, with_members, id_of, member_name}
use Rattle.normal_model.specs.NormalTree.{variables_needed, normal_tree}
use Rattle.normal_model.proofs.VariablesLemmas.{Begins}
use Rattle.task_laws.specs.legal.rewritten_types.Agreement.{Agrees}
use Rattle.task_laws.specs.legal.rewritten_types.Rewriting.{names_declared}
use Rattle.task_laws.proofs.legal.rewritten_types.Lookups.{place-all}
use Rattle.task_laws.specs.legal.rewritten_values.Values.{old_names}
use Rattle.normal_laws.specs.structure.types.Own.{own_name}
use Rattle.normal_laws.specs.structure.types.Laws.{setting_of, AreOwn}
use Rattle.normal_laws.proofs.structure.types.Names.{names-begin, variables-begin}
use Rattle.normal_laws.proofs.structure.types.Variables.{all-mapped}
use Rattle.normal_laws.proofs.structure.units.Declared.{parts-all, numbered-tasks-all}
use Rattle.normal_laws.specs.structure.numbers.Laws.{IsNotDed, NoneIsDed}
use Rattle.normal_laws.proofs.structure.numbers.Extents.{extent-alike}
use Rattle.normal_laws.proofs.structure.numbers.Named.{Has, has-folded, has-flat, has-mapped, text-there, added-longer, own-within, own-not-added, id-within, begins-within}
use Rattle.normal_laws.proofs.structure.numbers.Tasked.{under}
use Rattle.common_lemmas.proofs.Lists.{all_by_place, all_joined, all_weaker}
use Rattle.common_lemmas.proofs.Truth.{and_false, false_behind}

-- ---- the names of tasks

-- three tests that do not all pass
not-three : (a b c : Bool) → (a ≡ true → b ≡ true → c ≡ true → ⊥) → (a && (b && (c && true))) ≡ false
not-three false b c h = refl
not-three true false c h = refl
not-three true true false h = refl
not-three true true true h = absurd (h refl refl refl)

-- the text of a member's name begins with DED_ only where the array is DED or does so itself
member-not : (a : List ℕ) (i : ℤ) → starts_with nat_eq a (codes "DED_") ≡ false → (a ≡ codes "DED" → ⊥) → starts_with nat_eq (name_of_member a i) (codes "DED_") ≡ false
member-not [] i e n = refl
member-not (x ∷ []) i e n = and_false (nat_eq 68 x)
member-not (x ∷ y ∷ []) i e n = false_behind (nat_eq 68 x) _ (and_false (nat_eq 69 y))
member-not (x ∷ y ∷ z ∷ []) i e n =
    not-three (nat_eq 68 x) (nat_eq 69 y) (nat_eq 68 z) (λ a b c. n (λ j. sym (eqb-true 68 x a) j ∷ sym (eqb-true 69 y b) j ∷ sym (eqb-true 68 z c) j ∷ []))
member-not (x ∷ y ∷ z ∷ w ∷ a) i e n = e

-- ---- what is known of the names that stand for tasks

-- what holds of the names that main declares holds of those that stand for tasks
module _ (Q : NameId → Type 0) where
  abbrev QWord : Word → Type 0
  QWord w = Q w.name

  abbrev QNamed : NamedTasks → Type 0
  QNamed x = Q x.name.name

  -- it holds of each declared name
  abbrev pub AreNamed : PDecls → Type 0
  AreNamed no_decl = Unit {0}
  AreNamed (decl_then d rest) = AllByRecursion QWord (names_declared d) × AreNamed rest

  typed-names : (o : Option PTask) (ws : List Word) (range : Option PDrange) → AllByRecursion QWord ws → AllByRecursion QNamed (task_names_of_type o ws range)
  typed-names None ws range h = tt
  typed-names (Some t) [] range h = tt
  typed-names (Some t) (w ∷ ws) range h = (h.0, typed-names (Some t) ws range h.1)

  object-names : (kinds : List PTask) (ws : List Word) (x : PShape) → AllByRecursion QWord ws → AllByRecursion QNamed (object_task_names kinds ws x)
  object-names kinds ws (OPlain x) h = typed-names (type_named kinds x.mark.name) ws None h
  object-names kinds ws (OArray r x) h = typed-names (type_named kinds x.mark.name) ws (Some r) h

  single-names : (b : Bool) (t : PTask) (s : Span) → QWord t.name → AllByRecursion QNamed (single_task_name b t s)
  single-names true t s h = tt
  single-names false t s h = (h, tt)

  pub task-names : (ds : PDecls) (kinds : List PTask) → AreNamed ds → AllByRecursion QNamed (task_names_in kinds ds)
  task-names no_decl kinds h = tt
  task-names (decl_then (DTask t s) rest) kinds h = all_joined QNamed (single_task_name t.of_kind t s) _ (single-names t.of_kind t s h.0.0) (task-names rest (with_type kinds t.of_kind t) h.1)
  task-names (decl_then (DObject ws c x i s) rest) kinds h = all_joined QNamed (object_task_names kinds ws x) _ (object-names kinds ws x h.0) (task-names rest kinds h.1)
  task-names (decl_then (DTaskBody w objects its s) rest) kinds h = task-names rest kinds h.1
  task-names (decl_then (DNumber w e s) rest) kinds h = task-names rest kinds h.1
  task-names (decl_then (DEnumeration w ws s) rest) kinds h = task-names rest kinds h.1
  task-names (decl_then (DArray w r x s) rest) kinds h = task-names rest kinds h.1
  task-names (decl_then (DSubtype w x s) rest) kinds h = task-names rest kinds h.1
  task-names (decl_then (DException ws s) rest) kinds h = task-names rest kinds h.1
  task-names (decl_then (DIntIo w s) rest) kinds h = task-names rest kinds h.1
  task-names (decl_then (DPragma e s) rest) kinds h = task-names rest kinds h.1

module _ (p : PProgram) where
  -- the name is the program's own
  abbrev Own : NameId → Type 0
  Own id = own_name p id.0 ≡ true

  words-own : (ws : List Word) → All (λ (w : Word). Own w.name) ws → AllByRecursion (λ (w : Word). Own w.name) ws
  words-own ws h = recursion_from_All (λ (w : Word). Own w.name) ws h

  decl-own : (d : PDecl) → EveryDecl (old_names (own_name p)) d → AllByRecursion (λ (w : Word). Own w.name) (names_declared d)
  decl-own (DNumber w e s) h = (h.1, tt)
  decl-own (DObject ws c x i s) h = words-own ws h.1.1
  decl-own (DEnumeration w ws s) h = (h.1, words-own ws h.2.1)
  decl-own (DArray w r x s) h = (h.1, tt)
  decl-own (DSubtype w x s) h = (h.1, tt)
  decl-own (DException ws s) h = words-own ws h.1.1
  decl-own (DIntIo w s) h = (h.1, tt)
  decl-own (DPragma e s) h = tt
  decl-own (DTask t s) h = (h.1.0, tt)
  decl-own (DTaskBody w objects its s) h = tt

  -- the names that are declared are own
  pub declared-own : (ds : PDecls) → EveryDecls (old_names (own_name p)) ds → AreNamed Own ds
  declared-own no_decl h = tt
  declared-own (decl_then d rest) h = (decl-own d h.0, declared-own rest h.1)

  -- the task that is declared has own names
  tasks-own : (ds : PDecls) → EveryDecls (old_names (own_name p)) ds → AllByRecursion (EveryTask (old_names (own_name p))) (tasks_in (decl_list ds))
  tasks-own no_decl h = tt
  tasks-own (decl_then (DTask t sp) rest) h = (h.0.1, tasks-own rest h.1)
  tasks-own (decl_then (DObject ws c x i sp) rest) h = tasks-own rest h.1
  tasks-own (decl_then (DTaskBody w objects its sp) rest) h = tasks-own rest h.1
  tasks-own (decl_then (DNumber w e sp) rest) h = tasks-own rest h.1
  tasks-own (decl_then (DEnumeration w ws sp) rest) h = tasks-own rest h.1
  tasks-own (decl_then (DArray w r x sp) rest) h = tasks-own rest h.1
  tasks-own (decl_then (DSubtype w x sp) rest) h = tasks-own rest h.1
  tasks-own (decl_then (DException ws sp) rest) h = tasks-own rest h.1
  tasks-own (decl_then (DIntIo w sp) rest) h = tasks-own rest h.1
  tasks-own (decl_then (DPragma e sp) rest) h = tasks-own rest h.1

  -- a task's name is own, and if it is the member of an array this is not DED
  abbrev pub IsFine : NumberedTask → Type 0
  IsFine y = Own y.name × (is_some y.member ≡ true → IsNotDed p y.name)

  row-fine : (types : TypeTable) (x : NamedTasks) (row : Option PDrange) → Own x.name.name → (is_some row ≡ true → IsNotDed p x.name.name) → AllByRecursion IsFine (tasks_of_range types x row)
  row-fine types x (Some r) own ded = all-mapped IsFine (λ i. numbered_task x (Some i)) (λ i. (own, λ e. ded refl)) (indices (extent types r))
  row-fine types x None own ded = ((own, λ e. ded e), tt)

  numbered-tasks-fine : (types : TypeTable) (xs : List NamedTasks) → AllByRecursion (λ (x : NamedTasks). Own x.name.name) xs → AllByRecursion (λ (x : NamedTasks). is_some x.index_range ≡ true → IsNotDed p x.name.name) xs →
      AllByRecursion IsFine (flat_map (tasks_of_name types) xs)
  numbered-tasks-fine types [] own ded = tt
  numbered-tasks-fine types (x ∷ xs) own ded = all_joined IsFine (tasks_of_name types x) _ (row-fine types x x.index_range own.0 ded.0) (numbered-tasks-fine types xs own.1 ded.1)

-- ---- each task

-- the names of the program stand in front of those of its normal form
pub normal-begins : (p : PProgram) (types : TypeTable) (numbers : Numbering) → Begins p.names (normal_tree p types numbers).names
normal-begins p types numbers = names-begin (setting_of p types numbers) (variables_needed (setting_of p types numbers))

module _ (p : PProgram) where
  abbrev types : TypeTable
  types = types_in p

  abbrev form : Setting
  form = setting_of p types (all_numbers types p)

  abbrev normal : PProgram
  normal = normal_tree p types (all_numbers types p)

  members-begin : Begins (with_members form) normal.names
  members-begin = variables-begin (with_members form) (variables_needed form)

  -- the name of a numbered task's task is one of the normal form's, and is added there where the numbered task is
  pub record IsNamed (id : NameId) (name : NameId) : Type 0 where
    pub within : id.0 < length normal.names
    pub added : is_added_name normal.names id ≡ is_added_name p.names name

  member-has : (k : ℕ) (y : NumberedTask) (i : ℤ) → slice_get (numbered_tasks types p) k ≡ Some y → y.member ≡ Some i → Has (with_members form) (name_of_member (text_of p.names y.name) i)
  member-has k y i at member =
      has-folded (member_texts p.names form.numbers.tasks) p.names (name_of_member (text_of p.names y.name) i)
      (has-flat (λ (info : TaskInfo). texts_of_member (text_of p.names info.name) info.member) form.numbers.tasks (suc k) (info_of_task p.names y) (name_of_member (text_of p.names y.name) i)
      (slice_get-map (info_of_task p.names) (numbered_tasks types p) k ∙ ap (option_map (info_of_task p.names)) at)
      (subst (λ o. Has (texts_of_member (text_of p.names y.name) o) (name_of_member (text_of p.names y.name) i)) (sym member) (has-mapped (λ (t : List ℕ). t) (name_of_member (text_of p.names y.name) i ∷ []) 0 (name_of_member (text_of p.names y.name) i) refl)))

  named : (k : ℕ) (y : NumberedTask) → slice_get (numbered_tasks types p) k ≡ Some y → IsFine p y → IsNamed (under form y).name.name y.name
  named k y at fine = by_member y.member refl
    where
      text : List ℕ
      text = text_of p.names y.name

      by_member : (o : Option ℤ) → y.member ≡ o → IsNamed (member_name form y.name o) y.name
      by_member None e = record {
        within = begins-within p.names normal.names y.name.0 (normal-begins p types (all_numbers types p)) (own-within p y.name.0 fine.0);
        added = added-longer p.names normal.names y.name (normal-begins p types (all_numbers types p)) (own-within p y.name.0 fine.0);
      }
      by_member (Some i) e =
          let has = member-has k y i at e in
          let id = id_of (with_members form) (name_of_member text i) in
          let within = id-within (with_members form) (name_of_member text i) has in
          record {
            within = begins-within (with_members form) normal.names id.0 members-begin within;
            added =
                added-longer (with_members form) normal.names id members-begin within
                ∙ ap (λ t. starts_with nat_eq t (codes "DED_")) (text-there (with_members form) (name_of_member text i) has)
                ∙ member-not text i (own-not-added p y.name fine.0) (fine.1 (ap is_some e))
                ∙ sym (own-not-added p y.name fine.0);
          }

  pub all-fine : AreOwn p p.decls → NoneIsDed p → AllByRecursion (IsFine p) (numbered_tasks types p)
  all-fine own ded = numbered-tasks-fine p types (task_names_of p) (task-names (Own p) p.decls [] (declared-own p p.decls own)) ded

  -- every task is so named
  pub all-named : AreOwn p p.decls → NoneIsDed p → AllByRecursion (λ (y : NumberedTask). IsNamed (under form y).name.name y.name) (numbered_tasks types p)
  all-named own ded = all_by_place _ (numbered_tasks types p) (λ k y at. named k y at (place-all (IsFine p) (numbered_tasks types p) k y (all-fine own ded) at))

-- ---- entries

-- the entries of each task have own names
pub entries-own : (p : PProgram) → AreOwn p p.decls → (types : TypeTable) → AllByRecursion (λ (y : NumberedTask). AllByRecursion (EveryEntry (old_names (own_name p))) y.unit.entries) (numbered_tasks types p)
entries-own p own types =
    all_weaker (λ (y : NumberedTask). EveryTask (old_names (own_name p)) y.unit) _ (numbered_tasks types p)
    (λ y h. recursion_from_All (EveryEntry (old_names (own_name p))) y.unit.entries h.1)
    (numbered-tasks-all (EveryTask (old_names (own_name p))) types (task_names_of p) (parts-all (EveryTask (old_names (own_name p))) p.decls [] tt (tasks-own p p.decls own)))

-- the range of a family is the same by tables that agree on own names
pub family-kept : (old : ℕ → Bool) (T U : TypeTable) → Agrees old T U → (o : Option PDrange) → IfSome o (EveryDrange (old_names old) 2) → family_extent U o ≡ family_extent T o
family-kept old T U agrees (Some r) h = sym (extent-alike old T U agrees r 2 h)
family-kept old T U agrees None h = refl
