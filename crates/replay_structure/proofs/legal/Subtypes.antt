-- The subtypes of the variables that the normal form of a legal program adds have kept names, and none is too deep.
use Rattle.std.proofs.Common.{◌≡◌, ℕ, ◌==◌, Bool, true, false, List, [], ◌∷◌, map, find, Option, Some, None, IfSome, refl, sym, subst, arith}
use Rattle.std.specs.List.{AllByRecursion}
use Rattle.std.proofs.lemmas.List.Elements.{recursion_from_All}
use Rattle.common_lemmas.proofs.Lists.{all_front, all_back, all_joined, all_second}
use Rattle.ada_tree.specs.declared.naming.NameId.{NameId}
use Rattle.ada_tree.specs.declared.naming.Span.{Span}
use Rattle.ada_tree.specs.declared.naming.Word.{Word}
use Rattle.ada_tree.specs.TypeTable.{TypeTable}
use Rattle.ada_tree.specs.PlainExpr.{PDrange, RGiven, RMarked}
use Rattle.ada_tree.specs.PlainStmt.{PFormal}
use Rattle.ada_tree.specs.PlainDecl.{PShape, OPlain, OArray, PTask, PDecl, DNumber, DObject, DEnumeration, DArray, DSubtype, DException, DIntIo, DPragma, DTask, DTaskBody, PDecls, no_decl, decl_then}
use Rattle.ada_tree.specs.PlainProgram.{PProgram}
use Rattle.ada_static_rules.specs.Scope.{and_then}
use Rattle.ada_tree.specs.Every.{Rules, EveryDrange, EverySubind, EveryFormal, EveryEntry, EveryShape, EveryDecl, EveryDecls}
use Rattle.syn_event.specs.declared.numbering.Mode.TheVariants.{Original}
use Rattle.syn_event.specs.declared.numbering.EntryInfo.{EntryInfo}
use Rattle.syn_event.specs.Numbering.{entry_at}
use Rattle.syn_event.specs.NamedTasks.{NamedTasks, type_named, with_type, task_names_of_type, object_task_names, single_task_name, task_names_in, task_names_of}
use Rattle.syn_event.specs.CheckScope.{CheckScope, CheckSite}
use Rattle.syn_event.specs.CheckSites as check
use Rattle.syn_event.specs.DeclaredTasks.{decl_list, tasks_of}
use Rattle.task_laws.specs.legal.sites.Met.{IsCheckMet}
use Rattle.task_laws.specs.legal.types.Typed.{IsFirstTask, IsTypedTask, HasTypedTasks}
use Rattle.task_laws.proofs.legal.types.TaskTypes.{part-units}
use Rattle.task_laws.proofs.legal.rewritten_types.Lookups.{find-all}
use Rattle.task_model.specs.Setting.{Setting, formals_of_info}
use Rattle.normal_model.specs.Ranges.{marked, subtype_of_range, array_range, range_of_info, family_range}
use Rattle.normal_model.specs.Calls.{Slot, slots_of}
use Rattle.task_laws.specs.legal.alike_scopes.Old.{IsOldSubind}
use Rattle.normal_laws.proofs.structure.placed.Added.{AreSubtypes}
use Rattle.normal_laws.proofs.existence.variable_types.Numbers.{EntryRule, IsRuled, IsEntryOf, entry-of, formals-are, range-is}
use Rattle.normal_laws.proofs.existence.variable_types.Subtypes.{RangeEvery}
use Rattle.normal_laws.specs.structure.checked.Around.{own_rules}
use Rattle.normal_laws.specs.runs.forms.Normalisable.{numbers_of, setting_for}
use Rattle.normal_laws.specs.existence.Laws.{IsLegalOriginal}
use Rattle.normal_laws.specs.legality.scopes.Plain.{plain_name}
use Rattle.normal_laws.proofs.legality.scopes.Names.{plain-own}
use Rattle.normal_laws.proofs.legality.typed_declarations.Variables.{subtypes-good}
use Rattle.normal_laws.proofs.legality.typed_declarations.Joined.{program-rules}
use Rattle.normal_laws.proofs.legality.checks.Facts as facts
use Rattle.replay_structure.proofs.checkable.Kept.{rules_of, drange-kept}
use Rattle.replay_structure.proofs.checkable.KeptDecls.{HasRest, tasks-rest}
use Rattle.replay_structure.proofs.checkable.Tasks.{in-tasks}
use Rattle.replay_structure.proofs.legal.Keeping.{IsKeeping}
use Rattle.replay_structure.proofs.legal.Kept.{first-kept}

-- ---- arrays of tasks

module _ (own kept : ℕ → Bool) (old : (n : ℕ) → own n ≡ true → kept n ≡ true) (names : List (List ℕ)) (ids : List ℕ) where
  abbrev r : Rules
  r = own_rules own

  abbrev r' : Rules
  r' = rules_of kept

  abbrev M : CheckSite → Type 0
  M = IsCheckMet Original names

  abbrev At : List CheckSite → Type 0
  At xs = AllByRecursion M xs

  abbrev AreRows : List NamedTasks → Type 0
  AreRows xs = AllByRecursion (RangeEvery r') xs

  rows-of-type : (o : Option PTask) (ws : List Word) (row : Option PDrange) → IfSome row (EveryDrange r' 2) → AreRows (task_names_of_type o ws row)
  rows-of-type None ws row h = tt
  rows-of-type (Some t) [] row h = tt
  rows-of-type (Some t) (w ∷ ws) row h = (h, rows-of-type (Some t) ws row h)

  rows-of-object : (c : CheckScope) (kinds : List PTask) (ws : List Word) (x : PShape) → EveryShape r x → At (check.shape_sites c x) → AreRows (object_task_names kinds ws x)
  rows-of-object c kinds ws (OPlain x) h m = rows-of-type (type_named kinds x.mark.name) ws None tt
  rows-of-object c kinds ws (OArray q x) h m =
      rows-of-type (type_named kinds x.mark.name) ws (Some q) (drange-kept own kept old names c 2 q h.0 (all_front M (check.index_sites c q) (check.subind_sites c 2 x) m).1)

  row-of-task : (b : Bool) (t : PTask) (s : Span) → AreRows (single_task_name b t s)
  row-of-task true t s = tt
  row-of-task false t s = (tt, tt)

  -- the ranges of all arrays of tasks have kept names
  pub rows-kept : (ds : PDecls) (kinds : List PTask) (c : CheckScope) → EveryDecls r ds → At (check.decls_sites c ids ds) → AreRows (task_names_in kinds ds)
  rows-kept no_decl kinds c h m = tt
  rows-kept (decl_then d rest) kinds c h m =
      let later : List CheckSite = check.decls_sites (check.after_decl c d) ids rest in
      one d h.0 (all_front M (check.decl_sites c ids d) later m) (λ kinds'. rows-kept rest kinds' (check.after_decl c d) h.1 (all_back M (check.decl_sites c ids d) later m))
    where
      one : (x : PDecl) → EveryDecl r x → At (check.decl_sites c ids x) → ((kinds' : List PTask) → AreRows (task_names_in kinds' rest)) → AreRows (task_names_in kinds (decl_then x rest))
      one (DTask t s) e n next = all_joined (RangeEvery r') (single_task_name t.of_kind t s) (task_names_in (with_type kinds t.of_kind t) rest) (row-of-task t.of_kind t s) (next (with_type kinds t.of_kind t))
      one (DObject ws k x i s) e n next =
          all_joined (RangeEvery r') (object_task_names kinds ws x) (task_names_in kinds rest)
          (rows-of-object c kinds ws x e.2 (all_second M (check.names_sites c ws) (check.shape_sites c x) (check.if_there (check.init_sites c) i) n)) (next kinds)
      one (DNumber w x s) e n next = next kinds
      one (DEnumeration w ws s) e n next = next kinds
      one (DArray w q x s) e n next = next kinds
      one (DSubtype w x s) e n next = next kinds
      one (DException ws s) e n next = next kinds
      one (DIntIo w s) e n next = next kinds
      one (DPragma x s) e n next = next kinds
      one (DTaskBody w objects its s) e n next = next kinds

-- ---- a legal program

module _ (p : PProgram) (h : IsLegalOriginal p) (kept : ℕ → Bool) (are : IsKeeping p kept) where
  abbrev g : Setting
  g = setting_for p

  abbrev T : TypeTable
  T = facts.T p h

  abbrev q : Rules
  q = rules_of kept

  plain-kept : (k : ℕ) → plain_name p k ≡ true → kept k ≡ true
  plain-kept k e = are.old k (plain-own p k e)

  -- ---- ranges

  abbrev IsRow : NamedTasks → Type 0
  IsRow = RangeEvery q

  array-kept : (id : NameId) → IfSome (array_range p id) (EveryDrange q 2)
  array-kept id = by_part (find (λ (x : NamedTasks). x.name.name.0 == id.0) (task_names_of p)) refl
    where
      all : AllByRecursion IsRow (task_names_of p)
      all = rows-kept (facts.own p h) kept are.old p.names (check.body_names p.decls) p.decls [] (facts.around p h) (facts.owns p h).2 (facts.decls-checked p h)

      by_part : (o : Option NamedTasks) → find (λ (x : NamedTasks). x.name.name.0 == id.0) (task_names_of p) ≡ o → IfSome (and_then (λ (x : NamedTasks). x.index_range) o) (EveryDrange q 2)
      by_part None e = tt
      by_part (Some x) e = find-all IsRow (λ (y : NamedTasks). y.name.name.0 == id.0) (task_names_of p) x all e

  -- the subtype of a range of which the names are kept, where the name of its type is so
  range-kept : (s : Span) (o : Option PDrange) → IsOldSubind (plain_name p) (subtype_of_range T s o) → IfSome o (EveryDrange q 2) → EverySubind q 2 (subtype_of_range T s o)
  range-kept s None plain i = (first-kept p h kept are 0 (omega arith), tt)
  range-kept s (Some (RMarked x)) plain i = i
  range-kept s (Some (RGiven b)) plain i = (plain-kept _ plain.0, i)

  -- ---- entries

  abbrev Rule : EntryRule
  Rule t e = EveryEntry q e

  tasks-ruled : (ts : List PTask) → AllByRecursion (IsFirstTask (tasks_of p)) ts → AllByRecursion (IsTypedTask T) ts → AllByRecursion (HasRest kept) ts → AllByRecursion (IsRuled p Rule) ts
  tasks-ruled [] f t k = tt
  tasks-ruled (x ∷ ts) f t k = (record { first = f.0; entries = recursion_from_All (EveryEntry q) x.entries k.0.0; found = t.0.found }, tasks-ruled ts f.1 t.1 k.1)

  -- the entries and priorities of all tasks
  pub rest-kept : AllByRecursion (HasRest kept) (tasks_of p)
  rest-kept = in-tasks (HasRest kept) (decl_list p.decls) (tasks-rest (facts.own p h) kept are.old p.names (check.body_names p.decls) p.decls (facts.around p h) (facts.owns p h).2 (facts.decls-checked p h))

  entry-there : (e : ℕ) (info : EntryInfo) → entry_at (numbers_of p) e ≡ Some info → IsEntryOf p Rule (numbers_of p).tasks info
  entry-there e info f =
      let t : HasTypedTasks p = (facts.ready p h).tasks in
      entry-of p Rule (part-units (IsRuled p Rule) p.decls [] tt (tasks-ruled (tasks_of p) t.found t.tasks rest-kept)) e info f

  family-kept : (e : ℕ) → IfSome (family_range g e) (EveryDrange q 2)
  family-kept e = go (entry_at (numbers_of p) e) refl
    where
      go : (o : Option EntryInfo) → entry_at (numbers_of p) e ≡ o → IfSome (range_of_info g o) (EveryDrange q 2)
      go None f = tt
      go (Some info) f = let k = entry-there e info f in subst (λ o. IfSome o (EveryDrange q 2)) (sym (range-is p Rule info k)) k.has.2

  formals-kept : (e : ℕ) → AllByRecursion (EveryFormal q) (formals_of_info g (entry_at (numbers_of p) e))
  formals-kept e = go (entry_at (numbers_of p) e) refl
    where
      go : (o : Option EntryInfo) → entry_at (numbers_of p) e ≡ o → AllByRecursion (EveryFormal q) (formals_of_info g o)
      go None f = tt
      go (Some info) f = let k = entry-there e info f in subst (AllByRecursion (EveryFormal q)) (sym (formals-are p Rule info k)) (recursion_from_All (EveryFormal q) k.entry.formals k.has.3)

  abbrev IsSlotKept : Slot → Type 0
  IsSlotKept x = EverySubind q 2 (marked x.mark)

  slots-kept : (fs : List PFormal) → AllByRecursion (EveryFormal q) fs → AllByRecursion IsSlotKept (slots_of fs)
  slots-kept [] k = tt
  slots-kept (f ∷ fs) k = all_joined IsSlotKept (map (λ w. record { mode = f.mode; mark = f.mark }) f.names) (slots_of fs) (each f.names) (slots-kept fs k.1)
    where
      each : (ws : List Word) → AllByRecursion IsSlotKept (map (λ w. record { mode = f.mode; mark = f.mark }) ws)
      each [] = tt
      each (w ∷ ws) = ((k.0.1, tt), each ws)

  -- The subtypes of the added variables have kept names, and none is too deep.
  pub subtypes-kept : AreSubtypes g (EverySubind q 2)
  subtypes-kept =
      let good = subtypes-good p h (program-rules p h).2 in
      record {
        integers = λ s. (first-kept p h kept are 0 (omega arith), tt);
        truths = λ s. (first-kept p h kept are 3 (omega arith), tt);
        arrays = λ s id. range-kept s (array_range p id) (good.array s id).1 (array-kept id);
        families = λ s e. range-kept s (family_range g e) (good.family s e).1 (family-kept e);
        formals = λ e. slots-kept (formals_of_info g (entry_at (numbers_of p) e)) (formals-kept e);
      }
