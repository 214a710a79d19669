-- The tasks of an original have names that the source can hold, of at most 120 bytes.
use Rattle.std.proofs.Common.{◌≡◌, ℕ, ◌+◌, ◌≤◌, ℤ, pos, negsuc, Bool, true, false, ◌&&◌, nat_le, nat_lt, List, [], ◌∷◌, ◌++◌, length, map, flat_map, Option, Some, None, IfSome, IsSomeAnd, unwrap_or, slice_get, refl, ap, arith}
use Rattle.std.specs.List.{AllByRecursion}
use Rattle.std.proofs.lemmas.Bool.{ltb-false}
use Rattle.std.proofs.lemmas.List.Elements.{recursion_from_All}
use Rattle.ada_tree.specs.declared.naming.NameId.{NameId}
use Rattle.ada_tree.specs.declared.naming.Span.{Span}
use Rattle.ada_tree.specs.declared.naming.Word.{Word}
use Rattle.ada_tree.specs.Lexical.{IsIdentifier}
use Rattle.ada_tree.specs.TypeTable.{TypeTable}
use Rattle.ada_tree.specs.PlainExpr.{PDrange}
use Rattle.ada_tree.specs.PlainDecl.{PShape, OPlain, OArray, PTask, DNumber, DObject, DEnumeration, DArray, DSubtype, DException, DIntIo, DPragma, DTask, DTaskBody, PDecls, no_decl, decl_then}
use Rattle.ada_tree.specs.PlainProgram.{PProgram}
use Rattle.ada_tree.specs.Every.{EveryWord, EveryDecls}
use Rattle.ada_tree.specs.WellPlaced.{well_placed, IsWellPlaced}
use Rattle.syn_event.specs.declared.numbering.Mode.TheVariants.{Original}
use Rattle.syn_event.specs.declared.numbering.TaskInfo.{TaskInfo}
use Rattle.syn_event.specs.CheckScope.{CheckScope, CheckSite, declares}
use Rattle.syn_event.specs.CheckSites as check
use Rattle.syn_event.specs.Extents.{extent}
use Rattle.syn_event.specs.NamedTasks.{NamedTasks, type_named, task_names_of_type, object_task_names, with_type, single_task_name, task_names_in, task_names_of, NumberedTask, numbered_task, indices, tasks_of_range, tasks_of_name, numbered_tasks}
use Rattle.syn_event.specs.AllNumbers.{info_of_task, all_numbers}
use Rattle.syn_event.specs.DeclaredTasks.{text_of}
use Rattle.syn_event.proofs.Nothing.{test_fails}
use Rattle.task_laws.specs.legal.sites.Met.{IsCheckMet}
use Rattle.normal_laws.specs.structure.placed.Placeable.{IsName, IsSmallIndex, IsShortIndex, HasSmallIndex, IsTask}
use Rattle.common_lemmas.proofs.Lists.{all_back, all_front, all_joined}

module _ (names : List (List ℕ)) where
  abbrev M : CheckSite → Type 0
  M = IsCheckMet Original names

  -- a name of an original: an identifier of at most 120 bytes
  pub record IsShortName (id : NameId) : Type 0 where
    pub text : List ℕ
    pub there : slice_get names id.0 ≡ Some text
    pub identifier : IsIdentifier text
    pub short : length text ≤ 120

  pub declared-length : (c : CheckScope) (w : Word) → M (check.site c (declares w)) → length (text_of names w.name) ≤ 120
  declared-length c w m =
      let e : (nat_le 0 120 && nat_lt 120 (0 + length (text_of names w.name))) ≡ false = test_fails (nat_le 0 120 && nat_lt 120 (0 + length (text_of names w.name))) _ m.limits in
      let l : 0 + length (text_of names w.name) ≤ 120 = ltb-false 120 (0 + length (text_of names w.name)) e in
      omega (arith, l)

  pub declared-short : (c : CheckScope) (w : Word) → IsName names w.name → M (check.site c (declares w)) → IsShortName w.name
  declared-short c w n m = go (slice_get names w.name.0) refl n
    where
      l : length (text_of names w.name) ≤ 120
      l = declared-length c w m

      go : (o : Option (List ℕ)) → slice_get names w.name.0 ≡ o → IsSomeAnd o IsIdentifier → IsShortName w.name
      go None f i = absurd i
      go (Some t) f i =
          let same : length (text_of names w.name) ≡ length t = ap (λ q. length (unwrap_or q [])) f in
          record { text = t; there = f; identifier = i; short = omega (arith, l, same) }

  words-short : (c : CheckScope) (ws : List Word) → AllByRecursion (EveryWord (well_placed names)) ws → AllByRecursion M (check.names_sites c ws) → AllByRecursion (λ w. IsShortName w.name) ws
  words-short c [] h m = tt
  words-short c (w ∷ ws) h m = (declared-short c w h.0 m.0, words-short c ws h.1 m.1)

  -- ---- names of tasks

  abbrev ShortTasks : NamedTasks → Type 0
  ShortTasks x = IsShortName x.name.name

  typed-short : (o : Option PTask) (ws : List Word) (row : Option PDrange) → AllByRecursion (λ w. IsShortName w.name) ws → AllByRecursion ShortTasks (task_names_of_type o ws row)
  typed-short None ws row h = tt
  typed-short (Some t) [] row h = tt
  typed-short (Some t) (w ∷ ws) row h = (h.0, typed-short (Some t) ws row h.1)

  object-short : (kinds : List PTask) (ws : List Word) (shape : PShape) → AllByRecursion (λ w. IsShortName w.name) ws → AllByRecursion ShortTasks (object_task_names kinds ws shape)
  object-short kinds ws (OPlain x) h = typed-short (type_named kinds x.mark.name) ws None h
  object-short kinds ws (OArray index x) h = typed-short (type_named kinds x.mark.name) ws (Some index) h

  single-short : (b : Bool) (t : PTask) (s : Span) → IsShortName t.name.name → AllByRecursion ShortTasks (single_task_name b t s)
  single-short true t s h = tt
  single-short false t s h = (h, tt)

  tasks-short : (bodies : List ℕ) (kinds : List PTask) (ds : PDecls) (c : CheckScope) → EveryDecls (well_placed names) ds → AllByRecursion M (check.decls_sites c bodies ds) → AllByRecursion ShortTasks (task_names_in kinds ds)
  tasks-short bodies kinds no_decl c h m = tt
  tasks-short bodies kinds (decl_then (DTask t s) rest) c h m =
      all_joined ShortTasks (single_task_name t.of_kind t s) (task_names_in (with_type kinds t.of_kind t) rest)
      (single-short t.of_kind t s (declared-short c t.name h.0.1.0 (all_front M (check.decl_sites c bodies (DTask t s)) (check.decls_sites (check.after_decl c (DTask t s)) bodies rest) m).1.0))
      (tasks-short bodies (with_type kinds t.of_kind t) rest (check.after_decl c (DTask t s)) h.1 (all_back M (check.decl_sites c bodies (DTask t s)) (check.decls_sites (check.after_decl c (DTask t s)) bodies rest) m))
  tasks-short bodies kinds (decl_then (DObject ws o x i s) rest) c h m =
      let here : AllByRecursion M (check.names_sites c ws ++ check.shape_sites c x ++ check.if_there (check.init_sites c) i) =
      all_front M (check.decl_sites c bodies (DObject ws o x i s)) (check.decls_sites (check.after_decl c (DObject ws o x i s)) bodies rest) m in
      let first : AllByRecursion M (check.names_sites c ws) =
      all_front M (check.names_sites c ws) (check.shape_sites c x) (all_front M (check.names_sites c ws ++ check.shape_sites c x) (check.if_there (check.init_sites c) i) here) in
      all_joined ShortTasks (object_task_names kinds ws x) (task_names_in kinds rest)
      (object-short kinds ws x (words-short c ws (recursion_from_All (EveryWord (well_placed names)) ws h.0.1.1) first))
      (tasks-short bodies kinds rest (check.after_decl c (DObject ws o x i s)) h.1 (all_back M (check.decl_sites c bodies (DObject ws o x i s)) (check.decls_sites (check.after_decl c (DObject ws o x i s)) bodies rest) m))
  tasks-short bodies kinds (decl_then (DNumber w e s) rest) c h m = tasks-short bodies kinds rest c h.1 (all_back M (check.decl_sites c bodies (DNumber w e s)) (check.decls_sites c bodies rest) m)
  tasks-short bodies kinds (decl_then (DEnumeration w ws s) rest) c h m = tasks-short bodies kinds rest c h.1 (all_back M (check.decl_sites c bodies (DEnumeration w ws s)) (check.decls_sites c bodies rest) m)
  tasks-short bodies kinds (decl_then (DArray w q x s) rest) c h m = tasks-short bodies kinds rest c h.1 (all_back M (check.decl_sites c bodies (DArray w q x s)) (check.decls_sites c bodies rest) m)
  tasks-short bodies kinds (decl_then (DSubtype w x s) rest) c h m = tasks-short bodies kinds rest c h.1 (all_back M (check.decl_sites c bodies (DSubtype w x s)) (check.decls_sites c bodies rest) m)
  tasks-short bodies kinds (decl_then (DException ws s) rest) c h m = tasks-short bodies kinds rest c h.1 (all_back M (check.decl_sites c bodies (DException ws s)) (check.decls_sites c bodies rest) m)
  tasks-short bodies kinds (decl_then (DIntIo w s) rest) c h m = tasks-short bodies kinds rest c h.1 (all_back M (check.decl_sites c bodies (DIntIo w s)) (check.decls_sites c bodies rest) m)
  tasks-short bodies kinds (decl_then (DPragma e s) rest) c h m = tasks-short bodies kinds rest c h.1 (all_back M (check.decl_sites c bodies (DPragma e s)) (check.decls_sites c bodies rest) m)
  tasks-short bodies kinds (decl_then (DTaskBody w objects its s) rest) c h m = tasks-short bodies kinds rest c h.1 (all_back M (check.decl_sites c bodies (DTaskBody w objects its s)) (check.decls_sites c bodies rest) m)

  -- ---- the tasks themselves

  abbrev ShortTask : NumberedTask → Type 0
  ShortTask x = IsShortName x.name

  range-short : (T : TypeTable) (x : NamedTasks) (row : Option PDrange) → ShortTasks x → AllByRecursion ShortTask (tasks_of_range T x row)
  range-short T x None h = (h, tt)
  range-short T x (Some q) h = go (indices (extent T q))
    where
      go : (zs : List ℤ) → AllByRecursion ShortTask (map (λ i. numbered_task x (Some i)) zs)
      go [] = tt
      go (z ∷ zs) = (h, go zs)

  numbered-short : (T : TypeTable) (xs : List NamedTasks) → AllByRecursion ShortTasks xs → AllByRecursion ShortTask (flat_map (tasks_of_name T) xs)
  numbered-short T [] h = tt
  numbered-short T (x ∷ xs) h = all_joined ShortTask (tasks_of_name T x) (flat_map (tasks_of_name T) xs) (range-short T x x.index_range h.0) (numbered-short T xs h.1)

  infos-short : (xs : List NumberedTask) → AllByRecursion ShortTask xs → AllByRecursion (λ (i : TaskInfo). IsShortName i.name) (map (info_of_task names) xs)
  infos-short [] h = tt
  infos-short (x ∷ xs) h = (h.0, infos-short xs h.1)

  -- ---- with small indices

  short-index : (z : ℤ) → IsSmallIndex z → IsShortIndex z
  short-index (pos n) h = omega (arith, h)
  short-index (negsuc n) h = omega (arith, h)

  with-index : (o : Option ℤ) → IfSome o IsSmallIndex → IfSome o IsShortIndex
  with-index None h = tt
  with-index (Some z) h = short-index z h

  both-known : (xs : List TaskInfo) → AllByRecursion (λ i. IsShortName i.name) xs → AllByRecursion HasSmallIndex xs → AllByRecursion (IsTask names) xs
  both-known [] h i = tt
  both-known (x ∷ xs) h i = (
    record { text = h.0.text; there = h.0.there; identifier = h.0.identifier; short = h.0.short; index = with-index x.member i.0 },
    both-known xs h.1 i.1,
  )

-- The tasks in the numbers of an original have such names, where members have small indices.
pub original-tasks : (p : PProgram) (T : TypeTable) → IsWellPlaced p → AllByRecursion (IsCheckMet Original p.names) (check.check_sites p) → AllByRecursion HasSmallIndex (all_numbers T p).tasks → AllByRecursion (IsTask p.names) (all_numbers T p).tasks
original-tasks p T placed met small =
    both-known p.names (all_numbers T p).tasks (
      declared-short p.names (check.around_program p) p.name placed.0 met.0,
      infos-short p.names (numbered_tasks T p)
          (numbered-short p.names T (task_names_of p) (tasks-short p.names (check.body_names p.decls) [] p.decls (check.around_program p) placed.2 (all_front M' main its (all_front M' (main ++ its) (check.counted_sites (check.around_program p) p) met.1)))),
    )
    small
  where
    M' : CheckSite → Type 0
    M' = IsCheckMet Original p.names

    main : List CheckSite
    main = check.decls_sites (check.around_program p) (check.body_names p.decls) p.decls

    its : List CheckSite
    its = check.body_sites (check.after_decls (check.around_program p) p.decls) 1 p.body
