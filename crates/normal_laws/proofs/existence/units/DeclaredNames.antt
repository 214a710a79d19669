-- The names that main's declarations declare are identifiers, and none of them is reserved.
use Rattle.std.proofs.Common.{◌≡◌, ℕ, Bool, true, false, List, [], ◌∷◌, ◌++◌, map, flat_map, Option, Some, None, slice_get, All}
use Rattle.std.specs.Option.{IsSomeAnd}
use Rattle.std.specs.List.{AllByRecursion}
use Rattle.std.proofs.lemmas.List.Elements.{recursion_from_All}
use Rattle.ada_tree.specs.declared.naming.NameId.{NameId}
use Rattle.ada_tree.specs.declared.naming.Span.{Span}
use Rattle.ada_tree.specs.declared.naming.Word.{Word}
use Rattle.ada_tree.specs.TypeTable.{TypeTable}
use Rattle.ada_tree.specs.PlainExpr.{PDrange}
use Rattle.ada_tree.specs.PlainDecl.{PShape, OPlain, OArray, PTask, PDecl, DNumber, DObject, DEnumeration, DArray, DSubtype, DException, DIntIo, DPragma, DTask, DTaskBody, PDecls, no_decl, decl_then}
use Rattle.ada_tree.specs.PlainProgram.{PProgram}
use Rattle.ada_tree.specs.Every.{EveryWord, EveryDecl, EveryDecls}
use Rattle.ada_tree.specs.Lexical.{IsIdentifier}
use Rattle.ada_tree.specs.WellPlaced.{tokens, HasTokens}
use Rattle.syn_event.specs.declared.numbering.Mode.TheVariants.{Original}
use Rattle.syn_event.specs.declared.numbering.TaskInfo.{TaskInfo}
use Rattle.syn_event.specs.DeclaredTasks.{text_of}
use Rattle.syn_event.specs.Extents.{extent}
use Rattle.syn_event.specs.NamedTasks.{NamedTasks, type_named, task_names_of_type, object_task_names, with_type, single_task_name, task_names_in, task_names_of, NumberedTask, numbered_task, indices, tasks_of_range, tasks_of_name, numbered_tasks}
use Rattle.syn_event.specs.AllNumbers.{info_of_task}
use Rattle.syn_event.specs.CheckScope.{CheckScope, CheckSite, declares}
use Rattle.syn_event.specs.CheckSites.{site, if_there, names_sites, shape_sites, init_sites, decl_sites, decls_sites, body_sites, after_decl, after_decls, around_program, body_names, counted_sites}
use Rattle.syn_event.specs.CheckRefusals.{MeetsCheckRules}
use Rattle.syn_event.specs.RuleReservedName.{is_reserved}
use Rattle.task_laws.specs.legal.rewritten_types.Rewriting.{names_declared}
use Rattle.normal_laws.proofs.structure.types.Variables.{all-mapped}
use Rattle.task_laws.specs.legal.sites.Met.{IsCheckMet}
use Rattle.task_laws.proofs.legal.sites.Meeting.{all_check_met}
use Rattle.task_laws.proofs.legal.sites.Around.{test-fails}
use Rattle.common_lemmas.proofs.Lists.{all_back, all_front, all_joined}

-- a name that the source can hold and that is left to no rewriter
pub record IsGood (names : List (List ℕ)) (id : NameId) : Type 0 where
  pub there : IsSomeAnd (slice_get names id.0) IsIdentifier
  pub free : is_reserved (text_of names id) ≡ false

module _ (names : List (List ℕ)) where
  abbrev M : CheckSite → Type 0
  M x = IsCheckMet Original names x

  abbrev GoodWord : Word → Type 0
  GoodWord w = IsGood names w.name

  word-good : (a : CheckScope) (w : Word) → EveryWord (tokens names) w → M (site a (declares w)) → GoodWord w
  word-good a w h m = record { there = h; free = test-fails (is_reserved (text_of names w.name)) w.span m.reserved }

  words-list : (a : CheckScope) (ws : List Word) → AllByRecursion (EveryWord (tokens names)) ws → AllByRecursion M (names_sites a ws) → AllByRecursion GoodWord ws
  words-list a [] h m = tt
  words-list a (w ∷ ws) h m = (word-good a w h.0 m.0, words-list a ws h.1 m.1)

  words-good : (a : CheckScope) (ws : List Word) → All (EveryWord (tokens names)) ws → AllByRecursion M (names_sites a ws) → AllByRecursion GoodWord ws
  words-good a ws h m = words-list a ws (recursion_from_All (EveryWord (tokens names)) ws h) m

  decl-good : (d : PDecl) (bodies : List ℕ) (a : CheckScope) → EveryDecl (tokens names) d → AllByRecursion M (decl_sites a bodies d) → AllByRecursion GoodWord (names_declared d)
  decl-good (DNumber w e s) bodies a h m = (word-good a w h.1 m.0, tt)
  decl-good (DObject ws c x i s) bodies a h m =
      words-good a ws h.1.1 (all_front M (names_sites a ws) (shape_sites a x) (all_front M (names_sites a ws ++ shape_sites a x) (if_there (init_sites a) i) m))
  decl-good (DEnumeration w ws s) bodies a h m = (word-good a w h.1 m.0, words-good a ws h.2.1 m.1)
  decl-good (DArray w r x s) bodies a h m = (word-good a w h.1 m.0, tt)
  decl-good (DSubtype w x s) bodies a h m = (word-good a w h.1 m.0, tt)
  decl-good (DException ws s) bodies a h m = words-good a ws h.1.1 m
  decl-good (DIntIo w s) bodies a h m = (word-good a w h.1 m.0, tt)
  decl-good (DPragma e s) bodies a h m = tt
  decl-good (DTask t s) bodies a h m = (word-good a t.name h.1.0 m.1.0, tt)
  decl-good (DTaskBody w ds b s) bodies a h m = tt

  -- all declarations
  abbrev pub AreGood : PDecls → Type 0
  AreGood no_decl = Unit {0}
  AreGood (decl_then d rest) = AllByRecursion GoodWord (names_declared d) × AreGood rest

  decls-good : (ds : PDecls) (bodies : List ℕ) (a : CheckScope) → EveryDecls (tokens names) ds → AllByRecursion M (decls_sites a bodies ds) → AreGood ds
  decls-good no_decl bodies a h m = tt
  decls-good (decl_then d rest) bodies a h m = (
    decl-good d bodies a h.0 (all_front M (decl_sites a bodies d) (decls_sites (after_decl a d) bodies rest) m),
    decls-good rest bodies (after_decl a d) h.1 (all_back M (decl_sites a bodies d) (decls_sites (after_decl a d) bodies rest) m),
  )

  -- ---- the names that stand for tasks

  abbrev GoodPart : NamedTasks → Type 0
  GoodPart x = GoodWord x.name

  typed-good : (o : Option PTask) (ws : List Word) (row : Option PDrange) → AllByRecursion GoodWord ws → AllByRecursion GoodPart (task_names_of_type o ws row)
  typed-good None ws row h = tt
  typed-good (Some t) [] row h = tt
  typed-good (Some t) (w ∷ ws) row h = (h.0, typed-good (Some t) ws row h.1)

  object-good : (kinds : List PTask) (ws : List Word) (x : PShape) → AllByRecursion GoodWord ws → AllByRecursion GoodPart (object_task_names kinds ws x)
  object-good kinds ws (OPlain x) h = typed-good (type_named kinds x.mark.name) ws None h
  object-good kinds ws (OArray r x) h = typed-good (type_named kinds x.mark.name) ws (Some r) h

  single-good : (b : Bool) (t : PTask) (s : Span) → GoodWord t.name → AllByRecursion GoodPart (single_task_name b t s)
  single-good true t s h = tt
  single-good false t s h = (h, tt)

  parts-good : (ds : PDecls) (kinds : List PTask) → AreGood ds → AllByRecursion GoodPart (task_names_in kinds ds)
  parts-good no_decl kinds h = tt
  parts-good (decl_then (DTask t s) rest) kinds h = all_joined GoodPart (single_task_name t.of_kind t s) _ (single-good t.of_kind t s h.0.0) (parts-good rest (with_type kinds t.of_kind t) h.1)
  parts-good (decl_then (DObject ws c x i s) rest) kinds h = all_joined GoodPart (object_task_names kinds ws x) _ (object-good kinds ws x h.0) (parts-good rest kinds h.1)
  parts-good (decl_then (DNumber w e s) rest) kinds h = parts-good rest kinds h.1
  parts-good (decl_then (DEnumeration w ws s) rest) kinds h = parts-good rest kinds h.1
  parts-good (decl_then (DArray w r x s) rest) kinds h = parts-good rest kinds h.1
  parts-good (decl_then (DSubtype w x s) rest) kinds h = parts-good rest kinds h.1
  parts-good (decl_then (DException ws s) rest) kinds h = parts-good rest kinds h.1
  parts-good (decl_then (DIntIo w s) rest) kinds h = parts-good rest kinds h.1
  parts-good (decl_then (DPragma e s) rest) kinds h = parts-good rest kinds h.1
  parts-good (decl_then (DTaskBody w ds b s) rest) kinds h = parts-good rest kinds h.1

  -- ---- the tasks in the numbers

  abbrev GoodTask : NumberedTask → Type 0
  GoodTask x = IsGood names x.name

  row-good : (T : TypeTable) (x : NamedTasks) (row : Option PDrange) → GoodPart x → AllByRecursion GoodTask (tasks_of_range T x row)
  row-good T x (Some r) h = all-mapped GoodTask (λ i. numbered_task x (Some i)) (λ i. h) (indices (extent T r))
  row-good T x None h = (h, tt)

  numbered-tasks-good : (T : TypeTable) (xs : List NamedTasks) → AllByRecursion GoodPart xs → AllByRecursion GoodTask (flat_map (tasks_of_name T) xs)
  numbered-tasks-good T [] h = tt
  numbered-tasks-good T (x ∷ xs) h = all_joined GoodTask (tasks_of_name T x) _ (row-good T x x.index_range h.0) (numbered-tasks-good T xs h.1)

  infos-good : (xs : List NumberedTask) → AllByRecursion GoodTask xs → AllByRecursion (λ (i : TaskInfo). IsGood names i.name) (map (info_of_task names) xs)
  infos-good [] h = tt
  infos-good (x ∷ xs) h = (h.0, infos-good xs h.1)

-- the names of a program's declarations
pub names-good : (p : PProgram) → MeetsCheckRules p Original → HasTokens p → AreGood p.names p.decls
names-good p checks has =
    let a = around_program p in
    let front = site a (declares p.name) ∷ decls_sites a (body_names p.decls) p.decls in
    let main = body_sites (after_decls a p.decls) 1 p.body in
    let all = all_check_met p Original checks in
    decls-good p.names p.decls (body_names p.decls) a has.2
    (all_front (M p.names) front main (all_front (M p.names) (front ++ main) (counted_sites a p) all)).1

-- the names of its tasks
pub tasks-good : (p : PProgram) (types : TypeTable) → MeetsCheckRules p Original → HasTokens p → AllByRecursion (λ (i : TaskInfo). IsGood p.names i.name) (map (info_of_task p.names) (numbered_tasks types p))
tasks-good p types checks has = infos-good p.names (numbered_tasks types p) (numbered-tasks-good p.names types (task_names_of p) (parts-good p.names p.decls [] (names-good p checks has)))
