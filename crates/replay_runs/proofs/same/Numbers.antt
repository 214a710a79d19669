-- What a renaming of ids does to the numbers of a program: they go over to those with other ids (9.1, 9.5).
use Rattle.std.proofs.Common.{◌&&◌, ◌++◌, ◌+◌, ◌==◌, ◌||◌, ◌∙◌, ◌∷◌, ◌≡◌, Bool, Err, List, None, Ok, Option, Result, Some, [], ap, codes, count_by, false, flat_map, if◌then◌else◌, is_some, map, nat_eq, not, option_map, refl, sym, take, true, unwrap_or, ℕ, ℤ}
use Rattle.std.proofs.lemmas.List.{map-append, take-map}
use Rattle.std.specs.Cmp.Lexicographic.{pointwise}
use Rattle.std.specs.List.{starts_with}
use Rattle.ada_tree.specs.PlainDecl.{DArray, DEnumeration, DException, DIntIo, DNumber, DObject, DPragma, DSubtype, DTask, DTaskBody, OArray, OPlain, PDecls, PEntry, PShape, PTask, decl_then, no_decl}
use Rattle.ada_tree.specs.PlainExpr.{PBounds, PDrange, PExpr, RGiven, RMarked}
use Rattle.ada_tree.specs.PlainProgram.{PProgram}
use Rattle.ada_tree.specs.TypeTable.{TypeTable}
use Rattle.ada_tree.specs.declared.naming.NameId.{NameId}
use Rattle.ada_tree.specs.declared.naming.Span.{Span}
use Rattle.ada_tree.specs.declared.naming.Word.{Word}
use Rattle.ada_tree.specs.declared.static_types.Mark.{Mark}
use Rattle.ada_static_rules.specs.StaticValue.{mark_named, value_of}
use Rattle.syn_event.specs.AddedNames.{is_added_name, original_number, speaks_of, task_info, with_origin, with_origins}
use Rattle.syn_event.specs.AllNumbers.{all_numbers, entries_of_tasks, entry_of_task, family_extent, first_of, info_of_task, last_index}
use Rattle.syn_event.specs.DeclaredTasks.{text_of}
use Rattle.syn_event.specs.Extents.{between, bounds_extent, extent, fixed, mark_extent, marked_extent, unraised_value}
use Rattle.syn_event.specs.NamedTasks.{NamedTasks, NumberedTask, indices, named_tasks, numbered_task, numbered_tasks, object_task_names, single_task_name, task_names_in, task_names_of, task_names_of_type, tasks_of_name, tasks_of_range, type_named, with_type}
use Rattle.syn_event.specs.Numbering.{is_original_entry}
use Rattle.syn_event.specs.declared.numbering.EntryInfo.{EntryInfo}
use Rattle.task_model.specs.Machine.{after}
use Rattle.replay_runs.proofs.same.Lists.{count_mapped, find_mapped, flat_mapped, map_once, map_twice, option_once, position_mapped}
use Rattle.replay_runs.proofs.same.Names.{mark_named_same}
use Rattle.replay_runs.proofs.same.Statics.{is_static_same, spanless, value_same}
use Rattle.replay_runs.specs.same.Renamed.{IsRenaming, KeepsTexts, no_span, renamed_bounds, renamed_decls, renamed_drange, renamed_entry, renamed_expr, renamed_id, renamed_mark, renamed_program, renamed_shape, renamed_task, renamed_types, renamed_word}
use Rattle.replay_runs.specs.same.inner.RenamedNumbers.{renamed_named, renamed_numbered}
use Rattle.replay_runs.specs.same.inner.RenamedTasks.{renamed_entry_info, renamed_numbers, renamed_task_info}

module _ (f : ℕ → ℕ) (r : IsRenaming f) where
  -- ---- extents

  unraised_same : (x : Result ℤ Span) → unraised_value (spanless x) ≡ unraised_value x
  unraised_same (Ok z) = refl
  unraised_same (Err s) = refl

  fixed_same : (types : TypeTable) (e : PExpr) → fixed (renamed_types f types) (renamed_expr f e) ≡ fixed types e
  fixed_same types e = λ i. if is_static_same f r types e i then known i else None
    where
      known : unraised_value (value_of (renamed_types f types) (renamed_expr f e)) ≡ unraised_value (value_of types e)
      known = ap unraised_value (value_same f r types e) ∙ unraised_same (value_of types e)

  bounds_extent_same : (types : TypeTable) (b : PBounds) → bounds_extent (renamed_types f types) (renamed_bounds f b) ≡ bounds_extent types b
  bounds_extent_same types b = λ i. between (fixed_same types b.first i) (fixed_same types b.last i)

  mark_extent_same : (types : TypeTable) (id : NameId) → mark_extent (renamed_types f types) (renamed_id f id) ≡ mark_extent types id
  mark_extent_same types id = ap (option_map (λ (m : Mark). record { first = m.first; last = m.last })) (mark_named_same f r types id)
      ∙ option_once (renamed_mark f) (λ m. record { first = m.first; last = m.last }) (λ m. record { first = m.first; last = m.last }) (λ m. refl) (mark_named types id)

  marked_extent_same : (types : TypeTable) (id : NameId) (o : Option PBounds) → marked_extent (renamed_types f types) (renamed_id f id) (option_map (renamed_bounds f) o) ≡ marked_extent types id o
  marked_extent_same types id None = mark_extent_same types id
  marked_extent_same types id (Some b) = bounds_extent_same types b

  extent_same : (types : TypeTable) (x : PDrange) → extent (renamed_types f types) (renamed_drange f x) ≡ extent types x
  extent_same types (RGiven b) = bounds_extent_same types b
  extent_same types (RMarked x) = marked_extent_same types x.mark.name x.bounds

  -- ---- the names of tasks

  type_named_same : (kinds : List PTask) (id : NameId) → type_named (map (renamed_task f) kinds) (renamed_id f id) ≡ option_map (renamed_task f) (type_named kinds id)
  type_named_same kinds id = find_mapped (renamed_task f) (λ t. t.name.name.0 == f id.0) (λ t. t.name.name.0 == id.0) (λ t. r.same t.name.name.0 id.0) kinds

  of_type_same : (o : Option PTask) (ws : List Word) (d : Option PDrange) →
      task_names_of_type (option_map (renamed_task f) o) (map (renamed_word f) ws) (option_map (renamed_drange f) d) ≡ map (renamed_named f) (task_names_of_type o ws d)
  of_type_same None ws d = refl
  of_type_same (Some t) ws d = map_twice (renamed_word f) (λ w. named_tasks w w.span (renamed_task f t) (option_map (renamed_drange f) d)) (λ w. named_tasks w w.span t d)
      (renamed_named f) (λ w. refl) ws

  object_names_same : (kinds : List PTask) (ws : List Word) (x : PShape) →
      object_task_names (map (renamed_task f) kinds) (map (renamed_word f) ws) (renamed_shape f x) ≡ map (renamed_named f) (object_task_names kinds ws x)
  object_names_same kinds ws (OPlain x) = ap (λ o. task_names_of_type o (map (renamed_word f) ws) None) (type_named_same kinds x.mark.name) ∙ of_type_same (type_named kinds x.mark.name) ws None
  object_names_same kinds ws (OArray d x) = ap (λ o. task_names_of_type o (map (renamed_word f) ws) (Some (renamed_drange f d))) (type_named_same kinds x.mark.name)
      ∙ of_type_same (type_named kinds x.mark.name) ws (Some d)

  with_type_same : (kinds : List PTask) (b : Bool) (t : PTask) → with_type (map (renamed_task f) kinds) b (renamed_task f t) ≡ map (renamed_task f) (with_type kinds b t)
  with_type_same kinds true t = refl
  with_type_same kinds false t = refl

  single_same : (b : Bool) (t : PTask) (s : Span) → single_task_name b (renamed_task f t) no_span ≡ map (renamed_named f) (single_task_name b t s)
  single_same true t s = refl
  single_same false t s = refl

  names_in_same : (kinds : List PTask) (ds : PDecls) → task_names_in (map (renamed_task f) kinds) (renamed_decls f ds) ≡ map (renamed_named f) (task_names_in kinds ds)
  names_in_same kinds no_decl = refl
  names_in_same kinds (decl_then (DTask t s) rest) =
      (λ i. single_same t.of_kind t s i ++ task_names_in (with_type_same kinds t.of_kind t i) (renamed_decls f rest))
      ∙ (ap (λ xs. map (renamed_named f) (single_task_name t.of_kind t s) ++ xs) (names_in_same (with_type kinds t.of_kind t) rest)
      ∙ sym (map-append (renamed_named f) (single_task_name t.of_kind t s) (task_names_in (with_type kinds t.of_kind t) rest)))
  names_in_same kinds (decl_then (DObject ws constant shape init s) rest) =
      (λ i. object_names_same kinds ws shape i ++ names_in_same kinds rest i)
      ∙ sym (map-append (renamed_named f) (object_task_names kinds ws shape) (task_names_in kinds rest))
  names_in_same kinds (decl_then (DNumber w e s) rest) = names_in_same kinds rest
  names_in_same kinds (decl_then (DEnumeration w ws s) rest) = names_in_same kinds rest
  names_in_same kinds (decl_then (DArray w d x s) rest) = names_in_same kinds rest
  names_in_same kinds (decl_then (DSubtype w x s) rest) = names_in_same kinds rest
  names_in_same kinds (decl_then (DException ws s) rest) = names_in_same kinds rest
  names_in_same kinds (decl_then (DIntIo w s) rest) = names_in_same kinds rest
  names_in_same kinds (decl_then (DPragma e s) rest) = names_in_same kinds rest
  names_in_same kinds (decl_then (DTaskBody w ds b s) rest) = names_in_same kinds rest

  -- ---- the tasks

  tasks_by : (types : TypeTable) (x : NamedTasks) (o : Option PDrange) →
      tasks_of_range (renamed_types f types) (renamed_named f x) (option_map (renamed_drange f) o) ≡ map (renamed_numbered f) (tasks_of_range types x o)
  tasks_by types x None = refl
  tasks_by types x (Some d) = ap (λ e. map (λ i. numbered_task (renamed_named f x) (Some i)) (indices e)) (extent_same types d)
      ∙ sym (map_once (λ i. numbered_task x (Some i)) (renamed_numbered f) (λ i. numbered_task (renamed_named f x) (Some i)) (λ i. refl) (indices (extent types d)))

  numbered_same : (names : List (List ℕ)) (types : TypeTable) (p : PProgram) → numbered_tasks (renamed_types f types) (renamed_program f names p) ≡ map (renamed_numbered f) (numbered_tasks types p)
  numbered_same names types p = ap (flat_map (tasks_of_name (renamed_types f types))) (names_in_same [] p.decls)
      ∙ flat_mapped (renamed_named f) (tasks_of_name (renamed_types f types)) (tasks_of_name types) (renamed_numbered f) (λ x. tasks_by types x x.index_range) (task_names_of p)

  -- ---- with texts

  module _ (before after : List (List ℕ)) (keeps : KeepsTexts f before after) where
    text_same : (id : NameId) → text_of after (renamed_id f id) ≡ text_of before id
    text_same id = ap (λ o. unwrap_or o []) (keeps id.0)

    is_added_same : (id : NameId) → is_added_name after (renamed_id f id) ≡ is_added_name before id
    is_added_same id = ap (λ t. starts_with nat_eq t (codes "DED_")) (text_same id)

    main_same : (id : NameId) → task_info after (renamed_id f id) ≡ renamed_task_info f (task_info before id)
    main_same id = λ i. record { name = renamed_id f id; added = is_added_same id i; unit = renamed_id f id; member = None }

    info_same : (x : NumberedTask) → info_of_task after (renamed_numbered f x) ≡ renamed_task_info f (info_of_task before x)
    info_same x = λ i. record { name = renamed_id f x.name; added = is_added_same x.name i; unit = renamed_id f x.unit.name.name; member = x.member }

    family_extent_same : (types : TypeTable) (o : Option PDrange) → family_extent (renamed_types f types) (option_map (renamed_drange f) o) ≡ family_extent types o
    family_extent_same types None = refl
    family_extent_same types (Some d) = extent_same types d

    is_family_same : (o : Option PDrange) → is_some (option_map (renamed_drange f) o) ≡ is_some o
    is_family_same None = refl
    is_family_same (Some d) = refl

    entry_same : (types : TypeTable) (t : ℕ) (x : NumberedTask) (e : PEntry) →
        entry_of_task after (renamed_types f types) t (renamed_numbered f x) (renamed_entry f e) ≡ renamed_entry_info f (entry_of_task before types t x e)
    entry_same types t x e = λ i. record {
      name = renamed_id f e.name.name;
      owner = t;
      family = is_family_same e.family i;
      first = first_of (family_extent_same types e.family i);
      last = last_index (family_extent_same types e.family i);
      added = is_added_same x.name i || is_added_same e.name.name i;
      stands_for = None;
    }

    entries_same : (types : TypeTable) (t : ℕ) (xs : List NumberedTask) →
        entries_of_tasks after (renamed_types f types) t (map (renamed_numbered f) xs) ≡ map (renamed_entry_info f) (entries_of_tasks before types t xs)
    entries_same types t [] = refl
    entries_same types t (x ∷ rest) =
        (λ i. map_twice (renamed_entry f) (entry_of_task after (renamed_types f types) t (renamed_numbered f x)) (entry_of_task before types t x) (renamed_entry_info f)
        (entry_same types t x) x.unit.entries i
        ++ entries_same types (t + 1) rest i)
        ∙ sym (map-append (renamed_entry_info f) (map (entry_of_task before types t x) x.unit.entries) (entries_of_tasks before types (t + 1) rest))

    speaks_same : (x y : EntryInfo) → speaks_of after (renamed_entry_info f x) (renamed_entry_info f y) ≡ speaks_of before x y
    speaks_same x y = λ i. ((y.owner == x.owner) && not y.added) && pointwise nat_eq (text_same x.name i) (codes "DED_S_" ++ text_same y.name i)

    original_same : (all : List EntryInfo) (n : ℕ) → original_number (map (renamed_entry_info f) all) n ≡ original_number all n
    original_same all n = ap (count_by is_original_entry) (take-map (renamed_entry_info f) (n + 1) all)
        ∙ count_mapped (renamed_entry_info f) is_original_entry is_original_entry (λ x. refl) (take (n + 1) all)

    origin_same : (all : List EntryInfo) (x : EntryInfo) → with_origin after (map (renamed_entry_info f) all) (renamed_entry_info f x) ≡ renamed_entry_info f (with_origin before all x)
    origin_same all x = λ i. record {
      name = renamed_id f x.name;
      owner = x.owner;
      family = x.family;
      first = x.first;
      last = x.last;
      added = x.added;
      stands_for = option_map (λ n. original_same all n i) (position_mapped (renamed_entry_info f) (speaks_of after (renamed_entry_info f x)) (speaks_of before x) (speaks_same x) all i);
    }

    origins_same : (all : List EntryInfo) → with_origins after (map (renamed_entry_info f) all) ≡ map (renamed_entry_info f) (with_origins before all)
    origins_same all = map_twice (renamed_entry_info f) (with_origin after (map (renamed_entry_info f) all)) (with_origin before all) (renamed_entry_info f) (origin_same all) all

  -- the numbers of a program go over to those with other ids
  pub numbers_same : (names : List (List ℕ)) (types : TypeTable) (p : PProgram) → KeepsTexts f p.names names →
      all_numbers (renamed_types f types) (renamed_program f names p) ≡ renamed_numbers f (all_numbers types p)
  numbers_same names types p keeps = λ i. record {
    main = renamed_id f p.name.name;
    tasks = main_same p.names names keeps p.name.name i ∷ (ap (map (info_of_task names)) (numbered_same names types p)
        ∙ map_twice (renamed_numbered f) (info_of_task names) (info_of_task p.names) (renamed_task_info f) (info_same p.names names keeps) (numbered_tasks types p)) i;
    entries = (ap (λ xs. with_origins names (entries_of_tasks names (renamed_types f types) 1 xs)) (numbered_same names types p)
        ∙ (ap (with_origins names) (entries_same p.names names keeps types 1 (numbered_tasks types p))
        ∙ origins_same p.names names keeps (entries_of_tasks p.names types 1 (numbered_tasks types p)))) i;
  }
