-- What a renaming of ids does to tasks as they start (3.2.1, 9.1, 9.3).
use Rattle.std.proofs.Common.{◌==◌, ◌||◌, ◌∙◌, ◌∷◌, ◌≡◌, Bool, Err, List, None, Ok, Option, Result, Some, [], ap, count_by, false, if◌then◌else◌, map, option_map, refl, replicate, slice_get, slice_index_or, take, unwrap_or, ℕ, ℤ}
use Rattle.std.proofs.lemmas.List.{take-map}
use Rattle.std.specs.Option.{option_map_or}
use Rattle.ada_tree.specs.PlainDecl.{DArray, DEnumeration, DException, DIntIo, DNumber, DObject, DPragma, DSubtype, DTask, DTaskBody, IList, IOne, IOthers, OArray, OPlain, PDecl, PDecls, PInit, PShape, decl_then, no_decl}
use Rattle.ada_tree.specs.PlainExpr.{PBounds, PDrange, PExpr, PSubind}
use Rattle.ada_tree.specs.PlainProgram.{PProgram}
use Rattle.ada_tree.specs.PlainStmt.{PBody, body}
use Rattle.ada_tree.specs.TypeTable.{TypeTable}
use Rattle.ada_tree.specs.declared.naming.NameId.{NameId}
use Rattle.ada_tree.specs.declared.naming.Word.{Word}
use Rattle.ada_tree.specs.declared.static_types.Kind.{Kind}
use Rattle.ada_tree.specs.declared.static_types.Mark.{Mark}
use Rattle.ada_static_rules.specs.StaticValue.{mark_named}
use Rattle.event_machine.specs.declared.Event.{Event}
use Rattle.event_machine.specs.progress.Known.{part}
use Rattle.syn_event.specs.Numbering.{Numbering, entry_at, is_added_task, is_original_entry, owner_of, task_at}
use Rattle.syn_event.specs.Origin.{back_of, entry_number, original_call, original_entry, unless_added}
use Rattle.syn_event.specs.declared.numbering.EntryInfo.{EntryInfo}
use Rattle.syn_event.specs.declared.numbering.TaskInfo.{TaskInfo}
use Rattle.ada_value.specs.Evaluating.{evaluated, narrowed, range_of}
use Rattle.ada_value.specs.Values.{lies_in, limits_of, position_of}
use Rattle.ada_value.specs.Variables.{Variables, form_of_kind, form_of_mark}
use Rattle.ada_value.specs.declared.values.Form.{Form}
use Rattle.ada_value.specs.declared.values.Limits.{Limits}
use Rattle.ada_value.specs.declared.values.Raised.{Raised}
use Rattle.ada_value.specs.declared.values.Value.{Value}
use Rattle.task_model.specs.Frames.{OwnBody, control}
use Rattle.task_model.specs.Setting.{Setting}
use Rattle.task_model.specs.Starting.{after_declaration, array_form, declared_objects, form_of, indicated, initial, initials, is_in_types, known_range, marked_form, object_of, objects_of, plain_form, started, started_in, unit_among, unit_of, unit_of_decl, unit_of_info, value_count, value_or_lower, with_objects}
use Rattle.task_model.specs.Steps.{block_handlers, block_stmts}
use Rattle.replay_runs.proofs.same.Lists.{count_mapped, if_like, map_once, unwrapped}
use Rattle.replay_runs.proofs.same.Names.{evaluated_same, kept, kind_at_same, limits_at_same, lower_same, mark_named_same, narrowed_same, range_same}
use Rattle.replay_runs.proofs.same.Settings.{entry_at_same, task_at_same}
use Rattle.replay_runs.specs.same.Renamed.{IsRenaming, renamed_body, renamed_bounds, renamed_decl, renamed_decls, renamed_drange, renamed_expr, renamed_handlers, renamed_id, renamed_init, renamed_kind, renamed_mark, renamed_program, renamed_shape, renamed_stmts, renamed_subind, renamed_types, renamed_word}
use Rattle.replay_runs.specs.same.inner.RenamedTasks.{names_for, renamed_entry_info, renamed_numbers, renamed_setting, renamed_state, renamed_task_info, renamed_unit}
use Rattle.replay_runs.specs.same.inner.RenamedValues.{renamed_object, renamed_vars}
use Rattle.event_machine.specs.declared.Event.TheVariants as event
use Rattle.task_model.specs.Starting as starting
use Rattle.ada_tree.specs.declared.static_types.Kind.TheVariants as kind

module _ (f : ℕ → ℕ) (r : IsRenaming f) where
  -- ---- what an object is

  known_kept : (x : Result Limits Raised) → known_range (kept f r x) ≡ known_range x
  known_kept (Ok l) = refl
  known_kept (Err x) = refl

  indicated_same : (types : TypeTable) (m : Mark) (o : Option PBounds) → indicated (renamed_types f types) (renamed_mark f m) (option_map (renamed_bounds f) o) ≡ indicated types m o
  indicated_same types m o = ap known_range (narrowed_same f r types [] (limits_of m) o) ∙ known_kept (narrowed types [] (limits_of m) o)

  of_kind_same : (types : TypeTable) (m : Mark) (o : Option Kind) → form_of_kind (renamed_types f types) (renamed_mark f m) (option_map (renamed_kind f) o) ≡ form_of_kind types m o
  of_kind_same types m None = refl
  of_kind_same types m (Some kind.Integer) = refl
  of_kind_same types m (Some kind.Truth) = refl
  of_kind_same types m (Some (kind.Enumeration literals)) = refl
  of_kind_same types m (Some (kind.Array index first last part)) = λ i. record { limits = limits_at_same f r types part i; index = Some record { kind = index; first = first; last = last } }

  of_mark_same : (types : TypeTable) (m : Mark) → form_of_mark (renamed_types f types) (renamed_mark f m) ≡ form_of_mark types m
  of_mark_same types m = ap (form_of_kind (renamed_types f types) (renamed_mark f m)) (kind_at_same f r types m.kind) ∙ of_kind_same types m (slice_get types.kinds m.kind)

  marked_by : (types : TypeTable) (x : PSubind) (m : Mark) (o : Option Limits) → marked_form (renamed_types f types) (renamed_subind f x) (renamed_mark f m) o ≡ marked_form types x m o
  marked_by types x m None = λ i. record { limits = indicated_same types m x.bounds i; index = None }
  marked_by types x m (Some index) = of_mark_same types m

  plain_by : (types : TypeTable) (x : PSubind) (o : Option Mark) → plain_form (renamed_types f types) (renamed_subind f x) (option_map (renamed_mark f) o) ≡ plain_form types x o
  plain_by types x None = refl
  plain_by types x (Some m) = ap Some (ap (λ (form : Form). marked_form (renamed_types f types) (renamed_subind f x) (renamed_mark f m) form.index) (of_mark_same types m)
      ∙ marked_by types x m (form_of_mark types m).index)

  array_by : (types : TypeTable) (d : PDrange) (x : PSubind) (o : Option Mark) →
      array_form (renamed_types f types) (renamed_drange f d) (renamed_subind f x) (option_map (renamed_mark f) o) ≡ array_form types d x o
  array_by types d x None = refl
  array_by types d x (Some m) = λ i. Some record { limits = indicated_same types m x.bounds i; index = Some (range_known i) }
    where
      range_known : known_range (range_of (renamed_types f types) [] (renamed_drange f d)) ≡ known_range (range_of types [] d)
      range_known = ap known_range (range_same f r types [] d) ∙ known_kept (range_of types [] d)

  form_same : (types : TypeTable) (x : PShape) → form_of (renamed_types f types) (renamed_shape f x) ≡ form_of types x
  form_same types (OPlain x) = ap (plain_form (renamed_types f types) (renamed_subind f x)) (mark_named_same f r types x.mark.name) ∙ plain_by types x (mark_named types x.mark.name)
  form_same types (OArray d x) = ap (array_form (renamed_types f types) (renamed_drange f d) (renamed_subind f x)) (mark_named_same f r types x.mark.name)
      ∙ array_by types d x (mark_named types x.mark.name)

  -- ---- initial values

  lower_by : (types : TypeTable) (limits : Limits) (x : Result Value Raised) → value_or_lower (renamed_types f types) limits (kept f r x) ≡ value_or_lower types limits x
  lower_by types limits (Ok v) = ap (λ w. if lies_in limits (position_of v) then v else w) (lower_same f r types limits)
  lower_by types limits (Err x) = lower_same f r types limits

  initial_same : (types : TypeTable) (limits : Limits) (e : PExpr) → initial (renamed_types f types) limits (renamed_expr f e) ≡ initial types limits e
  initial_same types limits e = ap (value_or_lower (renamed_types f types) limits) (evaluated_same f r types [] e) ∙ lower_by types limits (evaluated types [] e)

  initials_same : (types : TypeTable) (form : Form) (o : Option PInit) → initials (renamed_types f types) form (option_map (renamed_init f) o) ≡ initials types form o
  initials_same types form None = ap (replicate (value_count form.index)) (lower_same f r types form.limits)
  initials_same types form (Some (IOne e)) = ap (replicate (value_count form.index)) (initial_same types form.limits e)
  initials_same types form (Some (IList es s)) = map_once (renamed_expr f) (initial (renamed_types f types) form.limits) (initial types form.limits) (initial_same types form.limits) es
  initials_same types form (Some (IOthers e s)) = ap (replicate (value_count form.index)) (initial_same types form.limits e)

  -- ---- the objects of a unit

  object_same : (types : TypeTable) (form : Form) (o : Option PInit) (w : Word) →
      object_of (renamed_types f types) form (option_map (renamed_init f) o) (renamed_word f w) ≡ renamed_object f (object_of types form o w)
  object_same types form o w = λ i. record { name = renamed_id f w.name; limits = form.limits; index = form.index; values = initials_same types form o i }

  with_objects_same : (types : TypeTable) (form : Form) (o : Option PInit) (ws : List Word) (vars : Variables) →
      with_objects (renamed_types f types) form (option_map (renamed_init f) o) (map (renamed_word f) ws) (renamed_vars f vars) ≡ renamed_vars f (with_objects types form o ws vars)
  with_objects_same types form o [] vars = refl
  with_objects_same types form o (w ∷ ws) vars =
      ap (λ x. with_objects (renamed_types f types) form (option_map (renamed_init f) o) (map (renamed_word f) ws) (x ∷ renamed_vars f vars)) (object_same types form o w)
      ∙ with_objects_same types form o ws (object_of types form o w ∷ vars)

  declared_by : (types : TypeTable) (in_main : Bool) (ws : List Word) (constant : Bool) (init : Option PInit) (o : Option Form) (vars : Variables) →
      declared_objects (renamed_types f types) in_main (map (renamed_word f) ws) constant (option_map (renamed_init f) init) o (renamed_vars f vars)
      ≡ renamed_vars f (declared_objects types in_main ws constant init o vars)
  declared_by types in_main ws constant init None vars = refl
  declared_by types in_main ws constant init (Some form) vars = if_like (renamed_vars f) (is_in_types in_main constant form) (is_in_types in_main constant form) refl refl
      (with_objects_same types form init ws vars)

  after_same : (types : TypeTable) (in_main : Bool) (d : PDecl) (vars : Variables) →
      after_declaration (renamed_types f types) in_main (renamed_decl f d) (renamed_vars f vars) ≡ renamed_vars f (after_declaration types in_main d vars)
  after_same types in_main (DObject ws constant shape init s) vars =
      ap (λ o. declared_objects (renamed_types f types) in_main (map (renamed_word f) ws) constant (option_map (renamed_init f) init) o (renamed_vars f vars)) (form_same types shape)
      ∙ declared_by types in_main ws constant init (form_of types shape) vars
  after_same types in_main (DNumber w e s) vars = refl
  after_same types in_main (DEnumeration w ws s) vars = refl
  after_same types in_main (DArray w d x s) vars = refl
  after_same types in_main (DSubtype w x s) vars = refl
  after_same types in_main (DException ws s) vars = refl
  after_same types in_main (DIntIo w s) vars = refl
  after_same types in_main (DPragma e s) vars = refl
  after_same types in_main (DTask t s) vars = refl
  after_same types in_main (DTaskBody w ds b s) vars = refl

  objects_same : (types : TypeTable) (in_main : Bool) (ds : PDecls) (vars : Variables) →
      objects_of (renamed_types f types) in_main (renamed_decls f ds) (renamed_vars f vars) ≡ renamed_vars f (objects_of types in_main ds vars)
  objects_same types in_main no_decl vars = refl
  objects_same types in_main (decl_then d rest) vars = ap (objects_of (renamed_types f types) in_main (renamed_decls f rest)) (after_same types in_main d vars)
      ∙ objects_same types in_main rest (after_declaration types in_main d vars)

  -- ---- the units

  of_decl_same : (d : PDecl) (name : NameId) → unit_of_decl (renamed_decl f d) (renamed_id f name) ≡ option_map (renamed_unit f) (unit_of_decl d name)
  of_decl_same (DTaskBody w ds b s) name = if_like (option_map (renamed_unit f)) _ (w.name.0 == name.0) (r.same w.name.0 name.0) refl refl
  of_decl_same (DObject ws constant shape init s) name = refl
  of_decl_same (DNumber w e s) name = refl
  of_decl_same (DEnumeration w ws s) name = refl
  of_decl_same (DArray w d x s) name = refl
  of_decl_same (DSubtype w x s) name = refl
  of_decl_same (DException ws s) name = refl
  of_decl_same (DIntIo w s) name = refl
  of_decl_same (DPragma e s) name = refl
  of_decl_same (DTask t s) name = refl

  among_same : (ds : PDecls) (name : NameId) → unit_among (renamed_decls f ds) (renamed_id f name) ≡ renamed_unit f (unit_among ds name)
  among_same no_decl name = refl
  among_same (decl_then d rest) name = (λ i. unwrap_or (of_decl_same d name i) (among_same rest name i)) ∙ unwrapped (renamed_unit f) (unit_of_decl d name) (unit_among rest name)

  module _ (names : List (List ℕ)) where
    of_info_same : (p : PProgram) (o : Option TaskInfo) → unit_of_info (renamed_program f names p) (option_map (renamed_task_info f) o) ≡ renamed_unit f (unit_of_info p o)
    of_info_same p None = refl
    of_info_same p (Some info) = among_same p.decls info.unit

    unit_same : (p : PProgram) (numbers : Numbering) (t : ℕ) → unit_of (renamed_program f names p) (renamed_numbers f numbers) t ≡ renamed_unit f (unit_of p numbers t)
    unit_same p numbers t = if_like (renamed_unit f) (t == 0) (t == 0) refl refl
        (ap (unit_of_info (renamed_program f names p)) (task_at_same f r numbers t) ∙ of_info_same p (task_at numbers t))

  -- ---- the start

  block_stmts_same : (b : PBody) → block_stmts (renamed_body f b) ≡ renamed_stmts f (block_stmts b)
  block_stmts_same (body stmts handlers) = refl

  block_handlers_same : (b : PBody) → block_handlers (renamed_body f b) ≡ renamed_handlers f (block_handlers b)
  block_handlers_same (body stmts handlers) = refl

  module _ (names : List (List ℕ)) where
    started_in_same : (g : Setting) (t : ℕ) (u : starting.Unit) (input : List ℤ) → started_in (renamed_setting f names g) t (renamed_unit f u) input ≡ renamed_state f names (started_in g t u input)
    started_in_same g t u input = λ i. record {
      setting = renamed_setting f names g;
      number = t;
      control = control (block_stmts_same u.body i) (OwnBody (block_handlers_same u.body i) None) [] (objects_same g.types u.in_main u.decls [] i);
      input = input;
      output = [];
    }

    pub started_same : (g : Setting) (inputs : List (List ℤ)) (t : ℕ) → started (renamed_setting f names g) inputs t ≡ renamed_state f names (started g inputs t)
    started_same g inputs t = ap (λ u. started_in (renamed_setting f names g) t u (slice_index_or inputs t [])) (unit_same (names_for names g.program.names) g.program g.numbers t)
        ∙ started_in_same g t (unit_of g.program g.numbers t) (slice_index_or inputs t [])

  -- ---- owners

  owner_by : (o : Option EntryInfo) → option_map_or (λ info. info.owner) (option_map (renamed_entry_info f) o) 0 ≡ option_map_or (λ info. info.owner) o 0
  owner_by None = refl
  owner_by (Some info) = refl

  pub owner_same : (numbers : Numbering) (e : ℕ) → owner_of (renamed_numbers f numbers) e ≡ owner_of numbers e
  owner_same numbers e = ap (λ o. option_map_or (λ info. info.owner) o 0) (entry_at_same f r numbers e) ∙ owner_by (entry_at numbers e)

  added_by : (o : Option TaskInfo) → option_map_or (λ info. info.added) (option_map (renamed_task_info f) o) false ≡ option_map_or (λ info. info.added) o false
  added_by None = refl
  added_by (Some info) = refl

  pub added_same : (numbers : Numbering) (t : ℕ) → is_added_task (renamed_numbers f numbers) t ≡ is_added_task numbers t
  added_same numbers t = ap (λ o. option_map_or (λ info. info.added) o false) (task_at_same f r numbers t) ∙ added_by (task_at numbers t)

  -- ---- what events stand for

  entry_by : (numbers : Numbering) (e : ℕ) (name : NameId) (owner : ℕ) (family : Bool) (first last : ℤ) (added : Bool) (o : Option ℕ) →
      entry_number (renamed_numbers f numbers) e (Some record { name = renamed_id f name; owner = owner; family = family; first = first; last = last; added = added; stands_for = o })
      ≡ entry_number numbers e (Some record { name = name; owner = owner; family = family; first = first; last = last; added = added; stands_for = o })
  entry_by numbers e name owner family first last added (Some n) = refl
  entry_by numbers e name owner family first last added None =
      ap (λ n. if added then None else Some n) (ap (count_by is_original_entry) (take-map (renamed_entry_info f) e numbers.entries)
      ∙ count_mapped (renamed_entry_info f) is_original_entry is_original_entry (λ x. refl) (take e numbers.entries))

  entry_number_same : (numbers : Numbering) (e : ℕ) (o : Option EntryInfo) → entry_number (renamed_numbers f numbers) e (option_map (renamed_entry_info f) o) ≡ entry_number numbers e o
  entry_number_same numbers e None = refl
  entry_number_same numbers e (Some x) = entry_by numbers e x.name x.owner x.family x.first x.last x.added x.stands_for

  original_same : (numbers : Numbering) (e : ℕ) → original_entry (renamed_numbers f numbers) e ≡ original_entry numbers e
  original_same numbers e = ap (entry_number (renamed_numbers f numbers) e) (entry_at_same f r numbers e) ∙ entry_number_same numbers e (entry_at numbers e)

  call_same : (numbers : Numbering) (c e : ℕ) → original_call (renamed_numbers f numbers) c e ≡ original_call numbers c e
  call_same numbers c e =
      (λ i. if added_same numbers c i || is_added_task (renamed_numbers f numbers) (owner_same numbers e i) then None else original_same numbers e i)
      ∙ ap (λ b. if is_added_task numbers c || b then None else original_entry numbers e) (added_same numbers (owner_of numbers e))

  unless_same : (numbers : Numbering) (t : ℕ) (event : Event) → unless_added (renamed_numbers f numbers) t event ≡ unless_added numbers t event
  unless_same numbers t event = ap (λ b. if b then None else Some event) (added_same numbers t)

  pub back_same : (numbers : Numbering) (event : Event) → back_of (renamed_numbers f numbers) event ≡ back_of numbers event
  back_same numbers (event.R c e i) = ap (option_map (λ n. event.R c n i)) (call_same numbers c e)
  back_same numbers (event.C c e i) = ap (option_map (λ n. event.C c n i)) (call_same numbers c e)
  back_same numbers (event.T c e i) = ap (option_map (λ n. event.T c n i)) (call_same numbers c e)
  back_same numbers (event.F c e i) = ap (option_map (λ n. event.F c n i)) (call_same numbers c e)
  back_same numbers (event.E a) = unless_same numbers a (event.E a)
  back_same numbers (event.S a) = unless_same numbers a (event.S a)
  back_same numbers (event.D a k) = unless_same numbers a (event.D a k)
  back_same numbers (event.X a) = unless_same numbers a (event.X a)
  back_same numbers (event.B t x) = λ i. if added_same numbers t i || added_same numbers x i then None else Some (event.B t x)
  back_same numbers event.Z = refl
