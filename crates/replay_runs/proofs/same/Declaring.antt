-- What a renaming of ids does to declarations: the types, marks and constants of a program go over to those with other ids (3.1).
use Rattle.std.proofs.Common.{◌++◌, ◌-ℤ◌, ◌∙◌, ◌∷◌, ◌≡◌, Bool, List, None, Option, Some, [], ap, arith, false, length, map, negsuc, option_map, pos, refl, sym, true, unwrap_or, ℕ, ℤ}
use Rattle.std.proofs.lemmas.List.{length-map, map-append}
use Rattle.ada_tree.specs.PlainDecl.{DArray, DEnumeration, DException, DIntIo, DNumber, DObject, DPragma, DSubtype, DTask, DTaskBody, IList, IOne, IOthers, OArray, OPlain, PDecl, PDecls, PEntry, PInit, PShape, PTask, decl_then, no_decl}
use Rattle.ada_tree.specs.PlainExpr.{PBounds, PDrange, PSubind, RGiven, RMarked}
use Rattle.ada_tree.specs.PlainProgram.{PProgram}
use Rattle.ada_tree.specs.PlainStmt.{PFormal}
use Rattle.ada_tree.specs.TypeTable.{TypeTable}
use Rattle.ada_tree.specs.declared.naming.NameId.{NameId}
use Rattle.ada_tree.specs.declared.naming.Word.{Word}
use Rattle.ada_tree.specs.declared.static_types.Kind.{Kind}
use Rattle.ada_tree.specs.declared.static_types.Kind.TheVariants.{Array, Enumeration, Integer, Truth}
use Rattle.ada_tree.specs.declared.static_types.Mark.{Mark}
use Rattle.ada_static_rules.specs.Declaring.{Declared, Made, add_constants, add_kind, add_mark, after_decl, after_decls, after_enumeration, after_object, after_objects, after_own_object, after_task, after_type, array_object, before_all, constant_mark, constant_value, constants_for, declared_object, drange_range, entry_family, entry_part, family_of, first_mark, first_scope, formal_parts, given_range, in_body, initial_value, kind_at_mark, made, made_array, made_named_array, made_range, made_subind, made_subtype, mark_for, marked_range, object_meaning, of_made, own_entries, plain_object, renamed, seen_as, subind_made, task_array, task_object, task_thing, type_of_mark, with_constants, with_name, with_names, with_types}
use Rattle.ada_static_rules.specs.ExprTypes.{kind_of, static_in, static_range}
use Rattle.ada_static_rules.specs.Refusals.{types_in}
use Rattle.ada_static_rules.specs.Scope.{AnException, AnotherUnit, ArrayMark, ConstantObject, EntryPart, Literal, LoopParameter, MainProcedure, Marking, NoMark, Parameter, Range, ScalarMark, Scope, SingleTask, TaskArray, TaskMark, TaskObject, TaskType, Thing, TypeMark, Unclear, UnclearMark, UnknownMark, Variable, and_then, entries_of, integer_kind, mark_at, marking, meaning, range_of_mark, scalar_kind, truth_kind}
use Rattle.replay_runs.proofs.same.Lists.{flat_mapped, if_like, map_twice, option_once}
use Rattle.replay_runs.proofs.same.Names.{mark_at_same}
use Rattle.replay_runs.proofs.same.Statics.{kind_same, marking_same, meaning_same, scalar_same, static_range_same, static_same}
use Rattle.replay_runs.specs.same.Renamed.{IsRenaming, renamed_bounds, renamed_constant, renamed_decl, renamed_decls, renamed_drange, renamed_entry, renamed_formal, renamed_id, renamed_init, renamed_kind, renamed_mark, renamed_program, renamed_shape, renamed_subind, renamed_task, renamed_types, renamed_word}
use Rattle.replay_runs.specs.same.inner.RenamedScopes.{renamed_declared, renamed_entry_part, renamed_formal_part, renamed_made, renamed_marking, renamed_meaning, renamed_scope, renamed_thing}

module _ (f : ℕ → ℕ) (r : IsRenaming f) where
  -- ---- the table

  add_mark_same : (types : TypeTable) (m : Mark) → add_mark (renamed_types f types) (renamed_mark f m) ≡ renamed_types f (add_mark types m)
  add_mark_same types m = λ i. record {
    kinds = map (renamed_kind f) types.kinds;
    marks = sym (map-append (renamed_mark f) types.marks (m ∷ [])) i;
    constants = map (renamed_constant f) types.constants;
  }

  add_kind_same : (types : TypeTable) (k : Kind) → add_kind (renamed_types f types) (renamed_kind f k) ≡ renamed_types f (add_kind types k)
  add_kind_same types k = λ i. record {
    kinds = sym (map-append (renamed_kind f) types.kinds (k ∷ [])) i;
    marks = map (renamed_mark f) types.marks;
    constants = map (renamed_constant f) types.constants;
  }

  made_same : (types : TypeTable) (m : Mark) → made (renamed_types f types) (renamed_mark f m) ≡ renamed_made f (made types m)
  made_same types m = λ i. record { types = add_mark_same types m i; mark = Some (length-map types.marks (renamed_mark f) i) }

  made_range_same : (types : TypeTable) (o : Option Range) → made_range (renamed_types f types) o ≡ renamed_made f (made_range types o)
  made_range_same types None = refl
  made_range_same types (Some range) = made_same types (mark_for None range)

  subind_by : (scope : Scope) (m : Marking) (o : Option PBounds) → subind_made (renamed_scope f scope) (renamed_marking f m) (option_map (renamed_bounds f) o) ≡ renamed_made f (subind_made scope m o)
  subind_by scope (ScalarMark m k) None = refl
  subind_by scope (ScalarMark m k) (Some b) = ap (made_range (renamed_types f scope.types)) (static_range_same f r scope k b) ∙ made_range_same scope.types (static_range scope k b)
  subind_by scope (ArrayMark m range part) o = refl
  subind_by scope (TaskMark entries) o = refl
  subind_by scope NoMark o = refl
  subind_by scope UnknownMark o = refl
  subind_by scope UnclearMark o = refl

  subind_same : (scope : Scope) (x : PSubind) → made_subind (renamed_scope f scope) (renamed_subind f x) ≡ renamed_made f (made_subind scope x)
  subind_same scope x = ap (λ m. subind_made (renamed_scope f scope) m (option_map (renamed_bounds f) x.bounds)) (marking_same f r scope x.mark.name)
      ∙ subind_by scope (marking scope x.mark.name) x.bounds

  given_by_kind : (scope : Scope) (o : Option ℕ) (b : PBounds) → given_range (renamed_scope f scope) o (renamed_bounds f b) ≡ given_range scope o b
  given_by_kind scope None b = refl
  given_by_kind scope (Some k) b = static_range_same f r scope k b

  of_mark_range : (types : TypeTable) (m : ℕ) → range_of_mark (renamed_types f types) m ≡ range_of_mark types m
  of_mark_range types m = ap (option_map (λ (x : Mark). record { kind = x.kind; first = x.first; last = x.last })) (mark_at_same f r types m)
      ∙ option_once (renamed_mark f) (λ x. record { kind = x.kind; first = x.first; last = x.last }) (λ x. record { kind = x.kind; first = x.first; last = x.last }) (λ x. refl) (mark_at types m)

  marked_by : (scope : Scope) (m : Marking) (o : Option PBounds) → marked_range (renamed_scope f scope) (renamed_marking f m) (option_map (renamed_bounds f) o) ≡ marked_range scope m o
  marked_by scope (ScalarMark m k) None = of_mark_range scope.types m
  marked_by scope (ScalarMark m k) (Some b) = static_range_same f r scope k b
  marked_by scope (ArrayMark m range part) o = refl
  marked_by scope (TaskMark entries) o = refl
  marked_by scope NoMark o = refl
  marked_by scope UnknownMark o = refl
  marked_by scope UnclearMark o = refl

  drange_same : (scope : Scope) (x : PDrange) → drange_range (renamed_scope f scope) (renamed_drange f x) ≡ drange_range scope x
  drange_same scope (RGiven b) = ap (λ o. given_range (renamed_scope f scope) o (renamed_bounds f b)) (kind_same f r scope b.first) ∙ given_by_kind scope (kind_of scope b.first) b
  drange_same scope (RMarked x) = ap (λ m. marked_range (renamed_scope f scope) m (option_map (renamed_bounds f) x.bounds)) (marking_same f r scope x.mark.name)
      ∙ marked_by scope (marking scope x.mark.name) x.bounds

  array_by : (o : Option NameId) (types : TypeTable) (range : Option Range) (part : Option ℕ) →
      made_array (option_map (renamed_id f) o) (renamed_types f types) range part ≡ renamed_made f (made_array o types range part)
  array_by o types None None = refl
  array_by o types None (Some m) = refl
  array_by o types (Some range) None = refl
  array_by o types (Some range) (Some m) =
      (λ i. made (add_kind_same types (Array range.kind range.first range.last m) i)
      record { name = option_map (renamed_id f) o; kind = length-map types.kinds (renamed_kind f) i; first = range.first; last = range.last })
      ∙ made_same (add_kind types (Array range.kind range.first range.last m)) record { name = o; kind = length types.kinds; first = range.first; last = range.last }

  -- the mark of an array, from the marks of its components
  array_same : (o : Option NameId) (scope : Scope) (d : PDrange) (x : PSubind) →
      made_array (option_map (renamed_id f) o) (made_subind (renamed_scope f scope) (renamed_subind f x)).types (drange_range (renamed_scope f scope) (renamed_drange f d))
      (made_subind (renamed_scope f scope) (renamed_subind f x)).mark
      ≡ renamed_made f (made_array o (made_subind scope x).types (drange_range scope d) (made_subind scope x).mark)
  array_same o scope d x = (λ i. made_array (option_map (renamed_id f) o) (subind_same scope x i).types (drange_same scope d i) (subind_same scope x i).mark)
      ∙ array_by o (made_subind scope x).types (drange_range scope d) (made_subind scope x).mark

  -- ---- objects

  object_by : (constant : Bool) (o : Option ℕ) → object_meaning constant o ≡ renamed_thing f (object_meaning constant o)
  object_by true None = refl
  object_by true (Some m) = refl
  object_by false None = refl
  object_by false (Some m) = refl

  of_made_same : (constant : Bool) (m : Made) → of_made constant (renamed_made f m) ≡ renamed_declared f (of_made constant m)
  of_made_same constant m = λ i. record { types = renamed_types f m.types; thing = object_by constant m.mark i }

  task_object_same : (b : Bool) (entries : List EntryPart) → task_object b (map (renamed_entry_part f) entries) ≡ renamed_thing f (task_object b entries)
  task_object_same true entries = refl
  task_object_same false entries = refl

  task_array_same : (b : Bool) (o : Option Range) (entries : List EntryPart) → task_array b o (map (renamed_entry_part f) entries) ≡ renamed_thing f (task_array b o entries)
  task_array_same true None entries = refl
  task_array_same true (Some range) entries = refl
  task_array_same false None entries = refl
  task_array_same false (Some range) entries = refl

  made_object : (scope : Scope) (constant : Bool) (x : PSubind) →
      of_made constant (made_subind (renamed_scope f scope) (renamed_subind f x)) ≡ renamed_declared f (of_made constant (made_subind scope x))
  made_object scope constant x = ap (of_made constant) (subind_same scope x) ∙ of_made_same constant (made_subind scope x)

  plain_by : (scope : Scope) (constant : Bool) (m : Marking) (x : PSubind) →
      plain_object (renamed_scope f scope) constant (renamed_marking f m) (renamed_subind f x) ≡ renamed_declared f (plain_object scope constant m x)
  plain_by scope constant (TaskMark entries) x = λ i. record { types = renamed_types f scope.types; thing = task_object_same scope.in_main entries i }
  plain_by scope constant (ArrayMark m range part) x = λ i. record { types = renamed_types f scope.types; thing = object_by constant (Some m) i }
  plain_by scope constant (ScalarMark m k) x = made_object scope constant x
  plain_by scope constant NoMark x = made_object scope constant x
  plain_by scope constant UnknownMark x = made_object scope constant x
  plain_by scope constant UnclearMark x = made_object scope constant x

  own_array : (scope : Scope) (constant : Bool) (d : PDrange) (x : PSubind) →
      of_made constant (made_array None (made_subind (renamed_scope f scope) (renamed_subind f x)).types (drange_range (renamed_scope f scope) (renamed_drange f d))
      (made_subind (renamed_scope f scope) (renamed_subind f x)).mark)
      ≡ renamed_declared f (of_made constant (made_array None (made_subind scope x).types (drange_range scope d) (made_subind scope x).mark))
  own_array scope constant d x = ap (of_made constant) (array_same None scope d x)
      ∙ of_made_same constant (made_array None (made_subind scope x).types (drange_range scope d) (made_subind scope x).mark)

  array_object_by : (scope : Scope) (constant : Bool) (m : Marking) (d : PDrange) (x : PSubind) →
      array_object (renamed_scope f scope) constant (renamed_marking f m) (renamed_drange f d) (renamed_subind f x) ≡ renamed_declared f (array_object scope constant m d x)
  array_object_by scope constant (TaskMark entries) d x = (λ i. record {
    types = renamed_types f scope.types;
    thing = task_array scope.in_main (drange_same scope d i)
        (map (renamed_entry_part f) entries);
  })
      ∙ (λ i. record { types = renamed_types f scope.types; thing = task_array_same scope.in_main (drange_range scope d) entries i })
  array_object_by scope constant (ArrayMark m range part) d x = own_array scope constant d x
  array_object_by scope constant (ScalarMark m k) d x = own_array scope constant d x
  array_object_by scope constant NoMark d x = own_array scope constant d x
  array_object_by scope constant UnknownMark d x = own_array scope constant d x
  array_object_by scope constant UnclearMark d x = own_array scope constant d x

  declared_same : (scope : Scope) (constant : Bool) (x : PShape) → declared_object (renamed_scope f scope) constant (renamed_shape f x) ≡ renamed_declared f (declared_object scope constant x)
  declared_same scope constant (OPlain x) = ap (λ m. plain_object (renamed_scope f scope) constant m (renamed_subind f x)) (marking_same f r scope x.mark.name)
      ∙ plain_by scope constant (marking scope x.mark.name) x
  declared_same scope constant (OArray d x) = ap (λ m. array_object (renamed_scope f scope) constant m (renamed_drange f d) (renamed_subind f x)) (marking_same f r scope x.mark.name)
      ∙ array_object_by scope constant (marking scope x.mark.name) d x

  -- ---- constants

  constants_same : (ws : List Word) (m : ℕ) (z : ℤ) → constants_for (map (renamed_word f) ws) m z ≡ map (renamed_constant f) (constants_for ws m z)
  constants_same ws m z = map_twice (renamed_word f) (λ w. record { name = w.name; mark = m; value = z }) (λ w. record { name = w.name; mark = m; value = z }) (renamed_constant f) (λ w. refl) ws

  add_constants_same : (ws : List Word) (o : Option ℕ) (p : Option ℤ) (types : TypeTable) →
      add_constants (map (renamed_word f) ws) o p (renamed_types f types) ≡ renamed_types f (add_constants ws o p types)
  add_constants_same ws None None types = refl
  add_constants_same ws None (Some z) types = refl
  add_constants_same ws (Some m) None types = refl
  add_constants_same ws (Some m) (Some z) types = λ i. record {
    kinds = map (renamed_kind f) types.kinds;
    marks = map (renamed_mark f) types.marks;
    constants = (ap (λ cs. map (renamed_constant f) types.constants ++ cs) (constants_same ws m z) ∙ sym (map-append (renamed_constant f) types.constants (constants_for ws m z))) i;
  }

  kind_at_mark_same : (types : TypeTable) (m : ℕ) → kind_at_mark (renamed_types f types) m ≡ kind_at_mark types m
  kind_at_mark_same types m = ap (λ o. unwrap_or o 0) (ap (option_map (λ (x : Mark). x.kind)) (mark_at_same f r types m)
      ∙ option_once (renamed_mark f) (λ x. x.kind) (λ x. x.kind) (λ x. refl) (mark_at types m))

  constant_mark_same : (x : Thing) → constant_mark (renamed_thing f x) ≡ constant_mark x
  constant_mark_same (ConstantObject m) = refl
  constant_mark_same (TypeMark m) = refl
  constant_mark_same (TaskType entries) = refl
  constant_mark_same (SingleTask entries) = refl
  constant_mark_same (TaskObject entries) = refl
  constant_mark_same (TaskArray range entries) = refl
  constant_mark_same (Variable m) = refl
  constant_mark_same (Parameter mode m) = refl
  constant_mark_same (LoopParameter m) = refl
  constant_mark_same (Literal k) = refl
  constant_mark_same AnException = refl
  constant_mark_same MainProcedure = refl
  constant_mark_same AnotherUnit = refl
  constant_mark_same Unclear = refl

  initial_same : (scope : Scope) (k : ℕ) (o : Option PInit) → initial_value (renamed_scope f scope) k (option_map (renamed_init f) o) ≡ initial_value scope k o
  initial_same scope k None = refl
  initial_same scope k (Some (IOne e)) = static_same f r scope k e
  initial_same scope k (Some (IList es s)) = refl
  initial_same scope k (Some (IOthers e s)) = refl

  constant_by : (scope : Scope) (types : TypeTable) (o : Option ℕ) (init : Option PInit) →
      constant_value (renamed_scope f scope) (renamed_types f types) o (option_map (renamed_init f) init) ≡ constant_value scope types o init
  constant_by scope types None init = refl
  constant_by scope types (Some m) init = ap (λ k. initial_value (renamed_scope f scope) k (option_map (renamed_init f) init)) (kind_at_mark_same types m)
      ∙ initial_same scope (kind_at_mark types m) init

  added_constants : (scope : Scope) (ws : List Word) (init : Option PInit) (d : Declared) →
      add_constants (map (renamed_word f) ws) (constant_mark (renamed_thing f d.thing))
      (constant_value (renamed_scope f scope) (renamed_types f d.types) (constant_mark (renamed_thing f d.thing)) (option_map (renamed_init f) init)) (renamed_types f d.types)
      ≡ renamed_types f (add_constants ws (constant_mark d.thing) (constant_value scope d.types (constant_mark d.thing) init) d.types)
  added_constants scope ws init d =
      ap (λ o. add_constants (map (renamed_word f) ws) o (constant_value (renamed_scope f scope) (renamed_types f d.types) o (option_map (renamed_init f) init))
      (renamed_types f d.types)) (constant_mark_same d.thing)
      ∙ (ap (λ p. add_constants (map (renamed_word f) ws) (constant_mark d.thing) p (renamed_types f d.types)) (constant_by scope d.types (constant_mark d.thing) init)
      ∙ add_constants_same ws (constant_mark d.thing) (constant_value scope d.types (constant_mark d.thing) init) d.types)

  with_constants_same : (scope : Scope) (ws : List Word) (init : Option PInit) (d : Declared) →
      with_constants (renamed_scope f scope) (map (renamed_word f) ws) (option_map (renamed_init f) init) (renamed_declared f d) ≡ renamed_types f (with_constants scope ws init d)
  with_constants_same scope ws init d = if_like (renamed_types f) scope.in_main scope.in_main refl (added_constants scope ws init d) refl

  -- ---- scopes behind declarations

  with_names_same : (x : Thing) (scope : Scope) (ws : List Word) → with_names (renamed_thing f x) (renamed_scope f scope) (map (renamed_word f) ws) ≡ renamed_scope f (with_names x scope ws)
  with_names_same x scope [] = refl
  with_names_same x scope (w ∷ ws) = with_names_same x (with_name x scope w) ws

  after_object_same : (scope : Scope) (ws : List Word) (constant : Bool) (shape : PShape) (init : Option PInit) →
      after_object (renamed_scope f scope) (map (renamed_word f) ws) constant (renamed_shape f shape) (option_map (renamed_init f) init) ≡ renamed_scope f (after_object scope ws constant shape init)
  after_object_same scope ws constant shape init =
      ap (λ (d : Declared). with_names d.thing (with_types (with_constants (renamed_scope f scope) (map (renamed_word f) ws) (option_map (renamed_init f) init) d)
      (renamed_scope f scope)) (map (renamed_word f) ws))
      (declared_same scope constant shape)
      ∙ (ap (λ t. with_names (renamed_thing f (declared_object scope constant shape).thing) (with_types t (renamed_scope f scope)) (map (renamed_word f) ws))
      (with_constants_same scope ws init (declared_object scope constant shape))
      ∙ with_names_same (declared_object scope constant shape).thing (with_types (with_constants scope ws init (declared_object scope constant shape)) scope) ws)

  enumerated : (scope : Scope) (w : Word) (ws : List Word) →
      (made (add_kind (renamed_types f scope.types) (Enumeration (map (λ v. v.name) (map (renamed_word f) ws))))
      record { name = Some (renamed_id f w.name); kind = length (map (renamed_kind f) scope.types.kinds); first = pos 0; last = pos (length (map (renamed_word f) ws)) -ℤ pos 1 }).types
      ≡ renamed_types f (made (add_kind scope.types (Enumeration
      (map (λ v. v.name) ws))) record { name = Some w.name; kind = length scope.types.kinds; first = pos 0; last = pos (length ws) -ℤ pos 1 }).types
  enumerated scope w ws =
      (λ i. (made (add_kind (renamed_types f scope.types) (Enumeration (map_twice (renamed_word f) (λ v. v.name) (λ v. v.name) (renamed_id f) (λ v. refl) ws i)))
      record { name = Some (renamed_id f w.name); kind = length-map scope.types.kinds (renamed_kind f) i; first = pos 0; last = pos (length-map ws (renamed_word f) i) -ℤ pos 1 }).types)
      ∙ ((λ i. (made (add_kind_same scope.types (Enumeration (map (λ v. v.name) ws)) i)
      record { name = Some (renamed_id f w.name); kind = length scope.types.kinds; first = pos 0; last = pos (length ws) -ℤ pos 1 }).types)
      ∙ ap (λ (m : Made). m.types) (made_same (add_kind scope.types
      (Enumeration (map (λ v. v.name) ws))) record { name = Some w.name; kind = length scope.types.kinds; first = pos 0; last = pos (length ws) -ℤ pos 1 }))

  after_enumeration_same : (scope : Scope) (w : Word) (ws : List Word) →
      after_enumeration (renamed_scope f scope) (renamed_word f w) (map (renamed_word f) ws) ≡ renamed_scope f (after_enumeration scope w ws)
  after_enumeration_same scope w ws =
      (λ i. with_names (Literal (length-map scope.types.kinds (renamed_kind f) i))
      (with_name (TypeMark (length-map scope.types.marks (renamed_mark f) i)) (with_types (enumerated scope w ws i) (renamed_scope f scope)) (renamed_word f w))
      (map (renamed_word f) ws))
      ∙ with_names_same (Literal (length scope.types.kinds)) (with_name (TypeMark (length scope.types.marks))
      (with_types (made (add_kind scope.types (Enumeration (map (λ v. v.name) ws))) record {
        name = Some w.name;
        kind = length scope.types.kinds;
        first = pos 0;
        last = pos (length ws) -ℤ pos 1;
      }).types scope) w) ws

  type_by : (o : Option ℕ) → type_of_mark o ≡ renamed_thing f (type_of_mark o)
  type_by None = refl
  type_by (Some m) = refl

  after_type_same : (scope : Scope) (w : Word) (m : Made) → after_type (renamed_scope f scope) (renamed_word f w) (renamed_made f m) ≡ renamed_scope f (after_type scope w m)
  after_type_same scope w m = ap (λ x. with_name x (with_types (renamed_types f m.types) (renamed_scope f scope)) (renamed_word f w)) (type_by m.mark)

  subtype_by : (w : Word) (types : TypeTable) (o : Option Range) → renamed (renamed_word f w) (renamed_types f types) o ≡ renamed_made f (renamed w types o)
  subtype_by w types None = refl
  subtype_by w types (Some range) = made_same types (mark_for (Some w.name) range)

  range_by : (m : Made) → and_then (range_of_mark (renamed_types f m.types)) m.mark ≡ and_then (range_of_mark m.types) m.mark
  range_by m = go m.mark
    where
      go : (o : Option ℕ) → and_then (range_of_mark (renamed_types f m.types)) o ≡ and_then (range_of_mark m.types) o
      go None = refl
      go (Some k) = of_mark_range m.types k

  subtype_same : (scope : Scope) (w : Word) (x : PSubind) → made_subtype (renamed_scope f scope) (renamed_word f w) (renamed_subind f x) ≡ renamed_made f (made_subtype scope w x)
  subtype_same scope w x =
      ap (λ (m : Made). renamed (renamed_word f w) m.types (and_then (range_of_mark m.types) m.mark)) (subind_same scope x)
      ∙ (ap (renamed (renamed_word f w) (renamed_types f (made_subind scope x).types)) (range_by (made_subind scope x))
      ∙ subtype_by w (made_subind scope x).types (and_then (range_of_mark (made_subind scope x).types) (made_subind scope x).mark))

  -- ---- tasks

  family_same : (scope : Scope) (o : Option PDrange) → entry_family (renamed_scope f scope) (option_map (renamed_drange f) o) ≡ entry_family scope o
  family_same scope None = refl
  family_same scope (Some d) = ap family_of (drange_same scope d)

  formal_same : (scope : Scope) (x : PFormal) →
      map (λ w. record { name = w.name; mode = x.mode; mark = renamed_id f x.mark.name; kind = scalar_kind (marking (renamed_scope f scope) (renamed_id f x.mark.name)) })
      (map (renamed_word f) x.names)
      ≡ map (renamed_formal_part f) (map (λ w. record { name = w.name; mode = x.mode; mark = x.mark.name; kind = scalar_kind (marking scope x.mark.name) }) x.names)
  formal_same scope x = map_twice (renamed_word f) (λ w. record {
    name = w.name;
    mode = x.mode;
    mark = renamed_id f x.mark.name;
    kind = scalar_kind (marking (renamed_scope f scope) (renamed_id f x.mark.name));
  })
      (λ w. record { name = w.name; mode = x.mode; mark = x.mark.name; kind = scalar_kind (marking scope x.mark.name) }) (renamed_formal_part f)
      (λ w i. record { name = renamed_id f w.name; mode = x.mode; mark = renamed_id f x.mark.name; kind = scalar_same f r scope x.mark.name i }) x.names

  formal_parts_same : (scope : Scope) (xs : List PFormal) → formal_parts (renamed_scope f scope) (map (renamed_formal f) xs) ≡ map (renamed_formal_part f) (formal_parts scope xs)
  formal_parts_same scope xs = flat_mapped (renamed_formal f)
      (λ x. map (λ w. record { name = w.name; mode = x.mode; mark = x.mark.name; kind = scalar_kind (marking (renamed_scope f scope) x.mark.name) }) x.names)
      (λ x. map (λ w. record { name = w.name; mode = x.mode; mark = x.mark.name; kind = scalar_kind (marking scope x.mark.name) }) x.names)
      (renamed_formal_part f) (formal_same scope) xs

  entry_same : (scope : Scope) (e : PEntry) → entry_part (renamed_scope f scope) (renamed_entry f e) ≡ renamed_entry_part f (entry_part scope e)
  entry_same scope e = λ i. record { name = renamed_id f e.name.name; family = family_same scope e.family i; formals = formal_parts_same scope e.formals i }

  task_thing_same : (b : Bool) (entries : List EntryPart) → task_thing b (map (renamed_entry_part f) entries) ≡ renamed_thing f (task_thing b entries)
  task_thing_same true entries = refl
  task_thing_same false entries = refl

  after_task_same : (scope : Scope) (t : PTask) → after_task (renamed_scope f scope) (renamed_task f t) ≡ renamed_scope f (after_task scope t)
  after_task_same scope t = ap (λ x. with_name x (renamed_scope f scope) (renamed_word f t.name))
      (ap (task_thing t.of_kind) (map_twice (renamed_entry f) (entry_part (renamed_scope f scope)) (entry_part scope) (renamed_entry_part f) (entry_same scope) t.entries)
      ∙ task_thing_same t.of_kind (map (entry_part scope) t.entries))

  entries_by : (x : Thing) → entries_of (renamed_thing f x) ≡ map (renamed_entry_part f) (entries_of x)
  entries_by (TaskType entries) = refl
  entries_by (SingleTask entries) = refl
  entries_by (TaskObject entries) = refl
  entries_by (TaskArray range entries) = refl
  entries_by (TypeMark m) = refl
  entries_by (ConstantObject m) = refl
  entries_by (Variable m) = refl
  entries_by (Parameter mode m) = refl
  entries_by (LoopParameter m) = refl
  entries_by (Literal k) = refl
  entries_by AnException = refl
  entries_by MainProcedure = refl
  entries_by AnotherUnit = refl
  entries_by Unclear = refl

  own_by : (o : Option Thing) → own_entries (option_map (renamed_thing f) o) ≡ map (renamed_entry_part f) (own_entries o)
  own_by None = refl
  own_by (Some x) = entries_by x

  in_body_same : (scope : Scope) (w : Word) → in_body (renamed_scope f scope) (renamed_word f w) ≡ renamed_scope f (in_body scope w)
  in_body_same scope w = λ i. record {
    types = renamed_types f scope.types;
    names = map (renamed_meaning f) scope.names;
    here = [];
    in_main = false;
    own = (ap own_entries (meaning_same f r scope w.name) ∙ own_by (meaning scope w.name)) i;
    bodies = map f scope.bodies;
    has_instance = scope.has_instance;
  }

  after_own_same : (scope : Scope) (d : PDecl) → after_own_object (renamed_scope f scope) (renamed_decl f d) ≡ renamed_scope f (after_own_object scope d)
  after_own_same scope (DObject ws constant shape init s) = after_object_same scope ws constant shape init
  after_own_same scope (DNumber w e s) = refl
  after_own_same scope (DEnumeration w ws s) = refl
  after_own_same scope (DArray w d x s) = refl
  after_own_same scope (DSubtype w x s) = refl
  after_own_same scope (DException ws s) = refl
  after_own_same scope (DIntIo w s) = refl
  after_own_same scope (DPragma e s) = refl
  after_own_same scope (DTask t s) = refl
  after_own_same scope (DTaskBody w ds b s) = refl

  after_objects_same : (scope : Scope) (ds : PDecls) → after_objects (renamed_scope f scope) (renamed_decls f ds) ≡ renamed_scope f (after_objects scope ds)
  after_objects_same scope no_decl = refl
  after_objects_same scope (decl_then d rest) = ap (λ s. after_objects s (renamed_decls f rest)) (after_own_same scope d) ∙ after_objects_same (after_own_object scope d) rest

  body_types : (scope : Scope) (w : Word) (ds : PDecls) → (after_objects (in_body (renamed_scope f scope) (renamed_word f w)) (renamed_decls f ds)).types
      ≡ renamed_types f (after_objects (in_body scope w) ds).types
  body_types scope w ds = ap (λ (s : Scope). s.types) (ap (λ s. after_objects s (renamed_decls f ds)) (in_body_same scope w) ∙ after_objects_same (in_body scope w) ds)

  -- ---- declarations

  after_decl_same : (scope : Scope) (d : PDecl) → after_decl (renamed_scope f scope) (renamed_decl f d) ≡ renamed_scope f (after_decl scope d)
  after_decl_same scope (DNumber w e s) =
      ap (λ t. with_name (ConstantObject 0) (with_types t (renamed_scope f scope)) (renamed_word f w))
      (ap (λ o. add_constants (renamed_word f w ∷ []) (Some 0) o (renamed_types f scope.types)) (static_same f r scope integer_kind e)
      ∙ add_constants_same (w ∷ []) (Some 0) (static_in scope integer_kind e) scope.types)
  after_decl_same scope (DObject ws constant shape init s) = after_object_same scope ws constant shape init
  after_decl_same scope (DEnumeration w ws s) = after_enumeration_same scope w ws
  after_decl_same scope (DArray w d x s) = ap (after_type (renamed_scope f scope) (renamed_word f w)) (array_same (Some w.name) scope d x) ∙ after_type_same scope w (made_named_array scope w d x)
  after_decl_same scope (DSubtype w x s) = ap (after_type (renamed_scope f scope) (renamed_word f w)) (subtype_same scope w x) ∙ after_type_same scope w (made_subtype scope w x)
  after_decl_same scope (DException ws s) = with_names_same AnException scope ws
  after_decl_same scope (DIntIo w s) = refl
  after_decl_same scope (DPragma e s) = refl
  after_decl_same scope (DTask t s) = after_task_same scope t
  after_decl_same scope (DTaskBody w ds b s) = λ i. record {
    types = body_types scope w ds i;
    names = map (renamed_meaning f) scope.names;
    here = map f scope.here;
    in_main = scope.in_main;
    own = map (renamed_entry_part f) scope.own;
    bodies = f w.name.0 ∷ map f scope.bodies;
    has_instance = scope.has_instance;
  }

  after_decls_same : (scope : Scope) (ds : PDecls) → after_decls (renamed_scope f scope) (renamed_decls f ds) ≡ renamed_scope f (after_decls scope ds)
  after_decls_same scope no_decl = refl
  after_decls_same scope (decl_then d rest) = ap (λ s. after_decls s (renamed_decls f rest)) (after_decl_same scope d) ∙ after_decls_same (after_decl scope d) rest

  -- ---- before all declarations

  before_same : before_all ≡ renamed_scope f before_all
  before_same = λ i. record {
    types = record {
      kinds = Integer ∷ Truth ∷ [];
      marks = first_mark (k0 i) 0 (negsuc 2147483647) (pos 2147483647) ∷ first_mark (k1 i) 0 (pos 0) (pos 2147483647) ∷ first_mark (k2 i) 0 (pos 1)
          (pos 2147483647) ∷ first_mark (k3 i) 1 (pos 0) (pos 1) ∷ [];
      constants = [];
    };
    names = seen_as (TypeMark 0) (k0 i) ∷ seen_as (TypeMark 1) (k1 i) ∷ seen_as (TypeMark 2) (k2 i) ∷ seen_as (TypeMark 3) (k3 i) ∷ seen_as (Literal truth_kind)
        (k4 i) ∷ seen_as (Literal truth_kind) (k5 i) ∷ seen_as AnException (k6 i) ∷ seen_as AnException (k7 i) ∷ seen_as AnException (k8 i) ∷ seen_as AnException
        (k9 i) ∷ seen_as AnException (k10 i) ∷ seen_as AnException (k11 i) ∷ seen_as AnotherUnit (k12 i) ∷ seen_as AnotherUnit (k13 i) ∷ seen_as AnotherUnit
        (k14 i) ∷ seen_as AnotherUnit (k15 i) ∷ seen_as AnotherUnit (k16 i) ∷ seen_as AnotherUnit (k17 i) ∷ [];
    here = [];
    in_main = true;
    own = [];
    bodies = [];
    has_instance = false;
  }
    where
      k0 : 0 ≡ f 0
      k0 = sym (r.fixed 0 (omega arith))

      k1 : 1 ≡ f 1
      k1 = sym (r.fixed 1 (omega arith))

      k2 : 2 ≡ f 2
      k2 = sym (r.fixed 2 (omega arith))

      k3 : 3 ≡ f 3
      k3 = sym (r.fixed 3 (omega arith))

      k4 : 4 ≡ f 4
      k4 = sym (r.fixed 4 (omega arith))

      k5 : 5 ≡ f 5
      k5 = sym (r.fixed 5 (omega arith))

      k6 : 6 ≡ f 6
      k6 = sym (r.fixed 6 (omega arith))

      k7 : 7 ≡ f 7
      k7 = sym (r.fixed 7 (omega arith))

      k8 : 8 ≡ f 8
      k8 = sym (r.fixed 8 (omega arith))

      k9 : 9 ≡ f 9
      k9 = sym (r.fixed 9 (omega arith))

      k10 : 10 ≡ f 10
      k10 = sym (r.fixed 10 (omega arith))

      k11 : 11 ≡ f 11
      k11 = sym (r.fixed 11 (omega arith))

      k12 : 12 ≡ f 12
      k12 = sym (r.fixed 12 (omega arith))

      k13 : 13 ≡ f 13
      k13 = sym (r.fixed 13 (omega arith))

      k14 : 14 ≡ f 14
      k14 = sym (r.fixed 14 (omega arith))

      k15 : 15 ≡ f 15
      k15 = sym (r.fixed 15 (omega arith))

      k16 : 16 ≡ f 16
      k16 = sym (r.fixed 16 (omega arith))

      k17 : 17 ≡ f 17
      k17 = sym (r.fixed 17 (omega arith))

  first_same : (w : Word) → first_scope (renamed_word f w) ≡ renamed_scope f (first_scope w)
  first_same w = ap (λ s. with_name MainProcedure s (renamed_word f w)) before_same

  -- the types of a program go over to those with other ids
  pub types_same : (names : List (List ℕ)) (p : PProgram) → types_in (renamed_program f names p) ≡ renamed_types f (types_in p)
  types_same names p = ap (λ (s : Scope). s.types) (ap (λ s. after_decls s (renamed_decls f p.decls)) (first_same p.name) ∙ after_decls_same (first_scope p.name) p.decls)
