-- A declaration keeps two scopes close; one of a task, or of an object of a task type, may stand on one side alone.
use Rattle.std.proofs.Common.{◌≡◌, ℕ, pos, ◌-ℤ◌, Bool, true, false, ◌==◌, if◌then◌else◌, List, [], ◌∷◌, map, find, length, option_map, Option, Some, None, refl, sym, ap, ap₂, ◌∙◌, eqb-true}
use Rattle.ada_tree.specs.declared.naming.NameId.{NameId}
use Rattle.ada_tree.specs.declared.naming.Span.{Span}
use Rattle.ada_tree.specs.declared.naming.Word.{Word}
use Rattle.ada_tree.specs.declared.static_types.Kind.TheVariants.{Enumeration}
use Rattle.ada_tree.specs.TypeTable.{TypeTable}
use Rattle.ada_tree.specs.PlainExpr.{PBounds, PSubind, PDrange}
use Rattle.ada_tree.specs.PlainDecl.{PShape, OPlain, OArray, PInit, IOne, IList, IOthers, PTask, PDecl, DNumber, DObject, DEnumeration, DArray, DSubtype, DException, DIntIo, DPragma, DTask, DTaskBody}
use Rattle.ada_static_rules.specs.Scope.{Scope, Range, EntryPart, NameMeaning, Thing, TypeMark, TaskType, SingleTask, TaskObject, TaskArray, Variable, ConstantObject, Parameter, LoopParameter, Literal, AnException, MainProcedure, AnotherUnit, Unclear, Marking, ScalarMark, ArrayMark, TaskMark, NoMark, UnknownMark, UnclearMark, marking_of, marking, range_of_mark, meaning, integer_kind, and_then}
use Rattle.ada_static_rules.specs.Declaring.{seen_as, with_name, with_names, with_types, add_kind, Made, made, made_none, subind_made, made_subind, drange_range, made_array, object_meaning, task_object, task_array, Declared, of_made, plain_object, array_object, declared_object, add_constants, kind_at_mark, constant_mark, initial_value, constant_value, with_constants, after_object, after_enumeration, type_of_mark, after_type, made_named_array, renamed, made_subtype, task_thing, after_decl}
use Rattle.task_laws.specs.legal.rewritten_types.Rewriting.{valued, IsFree, AreFree, mark_of, IsFirst}
use Rattle.task_laws.proofs.legal.rewritten_types.Closing.{Close, typed, typed-valued, typed-alike, static-alike, made-alike, drange-alike}

-- ---- names

-- what a name means behind a new one, by the test whether it is that one
abbrev behind_name : Bool → Thing → ℕ → Option NameMeaning → Option Thing
behind_name b thing n o = option_map (λ s. s.thing) (if b then Some (seen_as thing n) else o)

same-behind : (b : Bool) (thing thing' : Thing) (n : ℕ) (o o' : Option NameMeaning) → valued (Some thing) ≡ valued (Some thing') →
    valued (option_map (λ s. s.thing) o) ≡ valued (option_map (λ s. s.thing) o') →
    valued (behind_name b thing n o) ≡ valued (behind_name b thing' n o')
same-behind true thing thing' n o o' e f = e
same-behind false thing thing' n o o' e f = f

pub close-name : (thing thing' : Thing) (w : Word) (s s' : Scope) → valued (Some thing) ≡ valued (Some thing') → Close s s' → Close (with_name thing s w) (with_name thing' s' w)
close-name thing thing' w s s' e close = record {
  types = close.types;
  main = close.main;
  things = λ id. same-behind (w.name.0 == id.0) thing thing' w.name.0 (find (λ x. x.name == id.0) s.names) (find (λ x. x.name == id.0) s'.names) e (close.things id);
}

pub close-names : (thing thing' : Thing) (ws : List Word) (s s' : Scope) → valued (Some thing) ≡ valued (Some thing') → Close s s' → Close (with_names thing s ws) (with_names thing' s' ws)
close-names thing thing' [] s s' e close = close
close-names thing thing' (w ∷ ws) s s' e close = close-names thing thing' ws (with_name thing s w) (with_name thing' s' w) e (close-name thing thing' w s s' e close)

pub close-types : (T T' : TypeTable) (s s' : Scope) → T ≡ T' → Close s s' → Close (with_types T s) (with_types T' s')
close-types T T' s s' e close = record { types = e; main = close.main; things = close.things }

-- what a name means hangs on its number alone
numbered : (s : Scope) (id : NameId) (n : ℕ) → n ≡ id.0 → valued (meaning s record { 0 = n }) ≡ valued (meaning s id)
numbered s id n e = ap (λ k. valued (meaning s record { 0 = k })) e

-- a name that means no value, on one side alone
pub hide-name : (thing : Thing) (w : Word) (s s' : Scope) → valued (Some thing) ≡ None → IsFree s w.name → Close s s' → Close (with_name thing s w) s'
hide-name thing w s s' e free close = record { types = close.types; main = close.main; things = hidden }
  where
    by_test : (id : NameId) (b : Bool) → (w.name.0 == id.0) ≡ b →
        valued (behind_name b thing w.name.0 (find (λ x. x.name == id.0) s.names)) ≡ valued (meaning s' id)
    by_test id true same = e ∙ sym (sym (close.things id) ∙ sym (numbered s id w.name.0 (eqb-true w.name.0 id.0 same)) ∙ free)
    by_test id false same = close.things id

    hidden : (id : NameId) → valued (meaning (with_name thing s w) id) ≡ valued (meaning s' id)
    hidden id = by_test id (w.name.0 == id.0) refl

-- a free name is free behind another that means no value
free-more : (thing : Thing) (w v : Word) (s : Scope) → valued (Some thing) ≡ None → IsFree s v.name → IsFree (with_name thing s w) v.name
free-more thing w v s e free = by_test (w.name.0 == v.name.0)
  where
    by_test : (b : Bool) → valued (behind_name b thing w.name.0 (find (λ x. x.name == v.name.0) s.names)) ≡ None
    by_test true = e
    by_test false = free

all-free-more : (thing : Thing) (w : Word) (vs : List Word) (s : Scope) → valued (Some thing) ≡ None → AreFree s vs → AreFree (with_name thing s w) vs
all-free-more thing w [] s e free = tt
all-free-more thing w (v ∷ vs) s e free = (free-more thing w v s e free.0, all-free-more thing w vs s e free.1)

pub hide-names : (thing : Thing) (ws : List Word) (s s' : Scope) → valued (Some thing) ≡ None → AreFree s ws → Close s s' → Close (with_names thing s ws) s'
hide-names thing [] s s' e free close = close
hide-names thing (w ∷ ws) s s' e free close =
    hide-names thing ws (with_name thing s w) s' e (all-free-more thing w ws s e free.1) (hide-name thing w s s' e free.0 close)

-- ---- objects

-- of what an object is: the table that it leaves, and what it means, where it means a value
pub record Valued : Type 0 where
  pub types : TypeTable
  pub thing : Option Thing

abbrev pub valued_of : Declared → Valued
valued_of d = record { types = d.types; thing = valued (Some d.thing) }

-- what has no mark means no value
markless : (constant : Bool) → valued (Some (object_meaning constant None)) ≡ None
markless true = refl
markless false = refl

no_task_value : (main : Bool) (entries : List EntryPart) → valued (Some (task_object main entries)) ≡ None
no_task_value true entries = refl
no_task_value false entries = refl

no_array_value : (main : Bool) (r : Option Range) (entries : List EntryPart) → valued (Some (task_array main r entries)) ≡ None
no_array_value true (Some r) entries = refl
no_array_value true None entries = refl
no_array_value false (Some r) entries = refl
no_array_value false None entries = refl

pub no_array : (T : TypeTable) (r : Option Range) → made_array None T r None ≡ made_none T
no_array T (Some r) = refl
no_array T None = refl

-- nothing is declared that has a value
abbrev nothing : TypeTable → Valued
nothing T = record { types = T; thing = None }

-- a subtype indication whose mark is none of values has no mark
unmarked : (s : Scope) (m : Marking) (b : Option PBounds) → typed m ≡ NoMark → subind_made s m b ≡ made_none s.types
unmarked s (ScalarMark m k) b e = ap (λ x. subind_made s x b) e
unmarked s (ArrayMark m r part) b e = refl
unmarked s (TaskMark entries) b e = refl
unmarked s NoMark b e = refl
unmarked s UnknownMark b e = refl
unmarked s UnclearMark b e = refl

abbrev own_array : Scope → Bool → PDrange → PSubind → Declared
own_array s constant index x = of_made constant (made_array None (made_subind s x).types (drange_range s index) (made_subind s x).mark)

empty-object : (s : Scope) (constant : Bool) (x : PSubind) → typed (marking s x.mark.name) ≡ NoMark → valued_of (of_made constant (made_subind s x)) ≡ nothing s.types
empty-object s constant x e =
    ap (λ d. valued_of (of_made constant d)) (unmarked s (marking s x.mark.name) x.bounds e)
    ∙ ap (λ o. record { types = s.types; thing = o }) (markless constant)

empty-array : (s : Scope) (constant : Bool) (index : PDrange) (x : PSubind) → typed (marking s x.mark.name) ≡ NoMark → valued_of (own_array s constant index x) ≡ nothing s.types
empty-array s constant index x e =
    ap (λ d. valued_of (of_made constant (made_array None d.types (drange_range s index) d.mark))) (unmarked s (marking s x.mark.name) x.bounds e)
    ∙ ap (λ d. valued_of (of_made constant d)) (no_array s.types (drange_range s index))
    ∙ ap (λ o. record { types = s.types; thing = o }) (markless constant)

-- a task type's object counts as one whose mark is none
plain-typed : (s : Scope) (constant : Bool) (m : Marking) (x : PSubind) → marking s x.mark.name ≡ m → valued_of (plain_object s constant m x) ≡ valued_of (plain_object s constant (typed m) x)
plain-typed s constant (TaskMark entries) x e =
    ap (λ o. record { types = s.types; thing = o }) (no_task_value s.in_main entries) ∙ sym (empty-object s constant x (ap typed e))
plain-typed s constant (ScalarMark m k) x e = refl
plain-typed s constant (ArrayMark m r part) x e = refl
plain-typed s constant NoMark x e = refl
plain-typed s constant UnknownMark x e = refl
plain-typed s constant UnclearMark x e = refl

row-typed : (s : Scope) (constant : Bool) (m : Marking) (index : PDrange) (x : PSubind) → marking s x.mark.name ≡ m →
    valued_of (array_object s constant m index x) ≡ valued_of (array_object s constant (typed m) index x)
row-typed s constant (TaskMark entries) index x e =
    ap (λ o. record { types = s.types; thing = o }) (no_array_value s.in_main (drange_range s index) entries) ∙ sym (empty-array s constant index x (ap typed e))
row-typed s constant (ScalarMark m k) index x e = refl
row-typed s constant (ArrayMark m r part) index x e = refl
row-typed s constant NoMark index x e = refl
row-typed s constant UnknownMark index x e = refl
row-typed s constant UnclearMark index x e = refl

-- a left out object declares nothing that has a value
empty-shape : (s : Scope) (constant : Bool) (shape : PShape) → IsFree s (mark_of shape) → valued_of (declared_object s constant shape) ≡ nothing s.types
empty-shape s constant (OPlain x) free =
    let e : typed (marking s x.mark.name) ≡ NoMark = typed-valued s.types (meaning s x.mark.name) ∙ ap (λ o. typed (marking_of s.types o)) free in
    plain-typed s constant (marking s x.mark.name) x refl ∙ ap (λ m. valued_of (plain_object s constant m x)) e ∙ empty-object s constant x e
empty-shape s constant (OArray index x) free =
    let e : typed (marking s x.mark.name) ≡ NoMark = typed-valued s.types (meaning s x.mark.name) ∙ ap (λ o. typed (marking_of s.types o)) free in
    row-typed s constant (marking s x.mark.name) index x refl ∙ ap (λ m. valued_of (array_object s constant m index x)) e ∙ empty-array s constant index x e

-- the mark of a constant is told by its value alone
abbrev valued_mark : Option Thing → Option ℕ
valued_mark (Some (ConstantObject m)) = Some m
valued_mark _ = None

mark-valued : (thing : Thing) → constant_mark thing ≡ valued_mark (valued (Some thing))
mark-valued (TypeMark m) = refl
mark-valued (TaskType entries) = refl
mark-valued (SingleTask entries) = refl
mark-valued (TaskObject entries) = refl
mark-valued (TaskArray r entries) = refl
mark-valued (Variable m) = refl
mark-valued (ConstantObject m) = refl
mark-valued (Parameter mode m) = refl
mark-valued (LoopParameter m) = refl
mark-valued (Literal k) = refl
mark-valued AnException = refl
mark-valued MainProcedure = refl
mark-valued AnotherUnit = refl
mark-valued Unclear = refl

-- the table with the constants that a declaration adds, by what is valued
abbrev table_with : Scope → List Word → Option PInit → TypeTable → Option ℕ → TypeTable
table_with s names init T m = if s.in_main then add_constants names m (constant_value s T m init) T else T

constants-valued : (s : Scope) (names : List Word) (init : Option PInit) (d : Declared) →
    with_constants s names init d ≡ table_with s names init (valued_of d).types (valued_mark (valued_of d).thing)
constants-valued s names init d = ap (table_with s names init d.types) (mark-valued d.thing)

pub no_constants : (b : Bool) (T : TypeTable) → (if b then T else T) ≡ T
no_constants true T = refl
no_constants false T = refl

-- an object that is left out, on one side alone
pub hide-object : (names : List Word) (constant : Bool) (shape : PShape) (init : Option PInit) (s s' : Scope) → IsFree s (mark_of shape) → AreFree s names → Close s s' →
    Close (after_object s names constant shape init) s'
hide-object names constant shape init s s' mark free close =
    let d = declared_object s constant shape in
    let e : valued_of d ≡ nothing s.types = empty-shape s constant shape mark in
    let t : with_constants s names init d ≡ s.types =
    constants-valued s names init d ∙ ap (λ v. table_with s names init v.types (valued_mark v.thing)) e ∙ no_constants s.in_main s.types in
    hide-names d.thing names (with_types (with_constants s names init d) s) s' (ap (λ v. v.thing) e) free (close-types _ s'.types s s' (t ∙ close.types) close)

-- ---- declarations on both sides

-- the table behind an enumeration
abbrev enumeration_table : TypeTable → Word → List Word → TypeTable
enumeration_table T w literals =
    (made (add_kind T (Enumeration (map (λ l. l.name) literals))) record { name = Some w.name; kind = length T.kinds; first = pos 0; last = pos (length literals) -ℤ pos 1 }).types

module _ (s s' : Scope) (close : Close s s') where
  plain-alike : (constant : Bool) (m : Marking) (x : PSubind) → valued_of (plain_object s constant m x) ≡ valued_of (plain_object s' constant m x)
  plain-alike constant (TaskMark entries) x = ap₂ (λ T o. record { types = T; thing = o }) close.types (no_task_value s.in_main entries ∙ sym (no_task_value s'.in_main entries))
  plain-alike constant (ArrayMark m r part) x = ap (λ T. valued_of record { types = T; thing = object_meaning constant (Some m) }) close.types
  plain-alike constant (ScalarMark m k) x = ap (λ d. valued_of (of_made constant d)) (made-alike s s' close x)
  plain-alike constant NoMark x = ap (λ d. valued_of (of_made constant d)) (made-alike s s' close x)
  plain-alike constant UnknownMark x = ap (λ d. valued_of (of_made constant d)) (made-alike s s' close x)
  plain-alike constant UnclearMark x = ap (λ d. valued_of (of_made constant d)) (made-alike s s' close x)

  array-alike : (constant : Bool) (index : PDrange) (x : PSubind) → valued_of (own_array s constant index x) ≡ valued_of (own_array s' constant index x)
  array-alike constant index x =
      ap₂ (λ (d : Made) r. valued_of (of_made constant (made_array None d.types r d.mark))) (made-alike s s' close x) (drange-alike s s' close index)

  row-alike : (constant : Bool) (m : Marking) (index : PDrange) (x : PSubind) → valued_of (array_object s constant m index x) ≡ valued_of (array_object s' constant m index x)
  row-alike constant (TaskMark entries) index x =
      ap₂ (λ T o. record { types = T; thing = o }) close.types (no_array_value s.in_main (drange_range s index) entries ∙ sym (no_array_value s'.in_main (drange_range s' index) entries))
  row-alike constant (ArrayMark m r part) index x = array-alike constant index x
  row-alike constant (ScalarMark m k) index x = array-alike constant index x
  row-alike constant NoMark index x = array-alike constant index x
  row-alike constant UnknownMark index x = array-alike constant index x
  row-alike constant UnclearMark index x = array-alike constant index x

  -- an object is the same, as far as it has a value
  shape-alike : (constant : Bool) (shape : PShape) → valued_of (declared_object s constant shape) ≡ valued_of (declared_object s' constant shape)
  shape-alike constant (OPlain x) =
      plain-typed s constant (marking s x.mark.name) x refl
      ∙ ap (λ m. valued_of (plain_object s constant m x)) (typed-alike s s' close x.mark.name)
      ∙ plain-alike constant (typed (marking s' x.mark.name)) x
      ∙ sym (plain-typed s' constant (marking s' x.mark.name) x refl)
  shape-alike constant (OArray index x) =
      row-typed s constant (marking s x.mark.name) index x refl
      ∙ ap (λ m. valued_of (array_object s constant m index x)) (typed-alike s s' close x.mark.name)
      ∙ row-alike constant (typed (marking s' x.mark.name)) index x
      ∙ sym (row-typed s' constant (marking s' x.mark.name) index x refl)

  initial-alike : (k : ℕ) (init : Option PInit) → initial_value s k init ≡ initial_value s' k init
  initial-alike k (Some (IOne e)) = static-alike s s' close k e
  initial-alike k (Some (IList es sp)) = refl
  initial-alike k (Some (IOthers e sp)) = refl
  initial-alike k None = refl

  value-alike : (T : TypeTable) (m : Option ℕ) (init : Option PInit) → constant_value s T m init ≡ constant_value s' T m init
  value-alike T (Some m) init = initial-alike (kind_at_mark T m) init
  value-alike T None init = refl

  table-alike : (names : List Word) (init : Option PInit) (T : TypeTable) (m : Option ℕ) → table_with s names init T m ≡ table_with s' names init T m
  table-alike names init T m = ap₂ (λ (b : Bool) z. if b then add_constants names m z T else T) close.main (value-alike T m init)

  constants-alike : (names : List Word) (constant : Bool) (shape : PShape) (init : Option PInit) →
      with_constants s names init (declared_object s constant shape) ≡ with_constants s' names init (declared_object s' constant shape)
  constants-alike names constant shape init =
      constants-valued s names init (declared_object s constant shape)
      ∙ ap (λ v. table_with s names init v.types (valued_mark v.thing)) (shape-alike constant shape)
      ∙ table-alike names init (valued_of (declared_object s' constant shape)).types (valued_mark (valued_of (declared_object s' constant shape)).thing)
      ∙ sym (constants-valued s' names init (declared_object s' constant shape))

  close-object : (names : List Word) (constant : Bool) (shape : PShape) (init : Option PInit) →
      Close (after_object s names constant shape init) (after_object s' names constant shape init)
  close-object names constant shape init =
      close-names (declared_object s constant shape).thing (declared_object s' constant shape).thing names _ _
      (ap (λ v. v.thing) (shape-alike constant shape))
      (close-types _ _ s s' (constants-alike names constant shape init) close)

  close-type : (w : Word) (m m' : Made) → m ≡ m' → Close (after_type s w m) (after_type s' w m')
  close-type w m m' e =
      close-name (type_of_mark m.mark) (type_of_mark m'.mark) w _ _ (ap (λ (x : Made). valued (Some (type_of_mark x.mark))) e)
      (close-types _ _ s s' (ap (λ (x : Made). x.types) e) close)

  close-enumeration : (w : Word) (literals : List Word) → Close (after_enumeration s w literals) (after_enumeration s' w literals)
  close-enumeration w literals =
      close-names (Literal (length s.types.kinds)) (Literal (length s'.types.kinds)) literals _ _ (ap (λ (T : TypeTable). Some (Literal (length T.kinds))) close.types)
      (close-name (TypeMark (length s.types.marks)) (TypeMark (length s'.types.marks)) w _ _ (ap (λ (T : TypeTable). Some (TypeMark (length T.marks))) close.types)
      (close-types _ _ s s' (ap (λ T. enumeration_table T w literals) close.types) close))

  array-made : (w : Word) (index : PDrange) (x : PSubind) → made_named_array s w index x ≡ made_named_array s' w index x
  array-made w index x = ap₂ (λ (d : Made) r. made_array (Some w.name) d.types r d.mark) (made-alike s s' close x) (drange-alike s s' close index)

  subtype-made : (w : Word) (x : PSubind) → made_subtype s w x ≡ made_subtype s' w x
  subtype-made w x = ap (λ (d : Made). renamed w d.types (and_then (range_of_mark d.types) d.mark)) (made-alike s s' close x)

  no_task_thing : (b : Bool) (entries : List EntryPart) → valued (Some (task_thing b entries)) ≡ None
  no_task_thing true entries = refl
  no_task_thing false entries = refl

  -- a declaration that is no body, on both sides
  pub close-decl : (d : PDecl) → IsFirst d → Close (after_decl s d) (after_decl s' d)
  close-decl (DNumber w e sp) h =
      close-name (ConstantObject 0) (ConstantObject 0) w _ _ refl
      (close-types _ _ s s' (ap₂ (add_constants (w ∷ []) (Some 0)) (static-alike s s' close integer_kind e) close.types) close)
  close-decl (DObject names constant shape init sp) h = close-object names constant shape init
  close-decl (DEnumeration w literals sp) h = close-enumeration w literals
  close-decl (DArray w index x sp) h = close-type w _ _ (array-made w index x)
  close-decl (DSubtype w x sp) h = close-type w _ _ (subtype-made w x)
  close-decl (DException names sp) h = close-names AnException AnException names s s' refl close
  close-decl (DIntIo w sp) h = instance-close (close-name AnotherUnit AnotherUnit w s s' refl close)
    where
      instance-close : Close (with_name AnotherUnit s w) (with_name AnotherUnit s' w) → Close (after_decl s (DIntIo w sp)) (after_decl s' (DIntIo w sp))
      instance-close c = record { types = c.types; main = c.main; things = c.things }
  close-decl (DPragma e sp) h = close
  close-decl (DTask t sp) h = close-name _ _ t.name s s' (no_task_thing t.of_kind _ ∙ sym (no_task_thing t.of_kind _)) close
  close-decl (DTaskBody w objects its sp) h = absurd h

-- a task on one side alone
pub hide-task : (t : PTask) (sp : Span) (s s' : Scope) → IsFree s t.name.name → Close s s' → Close (after_decl s (DTask t sp)) s'
hide-task t sp s s' free close = hide-name _ t.name s s' (no_task_thing s s' close t.of_kind _) free close
