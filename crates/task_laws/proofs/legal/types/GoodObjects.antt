-- What an object of main is, where nothing is refused at its declaration: an object of a mark, or a task.
use Rattle.std.proofs.Common.{◌≡◌, ℕ, ℤ, Bool, true, false, ◌==◌, if◌then◌else◌, List, ◌++◌, is_some, IfSome, option_map, unwrap_or, Option, Some, None, ◌⊎◌, inl, inr, ⊎_elim, refl, sym, ap, ◌∙◌, subst, true≢false}
use Rattle.std.specs.List.{AllByRecursion}
use Rattle.std.proofs.lemmas.Option.{none-some}
use Rattle.ada_tree.specs.declared.naming.NameId.{NameId}
use Rattle.ada_tree.specs.declared.naming.Word.{Word}
use Rattle.ada_tree.specs.declared.static_types.Kind.{Kind}
use Rattle.ada_tree.specs.declared.static_types.Kind.TheVariants.{Integer, Truth, Enumeration, Array}
use Rattle.ada_tree.specs.declared.static_types.Mark.{Mark}
use Rattle.ada_tree.specs.declared.static_types.Constant.{Constant}
use Rattle.ada_tree.specs.TypeTable.{TypeTable}
use Rattle.ada_tree.specs.PlainExpr.{PSubind, PDrange}
use Rattle.ada_tree.specs.PlainDecl.{PShape, OPlain, OArray, PInit, IOne, IList, IOthers}
use Rattle.ada_tree.specs.Every.{EverySubind, EveryDrange, EveryShape, EveryInit}
use Rattle.ada_tree.specs.WellPlaced.{well_placed}
use Rattle.ada_static_rules.specs.Scope.{Scope, Range, Thing, TypeMark, TaskType, SingleTask, TaskObject, TaskArray, Variable, ConstantObject, Parameter, LoopParameter, Literal, AnException, MainProcedure, AnotherUnit, Unclear, meaning, EntryPart, Marking, ScalarMark, ArrayMark, TaskMark, NoMark, UnknownMark, UnclearMark, marking_of_kind, marking_of_mark, marking_of, marking, scalar_kind}
use Rattle.ada_static_rules.specs.StaticValue.{constant_named}
use Rattle.ada_static_rules.specs.Demand.{MarkUse, scalar_only}
use Rattle.ada_static_rules.specs.Sites.{if_there, constraint_sites, subind_sites, drange_sites, may_be_task, object_marks, component_marks, shape_sites}
use Rattle.ada_static_rules.specs.RuleMismatch.{is_allowed}
use Rattle.ada_static_rules.specs.Declaring.{Made, made_subind, drange_range, object_meaning, task_object, task_array, Declared, of_made, plain_object, array_object, declared_object, constants_for, add_constants, kind_at_mark, constant_mark, initial_value, constant_value, with_constants}
use Rattle.task_laws.specs.legal.rewritten_types.Agreement.{HasKind, Grows}
use Rattle.task_laws.proofs.legal.rewritten_types.Keeping.{grows-self}
use Rattle.task_laws.specs.legal.sites.Met.{IsMet}
use Rattle.task_laws.specs.legal.types.Typed.{HasPosition}
use Rattle.task_laws.proofs.legal.types.ExprKinds.{LeadsOn, IsClearThing, IsClear, scalar-mark, thing-of}
use Rattle.task_laws.proofs.legal.types.StaticParts.{static-read, HasSubtype, mark-bounds, drange-met}
use Rattle.task_laws.proofs.legal.types.TypedValues.{IsTyped, IsOver}
use Rattle.task_laws.proofs.legal.types.FirmTables.{IsFirm, HasMade, HasDrange, subind-made, drange-made, array-unnamed, firm-constants, value-grown, scalar-has}
use Rattle.task_laws.proofs.legal.types.StaticWorth.{worth, worth-value, small-literals}
use Rattle.task_laws.proofs.legal.types.GoodScopes.{IsIn, find-split, constants-told}
use Rattle.common_lemmas.proofs.Lists.{all_back, all_front}
use Rattle.task_laws.proofs.legal.sites.Around.{test-holds}

-- ---- marks

-- a name that is declared, and whose declaration is not refused, is a mark that is there, a task type, or no mark
abbrev pub IsMarked : TypeTable → Marking → Type 0
IsMarked T (ScalarMark m k) = Unit {0}
IsMarked T (ArrayMark m range part) = LeadsOn T m
IsMarked T (TaskMark entries) = Unit {0}
IsMarked T NoMark = Unit {0}
IsMarked T UnknownMark = ⊥
IsMarked T UnclearMark = ⊥

kind-marked : (T : TypeTable) (m k : ℕ) (x : Kind) → LeadsOn T m → IsMarked T (marking_of_kind m k (Some x))
kind-marked T m k (Array index first last part) h = h
kind-marked T m k Integer h = tt
kind-marked T m k Truth h = tt
kind-marked T m k (Enumeration names) h = tt

thing-marked : (T : TypeTable) (x : Thing) → IsClearThing T x → IsMarked T (marking_of T (Some x))
thing-marked T (TypeMark m) h =
    subst (λ o. IsMarked T (marking_of_mark T m o)) (sym h.there) (subst (λ o. IsMarked T (marking_of_kind m h.mark.kind o)) (sym h.known) (kind-marked T m h.mark.kind h.kind h))
thing-marked T (TaskType entries) h = tt
thing-marked T (SingleTask entries) h = tt
thing-marked T (TaskObject entries) h = tt
thing-marked T (TaskArray range entries) h = tt
thing-marked T (Variable m) h = tt
thing-marked T (ConstantObject m) h = tt
thing-marked T (Parameter mode m) h = tt
thing-marked T (LoopParameter m) h = tt
thing-marked T (Literal k) h = tt
thing-marked T AnException h = tt
thing-marked T MainProcedure h = tt
thing-marked T AnotherUnit h = tt
thing-marked T Unclear h = absurd h

pub name-marked : (s : Scope) → IsClear s → (id : NameId) → is_some (meaning s id) ≡ true → IsMarked s.types (marking s id)
name-marked s clear id e = let x = thing-of s clear id e in subst (λ o. IsMarked s.types (marking_of s.types o)) (sym x.1) (thing-marked s.types x.0 x.2)

-- ---- objects

-- an object of a mark that is there, or a task
abbrev pub IsObject : TypeTable → Thing → Type 0
IsObject T (Variable m) = LeadsOn T m
IsObject T (ConstantObject m) = LeadsOn T m
IsObject T (TaskObject entries) = Unit {0}
IsObject T (TaskArray range entries) = Unit {0}
IsObject T (TypeMark m) = ⊥
IsObject T (TaskType entries) = ⊥
IsObject T (SingleTask entries) = ⊥
IsObject T (Parameter mode m) = ⊥
IsObject T (LoopParameter m) = ⊥
IsObject T (Literal k) = ⊥
IsObject T AnException = ⊥
IsObject T MainProcedure = ⊥
IsObject T AnotherUnit = ⊥
IsObject T Unclear = ⊥

pub object-clear : (T : TypeTable) (x : Thing) → IsObject T x → IsClearThing T x
object-clear T (Variable m) h = h
object-clear T (ConstantObject m) h = h
object-clear T (TaskObject entries) h = tt
object-clear T (TaskArray range entries) h = tt
object-clear T (TypeMark m) h = absurd h
object-clear T (TaskType entries) h = absurd h
object-clear T (SingleTask entries) h = absurd h
object-clear T (Parameter mode m) h = absurd h
object-clear T (LoopParameter m) h = absurd h
object-clear T (Literal k) h = absurd h
object-clear T AnException h = absurd h
object-clear T MainProcedure h = absurd h
object-clear T AnotherUnit h = absurd h
object-clear T Unclear h = absurd h

-- an object, with all that its declaration adds to the table before its constants
pub record HasObject (s : Scope) (d : Declared) : Type 0 where
  pub object : IsObject d.types d.thing
  pub grows : Grows s.types d.types
  pub firm : IsFirm d.types
  pub constants : d.types.constants ≡ s.types.constants

of-made : (s : Scope) (constant : Bool) (d : Made) → HasMade s d → HasObject s (of_made constant d)
of-made s constant d h = record { object = subst (λ o. IsObject d.types (object_meaning constant o)) (sym h.made) (by_test constant); grows = h.grows; firm = h.firm; constants = h.constants }
  where
    by_test : (b : Bool) → IsObject d.types (object_meaning b (Some h.place))
    by_test true = h.leads
    by_test false = h.leads

module _ (s : Scope) (main : s.in_main ≡ true) (firm : IsFirm s.types) (typed : IsTyped s.types) (over : IsOver s.types s) where
  -- an object that is in no table
  untold : (x : Thing) → IsObject s.types x → HasObject s (record { types = s.types; thing = x })
  untold x h = record { object = h; grows = grows-self s.types; firm = firm; constants = refl }

  task-object : (entries : List EntryPart) → IsObject s.types (task_object s.in_main entries)
  task-object entries = subst (λ b. IsObject s.types (task_object b entries)) (sym main) tt

  array-object : (constant : Bool) (m : ℕ) → LeadsOn s.types m → IsObject s.types (object_meaning constant (Some m))
  array-object true m h = h
  array-object false m h = h

  -- the subtype of a scalar mark
  scalar-subtype : (x : PSubind) → is_some (meaning s x.mark.name) ≡ true → is_allowed scalar_only (marking s x.mark.name) ≡ true → AllByRecursion IsMet (if_there (constraint_sites true s (scalar_kind (marking s x.mark.name))) x.bounds) → HasSubtype s x
  scalar-subtype x known allowed h =
      let mark = scalar-mark s over.clear x.mark.name known allowed in
      record { mark = mark; bounds = mark-bounds s over.clear (scalar_kind (marking s x.mark.name)) mark.leads.mark.kind x.bounds (ap scalar_kind mark.marks) h }

  plain-made : (names : List (List ℕ)) (constant : Bool) (allowed : MarkUse) (x : PSubind) → EverySubind (well_placed names) 2 x → AllByRecursion IsMet (subind_sites true allowed s x) → HasObject s (plain_object s constant (marking s x.mark.name) x)
  plain-made names constant allowed x every h =
      let known = test-holds (is_some (meaning s x.mark.name)) x.mark.span h.0.known in
      by_marking (marking s x.mark.name) refl known (test-holds (is_allowed allowed (marking s x.mark.name)) x.mark.span h.0.matched) (name-marked s over.clear x.mark.name known)
    where
      by_marking : (m : Marking) → marking s x.mark.name ≡ m → is_some (meaning s x.mark.name) ≡ true → is_allowed allowed m ≡ true → IsMarked s.types m → HasObject s (plain_object s constant m x)
      by_marking (ScalarMark m k) e known a marked =
          of-made s constant (made_subind s x) (subind-made s firm typed over names x every (scalar-subtype x known (ap (is_allowed scalar_only) e) h.1))
      by_marking (ArrayMark m range part) e known a marked = untold (object_meaning constant (Some m)) (array-object constant m marked)
      by_marking (TaskMark entries) e known a marked = untold (task_object s.in_main entries) (task-object entries)
      by_marking NoMark e known a marked = absurd (true≢false (sym a))
      by_marking UnknownMark e known a marked = absurd marked
      by_marking UnclearMark e known a marked = absurd marked

  row-made : (names : List (List ℕ)) (constant task : Bool) (index : PDrange) (x : PSubind) → EveryDrange (well_placed names) 2 index → EverySubind (well_placed names) 2 x →
      AllByRecursion IsMet (drange_sites true s index) → AllByRecursion IsMet (subind_sites true (component_marks task) s x) → HasObject s (array_object s constant (marking s x.mark.name) index x)
  row-made names constant task index x everys every hs h =
      let known = test-holds (is_some (meaning s x.mark.name)) x.mark.span h.0.known in
      by_marking (marking s x.mark.name) refl known (test-holds (is_allowed (component_marks task) (marking s x.mark.name)) x.mark.span h.0.matched) (name-marked s over.clear x.mark.name known)
    where
      range : HasDrange s index
      range = drange-made s firm typed over names index everys (drange-met s over.clear index hs)

      no-array : (b : Bool) (m : ℕ) (r : Range) (part : ℕ) → is_allowed (component_marks b) (ArrayMark m r part) ≡ true → ⊥
      no-array true m r part e = true≢false (sym e)
      no-array false m r part e = true≢false (sym e)

      by_marking : (m : Marking) → marking s x.mark.name ≡ m → is_some (meaning s x.mark.name) ≡ true → is_allowed (component_marks task) m ≡ true → IsMarked s.types m → HasObject s (array_object s constant m index x)
      by_marking (ScalarMark m k) e known a marked =
          of-made s constant _ (array-unnamed s (made_subind s x) index (subind-made s firm typed over names x every (scalar-subtype x known (ap (is_allowed scalar_only) e) h.1)) range)
      by_marking (ArrayMark m r part) e known a marked = absurd (no-array task m r part a)
      by_marking (TaskMark entries) e known a marked =
          untold (task_array s.in_main (drange_range s index) entries)
          (subst (λ b. IsObject s.types (task_array b (drange_range s index) entries)) (sym main) (subst (λ o. IsObject s.types (task_array true o entries)) (sym range.known) tt))
      by_marking NoMark e known a marked = absurd (true≢false (sym a))
      by_marking UnknownMark e known a marked = absurd marked
      by_marking UnclearMark e known a marked = absurd marked

  -- an object of a shape at which nothing is refused
  pub shape-made : (names : List (List ℕ)) (constant : Bool) (shape : PShape) (init : Option PInit) → EveryShape (well_placed names) shape → AllByRecursion IsMet (shape_sites s constant shape init) → HasObject s (declared_object s constant shape)
  shape-made names constant (OPlain x) init every h = plain-made names constant (object_marks (may_be_task s constant x.bounds init) x.bounds) x every h
  shape-made names constant (OArray index x) init every h =
      row-made names constant (may_be_task s constant x.bounds init) index x every.0 every.1 (all_front IsMet (drange_sites true s index) (subind_sites true (component_marks (may_be_task s constant x.bounds init)) s x) h)
      (all_back IsMet (drange_sites true s index) (subind_sites true (component_marks (may_be_task s constant x.bounds init)) s x) h)

-- ---- constants

-- a table with constants of these names
pub record HasConstants (ws : List Word) (thing : Thing) (T U : TypeTable) : Type 0 where
  pub grows : Grows T U
  pub firm : IsFirm U
  pub told : (id : NameId) (c : Constant) → constant_named U id ≡ Some c → (constant_named T id ≡ Some c) ⊎ (IsIn ws id × (thing ≡ ConstantObject c.mark))

pub no-constants : (ws : List Word) (thing : Thing) (T : TypeTable) → IsFirm T → HasConstants ws thing T T
no-constants ws thing T firm = record { grows = grows-self T; firm = firm; told = λ id c e. inl e }

pub more-constants : (ws : List Word) (m : ℕ) (z : ℤ) (T : TypeTable) (h : LeadsOn T m) → IsFirm T → HasPosition T h.mark.kind z →
    HasConstants ws (ConstantObject m) T (record T { constants = T.constants ++ constants_for ws m z })
more-constants ws m z T h firm v = record {
  grows = record { kind = λ k y f. f; mark = λ k y f. f };
  firm = firm-constants T ws m z h.mark firm h.there (h.kind, h.known) v;
  told = λ id c e. ⊎_elim (λ old. inl old) (λ new. let q = constants-told ws m z id c new in inr (q.0, ap ConstantObject (sym q.1))) (find-split (λ d. d.name.0 == id.0) T.constants (constants_for ws m z) c e);
}

module _ (s : Scope) (main : s.in_main ≡ true) (firm : IsFirm s.types) (typed : IsTyped s.types) (over : IsOver s.types s) where
  -- the value of a constant is one of its mark's kind
  initial-fits : (names : List (List ℕ)) (k : ℕ) (init : Option PInit) (z : ℤ) → IfSome init (EveryInit (well_placed names)) → initial_value s k init ≡ Some z → HasKind s.types k × HasPosition s.types k z
  initial-fits names k (Some (IOne e)) z every f =
      let h = static-read s k e z f in
      let w = worth s.types s typed over k e (small-literals names 2 e every) h.0 in
      (scalar-has s.types k w.kind.scalar, subst (HasPosition s.types k) h.1 (worth-value s.types k e h.0.value w))
  initial-fits names k (Some (IList es sp)) z every f = absurd (none-some z f)
  initial-fits names k (Some (IOthers e sp)) z every f = absurd (none-some z f)
  initial-fits names k None z every f = absurd (none-some z f)

  -- the constants that an object's declaration adds
  pub object-constants : (names : List (List ℕ)) (ws : List Word) (init : Option PInit) → IfSome init (EveryInit (well_placed names)) → (d : Declared) → HasObject s d → HasConstants ws d.thing d.types (with_constants s ws init d)
  object-constants names ws init every d h = subst (λ b. HasConstants ws d.thing d.types (if b then added else d.types)) (sym main) (by_thing d.thing refl h.object)
    where
      added : TypeTable
      added = add_constants ws (constant_mark d.thing) (constant_value s d.types (constant_mark d.thing) init) d.types

      by_value : (m : ℕ) (o : Option ℤ) → LeadsOn d.types m → initial_value s (kind_at_mark d.types m) init ≡ o → HasConstants ws (ConstantObject m) d.types (add_constants ws (Some m) o d.types)
      by_value m (Some z) leads f =
          let same : kind_at_mark d.types m ≡ leads.mark.kind = ap (λ o. unwrap_or (option_map (λ (x : Mark). x.kind) o) 0) leads.there in
          let v = initial-fits names leads.mark.kind init z every (ap (λ k. initial_value s k init) (sym same) ∙ f) in
          more-constants ws m z d.types leads h.firm (value-grown s.types d.types h.grows leads.mark.kind z v.0 v.1)
      by_value m None leads f = no-constants ws (ConstantObject m) d.types h.firm

      by_thing : (x : Thing) → d.thing ≡ x → IsObject d.types x → HasConstants ws x d.types (add_constants ws (constant_mark x) (constant_value s d.types (constant_mark x) init) d.types)
      by_thing (ConstantObject m) e o = by_value m (initial_value s (kind_at_mark d.types m) init) o refl
      by_thing (Variable m) e o = no-constants ws (Variable m) d.types h.firm
      by_thing (TaskObject entries) e o = no-constants ws (TaskObject entries) d.types h.firm
      by_thing (TaskArray range entries) e o = no-constants ws (TaskArray range entries) d.types h.firm
      by_thing (TypeMark m) e o = absurd o
      by_thing (TaskType entries) e o = absurd o
      by_thing (SingleTask entries) e o = absurd o
      by_thing (Parameter mode m) e o = absurd o
      by_thing (LoopParameter m) e o = absurd o
      by_thing (Literal k) e o = absurd o
      by_thing AnException e o = absurd o
      by_thing MainProcedure e o = absurd o
      by_thing AnotherUnit e o = absurd o
      by_thing Unclear e o = absurd o
