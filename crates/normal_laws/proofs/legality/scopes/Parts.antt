-- The components of an array are values, whatever declarations leave the table, in whatever scope they stand.
use Rattle.std.proofs.Common.{◌≡◌, ℕ, ℤ, zero, suc, Bool, true, false, if◌then◌else◌, List, [], ◌∷◌, ◌++◌, length, slice_get, Option, Some, None, ⊎_elim, refl, sym, ap, ◌∙◌, subst}
use Rattle.ada_tree.specs.declared.naming.NameId.{NameId}
use Rattle.ada_tree.specs.declared.naming.Word.{Word}
use Rattle.ada_tree.specs.declared.static_types.Kind.{Kind}
use Rattle.ada_tree.specs.declared.static_types.Kind.TheVariants.{Integer, Truth, Enumeration, Array}
use Rattle.ada_tree.specs.declared.static_types.Mark.{Mark}
use Rattle.ada_tree.specs.TypeTable.{TypeTable}
use Rattle.ada_tree.specs.PlainExpr.{PBounds, PSubind, PDrange}
use Rattle.ada_tree.specs.PlainDecl.{PShape, OPlain, OArray, PInit, PDecl, DNumber, DObject, DEnumeration, DArray, DSubtype, DException, DIntIo, DPragma, DTask, DTaskBody, PDecls, no_decl, decl_then}
use Rattle.ada_static_rules.specs.Scope.{Scope, Range, Thing, TypeMark, TaskType, SingleTask, TaskObject, TaskArray, Variable, ConstantObject, Parameter, LoopParameter, Literal, AnException, MainProcedure, AnotherUnit, Unclear, Marking, ScalarMark, ArrayMark, TaskMark, NoMark, UnknownMark, UnclearMark, kind_at, mark_at, marking_of_kind, marking_of_mark, marking_of, marking, meaning, range_of_mark, and_then}
use Rattle.ada_static_rules.specs.ExprTypes.{static_in, range_between, static_range}
use Rattle.ada_static_rules.specs.Declaring.{predefined_types, mark_for, with_name, with_names, with_types, add_mark, add_kind, Made, made_range, subind_made, made_subind, drange_range, made_array, plain_object, array_object, declared_object, add_constants, with_constants, constant_mark, constant_value, after_object, renamed, in_body, after_own_object, after_objects, after_decl}
use Rattle.task_laws.specs.legal.rewritten_types.Agreement.{scalar_only, IsScalar, Grows}
use Rattle.task_laws.proofs.legal.rewritten_types.Lookups.{earlier-or-last}
use Rattle.common_lemmas.proofs.Lists.{last_at}
use Rattle.common_lemmas.proofs.Options.{some_same, not_missing}
use Rattle.task_laws.proofs.legal.rewritten_types.Keeping.{grows-mark, grows-kind}
use Rattle.task_laws.proofs.legal.rewritten_types.Adding.{names-types}
use Rattle.task_laws.proofs.legal.types.FirmTables.{scalar-grown}

-- ---- tables

-- a mark whose kind is one of values stands there
abbrev pub IsValueMark : TypeTable → ℕ → Type 0
IsValueMark T m = (x : Mark) × (mark_at T m ≡ Some x) × IsScalar T x.kind

-- the components of each array are values
pub record HasParts (T : TypeTable) : Type 0 where
  pub parts : (k i : ℕ) (f l : ℤ) (p : ℕ) → kind_at T k ≡ Some (Array i f l p) → IsValueMark T p

pub value-grown : (T U : TypeTable) → Grows T U → (m : ℕ) → IsValueMark T m → IsValueMark U m
value-grown T U g m h = (h.0, g.mark m h.0 h.1, scalar-grown T U g h.0.kind h.2)

-- more marks and constants
parts-more : (T U : TypeTable) → Grows T U → U.kinds ≡ T.kinds → HasParts T → HasParts U
parts-more T U g e h = record { parts = λ k i f l p q. value-grown T U g p (h.parts k i f l p (ap (λ ks. slice_get ks k) (sym e) ∙ q)) }

array-part : (i j : ℕ) (f g l m : ℤ) (p q : ℕ) → Array i f l p ≡ Array j g m q → p ≡ q
array-part i j f g l m p q e = cc

not-array : (names : List NameId) (i : ℕ) (f l : ℤ) (p : ℕ) → Enumeration names ≡ Array i f l p → ⊥
not-array names i f l p e = cc

parts-array : (T : TypeTable) (i : ℕ) (f l : ℤ) (p : ℕ) → IsValueMark T p → HasParts T → HasParts (add_kind T (Array i f l p))
parts-array T i f l p v h = record { parts = λ k j g m q e. value-grown T (add_kind T (Array i f l p)) (grows-kind T (Array i f l p)) q (⊎_elim (λ same. h.parts k j g m q (sym same ∙ e)) (λ last. new k j g m q last e) (earlier-or-last T.kinds (Array i f l p) k)) }
  where
    new : (k j : ℕ) (g m : ℤ) (q : ℕ) → k ≡ length T.kinds → kind_at (add_kind T (Array i f l p)) k ≡ Some (Array j g m q) → IsValueMark T q
    new k j g m q last e = subst (IsValueMark T) (array-part i j f g l m p q (some_same (sym (last_at T.kinds (Array i f l p)) ∙ ap (slice_get (T.kinds ++ Array i f l p ∷ [])) (sym last) ∙ e))) v

parts-enumeration : (T : TypeTable) (names : List NameId) → HasParts T → HasParts (add_kind T (Enumeration names))
parts-enumeration T names h = record { parts = λ k j g m q e. value-grown T (add_kind T (Enumeration names)) (grows-kind T (Enumeration names)) q (⊎_elim (λ same. h.parts k j g m q (sym same ∙ e)) (λ last. new k j g m q last e) (earlier-or-last T.kinds (Enumeration names) k)) }
  where
    new : (k j : ℕ) (g m : ℤ) (q : ℕ) → k ≡ length T.kinds → kind_at (add_kind T (Enumeration names)) k ≡ Some (Array j g m q) → IsValueMark T q
    new k j g m q last e = absurd (not-array names j g m q (some_same (sym (last_at T.kinds (Enumeration names)) ∙ ap (slice_get (T.kinds ++ Enumeration names ∷ [])) (sym last) ∙ e)))

parts-mark : (T : TypeTable) (m : Mark) → HasParts T → HasParts (add_mark T m)
parts-mark T m h = parts-more T (add_mark T m) (grows-mark T m) refl h

-- ---- marks that are made

abbrev ValueIf : TypeTable → Option ℕ → Type 0
ValueIf T (Some m) = IsValueMark T m
ValueIf T None = Unit {0}

abbrev IsValued : Made → Type 0
IsValued d = HasParts d.types × ValueIf d.types d.mark

-- what a scalar marking tells
abbrev HasValues : TypeTable → Marking → Type 0
HasValues T (ScalarMark m k) = IsValueMark T m × IsScalar T k
HasValues T _ = Unit {0}

kind-values : (T : TypeTable) (m : ℕ) (x : Mark) → mark_at T m ≡ Some x → (o : Option Kind) → kind_at T x.kind ≡ o → HasValues T (marking_of_kind m x.kind o)
kind-values T m x e (Some (Array i f l p)) g = tt
kind-values T m x e (Some Integer) g = let s : IsScalar T x.kind = (Integer, ap scalar_only g) in ((x, e, s), s)
kind-values T m x e (Some Truth) g = let s : IsScalar T x.kind = (Truth, ap scalar_only g) in ((x, e, s), s)
kind-values T m x e (Some (Enumeration names)) g = let s : IsScalar T x.kind = (Enumeration names, ap scalar_only g) in ((x, e, s), s)
kind-values T m x e None g = tt

mark-values : (T : TypeTable) (m : ℕ) (o : Option Mark) → mark_at T m ≡ o → HasValues T (marking_of_mark T m o)
mark-values T m (Some x) e = kind-values T m x e (kind_at T x.kind) refl
mark-values T m None e = tt

marking-values : (T : TypeTable) (o : Option Thing) → HasValues T (marking_of T o)
marking-values T (Some (TypeMark m)) = mark-values T m (mark_at T m) refl
marking-values T (Some (TaskType entries)) = tt
marking-values T (Some (SingleTask entries)) = tt
marking-values T (Some (TaskObject entries)) = tt
marking-values T (Some (TaskArray r entries)) = tt
marking-values T (Some (Variable m)) = tt
marking-values T (Some (ConstantObject m)) = tt
marking-values T (Some (Parameter mode m)) = tt
marking-values T (Some (LoopParameter m)) = tt
marking-values T (Some (Literal k)) = tt
marking-values T (Some AnException) = tt
marking-values T (Some MainProcedure) = tt
marking-values T (Some AnotherUnit) = tt
marking-values T (Some Unclear) = tt
marking-values T None = tt

-- a range between values of a kind is one of that kind
abbrev IsOfKind : ℕ → Option Range → Type 0
IsOfKind k (Some r) = r.kind ≡ k
IsOfKind k None = Unit {0}

range-kind : (k : ℕ) (x y : Option ℤ) → IsOfKind k (range_between k x y)
range-kind k (Some x) (Some y) = refl
range-kind k (Some x) None = tt
range-kind k None y = tt

valued-range : (T : TypeTable) (k : ℕ) (o : Option Range) → IsOfKind k o → IsScalar T k → HasParts T → IsValued (made_range T o)
valued-range T k (Some r) e c h = let m : Mark = mark_for None r in (parts-mark T m h, (m, last_at T.marks m, scalar-grown T (add_mark T m) (grows-mark T m) r.kind (subst (IsScalar T) (sym e) c)))
valued-range T k None e c h = (h, tt)

valued-marking : (s : Scope) (m : Marking) (b : Option PBounds) → HasValues s.types m → HasParts s.types → IsValued (subind_made s m b)
valued-marking s (ScalarMark m k) None v h = (h, v.0)
valued-marking s (ScalarMark m k) (Some b) v h = valued-range s.types k (static_range s k b) (range-kind k (static_in s k b.first) (static_in s k b.last)) v.1 h
valued-marking s (ArrayMark m r part) b v h = (h, tt)
valued-marking s (TaskMark entries) b v h = (h, tt)
valued-marking s NoMark b v h = (h, tt)
valued-marking s UnknownMark b v h = (h, tt)
valued-marking s UnclearMark b v h = (h, tt)

valued-subind : (s : Scope) (x : PSubind) → HasParts s.types → IsValued (made_subind s x)
valued-subind s x h = valued-marking s (marking s x.mark.name) x.bounds (marking-values s.types (meaning s x.mark.name)) h

parts-made : (name : Option NameId) (T : TypeTable) (r : Option Range) (part : Option ℕ) → ValueIf T part → HasParts T → HasParts (made_array name T r part).types
parts-made name T (Some r) (Some part) v h = parts-mark _ _ (parts-array T r.kind r.first r.last part v h)
parts-made name T (Some r) None v h = h
parts-made name T None part v h = h

parts-own : (s : Scope) (name : Option NameId) (index : PDrange) (x : PSubind) → HasParts s.types → HasParts (made_array name (made_subind s x).types (drange_range s index) (made_subind s x).mark).types
parts-own s name index x h = let d = valued-subind s x h in parts-made name (made_subind s x).types (drange_range s index) (made_subind s x).mark d.1 d.0

-- ---- objects

parts-plain : (s : Scope) (constant : Bool) (m : Marking) (x : PSubind) → HasParts s.types → HasParts (plain_object s constant m x).types
parts-plain s constant (TaskMark entries) x h = h
parts-plain s constant (ArrayMark m r part) x h = h
parts-plain s constant (ScalarMark m k) x h = (valued-subind s x h).0
parts-plain s constant NoMark x h = (valued-subind s x h).0
parts-plain s constant UnknownMark x h = (valued-subind s x h).0
parts-plain s constant UnclearMark x h = (valued-subind s x h).0

parts-row : (s : Scope) (constant : Bool) (m : Marking) (index : PDrange) (x : PSubind) → HasParts s.types → HasParts (array_object s constant m index x).types
parts-row s constant (TaskMark entries) index x h = h
parts-row s constant (ArrayMark m r part) index x h = parts-own s None index x h
parts-row s constant (ScalarMark m k) index x h = parts-own s None index x h
parts-row s constant NoMark index x h = parts-own s None index x h
parts-row s constant UnknownMark index x h = parts-own s None index x h
parts-row s constant UnclearMark index x h = parts-own s None index x h

parts-shape : (s : Scope) (constant : Bool) (shape : PShape) → HasParts s.types → HasParts (declared_object s constant shape).types
parts-shape s constant (OPlain x) h = parts-plain s constant (marking s x.mark.name) x h
parts-shape s constant (OArray index x) h = parts-row s constant (marking s x.mark.name) index x h

parts-constants : (names : List Word) (m : Option ℕ) (z : Option ℤ) (T : TypeTable) → HasParts T → HasParts (add_constants names m z T)
parts-constants names (Some m) (Some z) T h = parts-more T _ (record { kind = λ k x e. e; mark = λ k x e. e }) refl h
parts-constants names (Some m) None T h = h
parts-constants names None z T h = h

parts-if : (b : Bool) (T U : TypeTable) → HasParts T → HasParts U → HasParts (if b then U else T)
parts-if true T U h k = k
parts-if false T U h k = h

parts-named : (thing : Thing) (ws : List Word) (s : Scope) → HasParts s.types → HasParts (with_names thing s ws).types
parts-named thing ws s h = subst (λ T. HasParts T) (sym (names-types thing ws s)) h

parts-object : (s : Scope) (names : List Word) (constant : Bool) (shape : PShape) (init : Option PInit) → HasParts s.types → HasParts (after_object s names constant shape init).types
parts-object s names constant shape init h =
    let d = declared_object s constant shape in
    let k : HasParts d.types = parts-shape s constant shape h in
    parts-named d.thing names (with_types (with_constants s names init d) s)
    (parts-if s.in_main d.types _ k (parts-constants names (constant_mark d.thing) (constant_value s d.types (constant_mark d.thing) init) d.types k))

parts-inner : (d : PDecl) (s : Scope) → HasParts s.types → HasParts (after_own_object s d).types
parts-inner (DObject names constant shape init sp) s h = parts-object s names constant shape init h
parts-inner (DNumber name x sp) s h = h
parts-inner (DEnumeration name literals sp) s h = h
parts-inner (DArray name index x sp) s h = h
parts-inner (DSubtype name x sp) s h = h
parts-inner (DException names sp) s h = h
parts-inner (DIntIo name sp) s h = h
parts-inner (DPragma x sp) s h = h
parts-inner (DTask t sp) s h = h
parts-inner (DTaskBody name objects its sp) s h = h

pub parts-objects : (ds : PDecls) (s : Scope) → HasParts s.types → HasParts (after_objects s ds).types
parts-objects no_decl s h = h
parts-objects (decl_then d rest) s h = parts-objects rest (after_own_object s d) (parts-inner d s h)

-- ---- declarations

parts-renamed : (w : Word) (T : TypeTable) (r : Option Range) → HasParts T → HasParts (renamed w T r).types
parts-renamed w T (Some r) h = parts-mark T _ h
parts-renamed w T None h = h

-- each declaration keeps it so
pub parts-decl : (d : PDecl) (s : Scope) → HasParts s.types → HasParts (after_decl s d).types
parts-decl (DNumber name e sp) s h = parts-constants (name ∷ []) (Some 0) _ s.types h
parts-decl (DObject names constant shape init sp) s h = parts-object s names constant shape init h
parts-decl (DEnumeration name literals sp) s h =
    parts-named _ literals (with_name _ (with_types _ s) name) (parts-mark (add_kind s.types (Enumeration _)) _ (parts-enumeration s.types _ h))
parts-decl (DArray name index x sp) s h = parts-own s (Some name.name) index x h
parts-decl (DSubtype name x sp) s h = parts-renamed name (made_subind s x).types (and_then (range_of_mark (made_subind s x).types) (made_subind s x).mark) (valued-subind s x h).0
parts-decl (DException names sp) s h = parts-named _ names s h
parts-decl (DIntIo name sp) s h = h
parts-decl (DPragma e sp) s h = h
parts-decl (DTask t sp) s h = h
parts-decl (DTaskBody name objects its sp) s h = parts-objects objects (in_body s name) h

-- before all declarations there is no array
first-integer : (i : ℕ) (f l : ℤ) (p : ℕ) → Integer ≡ Array i f l p → ⊥
first-integer i f l p e = cc

first-truth : (i : ℕ) (f l : ℤ) (p : ℕ) → Truth ≡ Array i f l p → ⊥
first-truth i f l p e = cc

pub parts-first : HasParts predefined_types
parts-first = record { parts = first }
  where
    first : (k i : ℕ) (f l : ℤ) (p : ℕ) → kind_at predefined_types k ≡ Some (Array i f l p) → IsValueMark predefined_types p
    first zero i f l p e = absurd (first-integer i f l p (some_same e))
    first (suc zero) i f l p e = absurd (first-truth i f l p (some_same e))
    first (suc (suc k)) i f l p e = absurd (not_missing (Array i f l p) e)
