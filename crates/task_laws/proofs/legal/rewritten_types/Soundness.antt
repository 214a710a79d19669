-- Each table that declarations leave is sound, in whatever scope they stand: no place in it leads out of it.
use Rattle.std.proofs.Common.{◌≡◌, ℕ, ℤ, Bool, true, false, if◌then◌else◌, List, [], ◌∷◌, option_map, Option, Some, None, refl, sym, subst}
use Rattle.std.specs.List.{AllByRecursion}
use Rattle.ada_tree.specs.declared.naming.NameId.{NameId}
use Rattle.ada_tree.specs.declared.naming.Word.{Word}
use Rattle.ada_tree.specs.declared.static_types.Kind.{Kind}
use Rattle.ada_tree.specs.declared.static_types.Kind.TheVariants.{Integer, Truth, Enumeration, Array}
use Rattle.ada_tree.specs.declared.static_types.Mark.{Mark}
use Rattle.ada_tree.specs.declared.static_types.Constant.{Constant}
use Rattle.ada_tree.specs.TypeTable.{TypeTable}
use Rattle.ada_tree.specs.PlainExpr.{PBounds, PSubind, PDrange}
use Rattle.ada_tree.specs.PlainDecl.{PShape, OPlain, OArray, PInit, PDecl, DNumber, DObject, DEnumeration, DArray, DSubtype, DException, DIntIo, DPragma, DTask, DTaskBody, PDecls, no_decl, decl_then}
use Rattle.ada_static_rules.specs.Scope.{Scope, Range, EntryPart, Thing, TypeMark, TaskType, SingleTask, TaskObject, TaskArray, Variable, ConstantObject, Parameter, LoopParameter, Literal, AnException, MainProcedure, AnotherUnit, Unclear, Marking, ScalarMark, ArrayMark, TaskMark, NoMark, UnknownMark, UnclearMark, kind_at, mark_at, marking_of_kind, marking_of_mark, marking_of, marking, meaning, range_of_mark, integer_kind, and_then}
use Rattle.ada_static_rules.specs.ExprTypes.{static_in, range_between}
use Rattle.ada_static_rules.specs.Declaring.{first_scope, with_name, with_names, with_types, add_mark, add_kind, Made, made, made_range, subind_made, made_subind, drange_range, made_array, object_meaning, task_object, task_array, Declared, of_made, plain_object, array_object, declared_object, constants_for, add_constants, constant_mark, constant_value, with_constants, after_object, renamed, in_body, after_own_object, after_objects, after_decl, after_decls}
use Rattle.task_laws.specs.legal.rewritten_types.Agreement.{HasKind, HasMark, Grows, HasPart, Sound}
use Rattle.task_laws.proofs.legal.rewritten_types.Lookups.{place-all}
use Rattle.task_laws.proofs.legal.rewritten_types.Keeping.{grows-mark, grows-kind}
use Rattle.task_laws.proofs.legal.rewritten_types.Adding.{names-types}
use Rattle.common_lemmas.proofs.Lists.{all_joined, all_weaker, last_at}

-- ---- one entry more

mark-grown : (T U : TypeTable) → Grows T U → (m : ℕ) → HasMark T m → HasMark U m
mark-grown T U g m h = (h.0, g.mark m h.0 h.1)

kind-grown : (T U : TypeTable) → Grows T U → (k : ℕ) → HasKind T k → HasKind U k
kind-grown T U g k h = (h.0, g.kind k h.0 h.1)

part-grown : (T U : TypeTable) → Grows T U → (x : Kind) → HasPart T x → HasPart U x
part-grown T U g (Array index first last part) h = mark-grown T U g part h
part-grown T U g Integer h = tt
part-grown T U g Truth h = tt
part-grown T U g (Enumeration names) h = tt

sound-mark : (T : TypeTable) (m : Mark) → Sound T → HasKind T m.kind → Sound (add_mark T m)
sound-mark T m s h = record {
  constants = all_weaker _ _ T.constants (λ c. mark-grown T (add_mark T m) (grows-mark T m) c.mark) s.constants;
  marks = all_joined _ T.marks (m ∷ []) s.marks (h, tt);
  kinds = all_weaker _ _ T.kinds (part-grown T (add_mark T m) (grows-mark T m)) s.kinds;
  first = mark-grown T (add_mark T m) (grows-mark T m) 0 s.first;
}

sound-kind : (T : TypeTable) (x : Kind) → Sound T → HasPart T x → Sound (add_kind T x)
sound-kind T x s h = record {
  constants = s.constants;
  marks = all_weaker _ _ T.marks (λ m. kind-grown T (add_kind T x) (grows-kind T x) m.kind) s.marks;
  kinds = all_joined _ T.kinds (x ∷ []) (all_weaker _ _ T.kinds (part-grown T (add_kind T x) (grows-kind T x)) s.kinds) (part-grown T (add_kind T x) (grows-kind T x) x h, tt);
  first = s.first;
}

constants-sound : (T : TypeTable) (names : List Word) (m : ℕ) (z : ℤ) → HasMark T m → AllByRecursion (λ (c : Constant). HasMark T c.mark) (constants_for names m z)
constants-sound T [] m z h = tt
constants-sound T (w ∷ ws) m z h = (h, constants-sound T ws m z h)

-- there is no place, or the table has it
abbrev pub HasIf : TypeTable → Option ℕ → Type 0
HasIf T (Some m) = HasMark T m
HasIf T None = Unit {0}

sound-constants : (T : TypeTable) (names : List Word) (m : Option ℕ) (z : Option ℤ) → Sound T → HasIf T m → Sound (add_constants names m z T)
sound-constants T names (Some m) (Some z) s h = record {
  constants = all_joined _ T.constants (constants_for names m z) s.constants (constants-sound T names m z h);
  marks = s.marks;
  kinds = s.kinds;
  first = s.first;
}
sound-constants T names (Some m) None s h = s
sound-constants T names None z s h = s

-- ---- marks that are made

-- the table is sound and has the mark, if there is one
abbrev pub IsMade : Made → Type 0
IsMade d = Sound d.types × HasIf d.types d.mark

sound-made : (T : TypeTable) (m : Mark) → Sound T → HasKind T m.kind → IsMade (made T m)
sound-made T m s h = (sound-mark T m s h, (m, last_at T.marks m))

sound-range : (T : TypeTable) (k : ℕ) (a b : Option ℤ) → Sound T → HasKind T k → IsMade (made_range T (range_between k a b))
sound-range T k (Some a) (Some b) s h = sound-made T _ s h
sound-range T k (Some a) None s h = (s, tt)
sound-range T k None b s h = (s, tt)

-- the places that a marking tells
abbrev HasPlaces : TypeTable → Marking → Type 0
HasPlaces T (ScalarMark m k) = HasMark T m × HasKind T k
HasPlaces T (ArrayMark m r part) = HasMark T m
HasPlaces T _ = Unit {0}

kind-places : (T : TypeTable) (m : ℕ) (x : Mark) → mark_at T m ≡ Some x → (o : Option Kind) → kind_at T x.kind ≡ o → HasPlaces T (marking_of_kind m x.kind o)
kind-places T m x e (Some (Array index first last part)) f = (x, e)
kind-places T m x e (Some Integer) f = ((x, e), (Integer, f))
kind-places T m x e (Some Truth) f = ((x, e), (Truth, f))
kind-places T m x e (Some (Enumeration names)) f = ((x, e), (Enumeration names, f))
kind-places T m x e None f = tt

mark-places : (T : TypeTable) (m : ℕ) (o : Option Mark) → mark_at T m ≡ o → HasPlaces T (marking_of_mark T m o)
mark-places T m (Some x) e = kind-places T m x e (kind_at T x.kind) refl
mark-places T m None e = tt

marking-places : (T : TypeTable) (o : Option Thing) → HasPlaces T (marking_of T o)
marking-places T (Some (TypeMark m)) = mark-places T m (mark_at T m) refl
marking-places T (Some (TaskType entries)) = tt
marking-places T (Some (SingleTask entries)) = tt
marking-places T (Some (TaskObject entries)) = tt
marking-places T (Some (TaskArray r entries)) = tt
marking-places T (Some (Variable m)) = tt
marking-places T (Some (ConstantObject m)) = tt
marking-places T (Some (Parameter mode m)) = tt
marking-places T (Some (LoopParameter m)) = tt
marking-places T (Some (Literal k)) = tt
marking-places T (Some AnException) = tt
marking-places T (Some MainProcedure) = tt
marking-places T (Some AnotherUnit) = tt
marking-places T (Some Unclear) = tt
marking-places T None = tt

sound-marking : (s : Scope) (m : Marking) (b : Option PBounds) → Sound s.types → HasPlaces s.types m → IsMade (subind_made s m b)
sound-marking s (ScalarMark m k) None h p = (h, p.0)
sound-marking s (ScalarMark m k) (Some b) h p = sound-range s.types k (static_in s k b.first) (static_in s k b.last) h p.1
sound-marking s (ArrayMark m r part) b h p = (h, tt)
sound-marking s (TaskMark entries) b h p = (h, tt)
sound-marking s NoMark b h p = (h, tt)
sound-marking s UnknownMark b h p = (h, tt)
sound-marking s UnclearMark b h p = (h, tt)

sound-subind : (s : Scope) (x : PSubind) → Sound s.types → IsMade (made_subind s x)
sound-subind s x h = sound-marking s (marking s x.mark.name) x.bounds h (marking-places s.types (meaning s x.mark.name))

sound-array : (name : Option NameId) (T : TypeTable) (r : Option Range) (part : Option ℕ) → Sound T → HasIf T part → IsMade (made_array name T r part)
sound-array name T (Some r) (Some part) s h = sound-made _ _ (sound-kind T _ s h) (Array r.kind r.first r.last part, last_at T.kinds _)
sound-array name T (Some r) None s h = (s, tt)
sound-array name T None part s h = (s, tt)

-- ---- objects

abbrev IsDeclared : Declared → Type 0
IsDeclared d = Sound d.types × HasIf d.types (constant_mark d.thing)

object-mark : (T : TypeTable) (constant : Bool) (m : Option ℕ) → HasIf T m → HasIf T (constant_mark (object_meaning constant m))
object-mark T true (Some m) h = h
object-mark T false (Some m) h = tt
object-mark T true None h = tt
object-mark T false None h = tt

sound-of_made : (constant : Bool) (d : Made) → IsMade d → IsDeclared (of_made constant d)
sound-of_made constant d h = (h.0, object-mark d.types constant d.mark h.1)

task-mark : (T : TypeTable) (main : Bool) (entries : List EntryPart) → HasIf T (constant_mark (task_object main entries))
task-mark T true entries = tt
task-mark T false entries = tt

row-mark : (T : TypeTable) (main : Bool) (r : Option Range) (entries : List EntryPart) → HasIf T (constant_mark (task_array main r entries))
row-mark T true (Some r) entries = tt
row-mark T true None entries = tt
row-mark T false (Some r) entries = tt
row-mark T false None entries = tt

sound-plain : (s : Scope) (constant : Bool) (m : Marking) (x : PSubind) → Sound s.types → HasPlaces s.types m → IsDeclared (plain_object s constant m x)
sound-plain s constant (TaskMark entries) x h p = (h, task-mark s.types s.in_main entries)
sound-plain s constant (ArrayMark m r part) x h p = (h, object-mark s.types constant (Some m) p)
sound-plain s constant (ScalarMark m k) x h p = sound-of_made constant _ (sound-subind s x h)
sound-plain s constant NoMark x h p = sound-of_made constant _ (sound-subind s x h)
sound-plain s constant UnknownMark x h p = sound-of_made constant _ (sound-subind s x h)
sound-plain s constant UnclearMark x h p = sound-of_made constant _ (sound-subind s x h)

sound-own : (s : Scope) (name : Option NameId) (index : PDrange) (x : PSubind) → Sound s.types → IsMade (made_array name (made_subind s x).types (drange_range s index) (made_subind s x).mark)
sound-own s name index x h =
    let k = sound-subind s x h in
    sound-array name (made_subind s x).types (drange_range s index) (made_subind s x).mark k.0 k.1

sound-row : (s : Scope) (constant : Bool) (m : Marking) (index : PDrange) (x : PSubind) → Sound s.types → IsDeclared (array_object s constant m index x)
sound-row s constant (TaskMark entries) index x h = (h, row-mark s.types s.in_main (drange_range s index) entries)
sound-row s constant (ArrayMark m r part) index x h = sound-of_made constant _ (sound-own s None index x h)
sound-row s constant (ScalarMark m k) index x h = sound-of_made constant _ (sound-own s None index x h)
sound-row s constant NoMark index x h = sound-of_made constant _ (sound-own s None index x h)
sound-row s constant UnknownMark index x h = sound-of_made constant _ (sound-own s None index x h)
sound-row s constant UnclearMark index x h = sound-of_made constant _ (sound-own s None index x h)

sound-shape : (s : Scope) (constant : Bool) (shape : PShape) → Sound s.types → IsDeclared (declared_object s constant shape)
sound-shape s constant (OPlain x) h = sound-plain s constant (marking s x.mark.name) x h (marking-places s.types (meaning s x.mark.name))
sound-shape s constant (OArray index x) h = sound-row s constant (marking s x.mark.name) index x h

sound-if : (b : Bool) (T U : TypeTable) → Sound T → Sound U → Sound (if b then U else T)
sound-if true T U h k = k
sound-if false T U h k = h

sound-named : (thing : Thing) (ws : List Word) (s : Scope) → Sound s.types → Sound (with_names thing s ws).types
sound-named thing ws s h = subst Sound (sym (names-types thing ws s)) h

sound-object : (s : Scope) (names : List Word) (constant : Bool) (shape : PShape) (init : Option PInit) → Sound s.types → Sound (after_object s names constant shape init).types
sound-object s names constant shape init h =
    let d = declared_object s constant shape in
    let k : IsDeclared d = sound-shape s constant shape h in
    sound-named d.thing names (with_types (with_constants s names init d) s)
    (sound-if s.in_main d.types _ k.0 (sound-constants d.types names (constant_mark d.thing) (constant_value s d.types (constant_mark d.thing) init) k.0 k.1))

sound-inner : (d : PDecl) (s : Scope) → Sound s.types → Sound (after_own_object s d).types
sound-inner (DObject names constant shape init sp) s h = sound-object s names constant shape init h
sound-inner (DNumber name x sp) s h = h
sound-inner (DEnumeration name literals sp) s h = h
sound-inner (DArray name index x sp) s h = h
sound-inner (DSubtype name x sp) s h = h
sound-inner (DException names sp) s h = h
sound-inner (DIntIo name sp) s h = h
sound-inner (DPragma x sp) s h = h
sound-inner (DTask t sp) s h = h
sound-inner (DTaskBody name objects its sp) s h = h

sound-objects : (ds : PDecls) (s : Scope) → Sound s.types → Sound (after_objects s ds).types
sound-objects no_decl s h = h
sound-objects (decl_then d rest) s h = sound-objects rest (after_own_object s d) (sound-inner d s h)

-- ---- declarations

renamed-mark : (w : Word) (T : TypeTable) (m : ℕ) (o : Option Mark) → mark_at T m ≡ o → Sound T →
    IsMade (renamed w T (option_map (λ x. record { kind = x.kind; first = x.first; last = x.last }) o))
renamed-mark w T m (Some x) e h = sound-made T _ h (place-all (λ (y : Mark). HasKind T y.kind) T.marks m x h.marks e)
renamed-mark w T m None e h = (h, tt)

sound-renamed : (w : Word) (T : TypeTable) (m : Option ℕ) → Sound T → IsMade (renamed w T (and_then (range_of_mark T) m))
sound-renamed w T (Some m) h = renamed-mark w T m (mark_at T m) refl h
sound-renamed w T None h = (h, tt)

pub sound-decl : (d : PDecl) (s : Scope) → Sound s.types → Sound (after_decl s d).types
sound-decl (DNumber name e sp) s h = sound-constants s.types (name ∷ []) (Some 0) (static_in s integer_kind e) h h.first
sound-decl (DObject names constant shape init sp) s h = sound-object s names constant shape init h
sound-decl (DEnumeration name literals sp) s h =
    sound-named _ literals (with_name _ (with_types _ s) name)
    (sound-made (add_kind s.types (Enumeration _)) _ (sound-kind s.types (Enumeration _) h tt) (Enumeration _, last_at s.types.kinds (Enumeration _))).0
sound-decl (DArray name index x sp) s h = (sound-own s (Some name.name) index x h).0
sound-decl (DSubtype name x sp) s h = (sound-renamed name (made_subind s x).types (made_subind s x).mark (sound-subind s x h).0).0
sound-decl (DException names sp) s h = sound-named _ names s h
sound-decl (DIntIo name sp) s h = h
sound-decl (DPragma e sp) s h = h
sound-decl (DTask t sp) s h = h
sound-decl (DTaskBody name objects its sp) s h = sound-objects objects (in_body s name) h

pub sound-decls : (ds : PDecls) (s : Scope) → Sound s.types → Sound (after_decls s ds).types
sound-decls no_decl s h = h
sound-decls (decl_then d rest) s h = sound-decls rest (after_decl s d) (sound-decl d s h)

pub sound-first : (name : Word) → Sound (first_scope name).types
sound-first name = record {
  constants = tt;
  marks = ((Integer, refl), ((Integer, refl), ((Integer, refl), ((Truth, refl), tt))));
  kinds = (tt, (tt, tt));
  first = (_, refl);
}
