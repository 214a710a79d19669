-- The names in the table of types of a program that is well placed are such as the source can hold.
use Rattle.std.proofs.Common.{ℕ, ◌<◌, ℤ, Bool, true, false, if◌then◌else◌, List, [], ◌∷◌, map, Option, Some, None, IfSome, sym, subst, arith}
use Rattle.std.specs.List.{AllByRecursion}
use Rattle.std.proofs.lemmas.List.Elements.{recursion_from_All}
use Rattle.ada_tree.specs.declared.naming.NameId.{NameId}
use Rattle.ada_tree.specs.declared.naming.Word.{Word}
use Rattle.ada_tree.specs.declared.static_types.Kind.TheVariants.{Enumeration}
use Rattle.ada_tree.specs.TypeTable.{TypeTable}
use Rattle.ada_tree.specs.PlainExpr.{PBounds, PSubind, PDrange}
use Rattle.ada_tree.specs.PlainDecl.{PShape, OPlain, OArray, PInit, PDecl, DNumber, DObject, DEnumeration, DArray, DSubtype, DException, DIntIo, DPragma, DTask, DTaskBody, PDecls, no_decl, decl_then}
use Rattle.ada_tree.specs.PlainProgram.{PProgram}
use Rattle.ada_static_rules.specs.Scope.{Scope, Range, Thing, Marking, ScalarMark, ArrayMark, TaskMark, NoMark, UnknownMark, UnclearMark, marking, integer_kind}
use Rattle.ada_static_rules.specs.ExprTypes.{static_in, range_between}
use Rattle.ada_static_rules.specs.Declaring.{first_scope, with_names, with_types, made_range, subind_made, made_subind, drange_range, made_array, renamed, array_object, plain_object, declared_object, add_constants, constant_mark, constant_value, with_constants, after_object, in_body, after_own_object, after_objects, after_decl, after_decls}
use Rattle.ada_static_rules.specs.Refusals.{types_in}
use Rattle.ada_tree.specs.Every.{EveryWord, EveryDecl, EveryDecls}
use Rattle.ada_tree.specs.WellPlaced.{well_placed}
use Rattle.task_laws.proofs.legal.rewritten_types.Adding.{names-types}
use Rattle.normal_laws.specs.structure.placed.Placeable.{IsName, HasNames, KindsHaveNames, MarksHaveNames}
use Rattle.common_lemmas.proofs.Lists.{all_joined}

module _ (names : List (List ℕ)) where
  -- the table's enumerations and marks have names
  abbrev pub IsNamed : TypeTable → Type 0
  IsNamed T = KindsHaveNames names T × MarksHaveNames names T

  named-range : (T : TypeTable) (r : Option Range) → IsNamed T → IsNamed (made_range T r).types
  named-range T (Some r) h = (h.0, all_joined (λ m. IfSome m.name (IsName names)) T.marks _ h.1 (tt, tt))
  named-range T None h = h

  named-between : (T : TypeTable) (k : ℕ) (a b : Option ℤ) → IsNamed T → IsNamed (made_range T (range_between k a b)).types
  named-between T k (Some a) (Some b) h = named-range T (Some (record { kind = k; first = a; last = b })) h
  named-between T k (Some a) None h = h
  named-between T k None b h = h

  named-marking : (s : Scope) (m : Marking) (b : Option PBounds) → IsNamed s.types → IsNamed (subind_made s m b).types
  named-marking s (ScalarMark m k) None h = h
  named-marking s (ScalarMark m k) (Some b) h = named-between s.types k (static_in s k b.first) (static_in s k b.last) h
  named-marking s (ArrayMark m r part) b h = h
  named-marking s (TaskMark entries) b h = h
  named-marking s NoMark b h = h
  named-marking s UnknownMark b h = h
  named-marking s UnclearMark b h = h

  named-subind : (s : Scope) (x : PSubind) → IsNamed s.types → IsNamed (made_subind s x).types
  named-subind s x h = named-marking s (marking s x.mark.name) x.bounds h

  named-array : (name : Option NameId) (T : TypeTable) (r : Option Range) (part : Option ℕ) → IfSome name (IsName names) → IsNamed T → IsNamed (made_array name T r part).types
  named-array name T (Some r) (Some part) n h = (all_joined (HasNames names) T.kinds _ h.0 (tt, tt), all_joined (λ m. IfSome m.name (IsName names)) T.marks _ h.1 (n, tt))
  named-array name T (Some r) None n h = h
  named-array name T None part n h = h

  -- ---- objects

  named-plain : (s : Scope) (constant : Bool) (m : Marking) (x : PSubind) → IsNamed s.types → IsNamed (plain_object s constant m x).types
  named-plain s constant (TaskMark entries) x h = h
  named-plain s constant (ArrayMark m r part) x h = h
  named-plain s constant (ScalarMark m k) x h = named-subind s x h
  named-plain s constant NoMark x h = named-subind s x h
  named-plain s constant UnknownMark x h = named-subind s x h
  named-plain s constant UnclearMark x h = named-subind s x h

  named-own : (s : Scope) (name : Option NameId) (index : PDrange) (x : PSubind) → IfSome name (IsName names) → IsNamed s.types → IsNamed (made_array name (made_subind s x).types (drange_range s index) (made_subind s x).mark).types
  named-own s name index x n h = named-array name (made_subind s x).types (drange_range s index) (made_subind s x).mark n (named-subind s x h)

  named-row : (s : Scope) (constant : Bool) (m : Marking) (index : PDrange) (x : PSubind) → IsNamed s.types → IsNamed (array_object s constant m index x).types
  named-row s constant (TaskMark entries) index x h = h
  named-row s constant (ArrayMark m r part) index x h = named-own s None index x tt h
  named-row s constant (ScalarMark m k) index x h = named-own s None index x tt h
  named-row s constant NoMark index x h = named-own s None index x tt h
  named-row s constant UnknownMark index x h = named-own s None index x tt h
  named-row s constant UnclearMark index x h = named-own s None index x tt h

  named-shape : (s : Scope) (constant : Bool) (shape : PShape) → IsNamed s.types → IsNamed (declared_object s constant shape).types
  named-shape s constant (OPlain x) h = named-plain s constant (marking s x.mark.name) x h
  named-shape s constant (OArray index x) h = named-row s constant (marking s x.mark.name) index x h

  named-constants : (T : TypeTable) (ws : List Word) (m : Option ℕ) (z : Option ℤ) → IsNamed T → IsNamed (add_constants ws m z T)
  named-constants T ws (Some m) (Some z) h = h
  named-constants T ws (Some m) None h = h
  named-constants T ws None z h = h

  named-if : (b : Bool) (T U : TypeTable) → IsNamed T → IsNamed U → IsNamed (if b then U else T)
  named-if true T U h k = k
  named-if false T U h k = h

  named-words : (thing : Thing) (ws : List Word) (s : Scope) → IsNamed s.types → IsNamed (with_names thing s ws).types
  named-words thing ws s h = subst IsNamed (sym (names-types thing ws s)) h

  named-object : (s : Scope) (ws : List Word) (constant : Bool) (shape : PShape) (init : Option PInit) → IsNamed s.types → IsNamed (after_object s ws constant shape init).types
  named-object s ws constant shape init h =
      let d = declared_object s constant shape in
      let k : IsNamed d.types = named-shape s constant shape h in
      named-words d.thing ws (with_types (with_constants s ws init d) s)
      (named-if s.in_main d.types _ k (named-constants d.types ws (constant_mark d.thing) (constant_value s d.types (constant_mark d.thing) init) k))

  named-inner : (d : PDecl) (s : Scope) → IsNamed s.types → IsNamed (after_own_object s d).types
  named-inner (DObject ws constant shape init sp) s h = named-object s ws constant shape init h
  named-inner (DNumber w e sp) s h = h
  named-inner (DEnumeration w ws sp) s h = h
  named-inner (DArray w q x sp) s h = h
  named-inner (DSubtype w x sp) s h = h
  named-inner (DException ws sp) s h = h
  named-inner (DIntIo w sp) s h = h
  named-inner (DPragma e sp) s h = h
  named-inner (DTask t sp) s h = h
  named-inner (DTaskBody w objects its sp) s h = h

  named-inners : (ds : PDecls) (s : Scope) → IsNamed s.types → IsNamed (after_objects s ds).types
  named-inners no_decl s h = h
  named-inners (decl_then d rest) s h = named-inners rest (after_own_object s d) (named-inner d s h)

  -- ---- declarations

  literals-named : (ws : List Word) → AllByRecursion (EveryWord (well_placed names)) ws → AllByRecursion (IsName names) (map (λ w. w.name) ws)
  literals-named [] h = tt
  literals-named (w ∷ ws) h = (h.0, literals-named ws h.1)

  named-renamed : (w : Word) (T : TypeTable) (r : Option Range) → IsName names w.name → IsNamed T → IsNamed (renamed w T r).types
  named-renamed w T (Some r) n h = (h.0, all_joined (λ m. IfSome m.name (IsName names)) T.marks _ h.1 (n, tt))
  named-renamed w T None n h = h

  named-decl : (d : PDecl) (s : Scope) → EveryDecl (well_placed names) d → IsNamed s.types → IsNamed (after_decl s d).types
  named-decl (DNumber w e sp) s p h = named-constants s.types (w ∷ []) (Some 0) (static_in s integer_kind e) h
  named-decl (DObject ws constant shape init sp) s p h = named-object s ws constant shape init h
  named-decl (DEnumeration w ws sp) s p h =
      named-words _ ws _ (
        all_joined (HasNames names) s.types.kinds (Enumeration (map (λ v. v.name) ws) ∷ []) h.0 (literals-named ws (recursion_from_All (EveryWord (well_placed names)) ws p.2.1), tt),
        all_joined (λ m. IfSome m.name (IsName names)) s.types.marks _ h.1 (p.1, tt),
      )
  named-decl (DArray w q x sp) s p h = named-own s (Some w.name) q x p.1 h
  named-decl (DSubtype w x sp) s p h = named-renamed w (made_subind s x).types _ p.1 (named-subind s x h)
  named-decl (DException ws sp) s p h = named-words _ ws s h
  named-decl (DIntIo w sp) s p h = h
  named-decl (DPragma e sp) s p h = h
  named-decl (DTask t sp) s p h = h
  named-decl (DTaskBody w objects its sp) s p h = named-inners objects (in_body s w) h

  named-decls : (ds : PDecls) (s : Scope) → EveryDecls (well_placed names) ds → IsNamed s.types → IsNamed (after_decls s ds).types
  named-decls no_decl s p h = h
  named-decls (decl_then d rest) s p h = named-decls rest (after_decl s d) p.1 (named-decl d s p.0 h)

  -- The table of a program has names throughout, where the first names are there.
  pub table-named : (p : PProgram) → EveryDecls (well_placed names) p.decls → ((k : ℕ) → k < 25 → IsName names (record { 0 = k })) → IsNamed (types_in p)
  table-named p h first =
      named-decls p.decls (first_scope p.name) h
      ((tt, (tt, tt)), (first 0 (omega arith), (first 1 (omega arith), (first 2 (omega arith), (first 3 (omega arith), tt)))))
