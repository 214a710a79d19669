-- A name that no declaration of main fixes is that of no constant and of no enumeration literal.
use Rattle.std.proofs.Common.{◌≡◌, ℕ, ◌≤◌, Bool, true, false, ◌||◌, ◌&&◌, ◌==◌, if◌then◌else◌, ℤ, pos, List, [], ◌∷◌, ◌++◌, map, position, Option, Some, None, option_map, refl, sym, ap, subst, ◌∙◌, true≢false, arith}
use Rattle.std.specs.List.{AllByRecursion}
use Rattle.std.proofs.lemmas.Bool.{ne_eqb, ltb-false}
use Rattle.std.proofs.lemmas.List.Quantifiers.{position-Some}
use Rattle.std.proofs.lemmas.List.Elements.{All-get_or, All-from_recursion}
use Rattle.ada_tree.specs.declared.naming.NameId.{NameId}
use Rattle.ada_tree.specs.declared.naming.Word.{Word}
use Rattle.ada_tree.specs.declared.static_types.Kind.{Kind}
use Rattle.ada_tree.specs.declared.static_types.Kind.TheVariants.{Integer, Truth, Enumeration, Array}
use Rattle.ada_tree.specs.declared.static_types.Mark.{Mark}
use Rattle.ada_tree.specs.declared.static_types.Constant.{Constant}
use Rattle.ada_tree.specs.TypeTable.{TypeTable}
use Rattle.ada_tree.specs.PlainExpr.{PBounds, PSubind, PDrange}
use Rattle.ada_tree.specs.PlainDecl.{PShape, OPlain, OArray, PInit, PDecl, DNumber, DObject, DEnumeration, DArray, DSubtype, DException, DIntIo, DPragma, DTask, DTaskBody, PDecls, no_decl, decl_then}
use Rattle.ada_tree.specs.PlainProgram.{PProgram}
use Rattle.ada_static_rules.specs.Refusals.{MeetsTypeRules, types_in}
use Rattle.ada_static_rules.specs.StaticValue.{constant_named, literal_position, first_of_two, value_named}
use Rattle.ada_static_rules.specs.Scope.{Scope, Range, Thing, EntryPart, Marking, ScalarMark, ArrayMark, TaskMark, NoMark, UnknownMark, UnclearMark, marking, and_then, range_of_mark}
use Rattle.ada_static_rules.specs.Demand.{Demand, declares, Site}
use Rattle.ada_static_rules.specs.Sites.{names_sites, decl_sites, decls_sites, is_task_object, body_sites, sites, shape_sites, init_sites, object_marking, if_there}
use Rattle.ada_static_rules.specs.ExprTypes.{static_in, static_range}
use Rattle.ada_static_rules.specs.RuleDuplicate.{is_predefined}
use Rattle.ada_static_rules.specs.Declaring.{first_scope, inner_scope, with_name, with_names, with_types, add_mark, add_kind, made, made_range, subind_made, made_subind, drange_range, made_array, renamed, object_meaning, task_object, task_array, plain_object, array_object, declared_object, constants_for, add_constants, constant_mark, constant_value, with_constants, in_body, after_own_object, after_objects, after_decl, after_decls}
use Rattle.task_laws.proofs.legal.rewritten_types.Adding.{names-types}
use Rattle.normal_laws.specs.existence.units.Laws.{IsFreeLocal}
use Rattle.normal_laws.proofs.existence.units.Fixing.{AllDiffer, IsApart, locals-apart}
use Rattle.common_lemmas.proofs.Lists.{all_back, all_front, all_joined, all_weaker, found_none}

module _ (n : ℕ) where
  -- the kind has no literal of the name
  abbrev KindLacks : Kind → Type 0
  KindLacks (Enumeration ids) = AllByRecursion (λ (id : NameId). (id.0 == n) ≡ false) ids
  KindLacks _ = Unit {0}

  -- the table has no constant and no literal of the name
  pub record Lacks (T : TypeTable) : Type 0 where
    pub constants : AllByRecursion (λ (c : Constant). (c.name.0 == n) ≡ false) T.constants
    pub kinds : AllByRecursion KindLacks T.kinds

  abbrev WordsDiffer : List Word → Type 0
  WordsDiffer ws = AllByRecursion (λ (w : Word). (w.name.0 == n) ≡ false) ws

  -- ---- tables that grow

  marked : (T : TypeTable) (m : Mark) → Lacks T → Lacks (add_mark T m)
  marked T m h = record { constants = h.constants; kinds = h.kinds }

  arrayed : (T : TypeTable) (k : ℕ) (a b : ℤ) (part : ℕ) (m : Mark) → Lacks T → Lacks (made (add_kind T (Array k a b part)) m).types
  arrayed T k a b part m h = record { constants = h.constants; kinds = all_joined KindLacks T.kinds (Array k a b part ∷ []) h.kinds (tt, tt) }

  range-lacks : (T : TypeTable) (o : Option Range) → Lacks T → Lacks (made_range T o).types
  range-lacks T (Some r) h = marked T _ h
  range-lacks T None h = h

  subind-lacks : (s : Scope) (m : Marking) (b : Option PBounds) → Lacks s.types → Lacks (subind_made s m b).types
  subind-lacks s (ScalarMark m k) None h = h
  subind-lacks s (ScalarMark m k) (Some b) h = range-lacks s.types (static_range s k b) h
  subind-lacks s (ArrayMark m r p) b h = h
  subind-lacks s (TaskMark es) b h = h
  subind-lacks s NoMark b h = h
  subind-lacks s UnknownMark b h = h
  subind-lacks s UnclearMark b h = h

  array-lacks : (name : Option NameId) (T : TypeTable) (o : Option Range) (part : Option ℕ) → Lacks T → Lacks (made_array name T o part).types
  array-lacks name T (Some r) (Some part) h = arrayed T r.kind r.first r.last part _ h
  array-lacks name T (Some r) None h = h
  array-lacks name T None (Some part) h = h
  array-lacks name T None None h = h

  renamed-lacks : (w : Word) (T : TypeTable) (o : Option Range) → Lacks T → Lacks (renamed w T o).types
  renamed-lacks w T (Some r) h = marked T _ h
  renamed-lacks w T None h = h

  constants-differ : (ws : List Word) (m : ℕ) (z : ℤ) → WordsDiffer ws → AllByRecursion (λ (c : Constant). (c.name.0 == n) ≡ false) (constants_for ws m z)
  constants-differ [] m z h = tt
  constants-differ (w ∷ ws) m z h = (h.0, constants-differ ws m z h.1)

  constants-lack : (ws : List Word) (m : Option ℕ) (z : Option ℤ) (T : TypeTable) → WordsDiffer ws → Lacks T → Lacks (add_constants ws m z T)
  constants-lack ws (Some m) (Some z) T d h = record { constants = all_joined (λ (c : Constant). (c.name.0 == n) ≡ false) T.constants (constants_for ws m z) h.constants (constants-differ ws m z d); kinds = h.kinds }
  constants-lack ws (Some m) None T d h = h
  constants-lack ws None (Some z) T d h = h
  constants-lack ws None None T d h = h

  -- ---- objects

  plain-lacks : (s : Scope) (constant : Bool) (m : Marking) (x : PSubind) → Lacks s.types → Lacks (plain_object s constant m x).types
  plain-lacks s constant (TaskMark es) x h = h
  plain-lacks s constant (ArrayMark m r p) x h = h
  plain-lacks s constant (ScalarMark m k) x h = subind-lacks s (marking s x.mark.name) x.bounds h
  plain-lacks s constant NoMark x h = subind-lacks s (marking s x.mark.name) x.bounds h
  plain-lacks s constant UnknownMark x h = subind-lacks s (marking s x.mark.name) x.bounds h
  plain-lacks s constant UnclearMark x h = subind-lacks s (marking s x.mark.name) x.bounds h

  row-lacks : (s : Scope) (constant : Bool) (m : Marking) (index : PDrange) (x : PSubind) → Lacks s.types → Lacks (array_object s constant m index x).types
  row-lacks s constant (TaskMark es) index x h = h
  row-lacks s constant (ArrayMark m r p) index x h = array-lacks None _ (drange_range s index) (made_subind s x).mark (subind-lacks s (marking s x.mark.name) x.bounds h)
  row-lacks s constant (ScalarMark m k) index x h = array-lacks None _ (drange_range s index) (made_subind s x).mark (subind-lacks s (marking s x.mark.name) x.bounds h)
  row-lacks s constant NoMark index x h = array-lacks None _ (drange_range s index) (made_subind s x).mark (subind-lacks s (marking s x.mark.name) x.bounds h)
  row-lacks s constant UnknownMark index x h = array-lacks None _ (drange_range s index) (made_subind s x).mark (subind-lacks s (marking s x.mark.name) x.bounds h)
  row-lacks s constant UnclearMark index x h = array-lacks None _ (drange_range s index) (made_subind s x).mark (subind-lacks s (marking s x.mark.name) x.bounds h)

  pub declared-lacks : (s : Scope) (constant : Bool) (x : PShape) → Lacks s.types → Lacks (declared_object s constant x).types
  declared-lacks s constant (OPlain x) h = plain-lacks s constant (marking s x.mark.name) x h
  declared-lacks s constant (OArray index x) h = row-lacks s constant (marking s x.mark.name) index x h

  -- a variable is no constant
  no-constant : (o : Option ℕ) → constant_mark (object_meaning false o) ≡ None
  no-constant (Some m) = refl
  no-constant None = refl

  pub no-task : (in_main : Bool) (es : List EntryPart) → constant_mark (task_object in_main es) ≡ None
  no-task true es = refl
  no-task false es = refl

  pub no-row : (in_main : Bool) (o : Option Range) (es : List EntryPart) → constant_mark (task_array in_main o es) ≡ None
  no-row true (Some r) es = refl
  no-row true None es = refl
  no-row false (Some r) es = refl
  no-row false None es = refl

  plain-variable : (s : Scope) (m : Marking) (x : PSubind) → constant_mark (plain_object s false m x).thing ≡ None
  plain-variable s (TaskMark es) x = no-task s.in_main es
  plain-variable s (ArrayMark m r p) x = refl
  plain-variable s (ScalarMark m k) x = no-constant _
  plain-variable s NoMark x = no-constant _
  plain-variable s UnknownMark x = no-constant _
  plain-variable s UnclearMark x = no-constant _

  row-variable : (s : Scope) (m : Marking) (index : PDrange) (x : PSubind) → constant_mark (array_object s false m index x).thing ≡ None
  row-variable s (TaskMark es) index x = no-row s.in_main _ es
  row-variable s (ArrayMark m r p) index x = no-constant _
  row-variable s (ScalarMark m k) index x = no-constant _
  row-variable s NoMark index x = no-constant _
  row-variable s UnknownMark index x = no-constant _
  row-variable s UnclearMark index x = no-constant _

  is-variable : (s : Scope) (x : PShape) → constant_mark (declared_object s false x).thing ≡ None
  is-variable s (OPlain x) = plain-variable s (marking s x.mark.name) x
  is-variable s (OArray index x) = row-variable s (marking s x.mark.name) index x

  -- ---- declarations

  fixed-words : (fixed : Bool) (s : Scope) (ws : List Word) → fixed ≡ true → AllDiffer n (names_sites fixed s ws) → WordsDiffer ws
  fixed-words false s ws e h = absurd (subst IsFalse e tt)
    where
      IsFalse : Bool → Type 0
      IsFalse false = Unit {0}
      IsFalse true = ⊥
  fixed-words true s [] e h = tt
  fixed-words true s (w ∷ ws) e h = (h.0, fixed-words true (record s { here = w.name.0 ∷ s.here }) ws e h.1)

  object-lacks : (s : Scope) (ws : List Word) (constant : Bool) (x : PShape) (i : Option PInit) → s.in_main ≡ true →
      AllDiffer n (names_sites (s.in_main && (constant || is_task_object (declared_object s constant x).thing)) s ws) → Lacks s.types → Lacks (with_constants s ws i (declared_object s constant x))
  object-lacks s ws false x i main d h = by_main s.in_main
    where
      by_main : (b : Bool) → Lacks (if b then add_constants ws (constant_mark (declared_object s false x).thing) (constant_value s (declared_object s false x).types (constant_mark (declared_object s false x).thing) i) (declared_object s false x).types else (declared_object s false x).types)
      by_main false = declared-lacks s false x h
      by_main true = subst (λ (m : Option ℕ). Lacks (add_constants ws m (constant_value s (declared_object s false x).types (constant_mark (declared_object s false x).thing) i) (declared_object s false x).types)) (sym (is-variable s x)) (declared-lacks s false x h)
  object-lacks s ws true x i main d h = by_main s.in_main
    where
      by_main : (b : Bool) → Lacks (if b then add_constants ws (constant_mark (declared_object s true x).thing) (constant_value s (declared_object s true x).types (constant_mark (declared_object s true x).thing) i) (declared_object s true x).types else (declared_object s true x).types)
      by_main false = declared-lacks s true x h
      by_main true = constants-lack ws _ _ _ (fixed-words (s.in_main && true) s ws (ap (λ (b : Bool). b && true) main) d) (declared-lacks s true x h)

  -- the objects of a body leave constants and literals as they are
  inner-lacks : (d : PDecl) (s : Scope) → s.in_main ≡ false → Lacks s.types → Lacks (after_own_object s d).types
  inner-lacks (DObject ws k x i sp) s main h =
      subst Lacks (sym (names-types _ ws (with_types (with_constants s ws i (declared_object s k x)) s))) (by_main s.in_main main)
    where
      by_main : (b : Bool) → b ≡ false → Lacks (if b then add_constants ws (constant_mark (declared_object s k x).thing) (constant_value s (declared_object s k x).types (constant_mark (declared_object s k x).thing) i) (declared_object s k x).types else (declared_object s k x).types)
      by_main false e = declared-lacks s k x h
      by_main true e = absurd (subst IsTrue e tt)
        where
          IsTrue : Bool → Type 0
          IsTrue true = Unit {0}
          IsTrue false = ⊥
  inner-lacks (DNumber w e sp) s main h = h
  inner-lacks (DEnumeration w ws sp) s main h = h
  inner-lacks (DArray w i x sp) s main h = h
  inner-lacks (DSubtype w x sp) s main h = h
  inner-lacks (DException ws sp) s main h = h
  inner-lacks (DIntIo w sp) s main h = h
  inner-lacks (DPragma e sp) s main h = h
  inner-lacks (DTask t sp) s main h = h
  inner-lacks (DTaskBody w ds b sp) s main h = h

  -- ---- all declarations of main

  names-main : (thing : Thing) (ws : List Word) (s : Scope) → (with_names thing s ws).in_main ≡ s.in_main
  names-main thing [] s = refl
  names-main thing (w ∷ ws) s = names-main thing ws (with_name thing s w)

  pub own-main : (d : PDecl) (s : Scope) → (after_own_object s d).in_main ≡ s.in_main
  own-main (DObject ws k x i sp) s = names-main _ ws _
  own-main (DNumber w e sp) s = refl
  own-main (DEnumeration w ws sp) s = refl
  own-main (DArray w i x sp) s = refl
  own-main (DSubtype w x sp) s = refl
  own-main (DException ws sp) s = refl
  own-main (DIntIo w sp) s = refl
  own-main (DPragma e sp) s = refl
  own-main (DTask t sp) s = refl
  own-main (DTaskBody w ds b sp) s = refl

  objects-lack : (ds : PDecls) (s : Scope) → s.in_main ≡ false → Lacks s.types → Lacks (after_objects s ds).types
  objects-lack no_decl s e h = h
  objects-lack (decl_then d rest) s e h = objects-lack rest (after_own_object s d) (own-main d s ∙ e) (inner-lacks d s e h)

  pub decl-main : (d : PDecl) (s : Scope) → (after_decl s d).in_main ≡ s.in_main
  decl-main (DObject ws k x i sp) s = names-main _ ws _
  decl-main (DEnumeration w ws sp) s = names-main _ ws _
  decl-main (DException ws sp) s = names-main _ ws _
  decl-main (DNumber w e sp) s = refl
  decl-main (DArray w i x sp) s = refl
  decl-main (DSubtype w x sp) s = refl
  decl-main (DIntIo w sp) s = refl
  decl-main (DPragma e sp) s = refl
  decl-main (DTask t sp) s = refl
  decl-main (DTaskBody w ds b sp) s = refl

  literals-lack : (ws : List Word) → WordsDiffer ws → AllByRecursion (λ (id : NameId). (id.0 == n) ≡ false) (map (λ (w : Word). w.name) ws)
  literals-lack [] h = tt
  literals-lack (w ∷ ws) h = (h.0, literals-lack ws h.1)

  pub decl-lacks : (d : PDecl) (s : Scope) → s.in_main ≡ true → AllDiffer n (decl_sites s d) → Lacks s.types → Lacks (after_decl s d).types
  decl-lacks (DNumber w e sp) s main d h = constants-lack (w ∷ []) (Some 0) (static_in s 0 e) s.types (d.0, tt) h
  decl-lacks (DObject ws k x i sp) s main d h =
      let one = names_sites (s.in_main && (k || is_task_object (declared_object s k x).thing)) s ws in
      let three = if_there (init_sites s (declared_object s k x).types (object_marking (declared_object s k x))) i in
      subst Lacks (sym (names-types _ ws (with_types (with_constants s ws i (declared_object s k x)) s)))
      (object-lacks s ws k x i main (all_front _ one (shape_sites s k x i) (all_front _ (one ++ shape_sites s k x i) three d)) h)
  decl-lacks (DEnumeration w ws sp) s main d h =
      subst Lacks (sym (names-types _ ws _))
      record { constants = h.constants; kinds = all_joined KindLacks s.types.kinds _ h.kinds (literals-lack ws (fixed-words true (record s { here = w.name.0 ∷ s.here }) ws refl d.1), tt) }
  decl-lacks (DArray w i x sp) s main d h = array-lacks (Some w.name) _ (drange_range s i) (made_subind s x).mark (subind-lacks s (marking s x.mark.name) x.bounds h)
  decl-lacks (DSubtype w x sp) s main d h = renamed-lacks w _ (and_then (range_of_mark (made_subind s x).types) (made_subind s x).mark) (subind-lacks s (marking s x.mark.name) x.bounds h)
  decl-lacks (DException ws sp) s main d h = subst Lacks (sym (names-types _ ws s)) h
  decl-lacks (DIntIo w sp) s main d h = h
  decl-lacks (DPragma e sp) s main d h = h
  decl-lacks (DTask t sp) s main d h = h
  decl-lacks (DTaskBody w ds b sp) s main d h = objects-lack ds (in_body s w) refl h

  pub decls-lack : (ds : PDecls) (s : Scope) → s.in_main ≡ true → AllDiffer n (decls_sites s ds) → Lacks s.types → Lacks (after_decls s ds).types
  decls-lack no_decl s main d h = h
  decls-lack (decl_then x rest) s main d h =
      decls-lack rest (after_decl s x) (decl-main x s ∙ main) (all_back _ (decl_sites s x) (decls_sites (after_decl s x) rest) d) (decl-lacks x s main (all_front _ (decl_sites s x) (decls_sites (after_decl s x) rest) d) h)

  pub first-lacks : (w : Word) → Lacks (first_scope w).types
  first-lacks w = record { constants = tt; kinds = (tt, (tt, tt)) }

-- ---- a name that is lacking has no value

position-none : {A : Type 0} (p : A → Bool) (xs : List A) (d : A) → AllByRecursion (λ x. p x ≡ false) xs → position p xs ≡ None
position-none p xs d h = by_place (position p xs) refl
  where
    by_place : (o : Option ℕ) → position p xs ≡ o → o ≡ None
    by_place None e = refl
    by_place (Some i) e =
        let f = position-Some p xs i d e in
        absurd (true≢false (sym f.1 ∙ All-get_or (λ x. p x ≡ false) xs i d f.0 (All-from_recursion (λ x. p x ≡ false) xs h)))

literal-none : (kinds : List Kind) (id : NameId) → AllByRecursion (KindLacks id.0) kinds → literal_position kinds id ≡ None
literal-none [] id h = refl
literal-none (Integer ∷ rest) id h = literal-none rest id h.1
literal-none (Truth ∷ rest) id h = literal-none rest id h.1
literal-none (Array k a b part ∷ rest) id h = literal-none rest id h.1
literal-none (Enumeration ids ∷ rest) id h =
    ap (λ o. first_of_two o (literal_position rest id)) (position-none (λ (x : NameId). x.0 == id.0) ids record { 0 = 0 } h.0) ∙ literal-none rest id h.1

pub lacks-value : (T : TypeTable) (id : NameId) → is_predefined id.0 ≡ false → Lacks id.0 T → value_named T id ≡ None
lacks-value T id e h =
    let above : 18 ≤ id.0 = ltb-false id.0 18 e in
    ap (λ b. if b then Some (pos 0) else if id.0 == 5 then Some (pos 1) else first_of_two (option_map (λ (c : Constant). c.value) (constant_named T id)) (option_map (λ k. pos k) (literal_position T.kinds id))) (ne_eqb id.0 4 (λ q. omega (arith, q, above)))
    ∙ ap (λ b. if b then Some (pos 1) else first_of_two (option_map (λ (c : Constant). c.value) (constant_named T id)) (option_map (λ k. pos k) (literal_position T.kinds id))) (ne_eqb id.0 5 (λ q. omega (arith, q, above)))
    ∙ ap (λ o. first_of_two (option_map (λ (c : Constant). c.value) o) (option_map (λ k. pos k) (literal_position T.kinds id))) (found_none (λ (c : Constant). c.name.0 == id.0) T.constants h.constants)
    ∙ ap (λ o. first_of_two None (option_map (λ k. pos k) o)) (literal-none T.kinds id h.kinds)

-- ---- names that are declared and not fixed

local-free : (p : PProgram) (d : Demand) → IsApart [] (sites p) d → IsFreeLocal (types_in p) d
local-free p (declares false w) h =
    let s = first_scope p.name in
    lacks-value (types_in p) w.name h.0
    (decls-lack w.name.0 p.decls s refl (all_front _ (decls_sites s p.decls) (body_sites (inner_scope (after_decls s p.decls)) p.body) h.1.1.1) (first-lacks w.name.0 p.name))
local-free p _ h = tt

-- What is declared as a name that is not fixed is the name of no constant and of no literal.
pub locals-free : (p : PProgram) → MeetsTypeRules p → AllByRecursion (λ (x : Site). IsFreeLocal (types_in p) x.demand) (sites p)
locals-free p e = all_weaker _ _ (sites p) (λ x h. local-free p x.demand h) (locals-apart p e)
