-- Scopes of main whose names mean what the table says, and how a declaration keeps them so.
use Rattle.std.proofs.Common.{◌≡◌, ℕ, ℤ, Bool, true, false, ◌||◌, ◌==◌, if◌then◌else◌, List, [], ◌∷◌, ◌++◌, find, option_map, Some, ◌⊎◌, inl, inr, ⊎_elim, refl, sym, ap, ◌∙◌, subst, true≢false}
use Rattle.std.specs.List.{AllByRecursion, list_any}
use Rattle.std.proofs.lemmas.Option.{none-some}
use Rattle.ada_tree.specs.declared.naming.NameId.{NameId}
use Rattle.ada_tree.specs.declared.naming.Word.{Word}
use Rattle.ada_tree.specs.declared.static_types.Constant.{Constant}
use Rattle.ada_tree.specs.TypeTable.{TypeTable}
use Rattle.ada_static_rules.specs.Scope.{Scope, NameMeaning, truth_kind, Thing, TypeMark, TaskType, SingleTask, TaskObject, TaskArray, Variable, ConstantObject, Parameter, LoopParameter, Literal, AnException, MainProcedure, AnotherUnit, Unclear, meaning, kind_at, mark_at}
use Rattle.ada_static_rules.specs.StaticValue.{is_named, mark_named, constant_named}
use Rattle.ada_static_rules.specs.Declaring.{predefined_types, seen_as, with_name, with_names, constants_for}
use Rattle.ada_value.specs.declared.values.Value.{Value}
use Rattle.ada_value.specs.Values.{value_in, position_of}
use Rattle.ada_value.specs.Evaluating.{literal_value}
use Rattle.task_laws.specs.legal.rewritten_types.Agreement.{Grows, Sound, WholeTable}
use Rattle.task_laws.specs.legal.rewritten_types.Rewriting.{IsUnused}
use Rattle.task_laws.proofs.legal.rewritten_types.Lookups.{find-grown}
use Rattle.task_laws.proofs.legal.rewritten_types.Keeping.{keeps-self}
use Rattle.task_laws.proofs.legal.rewritten_types.Fresh.{InHere, other, meaning-used}
use Rattle.task_laws.proofs.legal.rewritten_types.Unmarked.{AreUnmarked}
use Rattle.task_laws.specs.legal.types.Typed.{IsSmall, HasLiteral}
use Rattle.task_laws.proofs.legal.types.ExprKinds.{LeadsOn, IsClearThing}
use Rattle.task_laws.proofs.legal.types.TypedValues.{IsOf, IsTyped, IsOver}
use Rattle.task_laws.proofs.legal.types.FirmTables.{IsFirm, typed-from, leads-grown, scalar-grown, scalar-has}
use Rattle.common_lemmas.proofs.Options.{some_same}

-- ---- what a declaration adds

-- what new names mean
abbrev pub News : Type 1
News = NameId → Thing → Type 0

-- The second scope has the names of the first and new ones. Its table has whatever the first one has; its constants and literals are those of the
-- first or are meant by their names.
pub record Adds (New : News) (s s' : Scope) : Type 0 where
  pub grows : Grows s.types s'.types
  pub kept : (id : NameId) (x : Thing) → meaning s id ≡ Some x → meaning s' id ≡ Some x
  pub told : (id : NameId) (x : Thing) → meaning s' id ≡ Some x → (meaning s id ≡ Some x) ⊎ New id x
  pub clear : (id : NameId) (x : Thing) → New id x → IsClearThing s'.types x
  pub marks : (id : NameId) (m : ℕ) → New id (TypeMark m) → mark_named s'.types id ≡ mark_at s'.types m
  pub constants : (id : NameId) (c : Constant) → constant_named s'.types id ≡ Some c → (constant_named s.types id ≡ Some c) ⊎ (meaning s' id ≡ Some (ConstantObject c.mark))
  pub literals : (id : NameId) (v : Value) → literal_value s'.types.kinds 0 id ≡ Some v → (literal_value s.types.kinds 0 id ≡ Some v) ⊎ ((k : ℕ) × (meaning s' id ≡ Some (Literal k)) × IsOf s'.types k v)

pub thing-grown : (T U : TypeTable) → Grows T U → (x : Thing) → IsClearThing T x → IsClearThing U x
thing-grown T U g (TypeMark m) h = leads-grown T U g m h
thing-grown T U g (Variable m) h = leads-grown T U g m h
thing-grown T U g (ConstantObject m) h = leads-grown T U g m h
thing-grown T U g (Parameter mode m) h = leads-grown T U g m h
thing-grown T U g (LoopParameter m) h = leads-grown T U g m h
thing-grown T U g (Literal k) h = scalar-grown T U g k h
thing-grown T U g (TaskType entries) h = tt
thing-grown T U g (SingleTask entries) h = tt
thing-grown T U g (TaskObject entries) h = tt
thing-grown T U g (TaskArray range entries) h = tt
thing-grown T U g AnException h = tt
thing-grown T U g MainProcedure h = tt
thing-grown T U g AnotherUnit h = tt
thing-grown T U g Unclear h = h

pub of-grown : (T U : TypeTable) → Grows T U → (k : ℕ) (v : Value) → IsOf T k v → IsOf U k v
of-grown T U g k v h =
    let has = scalar-has T k h.scalar in
    let same : kind_at U k ≡ kind_at T k = g.kind k has.0 has.1 ∙ sym has.1 in
    record {
      scalar = scalar-grown T U g k h.scalar;
      kind = h.kind;
      same = ap (λ o. value_in k o (position_of v)) same ∙ h.same;
      literal = subst (λ o. HasLiteral o (position_of v)) (sym same) h.literal;
    }

-- the second scope's names mean what its table says
pub over-adds : (New : News) (s s' : Scope) → Sound s'.types → Adds New s s' → IsOver s.types s → IsOver s'.types s'
over-adds New s s' sound adds over = record {
  keeps = keeps-self s'.types;
  clear = record {
    sound = sound;
    things = λ id x e. ⊎_elim (λ old. thing-grown s.types s'.types adds.grows x (over.clear.things id x old)) (λ new. adds.clear id x new) (adds.told id x e);
  };
  marks = λ id m e. ⊎_elim (λ old. old-mark id m old) (λ new. adds.marks id m new) (adds.told id (TypeMark m) e);
  constants = λ id c e. ⊎_elim (λ old. adds.kept id (ConstantObject c.mark) (over.constants id c old)) (λ new. new) (adds.constants id c e);
  literals = λ id v e. ⊎_elim
      (λ old. let h = over.literals id v old in (h.0, adds.kept id (Literal h.0) h.1, of-grown s.types s'.types adds.grows h.0 v h.2))
      (λ new. new)
      (adds.literals id v e);
  falses = λ id e. adds.kept id (Literal truth_kind) (over.falses id e);
  trues = λ id e. adds.kept id (Literal truth_kind) (over.trues id e);
}
  where
    old-mark : (id : NameId) (m : ℕ) → meaning s id ≡ Some (TypeMark m) → mark_named s'.types id ≡ mark_at s'.types m
    old-mark id m e =
        let h : LeadsOn s.types m = over.clear.things id (TypeMark m) e in
        find-grown (λ x. is_named id x.name) s.types.marks s'.types.marks adds.grows.mark h.mark (over.marks id m e ∙ h.there) ∙ sym (adds.grows.mark m h.mark h.there)

-- ---- new names

-- the name is one of these
abbrev pub IsIn : List Word → NameId → Type 0
IsIn ws id = list_any (λ (w : Word). w.name.0 == id.0) ws ≡ true

in-rest : (w : Word) (ws : List Word) (id : NameId) → (w.name.0 == id.0) ≡ false → IsIn (w ∷ ws) id → IsIn ws id
in-rest w ws id e h = ap (λ b. b || list_any (λ (x : Word). x.name.0 == id.0) ws) (sym e) ∙ h

in-first : (w : Word) (ws : List Word) (id : NameId) → (w.name.0 == id.0) ≡ true → IsIn (w ∷ ws) id
in-first w ws id e = ap (λ b. b || list_any (λ (x : Word). x.name.0 == id.0) ws) e

pub in-later : (w : Word) (ws : List Word) (id : NameId) → IsIn ws id → IsIn (w ∷ ws) id
in-later w ws id h = by_test (w.name.0 == id.0)
  where
    by_test : (b : Bool) → (b || list_any (λ (x : Word). x.name.0 == id.0) ws) ≡ true
    by_test true = refl
    by_test false = h

module _ (thing : Thing) where
  -- what a name means behind a new one
  name-told : (w : Word) (s : Scope) (id : NameId) (x : Thing) → meaning (with_name thing s w) id ≡ Some x → ((w.name.0 == id.0) ≡ true) × (x ≡ thing) ⊎ (meaning s id ≡ Some x)
  name-told w s id x e = by_test (w.name.0 == id.0) refl e
    where
      by_test : (b : Bool) → (w.name.0 == id.0) ≡ b → option_map (λ (y : NameMeaning). y.thing) (if b then Some (seen_as thing w.name.0) else find (λ y. y.name == id.0) s.names) ≡ Some x →
          ((w.name.0 == id.0) ≡ true) × (x ≡ thing) ⊎ (meaning s id ≡ Some x)
      by_test true p f = inl (p, sym (some_same f))
      by_test false p f = inr f

  name-new : (w : Word) (s : Scope) (id : NameId) → (w.name.0 == id.0) ≡ true → meaning (with_name thing s w) id ≡ Some thing
  name-new w s id e = ap (λ b. option_map (λ (y : NameMeaning). y.thing) (if b then Some (seen_as thing w.name.0) else find (λ y. y.name == id.0) s.names)) e

  name-other : (w : Word) (s : Scope) (id : NameId) → (w.name.0 == id.0) ≡ false → meaning (with_name thing s w) id ≡ meaning s id
  name-other w s id e = ap (λ b. option_map (λ (y : NameMeaning). y.thing) (if b then Some (seen_as thing w.name.0) else find (λ y. y.name == id.0) s.names)) e

  pub names-told : (ws : List Word) (s : Scope) (id : NameId) (x : Thing) → meaning (with_names thing s ws) id ≡ Some x → (meaning s id ≡ Some x) ⊎ (IsIn ws id × (x ≡ thing))
  names-told [] s id x e = inl e
  names-told (w ∷ ws) s id x e =
      ⊎_elim
      (λ before. ⊎_elim (λ new. inr (in-first w ws id new.0, new.1)) (λ old. inl old) (name-told w s id x before))
      (λ later. inr (in-later w ws id later.0, later.1))
      (names-told ws (with_name thing s w) id x e)

  -- a name that means this goes on to mean it
  names-same : (ws : List Word) (s : Scope) (id : NameId) → meaning s id ≡ Some thing → meaning (with_names thing s ws) id ≡ Some thing
  names-same [] s id e = e
  names-same (w ∷ ws) s id e = names-same ws (with_name thing s w) id (by_test (w.name.0 == id.0) refl)
    where
      by_test : (b : Bool) → (w.name.0 == id.0) ≡ b → meaning (with_name thing s w) id ≡ Some thing
      by_test true p = name-new w s id p
      by_test false p = name-other w s id p ∙ e

  pub names-new : (ws : List Word) (s : Scope) (id : NameId) → IsIn ws id → meaning (with_names thing s ws) id ≡ Some thing
  names-new [] s id h = absurd (true≢false (sym h))
  names-new (w ∷ ws) s id h = by_test (w.name.0 == id.0) refl (names-new ws (with_name thing s w) id)
    where
      by_test : (b : Bool) → (w.name.0 == id.0) ≡ b → (IsIn ws id → meaning (with_names thing (with_name thing s w) ws) id ≡ Some thing) → meaning (with_names thing (with_name thing s w) ws) id ≡ Some thing
      by_test true p rest = names-same ws (with_name thing s w) id (name-new w s id p)
      by_test false p rest = rest (in-rest w ws id p h)

  pub names-kept : (ws : List Word) (s : Scope) (id : NameId) → AllByRecursion (λ (w : Word). (w.name.0 == id.0) ≡ false) ws → meaning (with_names thing s ws) id ≡ meaning s id
  names-kept [] s id h = refl
  names-kept (w ∷ ws) s id h = names-kept ws (with_name thing s w) id h.1 ∙ name-other w s id h.0

-- names that main has not declared before are none that means something
pub unused-apart : (s : Scope) → InHere s → (ws : List Word) → AllByRecursion (IsUnused s) ws → (id : NameId) (x : Thing) → meaning s id ≡ Some x → AllByRecursion (λ (w : Word). (w.name.0 == id.0) ≡ false) ws
unused-apart s here [] u id x e = tt
unused-apart s here (w ∷ ws) u id x e = (other s.here w.name.0 id.0 u.0.0 u.0.1 (meaning-used s id x here e), unused-apart s here ws u.1 id x e)

-- ---- constants

pub find-split : {A : Type 0} (p : A → Bool) (xs ys : List A) (z : A) → find p (xs ++ ys) ≡ Some z → (find p xs ≡ Some z) ⊎ (find p ys ≡ Some z)
find-split p [] ys z e = inr e
find-split p (x ∷ xs) ys z e = by_test (p x) e (find-split p xs ys z)
  where
    by_test : (b : Bool) → (if b then Some x else find p (xs ++ ys)) ≡ Some z → (find p (xs ++ ys) ≡ Some z → (find p xs ≡ Some z) ⊎ (find p ys ≡ Some z)) → ((if b then Some x else find p xs) ≡ Some z) ⊎ (find p ys ≡ Some z)
    by_test true f rest = inl f
    by_test false f rest = rest f

-- constants of these names have one mark
pub constants-told : (ws : List Word) (m : ℕ) (z : ℤ) (id : NameId) (c : Constant) → find (λ (d : Constant). d.name.0 == id.0) (constants_for ws m z) ≡ Some c → IsIn ws id × (c.mark ≡ m)
constants-told [] m z id c e = absurd (none-some c e)
constants-told (w ∷ ws) m z id c e = by_test (w.name.0 == id.0) refl e (constants-told ws m z id c)
  where
    by_test : (b : Bool) → (w.name.0 == id.0) ≡ b → (if b then Some record { name = w.name; mark = m; value = z } else find (λ (d : Constant). d.name.0 == id.0) (constants_for ws m z)) ≡ Some c →
        (find (λ (d : Constant). d.name.0 == id.0) (constants_for ws m z) ≡ Some c → IsIn ws id × (c.mark ≡ m)) → IsIn (w ∷ ws) id × (c.mark ≡ m)
    by_test true p f rest = (in-first w ws id p, ap (λ (d : Constant). d.mark) (sym (some_same f)))
    by_test false p f rest = let h = rest f in (in-later w ws id h.0, h.1)

-- ---- scopes of main

-- What can be used behind declarations of main: names that were not declared mean nothing, and those that were mean what the table says, which is firm.
pub record IsGood (s : Scope) : Type 0 where
  pub main : s.in_main ≡ true
  pub here : InHere s
  pub begins : Grows predefined_types s.types
  pub whole : WholeTable s.types
  pub root : Sound s.types
  pub firm : IsFirm s.types
  pub over : IsOver s.types s
  pub unmarked : AreUnmarked s

pub good-typed : (s : Scope) → IsGood s → IsSmall s.types → IsTyped s.types
good-typed s good small = typed-from s.types good.whole good.root good.firm small
