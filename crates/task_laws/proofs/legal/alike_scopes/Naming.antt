-- What keeps old names meaning the same: a name on both sides, or on one side alone, and tables that keep the tables.
use Rattle.std.proofs.Common.{◌≡◌, ℕ, Bool, true, false, ◌==◌, if◌then◌else◌, List, [], ◌∷◌, find, Option, Some, option_map, refl, sym, ap, ◌∙◌, subst}
use Rattle.std.specs.List.{AllByRecursion}
use Rattle.common_lemmas.proofs.Numbers.{equal_is}
use Rattle.common_lemmas.proofs.Truth.{clash}
use Rattle.ada_tree.specs.declared.naming.NameId.{NameId}
use Rattle.ada_tree.specs.declared.naming.Word.{Word}
use Rattle.ada_tree.specs.TypeTable.{TypeTable}
use Rattle.ada_static_rules.specs.Scope.{Scope, NameMeaning, Thing, meaning, entry_named}
use Rattle.ada_static_rules.specs.Declaring.{seen_as, with_name, with_names, with_types, inner_scope}
use Rattle.task_laws.specs.legal.rewritten_types.Agreement.{Keeps}
use Rattle.task_laws.specs.legal.rewritten_types.Rewriting.{IsNew}
use Rattle.task_laws.proofs.legal.rewritten_types.Keeping.{keeps-self}
use Rattle.task_laws.specs.legal.alike_scopes.Alike.{SameThing, SameNames, Alike}
use Rattle.task_laws.proofs.legal.alike_scopes.Marks.{thing-grown}
use Rattle.task_laws.proofs.legal.alike_scopes.Tables.{types-kept}

-- what is meant by the first of two names, by the test whether it is the one asked for
abbrev meant : Bool → Thing → ℕ → Option NameMeaning → Option Thing
meant b x k o = option_map (λ s. s.thing) (if b then Some (seen_as x k) else o)

-- what a name means hangs on its number alone
numbered : (s : Scope) (id : NameId) (k : ℕ) → k ≡ id.0 → meaning s record { 0 = k } ≡ meaning s id
numbered s id k e = ap (λ n. meaning s record { 0 = n }) e

module _ (old : ℕ → Bool) where
  -- ---- one name more

  -- on both sides
  pub name-both : (s t : Scope) (x y : Thing) (w : Word) → SameNames old s t → SameThing s.types t.types (Some x) (Some y) → SameNames old (with_name x s w) (with_name y t w)
  name-both s t x y w n h = record {
    types = n.types;
    things = λ id o. by_test (w.name.0 == id.0) (find (λ z. z.name == id.0) s.names) (find (λ z. z.name == id.0) t.names) (n.things id o);
  }
    where
      by_test : (b : Bool) (p q : Option NameMeaning) → SameThing s.types t.types (option_map (λ z. z.thing) p) (option_map (λ z. z.thing) q) →
          SameThing s.types t.types (meant b x w.name.0 p) (meant b y w.name.0 q)
      by_test true p q g = h
      by_test false p q g = g

  -- on the left alone, where the right side has the same for it already
  pub name-left : (s t : Scope) (x : Thing) (w : Word) → SameNames old s t → (old w.name.0 ≡ true → SameThing s.types t.types (Some x) (meaning t w.name)) → SameNames old (with_name x s w) t
  name-left s t x w n h = record { types = n.types; things = λ id o. by_test id o (w.name.0 == id.0) refl }
    where
      by_test : (id : NameId) → old id.0 ≡ true → (b : Bool) → (w.name.0 == id.0) ≡ b → SameThing s.types t.types (meant b x w.name.0 (find (λ z. z.name == id.0) s.names)) (meaning t id)
      by_test id o true e =
          let same : w.name.0 ≡ id.0 = equal_is w.name.0 id.0 e in
          subst (SameThing s.types t.types (Some x)) (numbered t id w.name.0 same) (h (ap old same ∙ o))
      by_test id o false e = n.things id o

  -- on the right alone, where the left side has the same for it already
  pub name-right : (s t : Scope) (y : Thing) (w : Word) → SameNames old s t → (old w.name.0 ≡ true → SameThing s.types t.types (meaning s w.name) (Some y)) → SameNames old s (with_name y t w)
  name-right s t y w n h = record { types = n.types; things = λ id o. by_test id o (w.name.0 == id.0) refl }
    where
      by_test : (id : NameId) → old id.0 ≡ true → (b : Bool) → (w.name.0 == id.0) ≡ b → SameThing s.types t.types (meaning s id) (meant b y w.name.0 (find (λ z. z.name == id.0) t.names))
      by_test id o true e =
          let same : w.name.0 ≡ id.0 = equal_is w.name.0 id.0 e in
          subst (λ a. SameThing s.types t.types a (Some y)) (numbered s id w.name.0 same) (h (ap old same ∙ o))
      by_test id o false e = n.things id o

  -- ---- several names

  pub names-both : (ws : List Word) (s t : Scope) (x y : Thing) → SameNames old s t → SameThing s.types t.types (Some x) (Some y) → SameNames old (with_names x s ws) (with_names y t ws)
  names-both [] s t x y n h = n
  names-both (w ∷ ws) s t x y n h = names-both ws (with_name x s w) (with_name y t w) x y (name-both s t x y w n h) h

  -- new names on the right alone
  pub names-new : (ws : List Word) (s t : Scope) (y : Thing) → SameNames old s t → AllByRecursion (IsNew old) ws → SameNames old s (with_names y t ws)
  names-new [] s t y n h = n
  names-new (w ∷ ws) s t y n h = names-new ws s (with_name y t w) y (name-right s t y w n (λ o. clash (sym h.0 ∙ o))) h.1

  -- ---- tables

  pub tables-kept : (s t : Scope) (T U : TypeTable) → SameNames old s t → Keeps old s.types T → Keeps old t.types U → SameNames old (with_types T s) (with_types U t)
  tables-kept s t T U n a b = record {
    types = types-kept old s.types t.types T U n.types a b;
    things = λ id o. thing-grown s.types T t.types U a.grows b.grows (meaning s id) (meaning t id) (n.things id o);
  }

  -- of one side alone
  pub table-right : (s t : Scope) (U : TypeTable) → SameNames old s t → Keeps old t.types U → SameNames old s (with_types U t)
  table-right s t U n b = tables-kept s t s.types U n (keeps-self s.types) b

  pub table-left : (s t : Scope) (T : TypeTable) → SameNames old s t → Keeps old s.types T → SameNames old (with_types T s) t
  table-left s t T n a = tables-kept s t T t.types n a (keeps-self t.types)

  -- ---- alike

  -- the same where other scopes have the names, the own entries and the place of two that are alike
  pub alike-on : (s t s' t' : Scope) → Alike old s t → SameNames old s' t' → s'.own ≡ s.own → t'.own ≡ t.own → s'.in_main ≡ s.in_main → t'.in_main ≡ t.in_main → Alike old s' t'
  alike-on s t s' t' a n e f g h = record {
    names = n;
    own = λ id o. ap (λ es. entry_named es id) e ∙ a.own id o ∙ sym (ap (λ es. entry_named es id) f);
    main = g ∙ a.main ∙ sym h;
  }

  pub inside-alike : (s t : Scope) → Alike old s t → Alike old (inner_scope s) (inner_scope t)
  inside-alike s t a = record { names = record { types = a.names.types; things = a.names.things }; own = a.own; main = a.main }
