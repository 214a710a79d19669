-- Tables that say the same of old names: two that keep a sound one, one with itself, and two that keep such tables.
use Rattle.std.proofs.Common.{◌≡◌, ℕ, pos, Bool, true, ◌==◌, if◌then◌else◌, Option, Some, option_map, refl, sym, ap, ap₂, ◌∙◌}
use Rattle.ada_tree.specs.declared.naming.NameId.{NameId}
use Rattle.ada_tree.specs.declared.static_types.Constant.{Constant}
use Rattle.ada_tree.specs.TypeTable.{TypeTable}
use Rattle.ada_tree.specs.Attributes.{false_name, true_name}
use Rattle.ada_static_rules.specs.StaticValue.{constant_named, first_of_two, value_named}
use Rattle.task_laws.specs.legal.rewritten_types.Agreement.{Literal, literal_named, Keeps, WholeTable}
use Rattle.task_laws.proofs.legal.rewritten_types.Owning.{own-kept}
use Rattle.task_laws.specs.legal.alike_scopes.Alike.{SameTypes}
use Rattle.task_laws.specs.legal.alike_scopes.Laws.{RootedIsSame}
use Rattle.task_laws.proofs.legal.rewritten_types.Lookups.{position-among}

-- ---- values

-- the value of a name is told by its constant and its literal
value-told : (T U : TypeTable) (id : NameId) → constant_named T id ≡ constant_named U id → literal_named T id ≡ literal_named U id → value_named T id ≡ value_named U id
value-told T U id c l =
    ap₂
    (λ (x : Option Constant) (y : Option ℕ).
    if id.0 == false_name then Some (pos 0)
    else if id.0 == true_name then Some (pos 1)
    else first_of_two (option_map (λ z. z.value) x) (option_map (λ k. pos k) y))
    c
    (position-among T.kinds 0 id ∙ ap (option_map (λ (x : Literal). x.position)) l ∙ sym (position-among U.kinds 0 id))

module _ (old : ℕ → Bool) where
  pub value-kept : (T U : TypeTable) → Keeps old T U → (id : NameId) → old id.0 ≡ true → value_named U id ≡ value_named T id
  value-kept T U k id o = value-told U T id (k.constants id o) (k.literals id)

  -- ---- tables

  -- a table says the same of names as itself
  pub types-self : (T : TypeTable) → WholeTable T → SameTypes old T T
  types-self T w = record {
    values = λ id o. refl;
    marks = λ id o. refl;
    mark_kinds = λ id m o e. refl;
    kinds = λ k x e. e;
    first_marks = λ k h. let m = w.own k h in (m.0, m.1, m.1);
    integers = w.integers;
    truths = w.truths;
  }

  -- tables that keep two that say the same say the same
  pub types-kept : (T U T' U' : TypeTable) → SameTypes old T U → Keeps old T T' → Keeps old U U' → SameTypes old T' U'
  types-kept T U T' U' same a b = record {
    values = λ id o. value-kept T T' a id o ∙ same.values id o ∙ sym (value-kept U U' b id o);
    marks = λ id o. a.marks id o ∙ same.marks id o ∙ sym (b.marks id o);
    mark_kinds = λ id m o e. a.kinds m.kind ∙ same.mark_kinds id m o (sym (a.marks id o) ∙ e) ∙ sym (b.kinds m.kind);
    kinds = λ k x e. b.kinds k ∙ same.kinds k x (sym (a.kinds k) ∙ e);
    first_marks = λ k h. let m = same.first_marks k (h.0, sym (a.kinds k) ∙ h.1) in (m.0, own-kept T T' a.grows k m.0 m.1, own-kept U U' b.grows k m.0 m.2);
    integers = a.grows.kind 0 _ same.integers;
    truths = a.grows.kind 1 _ same.truths;
  }

pub rooted_is_same : RootedIsSame
rooted_is_same old root T U r = types-kept old root root T U (types-self old root r.whole) r.left r.right
