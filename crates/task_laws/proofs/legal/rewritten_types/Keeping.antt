-- A table keeps itself, and keeps what it had where a mark without an old name, the kind of an array or constants without old names come behind it.
use Rattle.std.proofs.Common.{◌≡◌, ℕ, ℤ, zero, suc, Bool, true, false, ◌==◌, if◌then◌else◌, List, [], ◌∷◌, ◌++◌, find, slice_get, Option, Some, None, refl, sym, ap, ◌∙◌, true≢false, eqb-true}
use Rattle.std.specs.List.{AllByRecursion}
use Rattle.ada_tree.specs.declared.naming.NameId.{NameId}
use Rattle.ada_tree.specs.declared.naming.Word.{Word}
use Rattle.ada_tree.specs.declared.static_types.Kind.{Kind}
use Rattle.ada_tree.specs.declared.static_types.Kind.TheVariants.{Array}
use Rattle.ada_tree.specs.declared.static_types.Mark.{Mark}
use Rattle.ada_tree.specs.declared.static_types.Constant.{Constant}
use Rattle.ada_tree.specs.TypeTable.{TypeTable}
use Rattle.ada_static_rules.specs.StaticValue.{is_named, first_of_two}
use Rattle.ada_static_rules.specs.Declaring.{add_mark, add_kind, constants_for}
use Rattle.task_laws.specs.legal.rewritten_types.Agreement.{scalar_only, literal_among, Grows, Keeps}
use Rattle.task_laws.specs.legal.rewritten_types.Rewriting.{IsNew}
use Rattle.task_laws.proofs.legal.rewritten_types.Lookups.{place-more, find-more}

pub grows-self : (T : TypeTable) → Grows T T
grows-self T = record { kind = λ k x e. e; mark = λ m x e. e }

pub grows-on : {T U V : TypeTable} → Grows T U → Grows U V → Grows T V
grows-on a b = record { kind = λ k x e. b.kind k x (a.kind k x e); mark = λ m x e. b.mark m x (a.mark m x e) }

pub grows-mark : (T : TypeTable) (m : Mark) → Grows T (add_mark T m)
grows-mark T m = record { kind = λ k x e. e; mark = λ k x e. place-more T.marks (m ∷ []) k x e }

pub grows-kind : (T : TypeTable) (x : Kind) → Grows T (add_kind T x)
grows-kind T x = record { kind = λ k y e. place-more T.kinds (x ∷ []) k y e; mark = λ k y e. e }

-- two numbers of which one is old and one is not
pub apart : (old : ℕ → Bool) (a b : ℕ) → old a ≡ false → old b ≡ true → (a == b) ≡ false
apart old a b n o = by_test (a == b) refl
  where
    by_test : (t : Bool) → (a == b) ≡ t → t ≡ false
    by_test false e = refl
    by_test true e = absurd (true≢false (sym o ∙ (ap old (sym (eqb-true a b e)) ∙ n)))

-- no old name is that of a mark
abbrev pub IsNoOldName : (ℕ → Bool) → Option NameId → Type 0
IsNoOldName old name = (id : NameId) → old id.0 ≡ true → is_named id name ≡ false

-- the kind of an array behind others has no literal
literal-more : (ks : List Kind) (n index : ℕ) (first last : ℤ) (part : ℕ) (id : NameId) →
    literal_among (ks ++ Array index first last part ∷ []) n id ≡ literal_among ks n id
literal-more [] n index first last part id = refl
literal-more (k ∷ ks) n index first last part id = ap (first_of_two _) (literal-more ks (suc n) index first last part id)

-- and is no kind of values
kind-more : (ks : List Kind) (index : ℕ) (first last : ℤ) (part : ℕ) (k : ℕ) →
    scalar_only (slice_get (ks ++ Array index first last part ∷ []) k) ≡ scalar_only (slice_get ks k)
kind-more [] index first last part zero = refl
kind-more [] index first last part (suc k) = refl
kind-more (x ∷ ks) index first last part zero = refl
kind-more (x ∷ ks) index first last part (suc k) = kind-more ks index first last part k

pub unnamed : (old : ℕ → Bool) → IsNoOldName old None
unnamed old id o = refl

pub newly_named : (old : ℕ → Bool) (w : Word) → IsNew old w → IsNoOldName old (Some w.name)
newly_named old w n id o = apart old w.name.0 id.0 n o

-- no constant of a new name is one of an old name
none-found : (old : ℕ → Bool) (names : List Word) (m : ℕ) (z : ℤ) (id : NameId) → AllByRecursion (IsNew old) names → old id.0 ≡ true →
    find (λ c. c.name.0 == id.0) (constants_for names m z) ≡ None
none-found old [] m z id n o = refl
none-found old (w ∷ ws) m z id n o =
    ap (λ t. if t then Some record { name = w.name; mark = m; value = z } else find (λ (c : Constant). c.name.0 == id.0) (constants_for ws m z)) (apart old w.name.0 id.0 n.0 o)
    ∙ none-found old ws m z id n.1 o

module _ {old : ℕ → Bool} where
  pub keeps-self : (T : TypeTable) → Keeps old T T
  keeps-self T = record { grows = grows-self T; marks = λ id o. refl; constants = λ id o. refl; literals = λ id. refl; kinds = λ k. refl }

  pub keeps-on : {T U V : TypeTable} → Keeps old T U → Keeps old U V → Keeps old T V
  keeps-on a b = record {
    grows = grows-on a.grows b.grows;
    marks = λ id o. b.marks id o ∙ a.marks id o;
    constants = λ id o. b.constants id o ∙ a.constants id o;
    literals = λ id. b.literals id ∙ a.literals id;
    kinds = λ k. b.kinds k ∙ a.kinds k;
  }

  pub keeps-mark : (T : TypeTable) (m : Mark) → IsNoOldName old m.name → Keeps old T (add_mark T m)
  keeps-mark T m n = record {
    grows = grows-mark T m;
    marks = λ id o. find-more (λ x. is_named id x.name) T.marks (m ∷ []) (ap (λ t. if t then Some m else None) (n id o));
    constants = λ id o. refl;
    literals = λ id. refl;
    kinds = λ k. refl;
  }

  pub keeps-array_kind : (T : TypeTable) (index : ℕ) (first last : ℤ) (part : ℕ) → Keeps old T (add_kind T (Array index first last part))
  keeps-array_kind T index first last part = record {
    grows = grows-kind T (Array index first last part);
    marks = λ id o. refl;
    constants = λ id o. refl;
    literals = λ id. literal-more T.kinds 0 index first last part id;
    kinds = λ k. kind-more T.kinds index first last part k;
  }

  pub keeps-constants : (T : TypeTable) (names : List Word) (m : ℕ) (z : ℤ) → AllByRecursion (IsNew old) names →
      Keeps old T (record T { constants = T.constants ++ constants_for names m z })
  keeps-constants T names m z n = record {
    grows = record { kind = λ k x e. e; mark = λ k x e. e };
    marks = λ id o. refl;
    constants = λ id o. find-more (λ c. c.name.0 == id.0) T.constants (constants_for names m z) (none-found old names m z id n o);
    literals = λ id. refl;
    kinds = λ k. refl;
  }
