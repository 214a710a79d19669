-- The variables of the places of a unit stay what they are behind declarations of other names, and so it is known that they have no static values.
use Rattle.std.proofs.Common.{List, None, [], arith, ℕ, ◌∙◌, ◌∷◌, ◌≡◌, ◌≤◌}
use Rattle.std.specs.List.{AllByRecursion}
use Rattle.common_lemmas.proofs.Numbers.{equal_self}
use Rattle.ada_tree.specs.PlainDecl.{PDecl, decls_of}
use Rattle.ada_tree.specs.PlainProgram.{PProgram}
use Rattle.ada_tree.specs.TypeTable.{TypeTable}
use Rattle.ada_tree.specs.declared.naming.NameId.{NameId}
use Rattle.ada_static_rules.specs.Declaring.{after_decl, after_decls}
use Rattle.ada_static_rules.specs.Scope.{Scope, meaning}
use Rattle.ada_static_rules.specs.StaticValue.{value_named}
use Rattle.task_model.specs.Setting.{Setting}
use Rattle.task_laws.proofs.legal.alike_scopes.Tables.{value-kept}
use Rattle.task_laws.proofs.legal.rewritten_types.Adding.{keeps-decl}
use Rattle.task_laws.specs.legal.rewritten_types.Agreement.{Keeps}
use Rattle.task_laws.specs.legal.rewritten_types.Rewriting.{IsAdded}
use Rattle.replay_structure.proofs.scopes.Permit.{number-step, only}
use Rattle.collect_structure.proofs.scopes.Language.{IsApart, decl-means}
use Rattle.collect_structure.proofs.scopes.Unit.{truth-step}
use Rattle.collect_model.specs.aborts.AbortTeller.{AbortTeller}
use Rattle.collect_model.specs.aborts.Places.{most_places}
use Rattle.collect_structure.specs.aborts.asked.Pieces.{IsPlace}
use Rattle.collect_structure.specs.aborts.scopes.Text.{main_told}
use Rattle.collect_structure.specs.aborts.typed.Told.{SeesPlaces}

module _ (g : Setting) where
  abbrev q : PProgram
  q = g.program

  abbrev x : AbortTeller
  x = main_told g

  abbrev most : ℕ
  most = most_places q

  -- so it is with the name of each variable of a place
  abbrev pub EachPlace : (NameId → Type 0) → Type 0
  EachPlace P = (p : ℕ) → IsPlace most p → P (x.taken p) × P (x.refused p)

  pub each-place : (P Q : NameId → Type 0) → ((id : NameId) → P id → Q id) → EachPlace P → EachPlace Q
  each-place P Q f h p i = (f (x.taken p) (h p i).0, f (x.refused p) (h p i).1)

  -- none of them has a static value
  abbrev pub AreValueless : TypeTable → Type 0
  AreValueless T = EachPlace (λ id. value_named T id ≡ None)

  -- they mean the same, and the table says no more of them
  abbrev pub Stay : Scope → Scope → NameId → Type 0
  Stay d d' id = (meaning d' id ≡ meaning d id) × Keeps (only id) d.types d'.types

  pub valueless-kept : (T U : TypeTable) → EachPlace (λ id. Keeps (only id) T U) → AreValueless T → AreValueless U
  valueless-kept T U k h p i = (kept (x.taken p) (k p i).0 (h p i).0, kept (x.refused p) (k p i).1 (h p i).1)
    where
      kept : (id : NameId) → Keeps (only id) T U → value_named T id ≡ None → value_named U id ≡ None
      kept id l e = value-kept (only id) T U l id (equal_self id.0) ∙ e

  pub valueless-on : (d d' : Scope) → EachPlace (Stay d d') → AreValueless d.types → AreValueless d'.types
  valueless-on d d' stay h = valueless-kept d.types d'.types (each-place (Stay d d') (λ id. Keeps (only id) d.types d'.types) (λ id s. s.1) stay) h

  -- Those of the first places are seen, and none has a value.
  pub record HasPlaces (n : ℕ) (d : Scope) : Type 0 where
    pub valueless : AreValueless d.types
    pub seen : SeesPlaces x n d

  pub places-on : (n : ℕ) → n ≤ most → (d d' : Scope) → EachPlace (Stay d d') → HasPlaces n d → HasPlaces n d'
  places-on n le d d' stay h = record {
    valueless = valueless-on d d' stay h.valueless;
    seen = record {
      taken = λ p i. let s = (stay p (within p i)).0 in number-step d d' (x.taken p) s.0 s.1 (h.seen.taken p i);
      refused = λ p i. let s = (stay p (within p i)).1 in truth-step d d' (x.refused p) s.0 s.1 (h.seen.refused p i);
    };
  }
    where
      within : (p : ℕ) → IsPlace n p → IsPlace most p
      within p i = (i.0, omega (arith, i.1, le))

  -- ---- a declaration of other names

  -- the declaration is one of other names
  abbrev pub IsBeside : PDecl → NameId → Type 0
  IsBeside y id = IsApart id y × IsAdded (only id) y

  pub decl-stays : (y : PDecl) (d : Scope) → EachPlace (IsBeside y) → EachPlace (Stay d (after_decl d y))
  decl-stays y d h = each-place (IsBeside y) (Stay d (after_decl d y)) (λ id b. (decl-means id y d b.0, keeps-decl y d b.1)) h

  pub places-decls : (n : ℕ) → n ≤ most → (ys : List PDecl) → AllByRecursion (λ y. EachPlace (IsBeside y)) ys → (d : Scope) → HasPlaces n d → HasPlaces n (after_decls d (decls_of ys))
  places-decls n le [] h d k = k
  places-decls n le (y ∷ ys) h d k = places-decls n le ys h.1 (after_decl d y) (places-on n le d (after_decl d y) (decl-stays y d h.0) k)

  pub valueless-decls : (ys : List PDecl) → AllByRecursion (λ y. EachPlace (IsBeside y)) ys → (d : Scope) → AreValueless d.types → AreValueless (after_decls d (decls_of ys)).types
  valueless-decls [] h d k = k
  valueless-decls (y ∷ ys) h d k = valueless-decls ys h.1 (after_decl d y) (valueless-on d (after_decl d y) (decl-stays y d h.0) k)
