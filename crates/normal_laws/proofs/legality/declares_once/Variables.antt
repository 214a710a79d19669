-- What the variables of a unit declare, and what is left of the names of a normal form beside its fixed ones.
use Rattle.std.proofs.Common.{◌≡◌, ℕ, ◌+◌, ◌<◌, ◌≤◌, ◌^◌, false, ◌||◌, ◌==◌, List, [], ◌∷◌, ◌++◌, length, flat_map, refl, sym, ap₂, subst, arith, ◌⊎◌, inl, inr, ⊎_elim}
use Rattle.std.specs.List.{AllByRecursion}
use Rattle.std.proofs.lemmas.Bool.{or_from, ne_eqb}
use Rattle.ada_tree.specs.declared.naming.Span.{Span}
use Rattle.ada_tree.specs.PlainDecl.{PDecl}
use Rattle.ada_static_rules.specs.RuleDuplicate.{is_predefined, is_among}
use Rattle.common_lemmas.proofs.Lists.{all_joined}
use Rattle.task_model.specs.Setting.{Setting}
use Rattle.normal_model.specs.Names.{variable_name}
use Rattle.normal_laws.proofs.runs.forms.Names.{names-apart}
use Rattle.normal_laws.proofs.runs.forms.Numbered.{AreNumbered, none_numbered, numbered_then}
use Rattle.ada_decl_rules.specs.duplicates.NamedSoFar.{object_words}
use Rattle.ada_decl_rules.specs.declared.duplicates.namings_in_order.Naming.{Naming}
use Rattle.ada_decl_rules.specs.declared.duplicates.namings_in_order.Naming.TheVariants.{Declares}
use Rattle.ada_decl_rules.specs.duplicates.NamingsInOrder.{declared}
use Rattle.normal_laws.specs.structure.once.Apart.{IsFreeOf, AreApart, IsAlone, fixed_name, loose_name, fixed_names, loose_names, IsFitIn}
use Rattle.normal_laws.proofs.legality.declares_once.Ids.{IsGoodId, variable-new, new-not-predefined}
use Rattle.normal_laws.proofs.legality.declares_once.Inner.{IsInner}
use Rattle.ada_tree.specs.NameList.{AreNames}

-- the names that a program fixes, and its normal form
module _ (g : Setting) (are : AreNames g.program.names) (fixed : List ℕ) where
  -- a name of the program that is no fixed one, or a variable of the normal form
  abbrev pub IsLoose : ℕ → Type 0
  IsLoose x = (IsFreeOf fixed x × IsGoodId g.program.names x) ⊎ ((k : ℕ) × (x ≡ (variable_name g k).0))

  -- a naming that is fine alone, and fixes no name
  abbrev pub IsCovered : Naming → Type 0
  IsCovered n = IsAlone n × (fixed_name n ≡ []) × AllByRecursion IsLoose (loose_name n)

  loose-old : (xs : List ℕ) → AreApart fixed xs → AllByRecursion (IsGoodId g.program.names) xs → AllByRecursion IsLoose xs
  loose-old [] a b = tt
  loose-old (x ∷ xs) a b = (inl (a.0, b.0), loose-old xs a.1 b.1)

  -- what the program names in inner scopes
  pub covered-old : (ns : List Naming) → AllByRecursion (IsFitIn fixed) ns → AllByRecursion (IsInner g.program.names) ns → AllByRecursion IsCovered ns
  covered-old [] a b = tt
  covered-old (n ∷ ns) a b = ((a.0.0, b.0.0, loose-old (loose_name n) a.0.1 b.0.1), covered-old ns a.1 b.1)

  pub covered-alone : (ns : List Naming) → AllByRecursion IsCovered ns → AllByRecursion IsAlone ns
  covered-alone [] h = tt
  covered-alone (n ∷ ns) h = (h.0.0, covered-alone ns h.1)

  pub covered-loose : (ns : List Naming) → AllByRecursion IsCovered ns → AllByRecursion IsLoose (loose_names ns)
  covered-loose [] h = tt
  covered-loose (n ∷ ns) h = all_joined IsLoose (loose_name n) (loose_names ns) h.0.2 (covered-loose ns h.1)

  pub covered-fixed : (ns : List Naming) → AllByRecursion IsCovered ns → fixed_names ns ≡ []
  covered-fixed [] h = refl
  covered-fixed (n ∷ ns) h = ap₂ (λ (a b : List ℕ). a ++ b) h.0.1 (covered-fixed ns h.1)

  -- what all names of the program that are not fixed, and all variables, are free of, is apart from them
  pub loose-apart : (F : List ℕ) → ((x : ℕ) → IsFreeOf fixed x → IsGoodId g.program.names x → IsFreeOf F x) → ((k : ℕ) → IsFreeOf F (variable_name g k).0) → (xs : List ℕ) → AllByRecursion IsLoose xs → AreApart F xs
  loose-apart F old new [] h = tt
  loose-apart F old new (x ∷ xs) h =
      (⊎_elim (λ (a : IsFreeOf fixed x × IsGoodId g.program.names x). old x a.0 a.1) (λ (b : (k : ℕ) × (x ≡ (variable_name g k).0)). subst (λ (y : ℕ). IsFreeOf F y) (sym b.1) (new b.0)) h.0, loose-apart F old new xs h.1)

  -- ---- variables

  variable-alone : (k : ℕ) (s : Span) (here : List ℕ) → IsFreeOf here (variable_name g k).0 → IsAlone (Declares false (is_among here (variable_name g k).0) record { name = variable_name g k; span = s })
  variable-alone k s here h =
      let v : ℕ = (variable_name g k).0 in
      or_from (is_predefined v || is_among here v || false) false (or_from (is_predefined v || is_among here v) false (or_from (is_predefined v) (is_among here v) (new-not-predefined g.program.names are v (variable-new g k)) h) refl) refl

  -- The variables that are numbered from k on, behind names of which they are free.
  pub variables-covered : {vars : List PDecl} {k : ℕ} → AreNumbered g vars k → k + length vars < 2 ^ 64 → (here : List ℕ) → ((j : ℕ) → k ≤ j → j + 1 < 2 ^ 64 → IsFreeOf here (variable_name g j).0) →
      AllByRecursion IsCovered (declared false here (flat_map object_words vars))
  variables-covered (none_numbered k) l here free = tt
  variables-covered (numbered_then s x rest k more) l here free = (
    (variable-alone k s here (free k (omega arith) (omega (arith, l))), refl, (inr (k, refl), tt)),
    variables-covered more (omega (arith, l)) ((variable_name g k).0 ∷ here)
        (λ j a b. or_from ((variable_name g k).0 == (variable_name g j).0) (is_among here (variable_name g j).0)
        (names-apart g k j (omega (arith, l)) b (ne_eqb k j (λ e. omega (arith, e, a)))) (free j (omega (arith, a)) b)),
  )
