-- The normal form of a legal program is as the rules 13 to 23 ask of it, where expressions of kept names have the same static values in the collecting text, and abort statements can stand.
use Rattle.std.proofs.Common.{Bool, ap, eqb-true, false, lit<, refl, subst, sym, true, true≢false, ℕ, ◌==◌, ◌||◌, ◌∙◌, ◌≡◌}
use Rattle.ada_tree.specs.Attributes.{false_name, true_name}
use Rattle.ada_tree.specs.Every.{EveryExpr}
use Rattle.ada_tree.specs.PlainExpr.{PExpr}
use Rattle.ada_tree.specs.PlainProgram.{PProgram}
use Rattle.ada_tree.specs.TypeTable.{TypeTable}
use Rattle.ada_static_rules.specs.Refusals.{types_in}
use Rattle.syn_event.specs.Extents.{fixed}
use Rattle.syn_event.specs.Numbering.{Numbering}
use Rattle.normal_laws.proofs.legality.checks.Facts as facts
use Rattle.normal_laws.proofs.structure.types.Normal.{normal_agrees}
use Rattle.normal_laws.specs.existence.Laws.{IsLegalOriginal}
use Rattle.normal_laws.specs.runs.forms.Normalisable.{made_for, numbers_of}
use Rattle.replay_structure.proofs.checkable.Ranges.{ranges-same}
use Rattle.replay_structure.specs.checkable.Prepared.{form_for}
use Rattle.replay_structure.proofs.legal.Declared.{declarations-kept}
use Rattle.replay_structure.proofs.legal.Kept.{main-kept}
use Rattle.replay_structure.proofs.legal.Keeping.{IsKeeping}
use Rattle.collect_structure.proofs.legal.Checkable.{legal_is_checkable, prepared}
use Rattle.collect_structure.proofs.legal.Values.{same-values}
use Rattle.collect_structure.specs.checked.Checkable.{is_truth}
use Rattle.collect_structure.proofs.aborts.scopes.Names.{kept-keeping}
use Rattle.collect_structure.proofs.aborts.texts.Rooted.{abort_agrees}
use Rattle.collect_structure.specs.aborts.Laws.{text_for}
use Rattle.collect_structure.specs.aborts.Names.{kept_name}
use Rattle.collect_structure.specs.aborts.checked.Around.{kept_names}
use Rattle.collect_structure.specs.aborts.checked.Checkable.{IsAbortCheckable}

module _ (p : PProgram) (h : IsLegalOriginal p) where
  abbrev n : PProgram
  n = made_for p

  abbrev T : TypeTable
  T = types_in p

  abbrev N : Numbering
  N = numbers_of p

  kept : IsKeeping p (kept_name n)
  kept = kept-keeping p

  truths : (k : ℕ) → is_truth k ≡ true → kept_name n k ≡ true
  truths k e = by_false (k == false_name) refl
    where
      by_true : (b : Bool) → (k == true_name) ≡ b → b ≡ true → kept_name n k ≡ true
      by_true true f i =
          subst (λ x. kept_name n x ≡ true) (sym (eqb-true k true_name f)) ((kept-keeping p).old true_name (facts.first-own p h true_name (lit< tt)))
      by_true false f i = absurd (true≢false (sym i))

      by_false : (b : Bool) → (k == false_name) ≡ b → kept_name n k ≡ true
      by_false true f =
          subst (λ x. kept_name n x ≡ true) (sym (eqb-true k false_name f)) ((kept-keeping p).old false_name (facts.first-own p h false_name (lit< tt)))
      by_false false f = by_true (k == true_name) refl (sym (ap (λ b. b || (k == true_name)) f) ∙ e)

  -- The normal form is as asked.
  pub legal_is_abort_checkable : ((k : ℕ) (e : PExpr) → EveryExpr (kept_names n) k e → fixed (types_in (text_for p)) e ≡ fixed (types_in n) e) →
      IsAbortCheckable (form_for p)
  legal_is_abort_checkable values = record {
    told = legal_is_checkable p h (same-values p T N (prepared p h).ordered (prepared p h).own);
    main = kept.old p.name.name.0 (prepared p h).main;
    declared = declarations-kept p h (kept_name n) kept;
    named = main-kept p h (kept_name n) kept;
    truths = truths;
    ranges = ranges-same p T N _ _ (normal_agrees p T N (prepared p h).ordered) (abort_agrees p T N (prepared p h).ordered (prepared p h).own) (prepared p h).own;
    values = values;
    beside = (prepared p h).apart;
  }
