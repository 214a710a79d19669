-- The names of the normal form of a legal program leave room for its collecting text with abort statements.
use Rattle.std.proofs.Common.{◌≡◌, ℕ, Bool, true, false, not, ◌||◌, nat_eq, List, [], ◌∷◌, ◌++◌, codes, refl, sym, ap}
use Rattle.std.specs.List.{starts_with}
use Rattle.std.specs.Str.{bytes_eq}
use Rattle.std.proofs.lemmas.Bool.{eqb-true, or_parts}
use Rattle.common_lemmas.proofs.Lists.{texts_differ}
use Rattle.common_lemmas.proofs.Truth.{and_both, and_false, false_behind}
use Rattle.ada_static_rules.specs.Refusals.{types_in}
use Rattle.syn_event.specs.RuleReservedName.{has_mark, is_reserved}
use Rattle.task_model.specs.Setting.{Setting}
use Rattle.normal_model.specs.NormalTree.{variables_needed}
use Rattle.normal_laws.specs.runs.forms.Normalisable.{made_for, numbers_of, setting_for}
use Rattle.normal_laws.proofs.legality.declares_once.Whole.{normal_declares_once}
use Rattle.replay_structure.proofs.declares_once.GoodNamed.{all-named-kept}
use Rattle.collect_structure.proofs.declares_once.Legal as collect
use Rattle.collect_structure.proofs.kept.Names.{good-text, text-of-task, text-of-variable}
use Rattle.collect_structure.specs.aborts.declares_once.Laws.{LegalAbortDeclaresOnce, LegalLeavesNames}
use Rattle.collect_structure.specs.aborts.declares_once.Names.{IsOwn, is_left}
use Rattle.collect_structure.proofs.aborts.declares_once.Few.{legal-has-few}
use Rattle.collect_structure.proofs.aborts.declares_once.Whole.{abort_declares_once}
use Rattle.replay_structure.proofs.declares_once.Texts.{begins_ded, no-ded}

-- ---- texts

-- a text that does not begin with DED_
pub plain-left : (t : List ℕ) → begins_ded t ≡ false → is_left t ≡ true
plain-left t e = ap (λ b. not b || starts_with nat_eq t (codes "DED_V")) e

-- a text of an original
original-left : (t : List ℕ) → is_reserved t ≡ false → is_left t ≡ true
original-left t h = plain-left t (no-ded t h)

-- the text of a member of an array begins with DED_ only where the array does so, or is DED
member-plain : (t u : List ℕ) → is_reserved t ≡ false → begins_ded (t ++ (codes "_DED_" ++ u)) ≡ false
member-plain [] u h = refl
member-plain (a ∷ []) u h = and_false (nat_eq 68 a)
member-plain (a ∷ b ∷ []) u h = false_behind (nat_eq 68 a) _ (and_false (nat_eq 69 b))
member-plain (a ∷ b ∷ c ∷ []) u h = by_test (begins_ded (a ∷ b ∷ c ∷ (codes "_DED_" ++ u))) refl
  where
    other : bytes_eq (a ∷ b ∷ c ∷ []) (codes "DED") ≡ false
    other = (or_parts (has_mark (a ∷ b ∷ c ∷ [])) _ (or_parts (begins_ded (a ∷ b ∷ c ∷ [])) _ h).1).1

    by_test : (e : Bool) → begins_ded (a ∷ b ∷ c ∷ (codes "_DED_" ++ u)) ≡ e → e ≡ false
    by_test false e = refl
    by_test true e =
        let one = and_both (nat_eq 68 a) _ e in
        let two = and_both (nat_eq 69 b) _ one.1 in
        let three = and_both (nat_eq 68 c) _ two.1 in
        absurd (texts_differ (a ∷ b ∷ c ∷ []) (codes "DED") other (λ i. sym (eqb-true 68 a one.0) i ∷ sym (eqb-true 69 b two.0) i ∷ sym (eqb-true 68 c three.0) i ∷ []))
member-plain (a ∷ b ∷ c ∷ d ∷ t) u h = no-ded (a ∷ b ∷ c ∷ d ∷ t) h

-- ---- the normal form of a legal program

pub legal_leaves_names : LegalLeavesNames
legal_leaves_names p h =
    let g : Setting = setting_for p in
    let count : ℕ = variables_needed g in
    let Left : List ℕ → Type 0 = λ t. is_left t ≡ true in
    record {
      begins = (collect.legal_leaves_names p h).begins;
      kept =
          all-named-kept p h (IsOwn (made_for p).names) (good-text g count Left original-left) (text-of-variable g count Left (λ k. refl))
          (text-of-task g count Left original-left (λ t u free. plain-left (t ++ (codes "_DED_" ++ u)) (member-plain t u free)));
      few = legal-has-few p h;
    }

pub legal_abort_declares_once : LegalAbortDeclaresOnce
legal_abort_declares_once p h = abort_declares_once p (types_in p) (numbers_of p) (normal_declares_once p h) (legal_leaves_names p h)
