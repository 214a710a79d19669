-- The selective waits of a collecting text of a program with abort statements: their alternatives are of the same kinds, and no two accepts are for one caller where none are in the normal form.
use Rattle.std.proofs.Common.{◌≡◌, ℕ, ℤ, ◌+◌, ◌==◌, Bool, not, ◌&&◌, ◌||◌, if◌then◌else◌, List, [], ◌∷◌, ◌++◌, map, Option, Some, None, IfSome, refl, ap, ap₂, ◌∙◌}
use Rattle.std.specs.List.{AllByRecursion, list_any}
use Rattle.ada_tree.specs.declared.naming.Span.{Span}
use Rattle.ada_tree.specs.TypeTable.{TypeTable}
use Rattle.ada_tree.specs.PlainExpr.{PExpr}
use Rattle.ada_tree.specs.PlainStmt.{PHead, accepting, alternative, AAccept, ADelay, ATerminate, PAlts, no_alt, alt_then}
use Rattle.syn_event.specs.Extents.{fixed}
use Rattle.syn_event.specs.RuleSelectForm.{alt_kinds, is_malformed}
use Rattle.syn_event.specs.RuleSameEntryTwice.{accept_heads, are_other_values, differ, clash, clashing}
use Rattle.syn_event.specs.CheckSites.{alt_places}
use Rattle.normal_model.specs.Walk.{Rewriter, inside_alts}
use Rattle.collect_model.specs.Serving.{head_telling}
use Rattle.collect_model.specs.aborts.AbortTeller.{AbortTeller}
use Rattle.collect_model.specs.aborts.Waiting.{alternatives_told}
use Rattle.collect_model.specs.aborts.AbortStmts.{abort_rewriter}
use Rattle.collect_structure.proofs.checked.Waits.{SameKinds, same-step, malformed-same}

-- ---- the kinds of alternatives

module _ (x : AbortTeller) (p : ℕ) where
  abbrev r : Rewriter ℕ
  r = abort_rewriter x

  kinds-same : (xs : PAlts) (t j k : ℕ) → SameKinds (alt_kinds (alternatives_told x p (inside_alts r xs t) j k)) (alt_kinds xs)
  kinds-same no_alt t j k = record { accepts = refl; delays = refl; terminates = refl }
  kinds-same (alt_then (alternative g (AAccept (accepting h o) l) s) rest) t j k =
      same-step _ (AAccept (accepting h o) l) _ (alt_kinds rest) refl refl refl (kinds-same rest _ (j + 1) k)
  kinds-same (alt_then (alternative g (ADelay n l) s) rest) t j k =
      same-step _ (ADelay n l) _ (alt_kinds rest) refl refl refl (kinds-same rest _ (j + 1) (k + 1))
  kinds-same (alt_then (alternative g ATerminate s) rest) t j k = same-step _ ATerminate _ (alt_kinds rest) refl refl refl (kinds-same rest _ (j + 1) k)

  pub form-kept : (xs : PAlts) (t j k : ℕ) (others : Bool) (s : Span) → (if is_malformed (alt_kinds xs) others then s ∷ [] else []) ≡ [] →
      (if is_malformed (alt_kinds (alternatives_told x p (inside_alts r xs t) j k)) others then s ∷ [] else []) ≡ []
  form-kept xs t j k others s h =
      ap (λ b. if b then s ∷ [] else [])
      (malformed-same (alt_kinds (alternatives_told x p (inside_alts r xs t) j k)) (alt_kinds xs) others (kinds-same xs t j k)) ∙ h

  pub places-kept : (xs : PAlts) (t j k : ℕ) → alt_places (alternatives_told x p (inside_alts r xs t) j k) ≡ alt_places xs
  places-kept no_alt t j k = refl
  places-kept (alt_then (alternative g (AAccept (accepting h o) l) s) rest) t j k = ap (λ ss. s ∷ ss) (places-kept rest _ (j + 1) k)
  places-kept (alt_then (alternative g (ADelay n l) s) rest) t j k = ap (λ ss. s ∷ ss) (places-kept rest _ (j + 1) (k + 1))
  places-kept (alt_then (alternative g ATerminate s) rest) t j k = ap (λ ss. s ∷ ss) (places-kept rest _ (j + 1) k)

  -- ---- accepts

  heads-told : (xs : PAlts) (t j k : ℕ) →
      accept_heads (alt_kinds (alternatives_told x p (inside_alts r xs t) j k)) ≡ map (head_telling x.teller) (accept_heads (alt_kinds xs))
  heads-told no_alt t j k = refl
  heads-told (alt_then (alternative g (AAccept (accepting h o) l) s) rest) t j k = ap (λ hs. head_telling x.teller h ∷ hs) (heads-told rest _ (j + 1) k)
  heads-told (alt_then (alternative g (ADelay n l) s) rest) t j k = heads-told rest _ (j + 1) (k + 1)
  heads-told (alt_then (alternative g ATerminate s) rest) t j k = heads-told rest _ (j + 1) k

  module _ (T U : TypeTable) where
    -- the static value of the index is the same by both tables
    abbrev pub IsAgreed : PHead → Type 0
    IsAgreed h = IfSome h.index (λ e. fixed U e ≡ fixed T e)

    differ-same : (o q : Option PExpr) → IfSome o (λ e. fixed U e ≡ fixed T e) → IfSome q (λ e. fixed U e ≡ fixed T e) → differ U o q ≡ differ T o q
    differ-same None q a b = refl
    differ-same (Some e) None a b = refl
    differ-same (Some e) (Some f) a b = ap₂ (λ (m n : Option ℤ). are_other_values m n) a b

    clash-same : (h g : PHead) → IsAgreed h → IsAgreed g → clash U (head_telling x.teller h) (head_telling x.teller g) ≡ clash T h g
    clash-same h g i j = ap (λ b. (g.entry.name.0 == h.entry.name.0) && not b) (differ-same g.index h.index j i)

    any-same : (h : PHead) (before : List PHead) → IsAgreed h → AllByRecursion IsAgreed before →
        list_any (clash U (head_telling x.teller h)) (map (head_telling x.teller) before) ≡ list_any (clash T h) before
    any-same h [] i j = refl
    any-same h (g ∷ before) i j = ap₂ (λ (a b : Bool). a || b) (clash-same h g i j.0) (any-same h before i j.1)

    clashing-same : (before hs : List PHead) → AllByRecursion IsAgreed before → AllByRecursion IsAgreed hs →
        clashing U (map (head_telling x.teller) before) (map (head_telling x.teller) hs) ≡ clashing T before hs
    clashing-same before [] i j = refl
    clashing-same before (h ∷ hs) i j =
        ap₂ (λ (a : Bool) (b : List Span). (if a then h.span ∷ [] else []) ++ b) (any-same h before j.0 i) (clashing-same (h ∷ before) hs (j.0, i) j.1)

    pub accepts-kept : (xs : PAlts) (t j k : ℕ) → AllByRecursion IsAgreed (accept_heads (alt_kinds xs)) → clashing T [] (accept_heads (alt_kinds xs)) ≡ [] →
        clashing U [] (accept_heads (alt_kinds (alternatives_told x p (inside_alts r xs t) j k))) ≡ []
    accepts-kept xs t j k i e = ap (clashing U []) (heads-told xs t j k) ∙ clashing-same [] (accept_heads (alt_kinds xs)) tt i ∙ e
