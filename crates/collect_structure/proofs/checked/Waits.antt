-- The selective waits of a collecting text: their alternatives are of the same kinds, and no two accepts are for one caller where none are in the normal form.
use Rattle.std.proofs.Common.{◌≡◌, ℕ, ℤ, ◌+◌, ◌==◌, Bool, not, ◌&&◌, ◌||◌, nat_lt, if◌then◌else◌, List, [], ◌∷◌, ◌++◌, map, count_by, Option, Some, None, IfSome, refl, ap, ap₂, ◌∙◌}
use Rattle.std.specs.List.{AllByRecursion, list_any}
use Rattle.ada_tree.specs.declared.naming.Span.{Span}
use Rattle.ada_tree.specs.TypeTable.{TypeTable}
use Rattle.ada_tree.specs.PlainExpr.{PExpr}
use Rattle.ada_tree.specs.PlainStmt.{PHead, accepting, alternative, PAltKind, AAccept, ADelay, ATerminate, PAlts, no_alt, alt_then}
use Rattle.syn_event.specs.Extents.{fixed}
use Rattle.syn_event.specs.RuleSelectForm.{alt_kinds, is_accept, is_delay, is_terminate, some, one_if, is_malformed}
use Rattle.syn_event.specs.RuleSameEntryTwice.{accept_heads, are_other_values, differ, clash, clashing}
use Rattle.syn_event.specs.CheckSites.{alt_places}
use Rattle.normal_model.specs.Walk.{Rewriter, inside_alts}
use Rattle.collect_model.specs.Teller.{Teller}
use Rattle.collect_model.specs.Serving.{head_telling}
use Rattle.collect_model.specs.Waiting.{alternatives_told}
use Rattle.collect_model.specs.CollectStmts.{collect_rewriter}
use Rattle.normal_laws.proofs.structure.checked.Waits.{count-step}

-- ---- the kinds of alternatives

-- the alternatives are of the same kinds
pub record SameKinds (xs ys : List PAltKind) : Type 0 where
  pub accepts : count_by is_accept xs ≡ count_by is_accept ys
  pub delays : count_by is_delay xs ≡ count_by is_delay ys
  pub terminates : count_by is_terminate xs ≡ count_by is_terminate ys

pub same-step : (x y : PAltKind) (xs ys : List PAltKind) → is_accept x ≡ is_accept y → is_delay x ≡ is_delay y → is_terminate x ≡ is_terminate y → SameKinds xs ys → SameKinds (x ∷ xs) (y ∷ ys)
same-step x y xs ys e f g h = record {
  accepts = count-step is_accept x y xs ys e h.accepts;
  delays = count-step is_delay x y xs ys f h.delays;
  terminates = count-step is_terminate x y xs ys g h.terminates;
}

pub malformed-same : (xs ys : List PAltKind) (others : Bool) → SameKinds xs ys → is_malformed xs others ≡ is_malformed ys others
malformed-same xs ys others h =
    ap (λ n. (n == 0) || nat_lt 1 (count_by is_terminate xs) || nat_lt 1 (some (count_by is_terminate xs) + some (count_by is_delay xs) + one_if others)) h.accepts
    ∙ ap (λ n. (count_by is_accept ys == 0) || nat_lt 1 n || nat_lt 1 (some n + some (count_by is_delay xs) + one_if others)) h.terminates
    ∙ ap (λ n. (count_by is_accept ys == 0) || nat_lt 1 (count_by is_terminate ys) || nat_lt 1 (some (count_by is_terminate ys) + some n + one_if others)) h.delays

module _ (x : Teller) where
  abbrev r : Rewriter ℕ
  r = collect_rewriter x

  kinds-same : (xs : PAlts) (t k : ℕ) → SameKinds (alt_kinds (alternatives_told x (inside_alts r xs t) k)) (alt_kinds xs)
  kinds-same no_alt t k = record { accepts = refl; delays = refl; terminates = refl }
  kinds-same (alt_then (alternative g (AAccept (accepting h o) l) s) rest) t k = same-step _ (AAccept (accepting h o) l) _ (alt_kinds rest) refl refl refl (kinds-same rest _ k)
  kinds-same (alt_then (alternative g (ADelay n l) s) rest) t k = same-step _ (ADelay n l) _ (alt_kinds rest) refl refl refl (kinds-same rest _ (k + 1))
  kinds-same (alt_then (alternative g ATerminate s) rest) t k = same-step _ ATerminate _ (alt_kinds rest) refl refl refl (kinds-same rest _ k)

  pub form-kept : (xs : PAlts) (t k : ℕ) (others : Bool) (s : Span) → (if is_malformed (alt_kinds xs) others then s ∷ [] else []) ≡ [] → (if is_malformed (alt_kinds (alternatives_told x (inside_alts r xs t) k)) others then s ∷ [] else []) ≡ []
  form-kept xs t k others s h = ap (λ b. if b then s ∷ [] else []) (malformed-same (alt_kinds (alternatives_told x (inside_alts r xs t) k)) (alt_kinds xs) others (kinds-same xs t k)) ∙ h

  pub places-kept : (xs : PAlts) (t k : ℕ) → alt_places (alternatives_told x (inside_alts r xs t) k) ≡ alt_places xs
  places-kept no_alt t k = refl
  places-kept (alt_then (alternative g (AAccept (accepting h o) l) s) rest) t k = ap (λ ss. s ∷ ss) (places-kept rest _ k)
  places-kept (alt_then (alternative g (ADelay n l) s) rest) t k = ap (λ ss. s ∷ ss) (places-kept rest _ (k + 1))
  places-kept (alt_then (alternative g ATerminate s) rest) t k = ap (λ ss. s ∷ ss) (places-kept rest _ k)

  -- ---- accepts

  heads-told : (xs : PAlts) (t k : ℕ) → accept_heads (alt_kinds (alternatives_told x (inside_alts r xs t) k)) ≡ map (head_telling x) (accept_heads (alt_kinds xs))
  heads-told no_alt t k = refl
  heads-told (alt_then (alternative g (AAccept (accepting h o) l) s) rest) t k = ap (λ hs. head_telling x h ∷ hs) (heads-told rest _ k)
  heads-told (alt_then (alternative g (ADelay n l) s) rest) t k = heads-told rest _ (k + 1)
  heads-told (alt_then (alternative g ATerminate s) rest) t k = heads-told rest _ k

  module _ (T U : TypeTable) where
    -- the static value of the index is the same by both tables
    abbrev pub IsAgreed : PHead → Type 0
    IsAgreed h = IfSome h.index (λ e. fixed U e ≡ fixed T e)

    differ-same : (o q : Option PExpr) → IfSome o (λ e. fixed U e ≡ fixed T e) → IfSome q (λ e. fixed U e ≡ fixed T e) → differ U o q ≡ differ T o q
    differ-same None q a b = refl
    differ-same (Some e) None a b = refl
    differ-same (Some e) (Some f) a b = ap₂ (λ (m n : Option ℤ). are_other_values m n) a b

    clash-same : (h g : PHead) → IsAgreed h → IsAgreed g → clash U (head_telling x h) (head_telling x g) ≡ clash T h g
    clash-same h g i j = ap (λ b. (g.entry.name.0 == h.entry.name.0) && not b) (differ-same g.index h.index j i)

    any-same : (h : PHead) (before : List PHead) → IsAgreed h → AllByRecursion IsAgreed before → list_any (clash U (head_telling x h)) (map (head_telling x) before) ≡ list_any (clash T h) before
    any-same h [] i j = refl
    any-same h (g ∷ before) i j = ap₂ (λ (a b : Bool). a || b) (clash-same h g i j.0) (any-same h before i j.1)

    clashing-same : (before hs : List PHead) → AllByRecursion IsAgreed before → AllByRecursion IsAgreed hs → clashing U (map (head_telling x) before) (map (head_telling x) hs) ≡ clashing T before hs
    clashing-same before [] i j = refl
    clashing-same before (h ∷ hs) i j =
        ap₂ (λ (a : Bool) (b : List Span). (if a then h.span ∷ [] else []) ++ b) (any-same h before j.0 i) (clashing-same (h ∷ before) hs (j.0, i) j.1)

    pub accepts-kept : (xs : PAlts) (t k : ℕ) → AllByRecursion IsAgreed (accept_heads (alt_kinds xs)) → clashing T [] (accept_heads (alt_kinds xs)) ≡ [] → clashing U [] (accept_heads (alt_kinds (alternatives_told x (inside_alts r xs t) k))) ≡ []
    accepts-kept xs t k i e = ap (clashing U []) (heads-told xs t k) ∙ clashing-same [] (accept_heads (alt_kinds xs)) tt i ∙ e
