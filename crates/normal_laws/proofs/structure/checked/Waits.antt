-- A selective wait of the normal form is of a right form, and no two of its accepts are for one caller, where it is so in the program.
use Rattle.std.proofs.Common.{◌≡◌, ℕ, ◌+◌, ◌==◌, ℤ, Bool, true, false, not, ◌&&◌, ◌||◌, nat_lt, cond, if◌then◌else◌, List, [], ◌∷◌, ◌++◌, length, count_by, Option, Some, None, IfSome, refl, sym, ap, subst, ◌∙◌, true≢false}
use Rattle.std.specs.List.{AllByRecursion, list_any}
use Rattle.std.proofs.lemmas.List.Sums.{sum_by-cons}
use Rattle.ada_tree.specs.declared.naming.Span.{Span}
use Rattle.ada_tree.specs.TypeTable.{TypeTable}
use Rattle.ada_static_rules.specs.StaticValue.{is_static, value_of}
use Rattle.ada_tree.specs.PlainExpr.{PExpr}
use Rattle.ada_tree.specs.PlainStmt.{PHead, accepting, alternative, PAltKind, AAccept, ADelay, ATerminate, PAlts, no_alt, alt_then}
use Rattle.ada_tree.specs.PlainDecl.{PDecl}
use Rattle.syn_event.specs.Extents.{unraised_value, fixed}
use Rattle.syn_event.specs.RuleSelectForm.{alt_kinds, is_accept, is_delay, is_terminate, some, one_if, is_malformed}
use Rattle.syn_event.specs.RuleSameEntryTwice.{accept_heads, are_other_values, differ, clash, clashing}
use Rattle.syn_event.proofs.Nothing.{append_nothing, test_fails}
use Rattle.normal_model.specs.Making.{moving, index_left}
use Rattle.normal_model.specs.Walk.{Rewriter, inside_alts}
use Rattle.normal_model.specs.RewrittenUnit.{RewrittenUnit}
use Rattle.normal_model.specs.Waits.{head_left, behind_guard}
use Rattle.normal_model.specs.NormalStmts.{normal_rewriter}

-- ---- the kinds of alternatives

pub count-step : (p : PAltKind → Bool) (x y : PAltKind) (xs ys : List PAltKind) → p x ≡ p y → count_by p xs ≡ count_by p ys → count_by p (x ∷ xs) ≡ count_by p (y ∷ ys)
count-step p x y xs ys e f =
    sum_by-cons (λ z. cond (p z) 1 0) x xs ∙ ap (λ t. cond t 1 0 + count_by p xs) e ∙ ap (λ n. cond (p y) 1 0 + n) f ∙ sym (sum_by-cons (λ z. cond (p z) 1 0) y ys)

-- the alternatives are of the same kinds
record SameKinds (xs ys : List PAltKind) : Type 0 where
  accepts : count_by is_accept xs ≡ count_by is_accept ys
  delays : count_by is_delay xs ≡ count_by is_delay ys
  terminates : count_by is_terminate xs ≡ count_by is_terminate ys

same-step : (x y : PAltKind) (xs ys : List PAltKind) → is_accept x ≡ is_accept y → is_delay x ≡ is_delay y → is_terminate x ≡ is_terminate y → SameKinds xs ys → SameKinds (x ∷ xs) (y ∷ ys)
same-step x y xs ys e f g h = record {
  accepts = count-step is_accept x y xs ys e h.accepts;
  delays = count-step is_delay x y xs ys f h.delays;
  terminates = count-step is_terminate x y xs ys g h.terminates;
}

module _ (u : RewrittenUnit) where
  abbrev r : Rewriter (List PDecl)
  r = normal_rewriter u

  kinds-same : (x : PAlts) (t : List PDecl) → SameKinds (alt_kinds (inside_alts r x t)) (alt_kinds x)
  kinds-same no_alt t = record { accepts = refl; delays = refl; terminates = refl }
  kinds-same (alt_then (alternative g (AAccept (accepting h o) l) s) rest) t = same-step _ (AAccept (accepting h o) l) _ (alt_kinds rest) refl refl refl (kinds-same rest _)
  kinds-same (alt_then (alternative g (ADelay n l) s) rest) t = same-step _ (ADelay n l) _ (alt_kinds rest) refl refl refl (kinds-same rest _)
  kinds-same (alt_then (alternative g ATerminate s) rest) t = same-step _ ATerminate _ (alt_kinds rest) refl refl refl (kinds-same rest _)

  malformed-same : (xs ys : List PAltKind) (others : Bool) → SameKinds xs ys → is_malformed xs others ≡ is_malformed ys others
  malformed-same xs ys others h =
      ap (λ n. (n == 0) || nat_lt 1 (count_by is_terminate xs) || nat_lt 1 (some (count_by is_terminate xs) + some (count_by is_delay xs) + one_if others)) h.accepts
      ∙ ap (λ n. (count_by is_accept ys == 0) || nat_lt 1 n || nat_lt 1 (some n + some (count_by is_delay xs) + one_if others)) h.terminates
      ∙ ap (λ n. (count_by is_accept ys == 0) || nat_lt 1 (count_by is_terminate ys) || nat_lt 1 (some (count_by is_terminate ys) + some n + one_if others)) h.delays

  pub form-kept : (x : PAlts) (t : List PDecl) (others : Bool) (s : Span) → (if is_malformed (alt_kinds x) others then s ∷ [] else []) ≡ [] → (if is_malformed (alt_kinds (inside_alts r x t)) others then s ∷ [] else []) ≡ []
  form-kept x t others s h = ap (λ b. if b then s ∷ [] else []) (malformed-same (alt_kinds (inside_alts r x t)) (alt_kinds x) others (kinds-same x t)) ∙ h

  -- ---- accepts

  -- the head of the new accept
  record IsLeftOf (h y : PHead) : Type 0 where
    place : Span
    number : ℕ
    is : y ≡ head_left u place h number

  abbrev AreLeftOf : List PHead → List PHead → Type 0
  AreLeftOf [] [] = Prim.Unit {0}
  AreLeftOf (h ∷ hs) (y ∷ ys) = IsLeftOf h y × AreLeftOf hs ys
  AreLeftOf _ _ = ⊥

  heads-left : (x : PAlts) (t : List PDecl) → AreLeftOf (accept_heads (alt_kinds x)) (accept_heads (alt_kinds (inside_alts r x t)))
  heads-left no_alt t = tt
  heads-left (alt_then (alternative g (AAccept (accepting h o) l) s) rest) t = (record { place = s; number = behind_guard g (length t); is = refl }, heads-left rest _)
  heads-left (alt_then (alternative g (ADelay n l) s) rest) t = heads-left rest _
  heads-left (alt_then (alternative g ATerminate s) rest) t = heads-left rest _

  module _ (T U : TypeTable) (same_types : T ≡ u.setting.types) where
    -- the static value of the index is the same by both tables
    abbrev pub IsAgreed : PHead → Type 0
    IsAgreed h = IfSome h.index (λ e. fixed U e ≡ fixed T e)

    both-parts : (a b : Bool) → (a && b) ≡ false → a ≡ true → b ≡ false
    both-parts true b e f = e
    both-parts false b e f = absurd (true≢false (sym f))

    not-false : (a : Bool) → not a ≡ false → a ≡ true
    not-false true e = refl
    not-false false e = absurd (true≢false e)

    -- an index that has a value stays
    stays : (s : Span) (j : ℕ) (e : PExpr) (z : ℤ) → fixed T e ≡ Some z → index_left u.setting s j (moving u.setting.types (Some e)) (Some e) ≡ Some e
    stays s j e z f = subst (λ V. index_left u.setting s j (moving V (Some e)) (Some e) ≡ Some e) same_types (go (is_static T e) f)
      where
        go : (b : Bool) → (if b then unraised_value (value_of T e) else None) ≡ Some z → index_left u.setting s j (if b then None else Some e) (Some e) ≡ Some e
        go true q = refl
        go false q = cc

    differ-left : (o q : Option PExpr) (s v : Span) (j k : ℕ) → IfSome o (λ e. fixed U e ≡ fixed T e) → IfSome q (λ e. fixed U e ≡ fixed T e) → differ T o q ≡ true →
        differ U (index_left u.setting s j (moving u.setting.types o) o) (index_left u.setting v k (moving u.setting.types q) q) ≡ true
    differ-left None q s v j k a b h = absurd (true≢false (sym h))
    differ-left (Some e) None s v j k a b h = absurd (true≢false (sym h))
    differ-left (Some e) (Some f) s v j k a b h = go (fixed T e) (fixed T f) refl refl h
      where
        go : (m n : Option ℤ) → fixed T e ≡ m → fixed T f ≡ n → are_other_values m n ≡ true →
            differ U (index_left u.setting s j (moving u.setting.types (Some e)) (Some e)) (index_left u.setting v k (moving u.setting.types (Some f)) (Some f)) ≡ true
        go None n p q i = absurd (true≢false (sym i))
        go (Some x) None p q i = absurd (true≢false (sym i))
        go (Some x) (Some y) p q i =
            ap (λ o. differ U o (index_left u.setting v k (moving u.setting.types (Some f)) (Some f))) (stays s j e x p)
            ∙ ap (λ o. differ U (Some e) o) (stays v k f y q)
            ∙ ap (λ o. are_other_values o (fixed U f)) (a ∙ p)
            ∙ ap (λ o. are_other_values (Some x) o) (b ∙ q)
            ∙ i

    clash-left : (h g y z : PHead) → IsLeftOf h y → IsLeftOf g z → IsAgreed h → IsAgreed g → clash T h g ≡ false → clash U y z ≡ false
    clash-left h g y z a b i j e = subst (λ o. clash U o z ≡ false) (sym a.is) (subst (λ o. clash U (head_left u a.place h a.number) o ≡ false) (sym b.is) (go (g.entry.name.0 == h.entry.name.0) refl))
      where
        go : (t : Bool) → (g.entry.name.0 == h.entry.name.0) ≡ t → clash U (head_left u a.place h a.number) (head_left u b.place g b.number) ≡ false
        go false f = ap (λ t. t && not (differ U (head_left u b.place g b.number).index (head_left u a.place h a.number).index)) f
        go true f =
            let apart : differ T g.index h.index ≡ true = not-false (differ T g.index h.index) (both-parts (g.entry.name.0 == h.entry.name.0) (not (differ T g.index h.index)) e f) in
            ap (λ t. t && not (differ U (head_left u b.place g b.number).index (head_left u a.place h a.number).index)) f
            ∙ ap not (differ-left g.index h.index b.place a.place b.number a.number j i apart)

    -- ---- all accepts of a wait

    none-clash : (h y : PHead) (gs zs : List PHead) → IsLeftOf h y → IsAgreed h → AreLeftOf gs zs → AllByRecursion IsAgreed gs → list_any (clash T h) gs ≡ false → list_any (clash U y) zs ≡ false
    none-clash h y [] [] a i b j e = refl
    none-clash h y [] (z ∷ zs) a i b j e = absurd b
    none-clash h y (g ∷ gs) [] a i b j e = absurd b
    none-clash h y (g ∷ gs) (z ∷ zs) a i b j e =
        let f : (clash T h g ≡ false) × (list_any (clash T h) gs ≡ false) = both-false (clash T h g) (list_any (clash T h) gs) e in
        ap (λ t. t || list_any (clash U y) zs) (clash-left h g y z a b.0 i j.0 f.0) ∙ none-clash h y gs zs a i b.1 j.1 f.1
      where
        both-false : (p q : Bool) → (p || q) ≡ false → (p ≡ false) × (q ≡ false)
        both-false true q k = absurd (true≢false k)
        both-false false q k = (refl, k)

    clashing-left : (before hs bs ys : List PHead) → AreLeftOf before bs → AllByRecursion IsAgreed before → AreLeftOf hs ys → AllByRecursion IsAgreed hs → clashing T before hs ≡ [] → clashing U bs ys ≡ []
    clashing-left before [] bs [] a i b j e = refl
    clashing-left before [] bs (y ∷ ys) a i b j e = absurd b
    clashing-left before (h ∷ hs) bs [] a i b j e = absurd b
    clashing-left before (h ∷ hs) bs (y ∷ ys) a i b j e =
        let f = append_nothing (if list_any (clash T h) before then h.span ∷ [] else []) (clashing T (h ∷ before) hs) e in
        let g : list_any (clash U y) bs ≡ false = none-clash h y before bs b.0 j.0 a i (test_fails (list_any (clash T h) before) h.span f.0) in
        ap (λ t. (if t then y.span ∷ [] else []) ++ clashing U (y ∷ bs) ys) g ∙ clashing-left (h ∷ before) hs (y ∷ bs) ys (b.0, a) (j.0, i) b.1 j.1 f.1

    pub accepts-kept : (x : PAlts) (t : List PDecl) → AllByRecursion IsAgreed (accept_heads (alt_kinds x)) → clashing T [] (accept_heads (alt_kinds x)) ≡ [] → clashing U [] (accept_heads (alt_kinds (inside_alts r x t))) ≡ []
    accepts-kept x t i e = clashing-left [] (accept_heads (alt_kinds x)) [] (accept_heads (alt_kinds (inside_alts r x t))) tt tt (heads-left x t) i e
