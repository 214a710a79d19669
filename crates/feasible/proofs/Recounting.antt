-- Counts that begin anew.
use Rattle.std.proofs.Common.{◌≡◌, ℕ, Bool, true, false, ◌||◌, ◌==◌, if◌then◌else◌, List, [], ◌∷◌, length, Option, Some, None, refl, sym, ap, ◌∙◌, subst, ⊎_elim, slice_set, slice_get, arith}
use Rattle.std.specs.Prelude.{slice_index}
use Rattle.std.proofs.lemmas.Bool.{eqb-true, eqb-false, eq-eqb, ne_eqb, cases_lt}
use Rattle.std.proofs.lemmas.List.{get_or-set_same, get_or-set_other, get_or_past, length-set}
use Rattle.event_machine.specs.Applying.{is_first}
use Rattle.feasible.specs.inner.Recounts.{BeginAnew}

-- one count begins anew
at_one : (steps : List ℕ) (a t : ℕ) (b : Bool) → (t == a) ≡ b → slice_index (slice_set steps a 0) t ≡ (if b then 0 else slice_index steps t)
at_one steps a t true is =
    ap (λ u. slice_index (slice_set steps a 0) u) (eqb-true t a is)
    ∙ ⊎_elim
    (λ less. get_or-set_same steps a 0 0 less)
    (λ past. get_or_past (slice_set steps a 0) a 0 (let e : length (slice_set steps a 0) ≡ length steps = length-set steps a 0 in omega arith))
    (cases_lt a (length steps))
at_one steps a t false is = get_or-set_other steps a t 0 0 (eqb-false t a is)

swapped : (t x : ℕ) (b : Bool) → (x == t) ≡ b → (t == x) ≡ b
swapped t x true is = eq-eqb t x (sym (eqb-true x t is))
swapped t x false is = ne_eqb t x (λ e. eqb-false x t is (sym e))

-- The counts of an acceptor and of its first caller begin anew.
at_both : (steps : List ℕ) (a c t : ℕ) (b d : Bool) → (t == a) ≡ b → (c == t) ≡ d → slice_index (slice_set (slice_set steps a 0) c 0) t ≡ (if b || d then 0 else slice_index steps t)
at_both steps a c t b true is caller = at_one (slice_set steps a 0) c t true (swapped t c true caller) ∙ go b
  where
    go : (x : Bool) → 0 ≡ (if x || true then 0 else slice_index steps t)
    go true = refl
    go false = refl
at_both steps a c t b false is other = at_one (slice_set steps a 0) c t false (swapped t c false other) ∙ at_one steps a t b is ∙ go b
  where
    go : (x : Bool) → (if x then 0 else slice_index steps t) ≡ (if x || false then 0 else slice_index steps t)
    go true = refl
    go false = refl

abbrev is_there : Option ℕ → Type 0
is_there (Some x) = Unit {0}
is_there None = ⊥

abbrev or_zero : Option ℕ → ℕ
or_zero (Some x) = x
or_zero None = 0

pub anew_both : (steps : List ℕ) (a c : ℕ) (callers : List ℕ) → Some c ≡ slice_get callers 0 → BeginAnew (λ t. (t == a) || is_first t callers) steps (slice_set (slice_set steps a 0) c 0)
anew_both steps a c [] h = absurd (subst is_there h tt)
anew_both steps a c (x ∷ callers) h = record {
  each = λ t. at_both steps a c t (t == a) (c == t) refl refl ∙ ap (λ (u : ℕ). if (t == a) || (u == t) then 0 else slice_index steps t) (ap or_zero h);
  size = length-set (slice_set steps a 0) c 0 ∙ length-set steps a 0;
}
