-- The tasks that are listed, each once.
use Rattle.std.proofs.Common.{◌≡◌, ℕ, zero, suc, ◌+◌, ◌<◌, ◌≤◌, Bool, true, false, not, ◌&&◌, ◌==◌, if◌then◌else◌, List, [], ◌∷◌, length, pred, refl, sym, ap, ap₂, ◌∙◌, ⊎_elim, true≢false, arith}
use Rattle.std.specs.Prelude.{nat_lt}
use Rattle.std.specs.List.{filter, range_with_len}
use Rattle.std.proofs.Math.Bool.{cond}
use Rattle.std.proofs.lemmas.Bool.{eqb-true, eqb-false, ne_eqb, and_right, cases_lt, lt-ltb, le-ltb}
use Rattle.event_machine.specs.declared.Standing.{Standing}
use Rattle.event_machine.specs.declared.Standing.TheVariants.{Live, Waiting, Queued, Served, Completed, Killed}
use Rattle.event_machine.specs.States.{is_live, is_closed, is_served}
use Rattle.event_machine.specs.Soundness.{times}
use Rattle.event_machine.specs.Worlds.{still}
use Rattle.event_machine.specs.progress.Known.{Party, Known, is_closed as known_closed}
use Rattle.event_machine.proofs.progress.Parties.{known_below}
use Rattle.run_laws.specs.telling.ByEvents.{others}
use Rattle.common_lemmas.proofs.Numbers.{zero_more}

-- ---- a list, and what a test keeps of it

-- one that is kept stands there as often as before, and another one never
times_kept : (test : ℕ → Bool) (t : ℕ) (xs : List ℕ) → times t (filter test xs) ≡ (if test t then times t xs else 0)
times_kept test t [] = go (test t)
  where
    go : (b : Bool) → ◌≡◌ {A = ℕ} 0 (if b then 0 else 0)
    go true = refl
    go false = refl
times_kept test t (x ∷ xs) = go (times_kept test t xs) (x == t) refl
  where
    itself : times t (filter test xs) ≡ (if test t then times t xs else 0) →
        (b : Bool) → (x == t) ≡ true → test t ≡ b → times t (cond b (x ∷ filter test xs) (filter test xs)) ≡ (if b then 1 + times t xs else 0)
    itself rest true q r = ap₂ (λ m n. m + n) (ap (λ b. if b then 1 else 0) q) (rest ∙ ap (λ b. if b then times t xs else 0) r)
    itself rest false q r = rest ∙ ap (λ b. if b then times t xs else 0) r

    other : (b : Bool) → (x == t) ≡ false → times t (cond b (x ∷ filter test xs) (filter test xs)) ≡ times t (filter test xs)
    other true q = ap (λ b. (if b then 1 else 0) + times t (filter test xs)) q ∙ zero_more (times t (filter test xs))
    other false q = refl

    go : times t (filter test xs) ≡ (if test t then times t xs else 0) →
        (d : Bool) → (x == t) ≡ d → times t (cond (test x) (x ∷ filter test xs) (filter test xs)) ≡ (if test t then (if d then 1 else 0) + times t xs else 0)
    go rest true q = ap (λ u. times t (cond (test u) (x ∷ filter test xs) (filter test xs))) (eqb-true x t q) ∙ itself rest (test t) q refl
    go rest false q = other (test x) q ∙ rest ∙ ap (λ n. if test t then n else 0) (sym (zero_more (times t xs)))

-- ---- numbers in a row

absent : (t a n : ℕ) → t < a → times t (range_with_len a n) ≡ 0
absent t a zero l = refl
absent t a (suc n) l = ap₂ (λ b m. (if b then 1 else 0) + m) (ne_eqb a t (λ q. omega (arith, l, q))) (absent t (a + 1) n (omega (arith, l)))

present : (t a n : ℕ) → a ≤ t → t < a + n → times t (range_with_len a n) ≡ 1
present t a zero l m = absurd (omega (arith, l, m))
present t a (suc n) l m = go (λ k. present t (a + 1) n k (omega (arith, m))) (a == t) refl
  where
    above : (a ≡ t → ⊥) → a + 1 ≤ t
    above r = ⊎_elim (λ (k : a < t). omega (arith, k)) (λ (k : t ≤ a). absurd (r (omega (arith, l, k)))) (cases_lt a t)

    go : (a + 1 ≤ t → times t (range_with_len (a + 1) n) ≡ 1) → (b : Bool) → (a == t) ≡ b → (if b then 1 else 0) + times t (range_with_len (a + 1) n) ≡ 1
    go rest true q = let e : a ≡ t = eqb-true a t q in ap (λ k. 1 + k) (absent t (a + 1) n (omega (arith, e)))
    go rest false q = zero_more (times t (range_with_len (a + 1) n)) ∙ rest (above (eqb-false a t q))

-- ---- the tasks

-- Each task from 1 up that is not closed is listed once, and no other number.
pub listed_once : (k : Known) (t : ℕ) → times t (others k) ≡ (if nat_lt 0 t && not (known_closed k t) then 1 else 0)
listed_once k t = times_kept (λ u. not (known_closed k u)) t (range_with_len 1 (pred (length k.parties))) ∙ go (not (known_closed k t)) refl
  where
    within : (n : ℕ) → t < n → t < 1 + pred n
    within zero l = absurd (omega (arith, l))
    within (suc n) l = omega (arith, l)

    open' : t < length k.parties → times t (range_with_len 1 (pred (length k.parties))) ≡ (if nat_lt 0 t && true then 1 else 0)
    open' l = ⊎_elim
        (λ (m : 0 < t). present t 1 (pred (length k.parties)) (omega (arith, m)) (within (length k.parties) l) ∙ ap (λ b. if b && true then 1 else 0) (sym (lt-ltb 0 t m)))
        (λ (m : t ≤ 0). absent t 1 (pred (length k.parties)) (omega (arith, m)) ∙ ap (λ b. if b && true then 1 else 0) (sym (le-ltb 0 t m)))
        (cases_lt 0 t)

    go : (b : Bool) → not (known_closed k t) ≡ b → (if b then times t (range_with_len 1 (pred (length k.parties))) else 0) ≡ (if nat_lt 0 t && b then 1 else 0)
    go true q = open' (known_below (λ (y : Party). not y.closed) k t refl q)
    go false q = sym (ap (λ b. if b then 1 else 0) (and_right (nat_lt 0 t) false refl))

-- where nobody waits, is queued or is served, the tasks that are not closed are the live ones
pub open_live : (z : Standing) → still z ≡ z → is_served z ≡ false → is_live z ≡ not (is_closed z)
open_live Live s h = refl
open_live Waiting s h = ap is_live (sym s)
open_live Queued s h = ap is_live (sym s)
open_live (Served by abnormal) s h = absurd (true≢false h)
open_live Completed s h = refl
open_live Killed s h = refl
