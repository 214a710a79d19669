-- What writes of what is known leave, at a task and at others.
use Rattle.std.proofs.Common.{◌≡◌, ℕ, zero, suc, ◌<◌, Bool, true, false, ◌||◌, ◌==◌, if◌then◌else◌, List, [], ◌∷◌, length, get_or, map, refl, sym, ap, ◌∙◌, ⊎_elim, true≢false, arith}
use Rattle.std.specs.List.{list_all}
use Rattle.std.proofs.Math.ListN.{get_or-map}
use Rattle.std.proofs.lemmas.Bool.{cases_lt, eqb-false, and_parts}
use Rattle.std.proofs.lemmas.List.{get_or-set_same, get_or-set_other, get_or_past}
use Rattle.event_machine.specs.declared.Event.{Event}
use Rattle.event_machine.specs.declared.Event.TheVariants.{R, E, S, D, C, T, F, X, B, Z}
use Rattle.event_machine.specs.Worlds.{is_last}
use Rattle.event_machine.proofs.Basics.{both}
use Rattle.event_machine.specs.progress.Known.{Party, Known, idle, nobody, idle_parties, known_at_start, party, put, part, let_go, fall, advanced}

-- who is known otherwise than nobody is a task
pub known_below : (test : Party → Bool) (k : Known) (t : ℕ) → test nobody ≡ false → test (party k t) ≡ true → t < length k.parties
known_below test k t n h = ⊎_elim (λ l. l) (λ l. absurd (true≢false (sym h ∙ ap test (get_or_past k.parties t nobody l) ∙ n))) (cases_lt t (length k.parties))

pub put_self : (k : Known) (t : ℕ) (p : Party) → t < length k.parties → party (put k t p) t ≡ p
put_self k t p l = get_or-set_same k.parties t p nobody l

pub put_other : (k : Known) (t u : ℕ) (p : Party) → (u == t) ≡ false → party (put k t p) u ≡ party k u
put_other k t u p h = get_or-set_other k.parties t u p nobody (eqb-false u t h)

-- each caller of x let go
abbrev pub all_let_go : ℕ → Known → Known
all_let_go x k = record { parties = map (let_go x) k.parties; ended = k.ended }

pub let_go_at : (x : ℕ) (k : Known) (t : ℕ) → party (all_let_go x k) t ≡ let_go x (party k t)
let_go_at x k t = get_or-map (let_go x) k.parties t nobody

pub idle_at : (n t : ℕ) → t < n → party (known_at_start n) t ≡ idle
idle_at zero t l = absurd (omega (arith, l))
idle_at (suc n) zero l = refl
idle_at (suc n) (suc t) l = idle_at n t (omega (arith, l))

pub idle_length : (n : ℕ) → length (idle_parties n) ≡ n
idle_length zero = refl
idle_length (suc n) = let q = idle_length n in omega (arith, q)

-- what holds at each number holds of each
pub all_at : (test : Party → Bool) (parties : List Party) → ((t : ℕ) → test (get_or parties t nobody) ≡ true) → list_all test parties ≡ true
all_at test [] h = refl
all_at test (p ∷ parties) h = both (h 0) (all_at test parties (λ t. h (suc t)))

pub all_of : (test : Party → Bool) (parties : List Party) → test nobody ≡ true → list_all test parties ≡ true → (t : ℕ) → test (get_or parties t nobody) ≡ true
all_of test [] n h t = n
all_of test (p ∷ parties) n h zero = (and_parts (test p) (list_all test parties) h).0
all_of test (p ∷ parties) n h (suc t) = all_of test parties n (and_parts (test p) (list_all test parties) h).1 t

-- the end of the program alone is known to end it
pub advanced_ended : (owner : ℕ → ℕ) (k : Known) (e : Event) → (advanced owner k e).ended ≡ (is_last e || k.ended)
advanced_ended owner k (R c e i) = refl
advanced_ended owner k (E a) = go (party k a).callers
  where
    go : (callers : List ℕ) → (part k a callers).ended ≡ k.ended
    go [] = refl
    go (c ∷ callers) = refl
advanced_ended owner k (S a) = refl
advanced_ended owner k (D a n) = refl
advanced_ended owner k (C c e i) = refl
advanced_ended owner k (T c e i) = refl
advanced_ended owner k (F c e i) = refl
advanced_ended owner k (X a) = refl
advanced_ended owner k (B t x) = go (party k x).closed
  where
    go : (b : Bool) → (if b then k else fall k x).ended ≡ k.ended
    go true = refl
    go false = refl
advanced_ended owner k Z = refl
