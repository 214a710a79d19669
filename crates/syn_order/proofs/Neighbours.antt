-- Neighbours in a list of events.
use Rattle.std.proofs.Common.{◌≡◌, ℕ, zero, suc, ◌+◌, ◌-◌, ◌<◌, ◌≤◌, Bool, true, false, ◌⊎◌, inl, inr, List, [], ◌∷◌, length, get_or, take, refl, sym, ap, ◌∙◌, subst, true≢false, arith}
use Rattle.std.specs.Prelude.{◌↔◌, IsTrue, IsErrAnd, IfErr}
use Rattle.std.proofs.Common.{Result, Ok, Err}
use Rattle.std.proofs.lemmas.Bool.{cases_order}
use Rattle.std.proofs.lemmas.List.{get_or-take, take-take, length-take-le, take_all}
use Rattle.event_machine.specs.declared.Event.{Event}
use Rattle.event_machine.specs.declared.Event.TheVariants.{Z}
use Rattle.event_machine.specs.progress.Known.{Known, known_at_start, known, admits, advanced}
use Rattle.syn_order.specs.declared.errors.OrderError.{OrderError}
use Rattle.syn_order.specs.declared.errors.OrderError.TheVariants.{NotAdmitted, NoOrder, Memory}
use Rattle.syn_order.specs.Orders.{AreAdmitted}
use Rattle.syn_order.specs.Apart.{AreApart}
use Rattle.syn_order.specs.Refusals.{IsSplitError, AreNeighboursApart}
use Rattle.syn_order.proofs.Following.{admitted_further, known_further, refused_there}

-- ---- whether two events are apart

pub apart_further : (f : ℕ → Bool) (t : ℕ) → ((u : ℕ) → u < t → f u ≡ false) → f t ≡ false → (u : ℕ) → u < t + 1 → f u ≡ false
apart_further f t h q u l = go (cases_order u t)
  where
    go : ((u ≡ t) ⊎ ((u < t) ⊎ (t < u))) → f u ≡ false
    go (inl p) = ap f p ∙ q
    go (inr (inl m)) = h u m
    go (inr (inr m)) = absurd (omega (arith, l, m))

pub apart_at_end : (f : ℕ → Bool) (n t : ℕ) → n ≤ t → ((u : ℕ) → u < t → f u ≡ false) → IsTrue true ↔ ((u : ℕ) → u < n → f u ≡ false)
apart_at_end f n t m h = (λ q u l. h u (omega (arith, l, m)), λ q. refl)

pub not_apart : (f : ℕ → Bool) (n t : ℕ) → t < n → f t ≡ true → IsTrue false ↔ ((u : ℕ) → u < n → f u ≡ false)
not_apart f n t m h = (λ q. absurd (true≢false (sym q)), λ q. absurd (true≢false (sym h ∙ q t m)))

-- ---- a front of the events

-- what is refused in a front is refused
pub refused_longer : (owner : ℕ → ℕ) (n m : ℕ) (events : List Event) (error : OrderError) → m ≤ length events → IsSplitError owner n (take m events) error → IsSplitError owner n events error
refused_longer owner n m events (NotAdmitted at) l h = record {
  from_one = h.from_one;
  within = let w = h.within in omega (arith, w, l, count);
  before = subst (AreAdmitted owner (known_at_start n)) (take-take (at - 1) m events (let w = h.within in omega (arith, w, count))) h.before;
  refused = λ a. h.refused (subst (AreAdmitted owner (known_at_start n)) (sym (take-take at m events (let w = h.within in omega (arith, w, count)))) a);
}
  where
    count : length (take m events) ≡ m
    count = length-take-le m events l
refused_longer owner n m events (NoOrder task) l h = h
refused_longer owner n m events Memory l h = h

module _ (owner : ℕ → ℕ) (n : ℕ) (events : List Event) (k : ℕ) where
  -- neighbours in a front
  pub same_neighbours : 1 ≤ k → AreNeighboursApart owner n (take (k + 1) events) k ≡ AreNeighboursApart owner n events k
  same_neighbours l = λ j. AreApart owner n (known owner n (front j)) (one j) (two j)
    where
      front : take (k - 1) (take (k + 1) events) ≡ take (k - 1) events
      front = take-take (k - 1) (k + 1) events (omega arith)

      one : get_or (take (k + 1) events) (k - 1) Z ≡ get_or events (k - 1) Z
      one = get_or-take (k + 1) events (k - 1) Z (omega arith)

      two : get_or (take (k + 1) events) k Z ≡ get_or events k Z
      two = get_or-take (k + 1) events k Z (omega arith)

  pub same_apart : 1 ≤ k → (x : Bool) → (IsTrue x ↔ AreNeighboursApart owner n (take (k + 1) events) k) → IsTrue x ↔ AreNeighboursApart owner n events k
  same_apart l x h = subst (λ (P : Type 0). IsTrue x ↔ P) (same_neighbours l) h

-- ---- the last two

-- the answer of one event that is not admitted
pub refused_error : (owner : ℕ → ℕ) (n : ℕ) (events : List Event) (i : ℕ) (d : Event) (k : Known) (error : OrderError) (at : ℕ) → i < length events → k ≡ known owner n (take i events) →
    AreAdmitted owner (known_at_start n) (take i events) → at ≡ i + 1 → error ≡ NotAdmitted at → admits owner k (get_or events i d) ≡ false → IsSplitError owner n events error
refused_error owner n events i d k error at l q a p e h =
    subst (IsSplitError owner n events) (sym (e ∙ ap NotAdmitted p)) (refused_there owner n events i d l k q a h)

-- ---- the last two events

module _ (owner : ℕ → ℕ) (n : ℕ) (events : List Event) (i : ℕ) (count : length events ≡ i + 2) (k : Known) (is_known : k ≡ known owner n (take i events))
    (before : AreAdmitted owner (known_at_start n) (take i events)) where
  pub last_but_one_refused : (d : Event) (error : OrderError) (at : ℕ) → at ≡ i + 1 → error ≡ NotAdmitted at → admits owner k (get_or events i d) ≡ false → IsSplitError owner n events error
  last_but_one_refused d error at p e h = refused_error owner n events i d k error at (omega (arith, count)) is_known before p e h

  module _ (d : Event) (m : Known) (next : m ≡ advanced owner k (get_or events i d)) (first : admits owner k (get_or events i d) ≡ true) where
    then : AreAdmitted owner (known_at_start n) (take (i + 1) events)
    then = admitted_further owner n events i d (omega (arith, count)) k is_known before first

    then_known : m ≡ known owner n (take (i + 1) events)
    then_known = known_further owner n events i d (omega (arith, count)) k is_known before m next

    pub last_refused : (c : Event) (error : OrderError) (at : ℕ) → at ≡ i + 2 → error ≡ NotAdmitted at → admits owner m (get_or events (i + 1) c) ≡ false → IsSplitError owner n events error
    last_refused c error at p e h =
        refused_error owner n events (i + 1) c m error at (omega (arith, count)) then_known then (omega (arith, p)) e h

    pub last_admitted : (c : Event) → admits owner m (get_or events (i + 1) c) ≡ true → AreAdmitted owner (known_at_start n) events
    last_admitted c h = subst (AreAdmitted owner (known_at_start n)) (take_all (i + 1 + 1) events (omega (arith, count)))
        (admitted_further owner n events (i + 1) c (omega (arith, count)) m then_known then h)

  pub last_apart_iff : (K : ℕ) (d c : Event) (x : Bool) → K ≡ i + 1 → (IsTrue x ↔ AreApart owner n k (get_or events i d) (get_or events (i + 1) c)) → IsTrue x ↔ AreNeighboursApart owner n events K
  last_apart_iff K d c x q h = subst (λ v. IsTrue x ↔ AreNeighboursApart owner n events v) (sym q) (subst (λ (P : Type 0). IsTrue x ↔ P) same h)
    where
      less : i + 1 - 1 ≡ i
      less = omega arith

      any : (xs : List Event) (j : ℕ) (a b : Event) → j < length xs → get_or xs j a ≡ get_or xs j b
      any [] j a b l = absurd (omega (arith, l))
      any (x ∷ xs) zero a b l = refl
      any (x ∷ xs) (suc j) a b l = any xs j a b (omega (arith, l))

      same : AreApart owner n k (get_or events i d) (get_or events (i + 1) c) ≡ AreNeighboursApart owner n events (i + 1)
      same = λ j. AreApart owner n ((is_known ∙ ap (λ v. known owner n (take v events)) (sym less)) j)
          ((any events i d Z (omega (arith, count)) ∙ ap (λ v. get_or events v Z) (sym less)) j) (any events (i + 1) c Z (omega (arith, count)) j)

-- an error that is passed on
pub passed_on : {A E : Type 0} (r : Result A E) (e : E) (P : E → Type 0) → IsErrAnd r (λ f. f ≡ e) → P e → IfErr r P
passed_on (Ok x) e P h p = absurd h
passed_on (Err f) e P h p = subst P (sym h) p
