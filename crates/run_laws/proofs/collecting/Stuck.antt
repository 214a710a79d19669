-- Where no action of the table applies, the world has no local step, no rendezvous starts or ends, and no task is at its end.
use Rattle.std.proofs.Common.{◌≡◌, ℕ, ◌+◌, Bool, true, false, not, ◌&&◌, ◌||◌, ◌==◌, if◌then◌else◌, List, [], ◌∷◌, cond, filter, refl, sym, ap, ap₂, ◌∙◌, ⊎_elim, true≢false, arith}
use Rattle.std.specs.Prelude.{ℤ}
use Rattle.std.proofs.lemmas.Bool.{and_parts, or_left, or_right, cases_Bool, ne_eqb}
use Rattle.event_machine.specs.declared.CallForm.{CallForm}
use Rattle.event_machine.specs.declared.Standing.{Standing}
use Rattle.event_machine.specs.declared.Standing.TheVariants.{Live, Waiting, Queued, Served, Completed, Killed}
use Rattle.event_machine.specs.declared.Action.{Action}
use Rattle.event_machine.specs.declared.Action.TheVariants.{Local, Arrive, Start, Finish, Complete}
use Rattle.event_machine.specs.declared.Event.TheVariants.{R, E, X}
use Rattle.event_machine.specs.Offers.{Offer, Nothing, Calls, Waits, Finishes, Ends, calls_in, is_any_form, is_conditional, queues_up, waits_with, is_finish, is_end, opens}
use Rattle.event_machine.specs.States.{Seat, State, seen, is_live, is_waiting, is_queued, is_closed}
use Rattle.event_machine.specs.Applying.{can, arrives, starts, queue_of, queues_at, is_first, is_empty}
use Rattle.event_machine.specs.Programs.{Program, numbered}
use Rattle.event_machine.specs.Queues.{suits, IsSuited, IsLined}
use Rattle.event_machine.specs.Soundness.{times}
use Rattle.event_machine.specs.Worlds.{Step, still, world_of, can_move, happens, offers}
use Rattle.event_machine.proofs.Basics.{both}
use Rattle.event_machine.proofs.Standings.{is-Live, first_passes}
use Rattle.event_machine.proofs.Offering.{calls_is, waits_is, finish_is, end_is, else_conditional}
use Rattle.common_lemmas.proofs.Numbers.{equal_self}

module _ {L : Type 0} (p : Program L) (rests : (l : L) → p.ops.can_step l ≡ true → p.ops.offer l ≡ Nothing)
    (s : State (ℕ → Seat L)) (suited : IsSuited p.ops s.seats) (lined : IsLined s) (runs : s.ended ≡ false) (stuck : (action : Action) → can (numbered p) s action ≡ true → ⊥) where
  -- ---- how a free task stands that offers this

  suits_at : (t : ℕ) (z : Standing) (o : Offer) → (s.seats t).standing ≡ z → p.ops.offer (s.seats t).local ≡ o → suits z o ≡ true
  suits_at t z o q r = ap₂ suits (sym q) (sym r) ∙ suited t

  stands : (t : ℕ) (o : Offer) → p.ops.offer (s.seats t).local ≡ o → still (s.seats t).standing ≡ Live → (P : Standing → Type 0) → ((s.seats t).standing ≡ Live → P Live) →
      (suits Waiting o ≡ true → P Waiting) → ((s.seats t).standing ≡ Queued → suits Queued o ≡ true → P Queued) → P (s.seats t).standing
  stands t o q free P lives waits queues = go (s.seats t).standing refl free
    where
      go : (z : Standing) → (s.seats t).standing ≡ z → still z ≡ Live → P z
      go Live e f = lives e
      go Waiting e f = waits (suits_at t Waiting o e q)
      go Queued e f = queues e (suits_at t Queued o e q)
      go (Served by abnormal) e f = absurd (let k : Served by abnormal ≡ Live = f in cc)
      go Completed e f = absurd (let k : Completed ≡ Live = f in cc)
      go Killed e f = absurd (let k : Killed ≡ Live = f in cc)

  lives : (t : ℕ) (o : Offer) → p.ops.offer (s.seats t).local ≡ o → still (s.seats t).standing ≡ Live → suits Waiting o ≡ false → suits Queued o ≡ false → (s.seats t).standing ≡ Live
  lives t o q free no_wait no_queue = stands t o q free (λ z. z ≡ Live) (λ e. refl) (λ h. absurd (true≢false (sym h ∙ no_wait))) (λ e h. absurd (true≢false (sym h ∙ no_queue)))

  -- what a test on the offer of a free task says
  free_of : (test : Offer → Bool) (t : ℕ) → offers p.ops test ((world_of s).tasks t) ≡ true → (still (s.seats t).standing ≡ Live) × (test (p.ops.offer (s.seats t).local) ≡ true)
  free_of test t h =
      let k = and_parts (is_live (still (s.seats t).standing)) (test (p.ops.offer (s.seats t).local)) h in
      (is-Live (still (s.seats t).standing) k.0, k.1)

  -- ---- no local step, no end

  pub no_step : (t : ℕ) → can_move p (world_of s) (Step t) ≡ true → ⊥
  no_step t h =
      let k = and_parts (not s.ended) (is_live (still (s.seats t).standing) && p.ops.can_step (s.seats t).local) h in
      let l = and_parts (is_live (still (s.seats t).standing)) (p.ops.can_step (s.seats t).local) k.1 in
      stuck (Local t) (both k.0 (both (ap is_live (lives t Nothing (rests (s.seats t).local l.1) (is-Live (still (s.seats t).standing) l.0) refl refl)) l.1))

  pub no_finish : (a : ℕ) → happens p (world_of s).tasks (E a) ≡ true → ⊥
  no_finish a h =
      let k = free_of is_finish a h in
      stuck (Finish a) (both (ap not runs) (both (ap is_live (lives a Finishes (finish_is (p.ops.offer (s.seats a).local) k.1) k.0 refl refl)) k.1))

  pub no_exit : (a : ℕ) → happens p (world_of s).tasks (X a) ≡ true → ⊥
  no_exit a h =
      let parts = and_parts (not (a == 0)) (offers p.ops is_end ((world_of s).tasks a)) h in
      let k = free_of is_end a parts.1 in
      stuck (Complete a) (both (ap not runs) (both parts.0 (both (ap is_live (lives a Ends (end_is (p.ops.offer (s.seats a).local) k.1) k.0 refl refl)) k.1)))

  -- ---- no start

  -- the first of those in a line that pass a test
  first_of : (test : ℕ → Bool) (line : List ℕ) (c : ℕ) → test c ≡ true → times c line ≡ 1 → (f : ℕ) × (test f ≡ true) × (is_first f (filter test line) ≡ true)
  first_of test [] c h n = absurd (omega (arith, n))
  first_of test (u ∷ line) c h n = go (test u) refl (first_of test line c h)
    where
      go : (b : Bool) → test u ≡ b → (times c line ≡ 1 → (f : ℕ) × (test f ≡ true) × (is_first f (filter test line) ≡ true)) →
          (f : ℕ) × (test f ≡ true) × (is_first f (cond b (u ∷ filter test line) (filter test line)) ≡ true)
      go true q rec = (u, q, equal_self u)
      go false q rec =
          let other : (u == c) ≡ false = ne_eqb u c (λ e. true≢false (sym h ∙ sym (ap test e) ∙ q)) in
          let rest : 0 + times c line ≡ 1 = ap (λ b. (if b then 1 else 0) + times c line) (sym other) ∙ n in
          rec (omega (arith, rest))

  head_of : (xs : List ℕ) → is_empty xs ≡ false → (f : ℕ) × (is_first f xs ≡ true)
  head_of [] h = absurd (true≢false h)
  head_of (f ∷ xs) h = (f, equal_self f)

  module _ (c e : ℕ) (i : ℤ) (h : happens p (world_of s).tasks (R c e i) ≡ true) where
    called : (still (s.seats c).standing ≡ Live) × (calls_in is_any_form e i (p.ops.offer (s.seats c).local) ≡ true)
    called = free_of (calls_in is_any_form e i) c (and_parts (offers p.ops (calls_in is_any_form e i) ((world_of s).tasks c)) (offers p.ops (waits_with (opens e i)) ((world_of s).tasks (p.owner e))) h).0

    waited : (still (s.seats (p.owner e)).standing ≡ Live) × (waits_with (opens e i) (p.ops.offer (s.seats (p.owner e)).local) ≡ true)
    waited = free_of (waits_with (opens e i)) (p.owner e) (and_parts (offers p.ops (calls_in is_any_form e i) ((world_of s).tasks c)) (offers p.ops (waits_with (opens e i)) ((world_of s).tasks (p.owner e))) h).1

    -- the owner waits
    owner_waits : (s.seats (p.owner e)).standing ≡ Waiting
    owner_waits =
        let (choices, q) = waits_is (opens e i) (p.ops.offer (s.seats (p.owner e)).local) waited.1 in
        stands (p.owner e) (Waits choices) q waited.0 (λ z. z ≡ Waiting)
        (λ free. absurd (stuck (Arrive (p.owner e)) (both (ap not runs) (both (ap is_live free) (ap (arrives p.owner (seen (numbered p) s)) q)))))
        (λ k. refl) (λ r k. absurd (true≢false (sym k)))

    abbrev queue : List ℕ
    queue = queue_of p.ops (seen (numbered p) s) e i

    -- no caller that is served next is there
    no_next : (f : ℕ) (form : CallForm) → p.ops.offer (s.seats f).local ≡ Calls form e i →
        (is_first f queue || ((is_live (s.seats f).standing && is_conditional form) && is_empty queue)) ≡ true → ⊥
    no_next f form q serves = stuck (Start f) (both (ap not runs) (ap (starts p.ops p.owner (seen (numbered p) s) f) q ∙ both (both (ap is_waiting owner_waits) waited.1) serves))

    no_first : (f : ℕ) → is_first f queue ≡ true → ⊥
    no_first f first =
        let k = and_parts (is_queued (s.seats f).standing) (calls_in is_any_form e i (p.ops.offer (s.seats f).local)) (first_passes (queues_at p.ops (seen (numbered p) s) e i) f s.line first) in
        let (form, q, passes) = calls_is is_any_form e i (p.ops.offer (s.seats f).local) k.1 in
        no_next f form q (or_left (is_first f queue) ((is_live (s.seats f).standing && is_conditional form) && is_empty queue) first)

    pub no_start : ⊥
    no_start = go (calls_is is_any_form e i (p.ops.offer (s.seats c).local) called.1)
      where
        open' : not (is_closed (s.seats (p.owner e)).standing) ≡ true
        open' = ap (λ z. not (is_closed z)) owner_waits

        lives' : (form : CallForm) → p.ops.offer (s.seats c).local ≡ Calls form e i → (s.seats c).standing ≡ Live → ⊥
        lives' form q free = ⊎_elim
            (λ k. stuck (Arrive c) (both (ap not runs) (both (ap is_live free) (ap (arrives p.owner (seen (numbered p) s)) q ∙ both k open'))))
            (λ k. ⊎_elim
            (λ g. no_next c form q (or_right (is_first c queue) ((is_live (s.seats c).standing && is_conditional form) && is_empty queue) (both (both (ap is_live free) (else_conditional form k)) g)))
            (λ g. let (f, first) = head_of queue g in no_first f first)
            (cases_Bool (is_empty queue)))
            (cases_Bool (queues_up form))

        queues' : (s.seats c).standing ≡ Queued → ⊥
        queues' queued =
            let (f, passes, first) = first_of (queues_at p.ops (seen (numbered p) s) e i) s.line c (both (ap is_queued queued) called.1) (lined c ∙ ap (λ z. if is_queued z then 1 else 0) queued) in
            no_first f first

        go : (form : CallForm) × (p.ops.offer (s.seats c).local ≡ Calls form e i) × (is_any_form form ≡ true) → ⊥
        go (form, q, passes) = stands c (Calls form e i) q called.0 (λ z. ⊥) (lives' form q) (λ k. true≢false (sym k)) (λ r k. queues' r)
