-- What there is to be known of a task that stands otherwise, is let go or falls.
use Rattle.std.proofs.Common.{◌≡◌, ℕ, Bool, true, false, ◌==◌, if◌then◌else◌, List, [], None, refl, sym, ap, ◌∙◌, true≢false}
use Rattle.event_machine.specs.declared.Standing.{Standing}
use Rattle.event_machine.specs.declared.Standing.TheVariants.{Live, Waiting, Queued, Served, Completed, Killed}
use Rattle.event_machine.specs.States.{Ops, Seat, live, completed, is_closed, is_served_by}
use Rattle.event_machine.specs.Effects.{parted, released, fallen}
use Rattle.event_machine.specs.Worlds.{still}
use Rattle.event_machine.specs.progress.Known.{Party, with_server, let_go}
use Rattle.event_machine.specs.progress.Laws.{server_of, told}

module _ {L : Type 0} (ops : Ops L) where
  -- a free task
  pub told_free : (seat : Seat L) → seat.standing ≡ Live → told ops seat ≡ told ops (live seat.local)
  told_free seat h = ap (λ z. told ops (record { local = seat.local; standing = z })) h

  -- one that keeps its callers
  pub told_keeps : (l m : L) (z : Standing) → (is_closed z ≡ false → ops.callers m ≡ ops.callers l) → told ops (record { local = m; standing = z }) ≡ told ops (record { local = l; standing = z })
  told_keeps l m z h = go (is_closed z) h
    where
      go : (b : Bool) → (b ≡ false → ops.callers m ≡ ops.callers l) →
          ◌≡◌ {A = Party} (record { closed = b; server = server_of z; callers = if b then [] else ops.callers m }) (record { closed = b; server = server_of z; callers = if b then [] else ops.callers l })
      go true k = refl
      go false k = ap (λ (cs : List ℕ). record { closed = false; server = server_of z; callers = cs }) (k refl)

  pub told_still : (l : L) (z : Standing) → told ops (record { local = l; standing = still z }) ≡ told ops (record { local = l; standing = z })
  told_still l Live = refl
  told_still l Waiting = refl
  told_still l Queued = refl
  told_still l (Served by abnormal) = refl
  told_still l Completed = refl
  told_still l Killed = refl

  -- a caller that goes on to be live, or completes where it is abnormal
  abbrev gone : L → L → Bool → Seat L
  gone l m abnormal = if abnormal then completed l else live m

  gone_told : (l m : L) (by : ℕ) (abnormal : Bool) → (abnormal ≡ false → ops.callers m ≡ ops.callers l) →
      told ops (gone l m abnormal) ≡ with_server None (told ops (record { local = l; standing = Served by abnormal }))
  gone_told l m by true h = refl
  gone_told l m by false h = ap (λ (cs : List ℕ). record { closed = false; server = None; callers = cs }) (h refl)

  -- a caller as its rendezvous ends
  pub told_parted : (a : ℕ) (acceptor l : L) (z : Standing) → is_served_by a z ≡ true → (is_closed z ≡ false → ops.callers (ops.resumed acceptor l) ≡ ops.callers l) →
      told ops (parted ops a acceptor (record { local = l; standing = z })) ≡ with_server None (told ops (record { local = l; standing = z }))
  told_parted a acceptor l Live q h = absurd (true≢false (sym q))
  told_parted a acceptor l Waiting q h = absurd (true≢false (sym q))
  told_parted a acceptor l Queued q h = absurd (true≢false (sym q))
  told_parted a acceptor l (Served by abnormal) q h =
      ap (λ b. told ops (if b then gone l (ops.resumed acceptor l) abnormal else record { local = l; standing = Served by abnormal })) q ∙
      gone_told l (ops.resumed acceptor l) by abnormal h
  told_parted a acceptor l Completed q h = absurd (true≢false (sym q))
  told_parted a acceptor l Killed q h = absurd (true≢false (sym q))

  -- a task as x closes
  pub told_released : (x : ℕ) (l : L) (z : Standing) → (is_served_by x z ≡ true → is_closed z ≡ false → ops.callers (ops.raised l) ≡ ops.callers l) →
      told ops (released ops x (record { local = l; standing = z })) ≡ let_go x (told ops (record { local = l; standing = z }))
  told_released x l Live h = refl
  told_released x l Waiting h = refl
  told_released x l Queued h = refl
  told_released x l (Served by abnormal) h = go (by == x) h
    where
      go : (b : Bool) → (b ≡ true → abnormal ≡ false → ops.callers (ops.raised l) ≡ ops.callers l) →
          told ops (if b then gone l (ops.raised l) abnormal else record { local = l; standing = Served by abnormal }) ≡
          (if b then with_server None (told ops (record { local = l; standing = Served by abnormal })) else told ops (record { local = l; standing = Served by abnormal }))
      go true k = gone_told l (ops.raised l) by abnormal (k refl)
      go false k = refl
  told_released x l Completed h = refl
  told_released x l Killed h = refl

  -- a task that falls, of which this was known
  pub told_fallen : (closing : Standing) (l : L) (z : Standing) → is_closed closing ≡ true → server_of closing ≡ None → is_closed z ≡ false →
      told ops (record { local = l; standing = fallen closing z }) ≡ record { closed = true; server = server_of z; callers = [] }
  told_fallen closing l Live c s h = closed_told closing c s
    where
      closed_told : (y : Standing) → is_closed y ≡ true → server_of y ≡ None → told ops (record { local = l; standing = y }) ≡ record { closed = true; server = None; callers = [] }
      closed_told y c s = λ i. record { closed = c i; server = s i; callers = if c i then [] else ops.callers l }
  told_fallen closing l Waiting c s h = λ i. record { closed = c i; server = s i; callers = if c i then [] else ops.callers l }
  told_fallen closing l Queued c s h = λ i. record { closed = c i; server = s i; callers = if c i then [] else ops.callers l }
  told_fallen closing l (Served by abnormal) c s h = refl
  told_fallen closing l Completed c s h = absurd (true≢false h)
  told_fallen closing l Killed c s h = absurd (true≢false h)
