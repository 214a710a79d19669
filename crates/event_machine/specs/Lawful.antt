-- What the laws use of one task: that a task with a local step offers nothing, and how its callers come and go (9.5).
use Rattle.std.specs.Prelude.{◌≡◌, ℕ, ℤ, true, [], ◌∷◌}
use Rattle.event_machine.specs.Offers.{Nothing, Finishes, Ends, waits_with, opens}
use Rattle.event_machine.specs.States.{Ops}

-- The state is proper still, with the same callers.
abbrev pub Keeps : {L : Type 0} → Ops L → (L → Type 0) → L → L → Type 0
Keeps ops IsProper l after = IsProper after × (ops.callers after ≡ ops.callers l)

-- The rules that what one task does must keep, at the states that are proper: those that it can come to (each accept body stands in a body).
pub record IsLawful {L : Type 0} (ops : Ops L) (IsProper : L → Type 0) : Type 0 where
  -- a task that has a local step offers nothing
  pub rests : (l : L) → ops.can_step l ≡ true → ops.offer l ≡ Nothing
  -- no accept body begins or ends by a local step, nor as a call ends, an alternative is taken or an abort statement is passed
  pub stepped : (l : L) → IsProper l → ops.can_step l ≡ true → Keeps ops IsProper l (ops.stepped l)
  pub resumed : (acceptor l : L) → IsProper acceptor → IsProper l → Keeps ops IsProper l (ops.resumed acceptor l)
  pub raised : (l : L) → IsProper l → Keeps ops IsProper l (ops.raised l)
  pub took_else : (l : L) → IsProper l → Keeps ops IsProper l (ops.took_else l)
  pub took_delay : (k : ℕ) (l : L) → IsProper l → Keeps ops IsProper l (ops.took_delay k l)
  pub passed : (l : L) → IsProper l → Keeps ops IsProper l (ops.passed l)
  -- an accept puts its caller in front
  pub accepted : (e : ℕ) (i : ℤ) (c : ℕ) (caller l : L) → IsProper caller → IsProper l → waits_with (opens e i) (ops.offer l) ≡ true →
      IsProper (ops.accepted e i c caller l) × (ops.callers (ops.accepted e i c caller l) ≡ c ∷ ops.callers l)
  -- a task at the end of an accept body has a first caller, and the end of the rendezvous drops it
  pub finished : (l : L) → IsProper l → ops.offer l ≡ Finishes →
      (c : ℕ) × IsProper (ops.finished l) × (ops.callers l ≡ c ∷ ops.callers (ops.finished l))
  -- a task at the end of its body is in no accept body
  pub ended : (l : L) → IsProper l → ops.offer l ≡ Ends → ops.callers l ≡ []
