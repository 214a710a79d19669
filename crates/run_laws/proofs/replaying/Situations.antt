-- Where the tasks of the copy are as an event comes.
use Rattle.std.proofs.Common.{◌≡◌, ℕ, ◌<◌, ◌==◌, true, false, List, ◌∷◌}
use Rattle.std.specs.Prelude.{ℤ, pos}
use Rattle.event_machine.specs.declared.Standing.TheVariants.{Served}
use Rattle.event_machine.specs.declared.Event.{Event}
use Rattle.event_machine.specs.declared.Event.TheVariants.{R, E, S, D, C, T, F, X, B, Z}
use Rattle.event_machine.specs.Offers.{calls_in, is_any_form, is_conditional, is_timed, waits_with, is_finish, opens, is_else, is_delay}
use Rattle.event_machine.specs.States.{live, is_served_by}
use Rattle.event_machine.specs.Worlds.{World, aborts}
use Rattle.run_laws.specs.replaying.Permits.{Permit, ToMeet, ToFinish, ToElse, ToDelay, ToCallElse, ToExpire, ToFail, ToAbort, Op, Go, Done, Join}
use Rattle.run_laws.specs.replaying.Copies.{Copy, Based, Holding, Saying, Controlling, Handing}
use Rattle.run_laws.specs.replaying.Rewritings.{Setting, control}

-- a task at a call, which its permit is for
abbrev pub IsCalling : (x : Setting) → ℕ → Copy x.L → Type 0
IsCalling x u k = (m : x.L) × (e : ℕ) × (i : ℤ) × (k ≡ Holding u (ToMeet e i) m) × (calls_in is_any_form e i (x.p.ops.offer m) ≡ true)

module _ (x : Setting) (w : World (Copy x.L)) where
  -- who meets whom
  pub data Met (c e : ℕ) (i : ℤ) : Type 0 where
    MetGo : (l : x.L) (permit : Permit) (ops : List Op) → c < x.p.size → w.tasks c ≡ live (Based c l) → x.p.ops.can_step l ≡ false →
        w.tasks (control x) ≡ live (Controlling (Go c permit ∷ ops)) → e ≡ x.n.go → i ≡ pos c → Met c e i
    MetDone : (l : x.L) (ops : List Op) → c < x.p.size → w.tasks c ≡ live (Saying c l) → w.tasks (control x) ≡ live (Controlling (Done c ∷ ops)) → e ≡ x.n.done → i ≡ pos c → Met c e i
    MetBoth : (f : ℕ) (l m : x.L) → c < x.p.size → x.owner e < x.p.size → w.tasks c ≡ live (Holding c (ToMeet f i) l) → w.tasks (x.owner e) ≡ live (Holding (x.owner e) (ToMeet f i) m) →
        e ≡ x.n.original f → calls_in is_any_form f i (x.p.ops.offer l) ≡ true → waits_with (opens f i) (x.p.ops.offer m) ≡ true → (c ≡ x.owner e → ⊥) → Met c e i

  -- whose rendezvous ends
  pub data Ended (a : ℕ) : Type 0 where
    EndedGo : (t : ℕ) (l : x.L) (permit : Permit) (ops : List Op) → a ≡ control x → t < x.p.size → w.tasks (control x) ≡ live (Handing (Go t permit) ops) →
        w.tasks t ≡ record { local = Based t l; standing = Served (control x) false } → x.p.ops.can_step l ≡ false → Ended a
    EndedDone : (t : ℕ) (l : x.L) (ops : List Op) → a ≡ control x → t < x.p.size → w.tasks (control x) ≡ live (Handing (Done t) ops) →
        w.tasks t ≡ record { local = Saying t l; standing = Served (control x) false } → Ended a
    EndedBoth : (l : x.L) (c : ℕ) (callers : List ℕ) → a < x.p.size → w.tasks a ≡ live (Holding a ToFinish l) → is_finish (x.p.ops.offer l) ≡ true →
        x.p.ops.callers l ≡ c ∷ callers → (c == a) ≡ false → is_served_by a (w.tasks c).standing ≡ true → IsCalling x c (w.tasks c).local → Ended a

  -- whose call fails
  pub data Failed (c e : ℕ) (i : ℤ) : Type 0 where
    FailedCall : (f : ℕ) (l : x.L) → w.tasks c ≡ live (Holding c (ToFail f i) l) → calls_in is_any_form f i (x.p.ops.offer l) ≡ true → Failed c e i
    FailedJoin : (t : ℕ) (ops : List Op) → c ≡ control x → w.tasks (control x) ≡ live (Controlling (Join t ∷ ops)) → Failed c e i

  -- Where the tasks are at an event.
  abbrev pub Situation : Event → Type 0
  Situation (R c e i) = Met c e i
  Situation (E a) = Ended a
  Situation (S a) = (l : x.L) × (w.tasks a ≡ live (Holding a ToElse l)) × (waits_with is_else (x.p.ops.offer l) ≡ true)
  Situation (D a k) = (l : x.L) × (w.tasks a ≡ live (Holding a (ToDelay k) l)) × (waits_with (is_delay k) (x.p.ops.offer l) ≡ true)
  Situation (C c e i) = (f : ℕ) × (l : x.L) × (w.tasks c ≡ live (Holding c (ToCallElse f i) l)) × (calls_in is_conditional f i (x.p.ops.offer l) ≡ true)
  Situation (T c e i) = (f : ℕ) × (l : x.L) × (w.tasks c ≡ live (Holding c (ToExpire f i) l)) × (calls_in is_timed f i (x.p.ops.offer l) ≡ true)
  Situation (F c e i) = Failed c e i
  Situation (X a) = Unit {0}
  Situation (B t v) = (l : x.L) × (w.tasks t ≡ live (Holding t (ToAbort v) l)) × (aborts v (x.p.ops.offer l) ≡ true) ×
      ((u : ℕ) → is_served_by v (w.tasks u).standing ≡ true → IsCalling x u (w.tasks u).local)
  Situation Z = Unit {0}
