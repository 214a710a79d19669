-- What the tasks of a collecting program with abort statements owe: they imitate those of the copy (this project's rule).
use Rattle.std.specs.Prelude.{◌≡◌, ℕ, suc, true, List}
use Rattle.event_machine.specs.declared.Event.TheVariants.{E}
use Rattle.event_machine.specs.States.{Ops, Seat, State, is_closed}
use Rattle.event_machine.specs.Worlds.{World, Happen, can_move}
use Rattle.run_laws.specs.imitation.Imitations.{Original}
use Rattle.run_laws.specs.imitation.Imitating.{local_at, ReachesAtLast, ImitatesWhere, OpensAs}
use Rattle.run_laws.specs.aborts.Copies.{Copy, Refusing}
use Rattle.run_laws.specs.aborts.Settings.{Setting, twin, out_of, opening_copy}
use Rattle.run_laws.specs.aborts.inner.Beside.{IsFoundBeside}

module _ {o : Original} (x : Setting o) {K : Type 0} (q : Ops K) (out : K → List ℕ) (Meets : K → Copy o.L → Type 0) where
  -- After finitely many local steps that write nothing it meets this state.
  abbrev pub Reaches : K → Copy o.L → Type 0
  Reaches k m = ReachesAtLast q out Meets (λ j. Unit {0}) k m

  -- The tasks do what those of the copy do, in each world that the copy comes to.
  abbrev pub Imitates : Type 0
  Imitates = ImitatesWhere q out Meets (λ k. Unit {0}) (twin x) (out_of x) (IsFoundBeside x)

  -- The state opens a collecting program: each task reaches the start of the original's, and the recorder that it is before its header.
  abbrev pub OpensSo : State (ℕ → Seat K) → Type 0
  OpensSo at = OpensAs q out Meets (λ k. Unit {0}) (suc o.p.size) (opening_copy x) at

-- Who is served in a refused rendezvous (`Refusing`) is completed or abnormal as it ends. The fact `resumed` of `Imitates` is asked of callers that are
-- neither, so a refused rendezvous owes nothing to it.
abbrev pub RefusedAreClosed : {o : Original} → Setting o → Type 0
RefusedAreClosed {o} x =
    (w : World (Copy o.L)) → IsFoundBeside x w → (a u c : ℕ) (l : o.L) → local_at w a ≡ Refusing u c l → can_move (twin x) w (Happen (E a)) ≡ true →
    is_closed (w.tasks c).standing ≡ true
