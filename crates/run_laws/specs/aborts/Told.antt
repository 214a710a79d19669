-- The law of collecting with aborts as it is told: over all programs with states of these types (this project's rule).
use Rattle.std.specs.Prelude.{◌≡◌, ℕ, suc, Bool, List}
use Rattle.event_machine.specs.States.{Seat, State}
use Rattle.event_machine.specs.Programs.{Program}
use Rattle.run_laws.specs.imitation.Told.{Imitated, original, Meeting}
use Rattle.run_laws.specs.aborts.Copies.{Copy}
use Rattle.run_laws.specs.aborts.Settings.{Setting, twin, out_of, opening_copy}
use Rattle.run_laws.specs.aborts.Rewritings.{Imitates, OpensSo, RefusedAreClosed}
use Rattle.run_laws.specs.aborts.Laws.{Collects}

-- The law: each collecting program whose tasks do what those of the copy do collects. Whatever the schedule, what the recorder has written is the text of
-- the events of some run of the original with the same outputs; where it has ended, of one that ends; where no action applies any more, of a quiet one;
-- and the text of each feasible list of events is recorded in some run.
abbrev pub LawOfCollecting : Type 0 → Type 0 → Type 0 → Type 0 → Type 0
LawOfCollecting L K V W =
    (o : Imitated L V) (x : Setting (original o)) (q : Program K) (out : K → List ℕ) (meets : W → K → Copy L → Bool) (at : State (ℕ → Seat K)) →
    q.owner ≡ x.owner → q.size ≡ suc o.p.size → Imitates x q.ops out (Meeting meets) → OpensSo x q.ops out (Meeting meets) at → Collects x q out at

-- Of every program, in each world of its copy that the original is beside: the caller of a refused rendezvous is completed or abnormal as that ends.
abbrev pub LawOfRefusals : Type 0 → Type 0 → Type 0
LawOfRefusals L V = (o : Imitated L V) (x : Setting (original o)) → RefusedAreClosed x

-- The premises of the law of collecting are met by the copy.
pub record IsMetBy {L V : Type 0} (o : Imitated L V) (x : Setting (original o)) : Type 0 where
  pub imitates : Imitates x (twin x).ops (out_of x) (λ k m. k ≡ m)
  pub opens : OpensSo x (twin x).ops (out_of x) (λ k m. k ≡ m) (opening_copy x)

-- They are met for every program.
abbrev pub MetByAll : Type 0 → Type 0 → Type 0
MetByAll L V = (o : Imitated L V) (x : Setting (original o)) → IsMetBy o x
