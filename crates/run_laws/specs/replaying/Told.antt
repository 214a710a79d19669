-- The law as it is told: over all programs with states of these types (this project's rule).
use Rattle.std.specs.Prelude.{◌≡◌, ℕ, ℤ, suc, ◌<◌, Bool, true, List}
use Rattle.event_machine.specs.declared.Event.{Event}
use Rattle.event_machine.specs.Offers.{calls_in, is_any_form}
use Rattle.event_machine.specs.States.{Seat, State}
use Rattle.event_machine.specs.Lawful.{IsLawful}
use Rattle.event_machine.specs.Programs.{Program, numbered, IsOpening}
use Rattle.event_machine.specs.Worlds.{world_of, aborts}
use Rattle.run_laws.specs.replaying.Copies.{Spots, IsNumbered, HasOwners, Copy, copy_ops, written}
use Rattle.run_laws.specs.replaying.Scripts.{Progress, IsProgress}
use Rattle.run_laws.specs.replaying.Plainly.{plain_progress}
use Rattle.run_laws.specs.replaying.Rewritings.{Setting, Imitates, OpensSo, opening_copy}
use Rattle.run_laws.specs.replaying.Laws.{Controlled}

-- what a test says
abbrev pub IsYes : {A : Type 0} → (A → Bool) → A → Type 0
IsYes test a = test a ≡ true

-- A program whose tasks keep the rules of tasks, in its opening state.
pub record Original (L : Type 0) : Type 0 where
  pub p : Program L
  pub out : L → List ℕ
  pub proper : L → Bool
  pub lawful : IsLawful p.ops (IsYes proper)
  -- the main program is a task; an abort statement names tasks, and a call an entry of a task
  pub main : 0 < p.size
  pub aborts_tasks : (l : L) (x : ℕ) → IsYes proper l → aborts x (p.ops.offer l) ≡ true → x < p.size
  pub calls_tasks : (l : L) (e : ℕ) (i : ℤ) → IsYes proper l → calls_in is_any_form e i (p.ops.offer l) ≡ true → p.owner e < p.size
  pub opening : State (ℕ → Seat L)
  pub opens_so : IsOpening (numbered p) opening
  pub starts_proper : (t : ℕ) → t < p.size → IsYes proper (opening.seats t).local

-- its rewriting for a sequence, with these entries and owners and this progress
abbrev pub setting : {L G : Type 0} (o : Original L) (n : Spots) → IsNumbered n → (owner : ℕ → ℕ) → HasOwners o.p.owner o.p.size n owner →
    (progress : Progress G) → IsProgress o.p (world_of o.opening) progress → List Event → Setting
setting {L} {G} o n numbers owner owners progress knows s = record {
  L = L;
  G = G;
  p = o.p;
  out = o.out;
  IsProper = IsYes o.proper;
  lawful = o.lawful;
  Fine = λ l. Unit {0};
  main = o.main;
  calls_tasks = λ l e i proper fine calls. o.calls_tasks l e i proper calls;
  aborts_tasks = λ l x proper fine names. o.aborts_tasks l x proper names;
  opening = o.opening;
  opens_so = o.opens_so;
  proper = o.starts_proper;
  fine = λ moves made runs t below free. tt;
  n = n;
  numbers = numbers;
  owner = owner;
  owners = owners;
  progress = progress;
  knows = knows;
  s = s;
}

-- a state meets another where some witness shows it
abbrev pub Meeting : {K M W : Type 0} → (W → K → M → Bool) → K → M → Type 0
Meeting {K} {M} {W} meets k m = (w : W) × (meets w k m ≡ true)

-- The law: each rewritten program whose tasks do what they are to do is controlled. Whatever the schedule, each of its runs shows a prefix of the
-- sequence, as some run of the original does; it can go on with exactly the next feasible events; and where no action applies any more it has shown
-- the longest feasible part, with the original's output.
abbrev pub LawOfReplaying : Type 0 → Type 0 → Type 0 → Type 0 → Type 0
LawOfReplaying L G K W =
    (o : Original L) (n : Spots) (numbers : IsNumbered n) (owner : ℕ → ℕ) (owners : HasOwners o.p.owner o.p.size n owner)
    (progress : Progress G) (knows : IsProgress o.p (world_of o.opening) progress) (s : List Event)
    (q : Program K) (out : K → List ℕ) (meets : W → K → Copy L → Bool) (at : State (ℕ → Seat K)) →
    q.owner ≡ owner → q.size ≡ suc (suc o.p.size) →
    Imitates (setting o n numbers owner owners progress knows s) q.ops out (Meeting meets) →
    OpensSo (setting o n numbers owner owners progress knows s) q.ops out (Meeting meets) at →
    Controlled (setting o n numbers owner owners progress knows s) q out at

-- Its premises are met together by the program and this sequence: there are numbers, the plain progress knows what is to be known, and the copy is a
-- rewritten program.
pub record IsMetBy {L : Type 0} (o : Original L) (s : List Event) : Type 0 where
  pub n : Spots
  pub numbers : IsNumbered n
  pub owner : ℕ → ℕ
  pub owners : HasOwners o.p.owner o.p.size n owner
  pub knows : IsProgress o.p (world_of o.opening) (plain_progress o.p (world_of o.opening))
  pub imitates : Imitates (setting o n numbers owner owners (plain_progress o.p (world_of o.opening)) knows s) (copy_ops o.p.ops n) (written o.out) (λ k m. k ≡ m)
  pub opens : OpensSo (setting o n numbers owner owners (plain_progress o.p (world_of o.opening)) knows s) (copy_ops o.p.ops n) (written o.out) (λ k m. k ≡ m)
      (opening_copy (setting o n numbers owner owners (plain_progress o.p (world_of o.opening)) knows s))

-- They are met by every program with every sequence.
abbrev pub MetByAll : Type 0 → Type 0
MetByAll L = (o : Original L) (s : List Event) → IsMetBy o s
