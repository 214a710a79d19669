-- Whatever its program does, the controller stands where it makes its operations.
use Rattle.std.proofs.Common.{◌≡◌, ℕ, ◌<◌, ◌≤◌, Bool, true, false, List, [], ◌∷◌, ◌++◌, length, ⊎_elim, true≢false, refl, sym, ap, ◌∙◌, subst, arith}
use Rattle.std.specs.Prelude.{ℤ}
use Rattle.std.proofs.lemmas.Bool.{and_parts, cases_lt}
use Rattle.std.proofs.lemmas.List.{get_or_past}
use Rattle.common_lemmas.proofs.Truth.{clash}
use Rattle.event_machine.specs.declared.Standing.{Standing}
use Rattle.event_machine.specs.declared.Standing.TheVariants.{Live, Waiting, Queued, Served, Completed, Killed}
use Rattle.event_machine.specs.Offers.{waits_with, opens}
use Rattle.event_machine.specs.States.{Seat, completed, is_live, is_completed, is_served}
use Rattle.event_machine.specs.Programs.{Program, IsOpening, by_number, numbered}
use Rattle.event_machine.specs.Soundness.{IsSound}
use Rattle.event_machine.specs.Worlds.{World, Move, still, can_move, moved, AreMoves, world_after, offers}
use Rattle.event_machine.proofs.Extending.{run_sound}
use Rattle.event_machine.proofs.Simulating.{sound_still}
use Rattle.event_machine.proofs.Sound.{sound_moved}
use Rattle.syn_event.specs.Numbering.{Numbering}
use Rattle.task_model.specs.Setting.{Setting}
use Rattle.task_model.specs.Tasks.{Task}
use Rattle.task_model.specs.Stands.{stepped, offer_of}
use Rattle.task_model.specs.Rendezvous.{accepted, finished, call_failed}
use Rattle.task_model.specs.Starting.{started, started_in, nobody}
use Rattle.task_model.specs.TaskOps.{task_ops}
use Rattle.task_model.specs.Machine.{ProgramWithInputs, setting_of, first_tasks, opening_of}
use Rattle.task_model.specs.Laws.{IsProper, program_in, first_world}
use Rattle.task_model.proofs.Lawful.{lawful}
use Rattle.task_model.proofs.Following as following
use Rattle.task_laws.specs.invariants.Worlds.{IsIn, IsKept}
use Rattle.task_laws.proofs.invariants.Beginning.{length_first, first_is, kept_first, kept_on}
use Rattle.task_laws.proofs.statements.Carried.{starts-so}
use Rattle.control_script.specs.declared.Op.{Op}
use Rattle.control_script.specs.declared.Op.TheVariants.{Join}
use Rattle.replay_model.specs.tables.Columns.{acts, holds}
use Rattle.table_law.specs.Controllers.{Controller, Entries, CanMake, CanMakeAll}
use Rattle.table_law.specs.States.{control_unit, starting}
use Rattle.table_law.proofs.Turning.{at-seam}
use Rattle.table_law.proofs.Making.{controllers_make_operations}
use Rattle.table_law.specs.runs.Permits.{AcceptsNoJoin, RunsIn, Stands, comes, GoesOn, stays as stays_so, steps as steps_so, AlwaysStands, AlwaysGoesOn}
use Rattle.table_law.proofs.runs.Seats.{Becomes, stays, steps, accepts, meets, ends, takes_else, takes_delay, calls_else, expires, fails, passes, becomes}
use Rattle.table_law.proofs.runs.Keeping.{moved_keeps}
use Rattle.table_law.proofs.runs.Unjoined.{Unjoined, unjoined_on, offers_no_join}
use Rattle.table_law.proofs.runs.Views.{IsOneOf, View, view, one-of, no-else, no-delay, no-conditional, no-timed, no-abort, stepping, accepting, finishing, CallsJoin, calls_join, calling, failing}

-- a task that is live has not completed
not-completed : (s : Standing) → is_live s ≡ true → is_completed s ≡ false
not-completed Live h = refl
not-completed Waiting h = refl
not-completed Queued h = refl
not-completed (Served by abnormal) h = refl
not-completed Completed h = clash h
not-completed Killed h = clash h

module _ (setup : ProgramWithInputs) (numbers : Numbering) (k : Controller) (e : Entries) (ops : List Op) (r : RunsIn setup numbers k e ops) where
  abbrev g : Setting
  g = setting_of setup numbers

  abbrev p : Program Task
  p = program_in setup numbers

  abbrev hold : Bool
  hold = holds ops

  abbrev all : List Op
  all = acts ops

  -- What is so of each world that the program comes to.
  record IsSo (w : World Task) : Type 0 where
    kept : IsKept g p.size w
    sound : IsSound p.ops IsProper w.tasks
    free : (u : ℕ) → Unjoined k e u (w.tasks u).local
    unserved : is_served (w.tasks k.number).standing ≡ false
    stands : Stands k hold all (w.tasks k.number).local

  -- ---- the start

  abbrev first : World Task
  first = first_world setup numbers

  below : (t : ℕ) → t < p.size → t < length numbers.tasks
  below t l = let same : p.size ≡ length numbers.tasks = length_first setup numbers (length numbers.tasks) in omega (arith, same, l)

  -- a task starts so, where it is one of the program's
  seat-is : (t : ℕ) → t < length numbers.tasks → first.tasks t ≡ record { local = started g setup.inputs t; standing = Live }
  seat-is t l = ap (λ (seat : Seat Task). record { local = seat.local; standing = still seat.standing }) (first_is setup numbers (length numbers.tasks) t l)

  seat-past : (t : ℕ) → length numbers.tasks ≤ t → (first.tasks t).local ≡ nobody
  seat-past t l =
      let same : length (first_tasks setup numbers (length numbers.tasks)) ≡ length numbers.tasks = length_first setup numbers (length numbers.tasks) in
      ap (λ (seat : Seat Task). seat.local) (get_or_past (first_tasks setup numbers (length numbers.tasks)) t (completed nobody) (omega (arith, same, l)))

  free-first : (u : ℕ) → Unjoined k e u (first.tasks u).local
  free-first u =
      ⊎_elim
      (λ (l : u < length numbers.tasks). subst (λ (seat : Seat Task). Unjoined k e u seat.local) (sym (seat-is u l)) (starts-so (AcceptsNoJoin k e u) g setup.inputs u (r.no_join u)))
      (λ (l : length numbers.tasks ≤ u). subst (λ (t : Task). Unjoined k e u t) (sym (seat-past u l)) (record { rest = tt; place = tt; outer = tt }))
      (cases_lt u (length numbers.tasks))

  opens_so : IsOpening (numbered p) (by_number p (opening_of setup numbers).state)
  opens_so =
      let o = following.opens setup numbers in
      record { line = o.line; ended = o.ended; live = o.live; callers = o.callers; beyond = o.beyond }

  sound-first : IsSound p.ops IsProper first.tasks
  sound-first =
      sound_still p IsProper lawful (by_number p (opening_of setup numbers).state).seats
      (run_sound p IsProper lawful (by_number p (opening_of setup numbers).state) opens_so (following.proper setup numbers) [] tt)

  -- the controller as it starts
  start-is : started g setup.inputs k.number ≡ starting k ops
  start-is =
      (λ i. started_in (sym r.setting i) k.number (r.unit i) (sym r.input i))
      ∙ ap (λ (output : List ℕ). record { setting = k.setting; number = k.number; control = (started_in k.setting k.number (control_unit k ops) k.input).control; input = k.input; output = output }) (sym r.output)

  stands-first : Stands k hold all (first.tasks k.number).local
  stands-first =
      let way = (controllers_make_operations k e r.is).starts ops r.can in
      subst (λ (t : Task). Stands k hold all t) (sym (ap (λ (seat : Seat Task). seat.local) (seat-is k.number r.number) ∙ start-is)) (comes [] all way.0 refl way.1)

  so-first : IsSo first
  so-first = record {
    kept = kept_first setup numbers r.well;
    sound = sound-first;
    free = free-first;
    unserved = ap (λ (seat : Seat Task). is_served seat.standing) (seat-is k.number r.number);
    stands = stands-first;
  }

  -- ---- a move

  module _ (w : World Task) (so : IsSo w) where
    abbrev t : Task
    t = (w.tasks k.number).local

    abbrev there : View k e r.is hold all r.can t
    there = view k e r.is hold all r.can t so.stands

    abbrev form : IsOneOf (offer_of t)
    form = one-of k e r.is hold all r.can t there

    -- where it goes, and how it stands there
    abbrev Next : Move → Seat Task → Type 0
    Next move seat = (GoesOn k e hold all k.number move t seat.local × Stands k hold all seat.local) × (is_served seat.standing ≡ false)

    -- no task accepts the call of DED_JOIN
    never-met : (f : ℕ) (i : ℤ) → CallsJoin k e r.is hold all r.can t f i → offers task_ops (waits_with (opens f i)) (w.tasks (p.owner f)) ≡ true → ⊥
    never-met f i (calls_join made left task same is entry index) h =
        let u : ℕ = p.owner f in
        let both = and_parts (is_live (w.tasks u).standing) (waits_with (opens f i) (offer_of (w.tasks u).local)) h in
        let within : u < p.size =
        ⊎_elim (λ (l : u < p.size). l) (λ (l : p.size ≤ u). absurd (true≢false (sym (so.kept.beyond u l) ∙ not-completed (w.tasks u).standing both.0))) (cases_lt u p.size) in
        let its : IsIn g u (w.tasks u).local = so.kept.each u within in
        let can : CanMake k (Join task) = at-seam k made (Join task) left (subst (CanMakeAll k) (sym same) r.can) in
        let below : task < length k.tasks = omega (arith, can.1, can.2) in
        offers_no_join k e u (w.tasks u).local (its.setting ∙ sym r.setting) its.number (so.free u) task i below
        (subst (λ (x : ℕ). waits_with (opens x i) (offer_of (w.tasks u).local) ≡ true) entry both.1)

    next : (move : Move) {seat : Seat Task} → Becomes p w k.number move seat → Next move seat
    next move (stays z h) = ((stays_so move t, so.stands), h)
    next move (steps is can) = ((subst (λ (m : Move). GoesOn k e hold all k.number m t (stepped t)) (sym is) (steps_so t can), stepping k e r.is hold all r.can t there can), refl)
    next move (accepts caller f i is h) =
        let handing : Task = (w.tasks caller).local in
        let on = accepting k e r.is hold all r.can k.number caller f i handing t there h in
        ((subst (λ (m : Move). GoesOn k e hold all k.number m t (accepted f i caller handing t)) (sym is) on.0, on.1), refl)
    next move (meets f i z h waits) = absurd (never-met f i (calling k e r.is hold all r.can t f i there h) waits)
    next move (ends is h) =
        let on = finishing k e r.is hold all r.can k.number t there h in
        ((subst (λ (m : Move). GoesOn k e hold all k.number m t (finished t)) (sym is) on.0, on.1), refl)
    next move (takes_else h) = clash (sym (no-else (offer_of t) form) ∙ h)
    next move (takes_delay n h) = clash (sym (no-delay n (offer_of t) form) ∙ h)
    next move (calls_else f i h) = clash (sym (no-conditional f i (offer_of t) form) ∙ h)
    next move (expires f i h) = clash (sym (no-timed f i (offer_of t) form) ∙ h)
    next move (fails f i is h) =
        let on = failing k e r.is hold all r.can k.number f i t (calling k e r.is hold all r.can t f i there h) in
        ((subst (λ (m : Move). GoesOn k e hold all k.number m t (call_failed t)) (sym is) on.0, on.1), refl)
    next move (passes x h) = clash (sym (no-abort x (offer_of t) form) ∙ h)

    goes : (move : Move) → can_move p w move ≡ true → Next move ((moved p w move).tasks k.number)
    goes move can = next move (becomes p w k.number move can so.unserved)

    so-next : (move : Move) → can_move p w move ≡ true → IsSo (moved p w move)
    so-next move can =
        let on = goes move can in
        record {
          kept = kept_on setup numbers r.well w move so.kept so.sound can;
          sound = sound_moved p IsProper lawful w move so.sound can;
          free = moved_keeps p (Unjoined k e) (unjoined_on k e) w move so.free;
          unserved = on.1;
          stands = on.0.1;
        }

  -- ---- all moves

  so-after : (moves : List Move) (w : World Task) → IsSo w → AreMoves p w moves → IsSo (world_after p w moves)
  so-after [] w so h = so
  so-after (move ∷ moves) w so h = so-after moves (moved p w move) (so-next w so move h.0) h.1

  stands-after : (moves : List Move) → AreMoves p first moves → Stands k hold all ((world_after p first moves).tasks k.number).local
  stands-after moves h = (so-after moves first so-first h).stands

  -- moves without the last one
  before-last : (moves : List Move) (move : Move) (w : World Task) → AreMoves p w (moves ++ move ∷ []) → AreMoves p w moves × (can_move p (world_after p w moves) move ≡ true)
  before-last [] move w h = (tt, h.0)
  before-last (m ∷ moves) move w h = let both = before-last moves move (moved p w m) h.1 in ((h.0, both.0), both.1)

  last-is : (moves : List Move) (move : Move) (w : World Task) → world_after p w (moves ++ move ∷ []) ≡ moved p (world_after p w moves) move
  last-is [] move w = refl
  last-is (m ∷ moves) move w = last-is moves move (moved p w m)

  goes-on : (moves : List Move) (move : Move) → AreMoves p first (moves ++ move ∷ []) →
      GoesOn k e hold all k.number move ((world_after p first moves).tasks k.number).local ((world_after p first (moves ++ move ∷ [])).tasks k.number).local
  goes-on moves move h =
      let both = before-last moves move first h in
      subst (λ (w : World Task). GoesOn k e hold all k.number move ((world_after p first moves).tasks k.number).local (w.tasks k.number).local) (sym (last-is moves move first))
      (goes (world_after p first moves) (so-after moves first so-first both.0) move both.1).0.0

pub always_stands : AlwaysStands
always_stands = stands-after

pub always_goes_on : AlwaysGoesOn
always_goes_on = goes-on
