-- A program that is collected, by computation: each premise of the law holds of it, and a run of its copy ends with the lines of its events.
use Rattle.std.proofs.Common.{◌≡◌, ℕ, zero, suc, ◌<◌, ◌≤◌, Bool, true, false, ◌&&◌, ◌==◌, if◌then◌else◌, List, [], ◌∷◌, refl, sym, ap, ◌∙◌, subst, true≢false, arith}
use Rattle.std.specs.Prelude.{ℤ, pos}
use Rattle.std.proofs.lemmas.Bool.{eqb-true, and_parts}
use Rattle.event_machine.specs.declared.Action.{Action}
use Rattle.event_machine.specs.declared.Action.TheVariants.{Local, Arrive, Start, Finish, Complete, Abort, End}
use Rattle.event_machine.specs.declared.Standing.TheVariants.{Live, Completed}
use Rattle.event_machine.specs.Offers.{Finishes, Ends, is_any_form, calls_in, waits_with, opens, is_finish, is_end}
use Rattle.event_machine.specs.States.{Seat, State, live, completed}
use Rattle.event_machine.specs.Lawful.{IsLawful}
use Rattle.event_machine.specs.Applying.{can}
use Rattle.event_machine.specs.Effects.{after}
use Rattle.event_machine.specs.Runs.{IsRun}
use Rattle.event_machine.specs.Programs.{Program, numbered, IsOpening}
use Rattle.event_machine.specs.Worlds.{aborts}
use Rattle.event_machine.proofs.Basics.{same_member-true}
use Rattle.common_lemmas.proofs.Numbers.{unequal_above}
use Rattle.run_laws.specs.replaying.Told.{IsYes}
use Rattle.run_laws.specs.imitation.Imitations.{local_at}
use Rattle.run_laws.specs.imitation.Told.{Imitated, original}
use Rattle.run_laws.specs.collecting.Settings.{IsOfTask}
use Rattle.run_laws.specs.collecting.Example.{pair_lines}
use Rattle.run_laws.specs.aborts.Settings.{Setting, twin, opening_copy}
use Rattle.run_laws.specs.aborts.Example.{Trio, Kills, Asks, Answers, Serves, Leaves, trio_offer, trio_ops, trio_program, TrioIsCollected}

-- each state of its tasks is proper
abbrev all_proper : Trio → Bool
all_proper l = true

trio_lawful : IsLawful trio_ops (IsYes all_proper)
trio_lawful = record {
  rests = λ l h. absurd (true≢false (sym h));
  stepped = λ l proper h. absurd (true≢false (sym h));
  resumed = λ acceptor l there proper. (refl, resumes l);
  raised = λ l proper. (refl, resumes l);
  took_else = λ l proper. (refl, refl);
  took_delay = λ k l proper. (refl, refl);
  passed = λ l proper. (refl, passes l);
  accepted = λ e i c caller l there proper h. (refl, accepts e i c l h);
  finished = finishes;
  ended = ends;
}
  where
    resumes : (l : Trio) → trio_ops.callers (trio_ops.resumed l l) ≡ trio_ops.callers l
    resumes Kills = refl
    resumes Asks = refl
    resumes Answers = refl
    resumes (Serves c) = refl
    resumes Leaves = refl

    passes : (l : Trio) → trio_ops.callers (trio_ops.passed l) ≡ trio_ops.callers l
    passes Kills = refl
    passes Asks = refl
    passes Answers = refl
    passes (Serves c) = refl
    passes Leaves = refl

    accepts : (e : ℕ) (i : ℤ) (c : ℕ) (l : Trio) → waits_with (opens e i) (trio_offer l) ≡ true → trio_ops.callers (trio_ops.accepted e i c l l) ≡ c ∷ trio_ops.callers l
    accepts e i c Kills h = absurd (true≢false (sym h))
    accepts e i c Asks h = absurd (true≢false (sym h))
    accepts e i c Answers h = refl
    accepts e i c (Serves d) h = absurd (true≢false (sym h))
    accepts e i c Leaves h = absurd (true≢false (sym h))

    finishes : (l : Trio) → IsYes all_proper l → trio_offer l ≡ Finishes →
        (c : ℕ) × IsYes all_proper (trio_ops.finished l) × (trio_ops.callers l ≡ c ∷ trio_ops.callers (trio_ops.finished l))
    finishes Kills proper h = absurd (true≢false (ap is_finish (sym h)))
    finishes Asks proper h = absurd (true≢false (ap is_finish (sym h)))
    finishes Answers proper h = absurd (true≢false (ap is_finish (sym h)))
    finishes (Serves c) proper h = (c, refl, refl)
    finishes Leaves proper h = absurd (true≢false (ap is_finish (sym h)))

    ends : (l : Trio) → IsYes all_proper l → trio_offer l ≡ Ends → trio_ops.callers l ≡ []
    ends Kills proper h = refl
    ends Asks proper h = refl
    ends Answers proper h = refl
    ends (Serves c) proper h = absurd (true≢false (ap is_end (sym h)))
    ends Leaves proper h = refl

-- the main program aborts, task 1 answers, and task 2 asks
abbrev opening_seat : ℕ → Seat Trio
opening_seat t = if t == 0 then live Kills else (if t == 1 then live Answers else (if t == 2 then live Asks else completed Leaves))

abbrev opening : State (ℕ → Seat Trio)
opening = record { seats = opening_seat; line = []; ended = false }

trio_opens : IsOpening (numbered trio_program) opening
trio_opens = record {
  line = refl;
  ended = refl;
  live = below;
  callers = callers;
  beyond = beyond;
}
  where
    below : (t : ℕ) → t < 3 → (opening_seat t).standing ≡ Live
    below zero h = refl
    below (suc zero) h = refl
    below (suc (suc zero)) h = refl
    below (suc (suc (suc t))) h = absurd (omega (arith, h))

    callers : (t : ℕ) → t < 3 → trio_ops.callers (opening_seat t).local ≡ []
    callers zero h = refl
    callers (suc zero) h = refl
    callers (suc (suc zero)) h = refl
    callers (suc (suc (suc t))) h = absurd (omega (arith, h))

    beyond : (t : ℕ) → 3 ≤ t → (opening_seat t).standing ≡ Completed
    beyond t h = ap (λ (b : Bool). (if b then live Kills else (if t == 1 then live Answers else (if t == 2 then live Asks else completed Leaves))).standing) (unequal_above t 0 (omega (arith, h))) ∙
        ap (λ (b : Bool). (if b then live Answers else (if t == 2 then live Asks else completed Leaves)).standing) (unequal_above t 1 (omega (arith, h))) ∙
        ap (λ (b : Bool). (if b then live Asks else completed Leaves).standing) (unequal_above t 2 (omega (arith, h)))

abbrev trio_imitated : Imitated Trio Bool
trio_imitated = record {
  p = trio_program;
  out = λ l. [];
  proper = all_proper;
  lawful = trio_lawful;
  opening = opening;
  opens_so = trio_opens;
  starts_proper = λ t h. refl;
  known = λ v w. true;
  known_first = (true, refl);
  known_on = λ w move known sound can. (true, refl);
}

-- it calls its own entry alone, and aborts task 1 alone
called : (l : Trio) (e : ℕ) (i : ℤ) → calls_in is_any_form e i (trio_offer l) ≡ true → 1 ≡ e
called Kills e i h = absurd (true≢false (sym h))
called Asks e i h = sym (same_member-true e 1 i (pos 0) h).0
called Answers e i h = absurd (true≢false (sym h))
called (Serves c) e i h = absurd (true≢false (sym h))
called Leaves e i h = absurd (true≢false (sym h))

struck : (l : Trio) (v : ℕ) → aborts v (trio_offer l) ≡ true → v ≡ 1
struck Kills v h = eqb-true v 1 h
struck Asks v h = absurd (true≢false (sym h))
struck Answers v h = absurd (true≢false (sym h))
struck (Serves c) v h = absurd (true≢false (sym h))
struck Leaves v h = absurd (true≢false (sym h))

abbrev trio_owner : ℕ → ℕ
trio_owner e = if e == 2 then 3 else 1

abbrev trio_setting : Setting (original trio_imitated)
trio_setting = record {
  note = 2;
  owner = trio_owner;
  noted = refl;
  aborts_tasks = λ w come runs t v free h. let q : v ≡ 1 = struck (local_at w t) v h in omega (arith, q);
  calls_tasks = λ w come runs t e i free h. subst (IsOfTask 3 (λ e. 1) 2 trio_owner) (called (local_at w t) e i h) (record { task = omega arith; same = refl; other = refl });
  silent = record {
    accepted = λ e i c caller l. refl;
    finished = λ l. refl;
    resumed = λ acceptor l. refl;
    raised = λ l. refl;
    took_else = λ l. refl;
    took_delay = λ k l. refl;
  };
  passes_silent = λ l. refl;
  pends = λ l. false;
  lines = pair_lines;
}

-- Task 2 tells the recorder, task 3, and calls; task 1 accepts, tells of it, and comes to the end; the main program tells that it is to abort task 1, and the
-- recorder does so; task 2 tells that it is behind its call, and gets TASKING_ERROR; it tells of its end; and each note is heard and written.
abbrev trio_actions : List Action
trio_actions =
    Local 3 ∷ Arrive 3 ∷ Arrive 2 ∷ Start 2 ∷ Local 3 ∷ Finish 3 ∷ Arrive 2 ∷ Arrive 1 ∷ Start 2 ∷ Arrive 3 ∷ Arrive 1 ∷
    Start 1 ∷ Local 3 ∷ Local 3 ∷ Local 3 ∷ Local 3 ∷ Finish 3 ∷ Finish 1 ∷ Arrive 3 ∷ Arrive 0 ∷ Start 0 ∷ Local 3 ∷
    Local 3 ∷ Local 3 ∷ Local 3 ∷ Abort 3 ∷ Finish 3 ∷ Arrive 3 ∷ Arrive 2 ∷ Start 2 ∷ Local 3 ∷ Finish 3 ∷ Arrive 3 ∷
    Arrive 2 ∷ Start 2 ∷ Local 3 ∷ Local 3 ∷ Local 3 ∷ Finish 3 ∷ Complete 2 ∷ Arrive 3 ∷ End ∷ []

-- all of them apply, one after the other
abbrev all_can : {L : Type 0} (p : Program L) → State (ℕ → Seat L) → List Action → Bool
all_can p s [] = true
all_can p s (action ∷ actions) = can (numbered p) s action && all_can p (after (numbered p) s action) actions

run_of : {L : Type 0} (p : Program L) (s : State (ℕ → Seat L)) (actions : List Action) → all_can p s actions ≡ true → IsRun (numbered p) s actions
run_of p s [] h = tt
run_of p s (action ∷ actions) h =
    let k = and_parts (can (numbered p) s action) (all_can p (after (numbered p) s action) actions) h in
    (k.0, run_of p (after (numbered p) s action) actions k.1)

pub trio_collected : TrioIsCollected
trio_collected = record {
  o = trio_imitated;
  p = refl;
  x = trio_setting;
  lines = refl;
  actions = trio_actions;
  applies = run_of (twin trio_setting) (opening_copy trio_setting) trio_actions refl;
  ended = refl;
  bytes = refl;
}
