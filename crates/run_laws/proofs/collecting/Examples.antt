-- A program that is collected, by computation: each premise of the law holds of it, and a run of its copy ends with the lines of its events.
use Rattle.std.proofs.Common.{◌≡◌, ℕ, zero, suc, ◌<◌, ◌≤◌, Bool, true, false, ◌==◌, if◌then◌else◌, List, [], ◌∷◌, refl, sym, ap, ◌∙◌, subst, true≢false, arith}
use Rattle.std.specs.Prelude.{ℤ, pos}
use Rattle.event_machine.specs.declared.Action.{Action}
use Rattle.event_machine.specs.declared.Action.TheVariants.{Local, Arrive, Start, Finish, Complete, End}
use Rattle.event_machine.specs.declared.Standing.TheVariants.{Live, Completed}
use Rattle.event_machine.specs.Offers.{Finishes, Ends, is_any_form, calls_in, waits_with, opens, is_finish, is_end}
use Rattle.event_machine.specs.States.{Seat, State, live, completed}
use Rattle.event_machine.specs.Lawful.{IsLawful}
use Rattle.event_machine.specs.Programs.{numbered, IsOpening}
use Rattle.event_machine.specs.Worlds.{aborts}
use Rattle.event_machine.proofs.Basics.{same_member-true}
use Rattle.common_lemmas.proofs.Numbers.{unequal_above}
use Rattle.run_laws.specs.replaying.Told.{IsYes}
use Rattle.run_laws.specs.imitation.Imitations.{local_at}
use Rattle.run_laws.specs.imitation.Told.{Imitated, original}
use Rattle.run_laws.specs.collecting.Settings.{Setting, IsOfTask}
use Rattle.run_laws.specs.collecting.Example.{Pair, Asks, Answers, Serves, Leaves, pair_offer, pair_ops, pair_program, pair_lines, PairIsCollected}

-- each state of its tasks is proper
abbrev all_proper : Pair → Bool
all_proper l = true

pair_lawful : IsLawful pair_ops (IsYes all_proper)
pair_lawful = record {
  rests = λ l h. absurd (true≢false (sym h));
  stepped = λ l proper h. absurd (true≢false (sym h));
  resumed = λ acceptor l there proper. (refl, resumes l);
  raised = λ l proper. (refl, resumes l);
  took_else = λ l proper. (refl, refl);
  took_delay = λ k l proper. (refl, refl);
  passed = λ l proper. (refl, refl);
  accepted = λ e i c caller l there proper h. (refl, accepts e i c l h);
  finished = finishes;
  ended = ends;
}
  where
    resumes : (l : Pair) → pair_ops.callers (pair_ops.resumed l l) ≡ pair_ops.callers l
    resumes Asks = refl
    resumes Answers = refl
    resumes (Serves c) = refl
    resumes Leaves = refl

    accepts : (e : ℕ) (i : ℤ) (c : ℕ) (l : Pair) → waits_with (opens e i) (pair_offer l) ≡ true → pair_ops.callers (pair_ops.accepted e i c l l) ≡ c ∷ pair_ops.callers l
    accepts e i c Asks h = absurd (true≢false (sym h))
    accepts e i c Answers h = refl
    accepts e i c (Serves d) h = absurd (true≢false (sym h))
    accepts e i c Leaves h = absurd (true≢false (sym h))

    finishes : (l : Pair) → IsYes all_proper l → pair_offer l ≡ Finishes →
        (c : ℕ) × IsYes all_proper (pair_ops.finished l) × (pair_ops.callers l ≡ c ∷ pair_ops.callers (pair_ops.finished l))
    finishes Asks proper h = absurd (true≢false (ap is_finish (sym h)))
    finishes Answers proper h = absurd (true≢false (ap is_finish (sym h)))
    finishes (Serves c) proper h = (c, refl, refl)
    finishes Leaves proper h = absurd (true≢false (ap is_finish (sym h)))

    ends : (l : Pair) → IsYes all_proper l → pair_offer l ≡ Ends → pair_ops.callers l ≡ []
    ends Asks proper h = refl
    ends Answers proper h = refl
    ends (Serves c) proper h = absurd (true≢false (ap is_end (sym h)))
    ends Leaves proper h = refl

-- the main program asks, and the other task answers
abbrev opening_seat : ℕ → Seat Pair
opening_seat t = if t == 0 then live Asks else (if t == 1 then live Answers else completed Leaves)

abbrev opening : State (ℕ → Seat Pair)
opening = record { seats = opening_seat; line = []; ended = false }

pair_opens : IsOpening (numbered pair_program) opening
pair_opens = record {
  line = refl;
  ended = refl;
  live = below;
  callers = callers;
  beyond = beyond;
}
  where
    below : (t : ℕ) → t < 2 → (opening_seat t).standing ≡ Live
    below zero h = refl
    below (suc zero) h = refl
    below (suc (suc t)) h = absurd (omega (arith, h))

    callers : (t : ℕ) → t < 2 → pair_ops.callers (opening_seat t).local ≡ []
    callers zero h = refl
    callers (suc zero) h = refl
    callers (suc (suc t)) h = absurd (omega (arith, h))

    beyond : (t : ℕ) → 2 ≤ t → (opening_seat t).standing ≡ Completed
    beyond t h = ap (λ (b : Bool). (if b then live Asks else (if t == 1 then live Answers else completed Leaves)).standing) (unequal_above t 0 (omega (arith, h))) ∙
        ap (λ (b : Bool). (if b then live Answers else completed Leaves).standing) (unequal_above t 1 (omega (arith, h)))

abbrev pair_imitated : Imitated Pair Bool
pair_imitated = record {
  p = pair_program;
  out = λ l. [];
  proper = all_proper;
  lawful = pair_lawful;
  opening = opening;
  opens_so = pair_opens;
  starts_proper = λ t h. refl;
  known = λ v w. true;
  known_first = (true, refl);
  known_on = λ w move known sound can. (true, refl);
}

-- it calls its own entry alone
called : (l : Pair) (e : ℕ) (i : ℤ) → calls_in is_any_form e i (pair_offer l) ≡ true → 1 ≡ e
called Asks e i h = sym (same_member-true e 1 i (pos 0) h).0
called Answers e i h = absurd (true≢false (sym h))
called (Serves c) e i h = absurd (true≢false (sym h))
called Leaves e i h = absurd (true≢false (sym h))

aborts_nobody : (l : Pair) (v : ℕ) → aborts v (pair_offer l) ≡ false
aborts_nobody Asks v = refl
aborts_nobody Answers v = refl
aborts_nobody (Serves c) v = refl
aborts_nobody Leaves v = refl

abbrev pair_owner : ℕ → ℕ
pair_owner e = if e == 2 then 2 else 1

abbrev pair_setting : Setting (original pair_imitated)
pair_setting = record {
  note = 2;
  owner = pair_owner;
  noted = refl;
  no_aborts = λ w come runs t v free. aborts_nobody (local_at w t) v;
  calls_tasks = λ w come runs t e i free h. subst (IsOfTask 2 (λ e. 1) 2 pair_owner) (called (local_at w t) e i h) (record { task = omega arith; same = refl; other = refl });
  silent = record {
    accepted = λ e i c caller l. refl;
    finished = λ l. refl;
    resumed = λ acceptor l. refl;
    raised = λ l. refl;
    took_else = λ l. refl;
    took_delay = λ k l. refl;
  };
  pends = λ l. false;
  lines = pair_lines;
}

-- The main program tells the recorder, task 2, and calls; the other task accepts and tells of it; it ends the rendezvous and then itself; and each
-- note is heard and written.
abbrev pair_actions : List Action
pair_actions =
    Local 2 ∷ Arrive 2 ∷ Arrive 0 ∷ Start 0 ∷ Local 2 ∷ Finish 2 ∷ Arrive 0 ∷ Arrive 1 ∷ Start 0 ∷
    Arrive 2 ∷ Arrive 1 ∷ Start 1 ∷ Local 2 ∷ Local 2 ∷ Local 2 ∷ Local 2 ∷ Finish 2 ∷
    Arrive 2 ∷ Arrive 1 ∷ Start 1 ∷ Local 2 ∷ Local 2 ∷ Local 2 ∷ Finish 2 ∷ Finish 1 ∷
    Arrive 2 ∷ Arrive 1 ∷ Start 1 ∷ Local 2 ∷ Local 2 ∷ Local 2 ∷ Finish 2 ∷ Complete 1 ∷ Arrive 2 ∷ End ∷ []

pub pair_collected : PairIsCollected
pair_collected = record {
  o = pair_imitated;
  p = refl;
  x = pair_setting;
  lines = refl;
  actions = pair_actions;
  applies = (
    refl,
    (
      refl,
      (
        refl,
        (
          refl,
          (
            refl,
            (
              refl,
              (
                refl,
                (
                  refl,
                  (
                    refl,
                    (
                      refl,
                      (
                        refl,
                        (
                          refl,
                          (
                            refl,
                            (
                              refl,
                              (
                                refl,
                                (
                                  refl,
                                  (
                                    refl,
                                    (
                                      refl,
                                      (refl, (refl, (refl, (refl, (refl, (refl, (refl, (refl, (refl, (refl, (refl, (refl, (refl, (refl, (refl, (refl, (refl, tt))))))))))))))))),
                                    ),
                                  ),
                                ),
                              ),
                            ),
                          ),
                        ),
                      ),
                    ),
                  ),
                ),
              ),
            ),
          ),
        ),
      ),
    ),
  );
  ended = refl;
  bytes = refl;
}
