-- The premises of the law of exchange are met by a small program, by computation.
use Rattle.std.proofs.Common.{◌≡◌, ℕ, zero, suc, ◌<◌, Bool, true, false, List, [], ◌∷◌, refl, sym, ap, slice_index_or, true≢false, arith}
use Rattle.std.specs.Prelude.{ℤ, pos}
use Rattle.std.proofs.lemmas.List.{get_or_past}
use Rattle.event_machine.specs.declared.Action.TheVariants.{Local, Arrive, Start, Finish, Complete, End}
use Rattle.event_machine.specs.declared.Standing.TheVariants.{Live}
use Rattle.event_machine.specs.declared.Event.TheVariants.{R, X}
use Rattle.event_machine.specs.Offers.{Nothing, Finishes, Ends, waits_with, opens, is_finish, is_end}
use Rattle.event_machine.specs.States.{Seat, State, completed}
use Rattle.event_machine.specs.Lawful.{IsLawful}
use Rattle.event_machine.specs.Runs.{Feasible}
use Rattle.event_machine.specs.Programs.{listed, IsOpening}
use Rattle.event_machine.specs.progress.Known.{known_at_start}
use Rattle.event_machine.specs.progress.Laws.{Opened, IsYes, program_with}
use Rattle.syn_order.specs.Apart.{AreApart}
use Rattle.syn_order.specs.exchange.Example.{Three, Asks, Answers, Serves, Steps, Leaves, three_offer, three_ops, three_seats, three_rest, ThreeAreExchanged}
use Rattle.syn_order.proofs.exchange.Telling.{law_of_exchange}

-- each state of its tasks is proper
abbrev all_proper : Three → Bool
all_proper l = true

three_lawful : IsLawful three_ops (IsYes all_proper)
three_lawful = record {
  rests = rests;
  stepped = λ l proper h. (refl, steps l);
  resumed = λ acceptor l there proper. (refl, resumes l);
  raised = λ l proper. (refl, resumes l);
  took_else = λ l proper. (refl, refl);
  took_delay = λ k l proper. (refl, refl);
  passed = λ l proper. (refl, refl);
  accepted = λ e i c caller l there proper h. (refl, accepts e i c l h);
  finished = finishes;
  ended = ends;
}
  where
    rests : (l : Three) → three_ops.can_step l ≡ true → three_offer l ≡ Nothing
    rests Asks h = absurd (true≢false (sym h))
    rests Answers h = absurd (true≢false (sym h))
    rests (Serves c) h = absurd (true≢false (sym h))
    rests Steps h = refl
    rests Leaves h = absurd (true≢false (sym h))

    steps : (l : Three) → three_ops.callers (three_ops.stepped l) ≡ three_ops.callers l
    steps Asks = refl
    steps Answers = refl
    steps (Serves c) = refl
    steps Steps = refl
    steps Leaves = refl

    resumes : (l : Three) → three_ops.callers (three_ops.resumed l l) ≡ three_ops.callers l
    resumes Asks = refl
    resumes Answers = refl
    resumes (Serves c) = refl
    resumes Steps = refl
    resumes Leaves = refl

    accepts : (e : ℕ) (i : ℤ) (c : ℕ) (l : Three) → waits_with (opens e i) (three_offer l) ≡ true → three_ops.callers (three_ops.accepted e i c l l) ≡ c ∷ three_ops.callers l
    accepts e i c Asks h = absurd (true≢false (sym h))
    accepts e i c Answers h = refl
    accepts e i c (Serves d) h = absurd (true≢false (sym h))
    accepts e i c Steps h = absurd (true≢false (sym h))
    accepts e i c Leaves h = absurd (true≢false (sym h))

    finishes : (l : Three) → IsYes all_proper l → three_offer l ≡ Finishes →
        (c : ℕ) × IsYes all_proper (three_ops.finished l) × (three_ops.callers l ≡ c ∷ three_ops.callers (three_ops.finished l))
    finishes Asks proper h = absurd (true≢false (ap is_finish (sym h)))
    finishes Answers proper h = absurd (true≢false (ap is_finish (sym h)))
    finishes (Serves c) proper h = (c, refl, refl)
    finishes Steps proper h = absurd (true≢false (ap is_finish (sym h)))
    finishes Leaves proper h = absurd (true≢false (ap is_finish (sym h)))

    ends : (l : Three) → IsYes all_proper l → three_offer l ≡ Ends → three_ops.callers l ≡ []
    ends Asks proper h = refl
    ends Answers proper h = refl
    ends (Serves c) proper h = absurd (true≢false (ap is_end (sym h)))
    ends Steps proper h = refl
    ends Leaves proper h = refl

-- the second task owns each entry
abbrev owner : ℕ → ℕ
owner e = 1

abbrev opening : State (List (Seat Three))
opening = record { seats = three_seats; line = []; ended = false }

three_opens : IsOpening (listed (program_with three_ops owner opening)) opening
three_opens = record {
  line = refl;
  ended = refl;
  live = below;
  callers = callers;
  beyond = λ t l. ap (λ (x : Seat Three). x.standing) (get_or_past three_seats t (completed Leaves) l);
}
  where
    below : (t : ℕ) → t < 3 → (slice_index_or three_seats t (completed Leaves)).standing ≡ Live
    below zero h = refl
    below (suc zero) h = refl
    below (suc (suc zero)) h = refl
    below (suc (suc (suc t))) h = absurd (omega (arith, h))

    callers : (t : ℕ) → t < 3 → three_ops.callers (slice_index_or three_seats t (completed Leaves)).local ≡ []
    callers zero h = refl
    callers (suc zero) h = refl
    callers (suc (suc zero)) h = refl
    callers (suc (suc (suc t))) h = absurd (omega (arith, h))

abbrev three : Opened Three
three = record {
  ops = three_ops;
  owner = owner;
  proper = all_proper;
  lawful = three_lawful;
  state = opening;
  opens_so = three_opens;
  starts_proper = λ t h. refl;
}

apart : AreApart owner 3 (known_at_start 3) (R 0 1 (pos 0)) (X 2)
apart zero h = refl
apart (suc zero) h = refl
apart (suc (suc zero)) h = refl
apart (suc (suc (suc t))) h = absurd (omega (arith, h))

pub three_are_exchanged : ThreeAreExchanged
three_are_exchanged = record {
  o = three;
  ops = refl;
  seats = refl;
  apart = apart;
  feasible = feasible;
  exchanged = (law_of_exchange three [] three_rest (R 0 1 (pos 0)) (X 2) apart).feasible.0 feasible;
}
  where
    feasible : Feasible (listed (program_with three_ops owner opening)) opening (R 0 1 (pos 0) ∷ X 2 ∷ three_rest)
    feasible = (
      Arrive 0 ∷ Arrive 1 ∷ Start 0 ∷ Local 2 ∷ Complete 2 ∷ Finish 1 ∷ Complete 1 ∷ End ∷ [],
      (refl, (refl, (refl, (refl, (refl, (refl, (refl, (refl, tt)))))))),
      refl,
    )
