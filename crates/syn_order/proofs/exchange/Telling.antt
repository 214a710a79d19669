-- The law of exchange as it is told: of a program in its opening state, with its tasks in a list.
use Rattle.std.proofs.Common.{◌↔◌, ℕ, ◌<◌, Bool, true, List, [], ◌∷◌, ◌++◌, refl, sym, subst, length, slice_index_or, append_assoc}
use Rattle.event_machine.specs.declared.Event.{Event}
use Rattle.event_machine.specs.States.{Ops, Seat, State, completed}
use Rattle.event_machine.specs.Lawful.{IsLawful}
use Rattle.event_machine.specs.Runs.{Feasible}
use Rattle.event_machine.specs.Programs.{Program, numbered, listed, by_number, IsOpening}
use Rattle.event_machine.specs.Worlds.{World}
use Rattle.event_machine.specs.progress.Known.{known_at_start, known}
use Rattle.event_machine.specs.progress.Laws.{IsYes}
use Rattle.event_machine.proofs.Bases.{IsBase}
use Rattle.event_machine.proofs.Reaching.{start_base, feasible_back}
use Rattle.event_machine.proofs.Resting.{feasible_leads}
use Rattle.event_machine.proofs.Joining.{joined}
use Rattle.event_machine.proofs.ListLaws.{opening_numbers, feasible_list, feasible_before_list}
use Rattle.event_machine.proofs.progress.Moves.{Knows, known_last}
use Rattle.event_machine.proofs.progress.Runs.{knows_after, admitted_list}
use Rattle.event_machine.proofs.progress.Telling.{Tells}
use Rattle.syn_order.specs.Orders.{AreAdmitted}
use Rattle.syn_order.specs.Apart.{AreAlike, exchanged}
use Rattle.syn_order.specs.exchange.Steps.{LeadsBy}
use Rattle.syn_order.specs.exchange.Verdicts.{IsOpenAt, AllFeasible}
use Rattle.syn_order.specs.exchange.Shown.{AllShownBy}
use Rattle.syn_order.specs.exchange.Laws.{program, rules_in, start, AreSame, size_of, LawOfExchange, LawOfAlike, LawOfLists, FeasibleAreAdmitted}
use Rattle.syn_order.proofs.Carried.{same_lists_are_alike}
use Rattle.syn_order.proofs.exchange.Leading.{alike_turned, alike_behind, leads_any, leads_all, alike_leads}
use Rattle.syn_order.proofs.exchange.Showing.{all_shown}
use Rattle.syn_order.proofs.exchange.Verdicts.{within, well_exactly}

-- The premises of each law, over proper states that any predicate tells.
module _ {L : Type 0} (ops : Ops L) (owner : ℕ → ℕ) (IsProper : L → Type 0) (lawful : IsLawful ops IsProper) (s : State (List (Seat L)))
    (opens_so : IsOpening (listed (program ops owner s)) s) (proper : (t : ℕ) → t < length s.seats → IsProper (slice_index_or s.seats t (completed ops.nobody)).local) where
  abbrev p : Program L
  p = program ops owner s

  abbrev n : ℕ
  n = length s.seats

  abbrev numbers : State (ℕ → Seat L)
  numbers = by_number p s

  abbrev there : World L
  there = start ops owner s

  opening : IsOpening (numbered p) numbers
  opening = opening_numbers ops owner IsProper lawful s opens_so proper

  base : IsBase p IsProper lawful there
  base = start_base p IsProper lawful numbers opening proper

  tells : Tells ops (known_at_start n) there.tasks
  tells =
      let knows : Knows p IsProper lawful (known_at_start n) there = knows_after p IsProper lawful numbers opening proper [] tt in
      knows.tells

  -- ---- tasks in a list, and by their numbers

  feasible : (events : List Event) → Feasible (rules_in ops owner s) s events ↔ Feasible (numbered p) numbers events
  feasible events =
      let same = feasible_list ops owner IsProper lawful s opens_so proper events in (
        λ h. let (w, leads) = same.0 h in feasible_back p IsProper lawful numbers opening proper events w leads,
        λ h. same.1 (feasible_leads p IsProper lawful numbers opening proper events h),
      )

  open_there : (events : List Event) (t n : ℕ) → IsOpenAt (rules_in ops owner s) s events t n ↔ IsOpenAt (numbered p) numbers events t n
  open_there events t n = (
    λ (l, (tasks, tally, run, is, counted), more). (l, (tasks, tally, (joined p s refl _ tasks tally).0 run, is, counted), more),
    λ (l, (tasks, tally, run, is, counted), more). (l, (tasks, tally, (joined p s refl _ tasks tally).1 run, is, counted), more),
  )

  well_there : (bound : ℕ) (events : List Event) → AllFeasible (rules_in ops owner s) s bound events ↔ AllFeasible (numbered p) numbers bound events
  well_there bound events = (
    λ well front back e q. let (none, can) = well front back e q in ((λ t need is. none t need ((open_there front t bound).1 is)), (feasible (front ++ e ∷ [])).0 can),
    λ well front back e q. let (none, can) = well front back e q in ((λ t need is. none t need ((open_there front t bound).0 is)), (feasible (front ++ e ∷ [])).1 can),
  )

  -- ---- one list of two that are alike

  module _ (xs ys : List Event) (alike : AreAlike owner n (known_at_start n) xs ys) where
    leads_too : (test : Event → ℕ → ℕ → Bool) (last : World L) → LeadsBy test p there xs last → LeadsBy test p there ys last
    leads_too test last = alike_leads p IsProper lawful test (known_at_start n) xs ys alike there last base tells

    feasible_too : Feasible (rules_in ops owner s) s xs → Feasible (rules_in ops owner s) s ys
    feasible_too h =
        let (w, leads) = (feasible_list ops owner IsProper lawful s opens_so proper xs).0 h in
        (feasible_list ops owner IsProper lawful s opens_so proper ys).1
        (w, leads_any p (λ e t n. true) ys there w (leads_too (λ e t n. true) w (leads_all p xs there w leads)))

    shown_too : AllShownBy (rules_in ops owner s) s xs ys
    shown_too tasks tally run =
        let (others, other_tally, there, shown) = all_shown p IsProper lawful numbers opening proper xs ys
        (λ last leads. leads_any p (λ e t n. true) ys there last (leads_too (λ e t n. true) last (leads_all p xs there last leads)))
        tasks tally ((joined p s refl xs tasks tally).0 run) in
        (others, other_tally, (joined p s refl ys others other_tally).1 there, shown)

    well_too : (bound : ℕ) → AllFeasible (rules_in ops owner s) s bound xs → AllFeasible (rules_in ops owner s) s bound ys
    well_too bound well =
        let (last, leads) = (well_exactly p IsProper lawful numbers opening proper bound xs).0 ((well_there bound xs).0 well) in
        (well_there bound ys).1 ((well_exactly p IsProper lawful numbers opening proper bound ys).1 (last, leads_too (within bound) last leads))

  pub alike_same : (xs ys : List Event) → AreAlike owner n (known_at_start n) xs ys → AreSame ops owner s xs ys
  alike_same xs ys alike = record {
    feasible = (feasible_too xs ys alike, feasible_too ys xs turned);
    leads = λ test last. (leads_too xs ys alike test last, leads_too ys xs turned test last);
    shown = shown_too xs ys alike;
    shown_back = shown_too ys xs turned;
    verdict = λ bound. (well_too xs ys alike bound, well_too ys xs turned bound);
  }
    where
      turned : AreAlike owner n (known_at_start n) ys xs
      turned = alike_turned owner n (known_at_start n) xs ys alike

  -- a list with which all goes well is feasible
  pub well_feasible : (bound : ℕ) (events : List Event) → AllFeasible (rules_in ops owner s) s bound events → Feasible (rules_in ops owner s) s events
  well_feasible bound events well =
      let (last, leads) = (well_exactly p IsProper lawful numbers opening proper bound events).0 ((well_there bound events).0 well) in
      (feasible_list ops owner IsProper lawful s opens_so proper events).1 (last, leads_any p (within bound) events there last leads)

  -- ---- feasible lists are admitted

  admitted_on : (before rest : List Event) → Feasible (rules_in ops owner s) s (before ++ rest) → AreAdmitted owner (known owner n before) rest
  admitted_on before [] h = tt
  admitted_on before (e ∷ rest) h =
      let along : Feasible (rules_in ops owner s) s ((before ++ e ∷ []) ++ rest) = subst (Feasible (rules_in ops owner s) s) (sym (append_assoc before (e ∷ []) rest)) h in (
        admitted_list ops owner IsProper lawful s opens_so proper before e
            (feasible_before_list ops owner IsProper lawful s opens_so proper (before ++ e ∷ []) rest along),
        subst (λ k. AreAdmitted owner k rest) (known_last owner (known_at_start n) before e) (admitted_on (before ++ e ∷ []) rest along),
      )

  pub feasible_admitted : (events : List Event) → Feasible (rules_in ops owner s) s events → AreAdmitted owner (known_at_start n) events
  feasible_admitted events h = admitted_on [] events h

module _ {L : Type 0} where
  pub law_of_alike : LawOfAlike L
  law_of_alike o xs ys alike = alike_same o.ops o.owner (IsYes o.proper) o.lawful o.state o.opens_so o.starts_proper xs ys alike

  pub law_of_exchange : LawOfExchange L
  law_of_exchange o before rest e f apart = law_of_alike o (before ++ e ∷ f ∷ rest) (before ++ f ∷ e ∷ rest)
      (alike_behind o.owner (size_of o) (known_at_start (size_of o)) before (e ∷ f ∷ rest) (f ∷ e ∷ rest) (exchanged _ e f rest apart))

  pub law_of_lists : LawOfLists L
  law_of_lists o xs ys some one other same = law_of_alike o xs ys ((same_lists_are_alike o.owner (size_of o) xs ys some one).0 (other, same))

  pub feasible_are_admitted : FeasibleAreAdmitted L
  feasible_are_admitted o events h = feasible_admitted o.ops o.owner (IsYes o.proper) o.lawful o.state o.opens_so o.starts_proper events h
