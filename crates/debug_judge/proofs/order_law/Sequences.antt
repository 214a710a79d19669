-- The laws of exchange for the tasks of a program.
use Rattle.std.proofs.Common.{◌≡◌, ◌↔◌, ℕ, Bool, true, false, ◌&&◌, ◌==◌, zero, suc, ◌+◌, List, [], ◌∷◌, ◌++◌, length, refl, sym, ap, ◌∙◌, subst, length-append, arith}
use Rattle.event_machine.specs.declared.Event.{Event}
use Rattle.event_machine.specs.States.{live}
use Rattle.event_machine.specs.Runs.{end_of}
use Rattle.event_machine.specs.Tallies.{tallies}
use Rattle.event_machine.specs.progress.Known.{known_at_start}
use Rattle.common_lemmas.proofs.Numbers.{equal_is, unequal}
use Rattle.syn_event.specs.Numbering.{Numbering, owner_of}
use Rattle.syn_order.specs.Orders.{AreAdmitted}
use Rattle.syn_order.specs.Apart.{AreAlike, exchanged}
use Rattle.syn_order.specs.Laws.{IsSource}
use Rattle.syn_order.specs.exchange.Laws as exchange
use Rattle.syn_order.specs.exchange.Shown.{AllShownBy}
use Rattle.syn_order.specs.exchange.Verdicts.{AllFeasible}
use Rattle.syn_order.proofs.Carried.{orders_of_all, same_lists_are_alike}
use Rattle.syn_order.proofs.exchange.Leading.{alike_behind}
use Rattle.syn_order.proofs.exchange.Telling.{alike_same, well_feasible, feasible_admitted}
use Rattle.task_model.specs.Starting.{started}
use Rattle.task_model.specs.TaskOps.{task_ops}
use Rattle.task_model.specs.Machine.{ProgramWithInputs, setting_of, first_tasks, rules_of, opening_of}
use Rattle.task_model.specs.Laws.{IsProper}
use Rattle.task_model.proofs.Lawful.{lawful}
use Rattle.task_model.proofs.Following.{opens, proper}
use Rattle.task_machine.specs.declared.verdict.Verdict.TheVariants.{Feasible}
use Rattle.task_machine.specs.Table.{seat_of}
use Rattle.task_machine.specs.Views.{IsOpenAt}
use Rattle.task_machine.specs.Judging.{VerdictIs}
use Rattle.task_machine.proofs.Tabled.{needed_at, needed_all}
use Rattle.debug_judge.specs.order_law.Laws.{Shows, AreSame, known_first, NeighboursExchange, AlikeAreSame, ListsAreSame, OrdersAreJudged, JudgedIsAdmitted, CompletionsAreApart}

module _ (setup : ProgramWithInputs) (numbers : Numbering) where
  length_first : (n : ℕ) → length (first_tasks setup numbers n) ≡ n
  length_first zero = refl
  length_first (suc n) =
      let e : length (first_tasks setup numbers n) ≡ n = length_first n in
      length-append (first_tasks setup numbers n) (live (started (setting_of setup numbers) setup.inputs n) ∷ []) ∙
      (let k : length (first_tasks setup numbers n) + 1 ≡ suc n = omega arith in k)

  as_many : length (opening_of setup numbers).state.seats ≡ length numbers.tasks
  as_many = length_first (length numbers.tasks)

  -- ---- the definitions of either side

  verdict_there : (bound : ℕ) (events : List Event) → VerdictIs setup numbers bound events Feasible ↔ AllFeasible (rules_of numbers) (opening_of setup numbers).state bound events
  verdict_there bound events = (
    λ v before rest e q. let (none, can) = v before rest e q in
        (needed_at numbers (length (opening_of setup numbers).state.seats) as_many (λ t. IsOpenAt setup numbers before t bound → ⊥) e none, can),
    λ v before rest e q. let (none, can) = v before rest e q in
        (needed_all numbers (length (opening_of setup numbers).state.seats) as_many (λ t. IsOpenAt setup numbers before t bound → ⊥) e none, can),
  )

  shows_too : (xs ys : List Event) → AllShownBy (rules_of numbers) (opening_of setup numbers).state xs ys → (outputs : ℕ → List ℕ) → Shows setup numbers xs outputs → Shows setup numbers ys outputs
  shows_too xs ys shown outputs h =
      let (others, tally, there, same) = shown (λ t. seat_of (end_of (rules_of numbers) (opening_of setup numbers).state h.actions).seats t)
      (tallies (rules_of numbers) (opening_of setup numbers).state h.actions (λ t. 0))
      (record { actions = h.actions; applies = h.applies; has_events = h.has_events; leaves = λ t. refl; counts = λ t. refl }) in
      record {
        actions = there.actions;
        applies = there.applies;
        has_events = there.has_events;
        written = λ t. ap (λ seat. seat.local.output) (there.leaves t) ∙ ap (λ task. task.output) (same.local t) ∙ h.written t;
      }

  -- ---- sequences that are alike

  alike_are : (xs ys : List Event) → AreAlike (owner_of numbers) (length numbers.tasks) (known_first numbers) xs ys → AreSame setup numbers xs ys
  alike_are xs ys alike = record {
    feasible = same.feasible;
    shows = λ outputs. (shows_too xs ys same.shown outputs, shows_too ys xs same.shown_back outputs);
    verdict = λ bound. (
      λ v. (verdict_there bound ys).1 ((same.verdict bound).0 ((verdict_there bound xs).0 v)),
      λ v. (verdict_there bound xs).1 ((same.verdict bound).1 ((verdict_there bound ys).0 v)),
    );
  }
    where
      same : exchange.AreSame task_ops (owner_of numbers) (opening_of setup numbers).state xs ys
      same = alike_same task_ops (owner_of numbers) IsProper lawful (opening_of setup numbers).state (opens setup numbers) (proper setup numbers) xs ys
          (subst (λ n. AreAlike (owner_of numbers) n (known_at_start n) xs ys) (sym as_many) alike)

pub alike_are_same : AlikeAreSame
alike_are_same setup numbers xs ys alike = alike_are setup numbers xs ys alike

pub neighbours_exchange : NeighboursExchange
neighbours_exchange setup numbers before rest e f apart = alike_are setup numbers (before ++ e ∷ f ∷ rest) (before ++ f ∷ e ∷ rest)
    (alike_behind (owner_of numbers) (length numbers.tasks) (known_first numbers) before (e ∷ f ∷ rest) (f ∷ e ∷ rest) (exchanged _ e f rest apart))

pub lists_are_same : ListsAreSame
lists_are_same setup numbers xs ys some one other same =
    alike_are setup numbers xs ys ((same_lists_are_alike (owner_of numbers) (length numbers.tasks) xs ys some one).0 (other, same))

pub orders_are_judged : OrdersAreJudged
orders_are_judged setup numbers lists order bound some size joined = record {
  for_each = (λ v events source. (same events source).0 v, λ h. h order itself);
  for_one = (λ v. (order, itself, v), λ h. (same h.0 h.1).1 h.2);
}
  where
    itself : IsSource (owner_of numbers) (length numbers.tasks) lists order
    itself = (orders_of_all (owner_of numbers) (length numbers.tasks) lists size).splits_back order joined

    same : (events : List Event) → IsSource (owner_of numbers) (length numbers.tasks) lists events →
        VerdictIs setup numbers bound order Feasible ↔ VerdictIs setup numbers bound events Feasible
    same events source =
        (lists_are_same setup numbers order events some itself.admitted source.admitted (itself.lists_are ∙ sym source.lists_are)).verdict bound

pub judged_is_admitted : JudgedIsAdmitted
judged_is_admitted setup numbers bound events v =
    let can = well_feasible task_ops (owner_of numbers) IsProper lawful (opening_of setup numbers).state (opens setup numbers) (proper setup numbers) bound events ((verdict_there setup numbers bound events).0 v) in (
      can,
      subst (λ n. AreAdmitted (owner_of numbers) (known_at_start n) events) (as_many setup numbers)
          (feasible_admitted task_ops (owner_of numbers) IsProper lawful (opening_of setup numbers).state (opens setup numbers) (proper setup numbers) events can),
    )

pub completions_are_apart : CompletionsAreApart
completions_are_apart numbers before t u other v l = go (v == t) refl
  where
    go : (b : Bool) → (v == t) ≡ b → (b && (v == u)) ≡ false
    go true q = unequal v u (λ r. other (sym (equal_is v t q) ∙ r))
    go false q = refl
