-- Behind each run of a legal program few actions apply.
use Rattle.std.proofs.Common.{◌≡◌, ◌<◌, ◌≤◌, ◌^◌, ◌+◌, ◌*◌, ℕ, Bool, true, false, not, ◌&&◌, List, length, slice_index_or, inl, inr, refl, sym, subst, true≢false, arith}
use Rattle.event_machine.specs.declared.Action.{Action}
use Rattle.event_machine.specs.declared.Standing.{Standing}
use Rattle.event_machine.specs.declared.Standing.TheVariants.{Live, Waiting, Queued, Served, Completed, Killed}
use Rattle.event_machine.specs.Lawful.{IsLawful}
use Rattle.event_machine.specs.States.{Seat, State, completed, seen, is_closed, is_waiting}
use Rattle.event_machine.specs.Applying.{can}
use Rattle.event_machine.specs.Runs.{IsRun, end_of, events_of}
use Rattle.event_machine.specs.Tallies.{ComesTo, tallies}
use Rattle.event_machine.proofs.ListLaws.{sound_list}
use Rattle.syn_event.specs.declared.numbering.Mode.{Mode}
use Rattle.syn_event.specs.Legal.{Legal}
use Rattle.syn_event.specs.Numbering.{Numbering, owner_of}
use Rattle.task_model.specs.Laws.{IsProper, program_in}
use Rattle.task_model.specs.Machine.{ProgramWithInputs, Tasks, rules_of, setting_of, opening_of, enabled_of}
use Rattle.task_model.specs.Starting.{nobody}
use Rattle.task_model.specs.TaskOps.{task_ops}
use Rattle.task_model.specs.Tasks.{Task}
use Rattle.task_model.proofs.Following.{opens, proper}
use Rattle.task_model.proofs.Lawful.{lawful}
use Rattle.task_laws.specs.statements.Each.{HoldsOf}
use Rattle.task_laws.specs.statements.Laws.{StaysSo}
use Rattle.task_laws.specs.actions.Laws.{FewActions}
use Rattle.task_laws.proofs.invariants.Beginning.{first_is, length_first}
use Rattle.task_laws.proofs.statements.Carried.{starts-so, stays-so}
use Rattle.task_laws.proofs.actions.Alternatives.{HasFewAlternatives, unit-few}
use Rattle.task_laws.proofs.actions.Offering.{few-offered}
use Rattle.task_laws.proofs.actions.Listed.{IsFew, of-all}
use Rattle.task_laws.proofs.actions.Seats.{run_length}
use Rattle.task_laws.proofs.actions.Numbers.{few_numbered}

-- ---- what stays so

-- a task whose waits have few alternatives, and whose frames stand as they can
abbrev Few : Task → Type 0
Few t = IsProper t × HoldsOf HasFewAlternatives t

few-so : (l : Task) → Few l → StaysSo HasFewAlternatives l
few-so l k = stays-so HasFewAlternatives (λ loops c d cs s h. tt) l k.1

few-lawful : IsLawful task_ops Few
few-lawful = record {
  rests = lawful.rests;
  stepped = λ l k can. let b = lawful.stepped l k.0 can in ((b.0, (few-so l k).stepped), b.1);
  resumed = λ acceptor l other k. let b = lawful.resumed acceptor l other.0 k.0 in ((b.0, (few-so l k).resumed acceptor), b.1);
  raised = λ l k. let b = lawful.raised l k.0 in ((b.0, (few-so l k).raised), b.1);
  took_else = λ l k. let b = lawful.took_else l k.0 in ((b.0, (few-so l k).took_else), b.1);
  took_delay = λ n l k. let b = lawful.took_delay n l k.0 in ((b.0, (few-so l k).took_delay n), b.1);
  passed = λ l k. let b = lawful.passed l k.0 in ((b.0, (few-so l k).passed), b.1);
  accepted = λ e i c caller l other k waits. let b = lawful.accepted e i c caller l other.0 k.0 waits in ((b.0, (few-so l k).accepted e i c caller), b.1);
  finished = λ l k fin. let (c, b, same) = lawful.finished l k.0 fin in (c, (b, (few-so l k).finished), same);
  ended = λ l k ends. lawful.ended l k.0 ends;
}

-- a closed task does not wait
closed-rests : (z : Standing) → is_closed z ≡ true → is_waiting z ≡ false
closed-rests Live h = refl
closed-rests Waiting h = absurd (true≢false (sym h))
closed-rests Queued h = refl
closed-rests (Served by abnormal) h = refl
closed-rests Completed h = refl
closed-rests Killed h = refl

-- what is not there is not with anything else
no-both : (a b c : Bool) → b ≡ false → (a && (b && c)) ≡ false
no-both true true c h = absurd (true≢false h)
no-both true false c h = refl
no-both false b c h = refl

-- ---- behind a run

module _ (setup : ProgramWithInputs) (numbers : Numbering) (m : Mode) (legal : Legal setup.program setup.types numbers m) where
  abbrev many : ℕ
  many = length numbers.tasks

  abbrev opening : State Tasks
  opening = (opening_of setup numbers).state

  as-many : length opening.seats ≡ many
  as-many = length_first setup numbers many

  starts : (t : ℕ) → t < length opening.seats → Few (slice_index_or opening.seats t (completed nobody)).local
  starts t l = (
    proper setup numbers t l,
    subst (λ (s : Seat Task). HoldsOf HasFewAlternatives s.local) (sym (first_is setup numbers many t (subst (λ n. t < n) as-many l)))
        (starts-so HasFewAlternatives (setting_of setup numbers) setup.inputs t (unit-few setup.program m legal.check_rules numbers t)),
  )

  module _ (actions : List Action) (run : IsRun (rules_of numbers) opening actions) where
    abbrev last : State Tasks
    last = end_of (rules_of numbers) opening actions

    abbrev seat : ℕ → Seat Task
    seat t = slice_index_or last.seats t (completed nobody)

    abbrev passes : Action → Bool
    passes = can (rules_of numbers) last

    comes : ComesTo (rules_of numbers) opening (events_of (rules_of numbers) opening actions) seat (tallies (rules_of numbers) opening actions (λ u. 0))
    comes = record { actions = actions; applies = run; has_events = refl; leaves = λ t. refl; counts = λ t. refl }

    open-few : (t : ℕ) → is_closed (seat t).standing ≡ false → Few (seat t).local
    open-few t h =
        (sound_list task_ops (owner_of numbers) Few few-lawful opening (opens setup numbers) starts
        (events_of (rules_of numbers) opening actions) seat (tallies (rules_of numbers) opening actions (λ u. 0)) comes).proper t h

    each-few : (t : ℕ) → IsFew passes task_ops (seen (rules_of numbers) last) t
    each-few t = by_test (is_closed (seat t).standing) refl
      where
        by_test : (b : Bool) → is_closed (seat t).standing ≡ b → IsFew passes task_ops (seen (rules_of numbers) last) t
        by_test true e = inl (λ k. no-both (not last.ended) (is_waiting (seat t).standing) _ (closed-rests (seat t).standing e))
        by_test false e = inr (few-offered (seat t).local (open-few t e).1)

    size : length last.seats ≤ 203
    size =
        let same : length last.seats ≡ length opening.seats = run_length (program_in setup numbers) actions opening refl run in
        omega (arith, same, as-many, few_numbered setup.program setup.types numbers m legal)

    pub few : length (enabled_of (record { numbers = numbers; state = last })) < 2 ^ 32
    few =
        let all : length (enabled_of (record { numbers = numbers; state = last })) ≤ length last.seats * 110 + 1 =
        of-all passes task_ops (seen (rules_of numbers) last) (length last.seats) (λ t l. each-few t) in
        omega (arith, all, size)

pub actions_are_few : FewActions
actions_are_few setup numbers m legal actions run = few setup numbers m legal actions run
