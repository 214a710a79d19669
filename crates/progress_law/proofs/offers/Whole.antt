-- Whatever has happened, what the tasks of a legal original offer is known.
use Rattle.std.proofs.Common.{◌≡◌, ◌<◌, ◌≤◌, ℕ, ℤ, true, List, length, slice_index_or, refl, sym, ap, ◌∙◌, subst, true≢false, ⊎_elim, arith}
use Rattle.std.proofs.lemmas.Bool.{cases_lt}
use Rattle.common_lemmas.proofs.Numbers.{lt_true}
use Rattle.ada_tree.specs.PlainProgram.{PProgram}
use Rattle.ada_static_rules.specs.Refusals.{types_in}
use Rattle.event_machine.specs.declared.Event.{Event}
use Rattle.event_machine.specs.declared.Standing.TheVariants.{Live}
use Rattle.event_machine.specs.Laws.{IsErased}
use Rattle.event_machine.specs.Offers.{Offer}
use Rattle.event_machine.specs.Programs.{Program, IsOpening, by_number, numbered}
use Rattle.event_machine.specs.States.{Seat, State, live, completed, is_closed, is_completed}
use Rattle.event_machine.specs.Tallies.{ComesTo, before_end}
use Rattle.event_machine.specs.Worlds.{World, still_seat, world_after}
use Rattle.event_machine.proofs.Bases.{IsBase, base_leads}
use Rattle.event_machine.proofs.Erasing.{erasing}
use Rattle.event_machine.proofs.Joining.{joined}
use Rattle.event_machine.proofs.ListLaws.{sound_list, led_list, opening_numbers}
use Rattle.event_machine.proofs.Reaching.{IsLed, start_base}
use Rattle.syn_event.specs.declared.numbering.Mode.TheVariants.{Original}
use Rattle.syn_event.specs.Numbering.{owner_of}
use Rattle.task_model.specs.Laws.{program_in, first_world}
use Rattle.task_model.specs.Machine.{ProgramWithInputs, Tasks, rules_of, setting_of, opening_of}
use Rattle.task_model.specs.Setting.{Setting}
use Rattle.task_model.specs.Stands.{offer_of}
use Rattle.task_model.specs.Starting.{nobody}
use Rattle.task_model.specs.TaskOps.{task_ops}
use Rattle.task_model.specs.Tasks.{Task}
use Rattle.task_model.proofs.Following.{opens}
use Rattle.task_laws.proofs.actions.Numbers.{few_numbered}
use Rattle.task_laws.proofs.invariants.Beginning.{first, length_first, first_is}
use Rattle.task_laws.proofs.statements.Carried.{starts-so}
use Rattle.normal_laws.specs.runs.forms.Normalisable.{numbers_of}
use Rattle.normal_laws.specs.existence.Laws.{IsLegalOriginal}
use Rattle.replay_runs.proofs.controls.meanings.Numbered.{has_stepped, has_accepted, has_finished, has_resumed, has_took_else, has_took_delay, has_passed}
use Rattle.table_law.proofs.runs.Keeping.{AllKeep, all_keep}
use Rattle.race_variant.specs.KnownOffers.{is_known_offer}
use Rattle.race_variant.proofs.Few.{variants_are_few}
use Rattle.progress_law.specs.offers.Laws.{LegalOffersAreKnown, LegalVariantsAreFew}
use Rattle.progress_law.specs.offers.inner.Stated.{IsKnownAt, HasFewDelays}
use Rattle.progress_law.proofs.offers.Keeping.{Known, known-offer, known-lawful}
use Rattle.progress_law.proofs.offers.Stated.{unit-known, unit-few}

-- ---- the tasks below a number have their places as numbers

abbrev IsPlaced : ℕ → ℕ → Task → Type 0
IsPlaced n u t = u < n → t.number ≡ u

placed_on : (n : ℕ) → AllKeep task_ops (IsPlaced n)
placed_on n = record {
  stepped = λ u t h l. has_stepped u t (h l);
  accepted = λ e i c caller u t h l. has_accepted u e i c caller t (h l);
  finished = λ u t h l. has_finished u t (h l);
  resumed = λ acceptor u t h l. has_resumed u acceptor t (h l);
  raised = λ u t h l. h l;
  took_else = λ u t h l. has_took_else u t (h l);
  took_delay = λ k u t h l. has_took_delay u k t (h l);
  passed = λ u t h l. has_passed u t (h l);
}

module _ (p : PProgram) (h : IsLegalOriginal p) (inputs : List (List ℤ)) where
  abbrev setup : ProgramWithInputs
  setup = record { program = p; types = types_in p; inputs = inputs }

  abbrev g : Setting
  g = setting_of setup (numbers_of p)

  abbrev many : ℕ
  many = length (numbers_of p).tasks

  abbrev opening : State Tasks
  opening = (opening_of setup (numbers_of p)).state

  abbrev program : Program Task
  program = program_in setup (numbers_of p)

  abbrev among : ℕ → Task
  among t = (slice_index_or opening.seats t (completed nobody)).local

  -- ---- the start

  below : (t : ℕ) → t < length opening.seats → t < many
  below t l = subst (λ n. t < n) (length_first setup (numbers_of p) many) l

  starts : (t : ℕ) → t < many → Known g (first setup (numbers_of p) t).local
  starts t l = record {
    proper = refl;
    setting = refl;
    there = lt_true t many l;
    known = starts-so (IsKnownAt g t) g inputs t (unit-known p h inputs t);
    few = starts-so HasFewDelays g inputs t (unit-few p h inputs t);
    main = λ z. refl;
  }

  is-first : (t : ℕ) → t < length opening.seats → among t ≡ (first setup (numbers_of p) t).local
  is-first t l = ap (λ (s : Seat Task). s.local) (first_is setup (numbers_of p) many t (below t l))

  each-starts : (t : ℕ) → t < length opening.seats → Known g (among t)
  each-starts t l = subst (Known g) (sym (is-first t l)) (starts t (below t l))

  opening-is : IsOpening (rules_of (numbers_of p)) opening
  opening-is = opens setup (numbers_of p)

  -- ---- behind events

  module _ (events : List Event) (tasks : ℕ → Seat Task) (tally : ℕ → ℕ) (run : ComesTo (rules_of (numbers_of p)) opening events tasks tally) (t : ℕ) (task : Task) (is_live : tasks t ≡ live task) where
    standing : (tasks t).standing ≡ Live
    standing = ap (λ (s : Seat Task). s.standing) is_live

    -- past the last task there is none
    within : t < length opening.seats
    within = ⊎_elim (λ (l : t < length opening.seats). l) (λ (l : length opening.seats ≤ t). absurd (beyond l)) (cases_lt t (length opening.seats))
      where
        led : IsLed program (Known g) (known-lawful g) (by_number program opening) (opening_numbers task_ops (owner_of (numbers_of p)) (Known g) (known-lawful g) opening opening-is each-starts) each-starts events tasks tally
        led = led_list task_ops (owner_of (numbers_of p)) (Known g) (known-lawful g) opening opening-is each-starts events tasks tally run

        base : IsBase program (Known g) (known-lawful g) led.last
        base =
            base_leads program (Known g) (known-lawful g) events (first_world setup (numbers_of p)) led.last led.leads
            (start_base program (Known g) (known-lawful g) (by_number program opening) (opening_numbers task_ops (owner_of (numbers_of p)) (Known g) (known-lawful g) opening opening-is each-starts) each-starts)

        beyond : length opening.seats ≤ t → ⊥
        beyond l =
            let same : Live ≡ (led.last.tasks t).standing = ap (λ (s : Seat Task). (still_seat s).standing) (sym is_live) ∙ (led.each t).standing in
            true≢false (sym (base.beyond t l) ∙ ap is_completed (sym same))

    number : task.number ≡ t
    number = ap (λ (s : Seat Task). s.local.number) (sym is_live) ∙ subst (λ (s : Seat Task). s.local.number ≡ t) ends (placed t within)
      where
        run' : ComesTo (numbered program) (by_number program opening) events tasks tally
        run' = (joined program opening refl events tasks tally).0 run

        er : IsErased program (by_number program opening) run'.actions
        er = erasing program (by_number program opening) run'.actions run'.applies

        placed : (u : ℕ) → u < length opening.seats → ((world_after program (first_world setup (numbers_of p)) er.moves).tasks u).local.number ≡ u
        placed =
            all_keep program (IsPlaced (length opening.seats)) (placed_on (length opening.seats)) er.moves (first_world setup (numbers_of p))
            (λ u l. ap (λ (x : Task). x.number) (is-first u l))

        ends : (world_after program (first_world setup (numbers_of p)) er.moves).tasks t ≡ still_seat (tasks t)
        ends = ap (λ (w : World Task). w.tasks t) er.ends ∙ ap still_seat (run'.leaves t)

    known : Known g task
    known =
        subst (λ (s : Seat Task). Known g s.local) is_live
        ((sound_list task_ops (owner_of (numbers_of p)) (Known g) (known-lawful g) opening opening-is each-starts events tasks tally run).proper t (ap is_closed standing))

    pub offers-known : (offer : Offer) → offer_of task ≡ offer → is_known_offer (numbers_of p) t offer ≡ true
    offers-known offer e =
        subst (λ (o : Offer). is_known_offer (numbers_of p) t o ≡ true) e
        (subst (λ n. is_known_offer (numbers_of p) n (offer_of task) ≡ true) number (known-offer g task known))

pub legal_offers_are_known : LegalOffersAreKnown
legal_offers_are_known p h inputs events t offer (n, task, rest, steps, same) =
    let (tasks, tally, run, is_live, counted) = rest in offers-known p h inputs (before_end events) tasks tally run t task is_live offer same

-- Fewer than 2^32 events can come next.
pub legal_variants_are_few : LegalVariantsAreFew
legal_variants_are_few p h inputs bound events skip found unsettled a =
    let few : length (numbers_of p).tasks ≤ 203 = few_numbered p (types_in p) (numbers_of p) Original h.legal in
    variants_are_few (record { program = p; types = types_in p; inputs = inputs }) (numbers_of p) (legal_offers_are_known p h inputs) (omega (arith, few)) bound events skip found unsettled a
