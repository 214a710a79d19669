-- Whatever a run with one list shows, some run with another that leads to the same bases shows.
use Rattle.std.proofs.Common.{◌≡◌, ℕ, ◌<◌, true, false, List, refl, sym, ap, ◌∙◌, subst, ⊎_elim, true≢false}
use Rattle.std.proofs.lemmas.Bool.{cases_Bool, cases_lt}
use Rattle.event_machine.specs.declared.Standing.{Standing}
use Rattle.event_machine.specs.declared.Standing.TheVariants.{Live, Waiting, Queued, Served, Completed, Killed}
use Rattle.event_machine.specs.declared.Event.{Event}
use Rattle.event_machine.specs.States.{Seat, State, is_completed}
use Rattle.event_machine.specs.Lawful.{IsLawful}
use Rattle.event_machine.specs.Runs.{IsRun, end_of, events_of}
use Rattle.event_machine.specs.Programs.{Program, numbered, IsOpening}
use Rattle.event_machine.specs.Worlds.{World, still, still_seat, world_of, state_of, world_after}
use Rattle.event_machine.specs.Settling.{ran, Leads, CountsFor, IsRunOn}
use Rattle.event_machine.specs.Tallies.{tallies, ComesTo}
use Rattle.event_machine.specs.Laws.{IsLifted}
use Rattle.event_machine.proofs.Lifting.{lifting}
use Rattle.event_machine.proofs.Stepping.{settles_once}
use Rattle.event_machine.proofs.Following.{leads_once}
use Rattle.event_machine.proofs.Bases.{IsBase, base_leads}
use Rattle.event_machine.proofs.Walking.{follows_self}
use Rattle.event_machine.proofs.Returning.{Return, HasNumbers, lead_back}
use Rattle.event_machine.proofs.Reaching.{IsReached, reached, start_base, start_each, start_still}
use Rattle.event_machine.proofs.Resting.{can_kill}
use Rattle.syn_order.specs.exchange.Shown.{IsShown, AllShownBy}
use Rattle.syn_order.proofs.exchange.Traces.{no_end, IsTrace, trace}

module _ {L : Type 0} (p : Program L) (IsProper : L → Type 0) (lawful : IsLawful p.ops IsProper) (s : State (ℕ → Seat L))
    (opening : IsOpening (numbered p) s) (proper : (t : ℕ) → t < p.size → IsProper (s.seats t).local) where
  abbrev start : World L
  start = world_of s

  abbrev Trace : List Event → (ℕ → Seat L) → (ℕ → ℕ) → Type 0
  Trace = IsTrace p IsProper lawful s opening proper

  base : IsBase p IsProper lawful start
  base = start_base p IsProper lawful s opening proper

  start_state : state_of start ≡ s
  start_state = λ i. record {
    seats = λ t. record { local = (s.seats t).local; standing = start_still p IsProper lawful s opening proper t i };
    line = sym opening.line i;
    ended = s.ended;
  }

  -- nobody is killed at the start
  start_numbers : (number : ℕ → ℕ) → HasNumbers p IsProper lawful number start start
  start_numbers number t killed = absurd (start_each p IsProper lawful s opening proper (λ u z. still z ≡ Killed → ⊥)
      (λ u l q. let k : ◌≡◌ {A = Standing} Live Killed = q in cc) (λ u l q. let k : ◌≡◌ {A = Standing} Completed Killed = q in cc) t killed)

  module _ (xs ys : List Event) (tasks : ℕ → Seat L) (tally : ℕ → ℕ) (one : Trace xs tasks tally) (there : Leads p start ys one.last) where
    abbrev last : World L
    last = one.last

    last_base : IsBase p IsProper lawful last
    last_base = base_leads p IsProper lawful ys start last there base

    -- the local steps that each task has made over its base
    abbrev number : ℕ → ℕ
    number t = (one.each t).steps

    -- A run with the other list, in which each free and each killed task has made as many.
    pub record IsMatched : Type 0 where
      pub others : ℕ → Seat L
      pub other_tally : ℕ → ℕ
      pub run : ComesTo (numbered p) s ys others other_tally
      pub free : (t : ℕ) → (last.tasks t).standing ≡ Live → (others t).local ≡ ran p.ops (number t) (last.tasks t).local
      pub killed : (t : ℕ) → (last.tasks t).standing ≡ Killed → (others t).local ≡ ran p.ops (number t) (last.tasks t).local

    -- the run, over the same bases
    trace_there : (others : ℕ → Seat L) (other_tally : ℕ → ℕ) → ComesTo (numbered p) s ys others other_tally →
        (t : ℕ) → IsRunOn p.ops (last.tasks t) (other_tally t) (still_seat (others t))
    trace_there others other_tally run t =
        let two : Trace ys others other_tally = trace p IsProper lawful s opening proper ys others other_tally run in
        subst (λ (w : World L). IsRunOn p.ops (w.tasks t) (other_tally t) (still_seat (others t))) (leads_once p ys start two.last last two.leads there) (two.each t)

    -- ---- where the program has not ended

    matched_open : last.ended ≡ false → IsMatched
    matched_open open' =
        let r : IsReached p IsProper lawful s opening proper ys last number = reached p IsProper lawful s opening proper number ys last (no_end p ys start last there open') there
        (can_kill p IsProper lawful number ys start last there base (λ t q. (one.each t).has_steps)) (λ t q. (one.each t).has_steps) in
        record { others = r.tasks; other_tally = r.tally; run = r.run; free = λ t q. (r.free t q).0; killed = r.killed }

    -- ---- where it has

    matched_ended : last.ended ≡ true → IsMatched
    matched_ended over = record { others = others; other_tally = other_tally; run = run; free = free; killed = killed }
      where
        back : Return p IsProper lawful number start last ys
        back = lead_back p IsProper lawful number ys start last start there
            (can_kill p IsProper lawful number ys start last there base (λ t q. (one.each t).has_steps)) base (follows_self p start) base.sound (start_numbers number)

        lifted : IsLifted p start back.moves
        lifted = lifting p start back.moves base.still' back.made

        others : ℕ → Seat L
        others = (end_of (numbered p) s lifted.actions).seats

        other_tally : ℕ → ℕ
        other_tally = tallies (numbered p) s lifted.actions (λ t. 0)

        run : ComesTo (numbered p) s ys others other_tally
        run = record {
          actions = lifted.actions;
          applies = subst (λ z. IsRun (numbered p) z lifted.actions) start_state lifted.applies;
          has_events = subst (λ z. events_of (numbered p) z lifted.actions ≡ ys) start_state (lifted.events ∙ back.events_are);
          leaves = λ t. refl;
          counts = λ t. refl;
        }

        killed : (t : ℕ) → (last.tasks t).standing ≡ Killed → (others t).local ≡ ran p.ops (number t) (last.tasks t).local
        killed t q = ap (λ (w : World L). (w.tasks t).local)
            (subst (λ z. world_of (end_of (numbered p) z lifted.actions) ≡ world_after p start back.moves) start_state lifted.world) ∙ back.numbers t q

        two : Trace ys others other_tally
        two = trace p IsProper lawful s opening proper ys others other_tally run

        same_last : two.last ≡ last
        same_last = leads_once p ys start two.last last two.leads there

        -- a free task has come to rest in both
        free : (t : ℕ) → (last.tasks t).standing ≡ Live → (others t).local ≡ ran p.ops (number t) (last.tasks t).local
        free t q =
            let r : IsRunOn p.ops (last.tasks t) (other_tally t) (still_seat (others t)) = trace_there others other_tally run t in
            r.local ∙ ap (λ n. ran p.ops n (last.tasks t).local) (settles_once p.ops r.steps (number t) (last.tasks t).local
            (r.has_steps, ap p.ops.can_step (sym r.local) ∙ rests_there)
            ((one.each t).has_steps, ap p.ops.can_step (sym (one.each t).local) ∙ one.rests over t below q))
          where
            below : t < p.size
            below = ⊎_elim (λ l. l) (λ l. absurd (true≢false (sym (last_base.beyond t l) ∙ ap is_completed q))) (cases_lt t p.size)

            rests_there : p.ops.can_step (others t).local ≡ false
            rests_there = two.rests (ap (λ (w : World L). w.ended) same_last ∙ over) t below (ap (λ (w : World L). (w.tasks t).standing) same_last ∙ q)

    -- ---- the two runs

    matched : IsMatched
    matched = ⊎_elim matched_ended matched_open (cases_Bool last.ended)

    shown : (m : IsMatched) → IsShown tasks m.others
    shown m = record {
      local = λ t. same (last.tasks t).standing t refl;
      standing = λ t. (each t).standing ∙ sym (one.each t).standing;
    }
      where
        each : (t : ℕ) → IsRunOn p.ops (last.tasks t) (m.other_tally t) (still_seat (m.others t))
        each = trace_there m.others m.other_tally m.run

        -- a task that has made no step over its base in either
        idle : (t : ℕ) → (each t).steps ≡ 0 → number t ≡ 0 → (m.others t).local ≡ (tasks t).local
        idle t e d = (each t).local ∙ ap (λ n. ran p.ops n (last.tasks t).local) (e ∙ sym d) ∙ sym (one.each t).local

        same : (z : Standing) (t : ℕ) → (last.tasks t).standing ≡ z → (m.others t).local ≡ (tasks t).local
        same Live t q = m.free t q ∙ sym (one.each t).local
        same Waiting t q = absurd (let k : ◌≡◌ {A = Standing} Live Waiting = sym (ap still q) ∙ last_base.still' t ∙ q in cc)
        same Queued t q = absurd (let k : ◌≡◌ {A = Standing} Live Queued = sym (ap still q) ∙ last_base.still' t ∙ q in cc)
        same (Served by abnormal) t q = idle t (subst (λ y. CountsFor y (m.other_tally t) (each t).steps) q (each t).counted)
            (subst (λ y. CountsFor y (tally t) (number t)) q (one.each t).counted)
        same Completed t q = idle t (subst (λ y. CountsFor y (m.other_tally t) (each t).steps) q (each t).counted)
            (subst (λ y. CountsFor y (tally t) (number t)) q (one.each t).counted)
        same Killed t q = m.killed t q ∙ sym (one.each t).local

  -- Where one list leads the other does, so it shows what the one shows.
  pub all_shown : (xs ys : List Event) → ((last : World L) → Leads p start xs last → Leads p start ys last) → AllShownBy (numbered p) s xs ys
  all_shown xs ys leads tasks tally run =
      let one : Trace xs tasks tally = trace p IsProper lawful s opening proper xs tasks tally run in
      let m = matched xs ys tasks tally one (leads one.last one.leads) in
      (m.others, m.other_tally, m.run, shown xs ys tasks tally one (leads one.last one.leads) m)
