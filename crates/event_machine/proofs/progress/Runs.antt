-- The laws, over tasks by their numbers and in a list.
use Rattle.std.proofs.Common.{◌≡◌, ℕ, ◌<◌, ◌≤◌, true, false, not, List, [], ◌∷◌, ◌++◌, length, slice_index_or, None, refl, sym, ap, ◌∙◌, subst, ⊎_elim}
use Rattle.std.proofs.lemmas.Bool.{cases_lt}
use Rattle.std.proofs.lemmas.List.{get_or_past}
use Rattle.event_machine.specs.declared.Standing.{Standing}
use Rattle.event_machine.specs.declared.Standing.TheVariants.{Live, Completed}
use Rattle.event_machine.specs.declared.Event.{Event}
use Rattle.event_machine.specs.States.{Ops, Seat, State, completed, is_completed}
use Rattle.event_machine.specs.Lawful.{IsLawful}
use Rattle.event_machine.specs.Runs.{Feasible, end_of}
use Rattle.event_machine.specs.Programs.{Program, numbered, listed, by_number, IsOpening}
use Rattle.event_machine.specs.Worlds.{World, Move, world_of, AreMoves, world_after, happened, happens}
use Rattle.event_machine.specs.Tallies.{ComesTo, tallies}
use Rattle.event_machine.specs.Laws.{IsErased}
use Rattle.event_machine.proofs.Basics.{both}
use Rattle.event_machine.proofs.Bases.{IsBase, base_leads}
use Rattle.event_machine.proofs.Walking.{follow_moves, follows_self}
use Rattle.event_machine.proofs.Erasing.{erasing}
use Rattle.event_machine.proofs.Joining.{joined}
use Rattle.event_machine.proofs.Reaching.{start_base}
use Rattle.event_machine.specs.progress.Known.{nobody, idle_parties, party, known_at_start, known, admits}
use Rattle.event_machine.specs.progress.Laws.{told, IsYes, program_with, ToldByEvents, FeasibleIsAdmitted}
use Rattle.event_machine.proofs.progress.Parties.{idle_at, idle_length}
use Rattle.event_machine.proofs.progress.Seats.{told_still}
use Rattle.event_machine.proofs.progress.Telling.{Tells}
use Rattle.event_machine.proofs.progress.Admitting.{happens_suits}
use Rattle.event_machine.proofs.progress.Moves.{Knows, knows_moves, last_comes}

-- what is known before the first event of a state in which all tasks are free
module _ {L : Type 0} (p : Program L) (IsProper : L → Type 0) (lawful : IsLawful p.ops IsProper) (s : State (ℕ → Seat L)) (opening : IsOpening (numbered p) s)
    (proper : (t : ℕ) → t < p.size → IsProper (s.seats t).local) where
  abbrev start : World L
  start = world_of s

  base : IsBase p IsProper lawful start
  base = start_base p IsProper lawful s opening proper

  tells_start : Tells p.ops (known_at_start p.size) start.tasks
  tells_start t = ⊎_elim within past (cases_lt t p.size)
    where
      stands : (z : Standing) → (s.seats t).standing ≡ z → told p.ops (record { local = (s.seats t).local; standing = z }) ≡ told p.ops (start.tasks t)
      stands z q = ap (λ y. told p.ops (record { local = (s.seats t).local; standing = y })) (sym q) ∙ sym (told_still p.ops (s.seats t).local (s.seats t).standing)

      within : t < p.size → party (known_at_start p.size) t ≡ told p.ops (start.tasks t)
      within l = idle_at p.size t l ∙ ap (λ (cs : List ℕ). record { closed = false; server = None; callers = cs }) (sym (opening.callers t l)) ∙ stands Live (opening.live t l)

      past : p.size ≤ t → party (known_at_start p.size) t ≡ told p.ops (start.tasks t)
      past l = get_or_past (idle_parties p.size) t nobody (subst (λ n. n ≤ t) (sym (idle_length p.size)) l) ∙ stands Completed (opening.beyond t l)

  knows_start : Knows p IsProper lawful (known_at_start p.size) start
  knows_start = record { sound = base.sound; tells = tells_start; ended = sym opening.ended }

  module _ (moves : List Move) (made : AreMoves p start moves) where
    -- What the events of moves tell is so of the world that they lead to.
    pub knows_after : Knows p IsProper lawful (known p.owner p.size (happened moves)) (world_after p start moves)
    knows_after = knows_moves p IsProper lawful moves (known_at_start p.size) start knows_start made

    pub completed_after : (t : ℕ) → p.size ≤ t → is_completed ((world_after p start moves).tasks t).standing ≡ true
    completed_after t l =
        let (last, leads, follows) = follow_moves p IsProper lawful moves start start (λ u. 0) base.sound (follows_self p start) made in
        ap is_completed (follows.each t).standing ∙ (base_leads p IsProper lawful (happened moves) start last leads base).beyond t l

    -- An event whose conditions hold there is admitted.
    pub happens_admitted : (e : Event) → (world_after p start moves).ended ≡ false → happens p (world_after p start moves).tasks e ≡ true →
        admits p.owner (known p.owner p.size (happened moves)) e ≡ true
    happens_admitted e runs h = both (ap not (knows_after.ended ∙ runs))
        (happens_suits p IsProper lawful (known p.owner p.size (happened moves)) (world_after p start moves).tasks knows_after.sound knows_after.tells completed_after e h)

  -- After each run each task is as its events tell.
  pub run_told : (events : List Event) (tasks : ℕ → Seat L) (tally : ℕ → ℕ) → ComesTo (numbered p) s events tasks tally → Tells p.ops (known p.owner p.size events) tasks
  run_told events tasks tally run t =
      ap (λ es. party (known p.owner p.size es) t) (sym (er.events ∙ run.has_events)) ∙
      (knows_after er.moves er.made).tells t ∙
      ap (λ (w : World L). told p.ops (w.tasks t)) er.ends ∙
      told_still p.ops ((end_of (numbered p) s run.actions).seats t).local ((end_of (numbered p) s run.actions).seats t).standing ∙
      ap (told p.ops) (run.leaves t)
    where
      er : IsErased p s run.actions
      er = erasing p s run.actions run.applies

  -- An event that can happen after a feasible sequence is admitted.
  pub next_admitted : (events : List Event) (e : Event) → Feasible (numbered p) s (events ++ e ∷ []) → admits p.owner (known p.owner p.size events) e ≡ true
  next_admitted events e (actions, run, has) =
      let er : IsErased p s actions = erasing p s actions run in
      let comes = last_comes p IsProper lawful er.moves start events e er.made (er.events ∙ has) in
      ap (λ es. admits p.owner (known p.owner p.size es) e) (sym comes.before) ∙ happens_admitted comes.moves comes.made e comes.runs comes.holds

-- ---- tasks in a list

module _ {L : Type 0} (ops : Ops L) (owner : ℕ → ℕ) (IsProper : L → Type 0) (lawful : IsLawful ops IsProper) (s : State (List (Seat L)))
    (opening : IsOpening (listed (program_with ops owner s)) s) (proper : (t : ℕ) → t < length s.seats → IsProper (slice_index_or s.seats t (completed ops.nobody)).local) where
  abbrev p : Program L
  p = program_with ops owner s

  opening_numbers : IsOpening (numbered p) (by_number p s)
  opening_numbers = record { line = opening.line; ended = opening.ended; live = opening.live; callers = opening.callers; beyond = opening.beyond }

  pub told_list : (events : List Event) (tasks : ℕ → Seat L) (tally : ℕ → ℕ) → ComesTo (listed p) s events tasks tally → Tells ops (known owner (length s.seats) events) tasks
  told_list events tasks tally run = run_told p IsProper lawful (by_number p s) opening_numbers proper events tasks tally ((joined p s refl events tasks tally).0 run)

  pub admitted_list : (events : List Event) (e : Event) → Feasible (listed p) s (events ++ e ∷ []) → admits owner (known owner (length s.seats) events) e ≡ true
  admitted_list events e (actions, run, has) =
      let r = (joined p s refl (events ++ e ∷ []) (λ t. slice_index_or (end_of (listed p) s actions).seats t (completed ops.nobody)) (tallies (listed p) s actions (λ t. 0))).0
      (record { actions = actions; applies = run; has_events = has; leaves = λ t. refl; counts = λ t. refl }) in
      next_admitted p IsProper lawful (by_number p s) opening_numbers proper events e (r.actions, r.applies, r.has_events)

module _ {L : Type 0} where
  pub told_by_events : ToldByEvents L
  told_by_events o events tasks tally run = told_list o.ops o.owner (IsYes o.proper) o.lawful o.state o.opens_so o.starts_proper events tasks tally run

  pub feasible_is_admitted : FeasibleIsAdmitted L
  feasible_is_admitted o events e feasible = admitted_list o.ops o.owner (IsYes o.proper) o.lawful o.state o.opens_so o.starts_proper events e feasible
