-- What the runs of the two programs show of each other.
use Rattle.std.proofs.Common.{◌≡◌, ℕ, zero, suc, ◌<◌, ◌≤◌, true, false, List, [], ◌∷◌, ◌++◌, append-nil, refl, sym, ap, ap₂, ◌∙◌, subst, ⊎_elim, true≢false, arith}
use Rattle.std.proofs.lemmas.Bool.{cases_lt, cases_Bool}
use Rattle.event_machine.specs.declared.Standing.{Standing}
use Rattle.event_machine.specs.declared.Standing.TheVariants.{Live, Completed}
use Rattle.event_machine.specs.declared.Action.{Action}
use Rattle.event_machine.specs.declared.Event.{Event}
use Rattle.event_machine.specs.States.{Ops, Seat, State, is_completed}
use Rattle.event_machine.specs.Runs.{IsRun, end_of, events_of}
use Rattle.event_machine.specs.Programs.{Program, numbered}
use Rattle.event_machine.specs.Queues.{suits, IsSuited}
use Rattle.event_machine.specs.Laws.{IsQuiet, IsErased, IsLifted}
use Rattle.event_machine.specs.Worlds.{World, Move, happened, still, world_of, state_of, moved, AreMoves, world_after}
use Rattle.event_machine.proofs.Appends.{moves_append, world_append, happened_append}
use Rattle.event_machine.proofs.Bases.{IsBase}
use Rattle.event_machine.proofs.Erasing.{erasing}
use Rattle.event_machine.proofs.Lifting.{lifting}
use Rattle.event_machine.proofs.Queues.{run_suited}
use Rattle.event_machine.proofs.Reaching.{start_still, start_suited, start_base}
use Rattle.event_machine.proofs.Standings.{is-Live}
use Rattle.event_machine.proofs.Stills.{still_still}
use Rattle.run_laws.specs.imitation.Imitations.{Original, start, local_at, IsComeTo, ReachesIn, Reaches, Imitates, OpensSo}
use Rattle.run_laws.specs.imitation.Shown.{Opened, IsShownBy, AllShownBy, AllFreeAre}
use Rattle.run_laws.proofs.imitation.Alike.{program, IsAlike, AreAlike, LocalsAt, alike_reaches, reaches_rests, locals_output, meets_rests}
use Rattle.run_laws.proofs.imitation.Following.{IsOver, come_on, come_after, Kept, track_moves, Caught, catch_all, Followed, follow_move}
use Rattle.run_laws.proofs.imitation.Rested.{over_on, over_after, rests_over, quiet_rests}

module _ (x : Original) {K : Type 0} (ops : Ops K) (out : K → List ℕ) (Meets : K → x.L → Type 0) (Fine : K → Type 0) (imitates : Imitates x ops out Meets Fine) (at : State (ℕ → Seat K)) (opens : OpensSo x ops out Meets Fine at) where
  abbrev Q : Program K
  Q = program x ops out Meets Fine imitates

  abbrev Alike : (ℕ → Seat K) → (ℕ → Seat x.L) → Type 0
  Alike = AreAlike x ops out Meets Fine imitates

  -- ---- the start

  pub base : IsBase x.p x.IsProper x.lawful (start x)
  base = start_base x.p x.IsProper x.lawful x.opening x.opens_so x.proper

  pub first : IsComeTo x (start x)
  first = record { known = x.known_first; sound = base.sound }

  pub at_standing : (P : Standing → Type 0) → P Live → P Completed → (t : ℕ) → P (at.seats t).standing
  at_standing P lives over t = ⊎_elim (λ (m : t < x.p.size). subst P (sym (opens.standing t m)) lives) (λ (m : x.p.size ≤ t). subst P (sym (opens.beyond t m)) over) (cases_lt t x.p.size)

  at_still : (t : ℕ) → still (at.seats t).standing ≡ (at.seats t).standing
  at_still t = at_standing (λ z. still z ≡ z) refl refl t

  pub at_suited : IsSuited ops at.seats
  at_suited t = at_standing (λ z. suits z (ops.offer (at.seats t).local) ≡ true) refl refl t

  pub first_alike : Alike (world_of at).tasks (start x).tasks
  first_alike t = ⊎_elim below beyond (cases_lt t x.p.size)
    where
      below : t < x.p.size → IsAlike x ops out Meets Fine imitates t ((world_of at).tasks t) ((start x).tasks t)
      below m =
          let lives : still (x.opening.seats t).standing ≡ Live = ap still (x.opens_so.live t m) in
          record {
            standing = ap still (opens.standing t m) ∙ sym lives;
            locals = subst (λ s. LocalsAt x ops out Meets Fine imitates t s (at.seats t).local (x.opening.seats t).local) (sym lives) (opens.tasks t m);
          }

      beyond : x.p.size ≤ t → IsAlike x ops out Meets Fine imitates t ((world_of at).tasks t) ((start x).tasks t)
      beyond m =
          let over : still (x.opening.seats t).standing ≡ Completed = ap still (x.opens_so.beyond t m) in
          record {
            standing = ap still (opens.beyond t m) ∙ sym over;
            locals = subst (λ s. LocalsAt x ops out Meets Fine imitates t s (at.seats t).local (x.opening.seats t).local) (sym over) (λ (l : t < x.p.size). absurd (omega (arith, l, m)));
          }

  pub first_ended : (world_of at).ended ≡ (start x).ended
  first_ended = opens.ended ∙ sym x.opens_so.ended

  -- the states of these worlds
  pub at_state : state_of (world_of at) ≡ at
  at_state = λ i. record { seats = λ t. record { local = (at.seats t).local; standing = at_still t i }; line = sym opens.line i; ended = at.ended }

  opening_state : state_of (start x) ≡ x.opening
  opening_state = λ i. record {
    seats = λ t. record { local = (x.opening.seats t).local; standing = start_still x.p x.IsProper x.lawful x.opening x.opens_so x.proper t i };
    line = sym x.opens_so.line i;
    ended = x.opening.ended;
  }

  abbrev one : Opened x.L
  one = record { program = x.p; out = x.out; at = x.opening }

  abbrev other : Opened K
  other = record { program = Q; out = out; at = at }

  -- a free task is one of the program
  inside : (w : World x.L) → IsOver x w → (t : ℕ) → (w.tasks t).standing ≡ Live → t < x.p.size
  inside w over t free = ⊎_elim (λ (m : t < x.p.size). m) (λ (m : x.p.size ≤ t). absurd (true≢false (sym (over t m) ∙ ap is_completed free))) (cases_lt t x.p.size)

  -- ---- a run of the imitation is a run of the original

  module _ (actions : List Action) (run : IsRun (numbered Q) at actions) where
    erased : IsErased Q at actions
    erased = erasing Q at actions run

    kept : Kept x ops out Meets Fine imitates (world_after Q (world_of at) erased.moves) (start x) (happened erased.moves)
    kept = track_moves x ops out Meets Fine imitates erased.moves (world_of at) (start x) first first_alike first_ended erased.made

    lifted : IsLifted x.p (start x) kept.moves
    lifted = lifting x.p (start x) kept.moves base.still' kept.made

    abbrev now : World x.L
    now = world_after x.p (start x) kept.moves

    original_end : world_of (end_of (numbered x.p) x.opening lifted.actions) ≡ now
    original_end = ap (λ s. world_of (end_of (numbered x.p) s lifted.actions)) (sym opening_state) ∙ lifted.world

    imitation_end : world_after Q (world_of at) erased.moves ≡ world_of (end_of (numbered Q) at actions)
    imitation_end = erased.ends

    alike_there : (t : ℕ) → IsAlike x ops out Meets Fine imitates t ((world_of (end_of (numbered Q) at actions)).tasks t) (now.tasks t)
    alike_there t = subst (λ (v : World K). IsAlike x ops out Meets Fine imitates t (v.tasks t) (now.tasks t)) imitation_end (kept.alike t)

    over_now : IsOver x now
    over_now = over_after x kept.moves (start x) first base.beyond kept.made

    quiet_now : IsQuiet ops (end_of (numbered Q) at actions).seats → (t : ℕ) → (now.tasks t).standing ≡ Live → x.p.ops.can_step (now.tasks t).local ≡ false
    quiet_now quiet t free = ⊎_elim ended running (cases_Bool now.ended)
      where
        rests : ops.can_step ((end_of (numbered Q) at actions).seats t).local ≡ false
        rests = quiet_rests Q imitates.rests (end_of (numbered Q) at actions).seats (run_suited Q actions at run at_suited) quiet t ((alike_there t).standing ∙ free)

        meets : Meets ((end_of (numbered Q) at actions).seats t).local (now.tasks t).local
        meets = reaches_rests x ops out Meets Fine imitates ((end_of (numbered Q) at actions).seats t).local (now.tasks t).local
            (alike_reaches x ops out Meets Fine imitates t ((world_of (end_of (numbered Q) at actions)).tasks t) (now.tasks t) (alike_there t) free) rests

        ended : now.ended ≡ true → x.p.ops.can_step (now.tasks t).local ≡ false
        ended q = rests_over x.p x.lawful.rests kept.moves (start x) kept.made x.opens_so.ended q t (inside now over_now t free) free

        running : now.ended ≡ false → x.p.ops.can_step (now.tasks t).local ≡ false
        running q = meets_rests x ops out Meets Fine imitates now kept.come q t ((end_of (numbered Q) at actions).seats t).local meets free rests

    same_there : (t : ℕ) → ((end_of (numbered x.p) x.opening lifted.actions).seats t).local ≡ (now.tasks t).local
    same_there t = ap (λ (v : World x.L). (v.tasks t).local) original_end

    pub forth : IsShownBy other one actions
    forth = record {
      others = lifted.actions;
      applies = subst (λ s. IsRun (numbered x.p) s lifted.actions) opening_state lifted.applies;
      events = ap (λ s. events_of (numbered x.p) s lifted.actions) (sym opening_state) ∙ lifted.events ∙ kept.same ∙ erased.events;
      outputs = λ t m. ap x.out (same_there t) ∙
          sym (locals_output x ops out Meets Fine imitates t (now.tasks t).standing ((end_of (numbered Q) at actions).seats t).local (now.tasks t).local (alike_there t).locals m);
      quiet = λ quiet t lives. ap x.p.ops.can_step (same_there t) ∙
          quiet_now quiet t (sym (ap (λ (v : World x.L). (v.tasks t).standing) original_end) ∙ ap still (is-Live ((end_of (numbered x.p) x.opening lifted.actions).seats t).standing lives));
    }

  pub all_forth : AllShownBy other one
  all_forth actions run = forth actions run

  -- ---- free tasks of the imitation

  -- where one meets a state it is fine, and before each step to there too
  reaches_fine : (w : World x.L) → IsComeTo x w → (t : ℕ) (k : K) → (w.tasks t).standing ≡ Live → Reaches x ops out Meets Fine k (local_at w t) → Fine k
  reaches_fine w come t k free h = go h.0 h.1
    where
      go : (n : ℕ) → ReachesIn x ops out Meets Fine n k (local_at w t) → Fine k
      go zero r = imitates.fine w come t k r free
      go (suc n) r = r.1

  fine_there : (moves : List Move) → AreMoves Q (world_of at) moves → (t : ℕ) → ((world_after Q (world_of at) moves).tasks t).standing ≡ Live → Fine ((world_after Q (world_of at) moves).tasks t).local
  fine_there moves made t free =
      let k : Kept x ops out Meets Fine imitates (world_after Q (world_of at) moves) (start x) (happened moves) = track_moves x ops out Meets Fine imitates moves (world_of at) (start x) first first_alike first_ended made in
      let there : ((world_after x.p (start x) k.moves).tasks t).standing ≡ Live = sym (k.alike t).standing ∙ free in
      reaches_fine (world_after x.p (start x) k.moves) k.come t ((world_after Q (world_of at) moves).tasks t).local there
      (alike_reaches x ops out Meets Fine imitates t ((world_after Q (world_of at) moves).tasks t) ((world_after x.p (start x) k.moves).tasks t) (k.alike t) there)

  pub all_fine : AllFreeAre Fine other
  all_fine = record {
    after_moves = fine_there;
    after_runs = λ actions run t free.
        let e : IsErased Q at actions = erasing Q at actions run in
        subst (λ (v : World K). Fine (v.tasks t).local) e.ends (fine_there e.moves e.made t (ap (λ (v : World K). (v.tasks t).standing) e.ends ∙ free));
  }

  -- ---- a run of the original is a run of the imitation

  pub follow_moves : (moves : List Move) (v : World K) (w : World x.L) → IsComeTo x w → IsOver x w → Alike v.tasks w.tasks → v.ended ≡ w.ended → AreMoves x.p w moves →
      Followed x ops out Meets Fine imitates v (world_after x.p w moves) (happened moves)
  follow_moves [] v w come over alike ended h = record { moves = []; made = tt; same = refl; alike = alike; ended = ended }
  follow_moves (move ∷ moves) v w come over alike ended h =
      let f : Followed x ops out Meets Fine imitates v (moved x.p w move) (happened (move ∷ [])) = follow_move x ops out Meets Fine imitates v w come over alike ended move h.0 in
      let v1 : World K = world_after Q v f.moves in
      let r : Followed x ops out Meets Fine imitates v1 (world_after x.p (moved x.p w move) moves) (happened moves) =
      follow_moves moves v1 (moved x.p w move) (come_on x w move come h.0) (over_on x w move come over h.0) f.alike f.ended h.1 in
      let is : world_after Q v (f.moves ++ r.moves) ≡ world_after Q v1 r.moves = world_append Q v f.moves r.moves in
      record {
        moves = f.moves ++ r.moves;
        made = moves_append Q v f.moves r.moves f.made r.made;
        same = happened_append f.moves r.moves ∙ ap₂ (λ xs ys. xs ++ ys) f.same r.same ∙ sym (happened_append (move ∷ []) moves);
        alike = subst (λ (z : World K). Alike z.tasks (world_after x.p (moved x.p w move) moves).tasks) (sym is) r.alike;
        ended = ap (λ (z : World K). z.ended) is ∙ r.ended;
      }

  -- The moves of the imitation, behind which it rests where the original does.
  record Finished (v : World K) (w : World x.L) (events : List Event) : Type 0 where
    moves : List Move
    made : AreMoves Q v moves
    same : happened moves ≡ events
    alike : Alike (world_after Q v moves).tasks w.tasks
    rests : (t : ℕ) → t < x.p.size → (w.tasks t).standing ≡ Live → x.p.ops.can_step (local_at w t) ≡ false → ops.can_step ((world_after Q v moves).tasks t).local ≡ false

  finished : (v : World K) (w : World x.L) (events : List Event) → IsComeTo x w → v.ended ≡ false → Followed x ops out Meets Fine imitates v w events → Finished v w events
  finished v w events come runs f = ⊎_elim ended running (cases_Bool w.ended)
    where
      v1 : World K
      v1 = world_after Q v f.moves

      ended : w.ended ≡ true → Finished v w events
      ended q = record {
        moves = f.moves;
        made = f.made;
        same = f.same;
        alike = f.alike;
        rests = λ t m free rests. rests_over Q imitates.rests f.moves v f.made runs (f.ended ∙ q) t m ((f.alike t).standing ∙ free);
      }

      running : w.ended ≡ false → Finished v w events
      running q =
          let c : Caught x ops out Meets Fine imitates (world_after Q v f.moves) w x.p.size = catch_all x ops out Meets Fine imitates x.p.size (world_after Q v f.moves) w (f.ended ∙ q) f.alike in
          let is : world_after Q v (f.moves ++ c.moves) ≡ world_after Q (world_after Q v f.moves) c.moves = world_append Q v f.moves c.moves in
          record {
            moves = f.moves ++ c.moves;
            made = moves_append Q v f.moves c.moves f.made c.made;
            same = happened_append f.moves c.moves ∙ ap (λ xs. happened f.moves ++ xs) c.silent ∙ append-nil (happened f.moves) ∙ f.same;
            alike = subst (λ (z : World K). Alike z.tasks w.tasks) (sym is) c.alike;
            rests = λ t m free rests. ap (λ (z : World K). ops.can_step (z.tasks t).local) is ∙
                (imitates.offers w come t ((world_after Q (world_after Q v f.moves) c.moves).tasks t).local (c.meets t m free) free rests).0;
          }

  module _ (actions : List Action) (run : IsRun (numbered x.p) x.opening actions) where
    gone : IsErased x.p x.opening actions
    gone = erasing x.p x.opening actions run

    abbrev then' : World x.L
    then' = world_after x.p (start x) gone.moves

    come_then : IsComeTo x then'
    come_then = come_after x gone.moves (start x) first gone.made

    over_then : IsOver x then'
    over_then = over_after x gone.moves (start x) first base.beyond gone.made

    followed : Finished (world_of at) then' (happened gone.moves)
    followed = finished (world_of at) then' (happened gone.moves) come_then opens.ended (follow_moves gone.moves (world_of at) (start x) first base.beyond first_alike first_ended gone.made)

    raised' : IsLifted Q (world_of at) followed.moves
    raised' = lifting Q (world_of at) followed.moves (λ t. still_still (at.seats t).standing) followed.made

    imitation_then : world_of (end_of (numbered Q) at raised'.actions) ≡ world_after Q (world_of at) followed.moves
    imitation_then = ap (λ s. world_of (end_of (numbered Q) s raised'.actions)) (sym at_state) ∙ raised'.world

    original_then : (t : ℕ) → ((end_of (numbered x.p) x.opening actions).seats t).local ≡ (then'.tasks t).local
    original_then t = ap (λ (v : World x.L). (v.tasks t).local) (sym gone.ends)

    same_then : (t : ℕ) → ((end_of (numbered Q) at raised'.actions).seats t).local ≡ ((world_after Q (world_of at) followed.moves).tasks t).local
    same_then t = ap (λ (v : World K). (v.tasks t).local) imitation_then

    rests_then : IsQuiet x.p.ops (end_of (numbered x.p) x.opening actions).seats → (t : ℕ) → (then'.tasks t).standing ≡ Live → x.p.ops.can_step (then'.tasks t).local ≡ false
    rests_then quiet t free = ap x.p.ops.can_step (sym (original_then t)) ∙
        quiet_rests x.p x.lawful.rests (end_of (numbered x.p) x.opening actions).seats
        (run_suited x.p actions x.opening run (start_suited x.p x.IsProper x.lawful x.opening x.opens_so x.proper)) quiet t
        (ap (λ (v : World x.L). (v.tasks t).standing) (sym gone.ends) ∙ free)

    pub back : IsShownBy one other actions
    back = record {
      others = raised'.actions;
      applies = subst (λ s. IsRun (numbered Q) s raised'.actions) at_state raised'.applies;
      events = ap (λ s. events_of (numbered Q) s raised'.actions) (sym at_state) ∙ raised'.events ∙ followed.same ∙ gone.events;
      outputs = λ t m. ap out (same_then t) ∙
          locals_output x ops out Meets Fine imitates t (then'.tasks t).standing ((world_after Q (world_of at) followed.moves).tasks t).local (then'.tasks t).local (followed.alike t).locals m ∙
          ap x.out (sym (original_then t));
      quiet = λ quiet t lives.
          let free : (then'.tasks t).standing ≡ Live = sym (followed.alike t).standing ∙ sym (ap (λ (v : World K). (v.tasks t).standing) imitation_then) ∙
          ap still (is-Live ((end_of (numbered Q) at raised'.actions).seats t).standing lives) in
          ap ops.can_step (same_then t) ∙ followed.rests t (inside then' over_then t free) free (rests_then quiet t free);
    }

  pub all_back : AllShownBy one other
  all_back actions run = back actions run
