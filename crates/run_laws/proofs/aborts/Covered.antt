-- Each feasible list of events is recorded by moves of the copy, which end exactly where the list ends so.
use Rattle.std.proofs.Common.{◌≡◌, ℕ, zero, suc, pred, ◌<◌, ◌≤◌, true, false, not, ◌&&◌, ◌||◌, if◌then◌else◌, List, [], ◌∷◌, ◌++◌, append-nil, append_assoc, refl, sym, ap, ◌∙◌, subst, ⊎_elim, true≢false, arith}
use Rattle.std.specs.List.{list_any}
use Rattle.std.proofs.lemmas.Bool.{and_parts, or_cases, or_left, or_right, cases_lt, ne_eqb}
use Rattle.event_machine.specs.declared.Event.{Event}
use Rattle.event_machine.specs.declared.Event.TheVariants.{R, E, S, D, C, T, F, X, B, Z}
use Rattle.event_machine.specs.Offers.{Ends, waits_with, is_end, is_terminate}
use Rattle.event_machine.specs.States.{Seat, live, is_live, is_closed, is_completed}
use Rattle.event_machine.specs.Runs.{Feasible}
use Rattle.event_machine.specs.Programs.{numbered}
use Rattle.event_machine.specs.Tallies.{before_end}
use Rattle.event_machine.specs.Laws.{IsErased}
use Rattle.event_machine.specs.Worlds.{World, Move, Step, Happen, still, still_seat, world_of, can_move, moved, happens, happened, acted, is_last, offers, others_end, AreMoves}
use Rattle.event_machine.proofs.Basics.{both}
use Rattle.event_machine.proofs.Erasing.{erasing}
use Rattle.event_machine.proofs.Offering.{end_is}
use Rattle.run_laws.specs.imitation.Imitations.{Original, start, IsComeTo}
use Rattle.run_laws.proofs.imitation.Following.{IsOver, come_on, come_after}
use Rattle.run_laws.proofs.imitation.Rested.{over_on}
use Rattle.run_laws.proofs.replaying.Facts.{put, put_self, put_other, offers_at, offers_live}
use Rattle.run_laws.specs.aborts.Notes.{Book, empty_book}
use Rattle.run_laws.specs.aborts.Copies.{Copy, Based, Opening, Recording, based_offer}
use Rattle.run_laws.specs.aborts.Settings.{Setting, recorder, twin, start_copy, opening_copy}
use Rattle.run_laws.proofs.aborts.Instances.{start_own, start_recorder}
use Rattle.run_laws.proofs.collecting.Reaching.{base, come_first}
use Rattle.run_laws.proofs.collecting.Telling.{going, Way, way_none, way_then, way_step}
use Rattle.run_laws.proofs.aborts.Moving.{copy_original}
use Rattle.run_laws.proofs.aborts.Covering.{waits_too, SettledAt, SetFree, SetServed, SetGone, Settled, Settles, free_there, else_settles, delay_settles, call_else_settles, expire_settles, fail_settles, meet_settles, complete_settles, step_settles}
use Rattle.run_laws.proofs.aborts.Ending.{finish_settles}
use Rattle.run_laws.proofs.aborts.Striking.{abort_settles}
use Rattle.run_laws.proofs.collecting.Covered.{other_at}

module _ {o : Original} (x : Setting o) where
  module _ (d : World o.L) (come : IsComeTo o d) (over : IsOver o d) (runs : d.ended ≡ false) (b : Book) (tasks : ℕ → Seat (Copy o.L)) (set : Settled x b tasks d.tasks) where
    -- ---- the end of the program

    other_too : (u : ℕ) → u < o.p.size → (is_completed (d.tasks u).standing || offers o.p.ops (waits_with is_terminate) (d.tasks u)) ≡ true →
        (is_completed (tasks u).standing || offers (twin x).ops (waits_with is_terminate) (tasks u)) ≡ true
    other_too u l h = ⊎_elim
        (λ k. or_left (is_completed (tasks u).standing) (offers (twin x).ops (waits_with is_terminate) (tasks u)) (gone k (set.seats u l)))
        (λ k. or_right (is_completed (tasks u).standing) (offers (twin x).ops (waits_with is_terminate) (tasks u)) (waits k))
        (or_cases (is_completed (d.tasks u).standing) (offers o.p.ops (waits_with is_terminate) (d.tasks u)) h)
      where
        gone : is_completed (d.tasks u).standing ≡ true → SettledAt x b tasks d.tasks u → is_completed (tasks u).standing ≡ true
        gone k (SetFree m here there) = absurd (true≢false (sym k ∙ ap (λ (s : Seat o.L). is_completed s.standing) here))
        gone k (SetServed a abnormal v form e i offer here there met acceptor) = absurd (true≢false (sym k ∙ ap (λ (s : Seat o.L). is_completed s.standing) here))
        gone k (SetGone here there) = there

        waits : offers o.p.ops (waits_with is_terminate) (d.tasks u) ≡ true → offers (twin x).ops (waits_with is_terminate) (tasks u) ≡ true
        waits k =
            let g = offers_live o.p.ops (waits_with is_terminate) (d.tasks u) k in
            let (m, below, here, there) = free_there x d come over runs b tasks set u g.0 in
            offers_at (twin x).ops (waits_with is_terminate) (tasks u) (Based u m) there
            (waits_too x.note is_terminate u (o.p.ops.offer m) (ap (λ (s : Seat o.L). waits_with is_terminate (o.p.ops.offer s.local)) (sym here) ∙ g.1))

    last_too : happens o.p d.tasks Z ≡ true → happens (twin x) tasks Z ≡ true
    last_too h = both main (others o.p.size (omega arith))
      where
        parts : (offers o.p.ops is_end (d.tasks 0) ≡ true) × (others_end o.p.ops d.tasks (pred o.p.size) ≡ true)
        parts = and_parts (offers o.p.ops is_end (d.tasks 0)) (others_end o.p.ops d.tasks (pred o.p.size)) h

        main : offers (twin x).ops is_end (tasks 0) ≡ true
        main =
            let g = offers_live o.p.ops is_end (d.tasks 0) parts.0 in
            let (l, below, here, there) = free_there x d come over runs b tasks set 0 g.0 in
            let q : o.p.ops.offer l ≡ Ends = end_is (o.p.ops.offer l) (ap (λ (s : Seat o.L). is_end (o.p.ops.offer s.local)) (sym here) ∙ g.1) in
            offers_at (twin x).ops is_end (tasks 0) (Based 0 l) there (ap (λ f. is_end (based_offer x.note 0 f)) q)

        one : (n : ℕ) → suc n ≤ o.p.size → (is_completed (tasks (suc n)).standing || offers (twin x).ops (waits_with is_terminate) (tasks (suc n))) ≡ true
        one n l = ⊎_elim
            (λ (m : suc n < o.p.size). other_too (suc n) m (other_at o.p.ops d.tasks (pred o.p.size) parts.1 n (omega (arith, m))))
            (λ (m : o.p.size ≤ suc n).
            let e : recorder x ≡ suc n = omega (arith, l, m) in
            or_right (is_completed (tasks (suc n)).standing) (offers (twin x).ops (waits_with is_terminate) (tasks (suc n)))
            (offers_at (twin x).ops (waits_with is_terminate) (tasks (suc n)) (Recording b) (ap tasks (sym e) ∙ set.at) refl))
            (cases_lt (suc n) o.p.size)

        others : (n : ℕ) → n ≤ o.p.size → others_end (twin x).ops tasks n ≡ true
        others zero l = refl
        others (suc n) l = both (others n (omega (arith, l))) (one n l)

  -- ---- lists of moves

  -- Moves of the copy behind which the recorder has written these events up to the end of the program, which has come exactly where it is one of them.
  pub record Covers (b : Book) (w : World (Copy o.L)) (events : List Event) : Type 0 where
    pub then' : World (Copy o.L)
    pub way : Way (twin x) w then'
    pub book : Book
    pub at : then'.tasks (recorder x) ≡ live (Recording book)
    pub writes : book.events ≡ b.events ++ before_end events
    pub ended : then'.ended ≡ list_any is_last events

  cover_on : (b : Book) (tasks : ℕ → Seat (Copy o.L)) (first more : List Event) (d : ℕ → Seat o.L) (s : Settles x b tasks first d) →
      Covers s.book (going s.then') more → before_end (first ++ more) ≡ first ++ before_end more →
      list_any is_last (first ++ more) ≡ list_any is_last more → Covers b (going tasks) (first ++ more)
  cover_on b tasks first more d s c before ends = record {
    then' = c.then';
    way = way_then (twin x) (going tasks) (going s.then') c.then' s.way c.way;
    book = c.book;
    at = c.at;
    writes = c.writes ∙ ap (λ es. es ++ before_end more) s.writes ∙ append_assoc b.events first (before_end more) ∙ ap (λ es. b.events ++ es) (sym before);
    ended = c.ended ∙ sym ends;
  }

  -- what covers the moves behind the first
  abbrev Later : List Move → Type 0
  Later moves = (d : World o.L) → IsComeTo o d → IsOver o d → d.ended ≡ false → AreMoves o.p d moves → (b : Book) (tasks : ℕ → Seat (Copy o.L)) → Settled x b tasks d.tasks →
      IsComeTo (copy_original x) (going tasks) → Covers b (going tasks) (happened moves)

  -- a world that moves come to from one that the copy comes to is one
  come_way : (tasks others : ℕ → Seat (Copy o.L)) → IsComeTo (copy_original x) (going tasks) → Way (twin x) (going tasks) (going others) → IsComeTo (copy_original x) (going others)
  come_way tasks others h way = subst (IsComeTo (copy_original x)) way.ends (come_after (copy_original x) way.moves (going tasks) h way.made)

  cover_event : (moves : List Move) → Later moves →
      (d : World o.L) (come : IsComeTo o d) (over : IsOver o d) (runs : d.ended ≡ false) (b : Book) (tasks : ℕ → Seat (Copy o.L)) (set : Settled x b tasks d.tasks)
      (come' : IsComeTo (copy_original x) (going tasks)) (e : Event) →
      is_last e ≡ false → can_move o.p d (Happen e) ≡ true → AreMoves o.p (moved o.p d (Happen e)) moves → Settles x b tasks (e ∷ []) (acted (numbered o.p) d.tasks e) →
      Covers b (going tasks) (e ∷ happened moves)
  cover_event moves later d come over runs b tasks set come' e more can made s =
      cover_on b tasks (e ∷ []) (happened moves) (acted (numbered o.p) d.tasks e) s
      (later (moved o.p d (Happen e)) (come_on o d (Happen e) come can) (over_on o d (Happen e) come over can) (ap (λ f. f || d.ended) more ∙
      runs) made s.book s.then' s.settled (come_way tasks s.then' come' s.way))
      (ap (λ f. if f then [] else e ∷ before_end (happened moves)) more) (ap (λ f. f || list_any is_last (happened moves)) more)

  cover_first : (move : Move) (moves : List Move) → Later moves → Later (move ∷ moves)
  cover_first (Step t) moves later d come over runs made b tasks set come' =
      let k = and_parts (not d.ended) (is_live (d.tasks t).standing && o.p.ops.can_step (d.tasks t).local) made.0 in
      let j = and_parts (is_live (d.tasks t).standing) (o.p.ops.can_step (d.tasks t).local) k.1 in
      let s : Settles x b tasks [] (put d.tasks t (live (o.p.ops.stepped (d.tasks t).local))) = step_settles x d come over runs b tasks set t j.0 j.1 in
      cover_on b tasks [] (happened moves) (put d.tasks t (live (o.p.ops.stepped (d.tasks t).local))) s
      (later (moved o.p d (Step t)) (come_on o d (Step t) come made.0) (over_on o d (Step t) come over made.0) runs made.1 s.book s.then' s.settled (come_way tasks s.then' come' s.way)) refl refl
  cover_first (Happen e) moves later d come over runs made b tasks set come' = go e made (and_parts (not d.ended) (happens o.p d.tasks e) made.0).1
    where
      go : (e : Event) → AreMoves o.p d (Happen e ∷ moves) → happens o.p d.tasks e ≡ true → Covers b (going tasks) (e ∷ happened moves)
      go (R c e i) m h = cover_event moves later d come over runs b tasks set come' (R c e i) refl m.0 m.1 (meet_settles x d come over runs b tasks set c e i h)
      go (E a) m h = cover_event moves later d come over runs b tasks set come' (E a) refl m.0 m.1 (finish_settles x d come over runs b tasks set a h)
      go (S a) m h = cover_event moves later d come over runs b tasks set come' (S a) refl m.0 m.1 (else_settles x d come over runs b tasks set a h)
      go (D a k) m h = cover_event moves later d come over runs b tasks set come' (D a k) refl m.0 m.1 (delay_settles x d come over runs b tasks set a k h)
      go (C c e i) m h = cover_event moves later d come over runs b tasks set come' (C c e i) refl m.0 m.1 (call_else_settles x d come over runs b tasks set c e i h)
      go (T c e i) m h = cover_event moves later d come over runs b tasks set come' (T c e i) refl m.0 m.1 (expire_settles x d come over runs b tasks set c e i h)
      go (F c e i) m h = cover_event moves later d come over runs b tasks set come' (F c e i) refl m.0 m.1 (fail_settles x d come over runs b tasks set c e i h)
      go (X a) m h = cover_event moves later d come over runs b tasks set come' (X a) refl m.0 m.1 (complete_settles x d come over runs b tasks set a h)
      go (B t v) m h = cover_event moves later d come over runs b tasks set come' (B t v) refl m.0 m.1 (abort_settles x d come over runs b tasks set come' t v h)
      go Z m h = record {
        then' = moved (twin x) (going tasks) (Happen Z);
        way = record { moves = Happen Z ∷ []; made = (last_too d come over runs b tasks set h, tt); ends = refl };
        book = b;
        at = set.at;
        writes = sym (append-nil b.events);
        ended = refl;
      }

  cover_moves : (moves : List Move) → Later moves
  cover_moves [] d come over runs made b tasks set come' = record {
    then' = going tasks;
    way = way_none (twin x) (going tasks);
    book = b;
    at = set.at;
    writes = sym
        (append-nil b.events);
    ended = refl;
  }
  cover_moves (move ∷ moves) d come over runs made b tasks set come' =
      cover_first move moves (λ d come over runs made b tasks set come'. cover_moves moves d come over runs made b tasks set come') d come over runs made b tasks set come'

  -- ---- from the start

  abbrev started : ℕ → Seat (Copy o.L)
  started t = still_seat (start_copy x t)

  abbrev ready : ℕ → Seat (Copy o.L)
  ready = put started (recorder x) (live (Recording empty_book))

  starts : Way (twin x) (going started) (going ready)
  starts = way_step (twin x) started (recorder x) Opening (ap still_seat (start_recorder x)) refl

  start_settled : Settled x empty_book ready (start o).tasks
  start_settled = record {
    at = put_self started (recorder x) (live (Recording empty_book));
    gone = λ t l. sym (ap (λ s. is_closed (still s)) (o.opens_so.live t l));
    seats = λ t l. SetFree (o.opening.seats t).local (λ i. record { local = (o.opening.seats t).local; standing = still (o.opens_so.live t l i) })
        (put_other started (recorder x) t (live (Recording empty_book)) (ne_eqb t (recorder x) (λ e. omega (arith, e, l))) ∙ ap still_seat (start_own x t l));
  }

  -- Each feasible list of events is covered from the start.
  pub covers_feasible : (events : List Event) → Feasible (numbered o.p) o.opening events → Covers empty_book (world_of (opening_copy x)) events
  covers_feasible events (actions, run, has) =
      let e : IsErased o.p o.opening actions = erasing o.p o.opening actions run in
      let c : Covers empty_book (going ready) (happened e.moves) = cover_moves e.moves (start o) (come_first o) (base o).beyond o.opens_so.ended e.made empty_book ready start_settled
      (come_way started ready (come_first (copy_original x)) starts) in
      subst (Covers empty_book (world_of (opening_copy x))) (e.events ∙ has)
      (record { then' = c.then'; way = way_then (twin x) (going started) (going ready) c.then' starts c.way; book = c.book; at = c.at; writes = c.writes; ended = c.ended })
