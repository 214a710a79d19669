-- What the invariant says of a task that a move does not touch stays so.
use Rattle.std.proofs.Common.{◌≡◌, ℕ, suc, ◌<◌, ◌≤◌, Bool, true, false, ◌==◌, ◌&&◌, List, sym, ap, ap₂, ◌∙◌, subst, ⊎_elim, inl, inr}
use Rattle.std.proofs.lemmas.Bool.{cases_Bool}
use Rattle.event_machine.specs.declared.Event.{Event}
use Rattle.event_machine.specs.declared.Event.TheVariants.{Z}
use Rattle.event_machine.specs.States.{Seat, live, is_closed, is_completed, is_served_by}
use Rattle.event_machine.specs.Worlds.{World, happens}
use Rattle.run_laws.specs.imitation.Imitations.{Original}
use Rattle.run_laws.specs.collecting.inner.Beside.{IsReached}
use Rattle.run_laws.specs.aborts.Notes.{Book, are_met}
use Rattle.run_laws.specs.aborts.Copies.{Due, Begun, TookElse, TookDelay, TookOther, Failed, Returned, Over, Copy, Recording}
use Rattle.run_laws.specs.aborts.Settings.{Setting, recorder, out_of}
use Rattle.run_laws.specs.aborts.inner.Beside.{book_of, heard, Hears, DueAt, OwnAt, OwnBased, OwnCalling, OwnOwing, OwnServed, OwnReturned, OwnLost, OwnOver, OwnRefusing, OwnLeaving, SeatAt, Free, Telling, Shared, Apart, Gone, RecorderAt, AreBegun, AreOver, Inv}

module _ {o : Original} (x : Setting o) where
  module _ (b b' : Book) (w w' : ℕ → Seat (Copy o.L)) (d d' : ℕ → Seat o.L) where
    -- A task is as it was, here and in the original, and what the recorder keeps of its call too.
    pub record IsSame (u : ℕ) : Type 0 where
      pub there : w' u ≡ w u
      pub here : d' u ≡ d u
      pub met : b'.met u ≡ b.met u
      pub acceptor : b'.acceptor u ≡ b.acceptor u

    -- who is closed stays closed
    abbrev pub StayClosed : Type 0
    StayClosed = (a : ℕ) → is_closed (d a).standing ≡ true → is_closed (d' a).standing ≡ true

    pub due_on : (t : ℕ) (l : o.L) (due : Due o.L) → b'.met t ≡ b.met t → StayClosed → DueAt x b d t l due → DueAt x b' d' t l due
    due_on t l (Begun c e i v) s closed h = h
    due_on t l TookElse s closed h = h
    due_on t l (TookDelay k) s closed h = h
    due_on t l TookOther s closed h = h
    due_on t l Failed s closed h = (h.0, h.1, h.2, h.3, closed (o.p.owner h.1) h.4, s ∙ h.5)
    due_on t l (Returned m) s closed h = h
    due_on t l (Over c) s closed h = h

    pub own_on : (t : ℕ) (k : Copy o.L) → d' t ≡ d t → b'.met t ≡ b.met t → StayClosed → OwnAt x b d t k → OwnAt x b' d' t k
    own_on t k here met closed (OwnBased l q at) = OwnBased l q (here ∙ at)
    own_on t k here met closed (OwnCalling l form e i q offer at none) = OwnCalling l form e i q offer (here ∙ at) (met ∙ none)
    own_on t k here met closed (OwnOwing l due q at h) = OwnOwing l due q (here ∙ at) (due_on t l due met closed h)
    own_on t k here met closed (OwnServed l m a form e i q offer at was) = OwnServed l m a form e i q offer (here ∙ at) was
    own_on t k here met closed (OwnReturned l m form e i q offer at two was) = OwnReturned l m form e i q offer (here ∙ at) (met ∙ two) was
    own_on t k here met closed (OwnLost l due form e i q behind offer at three was) = OwnLost l due form e i q behind offer (here ∙ at) (met ∙ three) was
    own_on t k here met closed (OwnOver l c q below offer has once at was) = OwnOver l c q below offer has once (⊎_elim (λ p. inl (here ∙ p)) (λ p. inr (here ∙ p)) at) was
    own_on t k here met closed (OwnRefusing l c q at gone) = OwnRefusing l c q (here ∙ at) (closed c gone)
    own_on t k here met closed (OwnLeaving l q offer other at) = OwnLeaving l q offer other (here ∙ at)

    pub seat_on : (r r' : Copy o.L) (t : ℕ) → IsSame t → StayClosed → ((k : Copy o.L) → Hears x r t k → Hears x r' t k × (heard x r k ≡ heard x r' k)) →
        SeatAt x b w d r t → SeatAt x b' w' d' r' t
    seat_on r r' t s closed hears (Free k at own) = Free k (s.there ∙ at) (own_on t k s.here s.met closed own)
    seat_on r r' t s closed hears (Telling k at h own was) =
        let g = hears k h in
        Telling k (s.there ∙ at) g.0 (own_on t (heard x r' k) s.here s.met closed (subst (OwnAt x b d t) g.1 own)) was
    seat_on r r' t s closed hears (Shared a v form e i at offer here was) = Shared a v form e i (s.there ∙ at) offer (s.here ∙ here) was
    seat_on r r' t s closed hears (Apart a v form e i at offer owns here met) = Apart a v form e i (s.there ∙ at) offer owns (s.here ∙ here) (s.met ∙ met)
    seat_on r r' t s closed hears (Gone there here outs) = Gone (ap (λ (y : Seat (Copy o.L)). is_closed y.standing) s.there ∙ there)
        (ap (λ (y : Seat o.L). is_closed y.standing) s.here ∙ here)
        (ap (λ (y : Seat (Copy o.L)). out_of x y.local) s.there ∙ outs ∙ sym (ap (λ (y : Seat o.L). o.out y.local) s.here))

  -- ---- a move

  module _ (past past' : List Event) (r r' : Copy o.L) (d d' : World o.L) (w w' : World (Copy o.L)) (inv : Inv x past r d w) where
    -- What a move does: the tasks that it touches are told.
    pub record IsTouch : Type 0 where
      pub touched : ℕ → Bool
      pub same : (u : ℕ) → touched u ≡ false → IsSame (book_of r) (book_of r') w.tasks w'.tasks d.tasks d'.tasks u
      pub closed : StayClosed (book_of r) (book_of r') w.tasks w'.tasks d.tasks d'.tasks
      pub hears : (t : ℕ) (k : Copy o.L) → touched t ≡ false → Hears x r t k → Hears x r' t k × (heard x r k ≡ heard x r' k)
      pub seats : (t : ℕ) → t < o.p.size → touched t ≡ true → SeatAt x (book_of r') w'.tasks d'.tasks r' t
      pub gone : (t : ℕ) → t < o.p.size → (book_of r').gone t ≡ is_closed (d'.tasks t).standing
      pub serves : (a t : ℕ) → t < o.p.size → touched t ≡ true → are_met (book_of r') a t ≡ is_served_by a (d'.tasks t).standing
      pub begun : AreBegun x w'.tasks
      pub over : AreOver x w'.tasks d'.tasks
      pub reached : IsReached o past' d'
      pub runs : d'.ended ≡ false
      pub ends : w'.ended ≡ true → (happens o.p d'.tasks Z ≡ true) × ((b : Book) × (r' ≡ Recording b))
      pub at : w'.tasks (recorder x) ≡ live r'
      pub records : RecorderAt x past' w'.tasks r'
      pub beyond : (t : ℕ) → suc o.p.size ≤ t → touched t ≡ false

    -- The invariant stays.
    pub touch_inv : IsTouch → Inv x past' r' d' w'
    touch_inv m = record {
      reached = m.reached;
      runs = m.runs;
      ends = m.ends;
      at = m.at;
      records = m.records;
      gone = m.gone;
      serves = λ a t l. ⊎_elim (m.serves a t l) (served a t l) (cases_Bool (m.touched t));
      seats = λ t l. ⊎_elim (m.seats t l) (other t l) (cases_Bool (m.touched t));
      begun = m.begun;
      over = m.over;
      beyond = λ t l. ap (λ (y : Seat (Copy o.L)). is_completed y.standing) (m.same t (m.beyond t l)).there ∙ inv.beyond t l;
    }
      where
        served : (a t : ℕ) → t < o.p.size → m.touched t ≡ false → are_met (book_of r') a t ≡ is_served_by a (d'.tasks t).standing
        served a t l q = ap₂ (λ met acceptor. (met == 1) && (acceptor == a)) (m.same t q).met (m.same t q).acceptor ∙ inv.serves a t l ∙
            sym (ap (λ (y : Seat o.L). is_served_by a y.standing) (m.same t q).here)

        other : (t : ℕ) → t < o.p.size → m.touched t ≡ false → SeatAt x (book_of r') w'.tasks d'.tasks r' t
        other t l q = seat_on (book_of r) (book_of r') w.tasks w'.tasks d.tasks d'.tasks r r' t (m.same t q) m.closed (λ k. m.hears t k q) (inv.seats t l)
