-- What the invariant says of a task that a move does not touch stays so.
use Rattle.std.proofs.Common.{◌≡◌, ℕ, suc, ◌<◌, ◌≤◌, Bool, true, false, List, ap, ◌∙◌, subst, ⊎_elim}
use Rattle.std.proofs.lemmas.Bool.{cases_Bool}
use Rattle.event_machine.specs.declared.Standing.TheVariants.{Served}
use Rattle.event_machine.specs.declared.Event.{Event}
use Rattle.event_machine.specs.declared.Event.TheVariants.{Z}
use Rattle.event_machine.specs.States.{Seat, live, is_closed, is_completed}
use Rattle.event_machine.specs.Worlds.{World, happens}
use Rattle.run_laws.specs.imitation.Imitations.{Original}
use Rattle.run_laws.specs.collecting.Notes.{Book}
use Rattle.run_laws.specs.collecting.Copies.{Due, Begun, TookElse, TookDelay, TookOther, Failed, Upset, Copy}
use Rattle.run_laws.specs.collecting.Settings.{Setting, recorder}
use Rattle.run_laws.specs.collecting.inner.Beside.{IsReached, book_of, heard, Hears, StandsApart, DueAt, OwnAt, OwnBased, OwnCalling, OwnOwing, OwnEnding, OwnLeaving, SeatAt, Free, Telling, Shared, Apart, Gone, RecorderAt, Inv}

module _ {o : Original} (x : Setting o) where
  module _ (b b' : Book) (w w' : ℕ → Seat (Copy o.L)) (d d' : ℕ → Seat o.L) where
    -- A task is as it was, here and in the original, and its flag too.
    pub record IsSame (u : ℕ) : Type 0 where
      pub there : w' u ≡ w u
      pub here : d' u ≡ d u
      pub met : b'.met u ≡ b.met u

    -- those that the task serves are as they were
    abbrev pub AreSame : ℕ → Type 0
    AreSame t = (c : ℕ) → (w c).standing ≡ Served t false → IsSame c

    -- who is closed stays closed
    abbrev pub StayClosed : Type 0
    StayClosed = (a : ℕ) → is_closed (d a).standing ≡ true → is_closed (d' a).standing ≡ true

    pub apart_on : (a c : ℕ) (v m : o.L) (met : Bool) → StandsApart x b w d a c v m met → IsSame c → StandsApart x b' w' d' a c v m met
    apart_on a c v m met h s = record { at = s.there ∙ h.at; free = s.here ∙ h.free; is_met = s.met ∙ h.is_met }

    pub due_on : (t : ℕ) (l : o.L) (due : Due o.L) → b'.met t ≡ b.met t → AreSame t → StayClosed → DueAt x b w d t l due → DueAt x b' w' d' t l due
    due_on t l (Begun c e i v) s callers closed h = (h.0, h.1, h.2, apart_on t c v v false h.3 (callers c (ap (λ (y : Seat (Copy o.L)). y.standing) h.3.at)))
    due_on t l TookElse s callers closed h = h
    due_on t l (TookDelay k) s callers closed h = h
    due_on t l TookOther s callers closed h = h
    due_on t l Failed s callers closed h = (h.0, h.1, h.2, h.3, closed (o.p.owner h.1) h.4, s ∙ h.5)
    due_on t l (Upset e i) s callers closed h = s ∙ h

    pub own_on : (t : ℕ) (k : Copy o.L) → d' t ≡ d t → b'.met t ≡ b.met t → AreSame t → StayClosed → OwnAt x b w d t k → OwnAt x b' w' d' t k
    own_on t k here same callers closed (OwnBased l q at) = OwnBased l q (here ∙ at)
    own_on t k here same callers closed (OwnCalling l form e i q offers at met) = OwnCalling l form e i q offers (here ∙ at) (same ∙ met)
    own_on t k here same callers closed (OwnOwing l due q at h) = OwnOwing l due q (here ∙ at) (due_on t l due same callers closed h)
    own_on t k here same callers closed (OwnEnding l v c outer q finishes has at h together) =
        OwnEnding l v c outer q finishes has (here ∙ at) (apart_on t c v (o.p.ops.resumed l v) true h (callers c (ap (λ (y : Seat (Copy o.L)). y.standing) h.at))) together
    own_on t k here same callers closed (OwnLeaving l q ends other at) = OwnLeaving l q ends other (here ∙ at)

    pub seat_on : (r r' : Copy o.L) (t : ℕ) → IsSame t → AreSame t → StayClosed → ((k : Copy o.L) → Hears x r t k → Hears x r' t k × (heard x r k ≡ heard x r' k)) →
        SeatAt x b w d r t → SeatAt x b' w' d' r' t
    seat_on r r' t s callers closed hears (Free k at own) = Free k (s.there ∙ at) (own_on t k s.here s.met callers closed own)
    seat_on r r' t s callers closed hears (Telling k at h own was) =
        let g : Hears x r' t k × (heard x r k ≡ heard x r' k) = hears k h in
        Telling k (s.there ∙ at) g.0 (subst (OwnAt x b' w' d' t) g.1 (own_on t (heard x r k) s.here s.met callers closed own)) was
    seat_on r r' t s callers closed hears (Shared a v l at here met) = Shared a v l (s.there ∙ at) (s.here ∙ here) (s.met ∙ met)
    seat_on r r' t s callers closed hears (Apart a v l at free outs same) = Apart a v l (s.there ∙ at)
        (ap (λ (y : Seat o.L). y.standing) s.here ∙ free) (ap (λ (y : Seat o.L). o.out y.local) s.here ∙ outs) (ap (λ (y : Seat o.L). o.p.ops.callers y.local) s.here ∙ same)
    seat_on r r' t s callers closed hears (Gone l at here) = Gone l (s.there ∙ at) (s.here ∙ here)

  -- ---- a move

  module _ (past past' : List Event) (r r' : Copy o.L) (d d' : World o.L) (w w' : World (Copy o.L)) (inv : Inv x past r d w) where
    -- What a move does: the tasks that it touches are told, and no other is served by one that it does not touch.
    pub record IsTouch : Type 0 where
      pub touched : ℕ → Bool
      pub same : (u : ℕ) → touched u ≡ false → IsSame (book_of r) (book_of r') w.tasks w'.tasks d.tasks d'.tasks u
      pub alone : (t c : ℕ) → t < o.p.size → touched t ≡ false → (w.tasks c).standing ≡ Served t false → touched c ≡ true → ⊥
      pub closed : StayClosed (book_of r) (book_of r') w.tasks w'.tasks d.tasks d'.tasks
      pub hears : (t : ℕ) (k : Copy o.L) → touched t ≡ false → Hears x r t k → Hears x r' t k × (heard x r k ≡ heard x r' k)
      pub seats : (t : ℕ) → t < o.p.size → touched t ≡ true → SeatAt x (book_of r') w'.tasks d'.tasks r' t
      pub gone : (t : ℕ) → t < o.p.size → (book_of r').gone t ≡ is_closed (d'.tasks t).standing
      pub reached : IsReached o past' d'
      pub runs : d'.ended ≡ false
      pub ends : w'.ended ≡ true → happens o.p d'.tasks Z ≡ true
      pub at : w'.tasks (recorder x) ≡ live r'
      pub records : RecorderAt x past' w'.tasks r'
      pub beyond : (t : ℕ) → suc o.p.size ≤ t → touched t ≡ false

    -- The invariant stays.
    pub touch_inv : IsTouch → Inv x past' r' d' w'
    touch_inv m = record {
      reached = m.reached;
      runs = m.runs;
      ends = m.ends;
      at = m.at;
      records = m.records;
      gone = m.gone;
      seats = λ t l. ⊎_elim (m.seats t l) (other t l) (cases_Bool (m.touched t));
      beyond = λ t l. ap (λ (y : Seat (Copy o.L)). is_completed y.standing) (m.same t (m.beyond t l)).there ∙ inv.beyond t l;
    }
      where
        served : (t : ℕ) → t < o.p.size → m.touched t ≡ false → AreSame (book_of r) (book_of r') w.tasks w'.tasks d.tasks d'.tasks t
        served t l q c h = ⊎_elim (λ k. absurd (m.alone t c l q h k)) (m.same c) (cases_Bool (m.touched c))

        other : (t : ℕ) → t < o.p.size → m.touched t ≡ false → SeatAt x (book_of r') w'.tasks d'.tasks r' t
        other t l q = seat_on (book_of r) (book_of r') w.tasks w'.tasks d.tasks d'.tasks r r' t (m.same t q) (served t l q) m.closed (λ k. m.hears t k q) (inv.seats t l)
