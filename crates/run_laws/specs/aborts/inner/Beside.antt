-- The invariant of collecting with aborts: where the original is beside its copy (this project's rule). The original makes an event as the recorder ends the
-- event's line, but an abort as the recorder aborts: between the two the victim may still go on. So the copy is ahead of the original where a rendezvous has
-- begun or ended, or the other part of a call is taken, and behind it where a task is to complete.
use Rattle.std.specs.Prelude.{◌≡◌, ℕ, ℤ, ◌<◌, ◌≤◌, ◌⊎◌, true, false, ◌||◌, suc, List, [], ◌∷◌, ◌++◌}
use Rattle.std.specs.List.{concat}
use Rattle.event_machine.specs.declared.CallForm.{CallForm}
use Rattle.event_machine.specs.declared.Standing.TheVariants.{Served}
use Rattle.event_machine.specs.declared.Event.{Event}
use Rattle.event_machine.specs.declared.Event.TheVariants.{Z}
use Rattle.event_machine.specs.Offers.{Calls, Finishes, Ends, calls_in, is_any_form, is_conditional, is_timed, waits_with, opens, is_else, is_delay}
use Rattle.event_machine.specs.States.{Seat, live, completed, is_closed, is_completed, is_served_by}
use Rattle.event_machine.specs.Soundness.{times}
use Rattle.event_machine.specs.Worlds.{World, happens}
use Rattle.run_laws.specs.imitation.Imitations.{Original}
use Rattle.run_laws.specs.imitation.Imitating.{IsFound}
use Rattle.run_laws.specs.collecting.Notes.{pieces}
use Rattle.run_laws.specs.collecting.Copies.{telling}
use Rattle.run_laws.specs.collecting.inner.Beside.{IsReached, CameFree}
use Rattle.run_laws.specs.aborts.Notes.{ToAbort, Book, empty_book, line_of, are_met}
use Rattle.run_laws.specs.aborts.Copies.{Due, Begun, TookElse, TookDelay, TookOther, Failed, Returned, Over, Copy, Based, Calling, Owing, Refusing, Leaving, Opening, Recording, Writing, Striking, Noted, under, copy_offer, note_of, answered}
use Rattle.run_laws.specs.aborts.Settings.{Setting, recorder, twin, out_of, IsProperCopy}

-- what the recorder keeps where it is in this state: of an abort it keeps nothing before it aborts
abbrev pub book_of : {L : Type 0} → Copy L → Book
book_of (Based t l) = empty_book
book_of (Calling t l) = empty_book
book_of (Owing t due l) = empty_book
book_of (Refusing t c l) = empty_book
book_of (Leaving t l) = empty_book
book_of Opening = empty_book
book_of (Recording b) = b
book_of (Writing c b note done left) = b
book_of (Striking c b t v) = b
book_of (Noted c answer b) = b

-- what a task is to tell is that an exception has been raised at its call, or that it is behind it
abbrev pub IsBehindCall : {L : Type 0} → Due L → Type 0
IsBehindCall (Begun c e i v) = ⊥
IsBehindCall TookElse = ⊥
IsBehindCall (TookDelay k) = ⊥
IsBehindCall TookOther = ⊥
IsBehindCall Failed = Unit {0}
IsBehindCall (Returned m) = Unit {0}
IsBehindCall (Over c) = ⊥

module _ {o : Original} (x : Setting o) where
  -- A task that the recorder serves is read as answered once the original has made its event.
  abbrev pub heard : Copy o.L → Copy o.L → Copy o.L
  heard (Based t l) k = k
  heard (Calling t l) k = k
  heard (Owing t due l) k = k
  heard (Refusing t c l) k = k
  heard (Leaving t l) k = k
  heard Opening k = k
  heard (Recording b) k = k
  heard (Writing c b note done left) k = k
  heard (Striking c b t v) k = k
  heard (Noted c answer b) k = answered o.p answer k

  -- the recorder in the first state serves the task t, which in this state tells it
  abbrev pub Hears : Copy o.L → ℕ → Copy o.L → Type 0
  Hears (Based u l) t k = ⊥
  Hears (Calling u l) t k = ⊥
  Hears (Owing u due l) t k = ⊥
  Hears (Refusing u c l) t k = ⊥
  Hears (Leaving u l) t k = ⊥
  Hears Opening t k = ⊥
  Hears (Recording b) t k = ⊥
  Hears (Writing c b note done left) t k = (c ≡ t) × (note ≡ note_of o.p x.pends k) × (copy_offer o.p x.note k ≡ telling x.note)
  Hears (Striking c b u v) t k = (c ≡ t) × (ToAbort u v ≡ note_of o.p x.pends k) × (copy_offer o.p x.note k ≡ telling x.note)
  Hears (Noted c answer b) t k = (c ≡ t) × (copy_offer o.p x.note k ≡ telling x.note)

  module _ (b : Book) (d : ℕ → Seat o.L) where
    -- what is so of the task t, in this state of the original, that is to tell this: the original is where it is
    abbrev pub DueAt : ℕ → o.L → Due o.L → Type 0
    DueAt t l (Begun c e i v) = (calls_in is_any_form e i (o.p.ops.offer v) ≡ true) × (waits_with (opens e i) (o.p.ops.offer l) ≡ true) × (o.p.owner e ≡ t)
    DueAt t l TookElse = waits_with is_else (o.p.ops.offer l) ≡ true
    DueAt t l (TookDelay k) = waits_with (is_delay k) (o.p.ops.offer l) ≡ true
    DueAt t l TookOther = (form : CallForm) × (e : ℕ) × (i : ℤ) × (o.p.ops.offer l ≡ Calls form e i) × ((is_conditional form || is_timed form) ≡ true)
    DueAt t l Failed = (form : CallForm) × (e : ℕ) × (i : ℤ) × (o.p.ops.offer l ≡ Calls form e i) ×
        (is_closed (d (o.p.owner e)).standing ≡ true) × (b.met t ≡ 0)
    DueAt t l (Returned m) = ⊥
    DueAt t l (Over c) = ⊥

    -- The task t is in the state k, and the original's beside it.
    pub data OwnAt (t : ℕ) (k : Copy o.L) : Type 0 where
      OwnBased : (l : o.L) → k ≡ Based t l → d t ≡ live l → OwnAt t k
      OwnCalling : (l : o.L) (form : CallForm) (e : ℕ) (i : ℤ) → k ≡ Calling t l → o.p.ops.offer l ≡ Calls form e i → d t ≡ live l → b.met t ≡ 0 → OwnAt t k
      OwnOwing : (l : o.L) (due : Due o.L) → k ≡ Owing t due l → d t ≡ live l → DueAt t l due → OwnAt t k
      -- its rendezvous has ended here, but nobody has told so
      OwnServed : (l m : o.L) (a : ℕ) (form : CallForm) (e : ℕ) (i : ℤ) → k ≡ Owing t (Returned m) l →
          o.p.ops.offer l ≡ Calls form e i → d t ≡ record { local = l; standing = Served a false } →
          CameFree o t l → OwnAt t k
      -- the acceptor has told so
      OwnReturned : (l m : o.L) (form : CallForm) (e : ℕ) (i : ℤ) → k ≡ Owing t (Returned m) l →
          o.p.ops.offer l ≡ Calls form e i → d t ≡ live (o.p.ops.resumed m l) → b.met t ≡ 2 →
          CameFree o t l → OwnAt t k
      -- the acceptor was aborted before
      OwnLost : (l : o.L) (due : Due o.L) (form : CallForm) (e : ℕ) (i : ℤ) → k ≡ Owing t due l → IsBehindCall due →
          o.p.ops.offer l ≡ Calls form e i → d t ≡ live (o.p.ops.raised l) → b.met t ≡ 3 →
          CameFree o t l → OwnAt t k
      -- it is behind a rendezvous with c: in the original it is at its end still, or the caller has told so
      OwnOver : (l : o.L) (c : ℕ) → k ≡ Owing t (Over c) l → c < o.p.size → o.p.ops.offer l ≡ Finishes →
          o.p.ops.callers l ≡ c ∷ o.p.ops.callers (o.p.ops.finished l) →
          times c (o.p.ops.callers (o.p.ops.finished l)) ≡ 0 → (d t ≡ live l) ⊎ (d t ≡ live (o.p.ops.finished l)) → CameFree o t l → OwnAt t k
      -- in the original the refused rendezvous never was, and the caller is completed or abnormal
      OwnRefusing : (l : o.L) (c : ℕ) → k ≡ Refusing t c l → d t ≡ live l → is_closed (d c).standing ≡ true → OwnAt t k
      -- the original's task has completed
      OwnLeaving : (l : o.L) → k ≡ Leaving t l → o.p.ops.offer l ≡ Ends → (t ≡ 0 → ⊥) → d t ≡ completed l → OwnAt t k

  module _ (b : Book) (w : ℕ → Seat (Copy o.L)) (d : ℕ → Seat o.L) where
    -- The original task t, where the recorder is in the state r.
    pub data SeatAt (r : Copy o.L) (t : ℕ) : Type 0 where
      Free : (k : Copy o.L) → w t ≡ live k → OwnAt b d t k → SeatAt r t
      -- the recorder serves it, and as it told the original was where it is
      Telling : (k : Copy o.L) → w t ≡ record { local = k; standing = Served (recorder x) false } → Hears r t k →
          OwnAt b d t (heard r k) → CameFree o t (under o.p.ops.nobody k) → SeatAt r t
      -- an original task serves it in both
      Shared : (a : ℕ) (v : o.L) (form : CallForm) (e : ℕ) (i : ℤ) →
          w t ≡ record { local = Calling t v; standing = Served a false } → o.p.ops.offer v ≡ Calls form e i →
          d t ≡ record { local = v; standing = Served a false } → CameFree o t v → SeatAt r t
      -- or here alone: the acceptor has not told so
      Apart : (a : ℕ) (v : o.L) (form : CallForm) (e : ℕ) (i : ℤ) →
          w t ≡ record { local = Calling t v; standing = Served a false } → o.p.ops.offer v ≡ Calls form e i → o.p.owner e ≡ a →
          d t ≡ live v → b.met t ≡ 0 → SeatAt r t
      -- it is completed or abnormal in both, and has written the same
      Gone : is_closed (w t).standing ≡ true → is_closed (d t).standing ≡ true → out_of x (w t).local ≡ o.out (d t).local → SeatAt r t

  -- where the recorder is in the state r: these events are made, and it serves the task of whose note it writes
  abbrev pub RecorderAt : List Event → (ℕ → Seat (Copy o.L)) → Copy o.L → Type 0
  RecorderAt past w (Based t l) = ⊥
  RecorderAt past w (Calling t l) = ⊥
  RecorderAt past w (Owing t due l) = ⊥
  RecorderAt past w (Refusing t c l) = ⊥
  RecorderAt past w (Leaving t l) = ⊥
  RecorderAt past w Opening = past ≡ []
  RecorderAt past w (Recording b) = b.events ≡ past
  RecorderAt past w (Writing c b note done left) =
      (b.events ≡ past) × (c < o.p.size) × ((w c).standing ≡ Served (recorder x) false) × (done ++ concat left ≡ concat (pieces x.lines (line_of b note)))
  RecorderAt past w (Striking c b t v) = (b.events ≡ past) × (c < o.p.size) × ((w c).standing ≡ Served (recorder x) false)
  RecorderAt past w (Noted c answer b) = (b.events ≡ past) × (c < o.p.size) × (is_served_by (recorder x) (w c).standing ≡ true)

  -- whom a task has accepted and not told of is in the state that it told
  abbrev pub AreBegun : (ℕ → Seat (Copy o.L)) → Type 0
  AreBegun w = (t c e : ℕ) (i : ℤ) (l v : o.L) → (w t).local ≡ Owing t (Begun c e i v) l → is_served_by t (w c).standing ≡ true → (w c).local ≡ Calling c v

  -- who is behind its call, and in the original served by a still, was served by a, which is behind the rendezvous and in the original at its end
  abbrev pub AreOver : (ℕ → Seat (Copy o.L)) → (ℕ → Seat o.L) → Type 0
  AreOver w d = (a c : ℕ) (m v : o.L) → (w c).local ≡ Owing c (Returned m) v → is_closed (w c).standing ≡ false → is_served_by a (d c).standing ≡ true →
      ((w a).local ≡ Owing a (Over c) m) × (d a ≡ live m)

  -- The invariant: the original has come to the world d with exactly these events, and has not ended; the recorder is in the state r, its book says who is
  -- closed in the original and whom a task serves there, and each task is beside the original's. Where the copy has ended the
  -- original can end, and the recorder waits.
  pub record Inv (past : List Event) (r : Copy o.L) (d : World o.L) (w : World (Copy o.L)) : Type 0 where
    pub reached : IsReached o past d
    pub runs : d.ended ≡ false
    pub ends : w.ended ≡ true → (happens o.p d.tasks Z ≡ true) × ((b : Book) × (r ≡ Recording b))
    pub at : w.tasks (recorder x) ≡ live r
    pub records : RecorderAt past w.tasks r
    pub gone : (t : ℕ) → t < o.p.size → (book_of r).gone t ≡ is_closed (d.tasks t).standing
    pub serves : (a t : ℕ) → t < o.p.size → are_met (book_of r) a t ≡ is_served_by a (d.tasks t).standing
    pub seats : (t : ℕ) → t < o.p.size → SeatAt (book_of r) w.tasks d.tasks r t
    pub begun : AreBegun w.tasks
    pub over : AreOver w.tasks d.tasks
    pub beyond : (t : ℕ) → suc o.p.size ≤ t → is_completed (w.tasks t).standing ≡ true

  -- The original is beside this world of the copy.
  pub record IsBeside (w : World (Copy o.L)) : Type 0 where
    pub past : List Event
    pub r : Copy o.L
    pub d : World o.L
    pub inv : Inv past r d w

  -- A world as the copy comes to it.
  abbrev pub IsFoundBeside : World (Copy o.L) → Type 0
  IsFoundBeside w = IsFound (twin x).ops (IsProperCopy o) IsBeside w
