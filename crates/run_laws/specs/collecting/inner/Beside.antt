-- The invariant of collecting: where the original is beside its copy (this project's rule). The original makes an event as the recorder ends the event's line,
-- so the copy is ahead of it where a rendezvous or the other part of a call has begun, and behind it where a rendezvous is to end or a task to complete.
use Rattle.std.specs.Prelude.{◌≡◌, ℕ, ℤ, ◌<◌, ◌≤◌, Bool, true, false, ◌||◌, suc, List, [], ◌∷◌, ◌++◌}
use Rattle.std.specs.List.{concat}
use Rattle.event_machine.specs.declared.CallForm.{CallForm}
use Rattle.event_machine.specs.declared.Standing.TheVariants.{Live, Served}
use Rattle.event_machine.specs.declared.Event.{Event}
use Rattle.event_machine.specs.declared.Event.TheVariants.{Z}
use Rattle.event_machine.specs.Offers.{Calls, Finishes, Ends, calls_in, is_any_form, is_conditional, is_timed, waits_with, opens, is_else, is_delay}
use Rattle.event_machine.specs.States.{Seat, live, completed, is_closed, is_completed}
use Rattle.event_machine.specs.Worlds.{World, Move, happens, AreMoves, world_after, happened}
use Rattle.run_laws.specs.imitation.Imitations.{Original, start, IsComeTo}
use Rattle.run_laws.specs.imitation.Imitating.{IsFound}
use Rattle.run_laws.specs.collecting.Notes.{Book, empty_book, line_of, pieces}
use Rattle.run_laws.specs.collecting.Copies.{Due, Begun, TookElse, TookDelay, TookOther, Failed, Upset, Copy, Based, Calling, Owing, Ending, Leaving, Opening, Recording, Writing, Noted, under, telling, copy_offer, note_of, answered}
use Rattle.run_laws.specs.collecting.Settings.{Setting, recorder, twin, IsProperCopy}

-- Some moves of the original with these events lead to the world.
pub record IsReached (o : Original) (events : List Event) (d : World o.L) : Type 0 where
  pub moves : List Move
  pub made : AreMoves o.p (start o) moves
  pub happens : happened moves ≡ events
  pub ends : world_after o.p (start o) moves ≡ d

-- The original came to a world before its end in which the task t was free in this state.
pub record CameFree (o : Original) (t : ℕ) (l : o.L) : Type 0 where
  pub d : World o.L
  pub come : IsComeTo o d
  pub runs : d.ended ≡ false
  pub at : d.tasks t ≡ live l

-- The original came to a world before its end in which the task a was free in the state l, and served the task c, in the state v.
pub record CameTogether (o : Original) (a c : ℕ) (l v : o.L) : Type 0 where
  pub d : World o.L
  pub come : IsComeTo o d
  pub runs : d.ended ≡ false
  pub acceptor : d.tasks a ≡ live l
  pub caller : d.tasks c ≡ record { local = v; standing = Served a false }

-- what the recorder keeps where it is in this state
abbrev pub book_of : {L : Type 0} → Copy L → Book
book_of (Based t l) = empty_book
book_of (Calling t l) = empty_book
book_of (Owing t due l) = empty_book
book_of (Ending t l) = empty_book
book_of (Leaving t l) = empty_book
book_of Opening = empty_book
book_of (Recording b) = b
book_of (Writing c b note done left) = b
book_of (Noted c answer b) = b

module _ {o : Original} (x : Setting o) where
  -- A task that the recorder serves is read as answered once its line has ended.
  abbrev pub heard : Copy o.L → Copy o.L → Copy o.L
  heard (Based t l) k = k
  heard (Calling t l) k = k
  heard (Owing t due l) k = k
  heard (Ending t l) k = k
  heard (Leaving t l) k = k
  heard Opening k = k
  heard (Recording b) k = k
  heard (Writing c b note done left) k = k
  heard (Noted c answer b) k = answered o.p answer k

  -- the recorder in the first state serves the task t, which in this state tells it
  abbrev pub Hears : Copy o.L → ℕ → Copy o.L → Type 0
  Hears (Based u l) t k = ⊥
  Hears (Calling u l) t k = ⊥
  Hears (Owing u due l) t k = ⊥
  Hears (Ending u l) t k = ⊥
  Hears (Leaving u l) t k = ⊥
  Hears Opening t k = ⊥
  Hears (Recording b) t k = ⊥
  Hears (Writing c b note done left) t k = (c ≡ t) × (note ≡ note_of o.p k) × (copy_offer o.p x.note k ≡ telling x.note)
  Hears (Noted c answer b) t k = (c ≡ t) × (copy_offer o.p x.note k ≡ telling x.note)

  module _ (b : Book) (w : ℕ → Seat (Copy o.L)) (d : ℕ → Seat o.L) where
    -- The task c is at its call of the task a, in the state v, and is served here alone: in the original it is free, in the state m.
    pub record StandsApart (a c : ℕ) (v m : o.L) (met : Bool) : Type 0 where
      pub at : w c ≡ record { local = Calling c v; standing = Served a false }
      pub free : d c ≡ live m
      pub is_met : b.met c ≡ met

    -- what is so of the task t, in this state of the original, that is to tell this
    abbrev pub DueAt : ℕ → o.L → Due o.L → Type 0
    DueAt t l (Begun c e i v) = (calls_in is_any_form e i (o.p.ops.offer v) ≡ true) × (waits_with (opens e i) (o.p.ops.offer l) ≡ true) × (o.p.owner e ≡ t) × StandsApart t c v v false
    DueAt t l TookElse = waits_with is_else (o.p.ops.offer l) ≡ true
    DueAt t l (TookDelay k) = waits_with (is_delay k) (o.p.ops.offer l) ≡ true
    DueAt t l TookOther = (form : CallForm) × (e : ℕ) × (i : ℤ) × (o.p.ops.offer l ≡ Calls form e i) × ((is_conditional form || is_timed form) ≡ true)
    DueAt t l Failed = (form : CallForm) × (e : ℕ) × (i : ℤ) × (o.p.ops.offer l ≡ Calls form e i) × (is_closed (d (o.p.owner e)).standing ≡ true) × (b.met t ≡ false)
    DueAt t l (Upset e i) = b.met t ≡ true

    -- The task t is in the state k, and the original's beside it.
    pub data OwnAt (t : ℕ) (k : Copy o.L) : Type 0 where
      OwnBased : (l : o.L) → k ≡ Based t l → d t ≡ live l → OwnAt t k
      OwnCalling : (l : o.L) (form : CallForm) (e : ℕ) (i : ℤ) → k ≡ Calling t l → o.p.ops.offer l ≡ Calls form e i → d t ≡ live l → b.met t ≡ false → OwnAt t k
      OwnOwing : (l : o.L) (due : Due o.L) → k ≡ Owing t due l → d t ≡ live l → DueAt t l due → OwnAt t k
      -- the original's rendezvous has ended
      OwnEnding : (l v : o.L) (c : ℕ) (outer : List ℕ) → k ≡ Ending t l → o.p.ops.offer l ≡ Finishes → o.p.ops.callers l ≡ c ∷ outer → d t ≡ live (o.p.ops.finished l) →
          StandsApart t c v (o.p.ops.resumed l v) true → CameTogether o t c l v → OwnAt t k
      -- the original's task has completed
      OwnLeaving : (l : o.L) → k ≡ Leaving t l → o.p.ops.offer l ≡ Ends → (t ≡ 0 → ⊥) → d t ≡ completed l → OwnAt t k

    -- The original task t, where the recorder is in the state r.
    pub data SeatAt (r : Copy o.L) (t : ℕ) : Type 0 where
      Free : (k : Copy o.L) → w t ≡ live k → OwnAt t k → SeatAt r t
      -- the recorder serves it, and as it told the original was where it is
      Telling : (k : Copy o.L) → w t ≡ record { local = k; standing = Served (recorder x) false } → Hears r t k → OwnAt t (heard r k) → CameFree o t (under o.p.ops.nobody k) → SeatAt r t
      -- an original task serves it in both, or here alone
      Shared : (a : ℕ) (v : o.L) → a < o.p.size → w t ≡ record { local = Calling t v; standing = Served a false } → d t ≡ record { local = v; standing = Served a false } → b.met t ≡ true → SeatAt r t
      Apart : (a : ℕ) (v : o.L) → a < o.p.size → w t ≡ record { local = Calling t v; standing = Served a false } → (d t).standing ≡ Live →
          o.out (d t).local ≡ o.out v → o.p.ops.callers (d t).local ≡ o.p.ops.callers v → SeatAt r t
      Gone : (l : o.L) → w t ≡ completed (Leaving t l) → d t ≡ completed l → SeatAt r t

  -- where the recorder is in the state r: these events are written, and it serves the task of whose note it writes
  abbrev pub RecorderAt : List Event → (ℕ → Seat (Copy o.L)) → Copy o.L → Type 0
  RecorderAt past w (Based t l) = ⊥
  RecorderAt past w (Calling t l) = ⊥
  RecorderAt past w (Owing t due l) = ⊥
  RecorderAt past w (Ending t l) = ⊥
  RecorderAt past w (Leaving t l) = ⊥
  RecorderAt past w Opening = past ≡ []
  RecorderAt past w (Recording b) = b.events ≡ past
  RecorderAt past w (Writing c b note done left) =
      (b.events ≡ past) × (c < o.p.size) × ((w c).standing ≡ Served (recorder x) false) × (done ++ concat left ≡ concat (pieces x.lines (line_of b note)))
  RecorderAt past w (Noted c answer b) = (b.events ≡ past) × (c < o.p.size) × ((w c).standing ≡ Served (recorder x) false)

  -- The invariant: the original has come to the world d with exactly these events, and has not ended; the recorder is in the state r, and each task is
  -- beside the original's. Where the copy has ended the original can end.
  pub record Inv (past : List Event) (r : Copy o.L) (d : World o.L) (w : World (Copy o.L)) : Type 0 where
    pub reached : IsReached o past d
    pub runs : d.ended ≡ false
    pub ends : w.ended ≡ true → happens o.p d.tasks Z ≡ true
    pub at : w.tasks (recorder x) ≡ live r
    pub records : RecorderAt past w.tasks r
    pub gone : (t : ℕ) → t < o.p.size → (book_of r).gone t ≡ is_closed (d.tasks t).standing
    pub seats : (t : ℕ) → t < o.p.size → SeatAt (book_of r) w.tasks d.tasks r t
    pub beyond : (t : ℕ) → suc o.p.size ≤ t → is_completed (w.tasks t).standing ≡ true

  -- The original is beside this world of the copy.
  pub record IsBeside (w : World (Copy o.L)) : Type 0 where
    pub past : List Event
    pub r : Copy o.L
    pub d : World o.L
    pub inv : Inv past r d w

  -- A world as the copy comes to it.
  abbrev pub IsFoundBeside : World (Copy o.L) → Type 0
  IsFoundBeside w = IsFound (twin x).ops (IsProperCopy o) IsBeside w
