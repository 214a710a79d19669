-- Moves of the copy by which a task tells the recorder, and the recorder writes and waits again.
use Rattle.std.proofs.Common.{◌≡◌, ℕ, Bool, true, false, ◌==◌, if◌then◌else◌, List, [], ◌∷◌, ◌++◌, refl, sym, ap, ◌∙◌, subst}
use Rattle.std.specs.Prelude.{pos}
use Rattle.std.proofs.lemmas.Bool.{or_left}
use Rattle.event_machine.specs.declared.Standing.TheVariants.{Served}
use Rattle.event_machine.specs.declared.Event.TheVariants.{R, E}
use Rattle.event_machine.specs.Offers.{calls_in, is_any_form, waits_with, is_finish, opens}
use Rattle.event_machine.specs.States.{Seat, live}
use Rattle.event_machine.specs.Programs.{numbered}
use Rattle.event_machine.specs.Worlds.{happens, acted}
use Rattle.event_machine.proofs.Basics.{both, same_member-refl}
use Rattle.run_laws.specs.imitation.Imitations.{Original}
use Rattle.run_laws.specs.collecting.Copies.{telling}
use Rattle.run_laws.specs.collecting.Notes.{pieces}
use Rattle.run_laws.proofs.replaying.Facts.{put, put_self, put_other, offers_at, let_go, let_go_served}
use Rattle.run_laws.proofs.replaying.Parting.{parted_is}
use Rattle.run_laws.proofs.collecting.Meetings.{start_is}
use Rattle.run_laws.proofs.collecting.Telling.{going, Way, way_then, way_event, way_step, put_twice}
use Rattle.run_laws.specs.aborts.Notes.{Note, Book, line_of}
use Rattle.run_laws.specs.aborts.Copies.{Copy, Recording, Writing, Noted, line_ends, note_of, copy_offer, answered}
use Rattle.run_laws.specs.aborts.Settings.{Setting, recorder, twin}
use Rattle.common_lemmas.proofs.Numbers.{equal_self, unequal_turned}

module _ {o : Original} (x : Setting o) where
  -- the tasks with one in this state, and the recorder waiting with this book
  abbrev pub given : (ℕ → Seat (Copy o.L)) → ℕ → Copy o.L → Book → ℕ → Seat (Copy o.L)
  given tasks c k b = put (put tasks (recorder x) (live (Recording b))) c (live k)

  pub given_at : (tasks : ℕ → Seat (Copy o.L)) (c : ℕ) (k : Copy o.L) (b : Book) → given tasks c k b c ≡ live k
  given_at tasks c k b = put_self (put tasks (recorder x) (live (Recording b))) c (live k)

  pub given_recorder : (tasks : ℕ → Seat (Copy o.L)) (c : ℕ) (k : Copy o.L) (b : Book) → (c == recorder x) ≡ false → given tasks c k b (recorder x) ≡ live (Recording b)
  given_recorder tasks c k b other = put_other (put tasks (recorder x) (live (Recording b))) c (recorder x) (live k) (unequal_turned c (recorder x) other) ∙
      put_self tasks (recorder x) (live (Recording b))

  pub given_other : (tasks : ℕ → Seat (Copy o.L)) (c : ℕ) (k : Copy o.L) (b : Book) (u : ℕ) → (u == c) ≡ false → (u == recorder x) ≡ false → given tasks c k b u ≡ tasks u
  given_other tasks c k b u p q = put_other (put tasks (recorder x) (live (Recording b))) c u (live k) p ∙ put_other tasks (recorder x) u (live (Recording b)) q

  -- the recorder writes what is left of a line, and ends it
  pub writes : (c : ℕ) (b : Book) (m : Note) (r : Copy o.L) → line_ends c b m ≡ r → (left : List (List ℕ)) (done : List ℕ) (tasks : ℕ → Seat (Copy o.L)) →
      tasks (recorder x) ≡ live (Writing c b m done left) → Way (twin x) (going tasks) (going (put tasks (recorder x) (live r)))
  writes c b m r ends [] done tasks at =
      subst (λ k. Way (twin x) (going tasks) (going (put tasks (recorder x) (live k)))) ends (way_step (twin x) tasks (recorder x) (Writing c b m done []) at refl)
  writes c b m r ends (piece ∷ left) done tasks at =
      let n : ℕ = recorder x in
      let k : Copy o.L = Writing c b m (done ++ piece) left in
      let more : Way (twin x) (going (put tasks n (live k))) (going (put (put tasks n (live k)) n (live r))) = writes c b m r ends left (done ++ piece) (put tasks n
      (live k)) (put_self tasks n (live k)) in
      way_then (twin x) (going tasks) (going (put tasks n (live k))) (going (put tasks n (live r)))
      (way_step (twin x) tasks n (Writing c b m done (piece ∷ left)) at refl)
      (subst (λ others. Way (twin x) (going (put tasks n (live k))) (going others)) (put_twice tasks n (live k) (live r)) more)

  -- the tasks with one that tells, and the recorder in this state
  abbrev pub heard_as : (ℕ → Seat (Copy o.L)) → ℕ → Copy o.L → Copy o.L → ℕ → Seat (Copy o.L)
  heard_as tasks c k r = put (put (put tasks (recorder x) (live r)) c (record { local = k; standing = Served (recorder x) false })) (recorder x) (live r)

  -- A task tells the recorder, which writes the line to its end.
  pub hear : (tasks : ℕ → Seat (Copy o.L)) (b : Book) (c : ℕ) (k : Copy o.L) (m : Note) (r : Copy o.L) → tasks (recorder x) ≡ live (Recording b) →
      tasks c ≡ live k → (c == recorder x) ≡ false →
      copy_offer o.p x.note k ≡ telling x.note → note_of o.p x.pends k ≡ m → line_ends c b m ≡ r → Way (twin x) (going tasks) (going (heard_as tasks c k r))
  hear tasks b c k m r at at' other tells says ends =
      let n : ℕ = recorder x in
      let first : Copy o.L = Writing c b m [] (pieces x.lines (line_of b m)) in
      let y : Seat (Copy o.L) = record { local = k; standing = Served n false } in
      let one : ℕ → Seat (Copy o.L) = put (put tasks n (live first)) c y in
      let starts : happens (twin x) tasks (R c x.note (pos 0)) ≡ true = both
      (offers_at (twin x).ops (calls_in is_any_form x.note (pos 0)) (tasks c) k at' (ap (calls_in is_any_form x.note (pos 0)) tells ∙ same_member-refl x.note (pos 0)))
      (offers_at (twin x).ops (waits_with (opens x.note (pos 0))) (tasks (x.owner x.note)) (Recording b) (ap tasks x.noted ∙ at) (or_left _ _ (same_member-refl x.note (pos 0)))) in
      let is_first : acted (numbered (twin x)) tasks (R c x.note (pos 0)) ≡ one =
      sym (start_is (twin x) tasks c n x.note (pos 0) k (Recording b) first x.noted at' at (ap (λ f. Writing c b f [] (pieces x.lines (line_of b f))) says) other) in
      let at_one : one n ≡ live first = put_other (put tasks n (live first)) c n y (unequal_turned c n other) ∙ put_self tasks n (live first) in
      way_then (twin x) (going tasks) (going one) (going (heard_as tasks c k r)) (way_event (twin x) tasks one (R c x.note (pos 0)) starts refl is_first)
      (subst (λ others. Way (twin x) (going one) (going others)) (same y (live first) (live r)) (writes c b m r ends (pieces x.lines (line_of b m)) [] one at_one))
    where
      -- what was written before
      same : (y first last : Seat (Copy o.L)) → put (put (put tasks (recorder x) first) c y) (recorder x) last ≡ put (put (put tasks (recorder x) last) c y) (recorder x) last
      same y first last = λ i u. go u (u == recorder x) (u == c) i
        where
          go : (u : ℕ) (f g : Bool) → (if f then last else (if g then y else (if f then first else tasks u))) ≡ (if f then last else (if g then y else (if f then last else tasks u)))
          go u true g = refl
          go u false true = refl
          go u false false = refl

  -- As the line of the note ends the recorder answers so, with this book.
  abbrev pub Answers : ℕ → Book → Note → Bool → Book → Type 0
  Answers c b m answer b' = ◌≡◌ {A = Copy o.L} (line_ends c b m) (Noted c answer b')

  -- A task tells the recorder, and is answered.
  pub tell : (tasks : ℕ → Seat (Copy o.L)) (b : Book) (c : ℕ) (k : Copy o.L) (m : Note) (answer : Bool) (j : Copy o.L) (b' : Book) → tasks (recorder x) ≡ live (Recording b) →
      tasks c ≡ live k → (c == recorder x) ≡ false →
      copy_offer o.p x.note k ≡ telling x.note → note_of o.p x.pends k ≡ m → Answers c b m answer b' → answered o.p answer k ≡ j →
      Way (twin x) (going tasks) (going (given tasks c j b'))
  tell tasks b c k m answer j b' at at' other tells says ends answers =
      let n : ℕ = recorder x in
      let noted : Copy o.L = Noted c answer b' in
      let y : Seat (Copy o.L) = record { local = k; standing = Served n false } in
      let two : ℕ → Seat (Copy o.L) = heard_as tasks c k noted in
      let at_two : two c ≡ y = put_other (put (put tasks n (live noted)) c y) n c (live noted) other ∙ put_self (put tasks n (live noted)) c y in
      let here : two n ≡ live noted = put_self (put (put tasks n (live noted)) c y) n (live noted) in
      let finishes : happens (twin x) two (E n) ≡ true = offers_at (twin x).ops is_finish (two n) noted here refl in
      let is_last' : acted (numbered (twin x)) two (E n) ≡ given tasks c j b' =
      parted_is (twin x) two n noted c [] here refl other ∙
      ap (λ z. put (put two n (live (Recording b'))) c (let_go (answered o.p answer) n z)) at_two ∙
      ap (λ z. put (put two n (live (Recording b'))) c z) (let_go_served (answered o.p answer) n y (equal_self n) ∙ ap live answers) ∙
      same (live (Recording b')) (live j) y (live noted) in
      way_then (twin x) (going tasks) (going two) (going (given tasks c j b')) (hear tasks b c k m noted at at' other tells says ends)
      (way_event (twin x) two (given tasks c j b') (E n) finishes refl is_last')
    where
      -- what was written before
      same : (rec last y noted : Seat (Copy o.L)) → put (put (put (put (put tasks (recorder x) noted) c y) (recorder x) noted) (recorder x) rec) c last ≡ put (put tasks (recorder x) rec) c last
      same rec last y noted = λ i u. go u (u == c) (u == recorder x) i
        where
          go : (u : ℕ) (f g : Bool) →
              (if f then last else (if g then rec else (if g then noted else (if f then y else (if g then noted else tasks u))))) ≡ (if f then last else (if g then rec else tasks u))
          go u true g = refl
          go u false true = refl
          go u false false = refl
