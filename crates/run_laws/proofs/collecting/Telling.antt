-- Moves of the copy by which a task tells the recorder, and the recorder writes and waits again.
use Rattle.std.proofs.Common.{◌≡◌, ℕ, Bool, true, false, ◌||◌, ◌==◌, if◌then◌else◌, List, [], ◌∷◌, ◌++◌, refl, sym, ap, ◌∙◌, subst}
use Rattle.std.specs.Prelude.{pos}
use Rattle.std.proofs.lemmas.Bool.{or_left}
use Rattle.event_machine.specs.declared.Standing.TheVariants.{Served}
use Rattle.event_machine.specs.declared.Event.{Event}
use Rattle.event_machine.specs.declared.Event.TheVariants.{R, E}
use Rattle.event_machine.specs.Offers.{calls_in, is_any_form, waits_with, is_finish, opens}
use Rattle.event_machine.specs.States.{Seat, live, is_live}
use Rattle.event_machine.specs.Programs.{Program, numbered}
use Rattle.event_machine.specs.Worlds.{World, Move, Step, Happen, happens, acted, is_last, AreMoves, world_after}
use Rattle.event_machine.proofs.Basics.{both, same_member-refl}
use Rattle.event_machine.proofs.Appends.{moves_append, world_append}
use Rattle.run_laws.specs.imitation.Imitations.{Original}
use Rattle.run_laws.proofs.replaying.Facts.{put, put_self, put_other, offers_at, let_go, let_go_served}
use Rattle.run_laws.proofs.replaying.Parting.{parted_is}
use Rattle.run_laws.specs.collecting.Notes.{Note, Book, line_of, answer_of, recorded, pieces}
use Rattle.run_laws.specs.collecting.Copies.{Copy, Recording, Writing, Noted, telling, note_of, copy_offer, answered}
use Rattle.run_laws.specs.collecting.Settings.{Setting, recorder, twin}
use Rattle.run_laws.proofs.collecting.Meetings.{start_is}
use Rattle.common_lemmas.proofs.Numbers.{equal_self, unequal_turned}

-- a world with these tasks that has not ended
abbrev pub going : {L : Type 0} → (ℕ → Seat L) → World L
going tasks = record { tasks = tasks; ended = false }

-- Moves lead from the one world to the other.
pub record Way {L : Type 0} (p : Program L) (w v : World L) : Type 0 where
  pub moves : List Move
  pub made : AreMoves p w moves
  pub ends : world_after p w moves ≡ v

module _ {L : Type 0} (p : Program L) where
  pub way_none : (w : World L) → Way p w w
  way_none w = record { moves = []; made = tt; ends = refl }

  pub way_then : (w v u : World L) → Way p w v → Way p v u → Way p w u
  way_then w v u f g = record {
    moves = f.moves ++ g.moves;
    made = moves_append p w f.moves g.moves f.made (subst (λ z. AreMoves p z g.moves) (sym f.ends) g.made);
    ends = world_append p w f.moves g.moves ∙ ap (λ z. world_after p z g.moves) f.ends ∙ g.ends;
  }

  pub way_event : (tasks others : ℕ → Seat L) (e : Event) → happens p tasks e ≡ true → is_last e ≡ false → acted (numbered p) tasks e ≡ others → Way p (going tasks) (going others)
  way_event tasks others e h more acts = record {
    moves = Happen e ∷ [];
    made = (h, tt);
    ends = λ i. record { tasks = acts i; ended = ap (λ f. f || false) more i };
  }

  pub way_step : (tasks : ℕ → Seat L) (t : ℕ) (k : L) → tasks t ≡ live k → p.ops.can_step k ≡ true → Way p (going tasks) (going (put tasks t (live (p.ops.stepped k))))
  way_step tasks t k at can = record {
    moves = Step t ∷ [];
    made = (both (ap (λ (y : Seat L). is_live y.standing) at) (ap (λ (y : Seat L). p.ops.can_step y.local) at ∙ can), tt);
    ends = λ i. record { tasks = put tasks t (live (p.ops.stepped (at i).local)); ended = false };
  }

-- the second of two writes of one task stays
pub put_twice : {A : Type 0} (tasks : ℕ → A) (t : ℕ) (y z : A) → put (put tasks t y) t z ≡ put tasks t z
put_twice tasks t y z = λ i u. go u (u == t) i
  where
    go : (u : ℕ) (b : Bool) → (if b then z else (if b then y else tasks u)) ≡ (if b then z else tasks u)
    go u true = refl
    go u false = refl

module _ {o : Original} (x : Setting o) where
  -- the tasks with one in this state, and the recorder waiting with this book
  abbrev pub given : (ℕ → Seat (Copy o.L)) → ℕ → Copy o.L → Book → ℕ → Seat (Copy o.L)
  given tasks c k b = put (put tasks (recorder x) (live (Recording b))) c (live k)

  pub given_at : (tasks : ℕ → Seat (Copy o.L)) (c : ℕ) (k : Copy o.L) (b : Book) → given tasks c k b c ≡ live k
  given_at tasks c k b = put_self (put tasks (recorder x) (live (Recording b))) c (live k)

  pub given_recorder : (tasks : ℕ → Seat (Copy o.L)) (c : ℕ) (k : Copy o.L) (b : Book) → (c == recorder x) ≡ false → given tasks c k b (recorder x) ≡ live (Recording b)
  given_recorder tasks c k b other = put_other (put tasks (recorder x) (live (Recording b))) c (recorder x) (live k) (unequal_turned c (recorder x) other) ∙
      put_self tasks (recorder x) (live (Recording b))

  pub given_other : (tasks : ℕ → Seat (Copy o.L)) (c : ℕ) (k : Copy o.L) (b : Book) (u : ℕ) → (u == c) ≡ false → (u == recorder x) ≡ false → given tasks c k b u ≡ tasks u
  given_other tasks c k b u p q = put_other (put tasks (recorder x) (live (Recording b))) c u (live k) p ∙ put_other tasks (recorder x) u (live (Recording b)) q

  -- the recorder writes what is left of a line, and ends it
  writes : (c : ℕ) (b : Book) (m : Note) (left : List (List ℕ)) (done : List ℕ) (tasks : ℕ → Seat (Copy o.L)) → tasks (recorder x) ≡ live (Writing c b m done left) →
      Way (twin x) (going tasks) (going (put tasks (recorder x) (live (Noted c (answer_of b m) (recorded b m)))))
  writes c b m [] done tasks at = way_step (twin x) tasks (recorder x) (Writing c b m done []) at refl
  writes c b m (piece ∷ left) done tasks at =
      let n : ℕ = recorder x in
      let k : Copy o.L = Writing c b m (done ++ piece) left in
      let end' : Seat (Copy o.L) = live (Noted c (answer_of b m) (recorded b m)) in
      let more : Way (twin x) (going (put tasks n (live k))) (going (put (put tasks n (live k)) n end')) = writes c b m left (done ++ piece) (put tasks n (live k)) (put_self tasks n (live k)) in
      way_then (twin x) (going tasks) (going (put tasks n (live k))) (going (put tasks n end'))
      (way_step (twin x) tasks n (Writing c b m done (piece ∷ left)) at refl)
      (subst (λ others. Way (twin x) (going (put tasks n (live k))) (going others)) (put_twice tasks n (live k) end') more)

  -- A task tells the recorder, and is answered.
  pub tell : (tasks : ℕ → Seat (Copy o.L)) (b : Book) (c : ℕ) (k : Copy o.L) (m : Note) (j : Copy o.L) → tasks (recorder x) ≡ live (Recording b) →
      tasks c ≡ live k → (c == recorder x) ≡ false →
      copy_offer o.p x.note k ≡ telling x.note → note_of o.p k ≡ m → answered o.p (answer_of b m) k ≡ j → Way (twin x) (going tasks) (going (given tasks c j (recorded b m)))
  tell tasks b c k m j at at' other tells says answers =
      let n : ℕ = recorder x in
      let first : Copy o.L = Writing c b m [] (pieces x.lines (line_of b m)) in
      let noted : Copy o.L = Noted c (answer_of b m) (recorded b m) in
      let y : Seat (Copy o.L) = record { local = k; standing = Served n false } in
      let one : ℕ → Seat (Copy o.L) = put (put tasks n (live first)) c y in
      let two : ℕ → Seat (Copy o.L) = put one n (live noted) in
      let starts : happens (twin x) tasks (R c x.note (pos 0)) ≡ true = both
      (offers_at (twin x).ops (calls_in is_any_form x.note (pos 0)) (tasks c) k at' (ap (calls_in is_any_form x.note (pos 0)) tells ∙ same_member-refl x.note (pos 0)))
      (offers_at (twin x).ops (waits_with (opens x.note (pos 0))) (tasks (x.owner x.note)) (Recording b) (ap tasks x.noted ∙ at) (or_left _ _ (same_member-refl x.note (pos 0)))) in
      let is_first : acted (numbered (twin x)) tasks (R c x.note (pos 0)) ≡ one =
      sym (start_is (twin x) tasks c n x.note (pos 0) k (Recording b) first x.noted at' at (ap (λ f. Writing c b f [] (pieces x.lines (line_of b f))) says) other) in
      let at_one : one n ≡ live first = put_other (put tasks n (live first)) c n y (unequal_turned c n other) ∙ put_self tasks n (live first) in
      let at_two : two c ≡ y = put_other one n c (live noted) other ∙ put_self (put tasks n (live first)) c y in
      let ends : happens (twin x) two (E n) ≡ true = offers_at (twin x).ops is_finish (two n) noted (put_self one n (live noted)) refl in
      let is_last' : acted (numbered (twin x)) two (E n) ≡ given tasks c j (recorded b m) =
      parted_is (twin x) two n noted c [] (put_self one n (live noted)) refl other ∙
      ap (λ z. put (put two n (live (Recording (recorded b m)))) c (let_go (answered o.p (answer_of b m)) n z)) at_two ∙
      ap (λ z. put (put two n (live (Recording (recorded b m)))) c z) (let_go_served (answered o.p (answer_of b m)) n y (equal_self n) ∙ ap live answers) ∙
      same (live (Recording (recorded b m))) (live j) y (live first) (live noted) in
      way_then (twin x) (going tasks) (going one) (going (given tasks c j (recorded b m))) (way_event (twin x) tasks one (R c x.note (pos 0)) starts refl is_first)
      (way_then (twin x) (going one) (going two) (going (given tasks c j (recorded b m))) (writes c b m (pieces x.lines (line_of b m)) [] one at_one)
      (way_event (twin x) two (given tasks c j (recorded b m)) (E n) ends refl is_last'))
    where
      -- what was written before
      same : (rec last y first noted : Seat (Copy o.L)) →
          put (put (put (put (put tasks (recorder x) first) c y) (recorder x) noted) (recorder x) rec) c last ≡ put (put tasks (recorder x) rec) c last
      same rec last y first noted = λ i u. go u (u == c) (u == recorder x) i
        where
          go : (u : ℕ) (f g : Bool) →
              (if f then last else (if g then rec else (if g then noted else (if f then y else (if g then first else tasks u))))) ≡ (if f then last else (if g then rec else tasks u))
          go u true g = refl
          go u false true = refl
          go u false false = refl
