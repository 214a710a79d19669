-- Tasks in a list and tasks by their numbers: what each effect of the table writes is the same.
use Rattle.std.proofs.Common.{◌≡◌, ℕ, ◌<◌, ◌≤◌, Bool, true, false, ◌==◌, if◌then◌else◌, List, [], ◌∷◌, length, map, refl, sym, ap, ◌∙◌, subst, inl, inr, ◌⊎◌, ⊎_elim, true≢false, slice_index_or, slice_set}
use Rattle.std.specs.Prelude.{ℤ}
use Rattle.std.proofs.lemmas.Bool.{eqb-true, eqb-false, cases_lt}
use Rattle.std.proofs.lemmas.List.{get_or-set_same, get_or-set_other, get_or_past}
use Rattle.std.proofs.Math.ListN.{get_or-map, length-set, length-map}
use Rattle.event_machine.specs.declared.Standing.{Standing}
use Rattle.event_machine.specs.declared.Standing.TheVariants.{Live, Waiting, Queued, Served, Completed, Killed}
use Rattle.event_machine.specs.States.{Seat, live, completed, is_closed, is_completed}
use Rattle.event_machine.specs.Effects.{freed, stand, met_at, parted, released_first, parted_both, released, fallen, aborted, went_on, abort_seats}
use Rattle.event_machine.specs.Programs.{Program, numbered, listed}
use Rattle.event_machine.proofs.Basics.{push_if}

module _ {L : Type 0} (p : Program L) where
  abbrev pub gone : Seat L
  gone = completed p.ops.nobody

  -- the tasks of a list by their numbers
  abbrev pub view : List (Seat L) → ℕ → Seat L
  view seats t = slice_index_or seats t gone

  -- who has not completed stands in the list
  pub in_list : (seats : List (Seat L)) (t : ℕ) → is_completed (view seats t).standing ≡ false → t < length seats
  in_list seats t h = ⊎_elim (λ (l : t < length seats). l)
      (λ (l : length seats ≤ t). absurd (true≢false (sym (ap (λ (x : Seat L). is_completed x.standing) (get_or_past seats t gone l)) ∙ h)))
      (cases_lt t (length seats))

  -- a write in the list, or of nobody past its end
  view_put : (seats : List (Seat L)) (t : ℕ) (seat : Seat L) → (t < length seats) ⊎ (seat ≡ gone) →
      view ((listed p).store.put seats t seat) ≡ (numbered p).store.put (view seats) t seat
  view_put seats t seat h = λ i u. go u (u == t) refl i
    where
      here : (t < length seats) ⊎ (seat ≡ gone) → slice_index_or (slice_set seats t seat) t gone ≡ seat
      here (inl l) = get_or-set_same seats t seat gone l
      here (inr e) = ⊎_elim
          (λ (l : t < length seats). get_or-set_same seats t seat gone l)
          (λ (l : length seats ≤ t). get_or_past (slice_set seats t seat) t gone (subst (λ n. n ≤ t) (sym (length-set seats t seat)) l) ∙ sym e)
          (cases_lt t (length seats))

      go : (u : ℕ) (b : Bool) → (u == t) ≡ b → slice_index_or (slice_set seats t seat) u gone ≡ (if b then seat else slice_index_or seats u gone)
      go u true q = subst (λ v. slice_index_or (slice_set seats t seat) v gone ≡ seat) (sym (eqb-true u t q)) (here h)
      go u false q = get_or-set_other seats t u seat gone (eqb-false u t q)

  view_each : (f : Seat L → Seat L) (seats : List (Seat L)) → f gone ≡ gone → view ((listed p).store.each f seats) ≡ (numbered p).store.each f (view seats)
  view_each f seats e = λ i u. (ap (slice_index_or (map f seats) u) (sym e) ∙ get_or-map f seats u gone) i

  -- ---- effects

  pub view_freed : (f : L → L) (seats : List (Seat L)) (t : ℕ) → t < length seats → view (freed (listed p).store f seats t) ≡ freed (numbered p).store f (view seats) t
  view_freed f seats t l = view_put seats t (live (f (view seats t).local)) (inl l)

  pub view_stand : (seats : List (Seat L)) (t : ℕ) (z : Standing) → t < length seats → view (stand (listed p).store seats t z) ≡ stand (numbered p).store (view seats) t z
  view_stand seats t z l = view_put seats t (record { local = (view seats t).local; standing = z }) (inl l)

  pub view_met : (seats : List (Seat L)) (c e : ℕ) (i : ℤ) → c < length seats → p.owner e < length seats → view (met_at (listed p) seats c e i) ≡ met_at (numbered p) (view seats) c e i
  view_met seats c e i lc lo =
      let opened : List (Seat L) = freed (listed p).store (p.ops.accepted e i c (view seats c).local) seats (p.owner e) in
      view_stand opened c (Served (p.owner e) false) (subst (λ n. c < n) (sym (length-set seats (p.owner e) (live (p.ops.accepted e i c (view seats c).local (view seats (p.owner e)).local)))) lc) ∙
      ap (λ w. stand (numbered p).store w c (Served (p.owner e) false)) (view_freed (p.ops.accepted e i c (view seats c).local) seats (p.owner e) lo)

  view_first : (a : ℕ) (acceptor : L) (callers : List ℕ) (seats : List (Seat L)) →
      view (released_first (listed p) a acceptor callers seats) ≡ released_first (numbered p) a acceptor callers (view seats)
  view_first a acceptor [] seats = refl
  view_first a acceptor (c ∷ callers) seats = view_put seats c (parted p.ops a acceptor (view seats c)) (⊎_elim
      (λ (l : c < length seats). inl l)
      (λ (l : length seats ≤ c). inr (ap (parted p.ops a acceptor) (get_or_past seats c gone l)))
      (cases_lt c (length seats)))

  pub view_both : (seats : List (Seat L)) (a : ℕ) → a < length seats → view (parted_both (listed p) seats a) ≡ parted_both (numbered p) (view seats) a
  view_both seats a l =
      view_first a (view seats a).local (p.ops.callers (view seats a).local) (freed (listed p).store p.ops.finished seats a) ∙
      ap (released_first (numbered p) a (view seats a).local (p.ops.callers (view seats a).local)) (view_freed p.ops.finished seats a l)

  length_went : (seats : List (Seat L)) (t x : ℕ) → length (went_on (listed p) seats t x) ≡ length seats
  length_went seats t x = go (x == t)
    where
      go : (b : Bool) → length (if◌then◌else◌ {A = List (Seat L)} b seats (freed (listed p).store p.ops.passed seats t)) ≡ length seats
      go true = refl
      go false = length-set seats t (live (p.ops.passed (view seats t).local))

  view_went : (seats : List (Seat L)) (t x : ℕ) → t < length seats → view (went_on (listed p) seats t x) ≡ went_on (numbered p) (view seats) t x
  view_went seats t x l = push_if view (x == t) seats (freed (listed p).store p.ops.passed seats t) ∙
      ap (λ w. if◌then◌else◌ {A = ℕ → Seat L} (x == t) (view seats) w) (view_freed p.ops.passed seats t l)

  view_aborted : (seats : List (Seat L)) (x : ℕ) (closing : Standing) → x < length seats → view (aborted (listed p) seats x closing) ≡ aborted (numbered p) (view seats) x closing
  view_aborted seats x closing l =
      let let_go : List (Seat L) = (listed p).store.each (released p.ops x) seats in
      view_stand let_go x (fallen closing (view let_go x).standing) (subst (λ n. x < n) (sym (length-map seats (released p.ops x))) l) ∙
      ap (λ (w : ℕ → Seat L). stand (numbered p).store w x (fallen closing (w x).standing)) (view_each (released p.ops x) seats refl)

  pub view_abort : (seats : List (Seat L)) (t x : ℕ) → t < length seats → view (abort_seats (listed p) seats t x) ≡ abort_seats (numbered p) (view seats) t x
  view_abort seats t x l =
      push_if view (is_closed (view seats x).standing) (went_on (listed p) seats t x) (aborted (listed p) (went_on (listed p) seats t x) x closing) ∙ go (is_closed (view seats x).standing) refl
    where
      closing : Standing
      closing = if x == t then Completed else Killed

      closed_over : (z : Standing) → is_closed z ≡ false → is_completed z ≡ false
      closed_over Live h = refl
      closed_over Waiting h = refl
      closed_over Queued h = refl
      closed_over (Served by abnormal) h = refl
      closed_over Completed h = h
      closed_over Killed h = h

      go : (b : Bool) → is_closed (view seats x).standing ≡ b →
          if◌then◌else◌ {A = ℕ → Seat L} b (view (went_on (listed p) seats t x)) (view (aborted (listed p) (went_on (listed p) seats t x) x closing)) ≡
          if◌then◌else◌ {A = ℕ → Seat L} b (went_on (numbered p) (view seats) t x) (aborted (numbered p) (went_on (numbered p) (view seats) t x) x closing)
      go true q = view_went seats t x l
      go false q =
          view_aborted (went_on (listed p) seats t x) x closing
          (subst (λ n. x < n) (sym (length_went seats t x)) (in_list seats x (closed_over (view seats x).standing q))) ∙
          ap (λ w. aborted (numbered p) w x closing) (view_went seats t x l)
