-- What a place says of how its task stands, in the copy and in the original.
use Rattle.std.proofs.Common.{◌≡◌, ℕ, zero, suc, ◌+◌, ◌<◌, Bool, true, false, ◌&&◌, ◌||◌, ◌==◌, if◌then◌else◌, List, [], ◌∷◌, ◌++◌, refl, sym, ap, ◌∙◌, inl, inr, ◌⊎◌, ⊎_elim, true≢false, arith}
use Rattle.std.specs.Prelude.{nat_lt}
use Rattle.std.proofs.lemmas.Bool.{eqb-true, or_left, or_right, or_cases, and_from}
use Rattle.event_machine.specs.declared.Standing.{Standing}
use Rattle.event_machine.specs.declared.Standing.TheVariants.{Live, Waiting, Queued, Served, Completed, Killed}
use Rattle.event_machine.specs.declared.Event.{Event}
use Rattle.event_machine.specs.declared.Event.TheVariants.{R, E, S, D, C, T, F, X, B, Z}
use Rattle.event_machine.specs.States.{Seat, live, is_live, is_closed}
use Rattle.event_machine.specs.Soundness.{times}
use Rattle.event_machine.specs.Worlds.{World}
use Rattle.run_laws.specs.replaying.Permits.{Permit, permit_of, Op, Go, Done, Join}
use Rattle.run_laws.specs.replaying.Scripts.{takers, grants, is_other}
use Rattle.run_laws.specs.replaying.Copies.{Copy, Based, is_own}
use Rattle.run_laws.specs.replaying.Rewritings.{Setting, control, left}
use Rattle.run_laws.specs.replaying.inner.Stages.{IsReached, image, image_world, free_of, Stage, Held, Giving, Asked, Acted, Told, Parted, Over, Place, Away, Asks, Holds, Says, Hears, Gone, place, member, in_order, AwayAt, SeatAt, ControlAt, behind_event, Fits, Inv}
use Rattle.run_laws.proofs.replaying.Facts.{below_apart}
use Rattle.run_laws.proofs.replaying.Images.{image_at}
use Rattle.run_laws.proofs.replaying.Reached.{after_all, reached_others}
use Rattle.common_lemmas.proofs.Numbers.{equal_self, lt_true}

module _ (x : Setting) where
  -- ---- places

  away_gone : (b : Bool) (permit : Permit) → (if b then Holds permit else Away) ≡ Gone → ⊥
  away_gone true permit e = let k : Holds permit ≡ Gone = e in cc
  away_gone false permit e = let k : Away ≡ Gone = e in cc

  says_gone : (b : Bool) → (if b then Says else Away) ≡ Gone → ⊥
  says_gone true e = let k : Says ≡ Gone = e in cc
  says_gone false e = let k : Away ≡ Gone = e in cc

  hears_gone : (b : Bool) → (if b then Hears else Away) ≡ Gone → ⊥
  hears_gone true e = let k : Hears ≡ Gone = e in cc
  hears_gone false e = let k : Away ≡ Gone = e in cc

  asks_gone : (b c : Bool) (permit : Permit) → (if b then Asks else (if c then Holds permit else Away)) ≡ Gone → ⊥
  asks_gone true c permit e = let k : Asks ≡ Gone = e in cc
  asks_gone false c permit e = away_gone c permit e

  -- while the program runs no task is gone
  pub not_gone : (g : x.G) (rest : List Event) (stage : Stage) (w : World (Copy x.L)) (a : ℕ) → Fits x g rest stage w → w.ended ≡ false → place stage a ≡ Gone → ⊥
  not_gone g rest Held w a f runs e = let k : Away ≡ Gone = e in cc
  not_gone g rest (Giving ev tail given more) w a f runs e = away_gone (member a given) (permit_of ev) e
  not_gone g rest (Asked ev tail given b more) w a f runs e = asks_gone (a == b) (member a given) (permit_of ev) e
  not_gone g rest (Acted b) w a f runs e = says_gone (a == b) e
  not_gone g rest (Told b) w a f runs e = hears_gone (a == b) e
  not_gone g rest (Parted b) w a f runs e = let k : Away ≡ Gone = e in cc
  not_gone g rest Over w a f runs e = true≢false (sym f ∙ runs)

  away_own : (t : ℕ) (s : Standing) (k : Copy x.L) → AwayAt x t s k → is_own k ≡ true
  away_own t Live k h = ap (λ v. is_own v) h.1
  away_own t Waiting k h = absurd h
  away_own t Queued k h = absurd h
  away_own t (Served by abnormal) k h = ap (λ v. is_own v) h.3
  away_own t Completed k h = h
  away_own t Killed k h = h

  pub seat_own : (pl : Place) (t : ℕ) (seat : Seat (Copy x.L)) → SeatAt x pl t seat → is_own seat.local ≡ true
  seat_own Away t seat h = away_own t seat.standing seat.local h
  seat_own Asks t seat h = ap (λ (y : Seat (Copy x.L)). is_own y.local) h.1
  seat_own (Holds permit) t seat h = ap (λ (y : Seat (Copy x.L)). is_own y.local) h.1
  seat_own Says t seat h = ap (λ (y : Seat (Copy x.L)). is_own y.local) h.1
  seat_own Hears t seat h = ap (λ (y : Seat (Copy x.L)). is_own y.local) h.1
  seat_own Gone t seat h = h

  -- ---- who is closed

  -- who is served by an original task, or not at all, stands so in the original
  pub away_free : (t : ℕ) (s : Standing) (k : Copy x.L) → AwayAt x t s k → free_of x s ≡ s
  away_free t Live k h = refl
  away_free t Waiting k h = absurd h
  away_free t Queued k h = absurd h
  away_free t (Served by abnormal) k h = ap (λ b. if b then Live else Served by abnormal) (below_apart by (control x) h.5)
  away_free t Completed k h = refl
  away_free t Killed k h = refl

  controlled : is_closed (free_of x (Served (control x) false)) ≡ false
  controlled = go (control x == control x)
    where
      go : (b : Bool) → is_closed (if b then Live else Served (control x) false) ≡ false
      go true = refl
      go false = refl

  seat_closed : (pl : Place) (t : ℕ) (seat : Seat (Copy x.L)) → (pl ≡ Gone → ⊥) → SeatAt x pl t seat → is_closed (free_of x seat.standing) ≡ is_closed seat.standing
  seat_closed Away t seat g h = ap is_closed (away_free t seat.standing seat.local h)
  seat_closed Asks t seat g h = ap (λ (y : Seat (Copy x.L)). is_closed (free_of x y.standing)) h.1 ∙ controlled ∙ ap (λ (y : Seat (Copy x.L)). is_closed y.standing) (sym h.1)
  seat_closed (Holds permit) t seat g h = ap (λ (y : Seat (Copy x.L)). is_closed (free_of x y.standing)) h.1 ∙ ap (λ (y : Seat (Copy x.L)). is_closed y.standing) (sym h.1)
  seat_closed Says t seat g h = ap (λ (y : Seat (Copy x.L)). is_closed (free_of x y.standing)) h.1 ∙ ap (λ (y : Seat (Copy x.L)). is_closed y.standing) (sym h.1)
  seat_closed Hears t seat g h = ap (λ (y : Seat (Copy x.L)). is_closed (free_of x y.standing)) h.1 ∙ controlled ∙ ap (λ (y : Seat (Copy x.L)). is_closed y.standing) (sym h.1)
  seat_closed Gone t seat g h = absurd (g refl)

  pub image_closed : (past rest : List Event) (stage : Stage) (w : World (Copy x.L)) (t : ℕ) → Inv x past rest stage w → w.ended ≡ false → t < x.p.size →
      is_closed (image x w.tasks t).standing ≡ is_closed (w.tasks t).standing
  image_closed past rest stage w t inv runs m =
      ap (λ (y : Seat x.L). is_closed y.standing) (image_at x t (w.tasks t) m) ∙
      seat_closed (place stage t) t (w.tasks t) (not_gone (after_all x past) rest stage w t inv.fits runs) (inv.seats t m)

  -- ---- the end of the script

  pub behind_nothing : (g : x.G) (e : Event) (tail : List Event) → behind_event x g e tail ≡ [] → e ≡ Z
  behind_nothing g (R c e i) tail h = absurd cc
  behind_nothing g (E a) tail h = absurd cc
  behind_nothing g (S a) tail h = absurd cc
  behind_nothing g (D a k) tail h = absurd cc
  behind_nothing g (C c e i) tail h = absurd cc
  behind_nothing g (T c e i) tail h = absurd cc
  behind_nothing g (F c e i) tail h = absurd cc
  behind_nothing g (X a) tail h = absurd cc
  behind_nothing g (B u v) tail h = absurd (let k : (if v == u then Join u else Done u) ∷ left x (x.progress.advance g (B u v)) tail ≡ [] = h in cc)
  behind_nothing g Z tail h = refl

  pub grants_nothing : (permit : Permit) (more : List ℕ) (ops : List Op) → grants permit more ops ≡ [] → (more ≡ []) × (ops ≡ [])
  grants_nothing permit [] ops h = (refl, h)
  grants_nothing permit (t ∷ more) ops h = absurd (let k : Go t permit ∷ grants permit more ops ≡ [] = h in cc)

  -- ---- members

  pub member_append : (a : ℕ) (xs ys : List ℕ) → (member a xs ≡ true) ⊎ (member a ys ≡ true) → member a (xs ++ ys) ≡ true
  member_append a [] ys h = ⊎_elim (λ k. absurd (true≢false (sym k))) (λ k. k) h
  member_append a (y ∷ xs) ys h = ⊎_elim
      (λ k. ⊎_elim (λ q. or_left (a == y) (member a (xs ++ ys)) q) (λ q. or_right (a == y) (member a (xs ++ ys)) (member_append a xs ys (inl q))) (or_cases (a == y) (member a xs) k))
      (λ k. or_right (a == y) (member a (xs ++ ys)) (member_append a xs ys (inr k))) h

  pub order_member : (a : ℕ) (given more : List ℕ) → member a (in_order given more) ≡ true → (member a given ≡ true) ⊎ (member a more ≡ true)
  order_member a [] more h = inr h
  order_member a (t ∷ given) more h = ⊎_elim
      (λ k. inl (or_right (a == t) (member a given) k))
      (λ k. ⊎_elim (λ q. inl (or_left (a == t) (member a given) q)) (λ q. inr q) (or_cases (a == t) (member a more) k))
      (order_member a given (t ∷ more) h)

  pub times_member : (a : ℕ) (xs : List ℕ) (n : ℕ) → times a xs ≡ suc n → member a xs ≡ true
  times_member a [] n h = absurd (omega (arith, h))
  times_member a (y ∷ xs) n h = go (y == a) refl h (times_member a xs n)
    where
      go : (b : Bool) → (y == a) ≡ b → (if b then 1 else 0) + times a xs ≡ suc n → (times a xs ≡ suc n → member a xs ≡ true) → ((a == y) || member a xs) ≡ true
      go true q k rec = or_left (a == y) (member a xs) (ap (λ v. a == v) (eqb-true y a q) ∙ equal_self a)
      go false q k rec = or_right (a == y) (member a xs) (rec (let e : 0 + times a xs ≡ suc n = k in omega (arith, e)))

  -- a free task is to get a permit for the end of the program
  pub taken_last : (past : List Event) (w : World (Copy x.L)) (c : ℕ) → IsReached x past (image_world x w) → w.ended ≡ false →
      x.progress.admits (after_all x past) Z ≡ true → c < x.p.size → (image x w.tasks c).standing ≡ Live → member c (takers x.progress x.p.owner (after_all x past) Z) ≡ true
  taken_last past w zero r runs h m l = member_append 0 (x.progress.others (after_all x past)) (0 ∷ []) (inr refl)
  taken_last past w (suc c) r runs h m l = member_append (suc c) (x.progress.others (after_all x past)) (0 ∷ [])
      (inl (times_member (suc c) (x.progress.others (after_all x past)) 0 (reached_others x past (image_world x w) r (suc c) runs h ∙ ap (λ b. if b then 1 else 0) other)))
    where
      other : is_other x.p (image_world x w) (suc c) ≡ true
      other = and_from (nat_lt 0 (suc c)) (nat_lt (suc c) x.p.size && is_live (image x w.tasks (suc c)).standing) (lt_true 0 (suc c) (omega arith))
          (and_from (nat_lt (suc c) x.p.size) (is_live (image x w.tasks (suc c)).standing) (lt_true (suc c) x.p.size m) (ap is_live l))

  -- the controller has not completed while a task still asks for a permit
  pub control_open : (past rest : List Event) (stage : Stage) (w : World (Copy x.L)) (c : ℕ) (l : x.L) → Inv x past rest stage w → w.ended ≡ false → c < x.p.size →
      w.tasks c ≡ live (Based c l) → place stage c ≡ Away → is_closed (w.tasks (control x)).standing ≡ true → ⊥
  control_open past rest stage w c l inv runs m at pl closed = go stage pl inv.fits inv.controls
    where
      not_live : {k : Copy x.L} → w.tasks (control x) ≡ live k → ⊥
      not_live {k} h = true≢false (sym closed ∙ ap (λ (y : Seat (Copy x.L)). is_closed y.standing) h)

      free : (image x w.tasks c).standing ≡ Live
      free = ap (λ (y : Seat x.L). y.standing) (image_at x c (w.tasks c) m) ∙ ap (λ (y : Seat (Copy x.L)). free_of x y.standing) at

      held : (b : Bool) (permit : Permit) → b ≡ true → (if b then Holds permit else Away) ≡ Away → ⊥
      held true permit h k = let q : Holds permit ≡ Away = k in cc
      held false permit h k = true≢false (sym h)

      go : (st : Stage) → place st c ≡ Away → Fits x (after_all x past) rest st w → ControlAt x (after_all x past) rest st (w.tasks (control x)) → ⊥
      go Held p f k = not_live k
      go (Giving e tail given more) p f k = ⊎_elim (λ q. not_live q) (λ q.
          let n = grants_nothing (permit_of e) more (behind_event x (after_all x past) e tail) q.0 in
          let last : e ≡ Z = behind_nothing (after_all x past) e tail n.1 in
          let takes = taken_last past w c inv.reached runs (ap (x.progress.admits (after_all x past)) (sym last) ∙ f.2) m free in
          ⊎_elim (λ r. held (member c given) (permit_of e) r p) (λ r. true≢false (sym r ∙ ap (member c) n.0))
          (order_member c given more (ap (member c) (f.3 ∙ ap (takers x.progress x.p.owner (after_all x past)) last) ∙ takes))) k
      go (Asked e tail given b more) p f k = not_live k
      go (Acted b) p f k = not_live k
      go (Told b) p f k = not_live k
      go (Parted b) p f k = not_live k
      go Over p f k = true≢false (sym f ∙ runs)
