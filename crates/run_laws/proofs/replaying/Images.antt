-- What writes and effects of the copy are in the original.
use Rattle.std.proofs.Common.{◌≡◌, ℕ, ◌<◌, ◌≤◌, Bool, true, false, ◌==◌, if◌then◌else◌, refl, sym, ap, ◌∙◌, subst, ⊎_elim}
use Rattle.std.specs.Prelude.{nat_lt}
use Rattle.std.proofs.lemmas.Bool.{eqb-true, cases_lt}
use Rattle.event_machine.specs.declared.Standing.{Standing}
use Rattle.event_machine.specs.declared.Standing.TheVariants.{Live, Waiting, Queued, Served, Completed, Killed}
use Rattle.event_machine.specs.States.{Seat, live, completed, is_served_by, is_abnormal}
use Rattle.event_machine.proofs.Basics.{push_if}
use Rattle.event_machine.specs.Worlds.{still}
use Rattle.run_laws.specs.replaying.Copies.{Copy, under}
use Rattle.run_laws.specs.replaying.Rewritings.{Setting, start, control}
use Rattle.run_laws.specs.replaying.inner.Stages.{free_of, image_seat, image_of, image}
use Rattle.run_laws.proofs.replaying.Facts.{below_apart, put, let_go, let_go_other, let_go_served}
use Rattle.common_lemmas.proofs.Numbers.{lt_false, lt_true, unequal_above}

module _ (x : Setting) where
  -- ---- one task

  pub image_at : (t : ℕ) (seat : Seat (Copy x.L)) → t < x.p.size → image_of x t seat ≡ image_seat x seat
  image_at t seat l = ap (λ b. if b then image_seat x seat else (start x).tasks t) (lt_true t x.p.size l)

  pub image_past : (t : ℕ) (seat : Seat (Copy x.L)) → x.p.size ≤ t → image_of x t seat ≡ (start x).tasks t
  image_past t seat l = ap (λ b. if b then image_seat x seat else (start x).tasks t) (lt_false t x.p.size l)

  -- past the last task stands nobody
  pub past_completed : (t : ℕ) (seat : Seat (Copy x.L)) → x.p.size ≤ t → (image_of x t seat).standing ≡ Completed
  past_completed t seat l = ap (λ (y : Seat x.L). y.standing) (image_past t seat l) ∙ ap still (x.opens_so.beyond t l)

  -- ---- writes

  pub image_put : (tasks : ℕ → Seat (Copy x.L)) (t : ℕ) (seat : Seat (Copy x.L)) → t < x.p.size →
      image x (put tasks t seat) ≡ put (image x tasks) t (image_seat x seat)
  image_put tasks t seat l = λ i u. go u (u == t) refl i
    where
      go : (u : ℕ) (b : Bool) → (u == t) ≡ b → image_of x u (if b then seat else tasks u) ≡ (if b then image_seat x seat else image x tasks u)
      go u true q = image_at u seat (subst (λ v. v < x.p.size) (sym (eqb-true u t q)) l)
      go u false q = refl

  pub image_freed : (tasks : ℕ → Seat (Copy x.L)) (t : ℕ) (k : Copy x.L) (f : x.L → x.L) → t < x.p.size → under x.p.ops.nobody k ≡ f (under x.p.ops.nobody (tasks t).local) →
      image x (put tasks t (live k)) ≡ put (image x tasks) t (live (f (image x tasks t).local))
  image_freed tasks t k f l h = image_put tasks t (live k) l ∙
      ap (λ z. put (image x tasks) t (live z)) (h ∙ ap (λ (y : Seat x.L). f y.local) (sym (image_at t (tasks t) l)))

  pub image_stand : (tasks : ℕ → Seat (Copy x.L)) (t : ℕ) (z : Standing) → t < x.p.size →
      image x (put tasks t (record { local = (tasks t).local; standing = z })) ≡ put (image x tasks) t (record { local = (image x tasks t).local; standing = free_of x z })
  image_stand tasks t z l = image_put tasks t (record { local = (tasks t).local; standing = z }) l ∙
      ap (λ (y : x.L). put (image x tasks) t (record { local = y; standing = free_of x z })) (ap (λ (y : Seat x.L). y.local) (sym (image_at t (tasks t) l)))

  -- a write that the original does not see
  pub image_beyond : (tasks : ℕ → Seat (Copy x.L)) (t : ℕ) (seat : Seat (Copy x.L)) → x.p.size ≤ t → image x (put tasks t seat) ≡ image x tasks
  image_beyond tasks t seat l = λ i u. go u (u == t) refl i
    where
      go : (u : ℕ) (b : Bool) → (u == t) ≡ b → image_of x u (if b then seat else tasks u) ≡ image x tasks u
      go u true q =
          let m : x.p.size ≤ u = subst (λ v. x.p.size ≤ v) (sym (eqb-true u t q)) l in
          image_past u seat m ∙ sym (image_past u (tasks u) m)
      go u false q = refl

  pub image_keeps : (tasks : ℕ → Seat (Copy x.L)) (t : ℕ) (seat : Seat (Copy x.L)) → image_seat x seat ≡ image_seat x (tasks t) → image x (put tasks t seat) ≡ image x tasks
  image_keeps tasks t seat h = λ i u. go u (u == t) refl i
    where
      go : (u : ℕ) (b : Bool) → (u == t) ≡ b → image_of x u (if b then seat else tasks u) ≡ image x tasks u
      go u true q =
          ap (λ y. if nat_lt u x.p.size then y else (start x).tasks u) (h ∙ ap (λ v. image_seat x (tasks v)) (sym (eqb-true u t q)))
      go u false q = refl

  -- ---- who is served

  pub free_served : (a : ℕ) (s : Standing) → a < x.p.size → is_served_by a (free_of x s) ≡ is_served_by a s
  free_served a Live l = refl
  free_served a Waiting l = refl
  free_served a Queued l = refl
  free_served a (Served by abnormal) l = go (by == control x) refl
    where
      go : (b : Bool) → (by == control x) ≡ b → is_served_by a (if b then Live else Served by abnormal) ≡ (by == a)
      go true q = sym (ap (λ v. v == a) (eqb-true by (control x) q) ∙ not_it)
        where
          not_it : (control x == a) ≡ false
          not_it = unequal_above (control x) a l
      go false q = refl
  free_served a Completed l = refl
  free_served a Killed l = refl

  pub image_served : (a u : ℕ) (seat : Seat (Copy x.L)) → a < x.p.size → u < x.p.size → is_served_by a (image_of x u seat).standing ≡ is_served_by a seat.standing
  image_served a u seat l m = ap (λ (y : Seat x.L). is_served_by a y.standing) (image_at u seat m) ∙ free_served a seat.standing l

  free_abnormal : (a : ℕ) (s : Standing) → a < x.p.size → is_served_by a s ≡ true → is_abnormal (free_of x s) ≡ is_abnormal s
  free_abnormal a Live l h = refl
  free_abnormal a Waiting l h = refl
  free_abnormal a Queued l h = refl
  free_abnormal a (Served by abnormal) l h = ap (λ b. is_abnormal (if b then Live else Served by abnormal))
      (ap (λ v. v == control x) (eqb-true by a h) ∙ below_apart a (control x) l)
  free_abnormal a Completed l h = refl
  free_abnormal a Killed l h = refl

  -- A caller as its rendezvous with an original task ends.
  pub image_let_go : (g : Copy x.L → Copy x.L) (f : x.L → x.L) (a u : ℕ) (seat : Seat (Copy x.L)) → a < x.p.size →
      (is_served_by a seat.standing ≡ true → (u < x.p.size) × (under x.p.ops.nobody (g seat.local) ≡ f (under x.p.ops.nobody seat.local))) →
      image_of x u (let_go g a seat) ≡ let_go f a (image_of x u seat)
  image_let_go g f a u seat l h = go (is_served_by a seat.standing) refl
    where
      go : (b : Bool) → is_served_by a seat.standing ≡ b → image_of x u (let_go g a seat) ≡ let_go f a (image_of x u seat)
      go false q = ap (image_of x u) (let_go_other g a seat q) ∙ sym (let_go_other f a (image_of x u seat) unserved)
        where
          unserved : is_served_by a (image_of x u seat).standing ≡ false
          unserved = ⊎_elim
              (λ (m : u < x.p.size). image_served a u seat l m ∙ q)
              (λ (m : x.p.size ≤ u). ap (is_served_by a) (past_completed u seat m))
              (cases_lt u x.p.size)
      go true q =
          let k = h q in
          ap (image_of x u) (let_go_served g a seat q) ∙
          image_at u (if is_abnormal seat.standing then completed seat.local else live (g seat.local)) k.0 ∙
          push_if (image_seat x) (is_abnormal seat.standing) (completed seat.local) (live (g seat.local)) ∙
          ap (λ z. if is_abnormal seat.standing then completed (under x.p.ops.nobody seat.local) else live z) k.1 ∙
          ap (λ b. if b then completed (under x.p.ops.nobody seat.local) else live (f (under x.p.ops.nobody seat.local))) (sym (free_abnormal a seat.standing l q)) ∙
          sym (let_go_served f a (image_seat x seat) (free_served a seat.standing l ∙ q)) ∙
          ap (let_go f a) (sym (image_at u seat k.0))
