-- What writes of tasks by their numbers leave: at the task itself and at others.
use Rattle.std.proofs.Common.{◌≡◌, ℕ, Bool, true, false, ◌==◌, if◌then◌else◌, refl, sym, ap, ◌∙◌}
use Rattle.std.proofs.lemmas.Bool.{eqb-true}
use Rattle.event_machine.specs.declared.Standing.{Standing}
use Rattle.event_machine.specs.declared.Standing.TheVariants.{Live}
use Rattle.event_machine.specs.States.{Seat, live}
use Rattle.event_machine.specs.Effects.{freed, stand}
use Rattle.event_machine.specs.Programs.{Program, numbered}
use Rattle.common_lemmas.proofs.Numbers.{equal_self}

module _ {L : Type 0} (p : Program L) (tasks : ℕ → Seat L) (t : ℕ) where
  pub put_self : (seat : Seat L) → (numbered p).store.put tasks t seat t ≡ seat
  put_self seat = ap (λ b. if b then seat else tasks t) (equal_self t)

  pub put_at : (seat : Seat L) (u : ℕ) → (u == t) ≡ true → (numbered p).store.put tasks t seat u ≡ seat
  put_at seat u e = ap (λ b. if b then seat else tasks u) e

  pub put_other : (seat : Seat L) (u : ℕ) → (u == t) ≡ false → (numbered p).store.put tasks t seat u ≡ tasks u
  put_other seat u e = ap (λ b. if b then seat else tasks u) e

  pub stand_self : (z : Standing) → stand (numbered p).store tasks t z t ≡ record { local = (tasks t).local; standing = z }
  stand_self z = put_self (record { local = (tasks t).local; standing = z })

  pub stand_other : (u : ℕ) (z : Standing) → (u == t) ≡ false → stand (numbered p).store tasks t z u ≡ tasks u
  stand_other u z e = put_other (record { local = (tasks t).local; standing = z }) u e

  -- a task that stands otherwise is where it was
  pub stand_local : (u : ℕ) (z : Standing) → (stand (numbered p).store tasks t z u).local ≡ (tasks u).local
  stand_local u z = go (u == t) refl
    where
      go : (b : Bool) → (u == t) ≡ b → (if b then record { local = (tasks t).local; standing = z } else tasks u).local ≡ (tasks u).local
      go true e = ap (λ v. (tasks v).local) (sym (eqb-true u t e))
      go false e = refl

  -- a live task that is changed stands as before
  pub freed_standing : (f : L → L) → (tasks t).standing ≡ Live → (u : ℕ) → (freed (numbered p).store f tasks t u).standing ≡ (tasks u).standing
  freed_standing f h u = go (u == t) refl
    where
      go : (b : Bool) → (u == t) ≡ b → (if b then live (f (tasks t).local) else tasks u).standing ≡ (tasks u).standing
      go true e = sym h ∙ ap (λ v. (tasks v).standing) (sym (eqb-true u t e))
      go false e = refl
