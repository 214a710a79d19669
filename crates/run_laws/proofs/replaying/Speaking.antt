-- Who can offer what: at each stage a free task of the copy that offers something asks, uses its permit, reports, commands or rests.
use Rattle.std.proofs.Common.{◌≡◌, ℕ, suc, ◌<◌, ◌≤◌, Bool, true, false, ◌==◌, if◌then◌else◌, List, [], ◌∷◌, refl, sym, ap, ◌∙◌, ⊎_elim, true≢false, arith}
use Rattle.std.specs.Prelude.{pos}
use Rattle.std.proofs.lemmas.Bool.{cases_lt}
use Rattle.event_machine.specs.declared.CallForm.TheVariants.{Plain}
use Rattle.event_machine.specs.declared.Choice.TheVariants.{Accept, Terminate}
use Rattle.event_machine.specs.declared.Standing.{Standing}
use Rattle.event_machine.specs.declared.Standing.TheVariants.{Live, Waiting, Queued, Served, Completed, Killed}
use Rattle.event_machine.specs.declared.Event.{Event}
use Rattle.event_machine.specs.Offers.{Offer, Nothing, Calls, Waits, Finishes}
use Rattle.event_machine.specs.States.{Seat, live, is_live}
use Rattle.event_machine.specs.Worlds.{World, offers}
use Rattle.event_machine.proofs.Basics.{seat_path}
use Rattle.event_machine.proofs.Standings.{is-Live}
use Rattle.run_laws.specs.replaying.Permits.{Permit, Op, Hold, Go, Done, Join, wants, permit_of}
use Rattle.run_laws.specs.replaying.Copies.{Copy, Based, Holding, Saying, Controlling, Handing, shows, copy_ops, copy_offer, ops_offer}
use Rattle.run_laws.specs.replaying.Rewritings.{Setting, control, idle, left}
use Rattle.run_laws.specs.replaying.Scripts.{grants}
use Rattle.run_laws.specs.replaying.inner.Stages.{Stage, Held, Giving, Asked, Acted, Told, Parted, Over, Place, Away, Asks, Holds, Says, Hears, Gone, place, member, AwayAt, SeatAt, ControlAt, behind_event, Fits, Inv}
use Rattle.run_laws.proofs.replaying.Facts.{offers_live}
use Rattle.run_laws.proofs.replaying.Reached.{after_all}
use Rattle.event_machine.proofs.Returning.{completed_idle}

module _ (x : Setting) (stage : Stage) (w : World (Copy x.L)) (test : Offer → Bool) where
  -- A task whose offer passes the test.
  pub data Speaks (a : ℕ) : Type 0 where
    Asking : (l : x.L) → a < x.p.size → w.tasks a ≡ live (Based a l) → x.p.ops.can_step l ≡ false → place stage a ≡ Away → test (Calls Plain x.n.go (pos a)) ≡ true → Speaks a
    Using : (permit : Permit) (l : x.L) → a < x.p.size → w.tasks a ≡ live (Holding a permit l) → x.p.ops.can_step l ≡ false → place stage a ≡ Holds permit →
        wants a permit (x.p.ops.offer l) ≡ true → test (shows x.n a permit (x.p.ops.offer l)) ≡ true → Speaks a
    Refused : (permit : Permit) (l : x.L) → a < x.p.size → w.tasks a ≡ live (Holding a permit l) → test (Calls Plain x.n.stop (pos 0)) ≡ true → Speaks a
    Reporting : (l : x.L) → a < x.p.size → w.tasks a ≡ live (Saying a l) → place stage a ≡ Says → test (Calls Plain x.n.done (pos a)) ≡ true → Speaks a
    Commanding : (ops : List Op) → a ≡ control x → w.tasks (control x) ≡ live (Controlling ops) → test (ops_offer x.n ops) ≡ true → Speaks a
    Serving : (op : Op) (ops : List Op) → a ≡ control x → w.tasks (control x) ≡ live (Handing op ops) → test Finishes ≡ true → Speaks a
    Resting : a ≡ idle x → test (Waits (Accept x.n.rest (pos 0) ∷ Terminate ∷ [])) ≡ true → Speaks a

  module _ (past rest : List Event) (inv : Inv x past rest stage w) (runs : w.ended ≡ false) (no_test : test Nothing ≡ false) where
    module _ (a : ℕ) (h : offers (copy_ops x.p.ops x.n) test (w.tasks a) ≡ true) where
      free : (w.tasks a).standing ≡ Live
      free = is-Live (w.tasks a).standing (offers_live (copy_ops x.p.ops x.n) test (w.tasks a) h).0

      passes : test (copy_offer x.p.ops x.n (w.tasks a).local) ≡ true
      passes = (offers_live (copy_ops x.p.ops x.n) test (w.tasks a) h).1

      -- a task that asks, or makes local steps
      based : (l : x.L) → a < x.p.size → place stage a ≡ Away → (w.tasks a).local ≡ Based a l → Speaks a
      based l m pl e = go (x.p.ops.can_step l) refl (sym (ap (λ k. test (copy_offer x.p.ops x.n k)) e) ∙ passes)
        where
          go : (b : Bool) → x.p.ops.can_step l ≡ b → test (if b then Nothing else Calls Plain x.n.go (pos a)) ≡ true → Speaks a
          go true q k = absurd (true≢false (sym k ∙ no_test))
          go false q k = Asking l m (seat_path e free) q pl k

      held : (permit : Permit) (l : x.L) → a < x.p.size → place stage a ≡ Holds permit → w.tasks a ≡ live (Holding a permit l) → x.p.ops.can_step l ≡ false → Speaks a
      held permit l m pl e rests = go (wants a permit (x.p.ops.offer l)) refl (sym (ap (λ (y : Seat (Copy x.L)). test (copy_offer x.p.ops x.n y.local)) e) ∙ passes)
        where
          go : (b : Bool) → wants a permit (x.p.ops.offer l) ≡ b → test (if b then shows x.n a permit (x.p.ops.offer l) else Calls Plain x.n.stop (pos 0)) ≡ true → Speaks a
          go true q k = Using permit l m e rests pl q k
          go false q k = Refused permit l m e k

      not_live : {s : Standing} → (w.tasks a).standing ≡ s → is_live s ≡ false → Speaks a
      not_live {s} e h = absurd (true≢false (ap is_live (sym free ∙ e) ∙ h))

      away : (s : Standing) → (w.tasks a).standing ≡ s → a < x.p.size → place stage a ≡ Away → AwayAt x a s (w.tasks a).local → Speaks a
      away Live e m pl k = based k.0 m pl k.1
      away Waiting e m pl k = absurd k
      away Queued e m pl k = absurd k
      away (Served by abnormal) e m pl k = not_live e refl
      away Completed e m pl k = not_live e refl
      away Killed e m pl k = not_live e refl

      own : (pl : Place) → place stage a ≡ pl → a < x.p.size → SeatAt x pl a (w.tasks a) → Speaks a
      own Away q m k = away (w.tasks a).standing refl m q k
      own Asks q m k = not_live (ap (λ (y : Seat (Copy x.L)). y.standing) k.1) refl
      own (Holds permit) q m k = held permit k.0 m q k.1 k.2
      own Says q m k = Reporting k.0 m k.1 q (sym (ap (λ (y : Seat (Copy x.L)). test (copy_offer x.p.ops x.n y.local)) k.1) ∙ passes)
      own Hears q m k = not_live (ap (λ (y : Seat (Copy x.L)). y.standing) k.1) refl
      own Gone q m k = absurd (true≢false (sym (over stage q inv.fits) ∙ runs))
        where
          away_gone : (b : Bool) (permit : Permit) → (if b then Holds permit else Away) ≡ Gone → ⊥
          away_gone true permit e = cc
          away_gone false permit e = cc

          over : (st : Stage) → place st a ≡ Gone → Fits x (after_all x past) rest st w → w.ended ≡ true
          over Held e f = absurd (let c : Away ≡ Gone = e in cc)
          over (Giving ev tail given more) e f = absurd (away_gone (member a given) (permit_of ev) e)
          over (Asked ev tail given b more) e f = go (a == b) e
            where
              go : (c : Bool) → (if c then Asks else (if member a given then Holds (permit_of ev) else Away)) ≡ Gone → w.ended ≡ true
              go true e = absurd (let c : Asks ≡ Gone = e in cc)
              go false e = absurd (away_gone (member a given) (permit_of ev) e)
          over (Acted b) e f = go (a == b) e
            where
              go : (c : Bool) → (if c then Says else Away) ≡ Gone → w.ended ≡ true
              go true e = absurd (let c : Says ≡ Gone = e in cc)
              go false e = absurd (let c : Away ≡ Gone = e in cc)
          over (Told b) e f = go (a == b) e
            where
              go : (c : Bool) → (if c then Hears else Away) ≡ Gone → w.ended ≡ true
              go true e = absurd (let c : Hears ≡ Gone = e in cc)
              go false e = absurd (let c : Away ≡ Gone = e in cc)
          over (Parted b) e f = absurd (let c : Away ≡ Gone = e in cc)
          over Over e f = f

      commands : (ops : List Op) → a ≡ control x → w.tasks (control x) ≡ live (Controlling ops) → Speaks a
      commands ops e q = Commanding ops e q
          (sym (ap (λ (y : Seat (Copy x.L)). test (copy_offer x.p.ops x.n y.local)) (ap w.tasks e ∙ q)) ∙ passes)

      serves : (op : Op) (ops : List Op) → a ≡ control x → w.tasks (control x) ≡ live (Handing op ops) → Speaks a
      serves op ops e q = Serving op ops e q
          (sym (ap (λ (y : Seat (Copy x.L)). test (copy_offer x.p.ops x.n y.local)) (ap w.tasks e ∙ q)) ∙ passes)

      controller : (st : Stage) → Fits x (after_all x past) rest st w → a ≡ control x → ControlAt x (after_all x past) rest st (w.tasks (control x)) → Speaks a
      controller Held f e k = commands (Hold ∷ []) e k
      controller (Giving ev tail given more) f e k = ⊎_elim
          (λ q. commands (grants (permit_of ev) more (behind_event x (after_all x past) ev tail)) e q)
          (λ q. not_live (ap (λ v. (w.tasks v).standing) e ∙ q.1) refl)
          k
      controller (Asked ev tail given b more) f e k = serves (Go b (permit_of ev)) (grants (permit_of ev) more (behind_event x (after_all x past) ev tail)) e k
      controller (Acted b) f e k = commands (Done b ∷ left x (after_all x past) rest) e k
      controller (Told b) f e k = serves (Done b) (left x (after_all x past) rest) e k
      controller (Parted b) f e k = commands (Join b ∷ left x (after_all x past) rest) e k
      controller Over f e k = absurd (true≢false (sym f ∙ runs))

      pub speaks : Speaks a
      speaks = ⊎_elim
          (λ (m : a < x.p.size). own (place stage a) refl m (inv.seats a m))
          (λ (m : x.p.size ≤ a). ⊎_elim
          (λ (k : a < suc x.p.size). controller stage inv.fits (omega arith) inv.controls)
          (λ (k : suc x.p.size ≤ a). ⊎_elim
          (λ (j : a < suc (suc x.p.size)). let e : a ≡ idle x = omega arith in
          Resting e (sym (ap (λ (y : Seat (Copy x.L)). test (copy_offer x.p.ops x.n y.local)) (ap w.tasks e ∙ inv.idles)) ∙ passes))
          (λ (j : suc (suc x.p.size) ≤ a). not_live refl (completed_idle (w.tasks a).standing (inv.beyond a j)))
          (cases_lt a (suc (suc x.p.size))))
          (cases_lt a (suc x.p.size)))
          (cases_lt a x.p.size)
