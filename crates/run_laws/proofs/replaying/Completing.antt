-- A task completes at its end: an original one, or the controller behind its last operation.
use Rattle.std.proofs.Common.{◌≡◌, ℕ, ◌<◌, true, false, not, ◌==◌, if◌then◌else◌, List, [], ◌∷◌, ◌++◌, Some, None, refl, sym, ap, ◌∙◌, subst, inr, ⊎_elim, true≢false, arith}
use Rattle.std.proofs.lemmas.Bool.{and_parts}
use Rattle.event_machine.specs.declared.Standing.TheVariants.{Live, Completed}
use Rattle.event_machine.specs.declared.Event.{Event}
use Rattle.event_machine.specs.declared.Event.TheVariants.{X}
use Rattle.event_machine.specs.Offers.{is_end}
use Rattle.event_machine.specs.States.{Seat, live, is_completed}
use Rattle.event_machine.specs.Worlds.{World, Happen, happens, moved, offers}
use Rattle.event_machine.proofs.Basics.{both, false_not}
use Rattle.run_laws.specs.replaying.Permits.{ToEnd, Op, Go, Done, Join, Hold}
use Rattle.run_laws.specs.replaying.Copies.{Copy, Holding, Controlling, Handing, ops_offer, is_own}
use Rattle.run_laws.specs.replaying.Rewritings.{Setting, control, idle, left, twin}
use Rattle.run_laws.specs.replaying.inner.Stages.{image, Stage, Held, Giving, Asked, Acted, Told, Parted, Over, Away, place, SeatAt, Inv}
use Rattle.run_laws.proofs.replaying.Facts.{put, put_each, put_other, put_self, offers_at, below_apart}
use Rattle.run_laws.proofs.replaying.Images.{image_stand, image_beyond}
use Rattle.run_laws.proofs.replaying.Voices.{ends_by}
use Rattle.run_laws.proofs.replaying.Reached.{after_all}
use Rattle.run_laws.proofs.replaying.Telling.{of_end}
use Rattle.run_laws.proofs.replaying.Speaking.{Speaks, Asking, Using, Refused, Reporting, Commanding, Serving, Resting, speaks}
use Rattle.run_laws.proofs.replaying.Afterwards.{Matched, permitted_in, after_event}
use Rattle.run_laws.proofs.replaying.Singles.{Moves, matched_event, unless_below, image_live, sole, away_then}
use Rattle.run_laws.proofs.replaying.Silently.{matched_silent, unseen}
use Rattle.common_lemmas.proofs.Numbers.{lt_false, unequal_above}

module _ (x : Setting) where
  pub controlling : {ops more : List Op} → live {L = Copy x.L} (Controlling ops) ≡ live (Controlling more) → ops ≡ more
  controlling {ops} {more} h = let k : ◌≡◌ {A = Copy x.L} (Controlling ops) (Controlling more) = ap (λ (y : Seat (Copy x.L)). y.local) h in cc

  pub not_handing : {op : Op} {ops more : List Op} → live {L = Copy x.L} (Handing op ops) ≡ live (Controlling more) → ⊥
  not_handing {op} {ops} {more} h = let k : ◌≡◌ {A = Copy x.L} (Handing op ops) (Controlling more) = ap (λ (y : Seat (Copy x.L)). y.local) h in cc

  -- an original task completes
  module _ (past rest : List Event) (w : World (Copy x.L)) (a : ℕ) (tail : List Event) (inv : Inv x past rest (Giving (X a) tail (a ∷ []) []) w) (l : x.L) (below : a < x.p.size)
      (at : w.tasks a ≡ live (Holding a ToEnd l)) (other : (a == 0) ≡ false) (ends : is_end (x.p.ops.offer l) ≡ true) where
    abbrev gone : Seat (Copy x.L)
    gone = record { local = (w.tasks a).local; standing = Completed }

    pub completes : Inv x (past ++ (X a ∷ [])) tail (Parted a) (moved (twin x) w (Happen (X a)))
    completes = after_event x past rest (X a) tail (a ∷ []) w inv (Join a) (Parted a) (put w.tasks a gone) refl refl
        (both (false_not other) (offers_at x.p.ops is_end (image x w.tasks a) l (image_live x w.tasks a (Holding a ToEnd l) below at) ends))
        (sym (image_stand x w.tasks a Completed below))
        (λ t h. put_other w.tasks a t gone (unequal_above t a (omega (arith, h, below))))
        (inv.fits.0, below, ap (λ (y : Seat (Copy x.L)). is_completed y.standing) (put_self w.tasks a gone))
        (λ seat h. h)
        (λ u m. put_each (λ v seat. SeatAt x Away v seat) w.tasks a gone u
        (λ q. ap (λ (y : Seat (Copy x.L)). is_own y.local) at)
        (λ q. away_then x past rest w (X a) tail a inv u m q))

  module _ (past rest : List Event) (w : World (Copy x.L)) (runs : w.ended ≡ false) where
    abbrev closed_tasks : ℕ → Seat (Copy x.L)
    closed_tasks = put w.tasks (control x) (record { local = (w.tasks (control x)).local; standing = Completed })

    -- the controller completes
    pub controller_ends : (stage : Stage) → Inv x past rest stage w → w.tasks (control x) ≡ live (Controlling []) →
        Matched x past (record { tasks = put w.tasks (control x) (record { local = (w.tasks (control x)).local; standing = Completed }); ended = w.ended })
    controller_ends Held inv h = absurd (let q : Hold ∷ [] ≡ [] = controlling (sym inv.controls ∙ h) in cc)
    controller_ends (Giving e tail given more) inv h = ⊎_elim
        (λ q. record {
          rest = rest;
          stage = Giving e tail given more;
          inv = unseen x past rest (Giving e tail given more) (Giving e tail given more) w closed_tasks inv
              (image_beyond x w.tasks (control x) (record { local = (w.tasks (control x)).local; standing = Completed }) (omega arith))
              (put_other w.tasks (control x) (idle x) (record { local = (w.tasks (control x)).local; standing = Completed }) (unequal_above (idle x) (control x) (omega arith)))
              (λ t m. put_other w.tasks (control x) t (record { local = (w.tasks (control x)).local; standing = Completed }) (unequal_above t (control x) (omega (arith, m))))
              inv.fits
              (inr (controlling (sym q ∙ h), ap (λ (y : Seat (Copy x.L)). y.standing) (put_self w.tasks (control x) (record { local = (w.tasks (control x)).local; standing = Completed }))))
              (λ u m. subst (SeatAt x (place (Giving e tail given more) u) u) (sym (put_other w.tasks (control x) u (record { local = (w.tasks (control x)).local; standing = Completed }) (below_apart u (control x) m)))
              (inv.seats u m));
        })
        (λ q. absurd (let k : Completed ≡ Live = sym q.1 ∙ ap (λ (y : Seat (Copy x.L)). y.standing) h in cc)) inv.controls
    controller_ends (Asked e tail given b more) inv h = absurd (not_handing (sym inv.controls ∙ h))
    controller_ends (Acted b) inv h = absurd (let q : Done b ∷ left x (after_all x past) rest ≡ [] = controlling (sym inv.controls ∙ h) in cc)
    controller_ends (Told b) inv h = absurd (not_handing (sym inv.controls ∙ h))
    controller_ends (Parted b) inv h = absurd (let q : Join b ∷ left x (after_all x past) rest ≡ [] = controlling (sym inv.controls ∙ h) in cc)
    controller_ends Over inv h = absurd (true≢false (sym inv.fits ∙ runs))

  module _ (past rest : List Event) (stage : Stage) (w : World (Copy x.L)) (inv : Inv x past rest stage w) (runs : w.ended ≡ false) where
    pub complete_moves : (a : ℕ) → happens (twin x) w.tasks (X a) ≡ true → Moves x past w (X a)
    complete_moves a h = go (speaks x stage w is_end past rest inv runs refl a parts.1)
      where
        parts : (not (a == 0) ≡ true) × (offers (twin x).ops is_end (w.tasks a) ≡ true)
        parts = and_parts (not (a == 0)) (offers (twin x).ops is_end (w.tasks a)) h

        commands : (ops : List Op) → a ≡ control x → w.tasks (control x) ≡ live (Controlling ops) → is_end (ops_offer x.n ops) ≡ true → Moves x past w (X a)
        commands [] at q k = matched_silent x past w (X a) (ap (λ b. if b then Some (X a) else None) (lt_false a x.p.size (omega (arith, at)))) tt
            (subst (λ v. Matched x past (moved (twin x) w (Happen (X v)))) (sym at) (controller_ends past rest w runs stage inv q))
        commands (Go t permit ∷ ops) at q k = absurd (true≢false (sym k))
        commands (Done t ∷ ops) at q k = absurd (true≢false (sym k))
        commands (Join t ∷ ops) at q k = absurd (true≢false (sym k))
        commands (Hold ∷ ops) at q k = absurd (true≢false (sym k))

        go : Speaks x stage w is_end a → Moves x past w (X a)
        go (Asking l m at r pl k) = absurd (true≢false (sym k))
        go (Using permit l m at r pl wanted shown) = ⊎_elim
            (λ v.
            let k = permitted_in x past rest stage w a permit inv.fits pl in
            let o = of_end k.e (sym v.0 ∙ k.is) in
            let st : stage ≡ Giving (X a) k.tail (a ∷ []) [] = sole x past rest stage w a permit k (λ u. X u) o.0 o.1 (λ u. refl) in
            matched_event x past w (X a) (X a) (unless_below x a (X a) m) tt
            (record { rest = k.tail; stage = Parted a; inv = completes past rest w a k.tail (subst (λ z. Inv x past rest z w) st inv) l m (at ∙ ap (λ z. live (Holding a z l)) v.0) v.1 v.2 }))
            (λ v. absurd (true≢false (sym parts.0 ∙ ap not v.1)))
            (ends_by x.n a (x.p.ops.offer l) permit wanted shown)
        go (Refused permit l m at k) = absurd (true≢false (sym k))
        go (Reporting l m at pl k) = absurd (true≢false (sym k))
        go (Commanding ops at q k) = commands ops at q k
        go (Serving op ops at q k) = absurd (true≢false (sym k))
        go (Resting at k) = absurd (true≢false (sym k))
