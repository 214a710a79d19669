-- Each task of the copy has written what the original's has.
use Rattle.std.proofs.Common.{◌≡◌, ℕ, Bool, true, false, refl, sym, ap, ◌∙◌, ⊎_elim}
use Rattle.event_machine.specs.declared.CallForm.{CallForm}
use Rattle.event_machine.specs.declared.CallForm.TheVariants.{Plain, Conditional, Timed}
use Rattle.event_machine.specs.declared.Standing.TheVariants.{Served}
use Rattle.event_machine.specs.Offers.{Offer, Nothing, Calls, Waits, Finishes, Ends, Aborts}
use Rattle.event_machine.specs.States.{Seat, live, completed}
use Rattle.run_laws.specs.imitation.Imitations.{Original}
use Rattle.run_laws.specs.collecting.Copies.{other_in, other_part}
use Rattle.run_laws.specs.aborts.Notes.{Book}
use Rattle.run_laws.specs.aborts.Copies.{Due, Begun, TookElse, TookDelay, TookOther, Failed, Returned, Over, Copy, Based, Calling, Owing, Refusing, Leaving, Noted, told, done_by, answered}
use Rattle.run_laws.specs.aborts.Settings.{Setting, recorder, out_of}
use Rattle.run_laws.specs.aborts.inner.Beside.{heard, OwnAt, OwnBased, OwnCalling, OwnOwing, OwnServed, OwnReturned, OwnLost, OwnOver, OwnRefusing, OwnLeaving, SeatAt, Free, Telling, Shared, Apart, Gone}

module _ {o : Original} (x : Setting o) where
  -- who tells writes nothing by it
  out_told : (t : ℕ) (offer : Offer) (l : o.L) → out_of x (told o.p t offer l) ≡ o.out l
  out_told t Nothing l = refl
  out_told t (Calls form e i) l = refl
  out_told t (Waits choices) l = refl
  out_told t Finishes l = refl
  out_told t Ends l = refl
  out_told t (Aborts v) l = x.passes_silent l

  out_done : (t : ℕ) (answer : Bool) (due : Due o.L) (l : o.L) → out_of x (done_by o.p t answer due l) ≡ o.out l
  out_done t true (Begun c e i v) l = refl
  out_done t false (Begun c e i v) l = x.silent.accepted e i c v l
  out_done t answer TookElse l = x.silent.took_else l
  out_done t answer (TookDelay k) l = x.silent.took_delay k l
  out_done t true TookOther l = x.silent.raised l
  out_done t false TookOther l = go (o.p.ops.offer l)
    where
      form_part : (form : CallForm) → o.out (other_in o.p form l) ≡ o.out l
      form_part Plain = refl
      form_part Conditional = x.silent.took_else l
      form_part Timed = x.silent.took_delay 1 l

      go : (offer : Offer) → o.out (other_part o.p offer l) ≡ o.out l
      go (Calls form e i) = form_part form
      go offer = refl
  out_done t answer Failed l = x.silent.raised l
  out_done t true (Returned m) l = x.silent.raised l
  out_done t false (Returned m) l = x.silent.resumed m l
  out_done t answer (Over c) l = x.silent.finished l

  pub out_answered : (answer : Bool) (k : Copy o.L) → out_of x (answered o.p answer k) ≡ out_of x k
  out_answered answer (Based t l) = out_told t (o.p.ops.offer l) l
  out_answered answer (Owing t due l) = out_done t answer due l
  out_answered answer k = refl

  out_heard : (r k : Copy o.L) → out_of x (heard x r k) ≡ out_of x k
  out_heard (Noted c answer b) k = out_answered answer k
  out_heard r k = refl

  pub own_output : (b : Book) (d : ℕ → Seat o.L) (t : ℕ) (k : Copy o.L) → OwnAt x b d t k → out_of x k ≡ o.out (d t).local
  own_output b d t k own = go own
    where
      -- it is at this seat, which has written the same
      at_seat : (j : Copy o.L) (seat : Seat o.L) → k ≡ j → d t ≡ seat → out_of x j ≡ o.out seat.local → out_of x k ≡ o.out (d t).local
      at_seat j seat q at same = ap (out_of x) q ∙ same ∙ ap (λ (y : Seat o.L). o.out y.local) (sym at)

      go : OwnAt x b d t k → out_of x k ≡ o.out (d t).local
      go (OwnBased l q at) = at_seat (Based t l) (live l) q at refl
      go (OwnCalling l form e i q offer at met) = at_seat (Calling t l) (live l) q at refl
      go (OwnOwing l due q at h) = at_seat (Owing t due l) (live l) q at refl
      go (OwnServed l m a form e i q offer at was) = at_seat (Owing t (Returned m) l) (record { local = l; standing = Served a false }) q at refl
      go (OwnReturned l m form e i q offer at met was) = at_seat (Owing t (Returned m) l) (live (o.p.ops.resumed m l)) q at (sym (x.silent.resumed m l))
      go (OwnLost l due form e i q behind offer at met was) = at_seat (Owing t due l) (live (o.p.ops.raised l)) q at (sym (x.silent.raised l))
      go (OwnOver l c q below offer has once at was) = ⊎_elim (λ h. at_seat (Owing t (Over c) l) (live l) q h refl)
          (λ h. at_seat (Owing t (Over c) l) (live (o.p.ops.finished l)) q h (sym (x.silent.finished l))) at
      go (OwnRefusing l c q at gone) = at_seat (Refusing t c l) (live l) q at refl
      go (OwnLeaving l q offer other at) = at_seat (Leaving t l) (completed l) q at refl

  -- Each task has written what the original's has.
  pub same_output : (b : Book) (w : ℕ → Seat (Copy o.L)) (d : ℕ → Seat o.L) (r : Copy o.L) (t : ℕ) → SeatAt x b w d r t → out_of x (w t).local ≡ o.out (d t).local
  same_output b w d r t s = go s
    where
      at_state : (y : Seat (Copy o.L)) → w t ≡ y → out_of x (w t).local ≡ out_of x y.local
      at_state y at = ap (λ (z : Seat (Copy o.L)). out_of x z.local) at

      go : SeatAt x b w d r t → out_of x (w t).local ≡ o.out (d t).local
      go (Free k at own) = at_state (live k) at ∙ own_output b d t k own
      go (Telling k at hears own was) = at_state (record { local = k; standing = Served (recorder x) false }) at ∙ sym (out_heard r k) ∙ own_output b d t (heard x r k) own
      go (Shared a v form e i at offer here was) = at_state (record { local = Calling t v; standing = Served a false }) at ∙ ap (λ (y : Seat o.L). o.out y.local) (sym here)
      go (Apart a v form e i at offer owns here met) = at_state (record { local = Calling t v; standing = Served a false }) at ∙ ap (λ (y : Seat o.L). o.out y.local) (sym here)
      go (Gone there here outs) = outs
