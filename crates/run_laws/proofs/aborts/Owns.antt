-- What is read off a task beside the original's: whether a task serves it there, and of which rendezvous it is to tell.
use Rattle.std.proofs.Common.{◌≡◌, ℕ, Bool, true, false, ◌&&◌, ◌==◌, if◌then◌else◌, ◌∷◌, refl, sym, ap, ap₂, ◌∙◌, subst, ⊎_elim, true≢false}
use Rattle.std.specs.Prelude.{ℤ}
use Rattle.std.proofs.lemmas.Bool.{eqb-true}
use Rattle.event_machine.specs.declared.CallForm.{CallForm}
use Rattle.event_machine.specs.declared.Standing.TheVariants.{Served}
use Rattle.event_machine.specs.Offers.{Calls, Finishes, Ends}
use Rattle.run_laws.specs.collecting.Copies.{telling}
use Rattle.run_laws.proofs.collecting.Offered.{end_tells}
use Rattle.event_machine.specs.States.{Seat, live, completed, is_served_by}
use Rattle.event_machine.specs.Soundness.{times}
use Rattle.run_laws.specs.imitation.Imitations.{Original}
use Rattle.run_laws.specs.collecting.inner.Beside.{CameFree}
use Rattle.run_laws.specs.aborts.Notes.{Book}
use Rattle.run_laws.specs.aborts.Copies.{Due, Begun, TookElse, TookDelay, TookOther, Failed, Returned, Over, Copy, Based, Calling, Owing, Refusing, Leaving, based_offer}
use Rattle.run_laws.specs.aborts.Settings.{Setting}
use Rattle.run_laws.specs.aborts.inner.Beside.{IsBehindCall, DueAt, OwnAt, OwnBased, OwnCalling, OwnOwing, OwnServed, OwnReturned, OwnLost, OwnOver, OwnRefusing, OwnLeaving}
use Rattle.run_laws.proofs.aborts.Reading.{is_over, over_caller, due_of, state_of, differ}

-- who tells of its end is not the main program
pub end_other : (note t : ℕ) → based_offer note t Ends ≡ telling note → (t == 0) ≡ false
end_other note t h = go (t == 0) refl h
  where
    go : (b : Bool) → (t == 0) ≡ b → (if b then Ends else telling note) ≡ telling note → (t == 0) ≡ false
    go true q k = absurd (end_tells note k)
    go false q k = q

-- a call at one of these numbers is with no acceptor
pub met_none : (met : ℕ) (acceptor : ℕ) (n : ℕ) → (n == 1) ≡ false → met ≡ n → (a : ℕ) → ((met == 1) && (acceptor == a)) ≡ false
met_none met acceptor n other is a = ap (λ m. (m == 1) && (acceptor == a)) is ∙ ap (λ f. f && (acceptor == a)) other

module _ {o : Original} (x : Setting o) (b : Book) (d : ℕ → Seat o.L) where
  -- a task beside one that is not in a rendezvous of its own is served by nobody but where it is behind its call
  pub own_served : (a t : ℕ) (k : Copy o.L) → OwnAt x b d t k → is_served_by a (d t).standing ≡ true →
      (m v : o.L) × (form : CallForm) × (e : ℕ) × (i : ℤ) × (k ≡ Owing t (Returned m) v) × (o.p.ops.offer v ≡ Calls form e i) × (d t ≡ record { local = v; standing = Served a false }) × CameFree o t v
  own_served a t k own h = go own
    where
      none : (seat : Seat o.L) → d t ≡ seat → is_served_by a seat.standing ≡ false → ⊥
      none seat at q = true≢false (sym h ∙ ap (λ (f : Seat o.L). is_served_by a f.standing) at ∙ q)

      go : OwnAt x b d t k →
          (m v : o.L) × (form : CallForm) × (e : ℕ) × (i : ℤ) × (k ≡ Owing t
          (Returned m) v) × (o.p.ops.offer v ≡ Calls form e i) × (d t ≡ record { local = v; standing = Served a false }) × CameFree o t v
      go (OwnBased l q at) = absurd (none (live l) at refl)
      go (OwnCalling l form e i q offer at met) = absurd (none (live l) at refl)
      go (OwnOwing l due q at due') = absurd (none (live l) at refl)
      go (OwnServed l m u form e i q offer at was) =
          let is : u ≡ a = eqb-true u a (ap (λ (f : Seat o.L). is_served_by a f.standing) (sym at) ∙ h) in
          (m, l, form, e, i, q, offer, at ∙ ap (λ v. record { local = l; standing = Served v false }) is, was)
      go (OwnReturned l m form e i q offer at met was) = absurd (none (live (o.p.ops.resumed m l)) at refl)
      go (OwnLost l due form e i q behind offer at met was) = absurd (none (live (o.p.ops.raised l)) at refl)
      go (OwnOver l u q in_u offer has once at was) = absurd (⊎_elim (λ f. none (live l) f refl) (λ f. none (live (o.p.ops.finished l)) f refl) at)
      go (OwnRefusing l u q at gone) = absurd (none (live l) at refl)
      go (OwnLeaving l q offer other at) = absurd (none (completed l) at refl)

  -- whom it is behind a rendezvous with
  pub own_over : (t u : ℕ) (m : o.L) (k : Copy o.L) → k ≡ Owing t (Over u) m → OwnAt x b d t k →
      (o.p.ops.offer m ≡ Finishes) × (o.p.ops.callers m ≡ u ∷ o.p.ops.callers (o.p.ops.finished m)) × (times u (o.p.ops.callers (o.p.ops.finished m)) ≡ 0) × CameFree o t m
  own_over t u m k is own = go own
    where
      none : (j : Copy o.L) → k ≡ j → is_over j ≡ false → ⊥
      none j q f = differ is_over (Owing t (Over u) m) j refl f (sym is ∙ q)

      go : OwnAt x b d t k →
          (o.p.ops.offer m ≡ Finishes) × (o.p.ops.callers m ≡ u ∷ o.p.ops.callers (o.p.ops.finished m)) × (times u (o.p.ops.callers (o.p.ops.finished m)) ≡ 0) × CameFree o t m
      go (OwnBased l q at) = absurd (none (Based t l) q refl)
      go (OwnCalling l form e i q offer at met) = absurd (none (Calling t l) q refl)
      go (OwnOwing l due q at due') = absurd (none' l due q due')
        where
          none' : (l : o.L) (due : Due o.L) → k ≡ Owing t due l → DueAt x b d t l due → ⊥
          none' l (Begun c' e i v) q h = none (Owing t (Begun c' e i v) l) q refl
          none' l TookElse q h = none (Owing t TookElse l) q refl
          none' l (TookDelay j) q h = none (Owing t (TookDelay j) l) q refl
          none' l TookOther q h = none (Owing t TookOther l) q refl
          none' l Failed q h = none (Owing t Failed l) q refl
          none' l (Returned m') q h = h
          none' l (Over c') q h = h
      go (OwnServed l h a form e i q offer at was) = absurd (none (Owing t (Returned h) l) q refl)
      go (OwnReturned l h form e i q offer at met was) = absurd (none (Owing t (Returned h) l) q refl)
      go (OwnLost l due form e i q behind offer at met was) = absurd (none' due q behind)
        where
          none' : (due : Due o.L) → k ≡ Owing t due l → IsBehindCall due → ⊥
          none' (Begun c' f j v) q h = h
          none' TookElse q h = h
          none' (TookDelay j) q h = h
          none' TookOther q h = h
          none' Failed q h = none (Owing t Failed l) q refl
          none' (Returned m') q h = none (Owing t (Returned m') l) q refl
          none' (Over c') q h = h
      go (OwnOver l u' q in_u offer has once at was) =
          let same : Owing t (Over u) m ≡ Owing t (Over u') l = sym is ∙ q in
          let e : u' ≡ u = sym (ap (λ j. over_caller (due_of j)) same) in
          let f : l ≡ m = sym (ap (state_of m) same) in (
            ap o.p.ops.offer (sym f) ∙ offer,
            ap o.p.ops.callers (sym f) ∙ has ∙ ap₂ (λ v j. v ∷ o.p.ops.callers (o.p.ops.finished j)) e f,
            ap₂ (λ v j. times v (o.p.ops.callers (o.p.ops.finished j))) (sym e) (sym f) ∙ once,
            subst (CameFree o t) f was,
          )
      go (OwnRefusing l u' q at gone) = absurd (none (Refusing t u' l) q refl)
      go (OwnLeaving l q offer other at) = absurd (none (Leaving t l) q refl)
