-- Whom the recorder serves tells it.
use Rattle.std.proofs.Common.{◌≡◌, ℕ, ◌<◌, false, List, sym, ap, ◌∙◌, true≢false, arith}
use Rattle.std.proofs.lemmas.Bool.{eqb-true}
use Rattle.event_machine.specs.declared.Standing.TheVariants.{Served}
use Rattle.event_machine.specs.declared.Event.{Event}
use Rattle.event_machine.specs.States.{Seat, is_live, is_closed, is_served_by}
use Rattle.event_machine.specs.Soundness.{IsSound}
use Rattle.event_machine.specs.Worlds.{World}
use Rattle.run_laws.specs.imitation.Imitations.{Original}
use Rattle.run_laws.specs.collecting.inner.Beside.{CameFree}
use Rattle.run_laws.specs.aborts.Copies.{Copy, Calling, under}
use Rattle.run_laws.specs.aborts.Settings.{Setting, recorder, twin, IsProperCopy}
use Rattle.run_laws.specs.aborts.inner.Beside.{book_of, heard, Hears, OwnAt, SeatAt, Free, Telling, Shared, Apart, Gone, Inv}
use Rattle.run_laws.proofs.aborts.Partings.{shared_below, apart_below}
use Rattle.common_lemmas.proofs.Numbers.{equal_self}

module _ {o : Original} (x : Setting o) (past : List Event) (r : Copy o.L) (d : World o.L) (w : World (Copy o.L)) (inv : Inv x past r d w) (runs : w.ended ≡ false)
    (sound : IsSound (twin x).ops (IsProperCopy o) w.tasks) where
  -- Who tells the recorder, which serves it.
  pub record TellingAt (c : ℕ) : Type 0 where
    pub k : Copy o.L
    pub at : w.tasks c ≡ record { local = k; standing = Served (recorder x) false }
    pub hears : Hears x r c k
    pub own : OwnAt x (book_of r) d.tasks c (heard x r k)
    pub was : CameFree o c (under o.p.ops.nobody k)

  pub telling_at : (c : ℕ) → c < o.p.size → (w.tasks c).standing ≡ Served (recorder x) false → TellingAt c
  telling_at c below h = go (inv.seats c below)
    where
      by_recorder : (a : ℕ) (v : o.L) → w.tasks c ≡ record { local = Calling c v; standing = Served a false } → a ≡ recorder x
      by_recorder a v at =
          eqb-true a (recorder x) (ap (λ (f : Seat (Copy o.L)). is_served_by (recorder x) f.standing) (sym at) ∙ ap (is_served_by (recorder x)) h ∙ equal_self (recorder x))

      go : SeatAt x (book_of r) w.tasks d.tasks r c → TellingAt c
      go (Free k at own) = absurd (true≢false (ap is_live (sym (ap (λ (f : Seat (Copy o.L)). f.standing) at) ∙ h)))
      go (Telling k at hears own was) = record { k = k; at = at; hears = hears; own = own; was = was }
      go (Shared a v form e i at offer here was) =
          let l : a < o.p.size = shared_below x past r d w inv runs sound a c v here in let q : a ≡ recorder x = by_recorder a v at in absurd (omega (arith, l, q))
      go (Apart a v form e i at offer owns here met) =
          let l : a < o.p.size = apart_below x past r d w inv runs sound a c v form e i offer owns here in
          let q : a ≡ recorder x = by_recorder a v at in absurd (omega (arith, l, q))
      go (Gone closed closed' outs) = absurd (true≢false (sym closed ∙ ap is_closed h))
