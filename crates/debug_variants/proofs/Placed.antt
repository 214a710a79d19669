-- One place: that its text was put whole, or was cut.
use Rattle.std.proofs.Common.{◌≡◌, ℕ, List, Option, Ok, Err, ap, ◌∙◌, subst}
use Rattle.ded_io.specs.Counts.{Rose}
use Rattle.ded_io.specs.Written.{appended, Began, Wrote}
use Rattle.event_machine.specs.declared.Event.{Event}
use Rattle.syn_event.specs.Numbering.{Numbering}
use Rattle.task_model.specs.Machine.{ProgramWithInputs}
use Rattle.race_variant.specs.Variants.{AreVariants}
use Rattle.debug_outcome.specs.Outputs.{IsWritten, IsBrokenOff}
use Rattle.debug_variants.specs.VariantsOutcomes.{Place, place_text}
use Rattle.debug_variants.specs.inner.Placing.{HasPlace}

-- what a write that went well has written, and one that failed
pub done : (A E : Type 0) (x : A) (old new : Option (List ℕ)) (a : List ℕ) → Wrote {E = E} (Ok x) old new a → new ≡ appended old a
unfolding Wrote
done A E x old new a h = h

pub begun : (A E : Type 0) (e : E) (old new : Option (List ℕ)) (a : List ℕ) → Wrote {A = A} (Err e) old new a → Began old new a
unfolding Wrote
begun A E e old new a h = h

module _ (setup : ProgramWithInputs) (numbers : Numbering) (bound : ℕ) (events : List Event) (skip : Option Event) (number : ℕ) (found fs : List Event) (unsettled us : List ℕ) (told told' : Option (List ℕ)) (faults faults' : ℕ)
    (variants : AreVariants setup numbers bound events skip found unsettled) (same_found : fs ≡ found) (same_unsettled : us ≡ unsettled) where
  abbrev told_place : Place
  told_place = record { found = found; unsettled = unsettled }

  is_text : place_text number (record { found = fs; unsettled = us }) ≡ place_text number told_place
  is_text = ap (λ es. place_text number (record { found = es; unsettled = us })) same_found ∙ ap (λ ts. place_text number (record { found = found; unsettled = ts })) same_unsettled

  pub place_put : (A E : Type 0) (x : A) → Wrote {E = E} (Ok x) told told' (place_text number (record { found = fs; unsettled = us })) → faults' ≡ faults →
      HasPlace setup numbers bound events skip number (IsWritten told told' faults faults')
  unfolding Wrote
  place_put A E x wrote still = record { place = told_place; variants = variants; came = (wrote ∙ ap (appended told) is_text, still) }

  pub place_cut : (A E : Type 0) (e : E) → Wrote {A = A} (Err e) told told' (place_text number (record { found = fs; unsettled = us })) → Rose faults faults' →
      HasPlace setup numbers bound events skip number (IsBrokenOff told told' faults faults')
  unfolding Wrote
  place_cut A E e wrote rose = record { place = told_place; variants = variants; came = (subst (Began told told') is_text wrote, rose) }
