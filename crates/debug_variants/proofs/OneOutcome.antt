-- Feasible events have one text of their places.
use Rattle.std.proofs.Common.{◌≡◌, ℕ, suc, List, [], ◌∷◌, length, take, refl, sym, ap, ◌∙◌, arith, Option, Some}
use Rattle.std.specs.Prelude.{slice_get}
use Rattle.event_machine.specs.declared.Event.{Event}
use Rattle.syn_event.specs.Numbering.{Numbering}
use Rattle.task_model.specs.Machine.{ProgramWithInputs}
use Rattle.race_variant.proofs.Ascents.{one_found, one_unsettled}
use Rattle.debug_outcome.specs.Outcomes.{Outcome, writes}
use Rattle.debug_variants.specs.VariantsOutcomes.{Place, IsPlaceBehind, ArePlaces, IsVariantsText, variants_text}

-- lists of one length with the same elements in their places are the same
same_by_place : {A : Type 0} (xs ys : List A) → length xs ≡ length ys → ((k : ℕ) (x y : A) → slice_get xs k ≡ Some x → slice_get ys k ≡ Some y → x ≡ y) → xs ≡ ys
same_by_place [] [] count h = refl
same_by_place [] (y ∷ ys) count h = absurd (omega (arith, count))
same_by_place (x ∷ xs) [] count h = absurd (omega (arith, count))
same_by_place (x ∷ xs) (y ∷ ys) count h = λ i. h 0 x y refl refl i ∷ same_by_place xs ys (omega (arith, count)) (λ k a b there also. h (suc k) a b there also) i

module _ (setup : ProgramWithInputs) (numbers : Numbering) (bound : ℕ) (events : List Event) where
  one_place : (k : ℕ) (p q : Place) → IsPlaceBehind setup numbers bound events k p → IsPlaceBehind setup numbers bound events k q → p ≡ q
  one_place k p q h g =
      let skip : Option Event = slice_get events k in
      let found : p.found ≡ q.found = one_found setup numbers bound (take k events) skip p.found q.found p.unsettled q.unsettled h g in
      let unsettled : p.unsettled ≡ q.unsettled = one_unsettled setup numbers bound (take k events) skip p.found q.found p.unsettled q.unsettled h g in
      λ i. record { found = found i; unsettled = unsettled i }

  pub one_places : (ps qs : List Place) → ArePlaces setup numbers bound events ps → ArePlaces setup numbers bound events qs → ps ≡ qs
  one_places ps qs h g = same_by_place ps qs (h.count ∙ sym g.count) (λ k p q there also. one_place k p q (h.each k p there) (g.each k q also))

  pub one_variants_text : (o q : Outcome) → IsVariantsText setup numbers bound events o → IsVariantsText setup numbers bound events q → o ≡ q
  one_variants_text o q h g = h.is ∙ ap (λ ps. writes (variants_text events ps) 0) (one_places h.places g.places h.are g.are) ∙ sym g.is
