-- Lists of chosen events, as one more is chosen: they are unique, and each can come next in its turn.
use Rattle.std.proofs.Common.{◌≡◌, ⊎_elim, ℕ, zero, suc, ◌+◌, ◌%◌, List, [], ◌∷◌, ◌++◌, length, refl, sym, ap, ◌∙◌, subst, arith, Option, Some, None, length-append}
use Rattle.std.specs.Fn.{iterate}
use Rattle.std.specs.Prelude.{slice_get}
use Rattle.std.specs.List.{Contains}
use Rattle.std.proofs.lemmas.Option.{slice_get_within, get_or_from_slice_get}
use Rattle.event_machine.specs.declared.Event.{Event}
use Rattle.syn_event.specs.Numbering.{Numbering}
use Rattle.task_model.specs.Machine.{ProgramWithInputs}
use Rattle.task_machine.proofs.OneVerdict.{two_splits}
use Rattle.common_lemmas.proofs.Lists.{never_empty}
use Rattle.race_variant.specs.Variants.{CanFollow}
use Rattle.race_variant.specs.Continuing.{IsPicked, AreChosen}
use Rattle.race_variant.proofs.Ascents.{one_found}

-- nothing stands behind the last
pub past_last : {A : Type 0} (xs mid rest : List A) (x y : A) → (xs ++ x ∷ []) ≡ ((xs ++ x ∷ mid) ++ y ∷ rest) → ⊥
past_last xs mid rest x y h =
    let a : length (xs ++ x ∷ []) ≡ length xs + length (x ∷ []) = length-append xs (x ∷ []) in
    let b : length ((xs ++ x ∷ mid) ++ y ∷ rest) ≡ length (xs ++ x ∷ mid) + length (y ∷ rest) = length-append (xs ++ x ∷ mid) (y ∷ rest) in
    let d : length (xs ++ x ∷ mid) ≡ length xs + length (x ∷ mid) = length-append xs (x ∷ mid) in
    let same : length (xs ++ x ∷ []) ≡ length ((xs ++ x ∷ mid) ++ y ∷ rest) = ap length h in
    omega arith

-- an element that stands at a place is in the list
pub in_at : {A : Type 0} (xs : List A) (k : ℕ) (x : A) → slice_get xs k ≡ Some x → Contains xs x
in_at xs k x h = (k, slice_get_within xs k x h, get_or_from_slice_get xs k x x h)

-- one turn more
pub turn_more : {C : Type 0} (next : C → C) (n : ℕ) (c : C) → iterate next (suc n) c ≡ next (iterate next n c)
turn_more next zero c = refl
turn_more next (suc n) c = turn_more next n (next c)

pub turn_last : {C : Type 0} (next : C → C) (chosen : List Event) (e : Event) (c : C) → iterate next (length (chosen ++ e ∷ [])) c ≡ next (iterate next (length chosen) c)
turn_last next chosen e c =
    let l : length (chosen ++ e ∷ []) ≡ length chosen + 1 = length-append chosen (e ∷ []) in
    let s : length (chosen ++ e ∷ []) ≡ suc (length chosen) = omega arith in
    ap (λ n. iterate next n c) s ∙ turn_more next (length chosen) c

module _ (setup : ProgramWithInputs) (numbers : Numbering) (bound : ℕ) where
  -- A picked event can come next.
  pub picked_follows : (events : List Event) (word : ℕ) (e : Event) → IsPicked setup numbers bound events word e → CanFollow setup numbers bound events e
  picked_follows events word e p = ((p.variants.members e).0 (in_at p.found (word % length p.found) e p.place)).0

  -- One event at most is picked.
  pub one_picked : (events : List Event) (word : ℕ) (e f : Event) → IsPicked setup numbers bound events word e → IsPicked setup numbers bound events word f → e ≡ f
  one_picked events word e f p q =
      let same : p.found ≡ q.found = one_found setup numbers bound events None p.found q.found p.unsettled q.unsettled p.variants q.variants in
      let both : ◌≡◌ {A = Option Event} (Some e) (Some f) = sym p.place ∙ ap (λ es. slice_get es (word % length es)) same ∙ q.place in
      cc

  module _ {C : Type 0} (word : C → ℕ) (next : C → C) (events : List Event) (chooser : C) where
    abbrev Chosen : List Event → Type 0
    Chosen chosen = AreChosen word next setup numbers bound events chooser chosen

    pub none_chosen : Chosen []
    none_chosen before rest e h = absurd (never_empty before e rest (sym h))

    pub one_chosen : (chosen : List Event) (e : Event) → Chosen chosen → IsPicked setup numbers bound (events ++ chosen) (word (iterate next (length chosen) chooser)) e → Chosen (chosen ++ e ∷ [])
    one_chosen chosen e h p before rest x split = ⊎_elim
        (λ (k : (chosen ≡ before) × (e ≡ x)).
        subst (λ (es : List Event). IsPicked setup numbers bound (events ++ es) (word (iterate next (length es) chooser)) x) k.0
        (subst (IsPicked setup numbers bound (events ++ chosen) (word (iterate next (length chosen) chooser))) k.1 p))
        (⊎_elim
        (λ (k : (mid : List Event) × (before ≡ (chosen ++ e ∷ mid))). absurd (past_last chosen k.0 rest e x (split ∙ ap (λ es. es ++ x ∷ rest) k.1)))
        (λ (k : (mid : List Event) × (chosen ≡ (before ++ x ∷ mid))). h before k.0 x k.1))
        (two_splits chosen before [] rest e x split)
