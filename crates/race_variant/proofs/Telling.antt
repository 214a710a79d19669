-- Asking the tasks one after the other whether they have come to rest.
use Rattle.std.proofs.Common.{◌≡◌, ◌↔◌, ℕ, zero, suc, ◌+◌, ◌<◌, ◌≤◌, Bool, true, false, if◌then◌else◌, List, [], ◌∷◌, ◌++◌, length, get_or, take, refl, sym, ap, ◌∙◌, subst, arith, true≢false, ⊎_elim, ◌⊎◌, inl, inr, Option, Some, None, length-append}
use Rattle.std.specs.Prelude.{slice_get, slice_index_or}
use Rattle.std.specs.List.{Contains}
use Rattle.std.proofs.lemmas.Bool.{cases_lt}
use Rattle.std.proofs.lemmas.List.Elements.{Contains-push, Contains-push_cases, Contains-append_left}
use Rattle.std.proofs.lemmas.List.Quantifiers.{all_pairs_push}
use Rattle.std.proofs.lemmas.Option.{slice_get_within, slice_get_cases}
use Rattle.event_machine.specs.declared.Event.{Event}
use Rattle.event_machine.proofs.Basics.{some_path}
use Rattle.syn_event.specs.Numbering.{Numbering}
use Rattle.task_model.specs.Machine.{ProgramWithInputs, Tasks}
use Rattle.task_machine.specs.Views.{IsOpenAt}
use Rattle.feasible.specs.Keeping.{IsSettled}
use Rattle.feasible.specs.Kept.{Kept}
use Rattle.race_variant.specs.inner.Passing.{AreAnswers, AreTold}
use Rattle.race_variant.proofs.Gathering.{contains_at}
use Rattle.common_lemmas.proofs.Lists.{last_at as get_new}

-- ---- lists with one more

pub get_old : {A : Type 0} (xs : List A) (x : A) (t : ℕ) → t < length xs → slice_get (xs ++ x ∷ []) t ≡ slice_get xs t
get_old [] x t less = absurd (omega arith)
get_old (y ∷ xs) x zero less = refl
get_old (y ∷ xs) x (suc t) less = get_old xs x t (omega arith)

longer : {A : Type 0} (xs : List A) (x : A) → length (xs ++ x ∷ []) ≡ length xs + 1
longer xs x = length-append xs (x ∷ [])

-- a place of the longer list is one of the shorter, or the last
place_cases : {A : Type 0} (xs : List A) (x : A) (t : ℕ) → t < length (xs ++ x ∷ []) → (t < length xs) ⊎ (t ≡ length xs)
place_cases xs x t less =
    let k : length (xs ++ x ∷ []) ≡ length xs + 1 = longer xs x in
    ⊎_elim (λ (q : t < length xs). inl q) (λ (q : length xs ≤ t). inr (omega arith)) (cases_lt t (length xs))

-- what stands at a place
pub get_none : {A : Type 0} (xs : List A) (t : ℕ) → slice_get xs t ≡ None → length xs ≤ t
get_none {A} xs t h = ⊎_elim
    (λ (k : (x : A) × (t < length xs) × (slice_get xs t ≡ Some x) × (get_or xs t x ≡ x)). let no : ◌≡◌ {A = Option A} None (Some k.0) = sym h ∙ k.2 in cc)
    (λ (k : (length xs ≤ t) × (slice_get xs t ≡ None)). k.0)
    (slice_get_cases xs t).1

pub get_not : {A : Type 0} (xs : List A) (t : ℕ) → t < length xs → slice_get xs t ≡ None → ⊥
get_not xs t less h = let k : length xs ≤ t = get_none xs t h in omega arith

-- ---- answers

-- one more answer
pub answers_more : (tasks : Tasks) (settled : List Bool) (rests : Bool) → AreAnswers tasks settled → (rests ≡ true → IsSettled tasks (length settled)) → AreAnswers tasks (settled ++ rests ∷ [])
answers_more tasks settled rests h here t is = ⊎_elim
    (λ (k : t < length settled). h t (sym (get_old settled rests t k) ∙ is))
    (λ (k : t ≡ length settled). subst (IsSettled tasks) (sym k)
    (here (some_path (sym (get_new settled rests) ∙ ap (slice_get (settled ++ rests ∷ [])) (sym k) ∙ is))))
    (place_cases settled rests t (slice_get_within (settled ++ rests ∷ []) t true is))

-- the answers stay as further tasks run on
pub answers_stay : (tasks others : Tasks) (settled : List Bool) → ((t : ℕ) → IsSettled tasks t → IsSettled others t) → AreAnswers tasks settled → AreAnswers others settled
answers_stay tasks others settled stay h t is = stay t (h t is)

module _ (setup : ProgramWithInputs) (numbers : Numbering) (bound : ℕ) (events : List Event) where
  pub told_none : AreTold setup numbers bound events [] []
  told_none = record {
    answers = λ t less. absurd (omega arith);
    members = λ t. (
      λ (k : Contains [] t). let less : k.0 < 0 = k.1 in absurd (omega arith),
      λ h. absurd (let no : ◌≡◌ {A = Option Bool} None (Some false) = h in cc),
    );
    rising = λ i j d less below. let l : j < 0 = below in absurd (omega arith);
  }

  module _ (settled : List Bool) (unsettled : List ℕ) (h : AreTold setup numbers bound events settled unsettled) where
    answers_with : (rests : Bool) → (rests ≡ false) ↔ IsOpenAt setup numbers events (length settled) bound →
        (t : ℕ) → t < length (settled ++ rests ∷ []) → (slice_get (settled ++ rests ∷ []) t ≡ Some false) ↔ IsOpenAt setup numbers events t bound
    answers_with rests exact t less = ⊎_elim
        (λ (k : t < length settled). (
          λ is. (h.answers t k).0 (sym (get_old settled rests t k) ∙ is),
          λ opened. get_old settled rests t k ∙ (h.answers t k).1 opened,
        ))
        (λ (k : t ≡ length settled). (
          λ is. subst (λ u. IsOpenAt setup numbers events u bound) (sym k) (exact.0 (some_path (sym (get_new settled rests) ∙ ap (slice_get (settled ++ rests ∷ [])) (sym k) ∙ is))),
          λ opened. ap (slice_get (settled ++ rests ∷ [])) k ∙ get_new settled rests ∙ ap (λ b. Some b) (exact.1 (subst (λ u. IsOpenAt setup numbers events u bound) k opened)),
        ))
        (place_cases settled rests t less)

    -- one that has come to rest
    pub told_rests : (true ≡ false) ↔ IsOpenAt setup numbers events (length settled) bound → AreTold setup numbers bound events (settled ++ true ∷ []) unsettled
    told_rests exact = record {
      answers = answers_with true exact;
      members = λ t. (
        λ k. let is = (h.members t).0 k in get_old settled true t (slice_get_within settled t false is) ∙ is,
        λ is. ⊎_elim
            (λ (k : t < length settled). (h.members t).1 (sym (get_old settled true t k) ∙ is))
            (λ (k : t ≡ length settled). absurd (true≢false (some_path (sym (get_new settled true) ∙ ap (slice_get (settled ++ true ∷ [])) (sym k) ∙ is))))
            (place_cases settled true t (slice_get_within (settled ++ true ∷ []) t false is)),
      );
      rising = h.rising;
    }

    -- one that is open
    pub told_open : (t : ℕ) → t ≡ length settled → (false ≡ false) ↔ IsOpenAt setup numbers events (length settled) bound → AreTold setup numbers bound events (settled ++ false ∷ []) (unsettled ++ t ∷ [])
    told_open t here exact = record {
      answers = answers_with false exact;
      members = λ u. (
        λ k. ⊎_elim
            (λ (c : Contains unsettled u). let is = (h.members u).0 c in get_old settled false u (slice_get_within settled u false is) ∙ is)
            (λ (q : t ≡ u). ap (slice_get (settled ++ false ∷ [])) (sym q ∙ here) ∙ get_new settled false)
            (Contains-push_cases unsettled t u k),
        λ is. ⊎_elim
            (λ (k : u < length settled). Contains-append_left unsettled (t ∷ []) u ((h.members u).1 (sym (get_old settled false u k) ∙ is)))
            (λ (k : u ≡ length settled). subst (Contains (unsettled ++ t ∷ [])) (here ∙ sym k) (Contains-push unsettled t))
            (place_cases settled false u (slice_get_within (settled ++ false ∷ []) u false is)),
      );
      rising = all_pairs_push (λ x y. x < y) unsettled t h.rising
          (λ k d less. let u : slice_index_or unsettled k d < length settled = slice_get_within settled (slice_index_or unsettled k d) false ((h.members (slice_index_or unsettled k d)).0 (contains_at unsettled k d less)) in omega arith);
    }

    -- one more task was asked
    pub told_more : (rests : Bool) (t : ℕ) (settled' : List Bool) (unsettled' : List ℕ) → t ≡ length settled → settled' ≡ (settled ++ rests ∷ []) → unsettled' ≡ (if rests then unsettled else unsettled ++ t ∷ []) →
        (rests ≡ false) ↔ IsOpenAt setup numbers events t bound → AreTold setup numbers bound events settled' unsettled'
    told_more true t settled' unsettled' here is is' exact =
        subst (λ us. AreTold setup numbers bound events settled' us) (sym is')
        (subst (λ ss. AreTold setup numbers bound events ss unsettled) (sym is) (told_rests (subst (λ u. (true ≡ false) ↔ IsOpenAt setup numbers events u bound) here exact)))
    told_more false t settled' unsettled' here is is' exact =
        subst (λ us. AreTold setup numbers bound events settled' us) (sym is')
        (subst (λ ss. AreTold setup numbers bound events ss (unsettled ++ t ∷ [])) (sym is) (told_open t here (subst (λ u. (false ≡ false) ↔ IsOpenAt setup numbers events u bound) here exact)))

-- what the judge tells, in the numbers that it had before
pub exact_before : (setup : ProgramWithInputs) (j i : Kept) (events : List Event) (t : ℕ) (rests : Bool) → j.numbers ≡ i.numbers → j.bound ≡ i.bound → j.taken ≡ i.taken →
    (rests ≡ false) ↔ IsOpenAt setup j.numbers (take j.taken events) t j.bound → (rests ≡ false) ↔ IsOpenAt setup i.numbers (take i.taken events) t i.bound
exact_before setup j i events t rests same_numbers same_bound same_taken h =
    subst (λ n. (rests ≡ false) ↔ IsOpenAt setup n (take i.taken events) t i.bound) same_numbers
    (subst (λ b. (rests ≡ false) ↔ IsOpenAt setup j.numbers (take i.taken events) t b) same_bound
    (subst (λ k. (rests ≡ false) ↔ IsOpenAt setup j.numbers (take k events) t j.bound) same_taken h))
