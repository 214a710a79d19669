-- Two lists that ascend strictly and have the same elements are the same; so the variants of events are unique.
use Rattle.std.proofs.Common.{◌≡◌, ◌⊎◌, inl, inr, ⊎_elim, ℕ, zero, suc, ◌<◌, List, [], ◌∷◌, length, refl, sym, ap, ◌∙◌, subst, arith, Option}
use Rattle.std.specs.Cmp.{IsTotalOrder}
use Rattle.std.specs.List.{AllPairs, Contains}
use Rattle.std.specs.declared.cmp.Ordering.{Ordering}
use Rattle.std.specs.declared.cmp.Ordering.TheVariants.{Less, Greater}
use Rattle.std.specs.Ordering.{ordering_reverse}
use Rattle.std.proofs.lemmas.Cmp.{nat_cmp_total, int_cmp_total, on_total, then_total, lists_total}
use Rattle.event_machine.specs.declared.Event.{Event}
use Rattle.syn_event.specs.Numbering.{Numbering}
use Rattle.task_model.specs.Machine.{ProgramWithInputs}
use Rattle.race_variant.specs.Variants.{letter_of, numbers_in, event_cmp, AreVariants}

pub none_in : {A : Type 0} (x : A) → Contains [] x → ⊥
none_in x k = let less : k.0 < 0 = k.1 in omega arith

first_in : {A : Type 0} (x : A) (xs : List A) → Contains (x ∷ xs) x
first_in x xs = (0, omega arith, refl)

later_in : {A : Type 0} (x : A) (xs : List A) (y : A) → Contains xs y → Contains (x ∷ xs) y
later_in x xs y (k, less, is) = (suc k, (let l : k < length xs = less in omega arith), is)

in_cases : {A : Type 0} (x : A) (xs : List A) (y : A) → Contains (x ∷ xs) y → (x ≡ y) ⊎ Contains xs y
in_cases x xs y (zero, less, is) = inl is
in_cases x xs y (suc k, less, is) = inr (k, (let l : suc k < length (x ∷ xs) = less in omega arith), is)

module _ {A : Type 0} (Below : A → A → Type 0) (one_way : (x y : A) → Below x y → Below y x → ⊥) where
  -- the first stands before all others
  first_below : (x : A) (xs : List A) → AllPairs Below (x ∷ xs) → (y : A) → Contains xs y → Below x y
  first_below x xs h y (k, less, is) = subst (Below x) is (h 0 (suc k) y (omega arith) (let l : k < length xs = less in omega arith))

  others_ascend : (x : A) (xs : List A) → AllPairs Below (x ∷ xs) → AllPairs Below xs
  others_ascend x xs h i j d less within = h (suc i) (suc j) d (let l : i < j = less in omega arith) (let l : j < length xs = within in omega arith)

  same_first : (x : A) (xs : List A) (y : A) (ys : List A) → AllPairs Below (x ∷ xs) → AllPairs Below (y ∷ ys) → Contains (y ∷ ys) x → Contains (x ∷ xs) y → x ≡ y
  same_first x xs y ys hx hy there back = ⊎_elim
      (λ (same : y ≡ x). sym same)
      (λ (later : Contains ys x). ⊎_elim
      (λ (same : x ≡ y). same)
      (λ (behind : Contains xs y). absurd (one_way x y (first_below x xs hx y behind) (first_below y ys hy x later)))
      (in_cases x xs y back))
      (in_cases y ys x there)

  -- an element behind the first of one list stands behind that of the other
  stays_behind : (x : A) (xs : List A) (y : A) (ys : List A) → AllPairs Below (x ∷ xs) → x ≡ y → (z : A) → Contains xs z → Contains (y ∷ ys) z → Contains ys z
  stays_behind x xs y ys hx same z behind there = ⊎_elim
      (λ (is : y ≡ z). let less : Below x x = subst (Below x) (sym (same ∙ is)) (first_below x xs hx z behind) in absurd (one_way x x less less))
      (λ (k : Contains ys z). k)
      (in_cases y ys z there)

  pub same_elements : (xs ys : List A) → AllPairs Below xs → AllPairs Below ys → ((z : A) → Contains xs z → Contains ys z) → ((z : A) → Contains ys z → Contains xs z) → xs ≡ ys
  same_elements [] [] hx hy there back = refl
  same_elements [] (y ∷ ys) hx hy there back = absurd (none_in y (back y (first_in y ys)))
  same_elements (x ∷ xs) [] hx hy there back = absurd (none_in x (there x (first_in x xs)))
  same_elements (x ∷ xs) (y ∷ ys) hx hy there back =
      let first = same_first x xs y ys hx hy (there x (first_in x xs)) (back y (first_in y ys)) in
      let others = same_elements xs ys (others_ascend x xs hx) (others_ascend y ys hy)
      (λ z k. stays_behind x xs y ys hx first z k (there z (later_in x xs z k)))
      (λ z k. stays_behind y ys x xs hy (sym first) z k (back z (later_in y ys z k))) in
      λ i. first i ∷ others i

-- ---- variants

events_ordered : IsTotalOrder event_cmp
events_ordered = then_total (on_total letter_of nat_cmp_total) (on_total numbers_in (lists_total int_cmp_total))

-- no two events stand each before the other
pub one_before : (e f : Event) → event_cmp e f ≡ Less → event_cmp f e ≡ Less → ⊥
one_before e f h k =
    let both : ◌≡◌ {A = Ordering} Less Greater = sym h ∙ events_ordered.antisymm e f ∙ ap ordering_reverse k in cc

one_below : (t u : ℕ) → t < u → u < t → ⊥
one_below t u h k = omega arith

module _ (setup : ProgramWithInputs) (numbers : Numbering) (bound : ℕ) (events : List Event) (skip : Option Event) (found others : List Event) (unsettled open' : List ℕ)
    (a : AreVariants setup numbers bound events skip found unsettled) (b : AreVariants setup numbers bound events skip others open') where
  pub one_found : found ≡ others
  one_found = same_elements (λ e f. event_cmp e f ≡ Less) one_before found others a.ascending b.ascending (λ e k. (b.members e).1 ((a.members e).0 k)) (λ e k. (a.members e).1 ((b.members e).0 k))

  pub one_unsettled : unsettled ≡ open'
  one_unsettled = same_elements (λ t u. t < u) one_below unsettled open' a.rising b.rising (λ t k. (b.open_tasks t).1 ((a.open_tasks t).0 k)) (λ t k. (a.open_tasks t).1 ((b.open_tasks t).0 k))
