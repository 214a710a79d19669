-- How many events lists have, list by list.
use Rattle.std.proofs.Common.{◌≡◌, ℕ, ◌+◌, ◌<◌, ◌≤◌, List, length, map, take, get_or, sym, ap, ◌∙◌, subst}
use Rattle.std.proofs.Math.ListN.{get_or-map}
use Rattle.std.proofs.lemmas.List.{length-map}
use Rattle.std.proofs.lemmas.List.Sums.{sum_by_more, sum_by_more_le}
use Rattle.event_machine.specs.declared.Event.{Event}
use Rattle.seq_file.specs.Lists.{listed}

module _ {X : Type 0} (xs : List X) (f : X → List Event) (i : ℕ) (x : X) (within : i < length xs) (is : x ≡ get_or xs i x) where
  inside : i < length (map f xs)
  inside = subst (λ (n : ℕ). i < n) (sym (length-map xs f)) within

  there : get_or (map f xs) i (f x) ≡ f x
  there = get_or-map f xs i x ∙ sym (ap f is)

  -- with the list at the next place
  pub listed_more : listed (take (i + 1) (map f xs)) ≡ listed (take i (map f xs)) + length (f x)
  listed_more = sum_by_more length (map f xs) i (f x) inside ∙ ap (λ (ys : List Event). listed (take i (map f xs)) + length ys) there

  -- all lists have no fewer
  pub listed_within : listed (take i (map f xs)) + length (f x) ≤ listed (map f xs)
  listed_within = subst (λ (ys : List Event). listed (take i (map f xs)) + length ys ≤ listed (map f xs)) there (sum_by_more_le length (map f xs) i (f x) inside)
