-- What entries stand for is the same by two lists of names in which theirs have the same texts.
use Rattle.std.proofs.Common.{◌≡◌, ℕ, ◌+◌, ◌<◌, Bool, not, ◌&&◌, ◌==◌, cond, nat_lt, nat_eq, List, [], ◌∷◌, ◌++◌, length, map, position, option_map, codes, Some, None, refl, ap, ap₂}
use Rattle.std.specs.List.{AllByRecursion, prefix_len}
use Rattle.std.specs.Cmp.Lexicographic.{pointwise}
use Rattle.syn_event.specs.declared.numbering.EntryInfo.{EntryInfo}
use Rattle.syn_event.specs.AddedNames.{speaks_of, original_number, with_origin, with_origins}
use Rattle.normal_model.proofs.VariablesLemmas.{Begins}
use Rattle.normal_laws.proofs.structure.numbers.Named.{text-longer}

-- the first that passes one test is the first that passes another, where the two are the same for each
prefix-alike : {A : Type 0} (f g : A → Bool) (xs : List A) → AllByRecursion (λ x. f x ≡ g x) xs → prefix_len (λ x. not (f x)) xs ≡ prefix_len (λ x. not (g x)) xs
prefix-alike f g [] h = refl
prefix-alike f g (x ∷ xs) h = ap₂ (λ (b : Bool) n. cond (not b) (1 + n) 0) h.0 (prefix-alike f g xs h.1)

pub place-alike : {A : Type 0} (f g : A → Bool) (xs : List A) → AllByRecursion (λ x. f x ≡ g x) xs → position f xs ≡ position g xs
place-alike f g xs h = ap (λ n. cond (nat_lt n (length xs)) (Some n) None) (prefix-alike f g xs h)

module _ (before names : List (List ℕ)) (begins : Begins before names) where
  -- the name of an entry is one of those in front
  abbrev pub IsWithin : EntryInfo → Type 0
  IsWithin x = x.name.0 < length before

  speaks-alike : (x : EntryInfo) → IsWithin x → (ys : List EntryInfo) → AllByRecursion IsWithin ys → AllByRecursion (λ y. speaks_of names x y ≡ speaks_of before x y) ys
  speaks-alike x h [] k = tt
  speaks-alike x h (y ∷ ys) k = (
    ap₂ (λ (a b : List ℕ). (y.owner == x.owner) && not y.added && pointwise nat_eq a (codes "DED_S_" ++ b)) (text-longer before names x.name begins h) (text-longer before names y.name begins k.0),
    speaks-alike x h ys k.1,
  )

  origin-alike : (all : List EntryInfo) → AllByRecursion IsWithin all → (x : EntryInfo) → IsWithin x → with_origin names all x ≡ with_origin before all x
  origin-alike all k x h = λ i. record {
    name = x.name;
    owner = x.owner;
    family = x.family;
    first = x.first;
    last = x.last;
    added = x.added;
    stands_for = option_map (original_number all) (place-alike (speaks_of names x) (speaks_of before x) all (speaks-alike x h all k) i);
  }

  each-alike : (all : List EntryInfo) → AllByRecursion IsWithin all → (xs : List EntryInfo) → AllByRecursion IsWithin xs → map (with_origin names all) xs ≡ map (with_origin before all) xs
  each-alike all k [] h = refl
  each-alike all k (x ∷ xs) h = λ i. origin-alike all k x h.0 i ∷ each-alike all k xs h.1 i

  -- entries stand for the same where names come behind
  pub origins-longer : (xs : List EntryInfo) → AllByRecursion IsWithin xs → with_origins names xs ≡ with_origins before xs
  origins-longer xs h = each-alike xs h xs h
