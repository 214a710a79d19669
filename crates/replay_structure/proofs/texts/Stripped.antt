-- What entries stand for is found by all else that is known of them.
use Rattle.std.proofs.Common.{◌≡◌, ℕ, ◌+◌, Bool, not, cond, nat_lt, List, [], ◌∷◌, map, take, position, option_map, Some, None, refl, sym, ap, ap₂, ◌∙◌}
use Rattle.std.specs.List.{count_by, prefix_len}
use Rattle.std.proofs.lemmas.List.{take-map, length-map}
use Rattle.std.proofs.lemmas.List.Folds.{fold-map}
use Rattle.syn_event.specs.declared.numbering.EntryInfo.{EntryInfo}
use Rattle.syn_event.specs.Numbering.{is_original_entry}
use Rattle.syn_event.specs.AddedNames.{speaks_of, original_number, with_origin, with_origins}

-- an entry, before it is known what it stands for
abbrev pub strip : EntryInfo → EntryInfo
strip x = record { name = x.name; owner = x.owner; family = x.family; first = x.first; last = x.last; added = x.added; stands_for = None }

pub prefix-mapped : {A B : Type 0} (f : B → Bool) (h : A → B) (xs : List A) → prefix_len f (map h xs) ≡ prefix_len (λ x. f (h x)) xs
prefix-mapped f h [] = refl
prefix-mapped f h (x ∷ xs) = ap (λ n. cond (f (h x)) (1 + n) 0) (prefix-mapped f h xs)

pub place-mapped : {A B : Type 0} (f : B → Bool) (h : A → B) (xs : List A) → position f (map h xs) ≡ position (λ x. f (h x)) xs
place-mapped f h xs = ap₂ (λ n m. cond (nat_lt n m) (Some n) None) (prefix-mapped (λ x. not (f x)) h xs) (length-map xs h)

count-mapped : {A B : Type 0} (f : B → Bool) (h : A → B) (xs : List A) → count_by f (map h xs) ≡ count_by (λ x. f (h x)) xs
count-mapped f h xs = fold-map (λ n x. n + cond (f x) 1 0) h 0 xs

number-stripped : (all : List EntryInfo) (k : ℕ) → original_number (map strip all) k ≡ original_number all k
number-stripped all k = ap (count_by is_original_entry) (take-map strip (k + 1) all) ∙ count-mapped is_original_entry strip (take (k + 1) all)

origin-stripped : (names : List (List ℕ)) (all : List EntryInfo) (x : EntryInfo) → with_origin names (map strip all) (strip x) ≡ with_origin names all x
origin-stripped names all x = λ i. record {
  name = x.name;
  owner = x.owner;
  family = x.family;
  first = x.first;
  last = x.last;
  added = x.added;
  stands_for = option_map (λ k. number-stripped all k i) (place-mapped (speaks_of names x) strip all i);
}

each-stripped : (names : List (List ℕ)) (all xs : List EntryInfo) → map (with_origin names (map strip all)) (map strip xs) ≡ map (with_origin names all) xs
each-stripped names all [] = refl
each-stripped names all (x ∷ xs) = λ i. origin-stripped names all x i ∷ each-stripped names all xs i

-- entries that are the same but for what they stand for stand for the same
pub origins-alike : (names : List (List ℕ)) (xs ys : List EntryInfo) → map strip xs ≡ map strip ys → with_origins names xs ≡ with_origins names ys
origins-alike names xs ys e = sym (each-stripped names xs xs) ∙ ap (with_origins names) e ∙ each-stripped names ys ys
