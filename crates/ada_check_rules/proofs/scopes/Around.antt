-- Names, loops and units as they are kept, and as the rules see them; what stood around a place is there again behind it.
use Rattle.std.specs.Prelude.{◌≡◌, ◌==◌, ℕ, ◌+◌, ◌-◌, Bool, true, false, if◌then◌else◌, List, [], ◌∷◌, ◌++◌, length, map, drop, reverse, find, Option, Some, None, option_map, unwrap_or, refl}
use Rattle.std.proofs.Common.{sym, ap, ◌∙◌, arith, length-append}
use Rattle.std.specs.List.{list_any}
use Rattle.std.specs.Option.{option_to_list}
use Rattle.std.proofs.lemmas.List.{reverse-append}
use Rattle.std.proofs.lemmas.List.Sorted.{list_any-IsPermutation, IsPermutation-reverse}
use Rattle.std.proofs.Math.Seq.{drop-append_seam}
use Rattle.scoped_names.specs.Meaning.{meaning_in}
use Rattle.ada_tree.specs.declared.naming.NameId.{NameId}
use Rattle.syn_event.specs.declared.meanings.Meant.{Meant}
use Rattle.syn_event.specs.CheckScope.{EnclosingUnit}
use Rattle.ada_check_rules.specs.scopes.Around.{unit_of_id}
use Rattle.common_lemmas.proofs.Numbers.{equal_is, seam_at}

-- ---- lists that are kept from the first to the last

pub any_reverse : {A : Type 0} (p : A → Bool) (xs : List A) → list_any p xs ≡ list_any p (reverse xs)
any_reverse p xs = list_any-IsPermutation p xs (reverse xs) (IsPermutation-reverse xs)

none_of : {A : Type 0} (xs : List A) → length xs ≡ 0 → xs ≡ []
none_of [] h = refl
none_of (x ∷ xs) h = absurd (omega (arith, h))

pub popped : {A : Type 0} (old new : List A) (o : Option A) → old ≡ new ++ option_to_list o → (o ≡ None → length new ≡ 0) → reverse new ≡ drop 1 (reverse old)
popped old new None h g =
    let empty : new ≡ [] = none_of new (g refl) in
    ap reverse empty ∙ sym (ap (λ l. drop 1 (reverse l)) (h ∙ ap (λ l. l ++ []) empty))
popped old new (Some x) h g = sym (ap (λ l. drop 1 (reverse l)) h ∙ ap (drop 1) (reverse-append new (x ∷ [])))

-- ---- names that are left

behind_new : (outer new names : List (ℕ × Meant)) (count : ℕ) → count ≡ length outer → names ≡ new ++ outer → drop (length names - count) names ≡ outer
behind_new outer new names count counted named =
    let many : length names ≡ length new + count = ap length named ∙ length-append new outer ∙ ap (λ n. length new + n) (sym counted) in
    ap (drop (length names - count)) named
    ∙ ap (λ n. drop n (new ++ outer)) (seam_at (length names) (length new) count many)
    ∙ drop-append_seam new outer

pub left_names : (outer inner new names left : List (ℕ × Meant)) (count : ℕ) → count ≡ length outer → inner ≡ new ++ outer → names ≡ inner → left ≡ drop (length names - count) names → left ≡ outer
left_names outer inner new names left count counted within named leaves = leaves ∙ behind_new outer new names count counted (named ∙ within)

-- ---- the entries of a unit

abbrev entries_at : Option (List NameId) → List NameId
entries_at (Some l) = l
entries_at None = []

module _ {T : Type 0} (f : T → List NameId) where
  at_unit : (s : ℕ × T) (rest : List (ℕ × T)) (name : ℕ) (b : Bool) → (b ≡ true → s.0 ≡ name)
      → unwrap_or (find (λ u. u.name.0 == name) (map (λ x. unit_of_id x.0 (f x.1)) rest)) (unit_of_id name []) ≡ unit_of_id name (entries_at (option_map f (meaning_in rest name)))
      → unwrap_or (if b then Some (unit_of_id s.0 (f s.1)) else find (λ u. u.name.0 == name) (map (λ x. unit_of_id x.0 (f x.1)) rest)) (unit_of_id name [])
      ≡ unit_of_id name (entries_at (option_map f (option_map (λ x. x.1) (if b then Some s else find (λ x. x.0 == name) rest))))
  at_unit s rest name true same h = ap (λ n. unit_of_id n (f s.1)) (same refl)
  at_unit s rest name false same h = h

  entries_seen : (units : List (ℕ × T)) (name : ℕ) → unwrap_or (find (λ u. u.name.0 == name) (map (λ x. unit_of_id x.0 (f x.1)) units)) (unit_of_id name []) ≡ unit_of_id name (entries_at (option_map f (meaning_in units name)))
  entries_seen [] name = refl
  entries_seen (s ∷ rest) name = at_unit s rest name (s.0 == name) (equal_is s.0 name) (entries_seen rest name)

  pub unit_there : (units : List (ℕ × T)) (all : List EnclosingUnit) (name : ℕ) (o : Option T) (e : T) → o ≡ meaning_in units name → o ≡ Some e → map (λ x. unit_of_id x.0 (f x.1)) units ≡ all
      → unwrap_or (find (λ u. u.name.0 == name) all) (unit_of_id name []) ≡ unit_of_id name (f e)
  unit_there units all name o e h is seen =
      ap (λ l. unwrap_or (find (λ u. u.name.0 == name) l) (unit_of_id name [])) (sym seen)
      ∙ entries_seen units name
      ∙ ap (λ m. unit_of_id name (entries_at (option_map f m))) (sym h ∙ is)

  pub unit_gone : (units : List (ℕ × T)) (all : List EnclosingUnit) (name : ℕ) (o : Option T) → o ≡ meaning_in units name → o ≡ None → map (λ x. unit_of_id x.0 (f x.1)) units ≡ all
      → unwrap_or (find (λ u. u.name.0 == name) all) (unit_of_id name []) ≡ unit_of_id name []
  unit_gone units all name o h is seen =
      ap (λ l. unwrap_or (find (λ u. u.name.0 == name) l) (unit_of_id name [])) (sym seen)
      ∙ entries_seen units name
      ∙ ap (λ m. unit_of_id name (entries_at (option_map f m))) (sym h ∙ is)
