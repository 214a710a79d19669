-- A name is among others where it means something among them.
use Rattle.std.specs.Prelude.{◌≡◌, ◌==◌, ℕ, Bool, true, false, ◌||◌, if◌then◌else◌, List, [], ◌∷◌, map, find, Option, Some, option_map, is_some, refl}
use Rattle.std.specs.List.{list_any}
use Rattle.std.proofs.Common.{sym, ap, ◌∙◌}
use Rattle.ada_tree.specs.declared.naming.NameId.{NameId}
use Rattle.ada_static_rules.specs.RuleDuplicate.{is_among}
use Rattle.scoped_names.specs.Meaning.{meaning_in}
use Rattle.scoped_names.specs.name_sets.Numbers.{id_of, numbers_in}
use Rattle.common_lemmas.proofs.Options.{mapped_there}

among_test : {A : Type 0} (s : ℕ × A) (o : Option (ℕ × A)) (b t : Bool) → is_some (option_map (λ x. x.1) o) ≡ b → is_some (option_map (λ x. x.1) (if t then Some s else o)) ≡ (t || b)
among_test s o b true h = refl
among_test s o b false h = h

among : {A : Type 0} (names : List (ℕ × A)) (name : ℕ) → is_some (meaning_in names name) ≡ list_any (λ (n : NameId). n.0 == name) (map (λ s. id_of s.0) names)
among [] name = refl
among (s ∷ rest) name = among_test s (find (λ x. x.0 == name) rest) (list_any (λ (n : NameId). n.0 == name) (map (λ x. id_of x.0) rest)) (s.0 == name) (among rest name)

pub is_in : {A B : Type 0} (f : B → A) (o : Option B) (names : List (ℕ × A)) (name : ℕ) → option_map f o ≡ meaning_in names name → is_some o ≡ list_any (λ (n : NameId). n.0 == name) (map (λ s. id_of s.0) names)
is_in f o names name h = sym (mapped_there f o) ∙ ap is_some h ∙ among names name

-- by their numbers, the same names are among others
pub by_number : (names : List NameId) (name : ℕ) → list_any (λ (n : NameId). n.0 == name) names ≡ is_among (numbers_in names) name
by_number [] name = refl
by_number (x ∷ xs) name = ap (λ b. (x.0 == name) || b) (by_number xs name)
