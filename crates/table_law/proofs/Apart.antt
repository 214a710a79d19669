-- The ids of texts that differ are apart.
use Rattle.std.proofs.Common.{◌≡◌, ℕ, ◌<◌, ◌==◌, Bool, true, false, ◌&&◌, not, cond, List, [], ◌∷◌, length, map, get_or, Some, None, unwrap_or, refl, sym, ap, ◌∙◌}
use Rattle.std.specs.List.{AllByRecursion, list_any, position_or_len}
use Rattle.std.specs.Str.{bytes_eq}
use Rattle.std.proofs.lemmas.List.Sums.{passes_at_first}
use Rattle.std.proofs.lemmas.Slice.Eq.{bytes_eq-Decides}
use Rattle.common_lemmas.proofs.Lists.{holds_at, texts_differ}
use Rattle.common_lemmas.proofs.Numbers.{lt_true, unequal}
use Rattle.common_lemmas.proofs.Truth.{and_both, not_true, or_both}
use Rattle.ada_tree.specs.declared.naming.NameId.{NameId}
use Rattle.normal_model.specs.Names.{id_of}
use Rattle.replay_model.specs.Names.{kind_text, argument_text, index_text, operations_text, tasks_text, kinds_text, arguments_text, indices_text, counter_text}
use Rattle.replay_model.specs.tables.ControlTexts.{control_texts, with_control_names}
use Rattle.table_law.proofs.Interned.{Has, all-there, place-longer}
use Rattle.table_law.specs.Controllers.{AreApart}
use Rattle.table_law.specs.Laws.{ControlNamesAreApart, ControlNamesAreThere}

-- the id of a text that is there is its place, where that text stands
id-place : (names : List (List ℕ)) (t : List ℕ) → Has names t → ((id_of names t).0 ≡ position_or_len (bytes_eq t) names) × (get_or names (position_or_len (bytes_eq t) names) [] ≡ t)
id-place names t h =
    let within : position_or_len (bytes_eq t) names < length names = (place-longer (bytes_eq t) names [] h).1 in (
      ap (λ (b : Bool). unwrap_or (cond b (Some (position_or_len (bytes_eq t) names)) None) 0) (lt_true (position_or_len (bytes_eq t) names) (length names) within),
      sym ((bytes_eq-Decides t (get_or names (position_or_len (bytes_eq t) names) [])).0 (passes_at_first (bytes_eq t) names [] within)),
    )

ids-differ : (names : List (List ℕ)) (a b : List ℕ) → Has names a → Has names b → bytes_eq a b ≡ false → ((id_of names a).0 == (id_of names b).0) ≡ false
ids-differ names a b there_a there_b differ =
    let x = id-place names a there_a in
    let y = id-place names b there_b in
    unequal (id_of names a).0 (id_of names b).0 (λ same. texts_differ a b differ (sym x.1 ∙ ap (λ (n : ℕ). get_or names n []) (sym x.0 ∙ same ∙ y.0) ∙ y.1))

-- no text of the list stands in it twice
abbrev all_differ : List (List ℕ) → Bool
all_differ [] = true
all_differ (t ∷ ts) = not (list_any (bytes_eq t) ts) && all_differ ts

apart-from : (names : List (List ℕ)) (a : List ℕ) (ts : List (List ℕ)) → Has names a → AllByRecursion (Has names) ts → list_any (bytes_eq a) ts ≡ false →
    AllByRecursion (λ (y : NameId). ((id_of names a).0 == y.0) ≡ false) (map (id_of names) ts)
apart-from names a [] there all differ = tt
apart-from names a (b ∷ ts) there all differ =
    let both = or_both (bytes_eq a b) (list_any (bytes_eq a) ts) differ in
    (ids-differ names a b there all.0 both.0, apart-from names a ts there all.1 both.1)

ids-apart : (names : List (List ℕ)) (ts : List (List ℕ)) → AllByRecursion (Has names) ts → all_differ ts ≡ true → AreApart (map (id_of names) ts)
ids-apart names [] all differ = tt
ids-apart names (t ∷ ts) all differ =
    let both = and_both (not (list_any (bytes_eq t) ts)) (all_differ ts) differ in
    (apart-from names t ts all.0 all.1 (not_true (list_any (bytes_eq t) ts) both.0), ids-apart names ts all.1 both.1)

-- the texts of the controller's variables
abbrev variable_texts : List (List ℕ)
variable_texts = kind_text ∷ argument_text ∷ index_text ∷ counter_text ∷ indices_text ∷ arguments_text ∷ kinds_text ∷ tasks_text ∷ operations_text ∷ []

pub control_names_are_apart : ControlNamesAreApart
control_names_are_apart names there =
    ids-apart names variable_texts (
      holds_at (Has names) control_texts 0 kind_text refl there,
      (
        holds_at (Has names) control_texts 1 argument_text refl there,
        (
          holds_at (Has names) control_texts 2 index_text refl there,
          (
            holds_at (Has names) control_texts 12 counter_text refl there,
            (
              holds_at (Has names) control_texts 11 indices_text refl there,
              (
                holds_at (Has names) control_texts 10 arguments_text refl there,
                (holds_at (Has names) control_texts 9 kinds_text refl there, (holds_at (Has names) control_texts 8 tasks_text refl there, (holds_at (Has names) control_texts 7 operations_text refl there, tt))),
              ),
            ),
          ),
        ),
      ),
    )
    refl

pub control_names_are_there : ControlNamesAreThere
unfolding with_control_names
control_names_are_there names = all-there control_texts names
