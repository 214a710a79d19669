-- What an entry stands for, found among the entries that are not added by the names of their doubles.
use Rattle.std.proofs.Common.{◌≡◌, ℕ, ◌+◌, ◌<◌, ◌==◌, ◌&&◌, not, Bool, true, false, cond, nat_eq, List, [], ◌∷◌, ◌++◌, codes, length, map, take, get_or, slice_get, position, option_map, unwrap_or, Option, Some, None, Result, Ok, Err, IfOk, refl, sym, ap, ◌∙◌, arith}
use Rattle.std.specs.List.{filter, position_from, starts_with}
use Rattle.std.specs.Str.{bytes_eq}
use Rattle.std.specs.Cmp.Lexicographic.{pointwise}
use Rattle.std.proofs.lemmas.Iterator.Adapters.{position_from-zero}
use Rattle.std.proofs.lemmas.Bool.Decides.{same_from_decides, Decides-eqb}
use Rattle.std.proofs.lemmas.List.{take_all, take_more, map-append}
use Rattle.std.proofs.lemmas.List.Elements.{filter-append}
use Rattle.std.proofs.lemmas.List.Quantifiers.{position-Some}
use Rattle.std.proofs.lemmas.Option.{slice_get_within, slice_get-get_or}
use Rattle.std.proofs.lemmas.Slice.Eq.{bytes_eq-Decides}
use Rattle.ada_tree.specs.declared.naming.NameId.{NameId}
use Rattle.ada_tree.specs.declared.shortage.Memory.{Memory}
use Rattle.ada_tree.specs.NameList.{AreNames, predefined}
use Rattle.syn_event.specs.declared.numbering.EntryInfo.{EntryInfo}
use Rattle.syn_event.specs.Numbering.{Numbering, is_original_entry, entry_named}
use Rattle.syn_event.specs.AddedNames.{speaks_of, original_number, with_origin}
use Rattle.syn_event.specs.DeclaredTasks.{text_of}
use Rattle.normal_model.specs.Names.{id_of}
use Rattle.replay_asking.proofs.names.Places.{id_there, slice_get-take}
use Rattle.replay_xform.specs.numbering.inner.Originals.{as_double, doubled, originals, origin_in, with_number}
use Rattle.replay_xform.proofs.numbering.Counted.{counted}

-- ---- names of doubles

abbrev double : List ℕ → List ℕ
double u = codes "DED_S_" ++ u

-- the text of the first id
first-text : (names : List (List ℕ)) → AreNames names → slice_get names 0 ≡ Some (codes "INTEGER")
first-text names are = sym (slice_get-take names (length predefined) 0 (omega arith)) ∙ ap (λ l. slice_get l 0) are.begins

-- an id that has the text of a double is the one that is found for it
found-id : (names : List (List ℕ)) → AreNames names → (id : ℕ) (u : List ℕ) (o : Option (List ℕ)) → slice_get names id ≡ o → unwrap_or o [] ≡ double u → unwrap_or (position (bytes_eq (double u)) names) 0 ≡ id
found-id names are id u None at is = cc
found-id names are id u (Some t) at is = id_there names names (double u) id are (take_all (length names) names (omega arith)) (at ∙ ap Some is) (slice_get_within names id t at)

-- the id that is found for a double, where it is that of a name that begins so, has its text
found-text :
    (names : List (List ℕ)) → AreNames names → (id : ℕ) (d : List ℕ) (o : Option ℕ) → position (bytes_eq d) names ≡ o →
    starts_with nat_eq (unwrap_or (slice_get names id) []) (codes "DED_S_") ≡ true → unwrap_or o 0 ≡ id → unwrap_or (slice_get names id) [] ≡ d
found-text names are id d None at starts is =
    let first : slice_get names id ≡ Some (codes "INTEGER") = ap (slice_get names) (sym is) ∙ first-text names are in
    let no : starts_with nat_eq (codes "INTEGER") (codes "DED_S_") ≡ true = ap (λ o. starts_with nat_eq (unwrap_or o []) (codes "DED_S_")) (sym first) ∙ starts in
    cc
found-text names are id d (Some k) at starts is =
    let found = position-Some (bytes_eq d) names k [] at in
    let same : d ≡ get_or names k [] = (bytes_eq-Decides d (get_or names k [])).0 found.1 in
    ap (λ n. unwrap_or (slice_get names n) []) (sym is) ∙ ap (λ o. unwrap_or o []) (slice_get-get_or names k [] found.0) ∙ sym same

-- the text of an id that begins so is that of a double just where the id is found for it
id-speaks :
    (names : List (List ℕ)) → AreNames names → (id : NameId) (u : List ℕ) →
    starts_with nat_eq (text_of names id) (codes "DED_S_") ≡ true → pointwise nat_eq (text_of names id) (double u) ≡ ((id_of names (double u)).0 == id.0)
id-speaks names are id u starts =
    same_from_decides (pointwise nat_eq (text_of names id) (double u)) ((id_of names (double u)).0 == id.0)
    (bytes_eq-Decides (text_of names id) (double u)) (
      λ e. found-text names are id.0 (double u) (position (bytes_eq (double u)) names) refl starts ((Decides-eqb (id_of names (double u)).0 id.0).0 e),
      λ e. (Decides-eqb (id_of names (double u)).0 id.0).1 (found-id names are id.0 u (slice_get names id.0) refl e),
    )

-- another text is that of no double
begins : (t u : List ℕ) → t ≡ double u → starts_with nat_eq t (codes "DED_S_") ≡ true
begins t u e = ap (λ s. starts_with nat_eq s (codes "DED_S_")) e

silent : (t u : List ℕ) → starts_with nat_eq t (codes "DED_S_") ≡ false → pointwise nat_eq t (double u) ≡ false
silent t u starts = by (pointwise nat_eq t (double u)) refl
  where
    by : (b : Bool) → pointwise nat_eq t (double u) ≡ b → pointwise nat_eq t (double u) ≡ false
    by false is = is
    by true is = let no : starts_with nat_eq t (codes "DED_S_") ≡ true = begins t u ((bytes_eq-Decides t (double u)).0 is) in cc

-- ---- tests

swapped : (a b c : Bool) → (a && b && c) ≡ (b && (a && c))
swapped true true c = refl
swapped true false c = refl
swapped false true c = refl
swapped false false c = refl

shut : (a b : Bool) → (a && b && false) ≡ false
shut true true = refl
shut true false = refl
shut false b = refl

speaks : (names : List (List ℕ)) → AreNames names → (info x : EntryInfo) → starts_with nat_eq (text_of names info.name) (codes "DED_S_") ≡ true →
    speaks_of names info x ≡ (is_original_entry x && (((as_double names x).owner == info.owner) && ((as_double names x).name.0 == info.name.0)))
speaks names are info x starts =
    ap (λ b. (x.owner == info.owner) && not x.added && b) (id-speaks names are info.name (text_of names x.name) starts)
    ∙ swapped (x.owner == info.owner) (not x.added) ((id_of names (double (text_of names x.name))).0 == info.name.0)

-- ---- places

nowhere-from : {X : Type 0} (p : X → Bool) → ((x : X) → p x ≡ false) → (xs : List X) (i : ℕ) → position_from p i xs ≡ None
nowhere-from p none [] i = refl
nowhere-from p none (x ∷ xs) i = ap (λ b. cond b (Some i) (position_from p (i + 1) xs)) (none x) ∙ nowhere-from p none xs (i + 1)

nowhere : {X : Type 0} (p : X → Bool) → ((x : X) → p x ≡ false) → (xs : List X) → position p xs ≡ None
nowhere p none xs = position_from-zero p xs ∙ nowhere-from p none xs 0

-- ---- what an entry stands for

pub origin-is : (names : List (List ℕ)) → AreNames names → (all : List EntryInfo) (info : EntryInfo) → origin_in names (originals names all) info ≡ option_map (original_number all) (position (speaks_of names info) all)
origin-is names are all info = by (starts_with nat_eq (text_of names info.name) (codes "DED_S_")) refl
  where
    by :
        (b : Bool) → starts_with nat_eq (text_of names info.name) (codes "DED_S_") ≡ b →
        cond b (entry_named (originals names all) info.owner info.name) None ≡ option_map (original_number all) (position (speaks_of names info) all)
    by true starts =
        sym (counted is_original_entry (speaks_of names info) (as_double names) (λ x. (x.owner == info.owner) && (x.name.0 == info.name.0)) (λ x. speaks names are info x starts) all)
    by false starts =
        sym
        (ap (option_map (original_number all))
        (nowhere (speaks_of names info)
        (λ x. ap (λ b. (x.owner == info.owner) && not x.added && b) (silent (text_of names info.name) (text_of names x.name) starts) ∙ shut (x.owner == info.owner) (not x.added)) all))

-- the entry with it
pub with-is :
    (names : List (List ℕ)) → AreNames names → (spoken : Numbering) (info : EntryInfo) (o : Option ℕ) → o ≡ origin_in names spoken info →
    (all : List EntryInfo) → spoken ≡ originals names all →
    with_number info o ≡ with_origin names all info
with-is names are spoken info o found all is = ap (with_number info) (found ∙ ap (λ n. origin_in names n info) is ∙ origin-is names are all info)

-- ---- code

-- the id of the double of a text that is not there
pub empty-double : (names : List (List ℕ)) (id : NameId) (r : Result NameId Memory) → None ≡ slice_get names id.0 → IfOk r (λ n. n ≡ id_of names (codes "DED_S_")) → IfOk r (λ n. n ≡ id_of names (double (text_of names id)))
empty-double names id (Err e) none is = tt
empty-double names id (Ok n) none is = is ∙ ap (λ o. id_of names (double (unwrap_or o []))) none

-- one entry more
pub doubled-append : (names : List (List ℕ)) (xs ys : List EntryInfo) → doubled names (xs ++ ys) ≡ doubled names xs ++ doubled names ys
doubled-append names xs ys = ap (map (as_double names)) (filter-append is_original_entry xs ys) ∙ map-append (as_double names) (filter is_original_entry xs) (filter is_original_entry ys)

pub doubled-turn :
    (names : List (List ℕ)) (xs : List EntryInfo) (i : ℕ) (d : EntryInfo) (before behind : List EntryInfo) →
    i < length xs → before ≡ doubled names (take i xs) → behind ≡ before ++ doubled names (get_or xs i d ∷ []) → behind ≡ doubled names (take (i + 1) xs)
doubled-turn names xs i d before behind within so_far step =
    step
    ∙ ap (λ ys. ys ++ doubled names (get_or xs i d ∷ [])) so_far
    ∙ sym (doubled-append names (take i xs) (get_or xs i d ∷ []))
    ∙ ap (doubled names) (sym (take_more xs i d within))
