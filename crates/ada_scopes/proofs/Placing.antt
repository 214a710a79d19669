-- The entry of a name stands at the place that is kept for it.
use Rattle.std.specs.Prelude.{◌≡◌, ◌==◌, ◌≤◌, ℕ, nat_lt, Bool, true, false, List, [], ◌∷◌, map, length, find, position, slice_get, cond, Option, Some, None, option_map, refl}
use Rattle.std.specs.List.{position_or_len}
use Rattle.std.proofs.Common.{sym, ap, ◌∙◌, arith, Bor}
use Rattle.std.proofs.lemmas.List.Folds.{find_at}
use Rattle.std.proofs.lemmas.Option.{slice_get_past}
use Rattle.std.proofs.lemmas.Bool.Decides.{nat_tests}
use Rattle.ada_static_rules.specs.Scope.{entry_named}
use Rattle.ada_tree.specs.declared.naming.NameId.{NameId}
use Rattle.ada_scopes.specs.declared.denotations.EntryPart.{EntryPart}
use Rattle.ada_scopes.specs.Entries.{plain_entry}

-- what stands at a place, where there is one
abbrev at_place : {X : Type 0} → List X → Option ℕ → Option X
at_place xs (Some i) = slice_get xs i
at_place xs None = None

found_there : {X : Type 0} (p : X → Bool) (xs : List X) → at_place xs (position p xs) ≡ find p xs
found_there p xs = by (nat_lt (position_or_len p xs) (length xs)) refl
  where
    by : (b : Bool) → nat_lt (position_or_len p xs) (length xs) ≡ b → at_place xs (cond b (Some (position_or_len p xs)) None) ≡ find p xs
    by true h = sym (find_at p xs)
    by false h =
        let past : length xs ≤ position_or_len p xs = grind (arith, nat_tests) in
        sym (find_at p xs ∙ slice_get_past xs (position_or_len p xs) past)

-- the entry of a name among entries as they are seen
find_seen : (parts : List EntryPart) (id : NameId) → option_map plain_entry (find (λ e. e.name.0 == id.0) parts) ≡ entry_named (map plain_entry parts) id
find_seen [] id = refl
find_seen (e ∷ parts) id = by (e.name.0 == id.0) (find_seen parts id)
  where
    by : (b : Bool) → option_map plain_entry (find (λ x. x.name.0 == id.0) parts) ≡ entry_named (map plain_entry parts) id
        → option_map plain_entry (cond b (Some e) (find (λ x. x.name.0 == id.0) parts)) ≡ cond b (Some (plain_entry e)) (entry_named (map plain_entry parts) id)
    by true h = refl
    by false h = h

-- what is kept for a name leads to its entry
named_at : (parts : List EntryPart) (id : NameId) (o : Option ℕ) → o ≡ position (λ e. e.name.0 == id.0) parts → option_map plain_entry (at_place parts o) ≡ entry_named (map plain_entry parts) id
named_at parts id o h = ap (λ k. option_map plain_entry (at_place parts k)) h ∙ ap (option_map plain_entry) (found_there _ parts) ∙ find_seen parts id

seen_by : (r : Option (Bor EntryPart)) → option_map (λ e. plain_entry e.now) r ≡ option_map plain_entry (option_map (λ e. e.now) r)
seen_by (Some e) = refl
seen_by None = refl

pub named_there : (parts : List EntryPart) (id : NameId) (k : ℕ) (r : Option (Bor EntryPart)) → Some k ≡ position (λ e. e.name.0 == id.0) parts → option_map (λ e. e.now) r ≡ slice_get parts k
    → option_map (λ e. plain_entry e.now) r ≡ entry_named (map plain_entry parts) id
named_there parts id k r kept found = seen_by r ∙ ap (option_map plain_entry) found ∙ named_at parts id (Some k) kept

pub named_nowhere : (parts : List EntryPart) (id : NameId) → None ≡ position (λ e. e.name.0 == id.0) parts → None ≡ entry_named (map plain_entry parts) id
named_nowhere parts id kept = named_at parts id None kept
