-- Which names that can be used have an entry of a name.
use Rattle.std.specs.Prelude.{◌≡◌, ℕ, zero, suc, ◌+◌, Bool, true, false, ◌||◌, List, [], ◌∷◌, drop, slice_get, Some, None, option_map, is_some, refl}
use Rattle.std.specs.List.{list_any}
use Rattle.std.specs.Option.{unwrap_or}
use Rattle.std.proofs.Common.{sym, ap, ◌∙◌, add-one}
use Rattle.ada_tree.specs.declared.naming.NameId.{NameId}
use Rattle.ada_static_rules.specs.Scope.{NameMeaning, entry_named, entries_of}
use Rattle.ada_scopes.specs.Denotations.{plain_thing, plain_names}
use Rattle.ada_scopes.specs.declared.denotations.Thing.{Thing}

abbrev pub has_one : NameId → NameMeaning → Bool
has_one id s = is_some (entry_named (entries_of s.thing) id)

none_is_not : (t : Thing) → Some t ≡ None → ⊥
none_is_not t h = cc

any_suc : (id : NameId) (names : List (ℕ × Thing)) (i : ℕ) (t : Thing) → Some t ≡ option_map (λ s. s.1) (slice_get names i)
    → is_some (entry_named (entries_of (plain_thing t)) id) ≡ false
    → list_any (has_one id) (drop i (plain_names names)) ≡ list_any (has_one id) (drop (suc i) (plain_names names))
any_suc id [] i t h g = absurd (none_is_not t h)
any_suc id (s ∷ rest) zero t h g =
    ap (λ o. is_some (entry_named (entries_of (plain_thing (unwrap_or o t))) id) || list_any (has_one id) (plain_names rest)) (sym h)
    ∙ ap (λ b. b || list_any (has_one id) (plain_names rest)) g
any_suc id (s ∷ rest) (suc i) t h g = any_suc id rest i t h g

-- a name that has no such entry
pub any_more : (id : NameId) (names : List (ℕ × Thing)) (seen : List NameMeaning) (i : ℕ) (t : Thing) (all : Bool) → plain_names names ≡ seen
    → Some t ≡ option_map (λ s. s.1) (slice_get names i)
    → is_some (entry_named (entries_of (plain_thing t)) id) ≡ false
    → list_any (has_one id) (drop i seen) ≡ all
    → list_any (has_one id) (drop (i + 1) seen) ≡ all
any_more id names seen i t all is_seen h g before =
    ap (λ k. list_any (has_one id) (drop k seen)) (add-one i)
    ∙ ap (λ ns. list_any (has_one id) (drop (suc i) ns)) (sym is_seen)
    ∙ sym (any_suc id names i t h g)
    ∙ ap (λ ns. list_any (has_one id) (drop i ns)) is_seen
    ∙ before

any_here : (id : NameId) (names : List (ℕ × Thing)) (i : ℕ) (t : Thing) → Some t ≡ option_map (λ s. s.1) (slice_get names i)
    → is_some (entry_named (entries_of (plain_thing t)) id) ≡ true
    → list_any (has_one id) (drop i (plain_names names)) ≡ true
any_here id [] i t h g = absurd (none_is_not t h)
any_here id (s ∷ rest) zero t h g =
    ap (λ o. is_some (entry_named (entries_of (plain_thing (unwrap_or o t))) id) || list_any (has_one id) (plain_names rest)) (sym h)
    ∙ ap (λ b. b || list_any (has_one id) (plain_names rest)) g
any_here id (s ∷ rest) (suc i) t h g = any_here id rest i t h g

-- and one that has it
pub any_found : (id : NameId) (names : List (ℕ × Thing)) (seen : List NameMeaning) (i : ℕ) (t : Thing) (all : Bool) → plain_names names ≡ seen
    → Some t ≡ option_map (λ s. s.1) (slice_get names i)
    → is_some (entry_named (entries_of (plain_thing t)) id) ≡ true
    → list_any (has_one id) (drop i seen) ≡ all
    → true ≡ all
any_found id names seen i t all is_seen h g before =
    sym (any_here id names i t h g) ∙ ap (λ ns. list_any (has_one id) (drop i ns)) is_seen ∙ before

or_true : (b : Bool) → b || true ≡ true
or_true true = refl
or_true false = refl

any_in : (id : NameId) (names : List (ℕ × Thing)) (i : ℕ) (t : Thing) → Some t ≡ option_map (λ s. s.1) (slice_get names i)
    → is_some (entry_named (entries_of (plain_thing t)) id) ≡ true
    → list_any (has_one id) (plain_names names) ≡ true
any_in id [] i t h g = absurd (none_is_not t h)
any_in id (s ∷ rest) zero t h g = any_here id (s ∷ rest) zero t h g
any_in id (s ∷ rest) (suc i) t h g =
    ap (λ b. is_some (entry_named (entries_of (plain_thing s.1)) id) || b) (any_in id rest i t h g)
    ∙ or_true (is_some (entry_named (entries_of (plain_thing s.1)) id))

-- one that has it, wherever it is looked for
pub any_at : (id : NameId) (names : List (ℕ × Thing)) (seen : List NameMeaning) (i : ℕ) (t : Thing) → plain_names names ≡ seen
    → Some t ≡ option_map (λ s. s.1) (slice_get names i)
    → is_some (entry_named (entries_of (plain_thing t)) id) ≡ true
    → list_any (has_one id) seen ≡ true
any_at id names seen i t is_seen h g = sym (ap (list_any (has_one id)) is_seen) ∙ any_in id names i t h g
