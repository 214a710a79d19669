-- The variable of a name among bindings.
use Rattle.std.proofs.Common.{◌≡◌, ℕ, List, [], ◌∷◌, ◌<◌, ◌≤◌, suc, arith, length, ◌++◌, get_or, take, drop, map, reverse, flat_map, append-nil, pos, refl, ap, sym, ◌∙◌, Bool, true, false}
use Rattle.std.specs.Prelude.{◌==◌, find, option_map, Option, Some, None, cond}
use Rattle.std.specs.Option.{option_or}
use Rattle.std.proofs.Math.Seq.{take-suc, drop-cons}
use Rattle.std.proofs.lemmas.List.{reverse-append}
use Rattle.std.proofs.lemmas.List.Concat.{flat_map-append}
use Rattle.std.proofs.lemmas.List.Folds.{find-append}
use Rattle.ada_tree.specs.declared.naming.NameId.{NameId}
use Rattle.ada_tree.specs.declared.static_types.Kind.{Kind}
use Rattle.ada_static_rules.specs.StaticValue.{first_of_two, position_in}
use Rattle.ada_value.specs.Values.{placed, word}
use Rattle.ada_value.specs.Evaluating.{literal_value}
use Rattle.ada_tree.specs.TypeTable.{TypeTable}
use Rattle.ada_value.specs.Variables.{Object, object_named}
use Rattle.ada_value.specs.inner.Bindings.{Bound, object_bound, latest_first, plain_vars}

joined : (types : TypeTable) (b : Bound) (t : Bool) (o : Option Object) (p : Option Bound) → o ≡ option_map (object_bound types) p → cond t (Some (object_bound types b)) o ≡ option_map (object_bound types) (cond t (Some b) p)
joined types b true o p e = refl
joined types b false o p e = e

-- the variable of a name among those of bindings is that of the first binding of the name
pub named_among : (types : TypeTable) (id : NameId) (bindings : List Bound) → object_named (map (object_bound types) bindings) id ≡ option_map (object_bound types) (find (λ b. b.name.0 == id.0) bindings)
named_among types id [] = refl
named_among types id (b ∷ bindings) = joined types b (b.name.0 == id.0) (object_named (map (object_bound types) bindings) id) (find (λ x. x.name.0 == id.0) bindings) (named_among types id bindings)

-- the variable of a name in scopes is that of its innermost and latest binding
pub object_named_bound : (types : TypeTable) (id : NameId) (scopes : List (List Bound)) → object_named (plain_vars types scopes) id ≡ option_map (object_bound types) (find (λ b. b.name.0 == id.0) (latest_first scopes))
object_named_bound types id scopes = named_among types id (latest_first scopes)

-- the bindings of one scope more stand in front
one_more : (scopes : List (List Bound)) (i : ℕ) (d : List Bound) → i < length scopes → latest_first (take (suc i) scopes) ≡ reverse (get_or scopes i d) ++ latest_first (take i scopes)
one_more scopes i d h =
    ap latest_first (take-suc scopes i d h)
    ∙ ap reverse (flat_map-append (λ bindings. bindings) (take i scopes) (get_or scopes i d ∷ []) ∙ ap (λ xs. flat_map (λ bindings. bindings) (take i scopes) ++ xs) (append-nil (get_or scopes i d)))
    ∙ reverse-append (flat_map (λ bindings. bindings) (take i scopes)) (get_or scopes i d)

-- what is found in one scope more
found_more : (p : Bound → Bool) (scopes : List (List Bound)) (i : ℕ) (d : List Bound) → i < length scopes → find p (latest_first (take (suc i) scopes)) ≡ option_or (find p (reverse (get_or scopes i d))) (find p (latest_first (take i scopes)))
found_more p scopes i d h = ap (find p) (one_more scopes i d h) ∙ find-append p (reverse (get_or scopes i d)) (latest_first (take i scopes))

-- what is found in the first n scopes, of which d is the innermost
found_last : (p : Bound → Bool) (scopes : List (List Bound)) (n i : ℕ) (d : List Bound) → suc i ≡ n → n ≤ length scopes → d ≡ get_or scopes i d → find p (latest_first (take n scopes)) ≡ option_or (find p (reverse d)) (find p (latest_first (take i scopes)))
found_last p scopes n i d e h is =
    ap (λ j. find p (latest_first (take j scopes))) (sym e)
    ∙ found_more p scopes i d (omega arith)
    ∙ ap (λ x. option_or (find p (reverse x)) (find p (latest_first (take i scopes)))) (sym is)

-- it is found in the scope that is looked at, and in none behind
pub found_here : (p : Bound → Bool) (scopes : List (List Bound)) (n i : ℕ) (d : List Bound) (b : Bound) → suc i ≡ n → n ≤ length scopes → d ≡ get_or scopes i d → find p (latest_first (take n scopes)) ≡ find p (latest_first scopes) → Some b ≡ find p (reverse d) → Some b ≡ find p (latest_first scopes)
found_here p scopes n i d b e h is rest found =
    ap (λ x. option_or x (find p (latest_first (take i scopes)))) found ∙ sym (found_last p scopes n i d e h is) ∙ rest

-- it is not found in the scope that is looked at
pub not_here : (p : Bound → Bool) (scopes : List (List Bound)) (n i : ℕ) (d : List Bound) → suc i ≡ n → n ≤ length scopes → d ≡ get_or scopes i d → find p (latest_first (take n scopes)) ≡ find p (latest_first scopes) → None ≡ find p (reverse d) → find p (latest_first (take i scopes)) ≡ find p (latest_first scopes)
not_here p scopes n i d e h is rest none =
    ap (λ x. option_or x (find p (latest_first (take i scopes)))) none ∙ sym (found_last p scopes n i d e h is) ∙ rest

-- a literal among the kinds from one on is one of that kind, or of those behind
pub literal_there : (kinds : List Kind) (i : ℕ) (d : Kind) (id : NameId) → i < length kinds → literal_value (drop i kinds) i id ≡ first_of_two (option_map (λ n. placed (word i) (pos n)) (position_in id (get_or kinds i d))) (literal_value (drop (suc i) kinds) (suc i) id)
literal_there kinds i d id h = ap (λ ks. literal_value ks i id) (drop-cons kinds i d h)
