-- What is looked up in a list that is one longer.
use Rattle.std.specs.Prelude.{◌≡◌, ◌==◌, ◌<◌, ◌+◌, ℕ, nat_eq, nat_lt, if◌then◌else◌, List, [], ◌∷◌, ◌++◌, length, take, position, Option, Some, None}
use Rattle.std.proofs.Common.{sym, ap, ◌∙◌, get_or}
use Rattle.std.specs.HashMap.{HashMap, get}
use Rattle.ada_tree.specs.declared.naming.NameId.{NameId}
use Rattle.ada_tree.specs.declared.static_types.Kind.{Kind}
use Rattle.ada_static_rules.specs.StaticValue.{first_of_two, position_in, literal_position}
use Rattle.ada_static_rules.proofs.found_twice.FirstOfTwo.{find_push, first_of_three, first_or_none, position_more, position_push}

abbrev place_in : ℕ → ℕ → Option ℕ
place_in place count = if nat_lt place count then Some place else None

pub literal_push : (kinds : List Kind) (kind : Kind) (id : NameId) → literal_position (kinds ++ kind ∷ []) id ≡ first_of_two (literal_position kinds id) (position_in id kind)
literal_push [] kind id = first_or_none (position_in id kind)
literal_push (k ∷ kinds) kind id = ap (first_of_two (position_in id k)) (literal_push kinds kind id) ∙ sym (first_of_three (position_in id k) (literal_position kinds id) (position_in id kind))

-- the positions that are kept behind a literal more
pub literal_more : {S : Type 0} (start so_far grown : HashMap ℕ ℕ S) (names : List NameId) (i place : ℕ) (d : NameId) → i < length names → place ≡ i
    → ((q : ℕ) → get nat_eq so_far q ≡ first_of_two (get nat_eq start q) (position (λ n. n.0 == q) (take i names)))
    → ((q : ℕ) → get nat_eq grown q ≡ first_of_two (get nat_eq so_far q) (if (get_or names i d).0 == q then Some place else None))
    → (q : ℕ) → get nat_eq grown q ≡ first_of_two (get nat_eq start q) (position (λ n. n.0 == q) (take (i + 1) names))
literal_more start so_far grown names i place d h at kept grows q =
    let name : Option ℕ = if (get_or names i d).0 == q then Some i else None in
    grows q
    ∙ ap (λ k. first_of_two (get nat_eq so_far q) (if (get_or names i d).0 == q then Some k else None)) at
    ∙ ap (λ o. first_of_two o name) (kept q)
    ∙ first_of_three (get nat_eq start q) (position (λ n. n.0 == q) (take i names)) name
    ∙ ap (first_of_two (get nat_eq start q)) (sym (position_more (λ n. n.0 == q) names i d h))

-- the places that are kept behind one more, by the key of each
pub place_more : {X S : Type 0} (key : X → ℕ) (start so_far grown : HashMap ℕ ℕ S) (xs : List X) (i : ℕ) (x : X) → i < length xs → x ≡ get_or xs i x
    → ((q : ℕ) → get nat_eq so_far q ≡ first_of_two (get nat_eq start q) (position (λ y. key y == q) (take i xs)))
    → ((q : ℕ) → get nat_eq grown q ≡ first_of_two (get nat_eq so_far q) (if key x == q then Some i else None))
    → (q : ℕ) → get nat_eq grown q ≡ first_of_two (get nat_eq start q) (position (λ y. key y == q) (take (i + 1) xs))
place_more key start so_far grown xs i x h is kept grows q =
    let here : Option ℕ = if key (get_or xs i x) == q then Some i else None in
    grows q
    ∙ ap (λ y. first_of_two (get nat_eq so_far q) (if key y == q then Some i else None)) is
    ∙ ap (λ o. first_of_two o here) (kept q)
    ∙ first_of_three (get nat_eq start q) (position (λ y. key y == q) (take i xs)) here
    ∙ ap (first_of_two (get nat_eq start q)) (sym (position_more (λ y. key y == q) xs i x h))

-- the positions that are kept behind a kind more
pub kind_kept : {S : Type 0} (kinds longer : List Kind) (kind : Kind) (literals grown : HashMap ℕ ℕ S) → longer ≡ kinds ++ kind ∷ []
    → ((id : NameId) → get nat_eq literals id.0 ≡ literal_position kinds id)
    → ((id : NameId) → get nat_eq grown id.0 ≡ first_of_two (get nat_eq literals id.0) (position_in id kind))
    → (id : NameId) → get nat_eq grown id.0 ≡ literal_position longer id
kind_kept kinds longer kind literals grown is kept grows id =
    grows id
    ∙ ap (λ o. first_of_two o (position_in id kind)) (kept id)
    ∙ sym (literal_push kinds kind id)
    ∙ ap (λ l. literal_position l id) (sym is)

pub ruleset keeping = (find_push, position_push, position_more, first_or_none, first_of_three)
