-- Names that are known to be static, one after the other.
use Rattle.std.proofs.Common.{◌≡◌, ◌==◌, ◌<◌, ◌+◌, ℕ, zero, suc, Bool, true, false, ◌||◌, List, [], ◌∷◌, ◌++◌, take, find, position, get_or, length, Option, Some, None, option_map, is_some, cond, nat_lt, slice_get, pos, if◌then◌else◌, refl, sym, ap, ◌∙◌, arith}
use Rattle.std.specs.List.{list_any, position_or_len}
use Rattle.std.proofs.lemmas.Bool.{ltb-true, ltb-false}
use Rattle.std.proofs.lemmas.List.{take_more}
use Rattle.std.proofs.lemmas.List.Folds.{find_at}
use Rattle.std.proofs.lemmas.Option.{slice_get_past}
use Rattle.ada_tree.specs.declared.naming.NameId.{NameId}
use Rattle.ada_tree.specs.declared.static_types.Constant.{Constant}
use Rattle.ada_tree.specs.declared.static_types.Kind.{Kind}
use Rattle.ada_tree.specs.TypeTable.{TypeTable}
use Rattle.ada_static_rules.specs.StaticValue.{first_of_two, constant_named, literal_position, position_in, value_named}
use Rattle.ada_tree.specs.Attributes.{false_name, true_name}
use Rattle.scoped_names.specs.Meaning.{meaning_in}
use Rattle.normal_lookups.specs.inner.Kept.{AreStatic}
use Rattle.common_lemmas.proofs.Options.{mapped_there}
use Rattle.common_lemmas.proofs.Truth.{or_false, or_grouped}

-- ---- one name more

or_swap : (a b : Bool) → (a || b) ≡ (b || a)
or_swap true true = refl
or_swap true false = refl
or_swap false true = refl
or_swap false false = refl

-- what is known with one more name
known_more : (n q : ℕ) (t : Bool) (known : List (ℕ × Bool)) → is_some (meaning_in ((n, t) ∷ known) q) ≡ (is_some (meaning_in known q) || (n == q))
known_more n q t known = by (n == q) ∙ or_swap (n == q) (is_some (meaning_in known q))
  where
    by : (b : Bool) → is_some (option_map (λ (s : ℕ × Bool). s.1) (if b then Some (let s : ℕ × Bool = (n, t) in s) else find (λ s. s.0 == q) known)) ≡ (b || is_some (meaning_in known q))
    by true = refl
    by false = refl

any_push : {X : Type 0} (p : X → Bool) (xs : List X) (y : X) → list_any p (xs ++ y ∷ []) ≡ (list_any p xs || p y)
any_push p [] y = or_false (p y)
any_push p (x ∷ xs) y = ap (λ b. p x || b) (any_push p xs y) ∙ sym (or_grouped (p x) (list_any p xs) (p y))

-- one turn of a loop over what has names
pub known_step : {X : Type 0} (name : X → ℕ) (xs : List X) (i : ℕ) (d : X) (t : Bool) (start so_far grown : List (ℕ × Bool)) → i < length xs →
    grown ≡ (name (get_or xs i d), t) ∷ so_far →
    ((q : ℕ) → is_some (meaning_in so_far q) ≡ (is_some (meaning_in start q) || list_any (λ x. name x == q) (take i xs))) →
    (q : ℕ) → is_some (meaning_in grown q) ≡ (is_some (meaning_in start q) || list_any (λ x. name x == q) (take (i + 1) xs))
known_step name xs i d t start so_far grown lt grows before q =
    ap (λ l. is_some (meaning_in l q)) grows
    ∙ known_more (name (get_or xs i d)) q t so_far
    ∙ ap (λ b. b || (name (get_or xs i d) == q)) (before q)
    ∙ or_grouped (is_some (meaning_in start q)) (list_any (λ x. name x == q) (take i xs)) (name (get_or xs i d) == q)
    ∙ ap (λ b. is_some (meaning_in start q) || b) (sym (ap (list_any (λ x. name x == q)) (take_more xs i d lt) ∙ any_push (λ x. name x == q) (take i xs) (get_or xs i d)))

-- ---- literals

some_of_two : {X : Type 0} (a b : Option X) → is_some (first_of_two a b) ≡ (is_some a || is_some b)
some_of_two None b = refl
some_of_two (Some x) b = refl

literals_push : (kinds : List Kind) (kind : Kind) (id : NameId) → is_some (literal_position (kinds ++ kind ∷ []) id) ≡ (is_some (literal_position kinds id) || is_some (position_in id kind))
literals_push [] kind id = some_of_two (position_in id kind) None ∙ or_false (is_some (position_in id kind))
literals_push (k ∷ kinds) kind id =
    some_of_two (position_in id k) (literal_position (kinds ++ kind ∷ []) id)
    ∙ ap (λ b. is_some (position_in id k) || b) (literals_push kinds kind id)
    ∙ sym (or_grouped (is_some (position_in id k)) (is_some (literal_position kinds id)) (is_some (position_in id kind)))
    ∙ ap (λ b. b || is_some (position_in id kind)) (sym (some_of_two (position_in id k) (literal_position kinds id)))

-- one turn of the loop over kinds
pub kinds_step : (kinds : List Kind) (i : ℕ) (kind : Kind) (start so_far grown : List (ℕ × Bool)) → i < length kinds → kind ≡ get_or kinds i kind →
    ((id : NameId) → is_some (meaning_in grown id.0) ≡ (is_some (meaning_in so_far id.0) || is_some (position_in id kind))) →
    ((id : NameId) → is_some (meaning_in so_far id.0) ≡ (is_some (meaning_in start id.0) || is_some (literal_position (take i kinds) id))) →
    (id : NameId) → is_some (meaning_in grown id.0) ≡ (is_some (meaning_in start id.0) || is_some (literal_position (take (i + 1) kinds) id))
kinds_step kinds i kind start so_far grown lt is grows before id =
    grows id
    ∙ ap (λ b. b || is_some (position_in id kind)) (before id)
    ∙ or_grouped (is_some (meaning_in start id.0)) (is_some (literal_position (take i kinds) id)) (is_some (position_in id kind))
    ∙ ap (λ b. is_some (meaning_in start id.0) || b) (sym (ap (λ l. is_some (literal_position l id)) (take_more kinds i kind lt ∙ ap (λ k. take i kinds ++ k ∷ []) (sym is)) ∙ literals_push (take i kinds) kind id))

-- ---- all of them

-- an element that is found is one that passes the test
pub found_any : {X : Type 0} (p : X → Bool) (xs : List X) → is_some (find p xs) ≡ list_any p xs
found_any p [] = refl
found_any p (x ∷ xs) = by (p x) (found_any p xs)
  where
    by : (b : Bool) → is_some (find p xs) ≡ list_any p xs → is_some (if b then Some x else find p xs) ≡ (b || list_any p xs)
    by true e = refl
    by false e = e

-- something stands at each place of a list
there : {X : Type 0} (xs : List X) (i : ℕ) → i < length xs → is_some (slice_get xs i) ≡ true
there [] i lt = absurd (omega arith)
there (x ∷ xs) zero lt = refl
there (x ∷ xs) (suc i) lt = there xs i (omega arith)

-- a place that is found is one of an element that passes the test
pub placed_any : {X : Type 0} (p : X → Bool) (xs : List X) → is_some (position p xs) ≡ list_any p xs
placed_any p xs = within (nat_lt (position_or_len p xs) (length xs)) refl ∙ ap is_some (sym (find_at p xs)) ∙ found_any p xs
  where
    within : (b : Bool) → nat_lt (position_or_len p xs) (length xs) ≡ b → is_some (cond (nat_lt (position_or_len p xs) (length xs)) (Some (position_or_len p xs)) None) ≡ is_some (slice_get xs (position_or_len p xs))
    within true e = ap (λ b. is_some (cond b (Some (position_or_len p xs)) None)) e ∙ sym (there xs (position_or_len p xs) (ltb-true (position_or_len p xs) (length xs) e))
    within false e = ap (λ b. is_some (cond b (Some (position_or_len p xs)) None)) e ∙ sym (ap is_some (slice_get_past xs (position_or_len p xs) (ltb-false (position_or_len p xs) (length xs) e)))

-- a name is static where it is FALSE or TRUE or is known
pub static_name : (types : TypeTable) (known : List (ℕ × Bool)) (id : NameId) → AreStatic types known → is_some (value_named types id) ≡ ((id.0 == false_name) || ((id.0 == true_name) || is_some (meaning_in known id.0)))
static_name types known id are = by (id.0 == false_name) (id.0 == true_name)
  where
    rest : is_some (first_of_two (option_map (λ c. c.value) (constant_named types id)) (option_map (λ k. pos k) (literal_position types.kinds id))) ≡ is_some (meaning_in known id.0)
    rest =
        some_of_two (option_map (λ c. c.value) (constant_named types id)) (option_map (λ k. pos k) (literal_position types.kinds id))
        ∙ ap (λ b. b || is_some (option_map (λ k. pos k) (literal_position types.kinds id))) (mapped_there (λ c. c.value) (constant_named types id))
        ∙ ap (λ b. is_some (constant_named types id) || b) (mapped_there (λ k. pos k) (literal_position types.kinds id))
        ∙ sym (are id)

    by : (a b : Bool) → is_some (if a then Some (pos 0) else if b then Some (pos 1) else first_of_two (option_map (λ c. c.value) (constant_named types id)) (option_map (λ k. pos k) (literal_position types.kinds id))) ≡ (a || (b || is_some (meaning_in known id.0)))
    by true b = refl
    by false true = refl
    by false false = rest

-- the names of constants and then those of literals are all
pub all_known : (types : TypeTable) (start first last : List (ℕ × Bool)) (constants : List Constant) (kinds : List Kind) → start ≡ [] → constants ≡ types.constants → kinds ≡ types.kinds →
    ((q : ℕ) → is_some (meaning_in first q) ≡ (is_some (meaning_in start q) || list_any (λ c. c.name.0 == q) constants)) →
    ((id : NameId) → is_some (meaning_in last id.0) ≡ (is_some (meaning_in first id.0) || is_some (literal_position kinds id))) →
    AreStatic types last
all_known types start first last constants kinds none constants_are kinds_are one two id =
    two id
    ∙ ap (λ b. b || is_some (literal_position kinds id)) (one id.0 ∙ ap (λ l. is_some (meaning_in l id.0) || list_any (λ c. c.name.0 == id.0) constants) none ∙ sym (found_any (λ c. c.name.0 == id.0) constants) ∙ ap (λ l. is_some (find (λ c. c.name.0 == id.0) l)) constants_are)
    ∙ ap (λ l. is_some (constant_named types id) || is_some (literal_position l id)) kinds_are
