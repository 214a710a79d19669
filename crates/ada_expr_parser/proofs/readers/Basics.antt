-- What follows from an answer, and small facts on lists of tokens.
use Rattle.std.proofs.Common.{◌≡◌, Bool, true, false, ◌⊎◌, inl, inr, ⊎_elim, List, [], ◌∷◌, ◌++◌, refl, sym, ap, ◌∙◌, subst, true≢false, Option, Some, None}
use Rattle.std.proofs.lemmas.List.{append_assoc, append_cancel_right}
use Rattle.ada_expr_parser.specs.readers.Readers.{Answer, Found, Fault, Reader, go_on}

abbrev IsFound : {K A : Type 0} → Answer K A → Type 0
IsFound (Found a rest) = Unit {0}
IsFound (Fault deep rest) = ⊥

-- nothing is found and at fault
pub not_both : {K A : Type 0} {a : A} {rest : List K} {deep : Bool} {stop : List K} → Found a rest ≡ Fault deep stop → ⊥
not_both e = subst IsFound e tt

abbrev rest_in : {K A : Type 0} → Answer K A → List K
rest_in (Found a rest) = rest
rest_in (Fault deep rest) = rest

abbrev deep_in : {K A : Type 0} → Answer K A → Bool
deep_in (Found a rest) = false
deep_in (Fault deep rest) = deep

abbrev tree_in : {K A : Type 0} → A → Answer K A → A
tree_in other (Found a rest) = a
tree_in other (Fault deep rest) = other

pub found_tree : {K A : Type 0} {a b : A} {rest stop : List K} → Found a rest ≡ Found b stop → a ≡ b
found_tree {a = a} e = ap (tree_in a) e

pub found_rest : {K A : Type 0} {a b : A} {rest stop : List K} → Found a rest ≡ Found b stop → rest ≡ stop
found_rest e = ap rest_in e

pub fault_rest : {K A : Type 0} {deep shallow : Bool} {rest stop : List K} → ◌≡◌ {A = Answer K A} (Fault deep rest) (Fault shallow stop) → rest ≡ stop
fault_rest e = ap rest_in e

pub fault_deep : {K A : Type 0} {deep shallow : Bool} {rest stop : List K} → ◌≡◌ {A = Answer K A} (Fault deep rest) (Fault shallow stop) → deep ≡ shallow
fault_deep e = ap deep_in e

-- a fault is not both too deep and not
pub not_deep : {K A : Type 0} {rest stop : List K} → ◌≡◌ {A = Answer K A} (Fault false rest) (Fault true stop) → ⊥
not_deep e = true≢false (sym (fault_deep e))

abbrev refaulted : {K A B : Type 0} → Answer K A → Answer K B
refaulted (Found a rest) = Fault false rest
refaulted (Fault deep rest) = Fault deep rest

-- what was found after two readers was found by the one and then by the other
pub found_through : {K A B : Type 0} (answer : Answer K A) (next : A → Reader K B) {b : B} {rest : List K} → go_on answer next ≡ Found b rest →
    (a : A) × (middle : List K) × (answer ≡ Found a middle) × (next a middle ≡ Found b rest)
found_through (Found a middle) next e = (a, middle, refl, e)
found_through (Fault deep middle) next e = absurd (not_both (sym e))

-- a fault of two readers is a fault of the first, or of the second behind what the first found
pub fault_through : {K A B : Type 0} (answer : Answer K A) (next : A → Reader K B) {deep : Bool} {rest : List K} → go_on answer next ≡ Fault deep rest →
    (answer ≡ Fault deep rest) ⊎ ((a : A) × (middle : List K) × (answer ≡ Found a middle) × (next a middle ≡ Fault deep rest))
fault_through (Found a middle) next e = inr (a, middle, refl, e)
fault_through (Fault deep middle) next e = inl (ap refaulted e)

-- two fronts of one list
pub joined_front : {K : Type 0} {ts : List K} (f g : List K) {middle : List K} (rest : List K) → ts ≡ f ++ middle → middle ≡ g ++ rest → ts ≡ (f ++ g) ++ rest
joined_front f g {middle} rest e h = e ∙ ap (λ l. f ++ l) h ∙ sym (append_assoc f g rest)

pub front_is : {K : Type 0} (front f g rest : List K) {middle : List K} → front ++ rest ≡ f ++ middle → middle ≡ g ++ rest → front ≡ f ++ g
front_is front f g rest e h = append_cancel_right front (f ++ g) rest (joined_front f g rest e h)

abbrev IsEmpty : {K : Type 0} → List K → Type 0
IsEmpty [] = Unit {0}
IsEmpty (x ∷ list) = ⊥

-- a list with a token is not empty
pub not_empty : {K : Type 0} (f : List K) (x : K) (rest : List K) → [] ≡ f ++ (x ∷ rest) → ⊥
not_empty [] x rest e = subst IsEmpty e tt
not_empty (y ∷ f) x rest e = subst IsEmpty e tt

-- no list stands behind a token of its own
pub not_behind : {K : Type 0} (f : List K) (x : K) (rest : List K) → rest ≡ f ++ (x ∷ rest) → ⊥
not_behind f x rest e = not_empty f x [] (append_cancel_right [] (f ++ (x ∷ [])) rest (e ∙ sym (append_assoc f (x ∷ []) rest)))

-- a test takes a token or not
pub tested : {B : Type 0} (m : Option B) → (m ≡ None) ⊎ ((b : B) × (m ≡ Some b))
tested None = inl refl
tested (Some b) = inr (b, refl)

abbrev tail_of : {K : Type 0} → List K → List K
tail_of [] = []
tail_of (x ∷ list) = list

abbrev head_or : {K : Type 0} → K → List K → K
head_or x [] = x
head_or x (y ∷ list) = y

-- the last token and those before it
pub same_last : {K : Type 0} (f g : List K) (x y : K) → f ++ (x ∷ []) ≡ g ++ (y ∷ []) → (f ≡ g) × (x ≡ y)
same_last [] [] x y e = (refl, ap (head_or x) e)
same_last [] (z ∷ g) x y e = absurd (not_empty g y [] (ap tail_of e))
same_last (z ∷ f) [] x y e = absurd (not_empty f x [] (sym (ap tail_of e)))
same_last (z ∷ f) (w ∷ g) x y e =
    let (front, last) = same_last f g x y (ap tail_of e) in
    (ap (λ h. h ∷ f) (ap (head_or z) e) ∙ ap (λ l. w ∷ l) front, last)

pub last_split : {K : Type 0} (list : List K) → (list ≡ []) ⊎ ((front : List K) × (x : K) × (list ≡ front ++ (x ∷ [])))
last_split [] = inl refl
last_split (y ∷ list) = ⊎_elim
    (λ none. inr ([], y, ap (λ l. y ∷ l) none))
    (λ (front, x, is). inr (y ∷ front, x, ap (λ l. y ∷ l) is))
    (last_split list)
