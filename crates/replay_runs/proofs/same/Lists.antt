-- Searches, tests and places in a list of changed things.
use Rattle.std.proofs.Common.{◌++◌, ◌+◌, ◌||◌, ◌∙◌, ◌∷◌, ◌≡◌, Bool, List, None, Option, Some, [], ap, ap₂, cond, count_by, false, find, flat_map, if◌then◌else◌, map, nat_lt, not, option_map, position, refl, slice_index_or, sym, true, unwrap_or, ℕ}
use Rattle.std.proofs.Math.ListN.{get_or-map}
use Rattle.std.proofs.lemmas.List.{length-map, map-append}
use Rattle.std.specs.List.{fold, list_any, prefix_len}

pub if_pushed : {A B : Type 0} (h : A → B) (b : Bool) (x y : A) → (if b then h x else h y) ≡ h (if b then x else y)
if_pushed h true x y = refl
if_pushed h false x y = refl

-- an if whose test is the same, and whose parts are changed
pub if_like : {A B : Type 0} (h : A → B) (c b : Bool) {x y : A} {x' y' : B} → c ≡ b → x' ≡ h x → y' ≡ h y → (if c then x' else y') ≡ h (if b then x else y)
if_like h c b {x} {y} {x'} {y'} e p q = (λ i. if e i then p i else q i) ∙ if_pushed h b x y

pub find_mapped : {A B : Type 0} (h : A → B) (p : B → Bool) (q : A → Bool) → ((x : A) → p (h x) ≡ q x) → (xs : List A) → find p (map h xs) ≡ option_map h (find q xs)
find_mapped h p q like [] = refl
find_mapped h p q like (x ∷ xs) = (λ i. cond (like x i) (Some (h x)) (find_mapped h p q like xs i)) ∙ pushed (q x)
  where
    pushed : (b : Bool) → cond b (Some (h x)) (option_map h (find q xs)) ≡ option_map h (cond b (Some x) (find q xs))
    pushed true = refl
    pushed false = refl

-- how many elements stand before the first that passes
before_mapped : {A B : Type 0} (h : A → B) (p : B → Bool) (q : A → Bool) → ((x : A) → p (h x) ≡ q x) → (xs : List A) → prefix_len (λ y. not (p y)) (map h xs) ≡ prefix_len (λ x. not (q x)) xs
before_mapped h p q like [] = refl
before_mapped h p q like (x ∷ xs) = λ i. cond (not (like x i)) (1 + before_mapped h p q like xs i) 0

pub position_mapped : {A B : Type 0} (h : A → B) (p : B → Bool) (q : A → Bool) → ((x : A) → p (h x) ≡ q x) → (xs : List A) → position p (map h xs) ≡ position q xs
position_mapped h p q like xs = ap₂ (λ n k. if nat_lt n k then Some n else None) (before_mapped h p q like xs) (length-map xs h)

pub any_mapped : {A B : Type 0} (h : A → B) (p : B → Bool) (q : A → Bool) → ((x : A) → p (h x) ≡ q x) → (xs : List A) → list_any p (map h xs) ≡ list_any q xs
any_mapped h p q like [] = refl
any_mapped h p q like (x ∷ xs) = λ i. like x i || any_mapped h p q like xs i

pub map_twice : {A B C D : Type 0} (h : A → B) (k : B → D) (l : A → C) (m : C → D) → ((x : A) → k (h x) ≡ m (l x)) → (xs : List A) → map k (map h xs) ≡ map m (map l xs)
map_twice h k l m like [] = refl
map_twice h k l m like (x ∷ xs) = λ i. like x i ∷ map_twice h k l m like xs i

pub map_once : {A B D : Type 0} (h : A → B) (k : B → D) (m : A → D) → ((x : A) → k (h x) ≡ m x) → (xs : List A) → map k (map h xs) ≡ map m xs
map_once h k m like [] = refl
map_once h k m like (x ∷ xs) = λ i. like x i ∷ map_once h k m like xs i

pub flat_mapped : {A B C D : Type 0} (h : A → B) (k : B → List D) (l : A → List C) (m : C → D) → ((x : A) → k (h x) ≡ map m (l x)) → (xs : List A) → flat_map k (map h xs) ≡ map m (flat_map l xs)
flat_mapped h k l m like [] = refl
flat_mapped h k l m like (x ∷ xs) = (λ i. like x i ++ flat_mapped h k l m like xs i) ∙ sym (map-append m (l x) (flat_map l xs))

pub option_twice : {A B C D : Type 0} (h : A → B) (k : B → D) (l : A → C) (m : C → D) → ((x : A) → k (h x) ≡ m (l x)) → (o : Option A) → option_map k (option_map h o) ≡ option_map m (option_map l o)
option_twice h k l m same None = refl
option_twice h k l m like (Some x) = ap Some (like x)

pub option_once : {A B D : Type 0} (h : A → B) (k : B → D) (m : A → D) → ((x : A) → k (h x) ≡ m x) → (o : Option A) → option_map k (option_map h o) ≡ option_map m o
option_once h k m same None = refl
option_once h k m like (Some x) = ap Some (like x)

pub unwrapped : {A B : Type 0} (h : A → B) (o : Option A) (x : A) → unwrap_or (option_map h o) (h x) ≡ h (unwrap_or o x)
unwrapped h None x = refl
unwrapped h (Some y) x = refl

pub set_mapped : {A B : Type 0} (h : A → B) (xs : List A) (n : ℕ) (d : A) → slice_index_or (map h xs) n (h d) ≡ h (slice_index_or xs n d)
set_mapped h xs n d = get_or-map h xs n d

count_from : {A B : Type 0} (h : A → B) (p : B → Bool) (q : A → Bool) → ((x : A) → p (h x) ≡ q x) → (xs : List A) (n : ℕ) →
    fold (λ a x. a + cond (p x) 1 0) n (map h xs) ≡ fold (λ a x. a + cond (q x) 1 0) n xs
count_from h p q like [] n = refl
count_from h p q like (x ∷ xs) n = ap (λ b. fold (λ a y. a + cond (p y) 1 0) (n + cond b 1 0) (map h xs)) (like x) ∙ count_from h p q like xs (n + cond (q x) 1 0)

pub count_mapped : {A B : Type 0} (h : A → B) (p : B → Bool) (q : A → Bool) → ((x : A) → p (h x) ≡ q x) → (xs : List A) → count_by p (map h xs) ≡ count_by q xs
count_mapped h p q like xs = count_from h p q like xs 0
