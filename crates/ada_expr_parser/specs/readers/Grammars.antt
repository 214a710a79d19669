-- Grammars: which texts spell a tree with at most so many levels below it. Nothing here reads (this project's rule).
use Rattle.std.specs.Prelude.{◌≡◌, ℕ, zero, suc, ◌≤◌, Bool, true, ◌⊎◌, List, [], ◌∷◌, ◌++◌, Option, Some}

-- by the number of levels that may open below it: the tree and its text
abbrev pub Texts : Type 0 → Type 0 → Type 1
Texts K A = ℕ → A → List K → Type 0

-- no text
abbrev pub Never : {K A : Type 0} → Texts K A
Never d a text = ⊥

-- this tree, by no token
abbrev pub Is : {K A : Type 0} → A → Texts K A
Is a d tree text = (tree ≡ a) × (text ≡ [])

-- one token that passes the test, with its content
abbrev pub One : {K B : Type 0} → (K → Option B) → Texts K B
One {K} test d b text = (k : K) × (text ≡ k ∷ []) × (test k ≡ Some b)

-- a text of the one and then of the other, which may speak of the first tree
abbrev pub Then : {K A B : Type 0} → Texts K A → (A → Texts K B) → Texts K B
Then {K} {A} {B} First Next d b text =
    (a : A) × (front : List K) × (back : List K) × (text ≡ front ++ back) × First d a front × Next a d b back

-- a text of the one or of the other
abbrev pub Or : {K A : Type 0} → Texts K A → Texts K A → Texts K A
Or One_of Other d a text = One_of d a text ⊎ Other d a text

-- one level deeper
abbrev pub Below : {K A : Type 0} → Texts K A → Texts K A
Below Inner zero a text = ⊥
Below Inner (suc d) a text = Inner d a text

-- one level higher, as what stands behind a closing parenthesis
abbrev pub Raised : {K A : Type 0} → Texts K A → Texts K A
Raised D d a text = D (suc d) a text

-- one text after the other
abbrev pub Many : {K A : Type 0} → Texts K A → Texts K (List A)
Many Item d [] text = text ≡ []
Many {K} Item d (a ∷ more) text =
    (front : List K) × (back : List K) × (text ≡ front ++ back) × Item d a front × Many Item d more back

-- the same, at least one
abbrev pub Some_of : {K A : Type 0} → Texts K A → Texts K (List A)
Some_of Item d [] text = ⊥
Some_of {K} Item d (a ∷ more) text = Many Item d (a ∷ more) text

-- the texts of trees up to a height
abbrev pub Up_to : {K A : Type 0} → (A → ℕ) → (A → List K → Type 0) → Texts K A
Up_to height G d a text = G a text × (height a ≤ d)

-- A longer chain: a chain, an operator that may stand behind it, and an operand.
pub record Joined {K A O : Type 0} (join : A → O → A → A) (Operator : A → O → List K → Type 0) (Shorter Operand : A → List K → Type 0) (a : A) (text : List K) : Type 0 where
  pub left : A
  pub o : O
  pub right : A
  pub front : List K
  pub sign : List K
  pub back : List K
  pub tree_is : a ≡ join left o right
  pub text_is : text ≡ front ++ (sign ++ back)
  pub left_is : Shorter left front
  pub sign_is : Operator left o sign
  pub right_is : Operand right back

-- The texts of G are the chains: operands with operators between them, nested to the left.
pub record AreChains {K A O : Type 0} (join : A → O → A → A) (Operator : A → O → List K → Type 0) (First Operand G : A → List K → Type 0) : Type 0 where
  pub opens : (a : A) (text : List K) → G a text → First a text ⊎ Joined join Operator G Operand a text
  pub closes : (a : A) (text : List K) → First a text ⊎ Joined join Operator G Operand a text → G a text

-- some text begins so
abbrev pub Begins : {K A : Type 0} → (A → List K → Type 0) → List K → Type 0
Begins {K} {A} D front = (a : A) × (more : List K) × D a (front ++ more)

-- what a list begins with, or the token behind it
abbrev pub first_of : {K : Type 0} → K → List K → K
first_of x [] = x
first_of x (y ∷ list) = y

-- At this depth each text of the grammar begins with a token of Firsts, and so does what follows its empty text: a token of Stops.
pub record Starts {K A : Type 0} (d : ℕ) (D : Texts K A) (Stops Firsts : K → Type 0) : Type 0 where
  pub begins_with : (a : A) (text : List K) (x : K) → D d a text → Stops x → Firsts (first_of x text)

-- At this depth each text of the grammar has a first token, and it passes the test.
pub record Opens {K A : Type 0} (d : ℕ) (D : Texts K A) (test : K → Bool) : Type 0 where
  pub opens_with : (a : A) (text : List K) → D d a text → (k : K) × (more : List K) × (text ≡ k ∷ more) × (test k ≡ true)
