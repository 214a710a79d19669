-- What the laws come to: a reader at every depth and its grammar (this project's rule).
use Rattle.std.specs.Prelude.{◌≡◌, ◌↔◌, ℕ, suc, Bool, true, false, List, [], ◌∷◌, ◌++◌}
use Rattle.ada_expr_parser.specs.readers.Readers.{Answer, Reader, Found, Fault, up_to}
use Rattle.ada_expr_parser.specs.readers.Grammars.{Texts, Begins}
use Rattle.ada_expr_parser.specs.readers.Lawful.{Lawful, IsYes}

-- The reader of each depth keeps the laws of the grammar.
abbrev pub LawfulAtEach : {K A : Type 0} → (ℕ → Reader K A) → Texts K A → (K → Type 0) → Type 0
LawfulAtEach p D Stops = (d : ℕ) → Lawful d (p d) (p (suc d)) D Stops

-- Up to a token that stops it, exactly the texts are found; each has one tree.
pub record FindsExactly {K A : Type 0} (p : ℕ → Reader K A) (D : Texts K A) (Stops : K → Type 0) : Type 0 where
  pub finds : (d : ℕ) (a : A) (front : List K) (x : K) (rest : List K) → Stops x → (p d (front ++ (x ∷ rest)) ≡ Found a (x ∷ rest)) ↔ D d a front
  pub one_tree : (d e : ℕ) (a b : A) (text : List K) → D d a text → D e b text → a ≡ b

-- The tokens before x begin some text of this depth, and with x none of any depth.
pub record IsSyntax {K A : Type 0} (D : Texts K A) (d : ℕ) (ts : List K) (x : K) (rest : List K) : Type 0 where
  pub front : List K
  pub tokens : ts ≡ front ++ (x ∷ rest)
  pub before : Begins (D d) front
  pub never : (e : ℕ) → Begins (D e) (front ++ (x ∷ [])) → ⊥

-- The tokens before x begin some text of this depth, and with x only deeper ones, and one at least.
pub record IsTooDeep {K A : Type 0} (D : Texts K A) (d : ℕ) (ts : List K) (x : K) (rest : List K) : Type 0 where
  pub front : List K
  pub tokens : ts ≡ front ++ (x ∷ rest)
  pub before : Begins (D d) front
  pub not_here : Begins (D d) (front ++ (x ∷ [])) → ⊥
  pub deeper : (e : ℕ) × Begins (D e) (front ++ (x ∷ []))

-- Each fault is what it says.
pub record FaultsExactly {K A : Type 0} (p : ℕ → Reader K A) (D : Texts K A) : Type 0 where
  pub syntax_at : (d : ℕ) (ts : List K) (x : K) (rest : List K) → p d ts ≡ Fault false (x ∷ rest) → IsSyntax D d ts x rest
  pub too_deep_at : (d : ℕ) (ts : List K) (x : K) (rest : List K) → p d ts ≡ Fault true (x ∷ rest) → IsTooDeep D d ts x rest

-- A whole text: a text and then a token that ends it.
abbrev pub WholeText : {K A : Type 0} → (K → Bool) → Texts K A → Texts K A
WholeText {K} ends D d a text = (front : List K) × (x : K) × (text ≡ front ++ (x ∷ [])) × (ends x ≡ true) × D d a front

-- A reader of whole texts, which leaves the token that ends them.
abbrev pub whole : {K A : Type 0} → (K → Bool) → (ℕ → Reader K A) → ℕ → Reader K A
whole ends p d = up_to ends (p d)

-- What it finds before an end is what spells a tree, and each fault is what it says of whole texts.
pub record ReadsWhole {K A : Type 0} (ends : K → Bool) (p : ℕ → Reader K A) (D : Texts K A) : Type 0 where
  pub reads : (d : ℕ) (a : A) (front : List K) (x : K) (rest : List K) → ends x ≡ true → (whole ends p d (front ++ (x ∷ rest)) ≡ Found a (x ∷ rest)) ↔ D d a front
  pub stops : (d : ℕ) (ts : List K) (a : A) (rest : List K) → whole ends p d ts ≡ Found a rest → (x : K) × (more : List K) × (rest ≡ x ∷ more) × (ends x ≡ true)
  pub one_tree : (d e : ℕ) (a b : A) (text : List K) → D d a text → D e b text → a ≡ b
  pub faults : FaultsExactly (whole ends p) (WholeText ends D)

-- the texts that a test tells, at each depth and for each tree
abbrev pub Told : {K A : Type 0} → (ℕ → A → List K → Bool) → Texts K A
Told told d a text = told d a text ≡ true

-- Readers that keep the laws of a grammar at every depth read its whole texts exactly.
abbrev pub LawsReadWhole : Type 0 → Type 0 → Type 0
LawsReadWhole K A = (ends : K → Bool) (p : ℕ → List K → Answer K A) (told : ℕ → A → List K → Bool) (s : K) → ends s ≡ true →
    LawfulAtEach p (Told told) (IsYes ends) → ReadsWhole ends p (Told told)
