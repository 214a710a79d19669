-- The laws that join a reader to its grammar (this project's rule).
use Rattle.std.specs.Prelude.{◌≡◌, ℕ, suc, max, ◌<◌, ◌≤◌, Bool, true, false, ◌⊎◌, List, [], ◌∷◌, ◌++◌, length, Option, None}
use Rattle.ada_expr_parser.specs.readers.Readers.{Reader, Found, Fault, Operators}
use Rattle.ada_expr_parser.specs.readers.Grammars.{Texts, Begins, first_of}

-- The reader p of depth d, with deeper as the same reader of one level more, before a token of Stops. Other branches of an alternative need no more than this.
pub record Careful {K A : Type 0} (d : ℕ) (p deeper : Reader K A) (D : Texts K A) (Stops : K → Type 0) : Type 0 where
  -- what it finds is a text, and the rest is what stands behind it
  pub sound : {ts : List K} {a : A} {rest : List K} → p ts ≡ Found a rest → (front : List K) × (ts ≡ front ++ rest) × D d a front
  -- each text is found before a token that stops it
  pub complete : {a : A} {front : List K} (x : K) (rest : List K) → D d a front → Stops x → p (front ++ (x ∷ rest)) ≡ Found a (x ∷ rest)
  -- the tokens before a fault begin some text, unless there are none
  pub viable : {ts : List K} {deep : Bool} {rest : List K} → p ts ≡ Fault deep rest → (front : List K) × (ts ≡ front ++ rest) × ((front ≡ []) ⊎ Begins (D d) front)
  -- with a token that is too deep they begin a deeper text
  pub only_deeper : {ts : List K} {x : K} {rest : List K} → p ts ≡ Fault true (x ∷ rest) →
      (front : List K) × (ts ≡ front ++ (x ∷ rest)) × (e : ℕ) × (d ≤ e) × Begins (D e) (front ++ (x ∷ []))
  -- what stands behind the token that decides is no matter
  pub found_alike : (front : List K) {a : A} {x : K} {rest : List K} (other : List K) → p (front ++ (x ∷ rest)) ≡ Found a (x ∷ rest) → p (front ++ (x ∷ other)) ≡ Found a (x ∷ other)
  pub fault_alike : (front : List K) {deep : Bool} {x : K} {rest : List K} (other : List K) → p (front ++ (x ∷ rest)) ≡ Fault deep (x ∷ rest) → p (front ++ (x ∷ other)) ≡ Fault deep (x ∷ other)
  -- at one level more the answer is the same, unless something was too deep
  pub found_deeper : {ts : List K} {a : A} {rest : List K} → p ts ≡ Found a rest → deeper ts ≡ Found a rest
  pub fault_deeper : {ts : List K} {rest : List K} → p ts ≡ Fault false rest → deeper ts ≡ Fault false rest
  -- a text is a text at each greater depth
  pub grows : {a : A} {front : List K} (e : ℕ) → d ≤ e → D d a front → D e a front

-- The same of a grammar that has a text at this depth and each greater one.
pub record Lawful {K A : Type 0} (d : ℕ) (p deeper : Reader K A) (D : Texts K A) (Stops : K → Type 0) : Type 0 where
  pub careful : Careful d p deeper D Stops
  pub some_text : (e : ℕ) → d ≤ e → (a : A) × (front : List K) × D e a front

-- The test passes none of these.
abbrev pub IsPassed : {K B : Type 0} → (K → Option B) → K → Type 0
IsPassed test k = test k ≡ None

-- What it finds takes at least one token.
abbrev pub Shortens : {K A : Type 0} → Reader K A → Type 0
Shortens {K} {A} p = (ts : List K) (a : A) (rest : List K) → p ts ≡ Found a rest → length rest < length ts

-- Tests of tokens as sets of tokens.
abbrev pub IsYes : {K : Type 0} → (K → Bool) → K → Type 0
IsYes test k = test k ≡ true

abbrev pub IsNo : {K : Type 0} → (K → Bool) → K → Type 0
IsNo test k = test k ≡ false

-- each token
abbrev pub Anything : {K : Type 0} → K → Type 0
Anything k = Unit {0}

-- What a chain asks of its operators: their texts, and the texts of operands. Before a token of Signs an operator's text ends, before one of Operands an operand, before one of Stops the chain.
pub record LawfulOperators {K A O : Type 0} (ops : Operators K A O) (Operator : A → O → List K → Type 0) (Operand : A → List K → Type 0) (Signs Operands Stops : K → Type 0) : Type 0 where
  -- a tree stands above its operands
  pub joined : (left : A) (o : O) (right : A) → ops.height (ops.join left o right) ≡ suc (max (ops.height left) (ops.height right))
  -- the operator behind a tree is read, at whatever depth
  pub reads : (d : ℕ) (left : A) → Careful d (ops.operator left) (ops.operator left) (λ e. Operator left) Signs
  -- it begins with the tokens that go on
  pub begins_so : (left : A) (o : O) (text : List K) (x : K) → Operator left o text → ops.goes_on left (first_of x text) ≡ true
  pub some_operator : (left : A) (k : K) → ops.goes_on left k ≡ true → (o : O) × (more : List K) × Operator left o (k ∷ more)
  -- some operand is a leaf
  pub some_operand : (right : A) × (text : List K) × Operand right text × (ops.height right ≡ 0)
  -- what stops what
  pub before_operand : (right : A) (text : List K) (x : K) → Operand right text → Operands x → Signs (first_of x text)
  pub before_operator : (left : A) (k : K) → ops.goes_on left k ≡ true → Operands k
  pub at_end : (x : K) → Stops x → Operands x
  pub ends : (left : A) (x : K) → Stops x → ops.goes_on left x ≡ false
