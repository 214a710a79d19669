-- Readers of a list of tokens, and the words that they are put together with (this project's rule). The depth of a reader is how many levels may still open below what it reads.
use Rattle.std.specs.Prelude.{ℕ, ◌-◌, zero, suc, Bool, true, false, if◌then◌else◌, nat_le, nat_eq, List, [], ◌∷◌, ◌++◌, length, Option, Some, None}

-- What a reader answers: the tree with the tokens behind it, or the rest that begins with the token which decides, and whether it is only too deep.
pub data Answer (K A : Type 0) : Type 0 where
  Found : A → List K → Answer K A
  Fault : Bool → List K → Answer K A

abbrev pub Reader : Type 0 → Type 0 → Type 0
Reader K A = List K → Answer K A

-- the tree with no token
abbrev pub pure : {K A : Type 0} → A → Reader K A
pure a ts = Found a ts

-- no tree
abbrev pub refuse : {K A : Type 0} → Reader K A
refuse ts = Fault false ts

-- an answer, and what is read behind it
abbrev pub go_on : {K A B : Type 0} → Answer K A → (A → Reader K B) → Answer K B
go_on (Found a rest) next = next a rest
go_on (Fault deep rest) next = Fault deep rest

-- p, and then next
abbrev pub bind : {K A B : Type 0} → Reader K A → (A → Reader K B) → Reader K B
bind p next ts = go_on (p ts) next

abbrev pub on_token : {K A B : Type 0} → Option B → (B → Reader K A) → Reader K A → K → List K → Answer K A
on_token (Some b) next other k ts = next b ts
on_token None next other k ts = other (k ∷ ts)

-- If the next token passes the test it is taken, and next goes on; else other reads.
abbrev pub on : {K A B : Type 0} → (K → Option B) → (B → Reader K A) → Reader K A → Reader K A
on test next other [] = Fault false []
on test next other (k ∷ ts) = on_token (test k) next other k ts

-- one token that passes the test
abbrev pub token : {K B : Type 0} → (K → Option B) → Reader K B
token test = on test pure refuse

abbrev pub below_token : {K A B : Type 0} → ℕ → Option B → (ℕ → B → Reader K A) → Reader K A → K → List K → Answer K A
below_token d (Some b) next other k ts = if nat_eq d 0 then Fault true (k ∷ ts) else next (d - 1) b ts
below_token d None next other k ts = other (k ∷ ts)

-- The same for a token that opens what stands one level deeper: where no level is left it is too deep.
abbrev pub below : {K A B : Type 0} → ℕ → (K → Option B) → (ℕ → B → Reader K A) → Reader K A → Reader K A
below d test next other [] = Fault false []
below d test next other (k ∷ ts) = below_token d (test k) next other k ts

-- p, behind which a token must stand that passes the test; it is left
abbrev pub left_at : {K A : Type 0} → (K → Bool) → A → Reader K A
left_at ends a [] = Fault false []
left_at ends a (k ∷ ts) = if ends k then Found a (k ∷ ts) else Fault false (k ∷ ts)

abbrev pub up_to : {K A : Type 0} → (K → Bool) → Reader K A → Reader K A
up_to ends p = bind p (left_at ends)

-- what is too deep, whatever it is
abbrev pub too_deep : {K A : Type 0} → Reader K A
too_deep ts = Fault true ts

-- by the next token, which is left: p where it passes the test, and else other
abbrev pub look : {K A : Type 0} → (K → Bool) → Reader K A → Reader K A → Reader K A
look test p other [] = Fault false []
look test p other (k ∷ ts) = if test k then p (k ∷ ts) else other (k ∷ ts)

-- items, as long as the next token begins one; turns is no less than their number
abbrev pub items_in : {K A : Type 0} → ℕ → (K → Bool) → Reader K A → Reader K (List A)
items_in zero begins item = look begins refuse (pure [])
items_in (suc turns) begins item = look begins (bind item (λ a. bind (items_in turns begins item) (λ more. pure (a ∷ more)))) (pure [])

-- zero or more items, as long as the next token begins one
abbrev pub items : {K A : Type 0} → (K → Bool) → Reader K A → Reader K (List A)
items begins item ts = items_in (length ts) begins item ts

-- the items read so far, before those of an answer
abbrev pub fronted : {K A : Type 0} → List A → Answer K (List A) → Answer K (List A)
fronted done (Found more rest) = Found (done ++ more) rest
fronted done (Fault deep rest) = Fault deep rest

-- one or more
abbrev pub some_items : {K A : Type 0} → (K → Bool) → Reader K A → Reader K (List A)
some_items begins item = bind item (λ a. bind (items begins item) (λ more. pure (a ∷ more)))

-- The operators of one level of expressions: what joins two operands, how high a tree is (0 is a leaf), which tokens go on behind a tree, and how the operator behind it is read.
pub record Operators (K A O : Type 0) : Type 0 where
  pub join : A → O → A → A
  pub height : A → ℕ
  pub goes_on : A → K → Bool
  pub operator : A → Reader K O

-- The chain goes on behind the tree on its left: an operator whose operands would stand too deep is refused itself.
abbrev pub chain_in : {K A O : Type 0} → Operators K A O → ℕ → Reader K A → ℕ → A → Reader K A
chain_in ops d operand zero left = look (ops.goes_on left) too_deep (pure left)
chain_in ops d operand (suc turns) left =
    look (ops.goes_on left)
    (if nat_le d (ops.height left) then too_deep
    else bind (ops.operator left) (λ o. bind operand (λ right. chain_in ops d operand turns (ops.join left o right))))
    (pure left)

-- with as many turns as there are levels, which is enough
abbrev pub chain_more : {K A O : Type 0} → Operators K A O → ℕ → Reader K A → A → Reader K A
chain_more ops d operand left = chain_in ops d operand d left

-- a first operand, and then operators with operands one level deeper, nested to the left
abbrev pub chain : {K A O : Type 0} → Operators K A O → ℕ → Reader K A → Reader K A → Reader K A
chain ops d first operand = bind first (chain_more ops d operand)
