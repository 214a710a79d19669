-- How what is read goes on, when a reader is cut into two that follow each other.
use Rattle.std.proofs.Common.{◌≡◌, ℕ, ◌-◌, ◌≤◌, nat_eq, Bool, true, false, cond, List, [], ◌∷◌, Option, Some, None, is_some, Result, Ok, Err, length, get_or, refl, sym, ap, subst, ◌∙◌, arith}
use Rattle.ada_expr_parser.specs.readers.Readers.{Answer, Found, Fault, Reader, pure, refuse, go_on, on_token, on, below_token, below, look}
use Rattle.ada_tree.specs.declared.naming.Span.{Span}
use Rattle.ada_expr_parser.specs.declared.items.Item.{Item}
use Rattle.ada_expr_parser.specs.declared.errors.ParseError.{ParseError}
use Rattle.ada_expr_parser.specs.Gives.{Gives, Fails}
use Rattle.ada_expr_parser.specs.joining.Joining.{Joined}

-- readers that agree behind each answer
pub agree : {A C : Type 0} (x : Answer Item A) (f g : A → Reader Item C) → ((a : A) (rest : List Item) → f a rest ≡ g a rest) → go_on x f ≡ go_on x g
agree (Found a rest) f g h = h a rest
agree (Fault deep rest) f g h = refl

if_goes : {B C : Type 0} (c : Bool) (ts : List Item) (x : Answer Item C) (y : Answer Item B) (next : B → Reader Item C) → x ≡ go_on y next → cond c (Fault true ts) x ≡ go_on (cond c (Fault true ts) y) next
if_goes true ts x y next h = refl
if_goes false ts x y next h = h

module _ {A B C : Type 0} where
  pub goes : (x : Answer Item A) (f : A → Reader Item C) (g : A → Reader Item B) (next : B → Reader Item C) → ((a : A) (rest : List Item) → f a rest ≡ go_on (g a rest) next) → go_on x f ≡ go_on (go_on x g) next
  goes (Found a rest) f g next h = h a rest
  goes (Fault deep rest) f g next h = refl

  on_token_goes :
      (t : Option A) (f : A → Reader Item C) (g : A → Reader Item B) (other : Reader Item C) (second : Reader Item B) (next : B → Reader Item C) (k : Item) (ts : List Item) →
      ((a : A) (rest : List Item) → f a rest ≡ go_on (g a rest) next) → ((rest : List Item) → other rest ≡ go_on (second rest) next) →
      on_token t f other k ts ≡ go_on (on_token t g second k ts) next
  on_token_goes (Some a) f g other second next k ts h o = h a ts
  on_token_goes None f g other second next k ts h o = o (k ∷ ts)

  pub on_goes :
      (test : Item → Option A) (f : A → Reader Item C) (g : A → Reader Item B) (other : Reader Item C) (second : Reader Item B) (next : B → Reader Item C) (ts : List Item) →
      ((a : A) (rest : List Item) → f a rest ≡ go_on (g a rest) next) → ((rest : List Item) → other rest ≡ go_on (second rest) next) →
      on test f other ts ≡ go_on (on test g second ts) next
  on_goes test f g other second next [] h o = refl
  on_goes test f g other second next (k ∷ ts) h o = on_token_goes (test k) f g other second next k ts h o

  below_token_goes :
      (d : ℕ) (t : Option A) (f : ℕ → A → Reader Item C) (g : ℕ → A → Reader Item B) (other : Reader Item C) (second : Reader Item B) (next : B → Reader Item C) (k : Item) (ts : List Item) →
      ((e : ℕ) (a : A) (rest : List Item) → f e a rest ≡ go_on (g e a rest) next) → ((rest : List Item) → other rest ≡ go_on (second rest) next) →
      below_token d t f other k ts ≡ go_on (below_token d t g second k ts) next
  below_token_goes d (Some a) f g other second next k ts h o = if_goes (nat_eq d 0) (k ∷ ts) (f (d - 1) a ts) (g (d - 1) a ts) next (h (d - 1) a ts)
  below_token_goes d None f g other second next k ts h o = o (k ∷ ts)

  pub below_goes :
      (d : ℕ) (test : Item → Option A) (f : ℕ → A → Reader Item C) (g : ℕ → A → Reader Item B) (other : Reader Item C) (second : Reader Item B) (next : B → Reader Item C) (ts : List Item) →
      ((e : ℕ) (a : A) (rest : List Item) → f e a rest ≡ go_on (g e a rest) next) → ((rest : List Item) → other rest ≡ go_on (second rest) next) →
      below d test f other ts ≡ go_on (below d test g second ts) next
  below_goes d test f g other second next [] h o = refl
  below_goes d test f g other second next (k ∷ ts) h o = below_token_goes d (test k) f g other second next k ts h o

-- a token that must stand there, in the place of a choice that refuses all others
only_token : {A B : Type 0} (t : Option A) (f : A → Reader Item B) (k : Item) (ts : List Item) → on_token t f refuse k ts ≡ go_on (on_token t pure refuse k ts) f
only_token (Some a) f k ts = refl
only_token None f k ts = refl

pub only : {A B : Type 0} (test : Item → Option A) (f : A → Reader Item B) (ts : List Item) → on test f refuse ts ≡ go_on (on test pure refuse ts) f
only test f [] = refl
only test f (k ∷ ts) = only_token (test k) f k ts

place_is : (a b : Span) → Some a ≡ Some b → a ≡ b
place_is a b is = cc

-- a symbol that stands at its item's place, where there is a level
pub below_here :
    {B C : Type 0} (d : ℕ) (t : Option Span) (f : ℕ → Span → Reader Item C) (g : Span → Reader Item B) (other : Reader Item C) (second : Reader Item B) (next : B → Reader Item C) (k : Item) (ts : List Item) (at : Span) →
    t ≡ cond (is_some t) (Some at) None → nat_eq d 0 ≡ false → f (d - 1) at ts ≡ go_on (g at ts) next → (is_some t ≡ false → other (k ∷ ts) ≡ go_on (second (k ∷ ts)) next) →
    below_token d t f other k ts ≡ go_on (on_token t g second k ts) next
below_here d None f g other second next k ts at place room h o = o refl
below_here d (Some b) f g other second next k ts at place room h o =
    let there : b ≡ at = place_is b at place in
    ap (λ c. cond c (Fault true (k ∷ ts)) (f (d - 1) b ts)) room ∙ subst (λ s. f (d - 1) s ts ≡ go_on (g s ts) next) (sym there) h

-- an answer in the place of an equal one
pub same_gives : {X A : Type 0} (result : Result X ParseError) (tree : X → A) (rest : X → List Item) (a b : Answer Item A) → a ≡ b → Gives tree rest result b → Gives tree rest result a
same_gives result tree rest a b e h = subst (λ answer. Gives tree rest result answer) (sym e) h

-- where the next item passes the test
pub look_there : {A : Type 0} (test : Item → Bool) (p other : Reader Item A) (ts : List Item) (dummy : Item) → 1 ≤ length ts → test (get_or ts 0 dummy) ≡ true → look test p other ts ≡ p ts
look_there test p other [] dummy some is = absurd (omega arith)
look_there test p other (k ∷ ts) dummy some is = ap (λ b. cond b (p (k ∷ ts)) (other (k ∷ ts))) is

abbrev fault_of : {A : Type 0} → ParseError → Result A ParseError → ParseError
fault_of other (Ok x) = other
fault_of other (Err e) = e

abbrev value_of : {A : Type 0} → A → Result A ParseError → A
value_of other (Ok x) = x
value_of other (Err e) = other

-- what is known of a part that was joined with what stands before it
module _ {X Y A : Type 0} (first : X) where
  pub joined_fails : (part : Result Y ParseError) (e : ParseError) (tree : Y → A) (rest : Y → List Item) (answer : Answer Item A) → Joined first part (Err e) → Gives tree rest part answer → Fails e answer
  joined_fails (Ok y) e tree rest answer joined gives = cc
  joined_fails (Err f) e tree rest answer joined gives = subst (λ g. Fails g answer) (sym (ap (fault_of e) joined)) gives

  pub joined_found :
      (part : Result Y ParseError) (before : X) (y : Y) (tree : Y → A) (rest : Y → List Item) (answer : Answer Item A) → Joined first part (Ok (before, y)) → Gives tree rest part answer → answer ≡ Found (tree y) (rest y)
  joined_found (Ok z) before y tree rest answer joined gives = gives ∙ ap (λ w. Found (tree w) (rest w)) (sym (ap (λ (r : Result (X × Y) ParseError). (value_of (before, y) r).1) joined))
  joined_found (Err f) before y tree rest answer joined gives = cc

module _ {X Y : Type 0} (first : X) where
  pub joined_first : (part : Result Y ParseError) (before : X) (y : Y) → Joined first part (Ok (before, y)) → before ≡ first
  joined_first (Ok z) before y joined = ap (λ (r : Result (X × Y) ParseError). (value_of (before, y) r).0) joined
  joined_first (Err f) before y joined = cc
