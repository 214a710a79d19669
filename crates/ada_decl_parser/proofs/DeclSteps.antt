-- How the pieces of declarations that the code reads fit together.
use Rattle.std.proofs.Common.{◌≡◌, ℕ, ◌<◌, List, [], ◌∷◌, Option, Some, None, length, get_or, refl, sym, ap, subst, arith}
use Rattle.ada_expr_parser.specs.readers.Readers.{Answer, Found, Fault, Reader, pure, go_on, bind, on, on_token, token, fronted}
use Rattle.ada_tree.specs.declared.naming.Word.{Word}
use Rattle.ada_tree.specs.PlainDecl.{PDecl}
use Rattle.ada_lexer.specs.declared.symbols.Symbol.TheVariants as key
use Rattle.ada_lexer.specs.declared.symbols.Symbol.{Symbol}
use Rattle.ada_expr_parser.specs.declared.items.Item.{Item}
use Rattle.ada_expr_parser.specs.Tests.{word}
use Rattle.ada_phrase_parser.specs.Reading.{key_then, more_behind, separated}
use Rattle.ada_decl_parser.specs.inner.ReadingDeclarations.{names_behind, object_rest, named_rest, number_or_constant}
use Rattle.ada_decl_parser.specs.inner.DeclViews.{with_names, object_of, named_of, constant_of, number_of}

through_answer : {A B C : Type 0} (r : Answer Item A) (f : A → Reader Item B) (g : B → Reader Item C) (h : A → Reader Item C) → ((a : A) (ts : List Item) → h a ts ≡ go_on (f a ts) g) → go_on r h ≡ go_on (go_on r f) g
through_answer (Found a rest) f g h each = each a rest
through_answer (Fault deep rest) f g h each = refl

-- what is read in one go is what is read in two
pub through : {A B C : Type 0} (m : Reader Item A) (f : A → Reader Item B) (g : B → Reader Item C) (h : A → Reader Item C) → ((a : A) (ts : List Item) → h a ts ≡ go_on (f a ts) g) → (ts : List Item) → bind m h ts ≡ go_on (bind m f ts) g
through m f g h each ts = through_answer (m ts) f g h each

-- names, a colon and what stands behind them
pub names_are : (next : Word → List Word → Reader Item PDecl) (ts : List Item) → bind (token word) (names_behind next) ts ≡ bind (separated key.Comma (token word)) (λ names. key_then key.Colon (with_names next names)) ts
names_are next ts =
    through (token word) (λ w. bind (more_behind key.Comma (token word)) (λ more. pure (w ∷ more))) (λ names. key_then key.Colon (with_names next names)) (names_behind next)
    (λ w rest. through (more_behind key.Comma (token word)) (λ more. pure (w ∷ more)) (λ names. key_then key.Colon (with_names next names)) (λ more. key_then key.Colon (next w more)) (λ more last. refl) rest)
    ts

-- the same by a test of the next item
through_token :
    {A B C : Type 0} (o : Option A) (f : A → Reader Item B) (g : B → Reader Item C) (h : A → Reader Item C) (other : Reader Item B) (others : Reader Item C) →
    ((a : A) (ts : List Item) → h a ts ≡ go_on (f a ts) g) → ((ts : List Item) → others ts ≡ go_on (other ts) g) → (k : Item) (ts : List Item) → on_token o h others k ts ≡ go_on (on_token o f other k ts) g
through_token (Some a) f g h other others each else k ts = each a ts
through_token None f g h other others each else k ts = else (k ∷ ts)

pub through_on :
    {A B C : Type 0} (test : Item → Option A) (f : A → Reader Item B) (g : B → Reader Item C) (h : A → Reader Item C) (other : Reader Item B) (others : Reader Item C) →
    ((a : A) (ts : List Item) → h a ts ≡ go_on (f a ts) g) → ((ts : List Item) → others ts ≡ go_on (other ts) g) → (ts : List Item) → on test h others ts ≡ go_on (on test f other ts) g
through_on test f g h other others each else [] = refl
through_on test f g h other others each else (k ∷ ts) = through_token (test k) f g h other others each else k ts

-- the first name says where a declaration begins
pub object_named : (d : ℕ) (names : List Word) (ts : List Item) (first : Word) → 0 < length names → first ≡ get_or names 0 first → with_names (object_rest d) names ts ≡ object_of d names first.span ts
object_named d [] ts first some is = absurd (omega arith)
object_named d (w ∷ more) ts first some is = ap (λ v. object_of d (w ∷ more) v.span ts) (sym is)

pub named_named : (d : ℕ) (names : List Word) (ts : List Item) (first : Word) → 0 < length names → first ≡ get_or names 0 first → with_names (named_rest d) names ts ≡ named_of d names first.span ts
named_named d [] ts first some is = absurd (omega arith)
named_named d (w ∷ more) ts first some is = ap (λ v. named_of d (w ∷ more) v.span ts) (sym is)

-- one name may be a number's, and more may not
pub one_named : (d : ℕ) (names : List Word) (ts : List Item) (first : Word) → length names ≡ 1 → first ≡ get_or names 0 first → with_names (number_or_constant d) names ts ≡ number_of d names first ts
one_named d [] ts first one is = absurd (omega (arith, one))
one_named d (w ∷ []) ts first one is = ap (λ v. number_of d (w ∷ []) v ts) (sym is)
one_named d (w ∷ v ∷ more) ts first one is = absurd (omega (arith, one))

pub more_named : (d : ℕ) (names : List Word) (ts : List Item) (first : Word) → 1 < length names → first ≡ get_or names 0 first → with_names (number_or_constant d) names ts ≡ constant_of d names first.span ts
more_named d [] ts first more_than is = absurd (omega arith)
more_named d (w ∷ []) ts first more_than is = absurd (omega (arith, more_than))
more_named d (w ∷ v ∷ more) ts first more_than is = ap (λ u. constant_of d (w ∷ v ∷ more) u.span ts) (sym is)

-- a list that was read has a part
some_behind : {A : Type 0} (a : A) (r : Answer Item (List A)) (l : List A) (rest : List Item) → go_on r (λ more. pure (a ∷ more)) ≡ Found l rest → 0 < length l
some_behind a (Found more xs) l rest is = let e : a ∷ more ≡ l = cc in subst (λ x. 0 < length x) e (omega arith)
some_behind a (Fault deep xs) l rest is = cc

some_of : {A : Type 0} (more : Reader Item (List A)) (r : Answer Item A) (l : List A) (rest : List Item) → go_on r (λ a. bind more (λ after. pure (a ∷ after))) ≡ Found l rest → 0 < length l
some_of more (Found a xs) l rest is = some_behind a (more xs) l rest is
some_of more (Fault deep xs) l rest is = cc

pub some_are : {A : Type 0} (s : Symbol) (part : Reader Item A) (ts rest : List Item) (l : List A) → separated s part ts ≡ Found l rest → 0 < length l
some_are s part ts rest l is = some_of (more_behind s part) (part ts) l rest is

-- a list that goes on from nothing
pub fronted_none : {A : Type 0} (r : Answer Item (List A)) → fronted [] r ≡ r
fronted_none (Found more rest) = refl
fronted_none (Fault deep rest) = refl
