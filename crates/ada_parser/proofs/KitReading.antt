-- The laws of the words that statements and declarations are read with: a symbol and what follows it, one piece behind the other, parts with a symbol between them.
use Rattle.std.proofs.Common.{◌≡◌, ℕ, true, List, [], ◌∷◌, ◌++◌, Option, Some, None, refl, sym, ap, ◌∙◌, subst, true≢false}
use Rattle.std.specs.Prelude.{is_some}
use Rattle.std.proofs.lemmas.List.{append_assoc, append-nil}
use Rattle.ada_tree.specs.declared.naming.Span.{Span}
use Rattle.ada_lexer.specs.declared.symbols.Symbol.{Symbol}
use Rattle.ada_lexer.specs.declared.symbols.Symbol.TheVariants as key
use Rattle.ada_expr_parser.specs.declared.items.Item.{Item}
use Rattle.ada_expr_parser.specs.Tests.{symbol, word}
use Rattle.ada_expr_parser.specs.Grammar.{symbol_item, word_item}
use Rattle.ada_phrase_parser.specs.Spelling.{Spelling, ◌▷◌, Key, Named, Behind, Separated}
use Rattle.ada_phrase_parser.specs.Reading.{is_symbol, key_then, last_key, closed, more_behind, separated}
use Rattle.ada_expr_parser.specs.readers.Readers.{Reader, pure, bind, token}
use Rattle.ada_expr_parser.specs.readers.Grammars.{Texts, One, Then, Many, Starts, Opens, first_of}
use Rattle.ada_expr_parser.specs.readers.Lawful.{Lawful, Anything}
use Rattle.ada_expr_parser.proofs.readers.Binding.{law_pure, law_bind, law_then}
use Rattle.ada_expr_parser.proofs.readers.Listing.{law_token, law_items}
use Rattle.ada_expr_parser.proofs.readers.Fitting.{starts_is, law_fit}
use Rattle.ada_parser.proofs.expression_laws.Tokens.{symbol_is, symbol_takes, word_is}
use Rattle.ada_parser.proofs.expression_laws.Primaries.{no_place, some_word}
use Rattle.ada_parser.proofs.KitPieces.{KeyAt}

-- ---- what is read, made of values that a piece spells

-- the texts of a piece, with the tree that is made of what it says
abbrev pub Made : {V A : Type 0} → (V → A) → (ℕ → V → Spelling) → Texts Item A
Made {V} f P d a text = (v : V) × (a ≡ f v) × P d v text

-- the same texts, said otherwise
pub made_fit : {V A : Type 0} {d : ℕ} {p p' : Reader Item A} (f : V → A) (P : ℕ → V → Spelling) {E : Texts Item A} {S : Item → Type 0} →
    ((e : ℕ) (v : V) (text : List Item) → P e v text → E e (f v) text) → ((e : ℕ) (a : A) (text : List Item) → E e a text → Made f P e a text) → Lawful d p p' (Made f P) S → Lawful d p p' E S
made_fit {d = d} f P {E} to back law = law_fit (λ e deep a text (v, same, is). rw same (to e v text is)) (back d) law

-- ---- tokens

-- a symbol that is taken
pub key_taken : {A : Type 0} (s : Symbol) (E : Texts Item A) (d : ℕ) (a : A) (text : List Item) → Then (One (symbol s)) (λ at. E) d a text → (Key s ▷ E d a) text
key_taken s E d a text (at, one, back, from, (k, one_is, some), is) = (one, back, from, (at, one_is ∙ ap (λ t. t ∷ []) (symbol_is s k at some)), is)

pub taken_key : {A : Type 0} (s : Symbol) (E : Texts Item A) (d : ℕ) (a : A) (text : List Item) → (Key s ▷ E d a) text → Then (One (symbol s)) (λ at. E) d a text
taken_key s E d a text (front, back, from, (at, one), is) = (at, front, back, from, (symbol_item s at, one, symbol_takes s at), is)

pub law_symbol : (d : ℕ) (s : Symbol) (S : Item → Type 0) → Lawful d (token (symbol s)) (token (symbol s)) (λ e at. KeyAt s at) S
law_symbol d s S = law_fit
    (λ e deep at text (k, is, some). is ∙ ap (λ t. t ∷ []) (symbol_is s k at some))
    (λ at text is. (symbol_item s at, is, symbol_takes s at))
    (law_token (symbol_item s no_place) no_place (symbol_takes s no_place))

pub law_word : (d : ℕ) (S : Item → Type 0) → Lawful d (token word) (token word) (λ e w. Named w) S
law_word d S = law_fit
    (λ e deep w text (k, is, some). is ∙ ap (λ t. t ∷ []) (word_is k w some))
    (λ w text is. (word_item w, is, refl))
    (law_token (word_item some_word) some_word refl)

-- ---- a symbol and what follows it

pub law_key : {A : Type 0} {d : ℕ} (s : Symbol) {p p' : Reader Item A} {D : Texts Item A} {S : Item → Type 0} → Lawful d p p' D S → Lawful d (key_then s p) (key_then s p') (λ e a. Key s ▷ D e a) S
law_key {d = d} s {D = D} law = law_fit (λ e deep a text is. key_taken s D e a text is) (λ a text is. taken_key s D d a text is)
    (law_then (law_token (symbol_item s no_place) no_place (symbol_takes s no_place)) (λ at. law))

pub made_key : {V A : Type 0} {d : ℕ} (s : Symbol) {p p' : Reader Item A} (f : V → A) (P : ℕ → V → Spelling) {S : Item → Type 0} → Lawful d p p' (Made f P) S →
    Lawful d (key_then s p) (key_then s p') (Made f (λ e v. Key s ▷ P e v)) S
made_key s f P law = law_fit
    (λ e deep a text (front, back, from, k, (v, same, is)). (v, same, (front, back, from, k, is)))
    (λ a text (v, same, (front, back, from, k, is)). (front, back, from, k, (v, same, is)))
    (law_key s law)

-- a symbol that ends a piece, which has its place
pub law_last : {A : Type 0} (d : ℕ) (s : Symbol) (tree : Span → A) (S : Item → Type 0) → Lawful d (last_key s tree) (last_key s tree) (Made tree (λ e close. KeyAt s close)) S
law_last d s tree S = law_fit
    (λ e deep a text (close, front, back, from, one, (same, none)). (close, same, from ∙ ap (λ l. front ++ l) none ∙ append-nil front ∙ one))
    (λ a text (close, same, is). (close, text, [], sym (append-nil text), is, (same, refl)))
    (law_then (law_symbol d s Anything) (λ close. law_pure d (tree close) S))

pub law_closed : {A : Type 0} (d : ℕ) (tree : Span → A) (S : Item → Type 0) → Lawful d (closed tree) (closed tree) (Made tree (λ e close. KeyAt key.Semicolon close)) S
law_closed d tree S = law_last d key.Semicolon tree S

-- ---- one piece behind the other

abbrev pub Both : {A V : Type 0} → (ℕ → A → Spelling) → (A → ℕ → V → Spelling) → ℕ → A × V → Spelling
Both D P e v = D e v.0 ▷ P v.0 e v.1

both_is : {A V B : Type 0} (D : ℕ → A → Spelling) (f : A → V → B) (P : A → ℕ → V → Spelling) (e : ℕ) (b : B) (text : List Item) → Then D (λ a. Made (f a) (P a)) e b text → Made (λ v. f v.0 v.1) (Both D P) e b text
both_is D f P e b text (a, front, back, from, left, (v, same, right)) = ((a, v), same, (front, back, from, left, right))

is_both : {A V B : Type 0} (D : ℕ → A → Spelling) (f : A → V → B) (P : A → ℕ → V → Spelling) (e : ℕ) (b : B) (text : List Item) → Made (λ v. f v.0 v.1) (Both D P) e b text → Then D (λ a. Made (f a) (P a)) e b text
is_both D f P e b text (v, same, (front, back, from, left, right)) = (v.0, front, back, from, left, (v.1, same, right))

pub made_bind : {A V B : Type 0} {d : ℕ} {p p' : Reader Item A} {q q' : A → Reader Item B} {D : Texts Item A} {R S : Item → Type 0} (f : A → V → B) (P : A → ℕ → V → Spelling) →
    Lawful d p p' D R → ((a : A) → Lawful d (q a) (q' a) (Made (f a) (P a)) S) → ((a : A) → Starts d (Made (f a) (P a)) S R) → Lawful d (bind p q) (bind p' q') (Made (λ v. f v.0 v.1) (Both D P)) S
made_bind {d = d} {D = D} f P first next meets = law_fit (λ e deep b text is. both_is D f P e b text is) (is_both D f P d) (law_bind first next meets)

-- where any item ends the first
pub made_then : {A V B : Type 0} {d : ℕ} {p p' : Reader Item A} {q q' : A → Reader Item B} {D : Texts Item A} {S : Item → Type 0} (f : A → V → B) (P : A → ℕ → V → Spelling) →
    Lawful d p p' D Anything → ((a : A) → Lawful d (q a) (q' a) (Made (f a) (P a)) S) → Lawful d (bind p q) (bind p' q') (Made (λ v. f v.0 v.1) (Both D P)) S
made_then f P first next = made_bind f P first next (λ a. record { begins_with = λ b text x is stop. tt })

-- a piece and the tree that is made of it
pub made_pure : {A B : Type 0} {d : ℕ} {p p' : Reader Item A} {D : Texts Item A} {S : Item → Type 0} (f : A → B) → Lawful d p p' D S → Lawful d (bind p (λ a. pure (f a))) (bind p' (λ a. pure (f a))) (Made f D) S
made_pure {d = d} {D = D} {S} f law = law_fit
    (λ e deep b text (a, front, back, from, is, (same, none)). (a, same, subst (D e a) (sym (from ∙ ap (λ l. front ++ l) none ∙ append-nil front)) is))
    (λ b text (a, same, is). (a, text, [], sym (append-nil text), is, (same, refl)))
    (law_bind law (λ a. law_pure d (f a) S) (λ a. starts_is (λ x stop. stop)))

-- what begins with a symbol
pub starts_key : {V A : Type 0} {d : ℕ} {S R : Item → Type 0} (s : Symbol) (f : V → A) (P : ℕ → V → Spelling) → ((at : Span) → R (symbol_item s at)) → Starts d (Made f (λ e v. Key s ▷ P e v)) S R
starts_key s f P each = record { begins_with = λ a text x (v, same, (front, back, from, (at, one), is)) stop. rw from (rw one (each at)) }

pub starts_last : {A : Type 0} {d : ℕ} {S R : Item → Type 0} (s : Symbol) (tree : Span → A) → ((at : Span) → R (symbol_item s at)) → Starts d (Made tree (λ e close. KeyAt s close)) S R
starts_last s tree each = record { begins_with = λ a text x (at, same, one) stop. rw one (each at) }

-- what begins with a piece, which may be empty
pub starts_both : {A V B : Type 0} {d : ℕ} {S R T : Item → Type 0} {D : Texts Item A} (f : A → V → B) (P : A → ℕ → V → Spelling) → Starts d D T R → ((a : A) → Starts d (Made (f a) (P a)) S T) → Starts d (Made (λ v. f v.0 v.1) (Both D P)) S R
starts_both {R = R} f P first next = record {
  begins_with = λ b text x (v, same, (front, back, from, left, right)) stop.
      rw from (subst R (sym (behind front x back)) (first.begins_with v.0 front (first_of x back) left ((next v.0).begins_with b back x (v.1, same, right) stop)));
} where
  behind : (f : List Item) (x : Item) (g : List Item) → first_of x (f ++ g) ≡ first_of (first_of x g) f
  behind [] x g = refl
  behind (y ∷ f) x g = refl

-- ---- parts with a symbol between them

module _ {A : Type 0} {d : ℕ} (s : Symbol) {part part' : Reader Item A} {P : Texts Item A} {U S : Item → Type 0} (law : Lawful d part part' P U)
    (between : (at : Span) → U (symbol_item s at)) (at_end : (x : Item) → S x → U x) (ends : (x : Item) → S x → symbol s x ≡ None) where
  many_is : (e : ℕ) (list : List A) (text : List Item) → Many (λ e a. Key s ▷ P e a) e list text → Behind (Key s) (P e) list text
  many_is e [] text none = none
  many_is e (a ∷ list) text (front, back, from, (one, part, split, k, is), many) =
      (one, part ++ back, from ∙ ap (λ l. l ++ back) split ∙ append_assoc one part back, k, (part, back, refl, is, many_is e list back many))

  is_many : (e : ℕ) (list : List A) (text : List Item) → Behind (Key s) (P e) list text → Many (λ e a. Key s ▷ P e a) e list text
  is_many e [] text none = none
  is_many e (a ∷ list) text (one, rest, from, k, (part, back, split, is, many)) =
      (one ++ part, back, from ∙ ap (λ l. one ++ l) split ∙ sym (append_assoc one part back), (one, part, refl, k, is), is_many e list back many)

  some_at : (m : Option Span) → is_some m ≡ true → (at : Span) × (m ≡ Some at)
  some_at (Some at) e = (at, refl)
  some_at None e = absurd (true≢false (sym e))

  between_is : (k : Item) → is_symbol s k ≡ true → U k
  between_is k is = let (at, some) = some_at (symbol s k) is in subst U (sym (symbol_is s k at some)) (between at)

  opens_part : Opens d (λ e a. Key s ▷ P e a) (is_symbol s)
  opens_part = record { opens_with = λ a text (front, back, from, (at, one), is). (symbol_item s at, back, from ∙ ap (λ l. l ++ back) one, ap is_some (symbol_takes s at)) }

  -- each behind the symbol
  pub law_more : Lawful d (more_behind s part) (more_behind s part') (λ e list. Behind (Key s) (P e) list) S
  law_more = law_fit (λ e deep list text is. many_is e list text is) (is_many d)
      (law_items (law_key s law) opens_part between_is at_end (λ x stop. ap is_some (ends x stop)))

  more_starts : (list : List A) (text : List Item) (x : Item) → Behind (Key s) (P d) list text → S x → U (first_of x text)
  more_starts [] text x none stop = rw none (at_end x stop)
  more_starts (a ∷ list) text x (front, back, from, (at, one), is) stop = rw from (rw one (between at))

  pub starts_more : Starts d (λ e list. Behind (Key s) (P e) list) S U
  starts_more = record { begins_with = more_starts }

  -- one at least
  pub law_separated : Lawful d (separated s part) (separated s part') (λ e list. Separated (Key s) (P e) list) S
  law_separated = law_fit (λ e deep list text ((a, more), same, is). rw same is) list_is
      (made_bind (λ a more. a ∷ more) (λ a e more. Behind (Key s) (P e) more) law
      (λ a. made_pure (λ more. a ∷ more) law_more)
      (λ a. record { begins_with = λ list text x (more, same, is) stop. more_starts more text x is stop })) where
        list_is : (list : List A) (text : List Item) → Separated (Key s) (P d) list text → Made (λ v. v.0 ∷ v.1) (Both P (λ a e more. Behind (Key s) (P e) more)) d list text
        list_is [] text never = absurd never
        list_is (a ∷ more) text is = ((a, more), refl, is)
