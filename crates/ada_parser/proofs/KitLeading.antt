-- Choices by the next item: which symbols each choice begins with, so that no test takes what another should.
use Rattle.std.proofs.Common.{◌≡◌, ℕ, suc, Bool, true, false, ◌⊎◌, inl, inr, ⊎_elim, List, [], ◌∷◌, Some, None, refl, sym, ap, ◌∙◌, subst, true≢false}
use Rattle.std.specs.Prelude.{is_some, not, ◌&&◌, ◌||◌}
use Rattle.ada_tree.specs.declared.naming.Span.{Span}
use Rattle.ada_tree.specs.declared.naming.Word.{Word}
use Rattle.ada_lexer.specs.declared.symbols.Symbol.{Symbol}
use Rattle.ada_expr_parser.specs.declared.items.Item.{Item}
use Rattle.ada_expr_parser.specs.Tests.{same, symbol, word}
use Rattle.ada_expr_parser.specs.Grammar.{symbol_item, word_item}
use Rattle.ada_phrase_parser.specs.Reading.{is_symbol}
use Rattle.ada_expr_parser.specs.readers.Readers.{Reader, on, below, refuse}
use Rattle.ada_expr_parser.specs.readers.Grammars.{Texts, Never, One, Then, Or, Below, Starts, Opens, first_of}
use Rattle.ada_expr_parser.specs.readers.Lawful.{Careful, Lawful, IsPassed, IsYes}
use Rattle.ada_expr_parser.proofs.readers.Choosing.{careful_refuse, careful_on}
use Rattle.ada_expr_parser.proofs.readers.Deepening.{careful_below}
use Rattle.ada_expr_parser.proofs.readers.Fitting.{starts_never, starts_or, starts_token}
use Rattle.ada_parser.proofs.expression_laws.Tokens.{symbol_is, symbol_takes, word_is}
use Rattle.common_lemmas.proofs.Options.{some_there}
use Rattle.common_lemmas.proofs.Truth.{and_both}

-- one of these symbols, or a name where names are among them
abbrev pub among : Bool → List Symbol → Item → Bool
among words [] x = words && is_some (word x)
among words (s ∷ more) x = is_symbol s x || among words more x

-- none of these symbols
abbrev pub fresh : Symbol → List Symbol → Bool
fresh s [] = true
fresh s (t ∷ more) = not (same t s) && fresh s more

pub or_is : (a b : Bool) → (a || b) ≡ true → (a ≡ true) ⊎ (b ≡ true)
or_is true b e = inl refl
or_is false b e = inr e

pub symbol_at : (s : Symbol) (k : Item) → is_symbol s k ≡ true → (at : Span) × (k ≡ symbol_item s at)
symbol_at s k e = let (at, some) = some_there (symbol s k) e in (at, symbol_is s k at some)

pub word_at : (k : Item) → is_some (word k) ≡ true → (w : Word) × (k ≡ word_item w)
word_at k e = let (w, some) = some_there (word k) e in (w, word_is k w some)

pub is_itself : (s : Symbol) (at : Span) → is_symbol s (symbol_item s at) ≡ true
is_itself s at = ap is_some (symbol_takes s at)

-- what holds of a name, and of each of these symbols
abbrev pub OfEach : (Item → Type 0) → List Symbol → Type 0
OfEach R [] = Unit {0}
OfEach R (s ∷ more) = ((at : Span) → R (symbol_item s at)) × OfEach R more

abbrev pub OfWords : (Item → Type 0) → Bool → Type 0
OfWords R true = (w : Word) → R (word_item w)
OfWords R false = Unit {0}

words_hold : (R : Item → Type 0) (words : Bool) (k : Item) → OfWords R words → (words && is_some (word k)) ≡ true → R k
words_hold R true k each is = let (w, from) = word_at k is in subst R (sym from) (each w)
words_hold R false k each is = absurd (true≢false (sym is))

pub among_hold : (R : Item → Type 0) (words : Bool) (list : List Symbol) (k : Item) → OfWords R words → OfEach R list → among words list k ≡ true → R k
among_hold R words [] k of_words each is = words_hold R words k of_words is
among_hold R words (s ∷ more) k of_words each is = ⊎_elim
    (λ yes_is. let (at, from) = symbol_at s k yes_is in subst R (sym from) (each.0 at))
    (λ other. among_hold R words more k of_words each.1 other)
    (or_is (is_symbol s k) (among words more k) is)

-- a test passes what is none of its symbols
not_same : (s t : Symbol) (at : Span) → not (same t s) ≡ true → symbol s (symbol_item t at) ≡ None
not_same s t at e = by (same t s) refl where
  by : (b : Bool) → same t s ≡ b → symbol s (symbol_item t at) ≡ None
  by true is = absurd (true≢false (sym (ap not (sym is) ∙ e)))
  by false is = rw is refl

pub passed : (s : Symbol) (words : Bool) (list : List Symbol) (k : Item) → fresh s list ≡ true → among words list k ≡ true → symbol s k ≡ None
passed s words [] k new is = words_passed words is where
  words_passed : (words : Bool) → (words && is_some (word k)) ≡ true → symbol s k ≡ None
  words_passed true is = let (w, from) = word_at k is in rw from refl
  words_passed false is = absurd (true≢false (sym is))
passed s words (t ∷ more) k new is = ⊎_elim
    (λ yes_is. let (at, from) = symbol_at t k yes_is in rw from (not_same s t at (and_both (not (same t s)) (fresh s more) new).0))
    (λ other. passed s words more k (and_both (not (same t s)) (fresh s more) new).1 other)
    (or_is (is_symbol t k) (among words more k) is)

-- A choice, careful and by the symbols that its texts begin with.
pub record Led {A : Type 0} (words : Bool) (list : List Symbol) (d : ℕ) (p deeper : Reader Item A) (P : Texts Item A) (S : Item → Type 0) : Type 0 where
  pub careful : Careful d p deeper P S
  pub starts : Starts d P S (IsYes (among words list))

pub led_refuse : {A : Type 0} (d : ℕ) (S : Item → Type 0) → Led {A = A} false [] d refuse refuse Never S
led_refuse d S = record { careful = careful_refuse d S; starts = starts_never }

pub led_word : {A : Type 0} {d : ℕ} {next next' : Word → Reader Item A} {E : Word → Texts Item A} {S : Item → Type 0} → ((w : Word) → Lawful d (next w) (next' w) (E w) S) →
    Led true [] d (on word next refuse) (on word next' refuse) (Or (Then (One word) E) Never) S
led_word {d = d} {S = S} law = record {
  careful = careful_on {test = word} law (careful_refuse d S) starts_never;
  starts = starts_or (starts_token (λ k w some. ap is_some some)) starts_never;
}

later : (s : Symbol) (words : Bool) (list : List Symbol) (k : Item) → among words list k ≡ true → among words (s ∷ list) k ≡ true
later s words list k is = either (is_symbol s k) (among words list k) is where
  either : (a b : Bool) → b ≡ true → (a || b) ≡ true
  either true b e = refl
  either false b e = e

first : (s : Symbol) (words : Bool) (list : List Symbol) (k : Item) (at : Span) → symbol s k ≡ Some at → among words (s ∷ list) k ≡ true
first s words list k at some = ap (λ m. is_some m || among words list k) some

module _ {A : Type 0} {words : Bool} {list : List Symbol} {d : ℕ} {p p' : Reader Item A} {P : Texts Item A} {S : Item → Type 0} (rest : Led words list d p p' P S) where
  pub led_passed : (s : Symbol) → fresh s list ≡ true → Starts d P S (IsPassed (symbol s))
  led_passed s new = record { begins_with = λ a text x is stop. passed s words list (first_of x text) new (rest.starts.begins_with a text x is stop) }

  starts_led : (s : Symbol) (E : Span → Texts Item A) → Starts d (Or (Then (One (symbol s)) E) P) S (IsYes (among words (s ∷ list)))
  starts_led s E = starts_or (starts_token (λ k at some. first s words list k at some))
      (record { begins_with = λ a text x is stop. later s words list (first_of x text) (rest.starts.begins_with a text x is stop) })

  pub led_on : (s : Symbol) {next next' : Span → Reader Item A} {E : Span → Texts Item A} → fresh s list ≡ true → ((at : Span) → Lawful d (next at) (next' at) (E at) S) →
      Led words (s ∷ list) d (on (symbol s) next p) (on (symbol s) next' p') (Or (Then (One (symbol s)) E) P) S
  led_on s {E = E} new law = record { careful = careful_on {test = symbol s} law rest.careful (led_passed s new); starts = starts_led s E }

  pub led_below : (s : Symbol) (next next' : ℕ → Span → Reader Item A) {E : Span → Texts Item A} → fresh s list ≡ true →
      ((at : Span) → (e : ℕ) × (a : A) × (f : List Item) × E at e a f) → ((e : ℕ) → d ≡ suc e → (at : Span) → Lawful e (next e at) (next' (suc e) at) (E at) S) →
      Led words (s ∷ list) d (below d (symbol s) next p) (below (suc d) (symbol s) next' p') (Or (Then (One (symbol s)) (λ at. Below (E at))) P) S
  led_below s next next' {E} new deep law = record {
    careful = careful_below {test = symbol s} next next' deep d law rest.careful (led_passed s new);
    starts = starts_led s (λ at. Below (E at));
  }

-- What begins with one of these is not empty.
pub opens_by : {A : Type 0} {d : ℕ} {P : Texts Item A} {S : Item → Type 0} (test : Item → Bool) → Starts d P S (IsYes test) → (x : Item) → S x → test x ≡ false → Opens d P test
opens_by {A} {d} {P} test law x stop off = record { opens_with = opens } where
  opens : (a : A) (text : List Item) → P d a text → (k : Item) × (more : List Item) × (text ≡ k ∷ more) × (test k ≡ true)
  opens a [] is = absurd (true≢false (sym (law.begins_with a [] x is stop) ∙ off))
  opens a (k ∷ more) is = (k, more, refl, law.begins_with a (k ∷ more) x is stop)
