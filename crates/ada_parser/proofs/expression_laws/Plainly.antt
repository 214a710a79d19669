-- The words of grammars in plain words: a symbol or a name first, and what the last reader gives.
use Rattle.std.proofs.Common.{◌≡◌, ℕ, suc, List, [], ◌∷◌, ◌++◌, refl, sym, ap, ◌∙◌, subst}
use Rattle.std.proofs.lemmas.List.{append-nil}
use Rattle.ada_tree.specs.declared.naming.Span.{Span}
use Rattle.ada_tree.specs.declared.naming.Word.{Word}
use Rattle.ada_tree.specs.PlainExpr.{PExpr}
use Rattle.ada_lexer.specs.declared.symbols.Symbol.{Symbol}
use Rattle.ada_expr_parser.specs.declared.items.Item.{Item}
use Rattle.ada_expr_parser.specs.declared.levels.Level.{Level}
use Rattle.ada_expr_parser.specs.Tests.{symbol, word}
use Rattle.ada_expr_parser.specs.Reading as reading
use Rattle.ada_expr_parser.specs.Grammar.{symbol_item, word_item, IsExpr}
use Rattle.ada_expr_parser.specs.readers.Grammars.{Texts, Is, One, Then}
use Rattle.ada_expr_parser.specs.readers.Lawful.{Lawful}
use Rattle.ada_expr_parser.proofs.readers.Fitting.{law_fit}
use Rattle.ada_parser.specs.expression_laws.Stopping.{Ends}
use Rattle.ada_parser.proofs.expression_laws.Tokens.{symbol_is, symbol_takes, word_is}
use Rattle.ada_parser.proofs.expression_laws.Levels.{law_expr}

-- a symbol and then the rest
pub after_symbol : {A : Type 0} (s : Symbol) (E : Span → Texts Item A) (d : ℕ) (a : A) (text : List Item) → Then (One (symbol s)) E d a text →
    (at : Span) × (back : List Item) × (text ≡ symbol_item s at ∷ back) × E at d a back
after_symbol s E d a text (at, one, back, from, (k, one_is, some), rest) =
    (at, back, from ∙ ap (λ l. l ++ back) one_is ∙ ap (λ t. t ∷ back) (symbol_is s k at some), rest)

pub symbol_then : {A : Type 0} (s : Symbol) (E : Span → Texts Item A) (d : ℕ) (a : A) (at : Span) (back : List Item) → E at d a back → Then (One (symbol s)) E d a (symbol_item s at ∷ back)
symbol_then s E d a at back rest = (at, symbol_item s at ∷ [], back, refl, (symbol_item s at, refl, symbol_takes s at), rest)

-- a name and then the rest
pub after_word : {A : Type 0} (E : Word → Texts Item A) (d : ℕ) (a : A) (text : List Item) → Then (One word) E d a text →
    (w : Word) × (back : List Item) × (text ≡ word_item w ∷ back) × E w d a back
after_word E d a text (w, one, back, from, (k, one_is, some), rest) =
    (w, back, from ∙ ap (λ l. l ++ back) one_is ∙ ap (λ t. t ∷ back) (word_is k w some), rest)

pub word_then : {A : Type 0} (E : Word → Texts Item A) (d : ℕ) (a : A) (w : Word) (back : List Item) → E w d a back → Then (One word) E d a (word_item w ∷ back)
word_then E d a w back rest = (w, word_item w ∷ [], back, refl, (word_item w, refl, refl), rest)

-- what is read, made into a tree
pub made : {A B : Type 0} (D : Texts Item A) (f : A → B) (d : ℕ) (b : B) (text : List Item) → Then D (λ a. Is (f a)) d b text → (a : A) × (b ≡ f a) × D d a text
made D f d b text (a, front, back, from, is, (same, none)) = (a, same, subst (D d a) (sym (from ∙ ap (λ l. front ++ l) none ∙ append-nil front)) is)

pub make : {A B : Type 0} (D : Texts Item A) (f : A → B) (d : ℕ) (a : A) (text : List Item) → D d a text → Then D (λ a. Is (f a)) d (f a) text
make D f d a text is = (a, text, [], sym (append-nil text), is, (refl, refl))

-- an expression of a level, as the grammar says it
abbrev pub ExprTexts : Level → Texts Item PExpr
ExprTexts l d e text = IsExpr l d e text

pub law_is_expr : (d : ℕ) (l : Level) → Lawful d (reading.expr d l) (reading.expr (suc d) l) (ExprTexts l) (Ends l)
law_is_expr d l = law_fit (λ e deep a text ((spells, high), low). record { spells = spells; fits = high; nested = low })
    (λ a text is. ((is.spells, is.fits), is.nested)) (law_expr d l)
