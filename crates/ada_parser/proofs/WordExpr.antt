-- What goes on behind a name in an expression, and behind a primary that may fill the depth (4.1, 4.4).
use Rattle.std.proofs.Common.{◌≡◌, ℕ, suc, ◌≤◌, ◌<◌, Bool, true, false, ◌||◌, ◌⊎◌, inl, inr, ⊎_elim, List, [], ◌∷◌, ◌++◌, None, refl, sym, ap, ◌∙◌, subst, arith}
use Rattle.std.specs.Prelude.{is_some}
use Rattle.std.proofs.lemmas.List.{append_cancel_left}
use Rattle.ada_tree.specs.declared.naming.Span.{Span}
use Rattle.ada_tree.specs.declared.naming.Word.{Word}
use Rattle.ada_tree.specs.declared.expressions.BinaryOp.{BinaryOp}
use Rattle.ada_tree.specs.declared.expressions.BinaryOp.TheVariants.{And, Or, Xor, AndThen, OrElse, Equal, NotEqual, Less, LessEqual, Greater, GreaterEqual, Plus, Minus, Times, Divide, Mod, Rem}
use Rattle.ada_tree.specs.PlainExpr.{PExpr, EInteger, EName, EIndex, EAttribute, EAttributeOf, EParen, EUnary, EBinary}
use Rattle.ada_tree.specs.WellPlaced.{level, primary}
use Rattle.ada_lexer.specs.declared.symbols.Symbol.TheVariants as key
use Rattle.ada_expr_parser.specs.declared.items.Item.{Item}
use Rattle.ada_expr_parser.specs.declared.levels.Level.{Level}
use Rattle.ada_expr_parser.specs.declared.levels.Level.TheVariants.{Logical, Relation, Simple, Term, Factor}
use Rattle.ada_expr_parser.specs.Tests.{same, symbol, word, number, operator_in}
use Rattle.ada_expr_parser.specs.Trees.{levels, last_operator, joined}
use Rattle.ada_expr_parser.specs.Reading.{inner, operators}
use Rattle.ada_expr_parser.specs.Parts.{expr_behind}
use Rattle.ada_expr_parser.specs.Grammar.{word_item, number_item, symbol_item, infix_symbol, Spells, IsExpr}
use Rattle.ada_expr_parser.specs.readers.Readers.{Found, Fault, Reader, bind, go_on, chain_in, chain_more}
use Rattle.ada_expr_parser.specs.readers.Grammars.{Texts, Then, Up_to, first_of}
use Rattle.ada_expr_parser.specs.readers.Lawful.{Lawful}
use Rattle.ada_expr_parser.proofs.readers.Basics.{not_empty}
use Rattle.ada_expr_parser.proofs.readers.Binding.{careful_bind}
use Rattle.ada_expr_parser.proofs.readers.Fitting.{first_append, law_fit}
use Rattle.ada_expr_parser.proofs.readers.Turning.{chain_deep, chain_end}
use Rattle.ada_parser.specs.expression_laws.Stopping.{Ends, EndsPrimary}
use Rattle.ada_parser.specs.expression_laws.Laws.{first_operand}
use Rattle.ada_parser.proofs.expression_laws.Tokens.{none_is}
use Rattle.ada_parser.proofs.expression_laws.Chains.{lawful_operators}
use Rattle.ada_parser.proofs.expression_laws.Primaries.{no_place, NameRest, law_name, name_spell, spell_primary}
use Rattle.ada_parser.proofs.expression_laws.Behinds.{Behind, BehindAt, first_itself, law_inner, law_levels, behind_spells, spells_behind}
use Rattle.ada_phrase_parser.specs.Reading.{expression_from}
use Rattle.ada_parser.proofs.expression_laws.Operators.{low_binary}
use Rattle.ada_parser.proofs.DeclInits.{first_levels}
use Rattle.common_lemmas.proofs.Options.{some_same}
use Rattle.common_lemmas.proofs.Truth.{or_both}

-- ---- items that begin an operator

abbrev begins_at : Level → Item → Bool
begins_at l x = is_some (operator_in l None x.kind)

abbrev pub operates : Item → Bool
operates x = begins_at Term x || (begins_at Simple x || (begins_at Relation x || begins_at Logical x))

or_some : (a b : Bool) → (a || b) ≡ true → (a ≡ true) ⊎ ((a ≡ false) × (b ≡ true))
or_some true b e = inl refl
or_some false b e = inr (refl, e)

-- of which level the operator is
operates_at : (k : Item) → operates k ≡ true → (l : Level) × (begins_at l k ≡ true)
operates_at k is = ⊎_elim
    (λ yes_is. (Term, yes_is))
    (λ (no_is, more). ⊎_elim
    (λ yes_is. (Simple, yes_is))
    (λ (no_is, more). ⊎_elim (λ yes_is. (Relation, yes_is)) (λ (no_is, yes_is). (Logical, yes_is)) (or_some (begins_at Relation k) (begins_at Logical k) more))
    (or_some (begins_at Simple k) (begins_at Relation k || begins_at Logical k) more))
    (or_some (begins_at Term k) (begins_at Simple k || (begins_at Relation k || begins_at Logical k)) is)

-- ---- behind a primary, by the next item

module _ (p : PExpr) (alone : last_operator p ≡ None) (d : ℕ) where
  goes : (l : Level) (k : Item) (b : Bool) → begins_at l k ≡ b → (operators l).goes_on p k ≡ b
  goes l k b is = ap (λ m. is_some (operator_in l m k.kind)) alone ∙ is

  higher : (l : Level) (left : PExpr) (o : BinaryOp) (right : PExpr) → (operators l).height left < (operators l).height ((operators l).join left o right)
  higher l left o right = omega arith

  abbrev after_relation : PExpr → Reader Item PExpr
  after_relation r = chain_in (operators Logical) d (inner d Relation) d r

  abbrev after_simple : PExpr → Reader Item PExpr
  after_simple s = bind (chain_in (operators Relation) d (inner d Simple) d s) after_relation

  abbrev after_term : PExpr → Reader Item PExpr
  after_term t = bind (chain_in (operators Simple) d (inner d Term) d t) after_simple

  ends_at : (l : Level) (operand : Reader Item PExpr) (k : Item) (ts : List Item) → begins_at l k ≡ false → chain_more (operators l) d operand p (k ∷ ts) ≡ Found p (k ∷ ts)
  ends_at l operand k ts no_is = chain_end (operators l) (higher l) d operand p k ts (goes l k false no_is)

  deep_at : (l : Level) (operand : Reader Item PExpr) (k : Item) (ts : List Item) → begins_at l k ≡ true → d ≤ levels p → chain_more (operators l) d operand p (k ∷ ts) ≡ Fault true (k ∷ ts)
  deep_at l operand k ts yes_is full = chain_deep (operators l) (higher l) d operand p k ts (goes l k true yes_is) full

  -- no operator: the primary alone
  pub stays : (k : Item) (ts : List Item) → operates k ≡ false → expr_behind d p (k ∷ ts) ≡ Found p (k ∷ ts)
  stays k ts none =
      let (t, more) = or_both (begins_at Term k) (begins_at Simple k || (begins_at Relation k || begins_at Logical k)) none in
      let (s, rest) = or_both (begins_at Simple k) (begins_at Relation k || begins_at Logical k) more in
      let (r, l) = or_both (begins_at Relation k) (begins_at Logical k) rest in
      ap (λ a. go_on a after_term) (ends_at Term (inner d Factor) k ts t) ∙ ap (λ a. go_on a after_simple) (ends_at Simple (inner d Term) k ts s) ∙
      ap (λ a. go_on a after_relation) (ends_at Relation (inner d Simple) k ts r) ∙ ends_at Logical (inner d Relation) k ts l

  -- an operator, where no level is left
  pub is_full : (k : Item) (ts : List Item) → operates k ≡ true → d ≤ levels p → expr_behind d p (k ∷ ts) ≡ Fault true (k ∷ ts)
  is_full k ts some full = ⊎_elim
      (λ t. ap (λ a. go_on a after_term) (deep_at Term (inner d Factor) k ts t full))
      (λ (t, more). ap (λ a. go_on a after_term) (ends_at Term (inner d Factor) k ts t) ∙ ⊎_elim
      (λ s. ap (λ a. go_on a after_simple) (deep_at Simple (inner d Term) k ts s full))
      (λ (s, rest). ap (λ a. go_on a after_simple) (ends_at Simple (inner d Term) k ts s) ∙ ⊎_elim
      (λ r. ap (λ a. go_on a after_relation) (deep_at Relation (inner d Simple) k ts r full))
      (λ (r, l). ap (λ a. go_on a after_relation) (ends_at Relation (inner d Simple) k ts r) ∙ deep_at Logical (inner d Relation) k ts l full)
      (or_some (begins_at Relation k) (begins_at Logical k) rest))
      (or_some (begins_at Simple k) (begins_at Relation k || begins_at Logical k) more))
      (or_some (begins_at Term k) (begins_at Simple k || (begins_at Relation k || begins_at Logical k)) some)

-- some expression goes on with the operator, one level higher
pub some_behind : (p : PExpr) → primary ≤ level p → last_operator p ≡ None → (k : Item) → operates k ≡ true →
    (a : PExpr) × (more : List Item) × Behind p a (k ∷ more) × (levels a ≤ suc (levels p))
some_behind p tight alone k is =
    let (l, yes_is) = operates_at k is in
    let (o, more, (spelled, same, follows)) = (lawful_operators l).some_operator p k (goes p alone 0 l k true yes_is) in
    let low = low_binary o in (
      joined p o (EInteger 0 no_place),
      more ++ (number_item 0 no_place ∷ []),
      ([], k ∷ more, number_item 0 no_place ∷ [], (first_itself p tight).0, spelled, refl, (inl (omega (arith, low, tight)), omega (arith, low)), refl, refl),
      omega arith,
    )

-- ---- the first item of what goes on

-- an operator is no parenthesis and no tick
operator_apart : (op : BinaryOp) (at : Span) → EndsPrimary (symbol_item (infix_symbol op) at) × (symbol key.RightParen (symbol_item (infix_symbol op) at) ≡ None)
unfolding same
operator_apart And at = ((refl, refl), refl)
operator_apart Or at = ((refl, refl), refl)
operator_apart Xor at = ((refl, refl), refl)
operator_apart AndThen at = ((refl, refl), refl)
operator_apart OrElse at = ((refl, refl), refl)
operator_apart Equal at = ((refl, refl), refl)
operator_apart NotEqual at = ((refl, refl), refl)
operator_apart Less at = ((refl, refl), refl)
operator_apart LessEqual at = ((refl, refl), refl)
operator_apart Greater at = ((refl, refl), refl)
operator_apart GreaterEqual at = ((refl, refl), refl)
operator_apart Plus at = ((refl, refl), refl)
operator_apart Minus at = ((refl, refl), refl)
operator_apart Times at = ((refl, refl), refl)
operator_apart Divide at = ((refl, refl), refl)
operator_apart Mod at = ((refl, refl), refl)
operator_apart Rem at = ((refl, refl), refl)

behind_starts : (R : Item → Type 0) → ((op : BinaryOp) (at : Span) → R (symbol_item (infix_symbol op) at)) → (p e : PExpr) (text : List Item) (x : Item) → Behind p e text → R x → R (first_of x text)
behind_starts R each p (EBinary op l r s) text x (front, sign, back, left, (at, second, two, is), right, fits, from, place) stop =
    rw from (rw (first_append x front (sign ++ back)) (behind_starts R each p l front (first_of x (sign ++ back)) left (rw is (each op at))))
behind_starts R each p e text x is stop = rw is.1 stop

-- what is there at all begins with an operator
pub behind_apart : (p e : PExpr) (k : Item) (more : List Item) → Behind p e (k ∷ more) → EndsPrimary k × (symbol key.RightParen k ≡ None)
behind_apart p e k more is = behind_starts (λ k. EndsPrimary k × (symbol key.RightParen k ≡ None)) operator_apart p e (k ∷ more) (symbol_item (infix_symbol Plus) no_place) is (operator_apart Plus no_place)

-- and nothing is the primary alone
pub behind_nothing : (p e : PExpr) → Behind p e [] → e ≡ p
behind_nothing p (EBinary op l r s) (front, sign, back, left, (at, second, two, is), right, fits, from, place) =
    absurd (not_empty front (symbol_item (infix_symbol op) at) (second ++ back) (from ∙ ap (λ m. front ++ (m ++ back)) is))
behind_nothing p e is = is.0

pub behind_levels : (p e : PExpr) (text : List Item) → Behind p e text → levels p ≤ levels e
behind_levels p (EBinary op l r s) text (front, sign, back, left, spelled, right, fits, from, place) = let low = behind_levels p l front left in omega (arith, low)
behind_levels p e text is = let same = ap levels is.0 in omega (arith, same)

-- ---- an expression that begins with a name

abbrev pub FromTexts : Word → Texts Item PExpr
FromTexts w d e text = IsExpr Logical d e (word_item w ∷ text)

abbrev IsOperand : PExpr → Type 0
IsOperand (EBinary op l r s) = ⊥
IsOperand e = Unit {0}

first_single : (e : PExpr) → IsOperand (first_operand e)
first_single (EBinary op l r s) = first_single l
first_single (EInteger n s) = tt
first_single (EName a s) = tt
first_single (EIndex w e s) = tt
first_single (EAttribute m w s) = tt
first_single (EAttributeOf m w e s) = tt
first_single (EParen e s) = tt
first_single (EUnary op e s) = tt

-- its first operand is a primary
first_tight : (w : Word) (p : PExpr) (items rest text : List Item) → word_item w ∷ text ≡ items ++ rest → IsOperand p → Spells p items → primary ≤ level p
first_tight w (EBinary op l r s) items rest text split single spelled = absurd single
first_tight w (EUnary op e s) items rest text split single (part, at, spelled, fits, from, place) =
    absurd (none_is (sym (ap word (ap (first_of (word_item w)) (split ∙ ap (λ l. l ++ rest) from)))))
first_tight w p items rest text split single spelled = omega arith

-- the items of a primary that begin with the name
named_first : (d : ℕ) (w : Word) (p : PExpr) (items rest text : List Item) → word_item w ∷ text ≡ items ++ rest → Spells p items → primary ≤ level p → levels p ≤ d →
    (f : List Item) × (items ≡ word_item w ∷ f) × NameRest w d p f
named_first d w p items rest text split spelled tight low = ⊎_elim
    (λ (lead, one, back, from, (k, one_is, some), content).
    absurd (none_is (ap (symbol key.LeftParen) (ap (first_of (word_item w)) (split ∙ ap (λ l. l ++ rest) (from ∙ ap (λ l. l ++ back) one_is))) ∙ some)))
    (λ other. ⊎_elim
    (λ (n, one, back, from, (k, one_is, some), content).
    absurd (none_is (ap number (ap (first_of (word_item w)) (split ∙ ap (λ l. l ++ rest) (from ∙ ap (λ l. l ++ back) one_is))) ∙ some)))
    (λ other. ⊎_elim
    (λ (v, one, back, from, (k, one_is, some), content).
    let head : word_item w ≡ k = ap (first_of (word_item w)) (split ∙ ap (λ l. l ++ rest) (from ∙ ap (λ l. l ++ back) one_is)) in
    (back, from ∙ ap (λ l. l ++ back) one_is ∙ ap (λ t. t ∷ back) (sym head), subst (λ u. NameRest u d p back) (sym (some_same (ap word head ∙ some))) content))
    (λ never. absurd never)
    other)
    other)
    (spell_primary d p items ((spelled, tight), low))

name_tight : (d : ℕ) (w : Word) (p : PExpr) (f : List Item) → NameRest w d p f → (primary ≤ level p) × (levels p ≤ d)
name_tight d w p f is = let ((spells, tight), low) = name_spell d w p f is in (tight, low)

from_spell : (d : ℕ) (w : Word) (e : PExpr) (text : List Item) → Then (NameRest w) (λ p. Up_to levels (BehindAt Logical p)) d e text → FromTexts w d e text
from_spell d w e text (p, f, g, from, name, ((behind, high), low)) =
    let ((spells, tight), fits) = name_spell d w p f name in
    rw from (record { spells = behind_spells p e (word_item w ∷ f) g spells behind; fits = high; nested = low })

pub spell_from : (d : ℕ) (w : Word) (e : PExpr) (text : List Item) → FromTexts w d e text → Then (NameRest w) (λ p. Up_to levels (BehindAt Logical p)) d e text
spell_from d w e text is =
    let (items, rest, split, first, behind) = spells_behind e (word_item w ∷ text) is.spells in
    let tight = first_tight w (first_operand e) items rest text split (first_single e) first in
    let up = first_levels e in
    let nested = is.nested in
    let (f, named, name) = named_first d w (first_operand e) items rest text split first tight (omega (arith, up, nested)) in
    (first_operand e, f, rest, append_cancel_left (word_item w ∷ []) text (f ++ rest) (split ∙ ap (λ l. l ++ rest) named), name, ((behind, is.fits), nested))

pub law_from : (d : ℕ) (w : Word) → Lawful d (expression_from d w) (expression_from (suc d) w) (FromTexts w) (Ends Logical)
law_from d w = law_fit (λ e deep a text is. from_spell e w a text is) (λ a text is. spell_from d w a text is)
    (record {
      careful = careful_bind (law_name d (inner d) (inner (suc d)) (λ e is l. law_inner d e l is) w).careful
          (λ p f name. let (tight, low) = name_tight d w p f name in (law_levels p tight d low).careful)
          (λ e deep p f name. let (tight, low) = name_tight e w p f name in (p, [], (((first_itself p tight).0, omega (arith, tight)), low)))
          (λ p f name. record { begins_with = λ a text x ((is, high), low) stop. behind_starts EndsPrimary (λ op at. (operator_apart op at).0) p a text x is stop.0.0.0.0 });
      some_text = λ e deep. (EName w.name w.span, [], (EName w.name w.span, [], [], refl, inr (inr (refl, refl)), (((refl, refl), omega arith), omega arith)));
    })
