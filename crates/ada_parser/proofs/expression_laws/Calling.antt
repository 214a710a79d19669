-- The laws of variables and components, of calls and of choices.
use Rattle.std.proofs.Common.{◌≡◌, ℕ, zero, suc, ◌≤◌, Bool, true, false, inl, inr, List, [], ◌∷◌, ◌++◌, Option, Some, None, refl, sym, ap, ◌∙◌, subst, arith}
use Rattle.std.specs.Prelude.{if◌then◌else◌, nat_le}
use Rattle.std.proofs.lemmas.List.{append-nil}
use Rattle.ada_tree.specs.declared.naming.Span.{Span}
use Rattle.ada_tree.specs.declared.naming.Word.{Word}
use Rattle.ada_tree.specs.PlainExpr.{PExpr, EInteger}
use Rattle.ada_tree.specs.PlainStmt.{PTarget, PChoice}
use Rattle.ada_tree.specs.WellPlaced.{level, simple}
use Rattle.ada_lexer.specs.declared.symbols.Symbol.TheVariants as key
use Rattle.ada_expr_parser.specs.declared.items.Item.{Item}
use Rattle.ada_expr_parser.specs.declared.levels.Level.TheVariants.{Logical, Simple}
use Rattle.ada_expr_parser.specs.Tests.{same, symbol, word}
use Rattle.ada_expr_parser.specs.Reading.{inner}
use Rattle.ada_expr_parser.specs.Parts as parts
use Rattle.ada_expr_parser.specs.Grammar.{symbol_item, word_item, number_item, IsExpr, IsIndex, IsTarget, IsChoice}
use Rattle.ada_expr_parser.specs.readers.Readers.{pure, bind, token}
use Rattle.ada_expr_parser.specs.readers.Grammars.{Texts, Is, One, Then, Or, Below, Starts}
use Rattle.ada_expr_parser.specs.readers.Lawful.{Lawful}
use Rattle.ada_expr_parser.proofs.readers.Binding.{law_pure, law_bind, law_then}
use Rattle.ada_expr_parser.proofs.readers.Choosing.{law_on}
use Rattle.ada_expr_parser.proofs.readers.Listing.{law_token}
use Rattle.ada_expr_parser.proofs.readers.Deepening.{law_below}
use Rattle.ada_expr_parser.proofs.readers.Fitting.{starts_is, starts_or, starts_token, law_fit, law_same}
use Rattle.ada_parser.specs.expression_laws.Stopping.{Ends, EndsTarget, EndsChoice}
use Rattle.ada_parser.proofs.expression_laws.Tokens.{symbol_is, symbol_takes}
use Rattle.ada_parser.proofs.expression_laws.Primaries.{no_place, some_word, close_ends}
use Rattle.ada_parser.proofs.expression_laws.Plainly.{after_symbol, symbol_then, after_word, word_then, made, make, ExprTexts, law_is_expr}

-- what reads one level deeper
pub law_inner : (d e : ℕ) → d ≡ suc e → Lawful e (inner d Logical) (inner (suc d) Logical) (ExprTexts Logical) (Ends Logical)
law_inner d e is = subst (λ n. Lawful e (inner n Logical) (inner (suc n) Logical) (ExprTexts Logical) (Ends Logical)) (sym is) (law_is_expr e Logical)

pub comma_ends : (at : Span) → Ends Logical (symbol_item key.Comma at)
unfolding same
comma_ends at = (((((refl, refl), refl), refl), refl), refl)

dots_end : (at : Span) → Ends Logical (symbol_item key.DotDot at)
unfolding same
dots_end at = (((((refl, refl), refl), refl), refl), refl)

pub a_number : (e : ℕ) → IsExpr Logical e (EInteger 0 no_place) (number_item 0 no_place ∷ [])
a_number e = record { spells = refl; fits = omega arith; nested = omega arith }

-- a tree and then the closing parenthesis
abbrev pub ShutTexts : {A : Type 0} → A → Texts Item A
ShutTexts a = Then (One (symbol key.RightParen)) (λ close. Is a)

pub law_shut : {A : Type 0} (d : ℕ) (a : A) (S : Item → Type 0) → Lawful d (bind (token (symbol key.RightParen)) (λ close. pure a)) (bind (token (symbol key.RightParen)) (λ close. pure a)) (ShutTexts a) S
law_shut d a S = law_then (law_token (symbol_item key.RightParen no_place) no_place (symbol_takes key.RightParen no_place)) (λ close. law_pure d a S)

pub shut_starts : {A : Type 0} (d : ℕ) (a : A) (S : Item → Type 0) → Starts d (ShutTexts a) S (Ends Logical)
shut_starts d a S = starts_token (λ k at some. subst (Ends Logical) (sym (symbol_is key.RightParen k at some)) (close_ends at))

pub shut_is : {A : Type 0} (d : ℕ) (a b : A) (text : List Item) → ShutTexts a d b text → (close : Span) × (b ≡ a) × (text ≡ symbol_item key.RightParen close ∷ [])
shut_is d a b text is =
    let (close, back, from, (same, none)) = after_symbol key.RightParen (λ close. Is a) d b text is in
    (close, same, from ∙ ap (λ l. symbol_item key.RightParen close ∷ l) none)

pub is_shut : {A : Type 0} (d : ℕ) (a : A) (close : Span) → ShutTexts a d a (symbol_item key.RightParen close ∷ [])
is_shut d a close = symbol_then key.RightParen (λ close. Is a) d a close [] (refl, refl)

-- ---- variables and components

abbrev pub of_name : Word → Option PExpr → PTarget
of_name name index = record { name = name; index = index }

abbrev pub IndexTexts : Word → Texts Item PTarget
IndexTexts name = Then (ExprTexts Logical) (λ arg. ShutTexts (of_name name (Some arg)))

abbrev pub TargetRest : Word → Texts Item PTarget
TargetRest name = Or (Then (One (symbol key.LeftParen)) (λ lead. Below (IndexTexts name))) (Is (of_name name None))

pub law_target_rest : (d : ℕ) (name : Word) → Lawful d (parts.target_rest d name) (parts.target_rest (suc d) name) (TargetRest name) EndsTarget
law_target_rest d name = law_below
    (λ e lead. bind (inner d Logical) (λ arg. bind (token (symbol key.RightParen)) (λ close. pure (of_name name (Some arg)))))
    (λ e lead. bind (inner (suc d) Logical) (λ arg. bind (token (symbol key.RightParen)) (λ close. pure (of_name name (Some arg)))))
    (λ lead. (
      0,
      of_name name (Some (EInteger 0 no_place)),
      number_item 0 no_place ∷ symbol_item key.RightParen no_place ∷ [],
      (EInteger 0 no_place, number_item 0 no_place ∷ [], symbol_item key.RightParen no_place ∷ [], refl, a_number 0, is_shut 0 (of_name name (Some (EInteger 0 no_place))) no_place),
    ))
    d
    (λ e is lead. law_bind (law_inner d e is) (λ arg. law_shut e (of_name name (Some arg)) EndsTarget) (λ arg. shut_starts e (of_name name (Some arg)) EndsTarget))
    (law_pure d (of_name name None) EndsTarget) (starts_is (λ x stop. stop))

pub target_is : (d : ℕ) (name : Word) (x : PTarget) (text : List Item) → TargetRest name d x text → (index : Option PExpr) × (x ≡ of_name name index) × IsIndex d index text
target_is zero name x text (inl (lead, one, back, from, token, never)) = absurd never
target_is (suc d) name x text (inl lead_in) =
    let (lead, back, from, (arg, front, more, split, is, rest)) = after_symbol key.LeftParen (λ lead. Below (IndexTexts name)) (suc d) x text lead_in in
    let (close, same, shut) = shut_is d (of_name name (Some arg)) x more rest in (
      Some arg,
      same,
      record {
        lead = lead;
        close = close;
        part = front;
        spells = is.spells;
        nested = let low = is.nested in omega (arith, low);
        text_is = from ∙ ap (λ l. symbol_item key.LeftParen lead ∷ l) (split ∙ ap (λ l. front ++ l) shut);
      },
    )
target_is d name x text (inr (same, none)) = (None, same, none)

pub is_target : (d : ℕ) (name : Word) (index : Option PExpr) (text : List Item) → IsIndex d index text → TargetRest name d (of_name name index) text
is_target d name None text none = inr (refl, none)
is_target zero name (Some e) text is = let low = is.nested in absurd (omega (arith, low))
is_target (suc d) name (Some e) text is = inl (subst (Then (One (symbol key.LeftParen)) (λ lead. Below (IndexTexts name)) (suc d) (of_name name (Some e))) (sym is.text_is)
    (symbol_then key.LeftParen (λ lead. Below (IndexTexts name)) (suc d) (of_name name (Some e)) is.lead (is.part ++ symbol_item key.RightParen is.close ∷ [])
    (e, is.part, symbol_item key.RightParen is.close ∷ [], refl, record { spells = is.spells; fits = omega arith; nested = let low = is.nested in omega (arith, low) }, is_shut d (of_name name (Some e)) is.close)))

target_spell : (d : ℕ) (x : PTarget) (text : List Item) → Then (One word) TargetRest d x text → IsTarget d x text
target_spell d x text is =
    let (w, back, from, rest) = after_word TargetRest d x text is in
    let (index, same, range) = target_is d w x back rest in
    rw same (record { back = back; index = range; text_is = from })

spell_target : (d : ℕ) (x : PTarget) (text : List Item) → IsTarget d x text → Then (One word) TargetRest d x text
spell_target d x text is = subst (Then (One word) TargetRest d x) (sym is.text_is) (word_then TargetRest d x x.name is.back (is_target d x.name x.index is.back is.index))

pub law_target : (d : ℕ) → Lawful d (parts.target d) (parts.target (suc d)) (λ d x text. IsTarget d x text) EndsTarget
law_target d = law_fit (λ e deep x text is. target_spell e x text is) (spell_target d) (law_then (law_token (word_item some_word) some_word refl) (law_target_rest d))

-- ---- choices

abbrev alone : PExpr → PChoice
alone first = record { first = first; last = None }

abbrev up_to_last : PExpr → PExpr → PChoice
up_to_last first last = record { first = first; last = Some last }

abbrev UpTexts : PExpr → Texts Item PChoice
UpTexts first = Then (ExprTexts Simple) (λ last. Is (up_to_last first last))

abbrev ChoiceRest : Bool → PExpr → Texts Item PChoice
ChoiceRest true first = Or (Then (One (symbol key.DotDot)) (λ dots. UpTexts first)) (Is (alone first))
ChoiceRest false first = Is (alone first)

law_choice_rest : (d : ℕ) (first : PExpr) (b : Bool) → parts.is_simple first ≡ b → Lawful d (parts.choice_rest d first) (parts.choice_rest (suc d) first) (ChoiceRest b first) EndsChoice
law_choice_rest d first true is = law_same
    (λ ts. ap (λ t. if t then parts.last_bound d (up_to_last first) (pure (alone first)) ts else pure (alone first) ts) is)
    (λ ts. ap (λ t. if t then parts.last_bound (suc d) (up_to_last first) (pure (alone first)) ts else pure (alone first) ts) is)
    (law_on {test = symbol key.DotDot}
    (λ dots. law_bind (law_is_expr d Simple) (λ last. law_pure d (up_to_last first last) EndsChoice) (λ last. starts_is (λ x stop. stop.0.0.0)))
    (law_pure d (alone first) EndsChoice).careful (starts_is (λ x stop. stop.1)) (symbol_item key.DotDot no_place) no_place (symbol_takes key.DotDot no_place))
law_choice_rest d first false is = law_same
    (λ ts. ap (λ t. if t then parts.last_bound d (up_to_last first) (pure (alone first)) ts else pure (alone first) ts) is)
    (λ ts. ap (λ t. if t then parts.last_bound (suc d) (up_to_last first) (pure (alone first)) ts else pure (alone first) ts) is)
    (law_pure d (alone first) EndsChoice)

abbrev ChoiceBehind : PExpr → Texts Item PChoice
ChoiceBehind first = ChoiceRest (parts.is_simple first) first

choice_starts : (d : ℕ) (first : PExpr) (b : Bool) → Starts d (ChoiceRest b first) EndsChoice (Ends Logical)
choice_starts d first true = starts_or (starts_token (λ k at some. subst (Ends Logical) (sym (symbol_is key.DotDot k at some)) (dots_end at))) (starts_is (λ x stop. stop.0))
choice_starts d first false = starts_is (λ x stop. stop.0)

simple_says : (e : PExpr) → nat_le simple (level e) ≡ true → simple ≤ level e
simple_says e is = grind (arith, is)

says_simple : (e : PExpr) → simple ≤ level e → nat_le simple (level e) ≡ true
says_simple e low = grind (arith, low)

choice_is : (d : ℕ) (first : PExpr) (b : Bool) (x : PChoice) (front text : List Item) → parts.is_simple first ≡ b → IsExpr Logical d first front → ChoiceRest b first d x text → IsChoice d x (front ++ text)
choice_is d first true x front text is spelled (inl dotted) =
    let (at, back, from, rest) = after_symbol key.DotDot (λ dots. UpTexts first) d x text dotted in
    let (last, same, other) = made (ExprTexts Simple) (up_to_last first) d x back rest in
    rw same (record { front = front; at = at; back = back; first = record { spells = spelled.spells; fits = simple_says first is; nested = spelled.nested }; last = other; text_is = ap (λ l. front ++ l) from })
choice_is d first true x front text is spelled (inr (same, none)) = rw same (rw none (subst (IsExpr Logical d first) (sym (append-nil front)) spelled))
choice_is d first false x front text is spelled (same, none) = rw same (rw none (subst (IsExpr Logical d first) (sym (append-nil front)) spelled))

alone_rest : (d : ℕ) (first : PExpr) (b : Bool) → ChoiceRest b first d (alone first) []
alone_rest d first true = inr (refl, refl)
alone_rest d first false = (refl, refl)

is_choice : (d : ℕ) (first : PExpr) (last : Option PExpr) (text : List Item) → IsChoice d (record { first = first; last = last }) text → Then (ExprTexts Logical) ChoiceBehind d (record { first = first; last = last }) text
is_choice d first None text is = (first, text, [], sym (append-nil text), is, alone_rest d first (parts.is_simple first))
is_choice d first (Some last) text is = (
  first,
  is.front,
  symbol_item key.DotDot is.at ∷ is.back,
  is.text_is,
  record { spells = is.first.spells; fits = omega arith; nested = is.first.nested },
  subst (λ b. ChoiceRest b first d (up_to_last first last) (symbol_item key.DotDot is.at ∷ is.back)) (sym (says_simple first is.first.fits))
      (inl (symbol_then key.DotDot (λ dots. UpTexts first) d (up_to_last first last) is.at is.back (make (ExprTexts Simple) (up_to_last first) d last is.back is.last))),
)

pub law_choice : (d : ℕ) → Lawful d (parts.choice d) (parts.choice (suc d)) (λ d x text. IsChoice d x text) EndsChoice
law_choice d = law_fit (λ e deep x text (first, front, back, from, is, rest). rw from (choice_is e first (parts.is_simple first) x front back refl is rest))
    (λ x text is. is_choice d x.first x.last text is)
    (law_bind (law_is_expr d Logical) (λ first. law_choice_rest d first (parts.is_simple first) refl) (λ first. choice_starts d first (parts.is_simple first)))
