-- The laws of what is built of expressions: ranges, variables and components, calls and choices.
use Rattle.std.proofs.Common.{◌≡◌, ℕ, suc, inl, inr, List, [], ◌∷◌, ◌++◌, Option, Some, None, refl, sym, ap, ◌∙◌, subst, arith}
use Rattle.ada_tree.specs.declared.naming.Span.{Span}
use Rattle.ada_tree.specs.declared.naming.Word.{Word}
use Rattle.ada_tree.specs.PlainExpr.{PExpr, EName, PBounds, PSubind, PDrange, RGiven, RMarked}
use Rattle.ada_lexer.specs.declared.symbols.Symbol.TheVariants as key
use Rattle.ada_expr_parser.specs.declared.items.Item.{Item}
use Rattle.ada_expr_parser.specs.declared.levels.Level.TheVariants.{Simple}
use Rattle.ada_expr_parser.specs.Tests.{same, symbol, word}
use Rattle.ada_expr_parser.specs.Reading.{expr}
use Rattle.ada_expr_parser.specs.Parts as parts
use Rattle.ada_expr_parser.specs.Grammar.{symbol_item, word_item, Spells, IsBounds, IsRangeOf, IsSubind, IsDrange}
use Rattle.ada_expr_parser.specs.readers.Readers.{pure, bind}
use Rattle.ada_expr_parser.specs.readers.Grammars.{Texts, Never, Is, One, Then, Or, Starts}
use Rattle.ada_expr_parser.specs.readers.Lawful.{Careful, Lawful, IsPassed}
use Rattle.ada_expr_parser.proofs.readers.Binding.{law_pure, law_bind, law_then}
use Rattle.ada_expr_parser.proofs.readers.Choosing.{law_on, careful_refuse}
use Rattle.ada_expr_parser.proofs.readers.Listing.{law_token}
use Rattle.ada_expr_parser.proofs.readers.Fitting.{starts_is, starts_or, starts_never, starts_token, starts_then, law_fit, law_stops}
use Rattle.ada_parser.specs.expression_laws.Stopping.{Ends, EndsMark, EndsRange}
use Rattle.ada_parser.proofs.expression_laws.Tokens.{symbol_is, symbol_takes}
use Rattle.ada_parser.proofs.expression_laws.Primaries.{no_place, some_word}
use Rattle.ada_parser.proofs.expression_laws.Plainly.{after_symbol, symbol_then, after_word, word_then, made, make, ExprTexts, law_is_expr}

-- ---- bounds

dots_end : (at : Span) → Ends Simple (symbol_item key.DotDot at)
unfolding same
dots_end at = (((refl, refl), refl), refl)

abbrev pair : PExpr → PExpr → PBounds
pair first last = record { first = first; last = last }

abbrev LastTexts : PExpr → Texts Item PBounds
LastTexts first = Then (ExprTexts Simple) (λ last. Is (pair first last))

abbrev BoundsTexts : Texts Item PBounds
BoundsTexts = Then (ExprTexts Simple) (λ first. Then (One (symbol key.DotDot)) (λ dots. LastTexts first))

bounds_spell : (d : ℕ) (b : PBounds) (text : List Item) → BoundsTexts d b text → IsBounds d b text
bounds_spell d b text (first, front, back, from, is, rest) =
    let (at, more, split, next) = after_symbol key.DotDot (λ dots. LastTexts first) d b back rest in
    let (last, same, other) = made (ExprTexts Simple) (pair first) d b more next in
    rw same (record { front = front; at = at; back = more; first = is; last = other; text_is = from ∙ ap (λ l. front ++ l) split })

spell_bounds : (d : ℕ) (b : PBounds) (text : List Item) → IsBounds d b text → BoundsTexts d b text
spell_bounds d b text is = (
  b.first,
  is.front,
  symbol_item key.DotDot is.at ∷ is.back,
  is.text_is,
  is.first,
  symbol_then key.DotDot (λ dots. LastTexts b.first) d b is.at is.back (make (ExprTexts Simple) (pair b.first) d b.last is.back is.last),
)

law_last : (d : ℕ) (first : PExpr) → Lawful d (bind (expr d Simple) (λ last. pure (pair first last))) (bind (expr (suc d) Simple) (λ last. pure (pair first last))) (LastTexts first) (Ends Simple)
law_last d first = law_bind (law_is_expr d Simple) (λ last. law_pure d (pair first last) (Ends Simple)) (λ last. starts_is (λ x stop. stop))

pub law_bounds : (d : ℕ) → Lawful d (parts.bounds d) (parts.bounds (suc d)) (λ d b text. IsBounds d b text) (Ends Simple)
law_bounds d = law_fit (λ e deep b text is. bounds_spell e b text is) (spell_bounds d)
    (law_bind (law_is_expr d Simple)
    (λ first. law_then (law_token (symbol_item key.DotDot no_place) no_place (symbol_takes key.DotDot no_place)) (λ dots. law_last d first))
    (λ first. starts_token (λ k at some. subst (Ends Simple) (sym (symbol_is key.DotDot k at some)) (dots_end at))))

-- ---- marks

abbrev of_mark : Word → Option PBounds → PSubind
of_mark mark bounds = record { mark = mark; bounds = bounds }

abbrev RangedTexts : Word → Texts Item PSubind
RangedTexts mark = Then (λ d b text. IsBounds d b text) (λ b. Is (of_mark mark (Some b)))

abbrev MarkTexts : Word → Texts Item PSubind
MarkTexts mark = Or (Then (One (symbol key.Range)) (λ range. RangedTexts mark)) (Is (of_mark mark None))

law_mark : (d : ℕ) (mark : Word) → Lawful d (parts.mark_rest d mark) (parts.mark_rest (suc d) mark) (MarkTexts mark) EndsMark
law_mark d mark = law_on {test = symbol key.Range}
    (λ range. law_bind (law_bounds d) (λ b. law_pure d (of_mark mark (Some b)) EndsMark) (λ b. starts_is (λ x stop. stop.0)))
    (law_pure d (of_mark mark None) EndsMark).careful (starts_is (λ x stop. stop.1)) (symbol_item key.Range no_place) no_place (symbol_takes key.Range no_place)

mark_is : (d : ℕ) (mark : Word) (x : PSubind) (text : List Item) → MarkTexts mark d x text → (bounds : Option PBounds) × (x ≡ of_mark mark bounds) × IsRangeOf d bounds text
mark_is d mark x text (inl range) =
    let (at, back, from, rest) = after_symbol key.Range (λ range. RangedTexts mark) d x text range in
    let (b, same, is) = made (λ d b text. IsBounds d b text) (λ b. of_mark mark (Some b)) d x back rest in
    (Some b, same, (at, back, is, from))
mark_is d mark x text (inr (same, none)) = (None, same, none)

is_mark : (d : ℕ) (mark : Word) (bounds : Option PBounds) (text : List Item) → IsRangeOf d bounds text → MarkTexts mark d (of_mark mark bounds) text
is_mark d mark None text none = inr (refl, none)
is_mark d mark (Some b) text (at, back, is, from) = inl (subst (Then (One (symbol key.Range)) (λ range. RangedTexts mark) d (of_mark mark (Some b))) (sym from)
    (symbol_then key.Range (λ range. RangedTexts mark) d (of_mark mark (Some b)) at back (make (λ d b text. IsBounds d b text) (λ b. of_mark mark (Some b)) d b back is)))

subind_spell : (d : ℕ) (x : PSubind) (text : List Item) → Then (One word) MarkTexts d x text → IsSubind d x text
subind_spell d x text is =
    let (w, back, from, rest) = after_word MarkTexts d x text is in
    let (bounds, same, range) = mark_is d w x back rest in
    rw same (record { back = back; bounds = range; text_is = from })

spell_subind : (d : ℕ) (x : PSubind) (text : List Item) → IsSubind d x text → Then (One word) MarkTexts d x text
spell_subind d x text is = subst (Then (One word) MarkTexts d x) (sym is.text_is) (word_then MarkTexts d x x.mark is.back (is_mark d x.mark x.bounds is.back is.bounds))

pub law_subind : (d : ℕ) → Lawful d (parts.subind d) (parts.subind (suc d)) (λ d x text. IsSubind d x text) EndsMark
law_subind d = law_fit (λ e deep x text is. subind_spell e x text is) (spell_subind d) (law_then (law_token (word_item some_word) some_word refl) (law_mark d))

-- ---- discrete ranges

abbrev GivenTexts : PExpr → Texts Item PDrange
GivenTexts first = Then (ExprTexts Simple) (λ last. Is (RGiven (pair first last)))

abbrev MarkedTexts : PExpr → Texts Item PDrange
MarkedTexts (EName name at) = Then (MarkTexts (record { name = name; span = at })) (λ x. Is (RMarked x))
MarkedTexts e = Never

abbrev DrangeRest : PExpr → Texts Item PDrange
DrangeRest first = Or (Then (One (symbol key.DotDot)) (λ dots. GivenTexts first)) (MarkedTexts first)

careful_marked : (d : ℕ) (first : PExpr) → Careful d (parts.marked_rest d first) (parts.marked_rest (suc d) first) (MarkedTexts first) EndsRange
careful_marked d (EName name at) = (law_bind (law_stops (λ x stop. stop) (law_mark d (record { name = name; span = at }))) (λ x. law_pure d (RMarked x) EndsRange) (λ x. starts_is (λ y stop. stop.0))).careful
careful_marked d e = careful_refuse d EndsRange

range_no_dots : (k : Item) (at : Span) → symbol key.Range k ≡ Some at → symbol key.DotDot k ≡ None
unfolding same
range_no_dots k at some = rw (symbol_is key.Range k at some) refl

range_ends : (at : Span) → Ends Simple (symbol_item key.Range at)
unfolding same
range_ends at = (((refl, refl), refl), refl)

mark_starts : (d : ℕ) (mark : Word) → Starts d (MarkTexts mark) EndsRange (Ends Simple)
mark_starts d mark = starts_or (starts_token (λ k at some. subst (Ends Simple) (sym (symbol_is key.Range k at some)) (range_ends at))) (starts_is (λ x stop. stop.0.0))

mark_no_dots : (d : ℕ) (mark : Word) → Starts d (MarkTexts mark) EndsRange (IsPassed (symbol key.DotDot))
mark_no_dots d mark = starts_or (starts_token range_no_dots) (starts_is (λ x stop. stop.1))

marked_starts : (d : ℕ) (first : PExpr) → Starts d (MarkedTexts first) EndsRange (Ends Simple)
marked_starts d (EName name at) = starts_then (mark_starts d (record { name = name; span = at })) (λ x. starts_is (λ y stop. stop))
marked_starts d e = starts_never

marked_no_dots : (d : ℕ) (first : PExpr) → Starts d (MarkedTexts first) EndsRange (IsPassed (symbol key.DotDot))
marked_no_dots d (EName name at) = starts_then (mark_no_dots d (record { name = name; span = at })) (λ x. starts_is (λ y stop. stop))
marked_no_dots d e = starts_never

law_drange_rest : (d : ℕ) (first : PExpr) →
    Lawful d (parts.last_bound d (λ last. RGiven (pair first last)) (parts.marked_rest d first)) (parts.last_bound (suc d) (λ last. RGiven (pair first last)) (parts.marked_rest (suc d) first)) (DrangeRest first) EndsRange
law_drange_rest d first = law_on {test = symbol key.DotDot}
    (λ dots. law_bind (law_is_expr d Simple) (λ last. law_pure d (RGiven (pair first last)) EndsRange) (λ last. starts_is (λ x stop. stop.0.0)))
    (careful_marked d first) (marked_no_dots d first) (symbol_item key.DotDot no_place) no_place (symbol_takes key.DotDot no_place)

marked_is : (d : ℕ) (first : PExpr) (x : PDrange) (front text : List Item) → Spells first front → MarkedTexts first d x text → IsDrange d x (front ++ text)
marked_is d (EName name at) x front text from is =
    let (s, same, rest) = made (MarkTexts (record { name = name; span = at })) RMarked d x text is in
    let (bounds, mark, range) = mark_is d (record { name = name; span = at }) s text rest in
    rw same (rw mark (record { back = text; bounds = range; text_is = ap (λ l. l ++ text) from }))
marked_is d e x front text from never = absurd never

drange_spell : (d : ℕ) (x : PDrange) (text : List Item) → Then (ExprTexts Simple) DrangeRest d x text → IsDrange d x text
drange_spell d x text (first, front, back, from, is, inl given) =
    let (at, more, split, rest) = after_symbol key.DotDot (λ dots. GivenTexts first) d x back given in
    let (last, same, other) = made (ExprTexts Simple) (λ last. RGiven (pair first last)) d x more rest in
    rw same (record { front = front; at = at; back = more; first = is; last = other; text_is = from ∙ ap (λ l. front ++ l) split })
drange_spell d x text (first, front, back, from, is, inr marked) = rw from (marked_is d first x front back is.spells marked)

spell_drange : (d : ℕ) (x : PDrange) (text : List Item) → IsDrange d x text → Then (ExprTexts Simple) DrangeRest d x text
spell_drange d (RGiven b) text is = (
  b.first,
  is.front,
  symbol_item key.DotDot is.at ∷ is.back,
  is.text_is,
  is.first,
  inl (symbol_then key.DotDot (λ dots. GivenTexts b.first) d (RGiven b) is.at is.back (make (ExprTexts Simple) (λ last. RGiven (pair b.first last)) d b.last is.back is.last)),
)
spell_drange d (RMarked x) text is = (
  EName x.mark.name x.mark.span,
  word_item x.mark ∷ [],
  is.back,
  is.text_is,
  record { spells = refl; fits = omega arith; nested = omega arith },
  inr (make (MarkTexts x.mark) RMarked d x is.back (is_mark d x.mark x.bounds is.back is.bounds)),
)

pub law_drange : (d : ℕ) → Lawful d (parts.drange d) (parts.drange (suc d)) (λ d x text. IsDrange d x text) EndsRange
law_drange d = law_fit (λ e deep x text is. drange_spell e x text is) (spell_drange d)
    (law_bind (law_is_expr d Simple) (law_drange_rest d)
    (λ first. starts_or (starts_token (λ k at some. subst (Ends Simple) (sym (symbol_is key.DotDot k at some)) (dots_end at))) (marked_starts d first)))
