-- What stands behind `GET (`: a variable, or an expression that begins with a name.
use Rattle.std.proofs.Common.{◌≡◌, ℕ, ◌-◌, ◌+◌, ◌<◌, ◌≤◌, length, get_or, take, drop, true, false, cond, is_some, List, [], ◌∷◌, Option, Some, None, refl, sym, ap, ◌∙◌, arith}
use Rattle.std.proofs.Math.Seq.{take-length}
use Rattle.ada_expr_parser.specs.readers.Readers.{Found, Fault, Reader, pure, refuse, go_on, bind, on_token, below_token, look, token}
use Rattle.ada_tree.specs.declared.naming.Span.{Span}
use Rattle.ada_tree.specs.declared.naming.Word.{Word}
use Rattle.ada_tree.specs.PlainExpr.{PExpr, EName}
use Rattle.ada_lexer.specs.declared.symbols.Symbol.TheVariants as key
use Rattle.ada_lexer.specs.declared.symbols.Symbol.{Symbol}
use Rattle.ada_expr_parser.specs.declared.items.ItemKind.{ItemKind}
use Rattle.ada_expr_parser.specs.declared.items.ItemKind.TheVariants as item
use Rattle.ada_expr_parser.specs.declared.items.Item.{Item}
use Rattle.ada_expr_parser.specs.Trees.{levels, indexed}
use Rattle.ada_expr_parser.specs.Tests as tests
use Rattle.ada_expr_parser.specs.Tests.{symbol, symbol_in, word}
use Rattle.ada_expr_parser.specs.Parts.{expression, expr_behind}
use Rattle.ada_phrase_parser.specs.Views.{is_operator}
use Rattle.ada_phrase_parser.specs.Reading.{is_symbol, key_then, in_deeper, goes_on_name, expression_from}
use Rattle.ada_simple_stmt_parser.specs.inner.ReadingSimple.{get_name, get_indexed, get_or_index, get_index, is_close, assign_or_call}
use Rattle.ada_phrase_parser.proofs.Named.{named_start, deeper_is, behind_full, off}

pub got_named : (d : ℕ) (w : Word) (ts : List Item) → 0 < d → in_deeper d goes_on_name (λ e. expression_from e w) ts ≡ expression_from (d - 1) w ts
got_named d w ts h = deeper_is d goes_on_name (λ e. expression_from e w) ts h

pub got_behind : (d : ℕ) (first : PExpr) (ts : List Item) → 0 < d → in_deeper d (λ y. false) (λ e. expr_behind e first) ts ≡ expr_behind (d - 1) first ts
got_behind d first ts h = deeper_is d (λ y. false) (λ e. expr_behind e first) ts h

pub got_full :
    (d : ℕ) (w : Word) (arg : PExpr) (close : Span) (ts : List Item) (dummy : Item) → 0 < d → d ≤ levels arg + 1 → 1 ≤ length ts →
    in_deeper d (λ y. false) (λ e. expr_behind e (indexed w arg close)) ts ≡ cond (is_operator (get_or ts 0 dummy).kind) (Fault true ts) (Found (indexed w arg close) ts)
got_full d w arg close [] dummy some low long = absurd (omega arith)
got_full d w arg close (x ∷ rest) dummy some low long = got_behind d (indexed w arg close) (x ∷ rest) some ∙ behind_full (d - 1) w arg close x rest (omega (arith, some, low))

-- a name behind `GET (` that begins an index and neither stands alone nor has one
pub got_is :
    (d : ℕ) (word_is : Word) (w : Word) (ts rest : List Item) (dummy : Item) → token word ts ≡ Found w rest → 1 ≤ length rest → is_symbol key.LeftParen (get_or rest 0 dummy) ≡ false → is_symbol key.RightParen (get_or rest 0 dummy) ≡ false → 0 < d →
    bind (token word) (get_name d word_is) ts ≡ go_on (expression (d - 1) ts) (get_index d word_is)
got_is d word_is w ts [] dummy named some opens closes room = absurd (omega arith)
got_is d word_is w ts (x ∷ xs) dummy named some opens closes room =
    ap (λ r. go_on r (get_name d word_is)) named
    ∙ ap (λ o. below_token d o (λ e lead. bind (expression e) (λ arg. bind (token (symbol key.RightParen)) (get_indexed d word_is w arg))) (look is_close (key_then key.RightParen (get_or_index d word_is record { name = w; index = None } (EName w.name w.span))) (bind (in_deeper d goes_on_name (λ e. expression_from e w)) (get_index d word_is))) x xs) (off (symbol key.LeftParen x) opens)
    ∙ ap (λ b. cond b (key_then key.RightParen (get_or_index d word_is record { name = w; index = None } (EName w.name w.span)) (x ∷ xs)) (go_on (in_deeper d goes_on_name (λ e. expression_from e w) (x ∷ xs)) (get_index d word_is))) closes
    ∙ ap (λ r. go_on r (get_index d word_is)) (got_named d w (x ∷ xs) room ∙ sym (named_start (d - 1) ts (x ∷ xs) w named))

-- an item is one symbol at most
alone : (k : ItemKind) (at : Span) → is_some (symbol_in key.RightParen k at) ≡ true → symbol_in key.LeftParen k at ≡ None
unfolding tests.same
alone (item.Symbol key.RightParen) at h = refl
alone (item.Symbol t) at h = cc
alone (item.Name id) at h = cc
alone (item.Integer n) at h = cc
alone (item.Duration n) at h = cc
alone item.Text at h = cc
alone item.End at h = cc

-- a symbol that stands there is taken
key_taken : {A : Type 0} (s : Symbol) (o : Option Span) (next : Reader Item A) (x : Item) (xs : List Item) → is_some o ≡ true → go_on (on_token o pure refuse x xs) (λ at. next) ≡ next xs
key_taken s None next x xs h = cc
key_taken s (Some at) next x xs h = refl

-- a name alone behind `GET (`
pub got_alone :
    (d : ℕ) (word_is : Word) (w : Word) (ts rest : List Item) (dummy : Item) → token word ts ≡ Found w rest → 1 ≤ length rest → is_symbol key.RightParen (get_or rest 0 dummy) ≡ true →
    bind (token word) (get_name d word_is) ts ≡ get_or_index d word_is record { name = w; index = None } (EName w.name w.span) (take (length rest - 1) (drop 1 rest))
got_alone d word_is w ts [] dummy named some closes = absurd (omega arith)
got_alone d word_is w ts (x ∷ xs) dummy named some closes =
    let n : length (x ∷ xs) - 1 ≡ length xs = omega arith in
    ap (λ r. go_on r (get_name d word_is)) named
    ∙ ap (λ o. below_token d o (λ e lead. bind (expression e) (λ arg. bind (token (symbol key.RightParen)) (get_indexed d word_is w arg))) (look is_close (key_then key.RightParen (get_or_index d word_is record { name = w; index = None } (EName w.name w.span))) (bind (in_deeper d goes_on_name (λ e. expression_from e w)) (get_index d word_is))) x xs) (alone x.kind x.span closes)
    ∙ ap (λ b. cond b (key_then key.RightParen (get_or_index d word_is record { name = w; index = None } (EName w.name w.span)) (x ∷ xs)) (go_on (in_deeper d goes_on_name (λ e. expression_from e w) (x ∷ xs)) (get_index d word_is))) closes
    ∙ key_taken key.RightParen (symbol key.RightParen x) (get_or_index d word_is record { name = w; index = None } (EName w.name w.span)) x xs closes
    ∙ ap (get_or_index d word_is record { name = w; index = None } (EName w.name w.span)) (rw n (sym (take-length xs)))

-- an index behind `GET (` that is not closed there
pub indexed_is :
    (d : ℕ) (word_is w : Word) (arg : PExpr) (close : Span) (ts : List Item) (dummy : Item) → 1 ≤ length ts → is_symbol key.RightParen (get_or ts 0 dummy) ≡ false →
    get_indexed d word_is w arg close ts ≡ go_on (in_deeper d (λ y. false) (λ e. expr_behind e (indexed w arg close)) ts) (get_index d word_is)
indexed_is d word_is w arg close [] dummy some closes = absurd (omega arith)
indexed_is d word_is w arg close (x ∷ xs) dummy some closes =
    ap (λ b. cond b (key_then key.RightParen (get_or_index d word_is record { name = w; index = Some arg } (indexed w arg close)) (x ∷ xs)) (go_on (in_deeper d (λ y. false) (λ e. expr_behind e (indexed w arg close)) (x ∷ xs)) (get_index d word_is))) closes

-- a symbol that does not stand there is refused there
key_missing : {A : Type 0} (s : Symbol) (next : Reader Item A) (ts : List Item) (dummy : Item) → 1 ≤ length ts → is_symbol s (get_or ts 0 dummy) ≡ false → key_then s next ts ≡ Fault false ts
key_missing s next [] dummy some missing = absurd (omega arith)
key_missing s next (x ∷ xs) dummy some missing = ap (λ o. go_on (on_token o pure refuse x xs) (λ at. next)) (off (symbol s x) missing)

pub full_deep :
    (d : ℕ) (word_is w : Word) (arg : PExpr) (close : Span) (ts : List Item) (dummy : Item) → 0 < d → d ≤ levels arg + 1 → 1 ≤ length ts → is_symbol key.RightParen (get_or ts 0 dummy) ≡ false → is_operator (get_or ts 0 dummy).kind ≡ true →
    get_indexed d word_is w arg close ts ≡ Fault true ts
full_deep d word_is w arg close ts dummy some low long closes operator =
    indexed_is d word_is w arg close ts dummy long closes ∙ ap (λ r. go_on r (get_index d word_is)) (got_full d w arg close ts dummy some low long ∙ ap (λ b. cond b (Fault true ts) (Found (indexed w arg close) ts)) operator)

pub full_ends :
    (d : ℕ) (word_is w : Word) (arg : PExpr) (close : Span) (ts : List Item) (dummy : Item) → 0 < d → d ≤ levels arg + 1 → 1 ≤ length ts → is_symbol key.RightParen (get_or ts 0 dummy) ≡ false → is_operator (get_or ts 0 dummy).kind ≡ false →
    get_indexed d word_is w arg close ts ≡ Fault false ts
full_ends d word_is w arg close ts dummy some low long closes operator =
    indexed_is d word_is w arg close ts dummy long closes
    ∙ ap (λ r. go_on r (get_index d word_is)) (got_full d w arg close ts dummy some low long ∙ ap (λ b. cond b (Fault true ts) (Found (indexed w arg close) ts)) operator)
    ∙ key_missing key.RightParen (assign_or_call d record { name = word_is; index = Some (indexed w arg close) }) ts dummy long closes
