-- The laws of handlers, of bodies and of blocks.
use Rattle.std.proofs.Common.{◌≡◌, ℕ, zero, suc, Bool, true, false, inl, inr, List, [], ◌∷◌, ◌++◌, Option, Some, None, refl, sym, ap, ◌∙◌, subst}
use Rattle.std.specs.Prelude.{if◌then◌else◌}
use Rattle.std.proofs.lemmas.List.{append-nil}
use Rattle.ada_tree.specs.declared.naming.Span.{Span}
use Rattle.ada_tree.specs.declared.naming.Word.{Word}
use Rattle.ada_tree.specs.PlainStmt.{PStmt, SNull, SAssign, SDelay, SExit, SRaise, SAbort, SCall, SAccept, SWait, SConditional, STimed, SPut, SPutLine, SNewLine, SGet, SIf, SCase, SBlock, SLoop, PStmts, no_stmt, stmt_then, PAccept, accepting, absent, present, PBody, body, PHandler, handler, PHandlers, no_handler, handler_then, handlers_of}
use Rattle.ada_tree.specs.WellPlaced.{OthersLast}
use Rattle.ada_lexer.specs.declared.symbols.Symbol.TheVariants as key
use Rattle.ada_expr_parser.specs.declared.items.Item.{Item}
use Rattle.ada_expr_parser.specs.Tests.{same, symbol}
use Rattle.ada_expr_parser.specs.Grammar.{symbol_item}
use Rattle.ada_expr_parser.specs.Trees.{from_to}
use Rattle.ada_phrase_parser.specs.Spelling.{Source, Spelling, ◌▷◌, Key, Named, Separated, last_place, IsPlaceOf}
use Rattle.ada_phrase_parser.specs.Phrases.{WhenRaised, WhenOthers}
use Rattle.ada_stmt_parser.specs.Statements.{IsStmt, AnyStmts, Stmts, IsAccept, IsBody, HandlerPart, IsHandler, MoreHandlers}
use Rattle.ada_phrase_parser.specs.Reading.{is_symbol}
use Rattle.ada_stmt_parser.specs.inner.ReadingStatements.{Readers, Whens, accept_span, whens, body_rest, block_rest, handler_part, handler_others, handlers_at}
use Rattle.ada_compound_parts.specs.inner.ReadingParts.{stmt_span, last_span, with_others}
use Rattle.ada_expr_parser.specs.readers.Readers.{Answer, Fault, Reader, go_on, bind, pure, token, look, refuse}
use Rattle.ada_expr_parser.specs.readers.Grammars.{Texts, Is, One, Then, Or, Below, Starts, first_of}
use Rattle.ada_expr_parser.specs.readers.Lawful.{Lawful, Anything, IsPassed}
use Rattle.ada_expr_parser.proofs.readers.Basics.{not_empty}
use Rattle.ada_expr_parser.proofs.readers.Binding.{law_pure, law_bind}
use Rattle.ada_expr_parser.proofs.readers.Deepening.{law_below}
use Rattle.ada_expr_parser.proofs.readers.Fitting.{law_fit, law_stops, law_same, starts_is, starts_or, starts_token}
use Rattle.ada_parser.proofs.expression_laws.Tokens.{symbol_is}
use Rattle.ada_parser.proofs.expression_laws.Primaries.{no_place}
use Rattle.ada_parser.proofs.expression_laws.Plainly.{after_symbol, symbol_then}
use Rattle.ada_parser.proofs.KitPieces.{KeyAt, Closing, closing_key, closing_then, placed_key, key_placed, key_then, after_key, last_append, Same, same_self, same_turn, same_through, same_then, same_behind, same_grouped}
use Rattle.ada_parser.proofs.KitReading.{Made, Both, made_fit, made_bind, made_key, made_pure, law_closed, law_word, law_separated, starts_key}
use Rattle.ada_parser.proofs.KitWhens.{WhenPart, WhenLast, PartTexts, IsSomePart, SomeTexts, law_some_whens}
use Rattle.ada_parser.proofs.StmtLevels.{EndsStmts, EndsHandlers, IsSomeHandler, StmtsTexts, HandlersTexts, LevelLaws, law_stmts, Has, has_then, has_nothing, has_key, has_at, nulls, has_nulls, when_stmts, ArrowStmts}
use Rattle.ada_parser.proofs.StmtSimple.{LedBelow}
use Rattle.ada_parser.proofs.StmtLoops.{placed_same}

-- ---- where statements end

abbrev pub end_of : Span → ℕ
end_of s = s.end

-- the end of a node is the end of its last item
pub stands_end : (s : Span) (text : List Item) → IsPlaceOf s text → (at : Span) → (last_place at text).end ≡ s.end
stands_end s [] never at = absurd never
stands_end s (x ∷ more) place at = sym (ap end_of place)

pub accept_end : (source : Source) (d : ℕ) (a : PAccept) (text : List Item) → IsAccept source d a text → (at : Span) → (last_place at text).end ≡ (accept_span a).end
accept_end source d (accepting h absent) text (is, place) at = stands_end h.span text place at
accept_end source d (accepting h (present l)) text (is, place) at = stands_end h.span text place at

stmt_end : (source : Source) (d : ℕ) (x : PStmt) (text : List Item) → IsStmt source d x text → (at : Span) → (last_place at text).end ≡ (stmt_span x).end
stmt_end source d (SNull s) text (is, place) at = stands_end s text place at
stmt_end source d (SAssign t e s) text (is, place) at = stands_end s text place at
stmt_end source d (SDelay n s) text (is, place) at = stands_end s text place at
stmt_end source d (SExit w e s) text (is, place) at = stands_end s text place at
stmt_end source d (SRaise w s) text (is, place) at = stands_end s text place at
stmt_end source d (SAbort cs s) text (is, place) at = stands_end s text place at
stmt_end source d (SCall c s) text (is, place) at = stands_end s text place at
stmt_end source d (SAccept a s) text (is, place) at = stands_end s text place at
stmt_end source d (SWait x o s) text (is, place) at = stands_end s text place at
stmt_end source d (SConditional c l o s) text (is, place) at = stands_end s text place at
stmt_end source d (STimed c l n m s) text (is, place) at = stands_end s text place at
stmt_end source d (SPut ps s) text (is, place) at = stands_end s text place at
stmt_end source d (SPutLine ps s) text (is, place) at = stands_end s text place at
stmt_end source d (SNewLine s) text (is, place) at = stands_end s text place at
stmt_end source d (SGet x s) text (is, place) at = stands_end s text place at
stmt_end source d (SIf x o s) text (is, place) at = stands_end s text place at
stmt_end source d (SCase e x o s) text (is, place) at = stands_end s text place at
stmt_end source d (SBlock b s) text (is, place) at = stands_end s text place at
stmt_end source d (SLoop w c l s) text (is, place) at = stands_end s text place at

-- statements behind something that ends there
pub any_end : (source : Source) (d : ℕ) (l : PStmts) (text : List Item) → AnyStmts source d l text → (at before : Span) → at.end ≡ before.end → (last_place at text).end ≡ (last_span before l).end
any_end source d no_stmt text none at before same = rw none same
any_end source d (stmt_then x l) text (front, back, from, one, rest) at before same =
    rw from (ap end_of (last_append at front back) ∙ any_end source d l back rest (last_place at front) (stmt_span x) (stmt_end source d x front one at))

pub stmts_end : (source : Source) (d : ℕ) (l : PStmts) (text : List Item) → Stmts source d l text → (at before : Span) → (last_place at text).end ≡ (last_span before l).end
stmts_end source d no_stmt text never at before = absurd never
stmts_end source d (stmt_then x l) text (front, back, from, one, rest) at before =
    rw from (ap end_of (last_append at front back) ∙ any_end source d l back rest (last_place at front) (stmt_span x) (stmt_end source d x front one at))

abbrev pub from_to_end : Span → ℕ → Span
from_to_end first last = record { start = first.start; end = last }

-- the place of a node by the end of its last part
pub stands_with : (k : Item) (back : List Item) (last : Span) → (last_place k.span back).end ≡ last.end → IsPlaceOf (from_to k.span last) (k ∷ back)
stands_with k back last is = ap (from_to_end k.span) (sym is)

pub with_stands : (s : Span) (k : Item) (back : List Item) (last : Span) → (last_place k.span back).end ≡ last.end → IsPlaceOf s (k ∷ back) → s ≡ from_to k.span last
with_stands s k back last is place = place ∙ ap (from_to_end k.span) is

-- a piece that ends with these statements
abbrev EndsWith : PStmts → Spelling → Type 0
EndsWith l P = (text : List Item) → P text → (at before : Span) → (last_place at text).end ≡ (last_span before l).end

ends_then : (l : PStmts) (P : Spelling) {Q : Spelling} → EndsWith l Q → EndsWith l (P ▷ Q)
ends_then l P ends text (front, back, from, left, right) at before = rw from (ap end_of (last_append at front back) ∙ ends back right (last_place at front) before)

-- ---- handlers

abbrev EndsNames : Item → Type 0
EndsNames x = symbol key.Bar x ≡ None

arrow_names : (at : Span) → EndsNames (symbol_item key.Arrow at)
unfolding same
arrow_names at = refl

abbrev HandlerNames : Texts Item (List Word)
HandlerNames d ws = Separated (Key key.Bar) Named ws

abbrev handler_tree : Span → List Word → PStmts → PHandler
handler_tree lead ws l = handler ws l (from_to lead (last_span lead l))

-- answers and what is made of them
chosen : {A B : Type 0} (b : Bool) (answer : Answer Item A) (ts : List Item) (f : A → Reader Item B) → (if b then go_on answer f else Fault false ts) ≡ go_on (if b then answer else Fault false ts) f
chosen true answer ts f = refl
chosen false answer ts f = refl

module _ (source : Source) where
  abbrev HandlerRest : Span → Texts Item PHandler
  HandlerRest lead d (handler ws l s) text = (s ≡ from_to lead (last_span lead l)) × (HandlerNames d ws ▷ ArrowStmts source d l) text

  abbrev OthersHandler : Span → Texts Item PHandler
  OthersHandler lead d (handler ws l s) text = (ws ≡ []) × (s ≡ from_to lead (last_span lead l)) × ArrowStmts source d l text

  rest_is : (e : ℕ) (lead : Span) (x : PHandler) (text : List Item) → HandlerRest lead e x text → Made (λ v. handler_tree lead v.0 v.1) (Both HandlerNames (λ ws. ArrowStmts source)) e x text
  rest_is e lead (handler ws l s) text (place, is) = ((ws, l), ap (handler ws l) place, is)

  law_handler_part : (d : ℕ) (lead : Span) {r r' : Readers} → LevelLaws source d r r' → Lawful d (handler_part r lead) (handler_part r' lead) (HandlerRest lead) EndsStmts
  law_handler_part d lead laws = made_fit (λ v. handler_tree lead v.0 v.1) (Both HandlerNames (λ ws. ArrowStmts source)) (λ e v text is. (refl, is)) (λ e x text is. rest_is e lead x text is)
      (made_bind {R = EndsNames} (handler_tree lead) (λ ws. ArrowStmts source) (law_separated key.Bar {U = Anything} (law_word d Anything) (λ at. tt) (λ x stop. tt) (λ x stop. stop))
      (λ ws. made_key key.Arrow (handler_tree lead ws) (StmtsTexts source) (made_pure (handler_tree lead ws) (law_stmts source laws)))
      (λ ws. starts_key key.Arrow (handler_tree lead ws) (StmtsTexts source) arrow_names))

  others_is : (e : ℕ) (lead : Span) (x : PHandler) (text : List Item) → OthersHandler lead e x text → Made (handler_tree lead []) (ArrowStmts source) e x text
  others_is e lead (handler ws l s) text (none, place, is) = (l, ap (λ v. handler v l s) none ∙ ap (handler [] l) place, is)

  law_handler_others : (d : ℕ) (lead : Span) {r r' : Readers} → LevelLaws source d r r' → Lawful d (handler_others r lead) (handler_others r' lead) (OthersHandler lead) EndsHandlers
  law_handler_others d lead laws = made_fit (handler_tree lead []) (ArrowStmts source) (λ e l text is. (refl, refl, is)) (λ e x text is. others_is e lead x text is)
      (made_key key.Arrow (handler_tree lead []) (StmtsTexts source) (made_pure (handler_tree lead []) (law_stops (λ x stop. stop.0) (law_stmts source laws))))

  rest_starts : (d : ℕ) (lead : Span) → Starts d (HandlerRest lead) EndsStmts (IsPassed (symbol key.Others))
  rest_starts d lead = record { begins_with = λ x text k is stop. starts x text k is } where
    starts : (x : PHandler) (text : List Item) (k : Item) → HandlerRest lead d x text → symbol key.Others (first_of k text) ≡ None
    starts (handler [] l s) text k (place, (front, back, from, never, rest)) = absurd never
    starts (handler (w ∷ more) l s) text k (place, (front, back, from, (f, g, split, one, other), rest)) = rw from (rw split (rw one refl))

  -- the whole handler, as the grammar groups it
  raised_same : (e : ℕ) (w : Word) (more : List Word) (l : PStmts) → Same (Key key.When ▷ (HandlerNames e (w ∷ more) ▷ ArrowStmts source e l)) (WhenRaised (w ∷ more) ▷ Stmts source e l)
  raised_same e w more l = same_through (same_behind (Key key.When) (same_grouped (HandlerNames e (w ∷ more)) (Key key.Arrow) (Stmts source e l)))
      (same_grouped (Key key.When) (HandlerNames e (w ∷ more) ▷ Key key.Arrow) (Stmts source e l))

  others_same : (e : ℕ) (l : PStmts) → Same (Key key.When ▷ (Key key.Others ▷ ArrowStmts source e l)) (WhenOthers ▷ Stmts source e l)
  others_same e l = same_through (same_behind (Key key.When) (same_grouped (Key key.Others) (Key key.Arrow) (Stmts source e l)))
      (same_grouped (Key key.When) (Key key.Others ▷ Key key.Arrow) (Stmts source e l))

  arrow_end : (e : ℕ) (l : PStmts) → EndsWith l (ArrowStmts source e l)
  arrow_end e l = ends_then l (Key key.Arrow) (stmts_end source e l)

  part_to : (e : ℕ) (w : Word) (more : List Word) (l : PStmts) (s : Span) (text : List Item) → WhenPart HandlerRest e (handler (w ∷ more) l s) text → IsHandler source (suc e) (handler (w ∷ more) l s) text
  part_to e w more l s text (lead, back, from, (place, is)) =
      rw from (
        (raised_same e w more l).to (symbol_item key.When lead ∷ back) (key_then key.When (HandlerNames e (w ∷ more) ▷ ArrowStmts source e l) lead back is),
        place ∙ stands_with (symbol_item key.When lead) back (last_span lead l) (ends_then l (HandlerNames e (w ∷ more)) (arrow_end e l) back is lead lead),
      )

  to_part : (e : ℕ) (w : Word) (more : List Word) (l : PStmts) (s : Span) (text : List Item) → IsHandler source (suc e) (handler (w ∷ more) l s) text → WhenPart HandlerRest e (handler (w ∷ more) l s) text
  to_part e w more l s text (is, place) =
      let (lead, back, from, rest) = after_key key.When (HandlerNames e (w ∷ more) ▷ ArrowStmts source e l) text ((raised_same e w more l).back text is) in
      (lead, back, from, (with_stands s (symbol_item key.When lead) back (last_span lead l) (ends_then l (HandlerNames e (w ∷ more)) (arrow_end e l) back rest lead lead) (subst (IsPlaceOf s) from place), rest))

  last_to : (e : ℕ) (l : PStmts) (s : Span) (text : List Item) → WhenLast OthersHandler e (handler [] l s) text → IsHandler source (suc e) (handler [] l s) text
  last_to e l s text (lead, at, back, from, (none, place, is)) =
      let rest : (Key key.Others ▷ ArrowStmts source e l) (symbol_item key.Others at ∷ back) = key_then key.Others (ArrowStmts source e l) at back is in
      rw from (
        (others_same e l).to (symbol_item key.When lead ∷ symbol_item key.Others at ∷ back) (key_then key.When (Key key.Others ▷ ArrowStmts source e l) lead (symbol_item key.Others at ∷ back) rest),
        place ∙ stands_with (symbol_item key.When lead) (symbol_item key.Others at ∷ back) (last_span lead l) (ends_then l (Key key.Others) (arrow_end e l) (symbol_item key.Others at ∷ back) rest lead lead),
      )

  to_last : (e : ℕ) (l : PStmts) (s : Span) (text : List Item) → IsHandler source (suc e) (handler [] l s) text → WhenLast OthersHandler e (handler [] l s) text
  to_last e l s text (is, place) =
      let (lead, more, from, rest) = after_key key.When (Key key.Others ▷ ArrowStmts source e l) text ((others_same e l).back text is) in
      let (at, back, split, last) = after_key key.Others (ArrowStmts source e l) more rest in (
        lead,
        at,
        back,
        from ∙ ap (λ t. symbol_item key.When lead ∷ t) split,
        (refl, with_stands s (symbol_item key.When lead) more (last_span lead l) (ends_then l (Key key.Others) (arrow_end e l) more rest lead lead) (subst (IsPlaceOf s) from place), last),
      )

  -- all handlers
  abbrev row : List PHandler → Option PHandler → PHandlers
  row parts o = handlers_of (with_others parts o)

  handlers_are : (e : ℕ) (parts : List PHandler) (o : Option PHandler) (text : List Item) → PartTexts HandlerRest OthersHandler e parts o text → OthersLast (row parts o) × MoreHandlers source (suc e) (row parts o) text
  handlers_are e [] None text none = (tt, none)
  handlers_are e [] (Some (handler [] l s)) text is = ((tt, tt), (text, [], sym (append-nil text), last_to e l s text is, refl))
  handlers_are e [] (Some (handler (w ∷ more) l s)) text (lead, at, back, from, (none, place, is)) = absurd (not_empty [] w more (sym none))
  handlers_are e (handler [] l s ∷ more) o text (front, back, from, (lead, rest, split, (place, (f, g, parted, never, last))), many) = absurd never
  handlers_are e (handler (w ∷ ws) l s ∷ more) o text (front, back, from, part, many) =
      let (last, rest) = handlers_are e more o back many in
      ((tt, last), (front, back, from, part_to e w ws l s front part, rest))

  are_handlers : (e : ℕ) (hs : PHandlers) (text : List Item) → OthersLast hs → MoreHandlers source (suc e) hs text → (parts : List PHandler) × (o : Option PHandler) × (hs ≡ row parts o) × PartTexts HandlerRest OthersHandler e parts o text
  are_handlers e no_handler text last none = ([], None, refl, none)
  are_handlers e (handler_then (handler [] l s) no_handler) text last (front, back, from, is, none) =
      ([], Some (handler [] l s), refl, to_last e l s text (subst (IsHandler source (suc e) (handler [] l s)) (sym (from ∙ ap (λ t. front ++ t) none ∙ append-nil front)) is))
  are_handlers e (handler_then (handler [] l s) (handler_then y k)) text last is = absurd last.0
  are_handlers e (handler_then (handler (w ∷ ws) l s) k) text last (front, back, from, is, rest) =
      let (parts, o, same, many) = are_handlers e k back last.1 rest in
      (handler (w ∷ ws) l s ∷ parts, o, ap (λ t. handler_then (handler (w ∷ ws) l s) t) same, (front, back, from, to_part e w ws l s front is, many))

  some_row : (parts : List PHandler) (o : Option PHandler) → IsSomePart parts o → IsSomeHandler (row parts o)
  some_row [] None never = never
  some_row [] (Some x) some = tt
  some_row (x ∷ more) o some = tt

  row_some : (parts : List PHandler) (o : Option PHandler) → IsSomeHandler (row parts o) → IsSomePart parts o
  row_some [] None never = never
  row_some [] (Some x) some = tt
  row_some (x ∷ more) o some = tt

  abbrev Found_whens : Type 0
  Found_whens = Whens PHandler PHandler

  abbrev handlers_tree : Found_whens → PHandlers
  handlers_tree x = row x.parts x.others

  handlers_look : (r : Readers) (ts : List Item) → handlers_at r ts ≡ bind (look (is_symbol key.When) (whens (handler_part r) (handler_others r)) refuse) (λ x. pure (handlers_tree x)) ts
  handlers_look r [] = refl
  handlers_look r (k ∷ ts) = chosen (is_symbol key.When k) (whens (handler_part r) (handler_others r) (k ∷ ts)) (k ∷ ts) (λ x. pure (handlers_tree x))

  handlers_made : (e : ℕ) (hs : PHandlers) (text : List Item) → HandlersTexts source e hs text → Made handlers_tree (SomeTexts HandlerRest OthersHandler) e hs text
  handlers_made e hs text (last, some, is) =
      let (parts, o, same, many) = are_handlers e hs text last is in
      (record { parts = parts; others = o }, same, (row_some parts o (subst IsSomeHandler same some), many))

  made_handlers : (e : ℕ) (x : Found_whens) (text : List Item) → SomeTexts HandlerRest OthersHandler e x text → HandlersTexts source e (handlers_tree x) text
  made_handlers e x text (some, is) = let (last, more) = handlers_are e x.parts x.others text is in (last, some_row x.parts x.others some, more)

  pub law_handlers : (d : ℕ) {r r' : Readers} → LevelLaws source d r r' → Lawful d (handlers_at r) (handlers_at r') (HandlersTexts source) EndsHandlers
  law_handlers d {r} {r'} laws = law_same (handlers_look r) (handlers_look r') (made_fit handlers_tree (SomeTexts HandlerRest OthersHandler) made_handlers handlers_made
      (made_pure handlers_tree (law_some_whens (λ lead. law_handler_part d lead laws) (λ lead. law_handler_others d lead laws) (rest_starts d) when_stmts (λ x stop. stop.0) (λ x stop. stop.1))))

-- ---- bodies

-- what ends a body
abbrev pub EndsBody : Item → Type 0
EndsBody x = EndsHandlers x × (symbol key.Exception x ≡ None)

exception_ends : (at : Span) → EndsStmts (symbol_item key.Exception at)
unfolding same
exception_ends at = refl

module _ (source : Source) where
  -- what is a body behind `begin`
  abbrev pub BodyTexts : Texts Item PBody
  BodyTexts d (body l hs) text = OthersLast hs × (Stmts source d l ▷ HandlerPart source d hs) text

  abbrev WithHandlers : PStmts → Texts Item PBody
  WithHandlers l = Made (λ hs. body l hs) (HandlersTexts source)

  abbrev HandlerTexts : PStmts → Texts Item PBody
  HandlerTexts l = Or (Then (One (symbol key.Exception)) (λ at. Below (WithHandlers l))) (Is (body l no_handler))

  exception_part : (i : ℕ) (at : Span) (hs : PHandlers) (back : List Item) → IsSomeHandler hs → MoreHandlers source (suc i) hs back → HandlerPart source (suc i) hs (symbol_item key.Exception at ∷ back)
  exception_part i at no_handler back never is = absurd never
  exception_part i at (handler_then x k) back some is = key_then key.Exception (MoreHandlers source (suc i) (handler_then x k)) at back is

  body_is : (d : ℕ) (b : PBody) (text : List Item) → Then (StmtsTexts source) HandlerTexts d b text → BodyTexts d b text
  body_is d b text (l, front, back, from, is, inr (same, none)) = rw same (tt, (front, back, from, is, none))
  body_is zero b text (l, front, back, from, is, inl (at, one, more, split, token, never)) = absurd never
  body_is (suc i) b text (l, front, back, from, is, inl taken) =
      let (at, more, split, (hs, same, (last, some, many))) = after_symbol key.Exception (λ at. Below (WithHandlers l)) (suc i) b back taken in
      rw same (last, (front, back, from, is, subst (HandlerPart source (suc i) hs) (sym split) (exception_part i at hs more some many)))

  is_body : (d : ℕ) (b : PBody) (text : List Item) → BodyTexts d b text → Then (StmtsTexts source) HandlerTexts d b text
  is_body d (body l no_handler) text (last, (front, back, from, is, none)) = (l, front, back, from, is, inr (refl, none))
  is_body zero (body l (handler_then (handler ws m s) k)) text (last, (front, back, from, is, (f, g, split, token, (f', g', split', ((f'', g'', split'', raised, never), place), more)))) = absurd never
  is_body (suc i) (body l (handler_then x k)) text (last, (front, back, from, is, part)) =
      let (at, more, split, rest) = after_key key.Exception (MoreHandlers source (suc i) (handler_then x k)) back part in (
        l,
        front,
        back,
        from,
        is,
        inl (subst (Then (One (symbol key.Exception)) (λ at. Below (WithHandlers l)) (suc i) (body l (handler_then x k))) (sym split)
            (symbol_then key.Exception (λ at. Below (WithHandlers l)) (suc i) (body l (handler_then x k)) at more (handler_then x k, refl, (last, tt, rest)))),
      )

  -- `when others => null ;`
  abbrev a_handler : PHandlers
  a_handler = handler_then (handler [] nulls (from_to no_place no_place)) no_handler

  has_handler : Has (HandlersTexts source 0 a_handler)
  has_handler =
      let (text, is) : Has (ArrowStmts source 0 nulls) = has_then (has_key key.Arrow) (has_nulls source 0) in
      let whole : List Item = symbol_item key.When no_place ∷ symbol_item key.Others no_place ∷ text in
      (whole, ((tt, tt), tt, (whole, [], sym (append-nil whole), last_to source 0 nulls (from_to no_place no_place) whole (no_place, no_place, text, refl, (refl, refl, is)), refl)))

  handlers_start : (d : ℕ) (l : PStmts) → Starts d (HandlerTexts l) EndsBody EndsStmts
  handlers_start d l = starts_or (starts_token (λ k at some. subst EndsStmts (sym (symbol_is key.Exception k at some)) (exception_ends at))) (starts_is (λ x stop. stop.0.0))

  pub law_body : (d : ℕ) {r r' : Readers} → LevelLaws source d r r' → Lawful d (body_rest d r) (body_rest (suc d) r') BodyTexts EndsBody
  law_body d {r} {r'} laws = law_fit (λ e deep b text is. body_is e b text is) (is_body d)
      (law_bind {R = EndsStmts} (law_stmts source laws)
      (λ l. law_below {test = symbol key.Exception} (λ i at. bind r.handlers (λ hs. pure (body l hs))) (λ i at. bind r'.handlers (λ hs. pure (body l hs)))
      (λ at. let (text, is) = has_handler in (0, body l a_handler, text, (a_handler, refl, is)))
      d (λ e is at. made_pure (λ hs. body l hs) (law_stops (λ x stop. stop.0) (laws.handlers e is)))
      (law_pure d (body l no_handler) EndsBody) (starts_is (λ x stop. stop.1)))
      (handlers_start d))

  -- with its first word, as the grammar has it
  pub begun_same : (d : ℕ) (b : PBody) → Same (Key key.Begin ▷ BodyTexts d b) (IsBody source d b)
  begun_same d (body l hs) = record {
    to = λ text (front, back, from, k, (last, is)). (last, (front, back, from, k, is));
    back = λ text (last, (front, back, from, k, is)). (front, back, from, k, (last, is));
  }

-- ---- blocks

abbrev pub IsBlock : PStmt → Type 0
IsBlock (SBlock b s) = Unit {0}
IsBlock x = ⊥

pub end_body : (at : Span) → EndsBody (symbol_item key.End at)
unfolding same
end_body at = ((refl, refl), refl)

abbrev block_tree : Span → PBody → Span → PStmt
block_tree lead b close = SBlock b (from_to lead close)

abbrev BlockEnd : Spelling → Spelling
BlockEnd Z = Key key.End ▷ Z

module _ (source : Source) where
  abbrev BlockSpelled : ℕ → PBody × Span → Spelling
  BlockSpelled = Both (BodyTexts source) (λ b e close. BlockEnd (KeyAt key.Semicolon close))

  block_same : (e : ℕ) (b : PBody) → Same (Key key.Begin ▷ (BodyTexts source e b ▷ BlockEnd (Key key.Semicolon))) (IsBody source e b ▷ BlockEnd (Key key.Semicolon))
  block_same e b = same_through (same_grouped (Key key.Begin) (BodyTexts source e b) (BlockEnd (Key key.Semicolon))) (same_then (begun_same source e b) (same_self (BlockEnd (Key key.Semicolon))))

  block_closing : (e : ℕ) (b : PBody) → Closing (λ close. BodyTexts source e b ▷ BlockEnd (KeyAt key.Semicolon close)) (BodyTexts source e b ▷ BlockEnd (Key key.Semicolon))
  block_closing e b = closing_then (BodyTexts source e b) (closing_then (Key key.End) (closing_key key.Semicolon))

  is_block : (lead : Span) (e : ℕ) (v : PBody × Span) (text : List Item) → BlockSpelled e v text → LedBelow source IsBlock key.Begin lead e (block_tree lead v.0 v.1) text
  is_block lead e (b, close) text is = (tt, placed_same (block_same e b) (from_to lead close) (symbol_item key.Begin lead ∷ text) (placed_key key.Begin (block_closing e b) lead close text is))

  block_is : (lead : Span) (e : ℕ) (x : PStmt) (text : List Item) → LedBelow source IsBlock key.Begin lead e x text → Made (λ v. block_tree lead v.0 v.1) BlockSpelled e x text
  block_is lead e (SBlock b s) text (kind, is) =
      let (close, place, rest) = key_placed key.Begin (block_closing e b) s lead text (placed_same (same_turn (block_same e b)) s (symbol_item key.Begin lead ∷ text) is) in
      ((b, close), ap (SBlock b) place, rest)
  block_is lead e x text (kind, is) = absurd kind

  pub law_block : (d : ℕ) {r r' : Readers} (lead : Span) → LevelLaws source d r r' → Lawful d (block_rest d r lead) (block_rest (suc d) r' lead) (LedBelow source IsBlock key.Begin lead) Anything
  law_block d lead laws = made_fit (λ v. block_tree lead v.0 v.1) BlockSpelled (is_block lead) (block_is lead)
      (made_bind {R = EndsBody} (block_tree lead) (λ b e close. BlockEnd (KeyAt key.Semicolon close)) (law_body source d laws)
      (λ b. made_key key.End (block_tree lead b) (λ e close. KeyAt key.Semicolon close) (law_closed d (block_tree lead b) Anything))
      (λ b. starts_key key.End (block_tree lead b) (λ e close. KeyAt key.Semicolon close) end_body))

  -- `begin null ; end ;`
  pub some_block : (lead : Span) → (e : ℕ) × (x : PStmt) × (f : List Item) × LedBelow source IsBlock key.Begin lead e x f
  some_block lead =
      let (part, spelled) : Has (Stmts source 0 nulls ▷ HandlerPart source 0 no_handler) = has_then (has_nulls source 0) has_nothing in
      let (text, is) : Has (BlockSpelled 0 (body nulls no_handler, no_place)) = has_then (part, (tt, spelled)) (has_then (has_key key.End) (has_at key.Semicolon no_place)) in
      (0, block_tree lead (body nulls no_handler) no_place, text, is_block lead 0 (body nulls no_handler, no_place) text is)
