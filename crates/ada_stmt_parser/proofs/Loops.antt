-- A loop from its first word on.
use Rattle.std.proofs.Common.{◌≡◌, ℕ, ◌-◌, ◌<◌, ◌≤◌, nat_eq, Bool, true, false, ◌||◌, cond, List, [], ◌∷◌, Option, Some, None, is_some, length, take, drop, get_or, refl, ap, ◌∙◌, arith}
use Rattle.std.proofs.lemmas.Bool.Decides.{nat_tests}
use Rattle.ada_expr_parser.specs.readers.Readers.{Fault, Reader, pure, refuse, go_on, on, below, below_token, token}
use Rattle.ada_tree.specs.declared.naming.Span.{Span}
use Rattle.ada_tree.specs.declared.naming.Word.{Word}
use Rattle.ada_tree.specs.PlainStmt.{PStmt}
use Rattle.ada_lexer.specs.declared.symbols.Symbol.TheVariants as key
use Rattle.ada_expr_parser.specs.declared.items.Item.{Item}
use Rattle.ada_expr_parser.specs.Tests.{symbol, word}
use Rattle.ada_expr_parser.specs.Parts.{expression, drange}
use Rattle.ada_expr_parser.proofs.Chains.{front_and_rest}
use Rattle.ada_phrase_parser.specs.Spelling.{Source}
use Rattle.ada_phrase_parser.specs.Reading.{is_symbol}
use Rattle.ada_phrase_parser.proofs.Marks.{placed}
use Rattle.ada_compound_parts.specs.inner.ReadingHeads.{begins_loop, while_scheme, range_scheme, for_scheme, loop_scheme}
use Rattle.ada_simple_stmt_parser.specs.inner.ReadingSimple.{word_rest}
use Rattle.ada_stmt_parser.specs.inner.ReadingStatements.{Readers, while_rest, for_range, for_rest, loop_rest, named_loop, named_rest}
use Rattle.ada_stmt_parser.specs.inner.Turns.{any_loop, worded, loop_from}
use Rattle.ada_stmt_parser.proofs.Onward.{goes, on_goes, below_here}
use Rattle.common_lemmas.proofs.Numbers.{above_zero}

module _ (e : ℕ) (r : Readers) (name : Option Word) (lead : Span) where
  while_is : (ts : List Item) → while_rest e r name lead ts ≡ go_on (while_scheme e ts) (loop_rest r name lead)
  while_is ts = goes (expression e ts) _ _ (loop_rest r name lead) (λ test rest. goes (token (symbol key.Loop) rest) _ _ (loop_rest r name lead) (λ at more. refl))

  range_is : (w : Word) (backwards : Bool) (ts : List Item) → for_range e r name lead w backwards ts ≡ go_on (range_scheme e w backwards ts) (loop_rest r name lead)
  range_is w backwards ts = goes (drange e ts) _ _ (loop_rest r name lead) (λ x rest. goes (token (symbol key.Loop) rest) _ _ (loop_rest r name lead) (λ at more. refl))

  for_is : (ts : List Item) → for_rest e r name lead ts ≡ go_on (for_scheme e ts) (loop_rest r name lead)
  for_is ts =
      goes (token word ts) _ _ (loop_rest r name lead) (λ w rest. goes (token (symbol key.In) rest) _ _ (loop_rest r name lead) (λ at more.
      on_goes (symbol key.Reverse) _ _ _ _ (loop_rest r name lead) more (λ back last. range_is w true last) (λ last. range_is w false last)))

  all_is : (ts : List Item) →
      on (symbol key.While) (λ at. while_rest e r name lead) (on (symbol key.For) (λ at. for_rest e r name lead) (on (symbol key.Loop) (λ at. loop_rest r name lead None) refuse)) ts
      ≡ go_on (loop_scheme e ts) (loop_rest r name lead)
  all_is ts =
      on_goes (symbol key.While) _ _ _ _ (loop_rest r name lead) ts (λ at rest. while_is rest)
      (λ rest. on_goes (symbol key.For) _ _ _ _ (loop_rest r name lead) rest (λ at more. for_is more)
      (λ more. on_goes (symbol key.Loop) _ _ _ _ (loop_rest r name lead) more (λ at last. refl) (λ last. refl)))

-- behind `NAME :`
pub named_loop_is : (e : ℕ) (r : Readers) (w : Word) (ts : List Item) → named_loop e r w ts ≡ loop_from e r (Some w) w.span ts
named_loop_is e r w ts = all_is e r (Some w) w.span ts

none_of : (a b c : Bool) → a ≡ false → b ≡ false → c ≡ false → (a || b || c) ≡ true → ⊥
none_of true b c no_a no_b no_c is = cc
none_of false true c no_a no_b no_c is = cc
none_of false false true no_a no_b no_c is = cc
none_of false false false no_a no_b no_c is = cc

full : (d : ℕ) → d ≡ 0 → nat_eq d 0 ≡ true
full d none = grind (arith, nat_tests)

module _ (source : Source) (d : ℕ) (r : Readers) (x : Item) (xs : List Item) where
  loop_at : 0 < d → begins_loop x ≡ true → any_loop source d r (x ∷ xs) ≡ loop_from (d - 1) r None x.span (x ∷ xs)
  loop_at some is =
      below_here d (symbol key.While x) (λ e lead. while_rest e r None lead) (λ at. while_scheme (d - 1)) _ _ (loop_rest r None x.span) x xs x.span (placed key.While x.kind x.span) (above_zero d some) (while_is (d - 1) r None x.span xs)
      (λ no_while. below_here d (symbol key.For x) (λ e lead. for_rest e r None lead) (λ at. for_scheme (d - 1)) _ _ (loop_rest r None x.span) x xs x.span (placed key.For x.kind x.span) (above_zero d some) (for_is (d - 1) r None x.span xs)
      (λ no_for. below_here d (symbol key.Loop x) (λ e lead. loop_rest r None lead None) (λ at. pure None) _ _ (loop_rest r None x.span) x xs x.span (placed key.Loop x.kind x.span) (above_zero d some) refl
      (λ no_loop. absurd (none_of (is_symbol key.While x) (is_symbol key.For x) (is_symbol key.Loop x) no_while no_for no_loop is))))

  too_deep_token : {A : Type 0} (t : Option Span) (f : ℕ → Span → Reader Item A) (other : Reader Item A) → d ≡ 0 → (is_some t ≡ false → other (x ∷ xs) ≡ Fault true (x ∷ xs)) → below_token d t f other x xs ≡ Fault true (x ∷ xs)
  too_deep_token None f other none o = o refl
  too_deep_token (Some at) f other none o = ap (λ c. cond c (Fault true (x ∷ xs)) (f (d - 1) at xs)) (full d none)

  deep_at : d ≡ 0 → begins_loop x ≡ true → any_loop source d r (x ∷ xs) ≡ Fault true (x ∷ xs)
  deep_at none is =
      too_deep_token (symbol key.While x) (λ e lead. while_rest e r None lead) _ none
      (λ no_while. too_deep_token (symbol key.For x) (λ e lead. for_rest e r None lead) _ none
      (λ no_for. too_deep_token (symbol key.Loop x) (λ e lead. loop_rest r None lead None) _ none
      (λ no_loop. absurd (none_of (is_symbol key.While x) (is_symbol key.For x) (is_symbol key.Loop x) no_while no_for no_loop is))))

  pass : {A : Type 0} (t : Option Span) (f : ℕ → Span → Reader Item A) (other : Reader Item A) → is_some t ≡ false → below_token d t f other x xs ≡ other (x ∷ xs)
  pass None f other none = refl
  pass (Some at) f other none = cc

  off : (a b c : Bool) → (a || b || c) ≡ false → (a ≡ false) × (b ≡ false) × (c ≡ false)
  off true b c is = cc
  off false true c is = cc
  off false false true is = cc
  off false false false is = (refl, refl, refl)

  none_at : begins_loop x ≡ false → any_loop source d r (x ∷ xs) ≡ worded source d r (x ∷ xs)
  none_at is =
      let no = off (is_symbol key.While x) (is_symbol key.For x) (is_symbol key.Loop x) is in
      pass (symbol key.While x) (λ e lead. while_rest e r None lead) _ no.0 ∙ (pass (symbol key.For x) (λ e lead. for_rest e r None lead) _ no.1 ∙ pass (symbol key.Loop x) (λ e lead. loop_rest r None lead None) _ no.2)

-- where a loop stands next
pub loop_goes :
    (source : Source) (d : ℕ) (r : Readers) (ts : List Item) (dummy : Item) → 1 ≤ length ts → begins_loop (get_or ts 0 dummy) ≡ true → 0 < d → any_loop source d r ts ≡ loop_from (d - 1) r None (get_or ts 0 dummy).span ts
loop_goes source d r [] dummy some is above_zero = absurd (omega arith)
loop_goes source d r (x ∷ xs) dummy some is above_zero = loop_at source d r x xs above_zero is

pub loop_deep : (source : Source) (d : ℕ) (r : Readers) (ts : List Item) (dummy : Item) → 1 ≤ length ts → begins_loop (get_or ts 0 dummy) ≡ true → d ≡ 0 → any_loop source d r ts ≡ Fault true ts
loop_deep source d r [] dummy some is none = absurd (omega arith)
loop_deep source d r (x ∷ xs) dummy some is none = deep_at source d r x xs none is

-- where none stands next
pub no_loop : (source : Source) (d : ℕ) (r : Readers) (ts : List Item) (dummy : Item) → 1 ≤ length ts → begins_loop (get_or ts 0 dummy) ≡ false → any_loop source d r ts ≡ worded source d r ts
no_loop source d r [] dummy some is = absurd (omega arith)
no_loop source d r (x ∷ xs) dummy some is = none_at source d r x xs is

-- behind a name, where a colon stands next
pub named_goes :
    (source : Source) (d : ℕ) (r : Readers) (w : Word) (ts : List Item) (dummy : Item) (at : Span) → 1 ≤ length ts → symbol key.Colon (get_or ts 0 dummy) ≡ Some at → 0 < d →
    named_rest source d r w ts ≡ loop_from (d - 1) r (Some w) w.span (take (length ts - 1) (drop 1 ts))
named_goes source d r w ts dummy at some is deep =
    let next : ℕ → Span → Reader Item PStmt = λ e at. named_loop e r w in
    let other : Reader Item PStmt = word_rest source d w in
    ap (below d (symbol key.Colon) next other) (front_and_rest ts dummy some)
    ∙ (ap (λ o. below_token d o next other (get_or ts 0 dummy) (take (length ts - 1) (drop 1 ts))) is
    ∙ (ap (λ b. cond b (Fault true (get_or ts 0 dummy ∷ take (length ts - 1) (drop 1 ts))) (named_loop (d - 1) r w (take (length ts - 1) (drop 1 ts)))) (above_zero d deep)
    ∙ named_loop_is (d - 1) r w (take (length ts - 1) (drop 1 ts))))

pub ruleset loops = (loop_goes, loop_deep, no_loop)
