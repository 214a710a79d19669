-- Alternatives and accept statements, read behind their guards and heads.
use Rattle.std.proofs.Common.{◌≡◌, ℕ, List, Option, Some, None, refl, sym, ap, subst, ◌∙◌}
use Rattle.ada_expr_parser.specs.readers.Readers.{Found, Reader, pure, bind, go_on, token}
use Rattle.ada_tree.specs.declared.naming.Span.{Span}
use Rattle.ada_tree.specs.declared.naming.Word.{Word}
use Rattle.ada_tree.specs.PlainExpr.{PExpr}
use Rattle.ada_tree.specs.PlainStmt.{PAccept, PAlt, accepting, alternative, present}
use Rattle.ada_lexer.specs.declared.symbols.Symbol.TheVariants as key
use Rattle.ada_expr_parser.specs.declared.items.Item.{Item}
use Rattle.ada_expr_parser.specs.Tests.{symbol, word}
use Rattle.ada_expr_parser.specs.Trees.{from_to}
use Rattle.ada_expr_parser.specs.Parts.{expression}
use Rattle.ada_phrase_parser.specs.Reading.{again, closed, delayed, end_of, accept_behind}
use Rattle.ada_expr_parser.specs.declared.errors.ParseError.{ParseError}
use Rattle.ada_expr_parser.specs.Gives.{Fails}
use Rattle.ada_expr_parser.proofs.Steps.{fails_go_on}
use Rattle.ada_compound_parts.specs.inner.ReadingHeads.{Guarded, guard, Kinded}
use Rattle.ada_compound_parts.specs.inner.ReadingParts.{first_of_alt, head_of}
use Rattle.ada_stmt_parser.specs.inner.ReadingStatements.{Readers, stmts, any_stmts, alt_at, accept_at}
use Rattle.ada_stmt_parser.specs.inner.ReadingStatements as reading
use Rattle.ada_stmt_parser.specs.inner.Turns.{Tail, tail_of, accept_from, alt_kind, alt_from}
use Rattle.ada_stmt_parser.proofs.Onward.{agree, goes, on_goes, below_goes, only}

module _ {A : Type 0} (tree : Span → A) where
  closed_is : (ts : List Item) → closed tree ts ≡ go_on (closed (λ close. close) ts) (λ close. pure (tree close))
  closed_is ts = goes (token (symbol key.Semicolon) ts) _ _ (λ close. pure (tree close)) (λ close rest. refl)

  end_is : (w : Word) (ts : List Item) → end_of w tree ts ≡ go_on (end_of w (λ close. close) ts) (λ close. pure (tree close))
  end_is w ts =
      goes (token (symbol key.End) ts) _ _ (λ close. pure (tree close))
      (λ at rest. on_goes (again w) _ _ _ _ (λ close. pure (tree close)) rest (λ name more. closed_is more) (λ more. closed_is more))

-- an accept statement behind its first word
pub accept_is : (d : ℕ) (r : Readers) (lead : Span) (ts : List Item) → accept_at d r lead ts ≡ accept_from d r lead ts
accept_is d r lead ts =
    agree (token word ts) _ _ (λ w rest. agree (accept_behind d rest) _ _ (λ x more.
    let whole : Tail → Reader Item PAccept = λ t. pure (accepting (head_of w x (from_to lead t.close)) t.stmts) in
    below_goes d (symbol key.Do) _ _ _ _ whole more
    (λ e at last. goes (stmts r last) _ _ whole (λ l behind.
    end_is (λ close. accepting (head_of w x (from_to lead close)) (present l)) w behind
    ∙ goes (end_of w (λ close. close) behind) (λ close. pure (accepting (head_of w x (from_to lead close)) (present l))) (λ close. pure (tail_of (present l) close)) whole (λ close end. refl)))
    (λ last. goes (token (symbol key.Semicolon) last) _ _ whole (λ close end. refl))))

module _ (d : ℕ) (r : Readers) (g : Option PExpr) (lead : Option Span) where
  abbrev whole_alt : Kinded → Reader Item PAlt
  whole_alt x = pure (alternative g x.kind (from_to (first_of_alt lead x.first) x.last))

  kind_is : (ts : List Item) → reading.alt_kind d r g lead ts ≡ go_on (alt_kind d r ts) whole_alt
  kind_is ts =
      below_goes d (symbol key.Accept) _ _ _ _ whole_alt ts (λ e at rest. goes (r.accept at rest) _ _ whole_alt (λ a more. goes (any_stmts r more) _ _ whole_alt (λ l last. refl)))
      (λ rest. below_goes d (symbol key.Delay) _ _ _ _ whole_alt rest (λ e at more. goes (delayed more) _ _ whole_alt (λ x last. goes (any_stmts r last) _ _ whole_alt (λ l end. refl)))
      (λ more. only (symbol key.Terminate) _ more ∙ goes (token (symbol key.Terminate) more) _ _ whole_alt (λ at last. goes (token (symbol key.Semicolon) last) _ _ whole_alt (λ close end. refl))))

-- an alternative
pub alt_is : (d : ℕ) (r : Readers) (ts : List Item) → alt_at d r ts ≡ alt_from d r ts
alt_is d r ts =
    below_goes d (symbol key.When) _ _ _ _ _ ts
    (λ e at rest. goes (expression e rest) _ _ _ (λ g more. goes (token (symbol key.Arrow) more) _ _ _ (λ arrow last. kind_is d r (Some g) (Some at) last)))
    (λ rest. kind_is d r None None rest)

module _ (d : ℕ) (r : Readers) (ts rest : List Item) (test : Option PExpr) (lead : Option Span) (read : guard d ts ≡ Found (record { test = test; lead = lead }) rest) where
  abbrev behind_guard : Guarded PExpr → Reader Item PAlt
  behind_guard g = bind (alt_kind d r) (λ x. pure (alternative g.test x.kind (from_to (first_of_alt g.lead x.first) x.last)))

  behind_is : alt_at d r ts ≡ go_on (alt_kind d r rest) (whole_alt d r test lead)
  behind_is = alt_is d r ts ∙ ap (λ answer. go_on answer behind_guard) read

  -- behind a guard that was read: a fault, and the alternative
  pub alt_fails : (e : ParseError) → Fails e (alt_kind d r rest) → Fails e (alt_at d r ts)
  alt_fails e fails = subst (Fails e) (sym behind_is) (fails_go_on e (alt_kind d r rest) (whole_alt d r test lead) fails)

  pub alt_found : (kept : Option PExpr) (x : Kinded) (span : Span) (end : List Item) → kept ≡ test → alt_kind d r rest ≡ Found x end → span ≡ from_to (first_of_alt lead x.first) x.last → alt_at d r ts ≡ Found (alternative kept x.kind span) end
  alt_found kept x span end same found placed =
      behind_is ∙ (ap (λ answer. go_on answer (whole_alt d r test lead)) found
      ∙ (ap (λ g. Found (alternative g x.kind (from_to (first_of_alt lead x.first) x.last)) end) (sym same)
      ∙ ap (λ s. Found (alternative kept x.kind s) end) (sym placed)))

pub ruleset alternatives = (accept_is)
