-- Calls that are selected, read behind the call.
use Rattle.std.proofs.Common.{◌≡◌, ℕ, Bool, true, false, cond, List, [], ◌∷◌, Some, None, is_some, length, ◌≤◌, get_or, refl, sym, ap, subst, ◌∙◌}
use Rattle.ada_expr_parser.specs.readers.Readers.{Found, Reader, pure, bind, go_on, token, look}
use Rattle.ada_tree.specs.declared.naming.Span.{Span}
use Rattle.ada_tree.specs.PlainStmt.{PCall, PStmt, PStmts, SConditional, STimed}
use Rattle.ada_lexer.specs.declared.symbols.Symbol.TheVariants as key
use Rattle.ada_expr_parser.specs.declared.items.Item.{Item}
use Rattle.ada_expr_parser.specs.Tests.{symbol, word}
use Rattle.ada_expr_parser.specs.Trees.{from_to}
use Rattle.ada_expr_parser.specs.Parts.{target, callee_of, call_rest}
use Rattle.ada_phrase_parser.specs.Reading.{key_then, closed, delayed}
use Rattle.ada_expr_parser.specs.declared.errors.ParseError.{ParseError}
use Rattle.ada_expr_parser.specs.Gives.{Fails}
use Rattle.ada_expr_parser.proofs.Steps.{fails_go_on}
use Rattle.ada_compound_parts.specs.inner.ReadingHeads.{CallTail, call_tail_of, or_delay, end_select, selected_call, selected}
use Rattle.ada_stmt_parser.specs.inner.ReadingStatements.{Readers, stmts, any_stmts, call_rest_of, timed_rest, wait_rest, select_rest}
use Rattle.ada_stmt_parser.specs.inner.Turns.{call_tail, call_from, select_from}
use Rattle.ada_stmt_parser.proofs.Onward.{goes, on_goes, look_there}

looks_same : {A : Type 0} (c : Bool) (x y z : A) → x ≡ y → cond c x z ≡ cond c y z
looks_same true x y z h = h
looks_same false x y z h = refl

look_same : {A : Type 0} (test : Item → Bool) (p q other : Reader Item A) (ts : List Item) → ((rest : List Item) → p rest ≡ q rest) → look test p other ts ≡ look test q other ts
look_same test p q other [] h = refl
look_same test p q other (k ∷ ts) h = looks_same (test k) (p (k ∷ ts)) (q (k ∷ ts)) (other (k ∷ ts)) (h (k ∷ ts))

module _ {A B : Type 0} (tree : Span → A) (tail : Span → B) (whole : B → Reader Item A) (h : (close : Span) (rest : List Item) → pure (tree close) rest ≡ whole (tail close) rest) where
  end_select_is : (ts : List Item) → key_then key.End (key_then key.Select (closed tree)) ts ≡ go_on (end_select ts) (λ close. pure (tree close))
  end_select_is ts = goes (token (symbol key.End) ts) _ _ (λ close. pure (tree close)) (λ at rest. goes (token (symbol key.Select) rest) _ _ (λ close. pure (tree close)) (λ again more. refl))

  ends_is : (ts : List Item) → key_then key.End (key_then key.Select (closed tree)) ts ≡ go_on (go_on (end_select ts) (λ close. pure (tail close))) whole
  ends_is ts = end_select_is ts ∙ goes (end_select ts) (λ close. pure (tree close)) (λ close. pure (tail close)) whole h

module _ (r : Readers) (lead : Span) (c : PCall) where
  abbrev whole : CallTail → Reader Item PStmt
  whole t = pure (selected lead c t.behind t.delay t.last t.close)

  abbrev timed : PStmts → ℕ → Reader Item PStmt
  timed l n = bind (any_stmts r) (λ m. key_then key.End (key_then key.Select (closed (λ close. STimed c l n m (from_to lead close)))))

  abbrev timed_tail : PStmts → ℕ → Reader Item CallTail
  timed_tail l n = bind (any_stmts r) (λ m. bind end_select (λ close. pure (call_tail_of l (Some n) m close)))

  delay_is : (l : PStmts) (ts : List Item) → timed_rest r lead c l ts ≡ go_on (or_delay ts) (timed l)
  delay_is l ts = goes (token (symbol key.Or) ts) _ _ (timed l) (λ at rest. goes (token (symbol key.Delay) rest) _ _ (timed l) (λ delay more. goes (delayed more) _ _ (timed l) (λ x last. refl)))

  timed_is : (l : PStmts) (ts : List Item) → timed_rest r lead c l ts ≡ go_on (go_on (or_delay ts) (timed_tail l)) whole
  timed_is l ts =
      delay_is l ts
      ∙ goes (or_delay ts) (timed l) (timed_tail l) whole (λ n rest. goes (any_stmts r rest) _ _ whole (λ m more. ends_is (λ close. STimed c l n m (from_to lead close)) (λ close. call_tail_of l (Some n) m close) whole (λ close last. refl) more))

  call_is : (ts : List Item) → call_rest_of r lead c ts ≡ go_on (key_then key.Semicolon (pure c) ts) (λ c. bind (call_tail r) (λ t. pure (selected lead c t.behind t.delay t.last t.close)))
  call_is ts =
      goes (token (symbol key.Semicolon) ts) _ _ (λ c. bind (call_tail r) (λ t. pure (selected lead c t.behind t.delay t.last t.close))) (λ at behind. goes (any_stmts r behind) _ _ whole (λ l rest.
      on_goes (symbol key.Else) _ _ _ _ whole rest
      (λ at more. goes (stmts r more) _ _ whole (λ o last. ends_is (λ close. SConditional c l o (from_to lead close)) (λ close. call_tail_of l None o close) whole (λ close end. refl) last))
      (λ more. timed_is l more)))

-- behind `select`
pub select_is : (e : ℕ) (r : Readers) (lead : Span) (ts : List Item) → select_rest e r lead ts ≡ select_from e r lead ts
select_is e r lead ts =
    look_same (λ x. is_some (word x)) _ (call_from e r lead) (wait_rest r lead) ts
    (λ rest. goes (target e rest) _ _ (λ c. bind (call_tail r) (λ t. pure (selected lead c t.behind t.delay t.last t.close)))
    (λ t more. goes (call_rest e (callee_of t) more) _ _ (λ c. bind (call_tail r) (λ t. pure (selected lead c t.behind t.delay t.last t.close))) (λ c last. call_is r lead c last)))

module _ (e : ℕ) (r : Readers) (lead : Span) (ts rest : List Item) (dummy : Item) (c : PCall) (some : 1 ≤ length ts) (named : is_some (word (get_or ts 0 dummy)) ≡ true) (read : selected_call e ts ≡ Found c rest) where
  abbrev behind_call : PCall → Reader Item PStmt
  behind_call c = bind (call_tail r) (whole r lead c)

  behind_is : select_rest e r lead ts ≡ go_on (call_tail r rest) (whole r lead c)
  behind_is =
      select_is e r lead ts ∙ (look_there (λ x. is_some (word x)) (call_from e r lead) (wait_rest r lead) ts dummy some named
      ∙ ap (λ answer. go_on answer behind_call) read)

  -- behind a call that was read: a fault, and the statement
  pub select_fails : (fault : ParseError) → Fails fault (call_tail r rest) → Fails fault (select_rest e r lead ts)
  select_fails fault fails = subst (Fails fault) (sym behind_is) (fails_go_on fault (call_tail r rest) (whole r lead c) fails)

  pub select_found : (kept : PCall) (t : CallTail) (node : PStmt) (end : List Item) → kept ≡ c → call_tail r rest ≡ Found t end → node ≡ selected lead kept t.behind t.delay t.last t.close → select_rest e r lead ts ≡ Found node end
  select_found kept t node end same found made =
      behind_is ∙ (ap (λ answer. go_on answer (whole r lead c)) found
      ∙ (ap (λ k. Found (selected lead k t.behind t.delay t.last t.close) end) (sym same)
      ∙ ap (λ n. Found n end) (sym made)))
