-- The texts of statements and their parts, put together of the texts of what they hold (chapters 5, 9 and 11).
use Rattle.std.proofs.Common.{ℕ, ◌+◌, ◌≤◌, List, [], ◌∷◌, ◌++◌, length, codes, Option, IfSome, All, refl, ap, ◌∙◌, sym, subst, arith, append_assoc}
use Rattle.std.proofs.lemmas.List.Elements.{recursion_from_All}
use Rattle.std.specs.List.{AllZip}
use Rattle.ada_tree.specs.declared.naming.Span.{Span}
use Rattle.ada_tree.specs.declared.naming.Word.{Word}
use Rattle.ada_tree.specs.PlainExpr.{PExpr}
use Rattle.ada_tree.specs.PlainStmt.{PTarget, PCallee, PCall, PPart, PWords, PValue, PStmt, SNull, SAssign, SDelay, SExit, SRaise, SAbort, SCall, SPut, SPutLine, SNewLine, SGet, PStmts, stmt_then, present}
use Rattle.ada_tree.specs.WellPlaced.{well_placed}
use Rattle.ada_tree.specs.Every.{EveryWord, EveryExpr, EveryTarget, EveryCallee, EveryCall, EveryPart, EveryText}
use Rattle.ada_tree.specs.Same.{SamePart, SameStmt, SameStmts, SameMaybe}
use Rattle.ada_tree.specs.Lexical.{IsDuration}
use Rattle.ada_lexer.specs.declared.symbols.Symbol.TheVariants as key
use Rattle.ada_expr_parser.specs.declared.items.Item.{Item}
use Rattle.ada_phrase_parser.specs.Spelling.{Source, Spelling, Nothing, ◌▷◌, Key, Predefined, Separated}
use Rattle.ada_phrase_parser.specs.Phrases.{IsPart}
use Rattle.ada_stmt_parser.specs.Statements.{IsStmt, AnyStmts, Stmts, ElsePart, OthersPart}
use Rattle.ded_io.specs.Written.{◌⧺◌}
use Rattle.ada_printer.specs.Layout.{deeper, indent, string_text, later_word}
use Rattle.ada_printer.specs.StmtText.{part_text, parts_text, target_text, stmt_form_text, stmts_text, else_text, others_text}
use Rattle.read_back.proofs.Classes.{Anything, Stop}
use Rattle.read_back.proofs.Told.{Setting, names_of, source_of, Blank, Line, Sign, Fixed, span_at, Filled, told_as, told_same, told_any, told_then, told_indent, told_bits, told_last, told_closed, told_placed, filled_key, filled_then}
use Rattle.read_back.proofs.NamesAndLiterals.{told_string}
use Rattle.read_back.proofs.Phrases.{group3, group4, under_first, Found, read_target, read_callees, read_call, read_later, read_when, read_delay, read_separated, behind_ampersand, is_operand}

pub ungroup : {P Q R : Spelling} {items : List Item} → ((P ▷ Q) ▷ R) items → (P ▷ Q ▷ R) items
ungroup (front, last, is, (one, two, then, p, q), r) = (one, two ++ last, is ∙ ap (λ l. l ++ last) then ∙ append_assoc one two last, p, (two, last, refl, q, r))

-- what stands inside of a call with its statements and one more part
pub called : {A B C D E : Spelling} {items : List Item} → (((A ▷ B) ▷ C) ▷ D ▷ E) items → ((A ▷ B ▷ C ▷ D) ▷ E) items
called said = group4 (ungroup (ungroup said))

pub nothing_first : {P : Spelling} {items : List Item} → P items → (Nothing ▷ P) items
nothing_first p = ([], _, refl, refl, p)

pub filled_behind : {P Q : Spelling} → Filled Q → Filled (P ▷ Q)
filled_behind {Q = Q} filled ([], back, is, p, q) = filled (subst Q (sym is) q)
filled_behind filled (x ∷ front, back, is, p, q) = cc

pub filled_fixed : (t : List ℕ) → Filled (Predefined t)
filled_fixed t (at, is) = cc

module _ (w : Setting) (n : List (List ℕ)) where
  abbrev m : List (List ℕ)
  m = names_of w

  abbrev src : Source
  src = source_of w

  -- ---- simple statements

  pub null_from : (d level at : ℕ) (s : Span) → Found w n (SameStmt n m (SNull s)) Anything Anything (IsStmt src d) at (stmt_form_text n level (SNull s))
  null_from d level at s =
      let p = told_placed w (filled_then filled_key) (told_any w (told_last w (Sign key.Null ∷ Sign key.Semicolon ∷ Line ∷ []) refl)) in
      (SNull p.0, p.1)

  pub assign_from : (k d level : ℕ) (x : PTarget) (e : PExpr) (s : Span) (at : ℕ) → 300 ≤ k + d → EveryTarget (well_placed n) (k + 1) x → EveryExpr (well_placed n) (k + 1) e → Found w n (SameStmt n m (SAssign x e s)) Anything Anything (IsStmt src d) at (stmt_form_text n level (SAssign x e s))
  assign_from k d level x e s at deep good fine =
      let y = read_target w n k d x at deep good in
      let f = is_operand w n k d e ((at + length (target_text n x)) + 4) deep fine in
      let p = told_placed w (filled_behind (filled_then filled_key)) (told_any w (told_then w y.1 (told_bits w (Blank ∷ Sign key.Becomes ∷ Blank ∷ []) (told_closed w (Sign key.Semicolon ∷ Line ∷ []) f.1 refl refl) refl) refl)) in
      (SAssign y.0 f.0 p.0, p.1)

  pub delay_from : (d level t : ℕ) (s : Span) (at : ℕ) → IsDuration t → Found w n (SameStmt n m (SDelay t s)) Anything Anything (IsStmt src d) at (stmt_form_text n level (SDelay t s))
  delay_from d level t s at good =
      let p = told_placed w (filled_then filled_key) (told_any w (read_delay w n t at good)) in
      (SDelay t p.0, told_same w p.1 (λ same. refl))

  pub exit_from : (k d level : ℕ) (v : Option Word) (e : Option PExpr) (s : Span) (at : ℕ) → 300 ≤ k + d → IfSome v (EveryWord (well_placed n)) → IfSome e (EveryExpr (well_placed n) (k + 1)) → Found w n (SameStmt n m (SExit v e s)) Anything Anything (IsStmt src d) at (stmt_form_text n level (SExit v e s))
  exit_from k d level v e s at deep good fine =
      let u = read_later w n v (at + 4) good in
      let f = read_when w n k d e ((at + 4) + length (later_word n v)) deep fine in
      let p = told_placed w (filled_then filled_key) (told_any w (told_bits w (Sign key.Exit ∷ []) (told_then w u.1 (told_closed w (Sign key.Semicolon ∷ Line ∷ []) f.1 refl refl) refl) refl)) in
      (SExit u.0 f.0 p.0, p.1)

  pub raise_from : (d level : ℕ) (v : Option Word) (s : Span) (at : ℕ) → IfSome v (EveryWord (well_placed n)) → Found w n (SameStmt n m (SRaise v s)) Anything Anything (IsStmt src d) at (stmt_form_text n level (SRaise v s))
  raise_from d level v s at good =
      let u = read_later w n v (at + 5) good in
      let p = told_placed w (filled_then filled_key) (told_any w (told_bits w (Sign key.Raise ∷ []) (told_closed w (Sign key.Semicolon ∷ Line ∷ []) u.1 refl refl) refl)) in
      (SRaise u.0 p.0, p.1)

  pub abort_from : (k d level : ℕ) (xs : List PCallee) (s : Span) (at : ℕ) → 300 ≤ k + d → 1 ≤ length xs → All (EveryCallee (well_placed n) (k + 1)) xs → Found w n (SameStmt n m (SAbort xs s)) Anything Anything (IsStmt src d) at (stmt_form_text n level (SAbort xs s))
  abort_from k d level xs s at deep some good =
      let ys = read_callees w n k d xs (at + 6) deep some good in
      let p = told_placed w (filled_then filled_key) (told_any w (told_bits w (Sign key.Abort ∷ Blank ∷ []) (told_closed w (Sign key.Semicolon ∷ Line ∷ []) ys.1 refl refl) refl)) in
      (SAbort ys.0 p.0, p.1)

  pub call_from : (k d level : ℕ) (c : PCall) (s : Span) (at : ℕ) → 300 ≤ k + d → EveryCall (well_placed n) (k + 1) c → Found w n (SameStmt n m (SCall c s)) Anything Anything (IsStmt src d) at (stmt_form_text n level (SCall c s))
  call_from k d level c s at deep good =
      let y = read_call w n k d c at deep good in
      let p = told_placed w (filled_behind filled_key) (told_any w y.1) in
      (SCall y.0 p.0, p.1)

  read_part : (k d : ℕ) (x : PPart) (at : ℕ) → 300 ≤ k + d → EveryPart (well_placed n) (k + 1) x → Found w n (SamePart n m x) Anything Stop (IsPart src d) at (part_text n x)
  read_part k d (PWords t s) at deep good = (PWords t (span_at at (string_text t)), told_same w (told_string w n t good) (λ same. refl))
  read_part k d (PValue e) at deep good = let y = is_operand w n k d e at deep good in (PValue y.0, y.1)

  read_parts : (k d : ℕ) (xs : List PPart) (at : ℕ) → 300 ≤ k + d → EveryText (well_placed n) (k + 1) xs → Found w n (AllZip (SamePart n m) xs) Anything Stop (Separated (Key key.Ampersand) (IsPart src d)) at (parts_text n xs)
  read_parts k d [] at deep good = absurd (omega (arith, good.0))
  read_parts k d (x ∷ xs) at deep good =
      read_separated w n (SamePart n m) (IsPart src d) (part_text n) (EveryPart (well_placed n) (k + 1)) Anything Stop (λ y place fine. read_part k d y place deep fine) key.Ampersand (codes " & ") (λ S Q. behind_ampersand w n S Q Anything) refl x xs at (recursion_from_All _ (x ∷ xs) good.1)

  pub put_from : (k d level : ℕ) (xs : List PPart) (s : Span) (at : ℕ) → 300 ≤ k + d → EveryText (well_placed n) (k + 1) xs → Found w n (SameStmt n m (SPut xs s)) Anything Anything (IsStmt src d) at (stmt_form_text n level (SPut xs s))
  put_from k d level xs s at deep good =
      let ys = read_parts k d xs (at + 4) deep good in
      let told = told_bits w (Fixed (codes "PUT") ∷ Sign key.LeftParen ∷ []) (told_closed w (Sign key.RightParen ∷ Sign key.Semicolon ∷ Line ∷ []) ys.1 refl refl) refl in
      let p = told_placed w (filled_then (filled_fixed (codes "PUT"))) (told_any w (told_as w told (λ items said same. (under_first (λ more q. group3 q) said, same)))) in
      (SPut ys.0 p.0, p.1)

  pub put_line_from : (k d level : ℕ) (xs : List PPart) (s : Span) (at : ℕ) → 300 ≤ k + d → EveryText (well_placed n) (k + 1) xs → Found w n (SameStmt n m (SPutLine xs s)) Anything Anything (IsStmt src d) at (stmt_form_text n level (SPutLine xs s))
  put_line_from k d level xs s at deep good =
      let ys = read_parts k d xs (at + 9) deep good in
      let told = told_bits w (Fixed (codes "PUT_LINE") ∷ Sign key.LeftParen ∷ []) (told_closed w (Sign key.RightParen ∷ Sign key.Semicolon ∷ Line ∷ []) ys.1 refl refl) refl in
      let p = told_placed w (filled_then (filled_fixed (codes "PUT_LINE"))) (told_any w (told_as w told (λ items said same. (under_first (λ more q. group3 q) said, same)))) in
      (SPutLine ys.0 p.0, p.1)

  pub new_line_from : (d level : ℕ) (s : Span) (at : ℕ) → Found w n (SameStmt n m (SNewLine s)) Anything Anything (IsStmt src d) at (stmt_form_text n level (SNewLine s))
  new_line_from d level s at =
      let p = told_placed w (filled_then (filled_fixed (codes "NEW_LINE"))) (told_any w (told_last w (Fixed (codes "NEW_LINE") ∷ Sign key.Semicolon ∷ Line ∷ []) refl)) in
      (SNewLine p.0, p.1)

  pub get_from : (k d level : ℕ) (x : PTarget) (s : Span) (at : ℕ) → 300 ≤ k + d → EveryTarget (well_placed n) (k + 1) x → Found w n (SameStmt n m (SGet x s)) Anything Anything (IsStmt src d) at (stmt_form_text n level (SGet x s))
  get_from k d level x s at deep good =
      let y = read_target w n k d x (at + 4) deep good in
      let p = told_placed w (filled_then (filled_fixed (codes "GET"))) (told_any w (told_bits w (Fixed (codes "GET") ∷ Sign key.LeftParen ∷ []) (told_closed w (Sign key.RightParen ∷ Sign key.Semicolon ∷ Line ∷ []) y.1 refl refl) refl)) in
      (SGet y.0 p.0, p.1)

  -- ---- lists of statements

  pub stmts_from : (d level : ℕ) (x : PStmt) (k : PStmts) (at : ℕ) → Found w n (SameStmt n m x) Anything Anything (IsStmt src d) (at + length (indent level)) (stmt_form_text n level x) →
      Found w n (SameStmts n m k) Anything Anything (AnyStmts src d) (at + length (indent level ⧺ stmt_form_text n level x)) (stmts_text n level k) → Found w n (SameStmts n m (stmt_then x k)) Anything Anything (λ y. Stmts src d y) at (stmts_text n level (stmt_then x k))
  stmts_from d level x k at one more = (stmt_then one.0 more.0, told_then w (told_indent w level one.1) more.1 refl)

  pub any_stmts_from : (d level : ℕ) (x : PStmt) (k : PStmts) (at : ℕ) → Found w n (SameStmt n m x) Anything Anything (IsStmt src d) (at + length (indent level)) (stmt_form_text n level x) →
      Found w n (SameStmts n m k) Anything Anything (AnyStmts src d) (at + length (indent level ⧺ stmt_form_text n level x)) (stmts_text n level k) → Found w n (SameStmts n m (stmt_then x k)) Anything Anything (λ y. AnyStmts src d y) at (stmts_text n level (stmt_then x k))
  any_stmts_from d level x k at one more = (stmt_then one.0 more.0, told_then w (told_indent w level one.1) more.1 refl)

  pub else_from : (d level : ℕ) (k : PStmts) (at : ℕ) → Found w n (SameStmts n m k) Anything Anything (Stmts src d) ((at + length (indent level)) + 5) (stmts_text n (deeper level) k) → Found w n (SameMaybe n m (present k)) Anything Anything (ElsePart src d) at (else_text n level (present k))
  else_from d level k at inside = (present inside.0, told_indent w level (told_bits w (Sign key.Else ∷ Line ∷ []) inside.1 refl))

  pub others_from : (d level : ℕ) (k : PStmts) (at : ℕ) → Found w n (SameStmts n m k) Anything Anything (Stmts src d) ((at + length (indent level)) + 15) (stmts_text n (deeper level) k) → Found w n (SameMaybe n m (present k)) Anything Anything (OthersPart src d) at (others_text n level (present k))
  others_from d level k at inside =
      (present inside.0, told_indent w level (told_as w (told_bits w (Sign key.When ∷ Blank ∷ Sign key.Others ∷ Blank ∷ Sign key.Arrow ∷ Line ∷ []) inside.1 refl) (λ items said same. (group3 said, same))))
