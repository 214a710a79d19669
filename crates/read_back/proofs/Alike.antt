-- Trees that are the same have one printed text: a text has no places, and of names their texts alone.
use Rattle.std.proofs.Common.{◌≡◌, ℕ, zero, suc, ◌+◌, leb, List, [], ◌∷◌, take, drop, codes, decimal, Option, None, Some, unwrap_or, refl, ap, ◌∙◌, subst}
use Rattle.std.specs.List.{AllZip}
use Rattle.ada_tree.specs.declared.naming.NameId.{NameId}
use Rattle.ada_tree.specs.declared.naming.Word.{Word}
use Rattle.ada_tree.specs.PlainExpr.{PExpr, EInteger, EName, EIndex, EAttribute, EAttributeOf, EParen, EUnary, EBinary, PBounds, PSubind, PDrange, RGiven, RMarked}
use Rattle.ada_tree.specs.PlainStmt.{PTarget, PCallee, PArgs, PCall, PFormal, PPart, PWords, PValue, PChoice, PScheme, LWhile, LFor, PHead, PStmt, SNull, SAssign, SDelay, SExit, SRaise, SAbort, SCall, SAccept, SWait, SConditional, STimed, SPut, SPutLine, SNewLine, SGet, SIf, SCase, SBlock, SLoop, PStmts, no_stmt, stmt_then, PMaybe, absent, present, PAccept, accepting, PAlt, alternative, PAltKind, AAccept, ADelay, ATerminate, PAlts, no_alt, alt_then, PArm, arm, PArms, no_arm, arm_then, PCaseArm, case_arm, PCaseArms, no_case_arm, case_arm_then, PBody, body, PHandler, handler, PHandlers, no_handler, handler_then}
use Rattle.ada_tree.specs.PlainDecl.{PShape, OPlain, OArray, PInit, IOne, IList, IOthers, PPriority, PEntry, PTask, PDecl, DNumber, DObject, DEnumeration, DArray, DSubtype, DException, DIntIo, DPragma, DTask, DTaskBody, PDecls, no_decl, decl_then}
use Rattle.ada_tree.specs.PlainProgram.{PProgram}
use Rattle.ada_tree.specs.Same.{SameOption, SameName, SameWord, SameExpr, SameBounds, SameSubind, SameDrange, SameTarget, SameCallee, SameArgs, SameCall, SameFormal, SamePart, SameChoice, SameScheme, SameHead, SameStmt, SameStmts, SameMaybe, SameAccept, SameAlt, SameAltKind, SameAlts, SameArm, SameArms, SameCaseArm, SameCaseArms, SameBody, SameHandler, SameHandlers, SameShape, SameInit, SamePriority, SameEntry, SameTask, SameDecl, SameDecls, Same}
use Rattle.ded_io.specs.Written.{◌⧺◌, each_text}
use Rattle.ada_printer.specs.Layout.{deeper, indent, separated, string_text, name_text, word_text, words_text, later_word}
use Rattle.ada_printer.specs.ExprText.{unary_text, binary_text, expr_text, exprs_text, index_text, bounds_text, range_text, subind_text, drange_text, array_text}
use Rattle.ada_printer.specs.StmtText as stmt
use Rattle.ada_printer.specs.DeclText as decl
use Rattle.ada_printer.specs.ProgramText.{context_text, program_text}

-- two texts, each alike
beside : {t u v z : List ℕ} → t ≡ v → u ≡ z → t ⧺ u ≡ v ⧺ z
beside {u = u} {v = v} p q = ap (λ l. l ⧺ u) p ∙ ap (λ l. v ⧺ l) q

-- behind the same text
behind : {u z : List ℕ} (t : List ℕ) → u ≡ z → t ⧺ u ≡ t ⧺ z
behind t q = ap (λ l. t ⧺ l) q

-- before the same text
before : {t v : List ℕ} (u : List ℕ) → t ≡ v → t ⧺ u ≡ v ⧺ u
before u p = ap (λ l. l ⧺ u) p

module _ {A : Type 0} (R : A → A → Type 0) (f g : A → List ℕ) (alike : (x y : A) → R x y → f x ≡ g y) where
  each_alike : (xs ys : List A) → AllZip R xs ys → each_text f xs ≡ each_text g ys
  each_alike [] [] same = refl
  each_alike (x ∷ xs) (y ∷ ys) same = beside (alike x y same.0) (each_alike xs ys same.1)
  each_alike [] (y ∷ ys) same = absurd same
  each_alike (x ∷ xs) [] same = absurd same

separated_alike : {A : Type 0} (R : A → A → Type 0) (f g : A → List ℕ) (mark : List ℕ) → ((x y : A) → R x y → f x ≡ g y) → (xs ys : List A) → AllZip R xs ys → separated mark f xs ≡ separated mark g ys
separated_alike R f g mark alike [] [] same = refl
separated_alike R f g mark alike (x ∷ xs) (y ∷ ys) same = beside (alike x y same.0) (each_alike R (λ z. mark ⧺ f z) (λ z. mark ⧺ g z) (λ a b is. behind mark (alike a b is)) xs ys same.1)
separated_alike R f g mark alike [] (y ∷ ys) same = absurd same
separated_alike R f g mark alike (x ∷ xs) [] same = absurd same

module _ (n m : List (List ℕ)) where
  name_alike : (a b : NameId) → SameName n m a b → name_text n a ≡ name_text m b
  name_alike a b same = ap (λ o. unwrap_or o []) same

  word_alike : (v u : Word) → SameWord n m v u → word_text n v ≡ word_text m u
  word_alike v u same = name_alike v.name u.name same

  words_alike : (vs us : List Word) → AllZip (SameWord n m) vs us → words_text n vs ≡ words_text m us
  words_alike vs us same = separated_alike (SameWord n m) (word_text n) (word_text m) (codes ", ") word_alike vs us same

  later_alike : (v u : Option Word) → SameOption (SameWord n m) v u → later_word n v ≡ later_word m u
  later_alike None None same = refl
  later_alike (Some v) (Some u) same = behind (codes " ") (word_alike v u same)
  later_alike None (Some u) same = absurd same
  later_alike (Some v) None same = absurd same

  expr_alike : (x y : PExpr) → SameExpr n m x y → expr_text n x ≡ expr_text m y
  expr_alike (EInteger a s) (EInteger b t) same = ap decimal same
  expr_alike (EName a s) (EName b t) same = name_alike a b same
  expr_alike (EIndex v e s) (EIndex u f t) same = beside (word_alike v u same.0) (behind (codes "(") (before (codes ")") (expr_alike e f same.1)))
  expr_alike (EAttribute x v s) (EAttribute y u t) same = beside (word_alike x y same.0) (behind (codes "'") (word_alike v u same.1))
  expr_alike (EAttributeOf x v e s) (EAttributeOf y u f t) same = beside (word_alike x y same.0) (behind (codes "'") (beside (word_alike v u same.1) (behind (codes "(") (before (codes ")") (expr_alike e f same.2)))))
  expr_alike (EParen e s) (EParen f t) same = behind (codes "(") (before (codes ")") (expr_alike e f same))
  expr_alike (EUnary op e s) (EUnary oq f t) same = beside (ap unary_text same.0) (expr_alike e f same.1)
  expr_alike (EBinary op l r s) (EBinary oq k q t) same = beside (expr_alike l k same.1) (beside (ap binary_text same.0) (expr_alike r q same.2))
  expr_alike x y same = absurd same

  exprs_alike : (es fs : List PExpr) → AllZip (SameExpr n m) es fs → exprs_text n es ≡ exprs_text m fs
  exprs_alike es fs same = behind (codes "(") (before (codes ")") (separated_alike (SameExpr n m) (expr_text n) (expr_text m) (codes ", ") expr_alike es fs same))

  index_alike : (e f : Option PExpr) → SameOption (SameExpr n m) e f → index_text n e ≡ index_text m f
  index_alike None None same = refl
  index_alike (Some e) (Some f) same = behind (codes "(") (before (codes ")") (expr_alike e f same))
  index_alike None (Some f) same = absurd same
  index_alike (Some e) None same = absurd same

  bounds_alike : (a b : PBounds) → SameBounds n m a b → bounds_text n a ≡ bounds_text m b
  bounds_alike a b same = beside (expr_alike a.first b.first same.0) (behind (codes " .. ") (expr_alike a.last b.last same.1))

  range_alike : (a b : Option PBounds) → SameOption (SameBounds n m) a b → range_text n a ≡ range_text m b
  range_alike None None same = refl
  range_alike (Some a) (Some b) same = behind (codes " range ") (bounds_alike a b same)
  range_alike None (Some b) same = absurd same
  range_alike (Some a) None same = absurd same

  subind_alike : (x y : PSubind) → SameSubind n m x y → subind_text n x ≡ subind_text m y
  subind_alike x y same = beside (word_alike x.mark y.mark same.0) (range_alike x.bounds y.bounds same.1)

  drange_alike : (x y : PDrange) → SameDrange n m x y → drange_text n x ≡ drange_text m y
  drange_alike (RGiven a) (RGiven b) same = bounds_alike a b same
  drange_alike (RMarked a) (RMarked b) same = subind_alike a b same
  drange_alike (RGiven a) (RMarked b) same = absurd same
  drange_alike (RMarked a) (RGiven b) same = absurd same

  array_alike : (r q : PDrange) (x y : PSubind) → SameDrange n m r q → SameSubind n m x y → array_text n r x ≡ array_text m q y
  array_alike r q x y one two = behind (codes "array (") (beside (drange_alike r q one) (behind (codes ") of ") (subind_alike x y two)))

  -- ---- what is built of expressions

  target_alike : (x y : PTarget) → SameTarget n m x y → stmt.target_text n x ≡ stmt.target_text m y
  target_alike x y same = beside (word_alike x.name y.name same.0) (index_alike x.index y.index same.1)

  callee_alike : (x y : PCallee) → SameCallee n m x y → stmt.callee_text n x ≡ stmt.callee_text m y
  callee_alike x y same = beside (word_alike x.name y.name same.0) (index_alike x.index y.index same.1)

  second_alike : (x y : Option (List PExpr)) → SameOption (AllZip (SameExpr n m)) x y → stmt.second_text n x ≡ stmt.second_text m y
  second_alike None None same = refl
  second_alike (Some x) (Some y) same = exprs_alike x y same
  second_alike None (Some y) same = absurd same
  second_alike (Some x) None same = absurd same

  args_alike : (x y : Option PArgs) → SameOption (SameArgs n m) x y → stmt.args_text n x ≡ stmt.args_text m y
  args_alike None None same = refl
  args_alike (Some x) (Some y) same = beside (exprs_alike x.first y.first same.0) (second_alike x.second y.second same.1)
  args_alike None (Some y) same = absurd same
  args_alike (Some x) None same = absurd same

  call_alike : (x y : PCall) → SameCall n m x y → stmt.call_text n x ≡ stmt.call_text m y
  call_alike x y same = beside (callee_alike x.task y.task same.0) (behind (codes ".") (beside (word_alike x.entry y.entry same.1) (before (codes ";\n") (args_alike x.args y.args same.2))))

  formal_alike : (x y : PFormal) → SameFormal n m x y → stmt.formal_text n x ≡ stmt.formal_text m y
  formal_alike x y same = beside (words_alike x.names y.names same.0) (behind (codes " : ") (beside (ap stmt.mode_text same.1) (word_alike x.mark y.mark same.2)))

  formals_alike : (xs ys : List PFormal) → AllZip (SameFormal n m) xs ys → stmt.formals_text n xs ≡ stmt.formals_text m ys
  formals_alike [] [] same = refl
  formals_alike (x ∷ xs) (y ∷ ys) same = behind (codes "(") (before (codes ")") (separated_alike (SameFormal n m) (stmt.formal_text n) (stmt.formal_text m) (codes "; ") formal_alike (x ∷ xs) (y ∷ ys) same))
  formals_alike [] (y ∷ ys) same = absurd same
  formals_alike (x ∷ xs) [] same = absurd same

  head_alike : (x y : PHead) → SameHead n m x y → stmt.head_text n x.entry x.index x.formals ≡ stmt.head_text m y.entry y.index y.formals
  head_alike x y same = behind (codes "accept ") (beside (word_alike x.entry y.entry same.0) (beside (index_alike x.index y.index same.1) (formals_alike x.formals y.formals same.2)))

  part_alike : (x y : PPart) → SamePart n m x y → stmt.part_text n x ≡ stmt.part_text m y
  part_alike (PWords a s) (PWords b t) same = ap string_text same
  part_alike (PValue e) (PValue f) same = expr_alike e f same
  part_alike (PWords a s) (PValue f) same = absurd same
  part_alike (PValue e) (PWords b t) same = absurd same

  parts_alike : (xs ys : List PPart) → AllZip (SamePart n m) xs ys → stmt.parts_text n xs ≡ stmt.parts_text m ys
  parts_alike xs ys same = separated_alike (SamePart n m) (stmt.part_text n) (stmt.part_text m) (codes " & ") part_alike xs ys same

  last_alike : (x y : Option PExpr) → SameOption (SameExpr n m) x y → stmt.last_text n x ≡ stmt.last_text m y
  last_alike None None same = refl
  last_alike (Some x) (Some y) same = behind (codes " .. ") (expr_alike x y same)
  last_alike None (Some y) same = absurd same
  last_alike (Some x) None same = absurd same

  choice_alike : (x y : PChoice) → SameChoice n m x y → stmt.choice_text n x ≡ stmt.choice_text m y
  choice_alike x y same = beside (expr_alike x.first y.first same.0) (last_alike x.last y.last same.1)

  choices_alike : (xs ys : List PChoice) → AllZip (SameChoice n m) xs ys → separated (codes " | ") (stmt.choice_text n) xs ≡ separated (codes " | ") (stmt.choice_text m) ys
  choices_alike xs ys same = separated_alike (SameChoice n m) (stmt.choice_text n) (stmt.choice_text m) (codes " | ") choice_alike xs ys same

  caught_alike : (vs us : List Word) → AllZip (SameWord n m) vs us → stmt.caught_text n vs ≡ stmt.caught_text m us
  caught_alike [] [] same = refl
  caught_alike (v ∷ vs) (u ∷ us) same = separated_alike (SameWord n m) (word_text n) (word_text m) (codes " | ") word_alike (v ∷ vs) (u ∷ us) same
  caught_alike [] (u ∷ us) same = absurd same
  caught_alike (v ∷ vs) [] same = absurd same

  label_alike : (v u : Option Word) → SameOption (SameWord n m) v u → stmt.label_text n v ≡ stmt.label_text m u
  label_alike None None same = refl
  label_alike (Some v) (Some u) same = before (codes " : ") (word_alike v u same)
  label_alike None (Some u) same = absurd same
  label_alike (Some v) None same = absurd same

  scheme_alike : (x y : Option PScheme) → SameOption (SameScheme n m) x y → stmt.scheme_text n x ≡ stmt.scheme_text m y
  scheme_alike None None same = refl
  scheme_alike (Some (LWhile e)) (Some (LWhile f)) same = behind (codes "while ") (before (codes " ") (expr_alike e f same))
  scheme_alike (Some (LFor v r x)) (Some (LFor u q y)) same = behind (codes "for ") (beside (word_alike v u same.0) (behind (codes " in ") (beside (ap stmt.reverse_text same.1) (before (codes " ") (drange_alike x y same.2)))))
  scheme_alike x y same = absurd same

  when_alike : (x y : Option PExpr) → SameOption (SameExpr n m) x y → stmt.when_text n x ≡ stmt.when_text m y
  when_alike None None same = refl
  when_alike (Some x) (Some y) same = behind (codes " when ") (expr_alike x y same)
  when_alike None (Some y) same = absurd same
  when_alike (Some x) None same = absurd same

  -- ---- statements

  -- a delay with what stands behind it
  delayed_alike : (level a b : ℕ) {t u : List ℕ} → a ≡ b → t ≡ u → stmt.delayed_text level a t ≡ stmt.delayed_text level b u
  delayed_alike level a b one two = behind (indent level) (beside (ap stmt.delay_text one) two)

  otherwise_alike : (level : ℕ) {t u : List ℕ} → t ≡ u → stmt.otherwise_text level t ≡ stmt.otherwise_text level u
  otherwise_alike level two = behind (indent level) (behind (codes "else\n") two)

  called_alike : (level : ℕ) (c d : PCall) {t u : List ℕ} → SameCall n m c d → t ≡ u → stmt.called_text n level c t ≡ stmt.called_text m level d u
  called_alike level c d one two = behind (indent level) (beside (call_alike c d one) two)

  mutual
    stmt_alike : (level : ℕ) (x y : PStmt) → SameStmt n m x y → stmt.stmt_form_text n level x ≡ stmt.stmt_form_text m level y
    stmt_alike level (SNull s) (SNull t) same = refl
    stmt_alike level (SAssign x e s) (SAssign y f t) same = beside (target_alike x y same.0) (behind (codes " := ") (before (codes ";\n") (expr_alike e f same.1)))
    stmt_alike level (SDelay a s) (SDelay b t) same = ap stmt.delay_text same
    stmt_alike level (SExit v e s) (SExit u f t) same = behind (codes "exit") (beside (later_alike v u same.0) (before (codes ";\n") (when_alike e f same.1)))
    stmt_alike level (SRaise v s) (SRaise u t) same = behind (codes "raise") (before (codes ";\n") (later_alike v u same))
    stmt_alike level (SAbort xs s) (SAbort ys t) same = behind (codes "abort ") (before (codes ";\n") (separated_alike (SameCallee n m) (stmt.callee_text n) (stmt.callee_text m) (codes ", ") callee_alike xs ys same))
    stmt_alike level (SCall c s) (SCall d t) same = call_alike c d same
    stmt_alike level (SAccept a s) (SAccept b t) same = accept_alike level a b same
    stmt_alike level (SWait x o s) (SWait y p t) same = behind (codes "select\n") (beside (alts_alike level x y same.0) (before (indent level ⧺ codes "end select;\n") (else_alike level o p same.1)))
    stmt_alike level (SConditional c k o s) (SConditional d l p t) same =
        behind (codes "select\n") (beside (called_alike (deeper level) c d same.0 (stmts_alike (deeper level) k l same.1)) (before (indent level ⧺ codes "end select;\n") (otherwise_alike level (stmts_alike (deeper level) o p same.2))))
    stmt_alike level (STimed c k a o s) (STimed d l b p t) same =
        behind (codes "select\n") (beside (called_alike (deeper level) c d same.0 (stmts_alike (deeper level) k l same.1)) (behind (indent level) (behind (codes "or\n") (before (indent level ⧺ codes "end select;\n") (delayed_alike (deeper level) a b same.2 (stmts_alike (deeper level) o p same.3))))))
    stmt_alike level (SPut xs s) (SPut ys t) same = behind (codes "PUT(") (before (codes ");\n") (parts_alike xs ys same))
    stmt_alike level (SPutLine xs s) (SPutLine ys t) same = behind (codes "PUT_LINE(") (before (codes ");\n") (parts_alike xs ys same))
    stmt_alike level (SNewLine s) (SNewLine t) same = refl
    stmt_alike level (SGet x s) (SGet y t) same = behind (codes "GET(") (before (codes ");\n") (target_alike x y same))
    stmt_alike level (SIf x o s) (SIf y p t) same = beside (arms_alike level x y same.0) (before (indent level ⧺ codes "end if;\n") (else_alike level o p same.1))
    stmt_alike level (SCase e x o s) (SCase f y p t) same =
        behind (codes "case ") (beside (expr_alike e f same.0) (behind (codes " is\n") (beside (case_arms_alike (deeper level) x y same.1) (before (indent level ⧺ codes "end case;\n") (others_alike (deeper level) o p same.2)))))
    stmt_alike level (SBlock b s) (SBlock c t) same = before (indent level ⧺ codes "end;\n") (body_alike level b c same)
    stmt_alike level (SLoop v c k s) (SLoop u d l t) same =
        beside (label_alike v u same.0) (beside (scheme_alike c d same.1) (behind (codes "loop\n") (beside (stmts_alike (deeper level) k l same.2) (behind (indent level) (behind (codes "end loop") (before (codes ";\n") (later_alike v u same.0)))))))
    stmt_alike level x y same = absurd same

    stmts_alike : (level : ℕ) (x y : PStmts) → SameStmts n m x y → stmt.stmts_text n level x ≡ stmt.stmts_text m level y
    stmts_alike level no_stmt no_stmt same = refl
    stmts_alike level (stmt_then x k) (stmt_then y l) same = beside (behind (indent level) (stmt_alike level x y same.0)) (stmts_alike level k l same.1)
    stmts_alike level no_stmt (stmt_then y l) same = absurd same
    stmts_alike level (stmt_then x k) no_stmt same = absurd same

    else_alike : (level : ℕ) (x y : PMaybe) → SameMaybe n m x y → stmt.else_text n level x ≡ stmt.else_text m level y
    else_alike level absent absent same = refl
    else_alike level (present k) (present l) same = otherwise_alike level (stmts_alike (deeper level) k l same)
    else_alike level absent (present l) same = absurd same
    else_alike level (present k) absent same = absurd same

    others_alike : (level : ℕ) (x y : PMaybe) → SameMaybe n m x y → stmt.others_text n level x ≡ stmt.others_text m level y
    others_alike level absent absent same = refl
    others_alike level (present k) (present l) same = behind (indent level) (behind (codes "when others =>\n") (stmts_alike (deeper level) k l same))
    others_alike level absent (present l) same = absurd same
    others_alike level (present k) absent same = absurd same

    accept_alike : (level : ℕ) (x y : PAccept) → SameAccept n m x y → stmt.accept_text n level x ≡ stmt.accept_text m level y
    accept_alike level (accepting h absent) (accepting g absent) same = before (codes ";\n") (head_alike h g same.0)
    accept_alike level (accepting h (present k)) (accepting g (present l)) same =
        beside (head_alike h g same.0) (behind (codes " do\n") (beside (stmts_alike (deeper level) k l same.1) (behind (indent level) (behind (codes "end ") (before (codes ";\n") (word_alike h.entry g.entry same.0.0))))))
    accept_alike level (accepting h absent) (accepting g (present l)) same = absurd same.1
    accept_alike level (accepting h (present k)) (accepting g absent) same = absurd same.1

    kind_alike : (level : ℕ) (x y : PAltKind) → SameAltKind n m x y → stmt.alt_kind_text n level x ≡ stmt.alt_kind_text m level y
    kind_alike level (AAccept a k) (AAccept b l) same = behind (indent level) (beside (accept_alike level a b same.0) (stmts_alike level k l same.1))
    kind_alike level (ADelay a k) (ADelay b l) same = delayed_alike level a b same.0 (stmts_alike level k l same.1)
    kind_alike level ATerminate ATerminate same = refl
    kind_alike level x y same = absurd same

    alt_alike : (level : ℕ) (x y : PAlt) → SameAlt n m x y → stmt.alt_text n level x ≡ stmt.alt_text m level y
    alt_alike level (alternative None x s) (alternative None y t) same = kind_alike level x y same.1
    alt_alike level (alternative (Some e) x s) (alternative (Some f) y t) same =
        behind (indent level) (behind (codes "when ") (beside (expr_alike e f same.0) (behind (codes " =>\n") (kind_alike (deeper level) x y same.1))))
    alt_alike level (alternative None x s) (alternative (Some f) y t) same = absurd same.0
    alt_alike level (alternative (Some e) x s) (alternative None y t) same = absurd same.0

    alts_alike : (level : ℕ) (x y : PAlts) → SameAlts n m x y → stmt.alts_text n level x ≡ stmt.alts_text m level y
    alts_alike level no_alt no_alt same = refl
    alts_alike level (alt_then x k) (alt_then y l) same = beside (alt_alike (deeper level) x y same.0) (more_alts_alike level k l same.1)
    alts_alike level no_alt (alt_then y l) same = absurd same
    alts_alike level (alt_then x k) no_alt same = absurd same

    more_alts_alike : (level : ℕ) (x y : PAlts) → SameAlts n m x y → stmt.more_alts_text n level x ≡ stmt.more_alts_text m level y
    more_alts_alike level no_alt no_alt same = refl
    more_alts_alike level (alt_then x k) (alt_then y l) same = beside (behind (indent level) (behind (codes "or\n") (alt_alike (deeper level) x y same.0))) (more_alts_alike level k l same.1)
    more_alts_alike level no_alt (alt_then y l) same = absurd same
    more_alts_alike level (alt_then x k) no_alt same = absurd same

    arm_alike : (level : ℕ) (x y : PArm) → SameArm n m x y → stmt.arm_text n level x ≡ stmt.arm_text m level y
    arm_alike level (arm e k) (arm f l) same = beside (expr_alike e f same.0) (behind (codes " then\n") (stmts_alike (deeper level) k l same.1))

    arms_alike : (level : ℕ) (x y : PArms) → SameArms n m x y → stmt.arms_text n level x ≡ stmt.arms_text m level y
    arms_alike level no_arm no_arm same = refl
    arms_alike level (arm_then x k) (arm_then y l) same = beside (behind (codes "if ") (arm_alike level x y same.0)) (more_arms_alike level k l same.1)
    arms_alike level no_arm (arm_then y l) same = absurd same
    arms_alike level (arm_then x k) no_arm same = absurd same

    more_arms_alike : (level : ℕ) (x y : PArms) → SameArms n m x y → stmt.more_arms_text n level x ≡ stmt.more_arms_text m level y
    more_arms_alike level no_arm no_arm same = refl
    more_arms_alike level (arm_then x k) (arm_then y l) same = beside (behind (indent level) (behind (codes "elsif ") (arm_alike level x y same.0))) (more_arms_alike level k l same.1)
    more_arms_alike level no_arm (arm_then y l) same = absurd same
    more_arms_alike level (arm_then x k) no_arm same = absurd same

    case_arm_alike : (level : ℕ) (x y : PCaseArm) → SameCaseArm n m x y → stmt.case_arm_text n level x ≡ stmt.case_arm_text m level y
    case_arm_alike level (case_arm xs k) (case_arm ys l) same =
        behind (indent level) (behind (codes "when ") (beside (choices_alike xs ys same.0) (behind (codes " =>\n") (stmts_alike (deeper level) k l same.1))))

    case_arms_alike : (level : ℕ) (x y : PCaseArms) → SameCaseArms n m x y → stmt.case_arms_text n level x ≡ stmt.case_arms_text m level y
    case_arms_alike level no_case_arm no_case_arm same = refl
    case_arms_alike level (case_arm_then x k) (case_arm_then y l) same = beside (case_arm_alike level x y same.0) (case_arms_alike level k l same.1)
    case_arms_alike level no_case_arm (case_arm_then y l) same = absurd same
    case_arms_alike level (case_arm_then x k) no_case_arm same = absurd same

    body_alike : (level : ℕ) (x y : PBody) → SameBody n m x y → stmt.body_text n level x ≡ stmt.body_text m level y
    body_alike level (body k x) (body l y) same = behind (codes "begin\n") (beside (stmts_alike (deeper level) k l same.0) (exception_alike level x y same.1))

    exception_alike : (level : ℕ) (x y : PHandlers) → SameHandlers n m x y → stmt.exception_text n level x ≡ stmt.exception_text m level y
    exception_alike level no_handler no_handler same = refl
    exception_alike level (handler_then x k) (handler_then y l) same =
        behind (indent level) (behind (codes "exception\n") (beside (handler_alike (deeper level) x y same.0) (handlers_alike (deeper level) k l same.1)))
    exception_alike level no_handler (handler_then y l) same = absurd same
    exception_alike level (handler_then x k) no_handler same = absurd same

    handler_alike : (level : ℕ) (x y : PHandler) → SameHandler n m x y → stmt.handler_text n level x ≡ stmt.handler_text m level y
    handler_alike level (handler vs k s) (handler us l t) same =
        behind (indent level) (behind (codes "when ") (beside (caught_alike vs us same.0) (behind (codes " =>\n") (stmts_alike (deeper level) k l same.1))))

    handlers_alike : (level : ℕ) (x y : PHandlers) → SameHandlers n m x y → stmt.handlers_text n level x ≡ stmt.handlers_text m level y
    handlers_alike level no_handler no_handler same = refl
    handlers_alike level (handler_then x k) (handler_then y l) same = beside (handler_alike level x y same.0) (handlers_alike level k l same.1)
    handlers_alike level no_handler (handler_then y l) same = absurd same
    handlers_alike level (handler_then x k) no_handler same = absurd same

  -- ---- declarations

  shape_alike : (x y : PShape) → SameShape n m x y → decl.shape_text n x ≡ decl.shape_text m y
  shape_alike (OPlain x) (OPlain y) same = subind_alike x y same
  shape_alike (OArray r x) (OArray q y) same = array_alike r q x y same.0 same.1
  shape_alike (OPlain x) (OArray q y) same = absurd same
  shape_alike (OArray r x) (OPlain y) same = absurd same

  init_alike : (x y : PInit) → SameInit n m x y → decl.init_text n x ≡ decl.init_text m y
  init_alike (IOne e) (IOne f) same = expr_alike e f same
  init_alike (IList es s) (IList fs t) same = exprs_alike es fs same
  init_alike (IOthers e s) (IOthers f t) same = behind (codes "(others => ") (before (codes ")") (expr_alike e f same))
  init_alike x y same = absurd same

  value_alike : (x y : Option PInit) → SameOption (SameInit n m) x y → decl.value_text n x ≡ decl.value_text m y
  value_alike None None same = refl
  value_alike (Some x) (Some y) same = behind (codes " := ") (init_alike x y same)
  value_alike None (Some y) same = absurd same
  value_alike (Some x) None same = absurd same

  pragma_alike : (e f : PExpr) → SameExpr n m e f → decl.pragma_text n e ≡ decl.pragma_text m f
  pragma_alike e f same = behind (codes "pragma PRIORITY(") (before (codes ");\n") (expr_alike e f same))

  priorities_alike : (level : ℕ) (ps qs : List PPriority) → AllZip (SamePriority n m) ps qs → decl.priorities_text n level ps ≡ decl.priorities_text m level qs
  priorities_alike level ps qs same = each_alike (SamePriority n m) (decl.priority_text n level) (decl.priority_text m level) (λ p q is. behind (indent level) (pragma_alike p.value q.value is.1)) ps qs same

  family_alike : (x y : Option PDrange) → SameOption (SameDrange n m) x y → decl.family_text n x ≡ decl.family_text m y
  family_alike None None same = refl
  family_alike (Some x) (Some y) same = behind (codes "(") (before (codes ")") (drange_alike x y same))
  family_alike None (Some y) same = absurd same
  family_alike (Some x) None same = absurd same

  entry_alike : (level : ℕ) (x y : PEntry) → SameEntry n m x y → decl.entry_text n level x ≡ decl.entry_text m level y
  entry_alike level x y same =
      behind (indent level) (behind (codes "entry ") (beside (word_alike x.name y.name same.0) (beside (family_alike x.family y.family same.1) (before (codes ";\n") (formals_alike x.formals y.formals same.2)))))

  -- as many pragmas stand behind so many entries
  standing_alike : (so_far : ℕ) (ps qs : List PPriority) → AllZip (SamePriority n m) ps qs → decl.standing so_far ps ≡ decl.standing so_far qs
  standing_alike so_far [] [] same = refl
  standing_alike so_far (p ∷ ps) (q ∷ qs) same = one (ap (λ k. leb k so_far) same.0.0) (standing_alike so_far ps qs same.1)
    where
      one : leb p.place so_far ≡ leb q.place so_far → decl.standing so_far ps ≡ decl.standing so_far qs → decl.standing so_far (p ∷ ps) ≡ decl.standing so_far (q ∷ qs)
      one test more = rw (test, more) refl
  standing_alike so_far [] (q ∷ qs) same = absurd same
  standing_alike so_far (p ∷ ps) [] same = absurd same

  taken_alike : (k : ℕ) (ps qs : List PPriority) → AllZip (SamePriority n m) ps qs → AllZip (SamePriority n m) (take k ps) (take k qs)
  taken_alike zero ps qs same = tt
  taken_alike (suc k) [] [] same = tt
  taken_alike (suc k) (p ∷ ps) (q ∷ qs) same = (same.0, taken_alike k ps qs same.1)
  taken_alike (suc k) [] (q ∷ qs) same = absurd same
  taken_alike (suc k) (p ∷ ps) [] same = absurd same

  dropped_alike : (k : ℕ) (ps qs : List PPriority) → AllZip (SamePriority n m) ps qs → AllZip (SamePriority n m) (drop k ps) (drop k qs)
  dropped_alike zero ps qs same = same
  dropped_alike (suc k) [] [] same = tt
  dropped_alike (suc k) (p ∷ ps) (q ∷ qs) same = dropped_alike k ps qs same.1
  dropped_alike (suc k) [] (q ∷ qs) same = absurd same
  dropped_alike (suc k) (p ∷ ps) [] same = absurd same

  items_alike : (level so_far : ℕ) (es fs : List PEntry) (ps qs : List PPriority) → AllZip (SameEntry n m) es fs → AllZip (SamePriority n m) ps qs → decl.items_text n level so_far es ps ≡ decl.items_text m level so_far fs qs
  items_alike level so_far [] [] ps qs one two = priorities_alike level ps qs two
  items_alike level so_far (e ∷ es) (f ∷ fs) ps qs one two =
      let count : decl.standing so_far ps ≡ decl.standing so_far qs = standing_alike so_far ps qs two in
      let front : AllZip (SamePriority n m) (take (decl.standing so_far ps) ps) (take (decl.standing so_far qs) qs) = subst (λ k. AllZip (SamePriority n m) (take (decl.standing so_far ps) ps) (take k qs)) count (taken_alike (decl.standing so_far ps) ps qs two) in
      let back : AllZip (SamePriority n m) (drop (decl.standing so_far ps) ps) (drop (decl.standing so_far qs) qs) = subst (λ k. AllZip (SamePriority n m) (drop (decl.standing so_far ps) ps) (drop k qs)) count (dropped_alike (decl.standing so_far ps) ps qs two) in
      beside (priorities_alike level _ _ front) (beside (entry_alike level e f one.0) (items_alike level (so_far + 1) es fs _ _ one.1 back))
  items_alike level so_far [] (f ∷ fs) ps qs one two = absurd one
  items_alike level so_far (e ∷ es) [] ps qs one two = absurd one

  task_end_alike : (level : ℕ) (v u : Word) → SameWord n m v u → indent level ⧺ (codes "end " ⧺ (word_text n v ⧺ codes ";\n")) ≡ indent level ⧺ (codes "end " ⧺ (word_text m u ⧺ codes ";\n"))
  task_end_alike level v u same = behind (indent level) (behind (codes "end ") (before (codes ";\n") (word_alike v u same)))

  rest_alike : (level : ℕ) (x y : PTask) (es fs : List PEntry) (ps qs : List PPriority) → SameWord n m x.name y.name → AllZip (SameEntry n m) es fs → AllZip (SamePriority n m) ps qs → decl.task_rest n level x es ps ≡ decl.task_rest m level y fs qs
  rest_alike level x y [] [] [] [] name one two = refl
  rest_alike level x y (e ∷ es) (f ∷ fs) ps qs name one two = behind (codes " is\n") (beside (items_alike (deeper level) 0 (e ∷ es) (f ∷ fs) ps qs one two) (task_end_alike level x.name y.name name))
  rest_alike level x y [] [] (p ∷ ps) (q ∷ qs) name one two = behind (codes " is\n") (beside (items_alike (deeper level) 0 [] [] (p ∷ ps) (q ∷ qs) one two) (task_end_alike level x.name y.name name))
  rest_alike level x y [] [] [] (q ∷ qs) name one two = absurd two
  rest_alike level x y [] [] (p ∷ ps) [] name one two = absurd two
  rest_alike level x y [] (f ∷ fs) ps qs name one two = absurd one
  rest_alike level x y (e ∷ es) [] ps qs name one two = absurd one

  task_alike : (level : ℕ) (x y : PTask) → SameTask n m x y → decl.task_text n level x ≡ decl.task_text m level y
  task_alike level x y same = beside (ap decl.task_word same.1) (beside (word_alike x.name y.name same.0) (rest_alike level x y x.entries y.entries x.priorities y.priorities same.0 same.2 same.3))

  unit_alike : (level : ℕ) (b c : PBody) (v u : Word) → SameBody n m b c → SameWord n m v u → decl.unit_text n level b v ≡ decl.unit_text m level c u
  unit_alike level b c v u one two = behind (indent level) (beside (body_alike level b c one) (task_end_alike level v u two))

  mutual
    decl_alike : (level : ℕ) (x y : PDecl) → SameDecl n m x y → decl.decl_form_text n level x ≡ decl.decl_form_text m level y
    decl_alike level (DNumber v e s) (DNumber u f t) same = beside (word_alike v u same.0) (behind (codes " : constant := ") (before (codes ";\n") (expr_alike e f same.1)))
    decl_alike level (DObject vs c x i s) (DObject us d y j t) same =
        beside (words_alike vs us same.0) (behind (codes " : ") (beside (ap decl.constant_text same.1) (beside (shape_alike x y same.2) (before (codes ";\n") (value_alike i j same.3)))))
    decl_alike level (DEnumeration v vs s) (DEnumeration u us t) same = behind (codes "type ") (beside (word_alike v u same.0) (behind (codes " is (") (before (codes ");\n") (words_alike vs us same.1))))
    decl_alike level (DArray v r x s) (DArray u q y t) same = behind (codes "type ") (beside (word_alike v u same.0) (behind (codes " is ") (before (codes ";\n") (array_alike r q x y same.1 same.2))))
    decl_alike level (DSubtype v x s) (DSubtype u y t) same = behind (codes "subtype ") (beside (word_alike v u same.0) (behind (codes " is ") (before (codes ";\n") (subind_alike x y same.1))))
    decl_alike level (DException vs s) (DException us t) same = before (codes " : exception;\n") (words_alike vs us same)
    decl_alike level (DIntIo v s) (DIntIo u t) same =
        behind (codes "package ") (beside (word_alike v u same) (behind (codes " is new INTEGER_IO(INTEGER);\n") (behind (indent level) (behind (codes "use ") (before (codes ";\n") (word_alike v u same))))))
    decl_alike level (DPragma e s) (DPragma f t) same = pragma_alike e f same
    decl_alike level (DTask x s) (DTask y t) same = task_alike level x y same
    decl_alike level (DTaskBody v x b s) (DTaskBody u y c t) same =
        behind (codes "task body ") (beside (word_alike v u same.0) (behind (codes " is\n") (beside (decls_alike (deeper level) x y same.1) (unit_alike level b c v u same.2 same.0))))
    decl_alike level x y same = absurd same

    decls_alike : (level : ℕ) (x y : PDecls) → SameDecls n m x y → decl.decls_text n level x ≡ decl.decls_text m level y
    decls_alike level no_decl no_decl same = refl
    decls_alike level (decl_then x k) (decl_then y l) same = beside (behind (indent level) (decl_alike level x y same.0)) (decls_alike level k l same.1)
    decls_alike level no_decl (decl_then y l) same = absurd same
    decls_alike level (decl_then x k) no_decl same = absurd same

pub program_alike : (p q : PProgram) → Same p q → program_text p ≡ program_text q
program_alike p q same =
    beside (ap context_text same.0) (behind (codes "procedure ") (beside (word_alike p.names q.names p.name q.name same.1) (behind (codes " is\n") (beside (decls_alike p.names q.names 1 p.decls q.decls same.2) (unit_alike p.names q.names 0 p.body q.body p.name q.name same.3 same.1)))))
