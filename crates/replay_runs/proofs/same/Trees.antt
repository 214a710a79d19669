-- Two trees that are the same are one tree, where their ids go over to the ids of one table.
use Rattle.std.proofs.Common.{◌+◌, ◌∷◌, ◌≡◌, All, IfSome, List, None, Option, Some, [], ap, map, option_map, refl, rules, ℕ}
use Rattle.std.proofs.lemmas.List.Elements.{recursion_from_All}
use Rattle.std.specs.List.{AllByRecursion, AllZip}
use Rattle.ada_tree.specs.Every.{EveryAccept, EveryAlt, EveryAltKind, EveryAlts, EveryArgs, EveryArm, EveryArms, EveryBody, EveryBounds, EveryCall, EveryCallee, EveryCaseArm, EveryCaseArms, EveryChoice, EveryDecl, EveryDecls, EveryDrange, EveryEntry, EveryExpr, EveryExprs, EveryFormal, EveryHandler, EveryHandlers, EveryHead, EveryInit, EveryMaybe, EveryPart, EveryPriority, EveryProgram, EveryScheme, EveryShape, EverySome, EveryStmt, EveryStmts, EverySubind, EveryTarget, EveryTask, EveryWord, Rules}
use Rattle.ada_tree.specs.PlainDecl.{DArray, DEnumeration, DException, DIntIo, DNumber, DObject, DPragma, DSubtype, DTask, DTaskBody, IList, IOne, IOthers, OArray, OPlain, PDecl, PDecls, PEntry, PInit, PPriority, PShape, PTask, decl_then, no_decl}
use Rattle.ada_tree.specs.PlainExpr.{EAttribute, EAttributeOf, EBinary, EIndex, EInteger, EName, EParen, EUnary, PBounds, PDrange, PExpr, PSubind, RGiven, RMarked}
use Rattle.ada_tree.specs.PlainProgram.{PProgram}
use Rattle.ada_tree.specs.PlainStmt.{AAccept, ADelay, ATerminate, LFor, LWhile, PAccept, PAlt, PAltKind, PAlts, PArgs, PArm, PArms, PBody, PCall, PCallee, PCaseArm, PCaseArms, PChoice, PFormal, PHandler, PHandlers, PHead, PMaybe, PPart, PScheme, PStmt, PStmts, PTarget, PValue, PWords, SAbort, SAccept, SAssign, SBlock, SCall, SCase, SConditional, SDelay, SExit, SGet, SIf, SLoop, SNewLine, SNull, SPut, SPutLine, SRaise, STimed, SWait, absent, accepting, alt_then, alternative, arm, arm_then, body, case_arm, case_arm_then, handler, handler_then, no_alt, no_arm, no_case_arm, no_handler, no_stmt, present, stmt_then}
use Rattle.ada_tree.specs.Same.{Same, SameAccept, SameAlt, SameAltKind, SameAlts, SameArgs, SameArm, SameArms, SameBody, SameBounds, SameCall, SameCallee, SameCaseArm, SameCaseArms, SameChoice, SameDecl, SameDecls, SameDrange, SameEntry, SameExpr, SameFormal, SameHandler, SameHandlers, SameHead, SameInit, SameMaybe, SameName, SameOption, SamePart, SamePriority, SameScheme, SameShape, SameStmt, SameStmts, SameSubind, SameTarget, SameTask, SameWord}
use Rattle.ada_tree.specs.declared.naming.NameId.{NameId}
use Rattle.ada_tree.specs.declared.naming.Word.{Word}
use Rattle.replay_runs.specs.same.Renamed.{no_span, renamed_accept, renamed_alt, renamed_alt_kind, renamed_alts, renamed_args, renamed_arm, renamed_arms, renamed_body, renamed_bounds, renamed_call, renamed_callee, renamed_case_arm, renamed_case_arms, renamed_choice, renamed_decl, renamed_decls, renamed_drange, renamed_entry, renamed_expr, renamed_formal, renamed_handler, renamed_handlers, renamed_head, renamed_id, renamed_init, renamed_maybe, renamed_part, renamed_priority, renamed_program, renamed_scheme, renamed_shape, renamed_stmt, renamed_stmts, renamed_subind, renamed_target, renamed_task, renamed_word}

-- what two options come to, where both are left out or both are there
option_alike : {A B C : Type 0} (P : A → Type 0) (R : A → B → Type 0) (h : A → C) (h' : B → C) → ((a : A) (b : B) → P a → R a b → h a ≡ h' b) →
    (o : Option A) (o' : Option B) → IfSome o P → SameOption R o o' → option_map h o ≡ option_map h' o'
option_alike P R h h' each None None e s = refl
option_alike P R h h' each (Some a) (Some b) e s = ap Some (each a b e s)
option_alike P R h h' each o o' e s = absurd s

-- what two lists come to that are the same one by one
list_alike : {A B C : Type 0} (P : A → Type 0) (R : A → B → Type 0) (h : A → C) (h' : B → C) → ((a : A) (b : B) → P a → R a b → h a ≡ h' b) →
    (xs : List A) (ys : List B) → AllByRecursion P xs → AllZip R xs ys → map h xs ≡ map h' ys
list_alike P R h h' each [] [] e s = refl
list_alike P R h h' each (x ∷ xs) (y ∷ ys) e s = λ i. each x y e.0 s.0 i ∷ list_alike P R h h' each xs ys e.1 s.1 i
list_alike P R h h' each xs ys e s = absurd s

all_alike : {A B C : Type 0} (P : A → Type 0) (R : A → B → Type 0) (h : A → C) (h' : B → C) → ((a : A) (b : B) → P a → R a b → h a ≡ h' b) →
    (xs : List A) (ys : List B) → All P xs → AllZip R xs ys → map h xs ≡ map h' ys
all_alike P R h h' each xs ys e s = list_alike P R h h' each xs ys (recursion_from_All P xs e) s

-- the names of the two programs, and where their ids go
module _ (n m : List (List ℕ)) (f g : ℕ → ℕ) (rules : Rules) (known : (a b : NameId) → rules.name a → SameName n m a b → f a.0 ≡ g b.0) where
  id_same : (a b : NameId) → rules.name a → SameName n m a b → renamed_id f a ≡ renamed_id g b
  id_same a b h s = λ i. record { 0 = known a b h s i }

  word_same : (w v : Word) → EveryWord rules w → SameWord n m w v → renamed_word f w ≡ renamed_word g v
  word_same w v h s = λ i. record { name = id_same w.name v.name h s i; span = no_span }

  words_same : (ws vs : List Word) → All (EveryWord rules) ws → AllZip (SameWord n m) ws vs → map (renamed_word f) ws ≡ map (renamed_word g) vs
  words_same ws vs h s = all_alike (EveryWord rules) (SameWord n m) (renamed_word f) (renamed_word g) word_same ws vs h s

  maybe_word_same : (o p : Option Word) → IfSome o (EveryWord rules) → SameOption (SameWord n m) o p → option_map (renamed_word f) o ≡ option_map (renamed_word g) p
  maybe_word_same o p h s = option_alike (EveryWord rules) (SameWord n m) (renamed_word f) (renamed_word g) word_same o p h s

  expr_same : (k : ℕ) (x y : PExpr) → EveryExpr rules k x → SameExpr n m x y → renamed_expr f x ≡ renamed_expr g y
  expr_same k (EInteger a sa) (EInteger b sb) h s = λ i. EInteger (s i) no_span
  expr_same k (EName a sa) (EName b sb) h s = λ i. EName (id_same a b h.1 s i) no_span
  expr_same k (EIndex w e sa) (EIndex v d sb) h s = λ i. EIndex (word_same w v h.1 s.0 i) (expr_same (k + 1) e d h.2 s.1 i) no_span
  expr_same k (EAttribute l w sa) (EAttribute j v sb) h s = λ i. EAttribute (word_same l j h.1 s.0 i) (word_same w v h.2 s.1 i) no_span
  expr_same k (EAttributeOf l w e sa) (EAttributeOf j v d sb) h s = λ i. EAttributeOf (word_same l j h.1 s.0 i) (word_same w v h.2 s.1 i) (expr_same (k + 1) e d h.3 s.2 i) no_span
  expr_same k (EParen e sa) (EParen d sb) h s = λ i. EParen (expr_same (k + 1) e d h.1 s i) no_span
  expr_same k (EUnary op e sa) (EUnary oq d sb) h s = λ i. EUnary (s.0 i) (expr_same (k + 1) e d h.2 s.1 i) no_span
  expr_same k (EBinary op l r sa) (EBinary oq c d sb) h s = λ i. EBinary (s.0 i) (expr_same (k + 1) l c h.2 s.1 i) (expr_same (k + 1) r d h.3 s.2 i) no_span
  expr_same k x y h s = absurd s

  index_same : (k : ℕ) (o p : Option PExpr) → IfSome o (EveryExpr rules k) → SameOption (SameExpr n m) o p → option_map (renamed_expr f) o ≡ option_map (renamed_expr g) p
  index_same k o p h s = option_alike (EveryExpr rules k) (SameExpr n m) (renamed_expr f) (renamed_expr g) (expr_same k) o p h s

  exprs_same : (k : ℕ) (xs ys : List PExpr) → All (EveryExpr rules k) xs → AllZip (SameExpr n m) xs ys → map (renamed_expr f) xs ≡ map (renamed_expr g) ys
  exprs_same k xs ys h s = all_alike (EveryExpr rules k) (SameExpr n m) (renamed_expr f) (renamed_expr g) (expr_same k) xs ys h s

  bounds_same : (k : ℕ) (x y : PBounds) → EveryBounds rules k x → SameBounds n m x y → renamed_bounds f x ≡ renamed_bounds g y
  bounds_same k x y h s = λ i. record { first = expr_same k x.first y.first h.1 s.0 i; last = expr_same k x.last y.last h.2 s.1 i }

  maybe_bounds_same : (k : ℕ) (o p : Option PBounds) → IfSome o (EveryBounds rules k) → SameOption (SameBounds n m) o p → option_map (renamed_bounds f) o ≡ option_map (renamed_bounds g) p
  maybe_bounds_same k o p h s = option_alike (EveryBounds rules k) (SameBounds n m) (renamed_bounds f) (renamed_bounds g) (bounds_same k) o p h s

  subind_same : (k : ℕ) (x y : PSubind) → EverySubind rules k x → SameSubind n m x y → renamed_subind f x ≡ renamed_subind g y
  subind_same k x y h s = λ i. record { mark = word_same x.mark y.mark h.0 s.0 i; bounds = maybe_bounds_same k x.bounds y.bounds h.1 s.1 i }

  drange_same : (k : ℕ) (x y : PDrange) → EveryDrange rules k x → SameDrange n m x y → renamed_drange f x ≡ renamed_drange g y
  drange_same k (RGiven a) (RGiven b) h s = ap RGiven (bounds_same k a b h s)
  drange_same k (RMarked a) (RMarked b) h s = ap RMarked (subind_same k a b h s)
  drange_same k x y h s = absurd s

  target_same : (k : ℕ) (x y : PTarget) → EveryTarget rules k x → SameTarget n m x y → renamed_target f x ≡ renamed_target g y
  target_same k x y h s = λ i. record { name = word_same x.name y.name h.0 s.0 i; index = index_same k x.index y.index h.1 s.1 i }

  callee_same : (k : ℕ) (x y : PCallee) → EveryCallee rules k x → SameCallee n m x y → renamed_callee f x ≡ renamed_callee g y
  callee_same k x y h s = λ i. record { name = word_same x.name y.name h.0 s.0 i; index = index_same k x.index y.index h.1 s.1 i }

  lists_same : (k : ℕ) (xs ys : List PExpr) → EveryExprs rules k xs → AllZip (SameExpr n m) xs ys → map (renamed_expr f) xs ≡ map (renamed_expr g) ys
  lists_same k xs ys h s = exprs_same k xs ys h.1 s

  args_same : (k : ℕ) (x y : PArgs) → EveryArgs rules k x → SameArgs n m x y → renamed_args f x ≡ renamed_args g y
  args_same k x y h s = λ i. record {
    first = lists_same k x.first y.first h.0 s.0 i;
    second = option_alike (EveryExprs rules k) (AllZip (SameExpr n m)) (map (renamed_expr f)) (map (renamed_expr g)) (lists_same k) x.second y.second h.1 s.1 i;
  }

  maybe_args_same : (k : ℕ) (o p : Option PArgs) → IfSome o (EveryArgs rules k) → SameOption (SameArgs n m) o p → option_map (renamed_args f) o ≡ option_map (renamed_args g) p
  maybe_args_same k o p h s = option_alike (EveryArgs rules k) (SameArgs n m) (renamed_args f) (renamed_args g) (args_same k) o p h s

  call_same : (k : ℕ) (x y : PCall) → EveryCall rules k x → SameCall n m x y → renamed_call f x ≡ renamed_call g y
  call_same k x y h s = λ i. record { task = callee_same k x.task y.task h.0 s.0 i; entry = word_same x.entry y.entry h.1 s.1 i; args = maybe_args_same k x.args y.args h.2 s.2 i }

  formal_same : (x y : PFormal) → EveryFormal rules x → SameFormal n m x y → renamed_formal f x ≡ renamed_formal g y
  formal_same x y h s = λ i. record { names = words_same x.names y.names h.0.1 s.0 i; mode = s.1 i; mark = word_same x.mark y.mark h.1 s.2 i }

  formals_same : (xs ys : List PFormal) → All (EveryFormal rules) xs → AllZip (SameFormal n m) xs ys → map (renamed_formal f) xs ≡ map (renamed_formal g) ys
  formals_same xs ys h s = all_alike (EveryFormal rules) (SameFormal n m) (renamed_formal f) (renamed_formal g) formal_same xs ys h s

  part_same : (k : ℕ) (x y : PPart) → EveryPart rules k x → SamePart n m x y → renamed_part f x ≡ renamed_part g y
  part_same k (PWords a sa) (PWords b sb) h s = λ i. PWords (s i) no_span
  part_same k (PValue a) (PValue b) h s = ap PValue (expr_same k a b h s)
  part_same k x y h s = absurd s

  parts_same : (k : ℕ) (xs ys : List PPart) → All (EveryPart rules k) xs → AllZip (SamePart n m) xs ys → map (renamed_part f) xs ≡ map (renamed_part g) ys
  parts_same k xs ys h s = all_alike (EveryPart rules k) (SamePart n m) (renamed_part f) (renamed_part g) (part_same k) xs ys h s

  last_same : (k : ℕ) (first : PExpr) (o p : Option PExpr) → IfSome o (λ l. rules.bounds first l × EveryExpr rules k l) → SameOption (SameExpr n m) o p →
      option_map (renamed_expr f) o ≡ option_map (renamed_expr g) p
  last_same k first o p h s = option_alike (λ l. rules.bounds first l × EveryExpr rules k l) (SameExpr n m) (renamed_expr f) (renamed_expr g) (λ a b e r. expr_same k a b e.1 r) o p h s

  choice_same : (k : ℕ) (x y : PChoice) → EveryChoice rules k x → SameChoice n m x y → renamed_choice f x ≡ renamed_choice g y
  choice_same k x y h s = λ i. record { first = expr_same k x.first y.first h.0 s.0 i; last = last_same k x.first x.last y.last h.1 s.1 i }

  choices_same : (k : ℕ) (xs ys : List PChoice) → All (EveryChoice rules k) xs → AllZip (SameChoice n m) xs ys → map (renamed_choice f) xs ≡ map (renamed_choice g) ys
  choices_same k xs ys h s = all_alike (EveryChoice rules k) (SameChoice n m) (renamed_choice f) (renamed_choice g) (choice_same k) xs ys h s

  scheme_same : (k : ℕ) (x y : PScheme) → EveryScheme rules k x → SameScheme n m x y → renamed_scheme f x ≡ renamed_scheme g y
  scheme_same k (LWhile a) (LWhile b) h s = ap LWhile (expr_same k a b h s)
  scheme_same k (LFor w r a) (LFor v q b) h s = λ i. LFor (word_same w v h.0 s.0 i) (s.1 i) (drange_same k a b h.1 s.2 i)
  scheme_same k x y h s = absurd s

  maybe_scheme_same : (k : ℕ) (o p : Option PScheme) → IfSome o (EveryScheme rules k) → SameOption (SameScheme n m) o p → option_map (renamed_scheme f) o ≡ option_map (renamed_scheme g) p
  maybe_scheme_same k o p h s = option_alike (EveryScheme rules k) (SameScheme n m) (renamed_scheme f) (renamed_scheme g) (scheme_same k) o p h s

  head_same : (k : ℕ) (x y : PHead) → EveryHead rules k x → SameHead n m x y → renamed_head f x ≡ renamed_head g y
  head_same k x y h s = λ i. record {
    entry = word_same x.entry y.entry h.0 s.0 i;
    index = index_same (k + 1) x.index y.index h.1 s.1 i;
    formals = formals_same x.formals y.formals h.2 s.2 i;
    span = no_span;
  }

  callees_same : (k : ℕ) (xs ys : List PCallee) → All (EveryCallee rules k) xs → AllZip (SameCallee n m) xs ys → map (renamed_callee f) xs ≡ map (renamed_callee g) ys
  callees_same k xs ys h s = all_alike (EveryCallee rules k) (SameCallee n m) (renamed_callee f) (renamed_callee g) (callee_same k) xs ys h s

  mutual
    stmt_same : (k : ℕ) (x y : PStmt) → EveryStmt rules k x → SameStmt n m x y → renamed_stmt f x ≡ renamed_stmt g y
    stmt_same k (SNull sa) (SNull sb) h s = refl
    stmt_same k (SAssign a e sa) (SAssign b d sb) h s = λ i. SAssign (target_same (k + 1) a b h.1 s.0 i) (expr_same (k + 1) e d h.2 s.1 i) no_span
    stmt_same k (SDelay c sa) (SDelay d sb) h s = λ i. SDelay (s i) no_span
    stmt_same k (SExit w e sa) (SExit v d sb) h s = λ i. SExit (maybe_word_same w v h.1 s.0 i) (index_same (k + 1) e d h.2 s.1 i) no_span
    stmt_same k (SRaise w sa) (SRaise v sb) h s = λ i. SRaise (maybe_word_same w v h.1 s i) no_span
    stmt_same k (SAbort a sa) (SAbort b sb) h s = λ i. SAbort (callees_same (k + 1) a b h.2 s i) no_span
    stmt_same k (SCall a sa) (SCall b sb) h s = λ i. SCall (call_same (k + 1) a b h.1 s i) no_span
    stmt_same k (SAccept a sa) (SAccept b sb) h s = λ i. SAccept (accept_same k a b h s i) no_span
    stmt_same k (SWait a o sa) (SWait b p sb) h s = λ i. SWait (alts_same (k + 1) a b h.2 s.0 i) (maybe_same (k + 1) o p h.3 s.1 i) no_span
    stmt_same k (SConditional a l o sa) (SConditional b j p sb) h s = λ i. SConditional (call_same (k + 2) a b h.2 s.0 i) (stmts_same (k + 1) l j h.3 s.1 i) (some_same (k + 1) o p h.4 s.2 i) no_span
    stmt_same k (STimed a l c o sa) (STimed b j d p sb) h s = λ i. STimed (call_same (k + 2) a b h.2 s.0 i) (stmts_same (k + 1) l j h.3 s.1 i) (s.2 i) (stmts_same (k + 1) o p h.5 s.3 i) no_span
    stmt_same k (SPut a sa) (SPut b sb) h s = λ i. SPut (parts_same (k + 1) a b h.1.1 s i) no_span
    stmt_same k (SPutLine a sa) (SPutLine b sb) h s = λ i. SPutLine (parts_same (k + 1) a b h.1.1 s i) no_span
    stmt_same k (SNewLine sa) (SNewLine sb) h s = refl
    stmt_same k (SGet a sa) (SGet b sb) h s = λ i. SGet (target_same (k + 1) a b h.1 s i) no_span
    stmt_same k (SIf a o sa) (SIf b p sb) h s = λ i. SIf (arms_same (k + 1) a b h.2 s.0 i) (maybe_same (k + 1) o p h.3 s.1 i) no_span
    stmt_same k (SCase e a o sa) (SCase d b p sb) h s = λ i. SCase (expr_same (k + 1) e d h.1 s.0 i) (case_arms_same (k + 1) a b h.2 s.1 i) (maybe_same (k + 1) o p h.3 s.2 i) no_span
    stmt_same k (SBlock a sa) (SBlock b sb) h s = λ i. SBlock (body_same (k + 1) a b h.1 s i) no_span
    stmt_same k (SLoop w c l sa) (SLoop v d j sb) h s = λ i. SLoop (maybe_word_same w v h.1 s.0 i) (maybe_scheme_same (k + 1) c d h.2 s.1 i) (some_same (k + 1) l j h.3 s.2 i) no_span
    stmt_same k x y h s = absurd s

    stmts_same : (k : ℕ) (x y : PStmts) → EveryStmts rules k x → SameStmts n m x y → renamed_stmts f x ≡ renamed_stmts g y
    stmts_same k no_stmt no_stmt h s = refl
    stmts_same k (stmt_then a l) (stmt_then b j) h s = λ i. stmt_then (stmt_same k a b h.0 s.0 i) (stmts_same k l j h.1 s.1 i)
    stmts_same k x y h s = absurd s

    some_same : (k : ℕ) (x y : PStmts) → EverySome rules k x → SameStmts n m x y → renamed_stmts f x ≡ renamed_stmts g y
    some_same k no_stmt no_stmt h s = refl
    some_same k (stmt_then a l) (stmt_then b j) h s = λ i. stmt_then (stmt_same k a b h.1 s.0 i) (stmts_same k l j h.2 s.1 i)
    some_same k x y h s = absurd s

    maybe_same : (k : ℕ) (x y : PMaybe) → EveryMaybe rules k x → SameMaybe n m x y → renamed_maybe f x ≡ renamed_maybe g y
    maybe_same k absent absent h s = refl
    maybe_same k (present l) (present j) h s = ap present (some_same k l j h s)
    maybe_same k x y h s = absurd s

    accept_same : (k : ℕ) (x y : PAccept) → EveryAccept rules k x → SameAccept n m x y → renamed_accept f x ≡ renamed_accept g y
    accept_same k (accepting a o) (accepting b p) h s = λ i. accepting (head_same k a b h.1 s.0 i) (maybe_same (k + 1) o p h.2 s.1 i)

    alt_same : (k : ℕ) (x y : PAlt) → EveryAlt rules k x → SameAlt n m x y → renamed_alt f x ≡ renamed_alt g y
    alt_same k (alternative a l sa) (alternative b j sb) h s = λ i. alternative (index_same (k + 1) a b h.1 s.0 i) (alt_kind_same (k + 1) l j h.2 s.1 i) no_span

    alt_kind_same : (k : ℕ) (x y : PAltKind) → EveryAltKind rules k x → SameAltKind n m x y → renamed_alt_kind f x ≡ renamed_alt_kind g y
    alt_kind_same k (AAccept a l) (AAccept b j) h s = λ i. AAccept (accept_same k a b h.0 s.0 i) (stmts_same k l j h.1 s.1 i)
    alt_kind_same k (ADelay c l) (ADelay d j) h s = λ i. ADelay (s.0 i) (stmts_same k l j h.2 s.1 i)
    alt_kind_same k ATerminate ATerminate h s = refl
    alt_kind_same k x y h s = absurd s

    alts_same : (k : ℕ) (x y : PAlts) → EveryAlts rules k x → SameAlts n m x y → renamed_alts f x ≡ renamed_alts g y
    alts_same k no_alt no_alt h s = refl
    alts_same k (alt_then a l) (alt_then b j) h s = λ i. alt_then (alt_same k a b h.0 s.0 i) (alts_same k l j h.1 s.1 i)
    alts_same k x y h s = absurd s

    arm_same : (k : ℕ) (x y : PArm) → EveryArm rules k x → SameArm n m x y → renamed_arm f x ≡ renamed_arm g y
    arm_same k (arm e l) (arm d j) h s = λ i. arm (expr_same k e d h.0 s.0 i) (some_same k l j h.1 s.1 i)

    arms_same : (k : ℕ) (x y : PArms) → EveryArms rules k x → SameArms n m x y → renamed_arms f x ≡ renamed_arms g y
    arms_same k no_arm no_arm h s = refl
    arms_same k (arm_then a l) (arm_then b j) h s = λ i. arm_then (arm_same k a b h.0 s.0 i) (arms_same k l j h.1 s.1 i)
    arms_same k x y h s = absurd s

    case_arm_same : (k : ℕ) (x y : PCaseArm) → EveryCaseArm rules k x → SameCaseArm n m x y → renamed_case_arm f x ≡ renamed_case_arm g y
    case_arm_same k (case_arm a l) (case_arm b j) h s = λ i. case_arm (choices_same k a b h.1 s.0 i) (some_same k l j h.2 s.1 i)

    case_arms_same : (k : ℕ) (x y : PCaseArms) → EveryCaseArms rules k x → SameCaseArms n m x y → renamed_case_arms f x ≡ renamed_case_arms g y
    case_arms_same k no_case_arm no_case_arm h s = refl
    case_arms_same k (case_arm_then a l) (case_arm_then b j) h s = λ i. case_arm_then (case_arm_same k a b h.0 s.0 i) (case_arms_same k l j h.1 s.1 i)
    case_arms_same k x y h s = absurd s

    pub body_same : (k : ℕ) (x y : PBody) → EveryBody rules k x → SameBody n m x y → renamed_body f x ≡ renamed_body g y
    body_same k (body l a) (body j b) h s = λ i. body (some_same k l j h.0 s.0 i) (handlers_same k a b h.2 s.1 i)

    handler_same : (k : ℕ) (x y : PHandler) → EveryHandler rules k x → SameHandler n m x y → renamed_handler f x ≡ renamed_handler g y
    handler_same k (handler w l sa) (handler v j sb) h s = λ i. handler (words_same w v h.1 s.0 i) (some_same (k + 1) l j h.2 s.1 i) no_span

    handlers_same : (k : ℕ) (x y : PHandlers) → EveryHandlers rules k x → SameHandlers n m x y → renamed_handlers f x ≡ renamed_handlers g y
    handlers_same k no_handler no_handler h s = refl
    handlers_same k (handler_then a l) (handler_then b j) h s = λ i. handler_then (handler_same k a b h.0 s.0 i) (handlers_same k l j h.1 s.1 i)
    handlers_same k x y h s = absurd s

  shape_same : (x y : PShape) → EveryShape rules x → SameShape n m x y → renamed_shape f x ≡ renamed_shape g y
  shape_same (OPlain a) (OPlain b) h s = ap OPlain (subind_same 2 a b h s)
  shape_same (OArray r a) (OArray q b) h s = λ i. OArray (drange_same 2 r q h.0 s.0 i) (subind_same 2 a b h.1 s.1 i)
  shape_same x y h s = absurd s

  init_same : (x y : PInit) → EveryInit rules x → SameInit n m x y → renamed_init f x ≡ renamed_init g y
  init_same (IOne a) (IOne b) h s = ap IOne (expr_same 2 a b h s)
  init_same (IList a sa) (IList b sb) h s = λ i. IList (exprs_same 2 a b h.1 s i) no_span
  init_same (IOthers a sa) (IOthers b sb) h s = λ i. IOthers (expr_same 2 a b h s i) no_span
  init_same x y h s = absurd s

  maybe_init_same : (o p : Option PInit) → IfSome o (EveryInit rules) → SameOption (SameInit n m) o p → option_map (renamed_init f) o ≡ option_map (renamed_init g) p
  maybe_init_same o p h s = option_alike (EveryInit rules) (SameInit n m) (renamed_init f) (renamed_init g) init_same o p h s

  family_same : (o p : Option PDrange) → IfSome o (EveryDrange rules 2) → SameOption (SameDrange n m) o p → option_map (renamed_drange f) o ≡ option_map (renamed_drange g) p
  family_same o p h s = option_alike (EveryDrange rules 2) (SameDrange n m) (renamed_drange f) (renamed_drange g) (drange_same 2) o p h s

  priority_same : (x y : PPriority) → EveryPriority rules x → SamePriority n m x y → renamed_priority f x ≡ renamed_priority g y
  priority_same x y h s = λ i. record { place = s.0 i; value = expr_same 2 x.value y.value h.1 s.1 i }

  priorities_same : (xs ys : List PPriority) → All (EveryPriority rules) xs → AllZip (SamePriority n m) xs ys → map (renamed_priority f) xs ≡ map (renamed_priority g) ys
  priorities_same xs ys h s = all_alike (EveryPriority rules) (SamePriority n m) (renamed_priority f) (renamed_priority g) priority_same xs ys h s

  entry_same : (x y : PEntry) → EveryEntry rules x → SameEntry n m x y → renamed_entry f x ≡ renamed_entry g y
  entry_same x y h s = λ i. record { name = word_same x.name y.name h.1 s.0 i; family = family_same x.family y.family h.2 s.1 i; formals = formals_same x.formals y.formals h.3 s.2 i; span = no_span }

  entries_same : (xs ys : List PEntry) → All (EveryEntry rules) xs → AllZip (SameEntry n m) xs ys → map (renamed_entry f) xs ≡ map (renamed_entry g) ys
  entries_same xs ys h s = all_alike (EveryEntry rules) (SameEntry n m) (renamed_entry f) (renamed_entry g) entry_same xs ys h s

  task_same : (x y : PTask) → EveryTask rules x → SameTask n m x y → renamed_task f x ≡ renamed_task g y
  task_same x y h s = λ i. record { name = word_same x.name y.name h.0 s.0 i; of_kind = s.1 i; entries = entries_same x.entries y.entries h.1 s.2 i; priorities = priorities_same x.priorities y.priorities h.2 s.3 i }

  mutual
    decl_same : (x y : PDecl) → EveryDecl rules x → SameDecl n m x y → renamed_decl f x ≡ renamed_decl g y
    decl_same (DNumber w e sa) (DNumber v d sb) h s = λ i. DNumber (word_same w v h.1 s.0 i) (expr_same 2 e d h.2 s.1 i) no_span
    decl_same (DObject w c a o sa) (DObject v d b p sb) h s = λ i. DObject (words_same w v h.1.1 s.0 i) (s.1 i) (shape_same a b h.2 s.2 i) (maybe_init_same o p h.4 s.3 i) no_span
    decl_same (DEnumeration w a sa) (DEnumeration v b sb) h s = λ i. DEnumeration (word_same w v h.1 s.0 i) (words_same a b h.2.1 s.1 i) no_span
    decl_same (DArray w r a sa) (DArray v q b sb) h s = λ i. DArray (word_same w v h.1 s.0 i) (drange_same 2 r q h.2 s.1 i) (subind_same 2 a b h.3 s.2 i) no_span
    decl_same (DSubtype w a sa) (DSubtype v b sb) h s = λ i. DSubtype (word_same w v h.1 s.0 i) (subind_same 2 a b h.2 s.1 i) no_span
    decl_same (DException w sa) (DException v sb) h s = λ i. DException (words_same w v h.1.1 s i) no_span
    decl_same (DIntIo w sa) (DIntIo v sb) h s = λ i. DIntIo (word_same w v h.1 s i) no_span
    decl_same (DPragma e sa) (DPragma d sb) h s = λ i. DPragma (expr_same 2 e d h.1 s i) no_span
    decl_same (DTask a sa) (DTask b sb) h s = λ i. DTask (task_same a b h.1 s i) no_span
    decl_same (DTaskBody w a c sa) (DTaskBody v b d sb) h s = λ i. DTaskBody (word_same w v h.1 s.0 i) (decls_same a b h.3 s.1 i) (body_same 1 c d h.4 s.2 i) no_span
    decl_same x y h s = absurd s

    decls_same : (x y : PDecls) → EveryDecls rules x → SameDecls n m x y → renamed_decls f x ≡ renamed_decls g y
    decls_same no_decl no_decl h s = refl
    decls_same (decl_then a l) (decl_then b j) h s = λ i. decl_then (decl_same a b h.0 s.0 i) (decls_same l j h.1 s.1 i)
    decls_same x y h s = absurd s

-- two programs that are the same are one, with the ids and names of one table
pub program_same : (p q : PProgram) (f g : ℕ → ℕ) (names : List (List ℕ)) (rules : Rules) → ((a b : NameId) → rules.name a → SameName p.names q.names a b → f a.0 ≡ g b.0) →
    EveryProgram rules p → Same p q → renamed_program f names p ≡ renamed_program g names q
program_same p q f g names rules known h s = λ i. record {
  names = names;
  text_io = s.0 i;
  name = word_same p.names q.names f g rules known p.name q.name h.0 s.1 i;
  decls = decls_same p.names q.names f g rules known p.decls q.decls h.2 s.2 i;
  body = body_same p.names q.names f g rules known 1 p.body q.body h.3 s.3 i;
}
