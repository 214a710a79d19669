-- A tree with other ids in the place of its own, and without places in the text: what is left of a tree where names are told by other numbers. It serves
-- to compare two trees that are the same (`Same`): with the ids of one table both are one tree.
use Rattle.std.specs.Prelude.{◌<◌, ◌==◌, ◌≡◌, List, map, option_map, slice_get, ℕ}
use Rattle.ada_tree.specs.PlainDecl.{DArray, DEnumeration, DException, DIntIo, DNumber, DObject, DPragma, DSubtype, DTask, DTaskBody, IList, IOne, IOthers, OArray, OPlain, PDecl, PDecls, PEntry, PInit, PPriority, PShape, PTask, decl_then, no_decl}
use Rattle.ada_tree.specs.PlainExpr.{EAttribute, EAttributeOf, EBinary, EIndex, EInteger, EName, EParen, EUnary, PBounds, PDrange, PExpr, PSubind, RGiven, RMarked}
use Rattle.ada_tree.specs.PlainProgram.{PProgram}
use Rattle.ada_tree.specs.PlainStmt.{AAccept, ADelay, ATerminate, LFor, LWhile, PAccept, PAlt, PAltKind, PAlts, PArgs, PArm, PArms, PBody, PCall, PCallee, PCaseArm, PCaseArms, PChoice, PFormal, PHandler, PHandlers, PHead, PMaybe, PPart, PScheme, PStmt, PStmts, PTarget, PValue, PWords, SAbort, SAccept, SAssign, SBlock, SCall, SCase, SConditional, SDelay, SExit, SGet, SIf, SLoop, SNewLine, SNull, SPut, SPutLine, SRaise, STimed, SWait, absent, accepting, alt_then, alternative, arm, arm_then, body, case_arm, case_arm_then, handler, handler_then, no_alt, no_arm, no_case_arm, no_handler, no_stmt, present, stmt_then}
use Rattle.ada_tree.specs.TypeTable.{TypeTable}
use Rattle.ada_tree.specs.declared.naming.NameId.{NameId}
use Rattle.ada_tree.specs.declared.naming.Span.{Span}
use Rattle.ada_tree.specs.declared.naming.Word.{Word}
use Rattle.ada_tree.specs.declared.static_types.Constant.{Constant}
use Rattle.ada_tree.specs.declared.static_types.Kind.{Kind}
use Rattle.ada_tree.specs.declared.static_types.Mark.{Mark}
use Rattle.ada_tree.specs.declared.static_types.Kind.TheVariants as kind

-- no place in the text
abbrev pub no_span : Span
no_span = record { start = 0; end = 0 }

module _ (f : ℕ → ℕ) where
  abbrev pub renamed_id : NameId → NameId
  renamed_id a = record { 0 = f a.0 }

  abbrev pub renamed_word : Word → Word
  renamed_word w = record { name = renamed_id w.name; span = no_span }

  abbrev pub renamed_expr : PExpr → PExpr
  renamed_expr (EInteger n s) = EInteger n no_span
  renamed_expr (EName a s) = EName (renamed_id a) no_span
  renamed_expr (EIndex w e s) = EIndex (renamed_word w) (renamed_expr e) no_span
  renamed_expr (EAttribute m w s) = EAttribute (renamed_word m) (renamed_word w) no_span
  renamed_expr (EAttributeOf m w e s) = EAttributeOf (renamed_word m) (renamed_word w) (renamed_expr e) no_span
  renamed_expr (EParen e s) = EParen (renamed_expr e) no_span
  renamed_expr (EUnary op e s) = EUnary op (renamed_expr e) no_span
  renamed_expr (EBinary op l r s) = EBinary op (renamed_expr l) (renamed_expr r) no_span

  abbrev pub renamed_bounds : PBounds → PBounds
  renamed_bounds b = record { first = renamed_expr b.first; last = renamed_expr b.last }

  abbrev pub renamed_subind : PSubind → PSubind
  renamed_subind x = record { mark = renamed_word x.mark; bounds = option_map renamed_bounds x.bounds }

  abbrev pub renamed_drange : PDrange → PDrange
  renamed_drange (RGiven b) = RGiven (renamed_bounds b)
  renamed_drange (RMarked x) = RMarked (renamed_subind x)

  abbrev pub renamed_target : PTarget → PTarget
  renamed_target x = record { name = renamed_word x.name; index = option_map renamed_expr x.index }

  abbrev pub renamed_callee : PCallee → PCallee
  renamed_callee x = record { name = renamed_word x.name; index = option_map renamed_expr x.index }

  abbrev pub renamed_args : PArgs → PArgs
  renamed_args x = record { first = map renamed_expr x.first; second = option_map (map renamed_expr) x.second }

  abbrev pub renamed_call : PCall → PCall
  renamed_call x = record { task = renamed_callee x.task; entry = renamed_word x.entry; args = option_map renamed_args x.args }

  abbrev pub renamed_formal : PFormal → PFormal
  renamed_formal x = record { names = map renamed_word x.names; mode = x.mode; mark = renamed_word x.mark }

  abbrev pub renamed_part : PPart → PPart
  renamed_part (PWords t s) = PWords t no_span
  renamed_part (PValue e) = PValue (renamed_expr e)

  abbrev pub renamed_choice : PChoice → PChoice
  renamed_choice x = record { first = renamed_expr x.first; last = option_map renamed_expr x.last }

  abbrev pub renamed_scheme : PScheme → PScheme
  renamed_scheme (LWhile e) = LWhile (renamed_expr e)
  renamed_scheme (LFor w r x) = LFor (renamed_word w) r (renamed_drange x)

  abbrev pub renamed_head : PHead → PHead
  renamed_head x = record { entry = renamed_word x.entry; index = option_map renamed_expr x.index; formals = map renamed_formal x.formals; span = no_span }

  abbrev mutual
    pub renamed_stmt : PStmt → PStmt
    renamed_stmt (SNull s) = SNull no_span
    renamed_stmt (SAssign x e s) = SAssign (renamed_target x) (renamed_expr e) no_span
    renamed_stmt (SDelay d s) = SDelay d no_span
    renamed_stmt (SExit w e s) = SExit (option_map renamed_word w) (option_map renamed_expr e) no_span
    renamed_stmt (SRaise w s) = SRaise (option_map renamed_word w) no_span
    renamed_stmt (SAbort cs s) = SAbort (map renamed_callee cs) no_span
    renamed_stmt (SCall c s) = SCall (renamed_call c) no_span
    renamed_stmt (SAccept a s) = SAccept (renamed_accept a) no_span
    renamed_stmt (SWait x o s) = SWait (renamed_alts x) (renamed_maybe o) no_span
    renamed_stmt (SConditional c k o s) = SConditional (renamed_call c) (renamed_stmts k) (renamed_stmts o) no_span
    renamed_stmt (STimed c k d o s) = STimed (renamed_call c) (renamed_stmts k) d (renamed_stmts o) no_span
    renamed_stmt (SPut ps s) = SPut (map renamed_part ps) no_span
    renamed_stmt (SPutLine ps s) = SPutLine (map renamed_part ps) no_span
    renamed_stmt (SNewLine s) = SNewLine no_span
    renamed_stmt (SGet x s) = SGet (renamed_target x) no_span
    renamed_stmt (SIf x o s) = SIf (renamed_arms x) (renamed_maybe o) no_span
    renamed_stmt (SCase e x o s) = SCase (renamed_expr e) (renamed_case_arms x) (renamed_maybe o) no_span
    renamed_stmt (SBlock b s) = SBlock (renamed_body b) no_span
    renamed_stmt (SLoop w c k s) = SLoop (option_map renamed_word w) (option_map renamed_scheme c) (renamed_stmts k) no_span

    pub renamed_stmts : PStmts → PStmts
    renamed_stmts no_stmt = no_stmt
    renamed_stmts (stmt_then x k) = stmt_then (renamed_stmt x) (renamed_stmts k)

    pub renamed_maybe : PMaybe → PMaybe
    renamed_maybe absent = absent
    renamed_maybe (present k) = present (renamed_stmts k)

    pub renamed_accept : PAccept → PAccept
    renamed_accept (accepting h o) = accepting (renamed_head h) (renamed_maybe o)

    pub renamed_alt : PAlt → PAlt
    renamed_alt (alternative g k s) = alternative (option_map renamed_expr g) (renamed_alt_kind k) no_span

    pub renamed_alt_kind : PAltKind → PAltKind
    renamed_alt_kind (AAccept a k) = AAccept (renamed_accept a) (renamed_stmts k)
    renamed_alt_kind (ADelay d k) = ADelay d (renamed_stmts k)
    renamed_alt_kind ATerminate = ATerminate

    pub renamed_alts : PAlts → PAlts
    renamed_alts no_alt = no_alt
    renamed_alts (alt_then x k) = alt_then (renamed_alt x) (renamed_alts k)

    pub renamed_arm : PArm → PArm
    renamed_arm (arm e k) = arm (renamed_expr e) (renamed_stmts k)

    pub renamed_arms : PArms → PArms
    renamed_arms no_arm = no_arm
    renamed_arms (arm_then x k) = arm_then (renamed_arm x) (renamed_arms k)

    pub renamed_case_arm : PCaseArm → PCaseArm
    renamed_case_arm (case_arm cs k) = case_arm (map renamed_choice cs) (renamed_stmts k)

    pub renamed_case_arms : PCaseArms → PCaseArms
    renamed_case_arms no_case_arm = no_case_arm
    renamed_case_arms (case_arm_then x k) = case_arm_then (renamed_case_arm x) (renamed_case_arms k)

    pub renamed_body : PBody → PBody
    renamed_body (body k hs) = body (renamed_stmts k) (renamed_handlers hs)

    pub renamed_handler : PHandler → PHandler
    renamed_handler (handler ws k s) = handler (map renamed_word ws) (renamed_stmts k) no_span

    pub renamed_handlers : PHandlers → PHandlers
    renamed_handlers no_handler = no_handler
    renamed_handlers (handler_then x k) = handler_then (renamed_handler x) (renamed_handlers k)

  abbrev pub renamed_shape : PShape → PShape
  renamed_shape (OPlain x) = OPlain (renamed_subind x)
  renamed_shape (OArray r x) = OArray (renamed_drange r) (renamed_subind x)

  abbrev pub renamed_init : PInit → PInit
  renamed_init (IOne e) = IOne (renamed_expr e)
  renamed_init (IList es s) = IList (map renamed_expr es) no_span
  renamed_init (IOthers e s) = IOthers (renamed_expr e) no_span

  abbrev pub renamed_priority : PPriority → PPriority
  renamed_priority x = record { place = x.place; value = renamed_expr x.value }

  abbrev pub renamed_entry : PEntry → PEntry
  renamed_entry x = record { name = renamed_word x.name; family = option_map renamed_drange x.family; formals = map renamed_formal x.formals; span = no_span }

  abbrev pub renamed_task : PTask → PTask
  renamed_task x = record { name = renamed_word x.name; of_kind = x.of_kind; entries = map renamed_entry x.entries; priorities = map renamed_priority x.priorities }

  abbrev mutual
    pub renamed_decl : PDecl → PDecl
    renamed_decl (DNumber w e s) = DNumber (renamed_word w) (renamed_expr e) no_span
    renamed_decl (DObject ws c x i s) = DObject (map renamed_word ws) c (renamed_shape x) (option_map renamed_init i) no_span
    renamed_decl (DEnumeration w ws s) = DEnumeration (renamed_word w) (map renamed_word ws) no_span
    renamed_decl (DArray w r x s) = DArray (renamed_word w) (renamed_drange r) (renamed_subind x) no_span
    renamed_decl (DSubtype w x s) = DSubtype (renamed_word w) (renamed_subind x) no_span
    renamed_decl (DException ws s) = DException (map renamed_word ws) no_span
    renamed_decl (DIntIo w s) = DIntIo (renamed_word w) no_span
    renamed_decl (DPragma e s) = DPragma (renamed_expr e) no_span
    renamed_decl (DTask x s) = DTask (renamed_task x) no_span
    renamed_decl (DTaskBody w ds b s) = DTaskBody (renamed_word w) (renamed_decls ds) (renamed_body b) no_span

    pub renamed_decls : PDecls → PDecls
    renamed_decls no_decl = no_decl
    renamed_decls (decl_then x k) = decl_then (renamed_decl x) (renamed_decls k)

  -- ---- types (3.3)

  abbrev pub renamed_kind : Kind → Kind
  renamed_kind kind.Integer = kind.Integer
  renamed_kind kind.Truth = kind.Truth
  renamed_kind (kind.Enumeration names) = kind.Enumeration (map renamed_id names)
  renamed_kind (kind.Array index first last part) = kind.Array index first last part

  abbrev pub renamed_mark : Mark → Mark
  renamed_mark m = record { name = option_map renamed_id m.name; kind = m.kind; first = m.first; last = m.last }

  abbrev pub renamed_constant : Constant → Constant
  renamed_constant c = record { name = renamed_id c.name; mark = c.mark; value = c.value }

  abbrev pub renamed_types : TypeTable → TypeTable
  renamed_types types = record { kinds = map renamed_kind types.kinds; marks = map renamed_mark types.marks; constants = map renamed_constant types.constants }

  -- ---- programs, with these names

  abbrev pub renamed_program : List (List ℕ) → PProgram → PProgram
  renamed_program names p = record { names = names; text_io = p.text_io; name = renamed_word p.name; decls = renamed_decls p.decls; body = renamed_body p.body }

-- A renaming of ids: two ids are told apart behind it as before, and the predefined names and attributes keep theirs.
pub record IsRenaming (f : ℕ → ℕ) : Type 0 where
  pub same : (a b : ℕ) → (f a == f b) ≡ (a == b)
  pub fixed : (k : ℕ) → k < 25 → f k ≡ k

-- The names after a renaming have the texts of the names before.
abbrev pub KeepsTexts : (ℕ → ℕ) → List (List ℕ) → List (List ℕ) → Type 0
KeepsTexts f before after = (a : ℕ) → slice_get after (f a) ≡ slice_get before a
