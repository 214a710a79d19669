-- Images of statements. A statement that does not synchronize stays, with images of the rows in it; what becomes of calls, accepts, waits and aborts
-- is the rewriter's own affair (this project's rule).
use Rattle.std.specs.Prelude.{ℕ, List, [], Option}
use Rattle.ada_tree.specs.declared.naming.Span.{Span}
use Rattle.ada_tree.specs.declared.naming.Word.{Word}
use Rattle.ada_tree.specs.PlainExpr.{PExpr}
use Rattle.ada_tree.specs.PlainStmt.{PTarget, PPart, PChoice, PScheme, PStmt, SNull, SAssign, SDelay, SExit, SRaise, SAbort, SPut, SPutLine, SNewLine, SGet, SIf, SCase, SBlock, SLoop, PStmts, no_stmt, stmt_then, PMaybe, absent, present, PArms, no_arm, arm_then, arm, PCaseArms, no_case_arm, case_arm_then, case_arm, PBody, body, PHandlers, no_handler, handler_then, handler}
use Rattle.task_model.specs.Frames.{in_front}
use Rattle.task_laws.specs.translation.Translations.{Rewriting}
use Rattle.task_laws.specs.translation.OldNames.{OldExpr, OldOption, OldTarget, OldParts, OldChoices, OldScheme}

-- ---- the parts of a statement

-- statements that may be left out
pub data ImageMaybe (x : Rewriting) : PMaybe → PMaybe → Type 0 where
  image_absent : ImageMaybe x absent absent
  image_present : (l l' : PStmts) → x.image l l' → ImageMaybe x (present l) (present l')

-- conditions with their statements
pub data ImageArms (x : Rewriting) : PArms → PArms → Type 0 where
  image_no_arm : ImageArms x no_arm no_arm
  image_arm : (e : PExpr) (l l' : PStmts) (rest rest' : PArms) → OldExpr x.programs e → x.image l l' → ImageArms x rest rest' →
      ImageArms x (arm_then (arm e l) rest) (arm_then (arm e l') rest')

-- choices with their statements
pub data ImageCaseArms (x : Rewriting) : PCaseArms → PCaseArms → Type 0 where
  image_no_case_arm : ImageCaseArms x no_case_arm no_case_arm
  image_case_arm : (cs : List PChoice) (l l' : PStmts) (rest rest' : PCaseArms) → OldChoices x.programs cs → x.image l l' → ImageCaseArms x rest rest' →
      ImageCaseArms x (case_arm_then (case_arm cs l) rest) (case_arm_then (case_arm cs l') rest')

-- handlers, which are for the same exceptions
pub data ImageHandlers (x : Rewriting) : PHandlers → PHandlers → Type 0 where
  image_no_handler : ImageHandlers x no_handler no_handler
  image_handler : (ws : List Word) (l l' : PStmts) (s s' : Span) (rest rest' : PHandlers) → x.image l l' → ImageHandlers x rest rest' →
      ImageHandlers x (handler_then (handler ws l s) rest) (handler_then (handler ws l' s') rest')

-- ---- statements

-- A statement that does not synchronize, and its image.
pub data ImageStmt (x : Rewriting) : PStmt → PStmt → Type 0 where
  image_null : (s : Span) → ImageStmt x (SNull s) (SNull s)
  image_assign : (t : PTarget) (e : PExpr) (s : Span) → OldTarget x.programs t → OldExpr x.programs e → ImageStmt x (SAssign t e s) (SAssign t e s)
  image_delay : (d : ℕ) (s : Span) → ImageStmt x (SDelay d s) (SDelay d s)
  image_exit : (w : Option Word) (test : Option PExpr) (s : Span) → OldOption x.programs test → ImageStmt x (SExit w test s) (SExit w test s)
  image_raise : (w : Option Word) (s : Span) → ImageStmt x (SRaise w s) (SRaise w s)
  -- an abort that names no task is passed in a local step
  image_no_abort : (s : Span) → ImageStmt x (SAbort [] s) (SAbort [] s)
  image_put : (ps : List PPart) (s : Span) → OldParts x.programs ps → ImageStmt x (SPut ps s) (SPut ps s)
  image_put_line : (ps : List PPart) (s : Span) → OldParts x.programs ps → ImageStmt x (SPutLine ps s) (SPutLine ps s)
  image_new_line : (s : Span) → ImageStmt x (SNewLine s) (SNewLine s)
  image_get : (t : PTarget) (s : Span) → OldTarget x.programs t → ImageStmt x (SGet t s) (SGet t s)
  image_if : (arms arms' : PArms) (o o' : PMaybe) (s : Span) → ImageArms x arms arms' → ImageMaybe x o o' → ImageStmt x (SIf arms o s) (SIf arms' o' s)
  image_case : (e : PExpr) (arms arms' : PCaseArms) (o o' : PMaybe) (s : Span) → OldExpr x.programs e → ImageCaseArms x arms arms' → ImageMaybe x o o' →
      ImageStmt x (SCase e arms o s) (SCase e arms' o' s)
  image_block : (l l' : PStmts) (hs hs' : PHandlers) (s : Span) → x.image l l' → ImageHandlers x hs hs' → ImageStmt x (SBlock (body l hs) s) (SBlock (body l' hs') s)
  image_loop : (w : Option Word) (c : Option PScheme) (l l' : PStmts) (s : Span) → OldScheme x.programs c → x.image l l' → ImageStmt x (SLoop w c l s) (SLoop w c l' s)

-- A row that begins with such a statement, and its image.
pub data ImageList (x : Rewriting) : PStmt → PStmts → PStmts → Type 0 where
  image_list : (s s' : PStmt) (rest rest' : PStmts) → ImageStmt x s s' → x.image rest rest' → ImageList x s rest (stmt_then s' rest')

-- a statement that does not synchronize
pub data IsLocal : PStmt → Type 0 where
  local_null : (s : Span) → IsLocal (SNull s)
  local_assign : (t : PTarget) (e : PExpr) (s : Span) → IsLocal (SAssign t e s)
  local_delay : (d : ℕ) (s : Span) → IsLocal (SDelay d s)
  local_exit : (w : Option Word) (test : Option PExpr) (s : Span) → IsLocal (SExit w test s)
  local_raise : (w : Option Word) (s : Span) → IsLocal (SRaise w s)
  local_no_abort : (s : Span) → IsLocal (SAbort [] s)
  local_put : (ps : List PPart) (s : Span) → IsLocal (SPut ps s)
  local_put_line : (ps : List PPart) (s : Span) → IsLocal (SPutLine ps s)
  local_new_line : (s : Span) → IsLocal (SNewLine s)
  local_get : (t : PTarget) (s : Span) → IsLocal (SGet t s)
  local_if : (arms : PArms) (o : PMaybe) (s : Span) → IsLocal (SIf arms o s)
  local_case : (e : PExpr) (arms : PCaseArms) (o : PMaybe) (s : Span) → IsLocal (SCase e arms o s)
  local_block : (b : PBody) (s : Span) → IsLocal (SBlock b s)
  local_loop : (w : Option Word) (c : Option PScheme) (l : PStmts) (s : Span) → IsLocal (SLoop w c l s)

-- ---- what is asked of images

-- a row without statements, and one with some
pub data IsEmpty : PStmts → Type 0 where
  nothing_there : IsEmpty no_stmt

pub data IsSomething : PStmts → Type 0 where
  something_there : (s : PStmt) (rest : PStmts) → IsSomething (stmt_then s rest)

-- Images go statement by statement: that of nothing is nothing, that of something is something, a statement that does not synchronize stays in front
-- of an image of those behind it, and images that stand one behind the other are one of both rows.
pub record AreImages (x : Rewriting) : Type 0 where
  pub empty : x.image no_stmt no_stmt
  pub nothing : (r : PStmts) → x.image no_stmt r → IsEmpty r
  pub something : (s : PStmt) (rest r : PStmts) → x.image (stmt_then s rest) r → IsSomething r
  pub local : (s : PStmt) (rest r : PStmts) → IsLocal s → x.image (stmt_then s rest) r → ImageList x s rest r
  pub joined : (a a' b b' : PStmts) → x.image a a' → x.image b b' → x.image (in_front a b) (in_front a' b')
