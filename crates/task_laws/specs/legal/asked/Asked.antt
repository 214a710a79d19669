-- What is asked of the statements of a body, statement by statement, with what stands around each (this project's rule). Whatever the static rules or
-- the grammar ask of a body is such: what is asked of one statement, without the statements in it, and how that which stands around changes on the
-- way in. The nesting of each part is as in `Every` of ada_tree.
use Rattle.std.specs.Prelude.{ℕ, ◌+◌, Bool, List, [], Option, IfSome}
use Rattle.std.specs.List.{AllByRecursion}
use Rattle.ada_tree.specs.declared.naming.Span.{Span}
use Rattle.ada_tree.specs.declared.naming.Word.{Word}
use Rattle.ada_tree.specs.PlainExpr.{PExpr}
use Rattle.ada_tree.specs.PlainStmt.{PCallee, PCall, PChoice, PScheme, PHead, PStmt, SAbort, SCall, SAccept, SWait, SConditional, STimed, SIf, SCase, SBlock, SLoop, PStmts, no_stmt, stmt_then, PMaybe, absent, present, PAccept, accepting, alternative, PAltKind, AAccept, ADelay, ATerminate, PAlts, no_alt, alt_then, arm, PArms, no_arm, arm_then, case_arm, PCaseArms, no_case_arm, case_arm_then, PBody, body, handler, PHandlers, no_handler, handler_then}
use Rattle.ada_static_rules.specs.Sites.{arm_choices, is_present, with_words}
use Rattle.ada_tree.specs.Every.{stmts_count, alts_count, arms_count}

-- What is asked of one statement, by what stands around it and its nesting.
pub record Asks (C : Type 0) : Type 1 where
  -- of each part that has a place and a nesting: a statement in which others stand or by which tasks are named, the call of a select, an alternative, a handler
  pub outer : C → ℕ → Span → Type 0
  -- of a list that needs one member: how many it has
  pub many : ℕ → Type 0
  -- of a duration of a select
  pub duration : ℕ → Type 0
  -- of any other statement, in which no statement stands
  pub plain : C → ℕ → PStmt → Type 0
  -- of a callee; of the entry and the lists of a call; of the callees of an abort statement together
  pub callee : C → ℕ → PCallee → Type 0
  pub call : C → ℕ → PCall → Type 0
  pub aborts : C → ℕ → List PCallee → Type 0
  -- of a condition or a guard
  pub condition : C → ℕ → PExpr → Type 0
  -- of a case statement, its selector with all choices, and whether it has others; and of the choices of one arm, with that selector
  pub selector : C → ℕ → PExpr → List PChoice → Bool → Span → Type 0
  pub choices : C → ℕ → PExpr → List PChoice → Type 0
  -- of a loop without its statements, and of the head of an accept
  pub loop : C → ℕ → Option Word → Option PScheme → Type 0
  pub head : C → ℕ → PHead → Type 0
  -- of the alternatives of a wait together, and whether it has an else part; of a delay alternative, with its guard
  pub wait : C → ℕ → PAlts → Bool → Span → Type 0
  pub delay : C → ℕ → Option PExpr → Span → Type 0
  -- of the handlers of a body together, and of the names of one behind those of the handlers before it
  pub handlers : PHandlers → Type 0
  pub handler : C → ℕ → List ℕ → List Word → Type 0
  -- what stands around the statements of an accept, a loop, a handler
  pub accepting : C → PHead → C
  pub looping : C → Option Word → Option PScheme → C
  pub handling : C → C

module _ {C : Type 0} (a : Asks C) where
  abbrev mutual
    -- a statement is as asked, and so is each statement in it
    pub AskedStmt : C → ℕ → PStmt → Type 0
    AskedStmt c k (SAbort xs s) = a.outer c k s × a.aborts c (k + 1) xs × AllByRecursion (a.callee c (k + 1)) xs
    AskedStmt c k (SCall x s) = a.outer c k s × a.callee c (k + 1) x.task × a.call c (k + 1) x
    AskedStmt c k (SAccept x s) = AskedAccept c k x
    AskedStmt c k (SWait x o s) = a.outer c k s × a.many (alts_count x) × a.wait c k x (is_present o) s × AskedAlts c (k + 1) x × AskedMaybe c (k + 1) o
    AskedStmt c k (SConditional x l o s) =
        a.outer c k s × a.outer c (k + 1) x.task.name.span × a.callee c (k + 2) x.task × a.call c (k + 2) x × AskedStmts c (k + 1) l × AskedSome c (k + 1) o
    AskedStmt c k (STimed x l d o s) =
        a.outer c k s × a.outer c (k + 1) x.task.name.span × a.callee c (k + 2) x.task × a.call c (k + 2) x × a.duration d × AskedStmts c (k + 1) l × AskedStmts c (k + 1) o
    AskedStmt c k (SIf x o s) = a.outer c k s × a.many (arms_count x) × AskedArms c (k + 1) x × AskedMaybe c (k + 1) o
    AskedStmt c k (SCase e x o s) = a.outer c k s × a.selector c (k + 1) e (arm_choices x) (is_present o) s × AskedCaseArms c (k + 1) e x × AskedMaybe c (k + 1) o
    AskedStmt c k (SBlock b s) = a.outer c k s × AskedBody c (k + 1) b
    AskedStmt c k (SLoop w x l s) = a.outer c k s × a.loop c (k + 1) w x × AskedSome (a.looping c w x) (k + 1) l
    AskedStmt c k x = a.plain c k x

    -- statements that may be none
    pub AskedStmts : C → ℕ → PStmts → Type 0
    AskedStmts c k no_stmt = Unit {0}
    AskedStmts c k (stmt_then x l) = AskedStmt c k x × AskedStmts c k l

    -- statements, one at least
    pub AskedSome : C → ℕ → PStmts → Type 0
    AskedSome c k no_stmt = a.many 0
    AskedSome c k (stmt_then x l) = a.many (1 + stmts_count l) × AskedStmt c k x × AskedStmts c k l

    pub AskedMaybe : C → ℕ → PMaybe → Type 0
    AskedMaybe c k absent = Unit {0}
    AskedMaybe c k (present l) = AskedSome c k l

    pub AskedAccept : C → ℕ → PAccept → Type 0
    AskedAccept c k (accepting h o) = a.head c k h × AskedMaybe (a.accepting c h) (k + 1) o

    pub AskedAlts : C → ℕ → PAlts → Type 0
    AskedAlts c k no_alt = Unit {0}
    AskedAlts c k (alt_then (alternative g x s) l) = a.outer c k s × IfSome g (a.condition c (k + 1)) × AskedKind c (k + 1) g s x × AskedAlts c k l

    -- what stands in an alternative with that guard and place
    pub AskedKind : C → ℕ → Option PExpr → Span → PAltKind → Type 0
    AskedKind c k g s (AAccept x l) = AskedAccept c k x × AskedStmts c k l
    AskedKind c k g s (ADelay d l) = a.delay c k g s × a.duration d × AskedStmts c k l
    AskedKind c k g s ATerminate = Unit {0}

    pub AskedArms : C → ℕ → PArms → Type 0
    AskedArms c k no_arm = Unit {0}
    AskedArms c k (arm_then (arm e l) rest) = a.condition c k e × AskedSome c k l × AskedArms c k rest

    -- the arms of a case statement with that selector
    pub AskedCaseArms : C → ℕ → PExpr → PCaseArms → Type 0
    AskedCaseArms c k e no_case_arm = Unit {0}
    AskedCaseArms c k e (case_arm_then (case_arm xs l) rest) = a.choices c k e xs × AskedSome c k l × AskedCaseArms c k e rest

    pub AskedBody : C → ℕ → PBody → Type 0
    AskedBody c k (body l hs) = AskedSome c k l × a.handlers hs × AskedHandlers c k [] hs

    -- handlers behind those that name some exceptions
    pub AskedHandlers : C → ℕ → List ℕ → PHandlers → Type 0
    AskedHandlers c k names no_handler = Unit {0}
    AskedHandlers c k names (handler_then (handler ws l s) rest) =
        a.outer c k s × a.handler c k names ws × AskedSome (a.handling c) (k + 1) l × AskedHandlers c k (with_words names ws) rest
