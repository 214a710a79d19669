-- The grammar of statements, alternatives, handlers and bodies (chapters 5, 9 and 11). At a depth d, at most d levels stand below each statement: what stands in a compound statement, an alternative or a handler is one level deeper than it, and so is the root of an expression (this project's rule). Each node has the place from its first item to its last.
use Rattle.std.specs.Prelude.{ℕ, codes}
use Rattle.ada_tree.specs.PlainStmt.{PTarget, PCallee, PCall, PStmt, SNull, SAssign, SDelay, SExit, SRaise, SAbort, SCall, SAccept, SWait, SConditional, STimed, SPut, SPutLine, SNewLine, SGet, SIf, SCase, SBlock, SLoop, PStmts, no_stmt, stmt_then, PMaybe, absent, present, PAccept, accepting, PAlt, alternative, PAltKind, AAccept, ADelay, ATerminate, PAlts, no_alt, alt_then, PArm, arm, PArms, no_arm, arm_then, PCaseArm, case_arm, PCaseArms, no_case_arm, case_arm_then, PBody, body, PHandler, handler, PHandlers, no_handler, handler_then}
use Rattle.ada_tree.specs.WellPlaced.{OthersLast}
use Rattle.ada_lexer.specs.declared.symbols.Symbol.TheVariants as key
use Rattle.ada_expr_parser.specs.Grammar.{IsTarget, IsCallee, IsCall}
use Rattle.ada_phrase_parser.specs.Spelling.{Source, Spelling, Nothing, Never, ◌▷◌, IfThere, Where, Key, Named, Predefined, Separated, Inside, Placed}
use Rattle.ada_phrase_parser.specs.Phrases.{EndOf, NestedExpr, Expression, AcceptHead, Guard, PutText, WhenChoices, WhenOthers, WhenRaised, IsScheme, LoopName, LoopNameAgain, DelayOf}

-- a variable or component, a task, and an entry call: an index or an argument is one level deeper than the statement (5.2, 9.5)
abbrev pub Target : ℕ → PTarget → Spelling
Target d x text = IsTarget d x text

-- a task or a member of an array of tasks, the root of its index one level deeper than the statement (9.5)
abbrev pub Callee : ℕ → PCallee → Spelling
Callee d x text = IsCallee d x text

-- an entry call, the roots of its indices and arguments one level deeper than the statement (9.5)
abbrev pub Call : ℕ → PCall → Spelling
Call d x text = IsCall d x text

module _ (source : Source) where
  abbrev mutual
    -- a statement at its place, with at most d levels below it (5.1)
    pub IsStmt : ℕ → PStmt → Spelling
    -- `null ;` (5.1)
    IsStmt d (SNull s) = Placed s (Key key.Null ▷ Key key.Semicolon)
    -- `target := expr ;` (5.2)
    IsStmt d (SAssign x e s) = Placed s (Target d x ▷ Key key.Becomes ▷ NestedExpr d e ▷ Key key.Semicolon)
    -- `delay DURATION ;` (9.6)
    IsStmt d (SDelay n s) = Placed s (DelayOf n)
    -- `exit [NAME] [when expr] ;` (5.7)
    IsStmt d (SExit w e s) =
        Placed s (Key key.Exit ▷ IfThere w Named ▷ IfThere e (λ test. Key key.When ▷ NestedExpr d test) ▷ Key key.Semicolon)
    -- `raise [NAME] ;` (11.3)
    IsStmt d (SRaise w s) = Placed s (Key key.Raise ▷ IfThere w Named ▷ Key key.Semicolon)
    -- `abort callee {, callee} ;` (9.10)
    IsStmt d (SAbort tasks s) = Placed s (Key key.Abort ▷ Separated (Key key.Comma) (Callee d) tasks ▷ Key key.Semicolon)
    -- `call ;` (9.5)
    IsStmt d (SCall c s) = Placed s (Call d c ▷ Key key.Semicolon)
    IsStmt d (SAccept a s) = Placed s (IsAccept d a)
    -- `select alt {or alt} [else stmts] end select ;` (9.7.1)
    IsStmt d (SWait alts o s) =
        Placed s (Key key.Select ▷ Inside d (λ i. IsAlts i alts ▷ ElsePart i o) ▷ Key key.End ▷ Key key.Select ▷ Key key.Semicolon)
    -- `select call ; [stmts] else stmts end select ;` (9.7.2)
    IsStmt d (SConditional c l o s) =
        Placed s (Key key.Select ▷ Inside d (λ i. Call i c ▷ Key key.Semicolon ▷ AnyStmts i l ▷ Key key.Else ▷ Stmts i o) ▷ Key key.End ▷ Key key.Select ▷ Key key.Semicolon)
    -- `select call ; [stmts] or delay DURATION ; [stmts] end select ;` (9.7.3)
    IsStmt d (STimed c l n m s) =
        Placed s (Key key.Select ▷ Inside d (λ i. Call i c ▷ Key key.Semicolon ▷ AnyStmts i l ▷ Key key.Or ▷ DelayOf n ▷ AnyStmts i m) ▷ Key key.End ▷ Key key.Select ▷ Key key.Semicolon)
    -- `PUT ( text ) ;`, `PUT_LINE ( text ) ;`, `NEW_LINE ;` and `GET ( target ) ;` (14.3, this project's forms)
    IsStmt d (SPut parts s) = Placed s (Predefined (codes "PUT") ▷ PutText source d parts ▷ Key key.Semicolon)
    IsStmt d (SPutLine parts s) = Placed s (Predefined (codes "PUT_LINE") ▷ PutText source d parts ▷ Key key.Semicolon)
    IsStmt d (SNewLine s) = Placed s (Predefined (codes "NEW_LINE") ▷ Key key.Semicolon)
    IsStmt d (SGet x s) = Placed s (Predefined (codes "GET") ▷ Key key.LeftParen ▷ Target d x ▷ Key key.RightParen ▷ Key key.Semicolon)
    -- `if expr then stmts {elsif expr then stmts} [else stmts] end if ;` (5.3)
    IsStmt d (SIf arms o s) =
        Placed s (Key key.If ▷ Inside d (λ i. IsArms i arms ▷ ElsePart i o) ▷ Key key.End ▷ Key key.If ▷ Key key.Semicolon)
    -- `case expr is {when choices => stmts} [when others => stmts] end case ;` (5.4)
    IsStmt d (SCase e arms o s) =
        Placed s (Key key.Case ▷ Inside d (λ i. Expression i e ▷ Key key.Is ▷ IsCaseArms i arms ▷ OthersPart i o) ▷ Key key.End ▷ Key key.Case ▷ Key key.Semicolon)
    -- `begin stmts [exception handlers] end ;` (5.6)
    IsStmt d (SBlock b s) = Placed s (Inside d (λ i. IsBody i b) ▷ Key key.End ▷ Key key.Semicolon)
    -- `[NAME :] [scheme] loop stmts end loop [NAME] ;`, with both names or none (5.5)
    IsStmt d (SLoop w c l s) =
        Placed s (LoopName w ▷ Inside d (λ i. IfThere c (IsScheme i) ▷ Key key.Loop ▷ Stmts i l) ▷ Key key.End ▷ Key key.Loop ▷ LoopNameAgain w ▷ Key key.Semicolon)

    -- `{stmt}`
    pub AnyStmts : ℕ → PStmts → Spelling
    AnyStmts d no_stmt = Nothing
    AnyStmts d (stmt_then x l) = IsStmt d x ▷ AnyStmts d l

    -- `stmt {stmt}` (5.1)
    pub Stmts : ℕ → PStmts → Spelling
    Stmts d no_stmt = Never
    Stmts d (stmt_then x l) = IsStmt d x ▷ AnyStmts d l

    -- `[else stmts]`
    pub ElsePart : ℕ → PMaybe → Spelling
    ElsePart d absent = Nothing
    ElsePart d (present l) = Key key.Else ▷ Stmts d l

    -- `[when others => stmts]`
    pub OthersPart : ℕ → PMaybe → Spelling
    OthersPart d absent = Nothing
    OthersPart d (present l) = WhenOthers ▷ Stmts d l

    -- `accept NAME [( expr )] [formals] (; | do stmts end [NAME] ;)`; its statements are one level deeper than it (9.5)
    pub IsAccept : ℕ → PAccept → Spelling
    IsAccept d (accepting h absent) = Placed h.span (AcceptHead d h ▷ Key key.Semicolon)
    IsAccept d (accepting h (present l)) = Placed h.span (AcceptHead d h ▷ Key key.Do ▷ Inside d (λ i. Stmts i l) ▷ EndOf h.entry)

    -- `[when expr =>] alternative`; what stands in an alternative is one level deeper than it (9.7.1)
    pub IsAlt : ℕ → PAlt → Spelling
    IsAlt d (alternative g x s) = Placed s (Guard d g ▷ IsAltKind d x)

    -- `accept [stmts] | delay DURATION ; [stmts] | terminate ;`
    pub IsAltKind : ℕ → PAltKind → Spelling
    IsAltKind d (AAccept a l) = Inside d (λ i. IsAccept i a ▷ AnyStmts i l)
    IsAltKind d (ADelay n l) = Inside d (λ i. DelayOf n ▷ AnyStmts i l)
    IsAltKind d ATerminate = Key key.Terminate ▷ Key key.Semicolon

    -- `alt {or alt}`
    pub IsAlts : ℕ → PAlts → Spelling
    IsAlts d no_alt = Never
    IsAlts d (alt_then x l) = IsAlt d x ▷ MoreAlts d l

    -- `{or alt}` (9.7.1)
    pub MoreAlts : ℕ → PAlts → Spelling
    MoreAlts d no_alt = Nothing
    MoreAlts d (alt_then x l) = Key key.Or ▷ IsAlt d x ▷ MoreAlts d l

    -- `expr then stmts`, at most d levels below the root of the expression and below each statement (5.3)
    pub IsArm : ℕ → PArm → Spelling
    IsArm d (arm e l) = Expression d e ▷ Key key.Then ▷ Stmts d l

    -- `arm {elsif arm}`
    pub IsArms : ℕ → PArms → Spelling
    IsArms d no_arm = Never
    IsArms d (arm_then x l) = IsArm d x ▷ MoreArms d l

    -- `{elsif arm}` (5.3)
    pub MoreArms : ℕ → PArms → Spelling
    MoreArms d no_arm = Nothing
    MoreArms d (arm_then x l) = Key key.Elsif ▷ IsArm d x ▷ MoreArms d l

    -- `when choice {| choice} => stmts`, at most d levels below the roots and the statements (5.4)
    pub IsCaseArm : ℕ → PCaseArm → Spelling
    IsCaseArm d (case_arm choices l) = WhenChoices d choices ▷ Stmts d l

    -- `{when choice {| choice} => stmts}` (5.4)
    pub IsCaseArms : ℕ → PCaseArms → Spelling
    IsCaseArms d no_case_arm = Nothing
    IsCaseArms d (case_arm_then x l) = IsCaseArm d x ▷ IsCaseArms d l

    -- `begin stmts [exception handlers]`, at most d levels below each of its statements (5.6, 11.2)
    pub IsBody : ℕ → PBody → Spelling
    IsBody d (body l hs) = Where (OthersLast hs) (Key key.Begin ▷ Stmts d l ▷ HandlerPart d hs)

    -- `[exception handler {handler}]` (11.2)
    pub HandlerPart : ℕ → PHandlers → Spelling
    HandlerPart d no_handler = Nothing
    HandlerPart d (handler_then x l) = Key key.Exception ▷ IsHandler d x ▷ MoreHandlers d l

    -- `{handler}` (11.2)
    pub MoreHandlers : ℕ → PHandlers → Spelling
    MoreHandlers d no_handler = Nothing
    MoreHandlers d (handler_then x l) = IsHandler d x ▷ MoreHandlers d l

    -- `when NAME {| NAME} => stmts | when others => stmts`: a handler is at the level of the statements that it guards, its own are one deeper (11.2)
    pub IsHandler : ℕ → PHandler → Spelling
    IsHandler d (handler ws l s) = Placed s (WhenRaised ws ▷ Inside d (λ i. Stmts i l))
