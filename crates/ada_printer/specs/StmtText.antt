-- The text of statements (this project's layout): each simple statement is one line, and what a compound statement encloses is one level deeper than its own lines. The level is that of the statement's lines; the text of an inner part begins behind the indentation of its first line where the head comment says so.
use Rattle.std.specs.Prelude.{ℕ, Bool, true, false, List, [], ◌∷◌, Option, Some, None, codes}
use Rattle.ada_tree.specs.declared.naming.Word.{Word}
use Rattle.ada_tree.specs.declared.statements.ParMode.{ParMode}
use Rattle.ada_tree.specs.declared.statements.ParMode.TheVariants.{Take, Give, Both}
use Rattle.ada_tree.specs.PlainExpr.{PExpr}
use Rattle.ada_tree.specs.PlainStmt.{PTarget, PCallee, PArgs, PCall, PFormal, PPart, PWords, PValue, PChoice, PScheme, LWhile, LFor, PStmt, SNull, SAssign, SDelay, SExit, SRaise, SAbort, SCall, SAccept, SWait, SConditional, STimed, SPut, SPutLine, SNewLine, SGet, SIf, SCase, SBlock, SLoop, PStmts, no_stmt, stmt_then, PMaybe, absent, present, PAccept, accepting, PAlt, alternative, PAltKind, AAccept, ADelay, ATerminate, PAlts, no_alt, alt_then, PArm, arm, PArms, no_arm, arm_then, PCaseArm, case_arm, PCaseArms, no_case_arm, case_arm_then, PBody, body, PHandler, handler, PHandlers, no_handler, handler_then}
use Rattle.ded_io.specs.Written.{◌⧺◌}
use Rattle.ada_printer.specs.Layout.{deeper, indent, separated, duration_text, string_text, word_text, words_text, later_word}
use Rattle.ada_printer.specs.ExprText.{expr_text, exprs_text, index_text, drange_text}

-- every mode is written
abbrev pub mode_text : ParMode → List ℕ
mode_text Take = codes "in "
mode_text Give = codes "out "
mode_text Both = codes "in out "

-- `reverse ` for a loop that goes backwards, else nothing (5.5)
abbrev pub reverse_text : Bool → List ℕ
reverse_text true = codes "reverse "
reverse_text false = []

-- `delay 1.5;`, behind its indentation
abbrev pub delay_text : ℕ → List ℕ
delay_text d = codes "delay " ⧺ (duration_text d ⧺ codes ";\n")

-- a delay, with the text of what stands behind it
abbrev pub delayed_text : ℕ → ℕ → List ℕ → List ℕ
delayed_text level d behind = indent level ⧺ (delay_text d ⧺ behind)

-- `else`, and the text of what it holds
abbrev pub otherwise_text : ℕ → List ℕ → List ℕ
otherwise_text level inside = indent level ⧺ (codes "else\n" ⧺ inside)

module _ (names : List (List ℕ)) where
  -- a variable or a component
  abbrev pub target_text : PTarget → List ℕ
  target_text x = word_text names x.name ⧺ index_text names x.index

  -- a task, or a member of an array of tasks
  abbrev pub callee_text : PCallee → List ℕ
  callee_text x = word_text names x.name ⧺ index_text names x.index

  -- a second list in parentheses, where there is one
  abbrev pub second_text : Option (List PExpr) → List ℕ
  second_text None = []
  second_text (Some es) = exprs_text names es

  -- the one or two lists after an entry's name, where there are some (9.5)
  abbrev pub args_text : Option PArgs → List ℕ
  args_text None = []
  args_text (Some x) = exprs_text names x.first ⧺ second_text x.second

  -- `T.E(1)(X);`, behind its indentation
  abbrev pub call_text : PCall → List ℕ
  call_text c = callee_text c.task ⧺ (codes "." ⧺ (word_text names c.entry ⧺ (args_text c.args ⧺ codes ";\n")))

  -- `X, Y : in INTEGER`
  abbrev pub formal_text : PFormal → List ℕ
  formal_text f = words_text names f.names ⧺ (codes " : " ⧺ (mode_text f.mode ⧺ word_text names f.mark))

  -- `(X : in INTEGER; Y : out INTEGER)`, or nothing
  abbrev pub formals_text : List PFormal → List ℕ
  formals_text [] = []
  formals_text (f ∷ fs) = codes "(" ⧺ (separated (codes "; ") formal_text (f ∷ fs) ⧺ codes ")")

  -- `accept E(1)(X : in INTEGER)`, behind its indentation
  abbrev pub head_text : Word → Option PExpr → List PFormal → List ℕ
  head_text entry index formals = codes "accept " ⧺ (word_text names entry ⧺ (index_text names index ⧺ formals_text formals))

  -- a part of what PUT writes: a string literal or an expression (14.3; this project's rule)
  abbrev pub part_text : PPart → List ℕ
  part_text (PWords content s) = string_text content
  part_text (PValue e) = expr_text names e

  -- `"A" & B`
  abbrev pub parts_text : List PPart → List ℕ
  parts_text ps = separated (codes " & ") part_text ps

  -- ` .. 4`, the last bound of a choice that is a range; nothing for a single value (3.7.3)
  abbrev pub last_text : Option PExpr → List ℕ
  last_text None = []
  last_text (Some e) = codes " .. " ⧺ expr_text names e

  -- `1` or `2 .. 4`
  abbrev pub choice_text : PChoice → List ℕ
  choice_text x = expr_text names x.first ⧺ last_text x.last

  -- the names of a handler; one with no names is for all others
  abbrev pub caught_text : List Word → List ℕ
  caught_text [] = codes "others"
  caught_text (w ∷ ws) = separated (codes " | ") (word_text names) (w ∷ ws)

  -- the name of a loop, before it
  abbrev pub label_text : Option Word → List ℕ
  label_text None = []
  label_text (Some w) = word_text names w ⧺ codes " : "

  -- what stands before `loop`
  abbrev pub scheme_text : Option PScheme → List ℕ
  scheme_text None = []
  scheme_text (Some (LWhile e)) = codes "while " ⧺ (expr_text names e ⧺ codes " ")
  scheme_text (Some (LFor w reverse range)) = codes "for " ⧺ (word_text names w ⧺ (codes " in " ⧺ (reverse_text reverse ⧺ (drange_text names range ⧺ codes " "))))

  -- the condition of an exit statement
  abbrev pub when_text : Option PExpr → List ℕ
  when_text None = []
  when_text (Some e) = codes " when " ⧺ expr_text names e

  -- the call of a conditional or timed entry call, with the text of what stands behind it
  abbrev pub called_text : ℕ → PCall → List ℕ → List ℕ
  called_text level c behind = indent level ⧺ (call_text c ⧺ behind)

  -- the texts of the parts of the family, at a level
  abbrev mutual
    -- a statement behind the indentation of its first line
    pub stmt_form_text : ℕ → PStmt → List ℕ
    stmt_form_text level (SNull s) = codes "null;\n"
    stmt_form_text level (SAssign x e s) = target_text x ⧺ (codes " := " ⧺ (expr_text names e ⧺ codes ";\n"))
    stmt_form_text level (SDelay d s) = delay_text d
    stmt_form_text level (SExit w e s) = codes "exit" ⧺ (later_word names w ⧺ (when_text e ⧺ codes ";\n"))
    stmt_form_text level (SRaise w s) = codes "raise" ⧺ (later_word names w ⧺ codes ";\n")
    stmt_form_text level (SAbort cs s) = codes "abort " ⧺ (separated (codes ", ") callee_text cs ⧺ codes ";\n")
    stmt_form_text level (SCall c s) = call_text c
    stmt_form_text level (SAccept a s) = accept_text level a
    stmt_form_text level (SWait x o s) = codes "select\n" ⧺ (alts_text level x ⧺ (else_text level o ⧺ (indent level ⧺ codes "end select;\n")))
    stmt_form_text level (SConditional c k o s) =
        codes "select\n"
        ⧺ (called_text (deeper level) c (stmts_text (deeper level) k) ⧺ (otherwise_text level (stmts_text (deeper level) o) ⧺ (indent level ⧺ codes "end select;\n")))
    stmt_form_text level (STimed c k d o s) =
        codes "select\n"
        ⧺ (called_text (deeper level) c (stmts_text (deeper level) k)
        ⧺ (indent level ⧺ (codes "or\n" ⧺ (delayed_text (deeper level) d (stmts_text (deeper level) o) ⧺ (indent level ⧺ codes "end select;\n")))))
    stmt_form_text level (SPut ps s) = codes "PUT(" ⧺ (parts_text ps ⧺ codes ");\n")
    stmt_form_text level (SPutLine ps s) = codes "PUT_LINE(" ⧺ (parts_text ps ⧺ codes ");\n")
    stmt_form_text level (SNewLine s) = codes "NEW_LINE;\n"
    stmt_form_text level (SGet x s) = codes "GET(" ⧺ (target_text x ⧺ codes ");\n")
    stmt_form_text level (SIf x o s) = arms_text level x ⧺ (else_text level o ⧺ (indent level ⧺ codes "end if;\n"))
    stmt_form_text level (SCase e x o s) = codes "case " ⧺ (expr_text names e ⧺ (codes " is\n" ⧺ (case_arms_text (deeper level) x ⧺ (others_text (deeper level) o ⧺ (indent level ⧺ codes "end case;\n")))))
    stmt_form_text level (SBlock b s) = body_text level b ⧺ (indent level ⧺ codes "end;\n")
    stmt_form_text level (SLoop w c k s) = label_text w ⧺ (scheme_text c ⧺ (codes "loop\n" ⧺ (stmts_text (deeper level) k ⧺ (indent level ⧺ (codes "end loop" ⧺ (later_word names w ⧺ codes ";\n"))))))

    -- statements, one behind the other
    pub stmts_text : ℕ → PStmts → List ℕ
    stmts_text level no_stmt = []
    stmts_text level (stmt_then x k) = (indent level ⧺ stmt_form_text level x) ⧺ stmts_text level k

    -- the else part of a statement at this level
    pub else_text : ℕ → PMaybe → List ℕ
    else_text level absent = []
    else_text level (present k) = otherwise_text level (stmts_text (deeper level) k)

    -- `when others =>` of a case statement
    pub others_text : ℕ → PMaybe → List ℕ
    others_text level absent = []
    others_text level (present k) = indent level ⧺ (codes "when others =>\n" ⧺ stmts_text (deeper level) k)

    -- an accept statement behind its indentation
    pub accept_text : ℕ → PAccept → List ℕ
    accept_text level (accepting h absent) = head_text h.entry h.index h.formals ⧺ codes ";\n"
    accept_text level (accepting h (present k)) = head_text h.entry h.index h.formals ⧺ (codes " do\n" ⧺ (stmts_text (deeper level) k ⧺ (indent level ⧺ (codes "end " ⧺ (word_text names h.entry ⧺ codes ";\n")))))

    -- an alternative without its guard
    pub alt_kind_text : ℕ → PAltKind → List ℕ
    alt_kind_text level (AAccept a k) = indent level ⧺ (accept_text level a ⧺ stmts_text level k)
    alt_kind_text level (ADelay d k) = delayed_text level d (stmts_text level k)
    alt_kind_text level ATerminate = indent level ⧺ codes "terminate;\n"

    -- an alternative; behind a guard it stands one level deeper
    pub alt_text : ℕ → PAlt → List ℕ
    alt_text level (alternative None k s) = alt_kind_text level k
    alt_text level (alternative (Some e) k s) = indent level ⧺ (codes "when " ⧺ (expr_text names e ⧺ (codes " =>\n" ⧺ alt_kind_text (deeper level) k)))

    -- the alternatives of a selective wait at this level, with `or` between each two
    pub alts_text : ℕ → PAlts → List ℕ
    alts_text level no_alt = []
    alts_text level (alt_then x k) = alt_text (deeper level) x ⧺ more_alts_text level k

    -- the alternatives of a selective wait after the first one, each after its `or` (9.7.1)
    pub more_alts_text : ℕ → PAlts → List ℕ
    more_alts_text level no_alt = []
    more_alts_text level (alt_then x k) = (indent level ⧺ (codes "or\n" ⧺ alt_text (deeper level) x)) ⧺ more_alts_text level k

    -- a condition with `then`, and its statements, behind `if` or `elsif`
    pub arm_text : ℕ → PArm → List ℕ
    arm_text level (arm e k) = expr_text names e ⧺ (codes " then\n" ⧺ stmts_text (deeper level) k)

    -- the branches of an if statement behind its indentation
    pub arms_text : ℕ → PArms → List ℕ
    arms_text level no_arm = []
    arms_text level (arm_then x k) = (codes "if " ⧺ arm_text level x) ⧺ more_arms_text level k

    -- the branches of an if statement after the first one, each after its `elsif` (5.3)
    pub more_arms_text : ℕ → PArms → List ℕ
    more_arms_text level no_arm = []
    more_arms_text level (arm_then x k) = (indent level ⧺ (codes "elsif " ⧺ arm_text level x)) ⧺ more_arms_text level k

    -- `when 1 | 2 .. 4 =>`, and its statements
    pub case_arm_text : ℕ → PCaseArm → List ℕ
    case_arm_text level (case_arm cs k) = indent level ⧺ (codes "when " ⧺ (separated (codes " | ") choice_text cs ⧺ (codes " =>\n" ⧺ stmts_text (deeper level) k)))

    -- the alternatives of a case statement at this level, one after the other (5.4)
    pub case_arms_text : ℕ → PCaseArms → List ℕ
    case_arms_text level no_case_arm = []
    case_arms_text level (case_arm_then x k) = case_arm_text level x ⧺ case_arms_text level k

    -- a body behind the indentation of its `begin`, up to its `end`
    pub body_text : ℕ → PBody → List ℕ
    body_text level (body k hs) = codes "begin\n" ⧺ (stmts_text (deeper level) k ⧺ exception_text level hs)

    -- the exception handlers of a body at this level, where it has some
    pub exception_text : ℕ → PHandlers → List ℕ
    exception_text level no_handler = []
    exception_text level (handler_then x k) = indent level ⧺ (codes "exception\n" ⧺ (handler_text (deeper level) x ⧺ handlers_text (deeper level) k))

    -- `when A | B =>`, and its statements
    pub handler_text : ℕ → PHandler → List ℕ
    handler_text level (handler ws k s) = indent level ⧺ (codes "when " ⧺ (caught_text ws ⧺ (codes " =>\n" ⧺ stmts_text (deeper level) k)))

    -- exception handlers at this level, one after the other (11.2)
    pub handlers_text : ℕ → PHandlers → List ℕ
    handlers_text level no_handler = []
    handlers_text level (handler_then x k) = handler_text level x ⧺ handlers_text level k

  -- a statement
  abbrev pub stmt_text : ℕ → PStmt → List ℕ
  stmt_text level x = indent level ⧺ stmt_form_text level x

  -- an alternative behind another one
  abbrev pub later_alt_text : ℕ → PAlt → List ℕ
  later_alt_text level x = indent level ⧺ (codes "or\n" ⧺ alt_text (deeper level) x)

  -- a branch of an if statement behind another one
  abbrev pub later_arm_text : ℕ → PArm → List ℕ
  later_arm_text level x = indent level ⧺ (codes "elsif " ⧺ arm_text level x)
