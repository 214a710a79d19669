-- What holds of each statement of a task, by the loops around it, whatever it is (this project's rule).
use Rattle.std.specs.Prelude.{List, [], ◌∷◌, Option}
use Rattle.ada_tree.specs.declared.naming.Word.{Word}
use Rattle.ada_tree.specs.PlainStmt.{PStmt, SAccept, SWait, SConditional, STimed, SIf, SCase, SBlock, SLoop, PStmts, no_stmt, stmt_then, PMaybe, absent, present, PAccept, accepting, alternative, PAltKind, AAccept, ADelay, ATerminate, PAlts, no_alt, alt_then, PArms, no_arm, arm_then, arm, PCaseArms, no_case_arm, case_arm_then, case_arm, PBody, body, PHandlers, no_handler, handler_then, handler}
use Rattle.task_model.specs.Frames.{Around, OwnBody, Block, Handling, Loop, Opened, PFrame, Control}
use Rattle.task_model.specs.Tasks.{Task}

-- the loops around a statement, the inner ones first, each with its name where it has one; those outside of an accept body or a unit are none of them
-- (5.5, 5.7)
abbrev pub Loops : Type 0
Loops = List (Option Word)

module _ (Each : Loops → PStmt → Type 0) where
  -- ---- texts

  abbrev mutual
    -- in the parts of a statement
    pub InParts : Loops → PStmt → Type 0
    InParts loops (SAccept a s) = InAccept a
    InParts loops (SWait alts otherwise s) = InAlts loops alts × InMaybe loops otherwise
    InParts loops (SConditional call more otherwise s) = InStmts loops more × InStmts loops otherwise
    InParts loops (STimed call more duration after s) = InStmts loops more × InStmts loops after
    InParts loops (SIf arms otherwise s) = InArms loops arms × InMaybe loops otherwise
    InParts loops (SCase e arms others s) = InCaseArms loops arms × InMaybe loops others
    InParts loops (SBlock b s) = InBody loops b
    InParts loops (SLoop name scheme stmts s) = InStmts (name ∷ loops) stmts
    InParts loops _ = Unit {0}

    -- of each statement of a row, and in its parts
    pub InStmts : Loops → PStmts → Type 0
    InStmts loops no_stmt = Unit {0}
    InStmts loops (stmt_then s rest) = (Each loops s × InParts loops s) × InStmts loops rest

    pub InMaybe : Loops → PMaybe → Type 0
    InMaybe loops absent = Unit {0}
    InMaybe loops (present stmts) = InStmts loops stmts

    pub InAccept : PAccept → Type 0
    InAccept (accepting head stmts) = InMaybe [] stmts

    pub InAltKind : Loops → PAltKind → Type 0
    InAltKind loops (AAccept accept stmts) = InAccept accept × InStmts loops stmts
    InAltKind loops (ADelay duration stmts) = InStmts loops stmts
    InAltKind loops ATerminate = Unit {0}

    pub InAlts : Loops → PAlts → Type 0
    InAlts loops no_alt = Unit {0}
    InAlts loops (alt_then (alternative guard what s) rest) = InAltKind loops what × InAlts loops rest

    pub InArms : Loops → PArms → Type 0
    InArms loops no_arm = Unit {0}
    InArms loops (arm_then (arm e stmts) rest) = InStmts loops stmts × InArms loops rest

    pub InCaseArms : Loops → PCaseArms → Type 0
    InCaseArms loops no_case_arm = Unit {0}
    InCaseArms loops (case_arm_then (case_arm choices stmts) rest) = InStmts loops stmts × InCaseArms loops rest

    pub InBody : Loops → PBody → Type 0
    InBody loops (body stmts handlers) = InStmts loops stmts × InHandlers loops handlers

    pub InHandlers : Loops → PHandlers → Type 0
    InHandlers loops no_handler = Unit {0}
    InHandlers loops (handler_then (handler names stmts s) rest) = InStmts loops stmts × InHandlers loops rest

-- ---- tasks

-- the loops around the statements of a frame, by what it stands in and the frames outside
abbrev pub loops_of : Around → List PFrame → Loops
loops_of (OwnBody handlers taken) outer = []
loops_of (Opened caller formals pending) outer = []
loops_of (Block handlers) [] = []
loops_of (Block handlers) (part ∷ parts) = loops_of part.place parts
loops_of (Handling x) [] = []
loops_of (Handling x) (part ∷ parts) = loops_of part.place parts
loops_of (Loop name turns stmts) [] = []
loops_of (Loop name turns stmts) (part ∷ parts) = name ∷ loops_of part.place parts

module _ (Each : Loops → PStmt → Type 0) where
  -- of what a frame may come to beside its statements: handlers, and the next turn of a loop; a block, a handler of one and a loop stand in a frame
  abbrev pub InPlace : Around → List PFrame → Type 0
  InPlace (OwnBody handlers taken) outer = InHandlers Each [] handlers
  InPlace (Opened caller formals pending) outer = Unit {0}
  InPlace (Block handlers) [] = ⊥
  InPlace (Block handlers) (part ∷ parts) = InHandlers Each (loops_of part.place parts) handlers
  InPlace (Handling x) [] = ⊥
  InPlace (Handling x) (part ∷ parts) = Unit {0}
  InPlace (Loop name turns stmts) [] = ⊥
  InPlace (Loop name turns stmts) (part ∷ parts) = InStmts Each (name ∷ loops_of part.place parts) stmts

  -- of the frames outside
  abbrev pub InOuter : List PFrame → Type 0
  InOuter [] = Unit {0}
  InOuter (part ∷ parts) = (InStmts Each (loops_of part.place parts) part.rest × InPlace part.place parts) × InOuter parts

  -- It holds of each statement where a task stands.
  pub record HoldsAt (c : Control) : Type 0 where
    pub rest : InStmts Each (loops_of c.top.place c.outer) c.top.rest
    pub place : InPlace c.top.place c.outer
    pub outer : InOuter c.outer

  -- It holds of each statement of a task.
  abbrev pub HoldsOf : Task → Type 0
  HoldsOf t = HoldsAt t.control
