-- Statements that hold no statements.
use Rattle.ada_tree.specs.PlainStmt.{PStmt, SAccept, SWait, SConditional, STimed, SIf, SCase, SBlock, SLoop}

-- a statement in which no other statement stands
abbrev pub IsSimple : PStmt → Type 0
IsSimple (SAccept a s) = ⊥
IsSimple (SWait x o s) = ⊥
IsSimple (SConditional c k o s) = ⊥
IsSimple (STimed c k d o s) = ⊥
IsSimple (SIf x o s) = ⊥
IsSimple (SCase e x o s) = ⊥
IsSimple (SBlock b s) = ⊥
IsSimple (SLoop w c k s) = ⊥
IsSimple _ = Unit {0}
