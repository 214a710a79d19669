-- What the controller does in one turn of its loop: the operation of one line of the tables (5.2, 5.4, 9.5, 11.2; this project's rule).
use Rattle.std.specs.Prelude.{ℕ, suc, List, [], ◌∷◌, Option, Some, None, drop}
use Rattle.ada_tree.specs.declared.naming.NameId.{NameId}
use Rattle.ada_tree.specs.declared.naming.Span.{Span}
use Rattle.ada_tree.specs.declared.statements.ParMode.TheVariants.{Give}
use Rattle.ada_tree.specs.PlainExpr.{PExpr, EInteger, EName, EIndex}
use Rattle.ada_tree.specs.PlainStmt.{PFormal, PStmt, SNull, SAssign, SCall, SAccept, SCase, SBlock, PStmts, stmts_of, PMaybe, absent, present, accepting, PCaseArm, case_arm, case_arms_of, body, PHandlers, no_handler, handler_then, handler}
use Rattle.syn_event.specs.declared.numbering.TaskInfo.{TaskInfo}
use Rattle.normal_model.specs.Ranges.{word_at}
use Rattle.normal_model.specs.Making.{one}
use Rattle.replay_model.specs.declared.tables.columns.Column.{Column}
use Rattle.replay_model.specs.declared.tables.columns.Column.TheVariants.{Operation, Task, Kind, Argument, Index}
use Rattle.replay_model.specs.declared.tables.names.ControlNames.{ControlNames}
use Rattle.replay_model.specs.tables.Columns.{table_name}

-- the line of a table in this turn: `DED_TS(DED_N)`
abbrev pub line_of : ControlNames → Span → Column → PExpr
line_of n s column = EIndex (word_at s (table_name n column)) (EName n.counter s) s

-- ---- permits

-- an accept statement of an entry
abbrev pub accept_by : Span → NameId → Option PExpr → List PFormal → PMaybe → PStmt
accept_by s name index formals stmts = SAccept (accepting (record { entry = word_at s name; index = index; formals = formals; span = s }) stmts) s

-- `DED_K, DED_A, DED_I : out INTEGER`
abbrev pub permit_formals : ControlNames → Span → List PFormal
permit_formals n s =
    record { names = word_at s n.kind ∷ word_at s n.argument ∷ word_at s n.index ∷ []; mode = Give; mark = word_at s record { 0 = 0 } } ∷ []

-- `DED_K := DED_KS(DED_N);` and the like
abbrev pub part_given : Span → NameId → PExpr → PStmt
part_given s name e = SAssign (record { name = word_at s name; index = None }) e s

-- the parts of the permit of this line are handed out
abbrev pub given : ControlNames → Span → List PStmt
given n s =
    part_given s n.kind (line_of n s Kind) ∷ part_given s n.argument (line_of n s Argument) ∷ part_given s n.index (line_of n s Index) ∷ []

-- The task of this line gets its permit.
abbrev pub going : ControlNames → Span → PStmt
going n s = accept_by s n.go (Some (line_of n s Task)) (permit_formals n s) (present (stmts_of (given n s)))

-- It is heard that the task of this line is done.
abbrev pub hearing : ControlNames → Span → PStmt
hearing n s = accept_by s n.done (Some (line_of n s Task)) [] absent

-- ---- waiting for a task

-- the call of DED_JOIN of a task, which nobody accepts
abbrev pub join_call : ControlNames → Span → NameId → PStmts
join_call n s task = one (SCall (record { task = record { name = word_at s task; index = None }; entry = word_at s n.join; args = None }) s)

-- so TASKING_ERROR tells the controller that the task is closed (9.5)
abbrev pub join_handlers : Span → PHandlers
join_handlers s = handler_then (handler (word_at s record { 0 = 9 } ∷ []) (one (SNull s)) s) no_handler

abbrev pub joined : ControlNames → Span → NameId → PStmt
joined n s task = SBlock (body (join_call n s task) (join_handlers s)) s

-- the statements of a case statement for one value
abbrev pub value_arm : Span → ℕ → PStmts → PCaseArm
value_arm s value stmts = case_arm (record { first = EInteger value s; last = None } ∷ []) stmts

-- a branch for each task, numbered from t on
abbrev pub join_arms : ControlNames → Span → ℕ → List TaskInfo → List PCaseArm
join_arms n s t [] = []
join_arms n s t (info ∷ infos) = value_arm s t (one (joined n s info.name)) ∷ join_arms n s (suc t) infos

-- The controller waits until the task of this line is closed, which is one beside main.
abbrev pub joining : ControlNames → List TaskInfo → Span → PStmt
joining n infos s = SCase (line_of n s Task) (case_arms_of (join_arms n s 1 (drop 1 infos))) (present (one (SNull s))) s

-- ---- the turn

-- the branches for a permit and for hearing that it is used
abbrev pub turn_arms : ControlNames → Span → List PCaseArm
turn_arms n s = value_arm s 1 (one (going n s)) ∷ value_arm s 2 (one (hearing n s)) ∷ []

-- By what the operation of this line is: a permit, hearing that it is used, or else waiting until a task is closed.
abbrev pub turn : ControlNames → List TaskInfo → Span → PStmt
turn n infos s = SCase (line_of n s Operation) (case_arms_of (turn_arms n s)) (present (one (joining n infos s))) s
