-- What holds of an accept of GO, of DONE and of HOLD holds of each accept in a body of the controller.
use Rattle.std.proofs.Common.{ℕ, zero, suc, Bool, true, false, List, [], ◌∷◌, ◌++◌, length, Some, None, drop}
use Rattle.ada_tree.specs.declared.naming.Span.{Span}
use Rattle.ada_tree.specs.PlainStmt.{PHead, stmts_of, case_arms_of}
use Rattle.syn_event.specs.declared.numbering.TaskInfo.{TaskInfo}
use Rattle.task_laws.specs.invariants.AcceptHeads.{InStmt, InStmts, InCaseArms, InBody}
use Rattle.control_script.specs.declared.Op.{Op}
use Rattle.normal_model.specs.Ranges.{word_at}
use Rattle.replay_model.specs.declared.tables.names.ControlNames.{ControlNames}
use Rattle.replay_model.specs.declared.tables.columns.Column.TheVariants.{Task}
use Rattle.replay_model.specs.tables.Columns.{acts, holds}
use Rattle.replay_model.specs.tables.Turns.{line_of, permit_formals, join_arms, turn}
use Rattle.replay_model.specs.tables.ControlBodies.{loops, waits, control_block}

module _ (Head : PHead → Type 0) (n : ControlNames) (infos : List TaskInfo) (s : Span) (go : Head (record { entry = word_at s n.go; index = Some (line_of n s Task); formals = permit_formals n s; span = s })) (done : Head (record { entry = word_at s n.done; index = Some (line_of n s Task); formals = []; span = s })) (hold : Head (record { entry = word_at s n.hold; index = None; formals = []; span = s })) where
  in-joins : (t : ℕ) (tasks : List TaskInfo) → InCaseArms Head (case_arms_of (join_arms n s t tasks))
  in-joins t [] = tt
  in-joins t (info ∷ tasks) = ((((tt, tt), ((tt, tt), tt)), tt), in-joins (suc t) tasks)

  in-turn : InStmt Head (turn n infos s)
  in-turn = ((((go, (tt, (tt, (tt, tt)))), tt), (((done, tt), tt), tt)), ((in-joins 1 (drop 1 infos), (tt, tt)), tt))

  in-rows : (count : ℕ) (held : Bool) → InStmts Head (stmts_of (loops n infos s count ++ waits n s held))
  in-rows zero true = ((hold, tt), tt)
  in-rows zero false = tt
  in-rows (suc count) true = ((in-turn, tt), ((hold, tt), tt))
  in-rows (suc count) false = ((in-turn, tt), tt)

  pub in-control : (ops : List Op) → InBody Head (control_block n infos s ops)
  in-control ops = (in-rows (length (acts ops)) (holds ops), tt)
