-- What a rewriter in code says of itself (this project's rule). It is a rewriter that, from before a statement until behind its parts, keeps a number and nothing else, and that puts what a wait's alternatives ask for directly in front of what takes the wait's place.
use Rattle.std.specs.Prelude.{ℕ}
use Rattle.ada_tree.specs.PlainStmt.{PStmt, PStmts, PAlt, alternative, PArm, arm, PCaseArm, case_arm, PHandler, handler}
use Rattle.task_model.specs.Frames.{in_front}
use Rattle.normal_model.specs.Walk.{Rewriter, after_stmts, after_kind, inside_kind, rewritten}

-- A rewriter with the state that it has on its way.
pub record Rule (S : Type 0) : Type 0 where
  -- what is kept of the state before a statement or alternative, until behind its parts
  pub number : S → ℕ
  -- the state behind what a statement asks for itself, and the same of an alternative
  pub entered_stmt : S → PStmt → S
  pub entered_alternative : S → PAlt → S
  -- what an alternative puts in front of its wait, by the number from before it
  pub lead : ℕ → PAlt → PStmts
  -- what stands in the place of an alternative, by that number and the alternative with its parts rewritten
  pub left_alternative : ℕ → PAlt → PAlt
  -- what stands in the place of a statement, by the number from before it and the statement with its parts rewritten
  pub replaced_stmt : ℕ → PStmt → PStmts

-- The walk of a rule.
abbrev pub walk_of : {S : Type 0} → Rule S → Rewriter S
walk_of r = record {
  entered_stmt = r.entered_stmt;
  entered_alternative = r.entered_alternative;
  lead = λ t x. r.lead (r.number t) x;
  left_alternative = λ t x. r.left_alternative (r.number t) x;
  replaced_stmt = λ t before x. in_front before (r.replaced_stmt (r.number t) x);
}

-- ---- the parts of statements that stand in lists, one alone

module _ {S : Type 0} (w : Rewriter S) where
  -- an arm of an if statement
  abbrev pub after_arm : PArm → S → S
  after_arm (arm e l) t = after_stmts w l t

  abbrev pub inside_arm : PArm → S → PArm
  inside_arm (arm e l) t = arm e (rewritten w l t)

  -- an arm of a case statement
  abbrev pub after_case_arm : PCaseArm → S → S
  after_case_arm (case_arm cs l) t = after_stmts w l t

  abbrev pub inside_case_arm : PCaseArm → S → PCaseArm
  inside_case_arm (case_arm cs l) t = case_arm cs (rewritten w l t)

  -- a handler
  abbrev pub after_handler : PHandler → S → S
  after_handler (handler ws l s) t = after_stmts w l t

  abbrev pub inside_handler : PHandler → S → PHandler
  inside_handler (handler ws l s) t = handler ws (rewritten w l t) s

  -- an alternative of a selective wait
  abbrev pub behind_alt : PAlt → S → S
  behind_alt (alternative g k s) t = after_kind w k (w.entered_alternative t (alternative g k s))

  abbrev pub inside_alt : PAlt → S → PAlt
  inside_alt (alternative g k s) t = w.left_alternative t (alternative g (inside_kind w k (w.entered_alternative t (alternative g k s))) s)
