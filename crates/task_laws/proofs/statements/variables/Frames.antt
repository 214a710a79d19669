-- The variables of a task are held as frames are left, entered or raised through.
use Rattle.std.proofs.Common.{ℕ, Bool, true, false, if◌then◌else◌, List, [], ◌∷◌, drop, Option, Some, None}
use Rattle.ada_tree.specs.declared.naming.Word.{Word}
use Rattle.ada_tree.specs.PlainStmt.{PStmts, no_stmt, stmt_then, PHandlers}
use Rattle.ada_value.specs.declared.values.Raised.{Raised}
use Rattle.ada_value.specs.Variables.{Variables}
use Rattle.task_model.specs.Frames.{Around, OwnBody, Block, Handling, Loop, Opened, PFrame, Control, control, settled_in, settled, brought, brought_by, handler_for, unit_with, block_with, raised_in, is_left, exited_in}
use Rattle.task_laws.specs.statements.variables.Held.{FirstInner, HeldIn, HeldAt}

module _ (inner : ℕ → Bool) (start : Variables) where
  -- the variables of a frame of this sort, with those outside
  abbrev pub Held : Around → List PFrame → Variables → Type 0
  Held place outer vars = FirstInner inner (brought place) vars × HeldIn inner start outer (drop (brought place) vars)

  pub held-settled : (outer : List PFrame) (rest : PStmts) (place : Around) (vars : Variables) → Held place outer vars → HeldAt inner start (settled_in outer rest place vars)
  held-settled outer (stmt_then s rest) place vars h = h
  held-settled [] no_stmt place vars h = h
  held-settled (part ∷ parts) no_stmt (Block handlers) vars h = held-settled parts part.rest part.place vars h.1
  held-settled (part ∷ parts) no_stmt (Handling x) vars h = held-settled parts part.rest part.place vars h.1
  held-settled (part ∷ parts) no_stmt (OwnBody handlers taken) vars h = h
  held-settled (part ∷ parts) no_stmt (Loop name turns stmts) vars h = h
  held-settled (part ∷ parts) no_stmt (Opened caller formals pending) vars h = h

  pub held-settles : (c : Control) → HeldAt inner start c → HeldAt inner start (settled c)
  held-settles c h = held-settled c.outer c.top.rest c.top.place c.vars h

  -- ---- exceptions

  in-unit : (o : Option PStmts) (x : Raised) (handlers : PHandlers) (outer : List PFrame) (vars : Variables) → HeldIn inner start outer vars → HeldAt inner start (unit_with o x handlers outer vars)
  in-unit None x handlers outer vars h = (tt, h)
  in-unit (Some stmts) x handlers outer vars h = (tt, h)

  in-block : (o : Option PStmts) (x : Raised) (outer : List PFrame) (vars : Variables) (beyond : Control) → HeldIn inner start outer vars → HeldAt inner start beyond → HeldAt inner start (block_with o x outer vars beyond)
  in-block None x outer vars beyond h k = k
  in-block (Some stmts) x outer vars beyond h k = (tt, h)

  pub held-raised : (x : Raised) (outer : List PFrame) (place : Around) (vars : Variables) → Held place outer vars → HeldAt inner start (raised_in x outer place vars)
  held-raised x outer (OwnBody handlers None) vars h = in-unit (handler_for x handlers) x handlers outer vars h.1
  held-raised x outer (OwnBody handlers (Some y)) vars h = h
  held-raised x outer (Opened caller formals pending) vars h = h
  held-raised x [] (Block handlers) vars h = h
  held-raised x [] (Handling y) vars h = h
  held-raised x [] (Loop name turns stmts) vars h = h
  held-raised x (part ∷ parts) (Block handlers) vars h =
      in-block (handler_for x handlers) x (part ∷ parts) vars (raised_in x parts part.place vars) h.1 (held-raised x parts part.place vars h.1)
  held-raised x (part ∷ parts) (Handling y) vars h = held-raised x parts part.place vars h.1
  held-raised x (part ∷ parts) (Loop name turns stmts) vars h = held-raised x parts part.place (drop (brought_by turns) vars) h.1

  -- ---- exits

  either-held : (b : Bool) (c d : Control) → HeldAt inner start c → HeldAt inner start d → HeldAt inner start (if◌then◌else◌ b c d)
  either-held true c d h k = h
  either-held false c d h k = k

  pub held-exited : (w : Option Word) (outer : List PFrame) (place : Around) (vars : Variables) → Held place outer vars → HeldAt inner start (exited_in w outer place vars)
  held-exited w [] place vars h = h
  held-exited w (part ∷ parts) (Block handlers) vars h = held-exited w parts part.place vars h.1
  held-exited w (part ∷ parts) (Handling x) vars h = held-exited w parts part.place vars h.1
  held-exited w (part ∷ parts) (Loop name turns stmts) vars h =
      either-held (is_left w name) (control part.rest part.place parts (drop (brought_by turns) vars)) (exited_in w parts part.place (drop (brought_by turns) vars))
      h.1 (held-exited w parts part.place (drop (brought_by turns) vars) h.1)
  held-exited w (part ∷ parts) (OwnBody handlers taken) vars h = h
  held-exited w (part ∷ parts) (Opened caller formals pending) vars h = h
