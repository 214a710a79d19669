-- What holds of each statement of a task holds after frames are left, entered or raised through.
use Rattle.std.proofs.Common.{Bool, true, false, if◌then◌else◌, List, [], ◌∷◌, drop, Option, Some, None}
use Rattle.ada_tree.specs.declared.naming.Word.{Word}
use Rattle.ada_tree.specs.PlainStmt.{PStmt, PStmts, no_stmt, stmt_then, PHandlers, no_handler, handler_then, handler}
use Rattle.ada_value.specs.declared.values.Raised.{Raised}
use Rattle.ada_value.specs.Variables.{Variables}
use Rattle.task_model.specs.Frames.{Around, OwnBody, Block, Handling, Loop, Opened, PFrame, Control, control, in_front, settled_in, settled, brought_by, is_for, handler_for, unit_with, block_with, raised_in, is_left, exited_in}
use Rattle.task_laws.specs.statements.Each.{Loops, InStmts, InHandlers, loops_of, InPlace, InOuter, HoldsAt}

module _ (Each : Loops → PStmt → Type 0) where
  -- rows that are joined
  pub joined : (loops : Loops) (a b : PStmts) → InStmts Each loops a → InStmts Each loops b → InStmts Each loops (in_front a b)
  joined loops no_stmt b h k = k
  joined loops (stmt_then s more) b h k = (h.0, joined loops more b h.1 k)

  pub at-settled : (outer : List PFrame) (rest : PStmts) (place : Around) (vars : Variables) → InStmts Each (loops_of place outer) rest → InPlace Each place outer → InOuter Each outer → HoldsAt Each (settled_in outer rest place vars)
  at-settled outer (stmt_then s rest) place vars i p o = record { rest = i; place = p; outer = o }
  at-settled [] no_stmt place vars i p o = record { rest = i; place = p; outer = o }
  at-settled (part ∷ parts) no_stmt (Block handlers) vars i p o = at-settled parts part.rest part.place vars o.0.0 o.0.1 o.1
  at-settled (part ∷ parts) no_stmt (Handling x) vars i p o = at-settled parts part.rest part.place vars o.0.0 o.0.1 o.1
  at-settled (part ∷ parts) no_stmt (OwnBody handlers taken) vars i p o = record { rest = i; place = p; outer = o }
  at-settled (part ∷ parts) no_stmt (Loop name turns stmts) vars i p o = record { rest = i; place = p; outer = o }
  at-settled (part ∷ parts) no_stmt (Opened caller formals pending) vars i p o = record { rest = i; place = p; outer = o }

  pub settles : (c : Control) → HoldsAt Each c → HoldsAt Each (settled c)
  settles c h = at-settled c.outer c.top.rest c.top.place c.vars h.rest h.place h.outer

  -- ---- exceptions

  abbrev InOption : Loops → Option PStmts → Type 0
  InOption loops None = Unit {0}
  InOption loops (Some stmts) = InStmts Each loops stmts

  of-handler : (loops : Loops) (x : Raised) (handlers : PHandlers) → InHandlers Each loops handlers → InOption loops (handler_for x handlers)
  of-handler loops x no_handler h = tt
  of-handler loops x (handler_then (handler names stmts s) rest) h = by_test (is_for x names) (of-handler loops x rest h.1)
    where
      by_test : (b : Bool) → InOption loops (handler_for x rest) → InOption loops (if b then Some stmts else handler_for x rest)
      by_test true later = h.0
      by_test false later = later

  in-unit : (o : Option PStmts) (x : Raised) (handlers : PHandlers) (outer : List PFrame) (vars : Variables) → InOption [] o → InHandlers Each [] handlers → InOuter Each outer → HoldsAt Each (unit_with o x handlers outer vars)
  in-unit None x handlers outer vars i p o = record { rest = tt; place = p; outer = o }
  in-unit (Some stmts) x handlers outer vars i p o = record { rest = i; place = p; outer = o }

  in-block : (o : Option PStmts) (x : Raised) (part : PFrame) (parts : List PFrame) (vars : Variables) (beyond : Control) → InOption (loops_of part.place parts) o → InOuter Each (part ∷ parts) → HoldsAt Each beyond →
      HoldsAt Each (block_with o x (part ∷ parts) vars beyond)
  in-block None x part parts vars beyond i o h = h
  in-block (Some stmts) x part parts vars beyond i o h = record { rest = i; place = tt; outer = o }

  pub at-raised : (x : Raised) (outer : List PFrame) (place : Around) (vars : Variables) → InPlace Each place outer → InOuter Each outer → HoldsAt Each (raised_in x outer place vars)
  at-raised x outer (OwnBody handlers None) vars p o = in-unit (handler_for x handlers) x handlers outer vars (of-handler [] x handlers p) p o
  at-raised x outer (OwnBody handlers (Some y)) vars p o = record { rest = tt; place = p; outer = o }
  at-raised x outer (Opened caller formals pending) vars p o = record { rest = tt; place = tt; outer = o }
  at-raised x [] (Block handlers) vars p o = absurd p
  at-raised x [] (Handling y) vars p o = absurd p
  at-raised x [] (Loop name turns stmts) vars p o = absurd p
  at-raised x (part ∷ parts) (Block handlers) vars p o =
      in-block (handler_for x handlers) x part parts vars (raised_in x parts part.place vars) (of-handler (loops_of part.place parts) x handlers p) o (at-raised x parts part.place vars o.0.1 o.1)
  at-raised x (part ∷ parts) (Handling y) vars p o = at-raised x parts part.place vars o.0.1 o.1
  at-raised x (part ∷ parts) (Loop name turns stmts) vars p o = at-raised x parts part.place (drop (brought_by turns) vars) o.0.1 o.1

  -- ---- exits

  pub either-holds : (b : Bool) (c d : Control) → HoldsAt Each c → HoldsAt Each d → HoldsAt Each (if◌then◌else◌ b c d)
  either-holds true c d h k = h
  either-holds false c d h k = k

  pub at-exited : (w : Option Word) (outer : List PFrame) (place : Around) (vars : Variables) → InPlace Each place outer → InOuter Each outer → HoldsAt Each (exited_in w outer place vars)
  at-exited w [] (OwnBody handlers taken) vars p o = record { rest = tt; place = p; outer = o }
  at-exited w [] (Opened caller formals pending) vars p o = record { rest = tt; place = p; outer = o }
  at-exited w [] (Block handlers) vars p o = absurd p
  at-exited w [] (Handling x) vars p o = absurd p
  at-exited w [] (Loop name turns stmts) vars p o = absurd p
  at-exited w (part ∷ parts) (Block handlers) vars p o = at-exited w parts part.place vars o.0.1 o.1
  at-exited w (part ∷ parts) (Handling x) vars p o = at-exited w parts part.place vars o.0.1 o.1
  at-exited w (part ∷ parts) (Loop name turns stmts) vars p o =
      either-holds (is_left w name) (control part.rest part.place parts (drop (brought_by turns) vars)) (exited_in w parts part.place (drop (brought_by turns) vars))
      (record { rest = o.0.0; place = o.0.1; outer = o.1 }) (at-exited w parts part.place (drop (brought_by turns) vars) o.0.1 o.1)
  at-exited w (part ∷ parts) (OwnBody handlers taken) vars p o = record { rest = tt; place = p; outer = o }
  at-exited w (part ∷ parts) (Opened caller formals pending) vars p o = record { rest = tt; place = p; outer = o }
