-- Frames that are left, entered or raised through keep what holds of their statements and of the formals in them, and no accept body opens or closes.
use Rattle.std.proofs.Common.{◌≡◌, Bool, true, false, List, [], ◌∷◌, ◌++◌, Option, Some, None, drop, refl, ◌∙◌}
use Rattle.std.specs.Prelude.{if◌then◌else◌}
use Rattle.ada_tree.specs.declared.naming.Word.{Word}
use Rattle.ada_tree.specs.PlainStmt.{PHead, PStmts, no_stmt, stmt_then, PHandlers, no_handler, handler_then, handler}
use Rattle.ada_value.specs.declared.values.Raised.{Raised}
use Rattle.ada_value.specs.Variables.{Variables}
use Rattle.task_model.specs.Frames.{Around, OwnBody, Block, Handling, Loop, Opened, PFrame, Control, control, in_front, settled_in, settled, is_for, handler_for, unit_with, block_with, raised_in, is_left, exited_in, brought_by}
use Rattle.task_laws.specs.invariants.AcceptHeads.{InStmts, InHandlers, InPlace, InParts}
use Rattle.task_laws.specs.invariants.Holding.{HeldIn, IsHeld, Opening, opening_at, openings_among, openings_in}

module _ (Head : PHead → Type 0) where
  -- what holds where a task stands that has opened these accept bodies
  pub record Good (openings : List Opening) (c : Control) : Type 0 where
    pub rest : InStmts Head c.top.rest
    pub place : InPlace Head c.top.place
    pub outer : InParts Head c.outer
    pub held : IsHeld c.top.place c.outer c.vars
    pub same : openings_in c ≡ openings

  pub in_front_in : (a b : PStmts) → InStmts Head a → InStmts Head b → InStmts Head (in_front a b)
  in_front_in no_stmt b h k = k
  in_front_in (stmt_then s more) b h k = (h.0, in_front_in more b h.1 k)

  pub good_settled : (outer : List PFrame) (rest : PStmts) (place : Around) (vars : Variables) → InStmts Head rest → InPlace Head place → InParts Head outer → IsHeld place outer vars →
      Good (opening_at place ++ openings_among outer) (settled_in outer rest place vars)
  good_settled outer (stmt_then s rest) place vars i p o h = record { rest = i; place = p; outer = o; held = h; same = refl }
  good_settled [] no_stmt place vars i p o h = record { rest = i; place = p; outer = o; held = h; same = refl }
  good_settled (part ∷ parts) no_stmt (Block handlers) vars i p o h = good_settled parts part.rest part.place vars o.0.0 o.0.1 o.1 h.1
  good_settled (part ∷ parts) no_stmt (Handling x) vars i p o h = good_settled parts part.rest part.place vars o.0.0 o.0.1 o.1 h.1
  good_settled (part ∷ parts) no_stmt (OwnBody handlers taken) vars i p o h = record { rest = i; place = p; outer = o; held = h; same = refl }
  good_settled (part ∷ parts) no_stmt (Loop name turns stmts) vars i p o h = record { rest = i; place = p; outer = o; held = h; same = refl }
  good_settled (part ∷ parts) no_stmt (Opened caller formals pending) vars i p o h = record { rest = i; place = p; outer = o; held = h; same = refl }

  pub good_settle : (openings : List Opening) (c : Control) → Good openings c → Good openings (settled c)
  good_settle openings c g =
      let s = good_settled c.outer c.top.rest c.top.place c.vars g.rest g.place g.outer g.held in
      record { rest = s.rest; place = s.place; outer = s.outer; held = s.held; same = s.same ∙ g.same }

  -- ---- exceptions

  -- statements that may be none
  abbrev InOption : Option PStmts → Type 0
  InOption None = Unit {0}
  InOption (Some stmts) = InStmts Head stmts

  handler_in : (x : Raised) (handlers : PHandlers) → InHandlers Head handlers → InOption (handler_for x handlers)
  handler_in x no_handler h = tt
  handler_in x (handler_then (handler names stmts s) rest) h = go (handler_in x rest h.1) (is_for x names)
    where
      go : InOption (handler_for x rest) → (b : Bool) → InOption (if b then Some stmts else handler_for x rest)
      go later true = h.0
      go later false = later

  good_unit : (o : Option PStmts) (x : Raised) (handlers : PHandlers) (outer : List PFrame) (vars : Variables) → InOption o → InHandlers Head handlers → InParts Head outer → HeldIn outer vars →
      Good (openings_among outer) (unit_with o x handlers outer vars)
  good_unit None x handlers outer vars i p o h = record { rest = tt; place = p; outer = o; held = (tt, h); same = refl }
  good_unit (Some stmts) x handlers outer vars i p o h = record { rest = i; place = p; outer = o; held = (tt, h); same = refl }

  good_block : (o : Option PStmts) (x : Raised) (outer : List PFrame) (vars : Variables) (beyond : Control) → InOption o → InParts Head outer → HeldIn outer vars →
      Good (openings_among outer) beyond → Good (openings_among outer) (block_with o x outer vars beyond)
  good_block None x outer vars beyond i o h g = g
  good_block (Some stmts) x outer vars beyond i o h g = record { rest = i; place = tt; outer = o; held = (tt, h); same = refl }

  pub good_raised : (x : Raised) (outer : List PFrame) (place : Around) (vars : Variables) → InPlace Head place → InParts Head outer → IsHeld place outer vars →
      Good (opening_at place ++ openings_among outer) (raised_in x outer place vars)
  good_raised x outer (OwnBody handlers None) vars p o h = good_unit (handler_for x handlers) x handlers outer vars (handler_in x handlers p) p o h.1
  good_raised x outer (OwnBody handlers (Some y)) vars p o h = record { rest = tt; place = p; outer = o; held = h; same = refl }
  good_raised x outer (Opened caller formals pending) vars p o h = record { rest = tt; place = tt; outer = o; held = h; same = refl }
  good_raised x [] (Block handlers) vars p o h = record { rest = tt; place = p; outer = o; held = h; same = refl }
  good_raised x [] (Handling y) vars p o h = record { rest = tt; place = p; outer = o; held = h; same = refl }
  good_raised x [] (Loop name turns stmts) vars p o h = record { rest = tt; place = p; outer = o; held = h; same = refl }
  good_raised x (part ∷ parts) (Block handlers) vars p o h =
      good_block (handler_for x handlers) x (part ∷ parts) vars (raised_in x parts part.place vars) (handler_in x handlers p) o h.1 (good_raised x parts part.place vars o.0.1 o.1 h.1)
  good_raised x (part ∷ parts) (Handling y) vars p o h = good_raised x parts part.place vars o.0.1 o.1 h.1
  good_raised x (part ∷ parts) (Loop name turns stmts) vars p o h = good_raised x parts part.place (drop (brought_by turns) vars) o.0.1 o.1 h.1

  good_if : (b : Bool) (openings : List Opening) (c d : Control) → Good openings c → Good openings d → Good openings (if◌then◌else◌ b c d)
  good_if true openings c d g h = g
  good_if false openings c d g h = h

  pub good_exited : (w : Option Word) (outer : List PFrame) (place : Around) (vars : Variables) → InPlace Head place → InParts Head outer → IsHeld place outer vars →
      Good (opening_at place ++ openings_among outer) (exited_in w outer place vars)
  good_exited w [] place vars p o h = record { rest = tt; place = p; outer = o; held = h; same = refl }
  good_exited w (part ∷ parts) (Block handlers) vars p o h = good_exited w parts part.place vars o.0.1 o.1 h.1
  good_exited w (part ∷ parts) (Handling x) vars p o h = good_exited w parts part.place vars o.0.1 o.1 h.1
  good_exited w (part ∷ parts) (Loop name turns stmts) vars p o h =
      good_if (is_left w name) (openings_among (part ∷ parts)) (control part.rest part.place parts (drop (brought_by turns) vars)) (exited_in w parts part.place (drop (brought_by turns) vars))
      (record { rest = o.0.0; place = o.0.1; outer = o.1; held = h.1; same = refl }) (good_exited w parts part.place (drop (brought_by turns) vars) o.0.1 o.1 h.1)
  good_exited w (part ∷ parts) (OwnBody handlers taken) vars p o h = record { rest = tt; place = p; outer = o; held = h; same = refl }
  good_exited w (part ∷ parts) (Opened caller formals pending) vars p o h = record { rest = tt; place = p; outer = o; held = h; same = refl }
