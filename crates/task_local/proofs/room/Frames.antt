-- Frames that are left, entered or raised through have no wider wait than before.
use Rattle.std.specs.Prelude.{ℕ, ◌≤◌, max, Bool, true, false, if◌then◌else◌, List, [], ◌∷◌, Option, Some, None, drop}
use Rattle.std.proofs.Common.{arith}
use Rattle.std.proofs.Math.Nat.{max-le}
use Rattle.ada_tree.specs.declared.naming.Word.{Word}
use Rattle.ada_tree.specs.PlainStmt.{PStmts, no_stmt, stmt_then, PHandlers, no_handler, handler_then, handler}
use Rattle.ada_value.specs.declared.values.Raised.{Raised}
use Rattle.ada_value.specs.Variables.{Variables}
use Rattle.task_model.specs.Frames.{Around, OwnBody, Block, Handling, Loop, Opened, PFrame, Control, control, in_front, settled_in, settled, is_for, handler_for, unit_with, block_with, raised_in, is_left, exited_in, brought_by}
use Rattle.task_local.specs.room.Fitting.{FitsStmts, FitsHandlers, FitsPlace, FitsParts, FitsControl}

-- where the wider of two fits both do
pub left_fits : (a b : ℕ) {n : ℕ} → max a b ≤ n → a ≤ n
left_fits a b h = omega arith

pub right_fits : (a b : ℕ) {n : ℕ} → max a b ≤ n → b ≤ n
right_fits a b h = omega arith

module _ (n : ℕ) where
  -- nothing fits always
  pub none_fits : 0 ≤ n
  none_fits = omega arith

  pub in_front_fits : (a b : PStmts) → FitsStmts n a → FitsStmts n b → FitsStmts n (in_front a b)
  in_front_fits no_stmt b h k = k
  in_front_fits (stmt_then s more) b h k = max-le (left_fits _ _ h) (in_front_fits more b (right_fits _ _ h) k)

  pub settled_in_fits : (outer : List PFrame) (rest : PStmts) (place : Around) (vars : Variables) → FitsStmts n rest → FitsPlace n place → FitsParts n outer →
      FitsControl n (settled_in outer rest place vars)
  settled_in_fits outer (stmt_then s rest) place vars i p o = ((i, p), o)
  settled_in_fits [] no_stmt place vars i p o = ((i, p), o)
  settled_in_fits (part ∷ parts) no_stmt (Block handlers) vars i p o = settled_in_fits parts part.rest part.place vars o.0.0 o.0.1 o.1
  settled_in_fits (part ∷ parts) no_stmt (Handling x) vars i p o = settled_in_fits parts part.rest part.place vars o.0.0 o.0.1 o.1
  settled_in_fits (part ∷ parts) no_stmt (OwnBody handlers taken) vars i p o = ((i, p), o)
  settled_in_fits (part ∷ parts) no_stmt (Loop name turns stmts) vars i p o = ((i, p), o)
  settled_in_fits (part ∷ parts) no_stmt (Opened caller formals pending) vars i p o = ((i, p), o)

  pub settled_fits : (c : Control) → FitsControl n c → FitsControl n (settled c)
  settled_fits c h = settled_in_fits c.outer c.top.rest c.top.place c.vars h.0.0 h.0.1 h.1

  -- ---- exceptions

  -- statements that may be none
  abbrev FitsOption : Option PStmts → Type 0
  FitsOption None = Unit {0}
  FitsOption (Some stmts) = FitsStmts n stmts

  handler_fits : (x : Raised) (handlers : PHandlers) → FitsHandlers n handlers → FitsOption (handler_for x handlers)
  handler_fits x no_handler h = tt
  handler_fits x (handler_then (handler names stmts s) rest) h = go (handler_fits x rest (right_fits _ _ h)) (is_for x names)
    where
      go : FitsOption (handler_for x rest) → (b : Bool) → FitsOption (if b then Some stmts else handler_for x rest)
      go later true = left_fits _ _ h
      go later false = later

  unit_fits : (o : Option PStmts) (x : Raised) (handlers : PHandlers) (outer : List PFrame) (vars : Variables) → FitsOption o → FitsHandlers n handlers → FitsParts n outer →
      FitsControl n (unit_with o x handlers outer vars)
  unit_fits None x handlers outer vars i p o = ((none_fits, p), o)
  unit_fits (Some stmts) x handlers outer vars i p o = ((i, p), o)

  block_fits : (o : Option PStmts) (x : Raised) (outer : List PFrame) (vars : Variables) (beyond : Control) → FitsOption o → FitsParts n outer → FitsControl n beyond →
      FitsControl n (block_with o x outer vars beyond)
  block_fits None x outer vars beyond i o h = h
  block_fits (Some stmts) x outer vars beyond i o h = ((i, tt), o)

  pub raised_in_fits : (x : Raised) (outer : List PFrame) (place : Around) (vars : Variables) → FitsPlace n place → FitsParts n outer → FitsControl n (raised_in x outer place vars)
  raised_in_fits x outer (OwnBody handlers None) vars p o = unit_fits (handler_for x handlers) x handlers outer vars (handler_fits x handlers p) p o
  raised_in_fits x outer (OwnBody handlers (Some y)) vars p o = ((none_fits, p), o)
  raised_in_fits x outer (Opened caller formals pending) vars p o = ((none_fits, tt), o)
  raised_in_fits x [] (Block handlers) vars p o = ((none_fits, p), o)
  raised_in_fits x [] (Handling y) vars p o = ((none_fits, p), o)
  raised_in_fits x [] (Loop name turns stmts) vars p o = ((none_fits, p), o)
  raised_in_fits x (part ∷ parts) (Block handlers) vars p o =
      block_fits (handler_for x handlers) x (part ∷ parts) vars (raised_in x parts part.place vars) (handler_fits x handlers p) o (raised_in_fits x parts part.place vars o.0.1 o.1)
  raised_in_fits x (part ∷ parts) (Handling y) vars p o = raised_in_fits x parts part.place vars o.0.1 o.1
  raised_in_fits x (part ∷ parts) (Loop name turns stmts) vars p o = raised_in_fits x parts part.place (drop (brought_by turns) vars) o.0.1 o.1

  -- ---- exits

  either_fits : (b : Bool) (c d : Control) → FitsControl n c → FitsControl n d → FitsControl n (if◌then◌else◌ b c d)
  either_fits true c d h k = h
  either_fits false c d h k = k

  pub exited_in_fits : (w : Option Word) (outer : List PFrame) (place : Around) (vars : Variables) → FitsPlace n place → FitsParts n outer → FitsControl n (exited_in w outer place vars)
  exited_in_fits w [] place vars p o = ((none_fits, p), o)
  exited_in_fits w (part ∷ parts) (Block handlers) vars p o = exited_in_fits w parts part.place vars o.0.1 o.1
  exited_in_fits w (part ∷ parts) (Handling x) vars p o = exited_in_fits w parts part.place vars o.0.1 o.1
  exited_in_fits w (part ∷ parts) (Loop name turns stmts) vars p o =
      either_fits (is_left w name) (control part.rest part.place parts (drop (brought_by turns) vars)) (exited_in w parts part.place (drop (brought_by turns) vars))
      o (exited_in_fits w parts part.place (drop (brought_by turns) vars) o.0.1 o.1)
  exited_in_fits w (part ∷ parts) (OwnBody handlers taken) vars p o = ((none_fits, p), o)
  exited_in_fits w (part ∷ parts) (Opened caller formals pending) vars p o = ((none_fits, p), o)
