-- Where a task and its image stand: frame by frame alike down to a floor, on which the image may have frames of its own (this project's rule).
use Rattle.std.specs.Prelude.{◌≡◌, ℕ, ℤ, Bool, true, List, ◌∷◌, Option}
use Rattle.ada_tree.specs.declared.naming.Span.{Span}
use Rattle.ada_tree.specs.declared.naming.Word.{Word}
use Rattle.ada_tree.specs.PlainExpr.{PExpr}
use Rattle.ada_tree.specs.PlainStmt.{PStmt, SExit, PStmts, no_stmt, stmt_then, PHandlers}
use Rattle.ada_value.specs.declared.values.Raised.{Raised}
use Rattle.ada_value.specs.Variables.{Object, Variables}
use Rattle.task_model.specs.Setting.{Setting}
use Rattle.task_model.specs.Frames.{Turns, Endless, While, Counting, Around, Block, Handling, Loop, PFrame, Control, control, settled, is_left}
use Rattle.task_model.specs.Tasks.{Task, rest_of, place_of, outer_of}
use Rattle.task_model.specs.Stands.{can_step, stepped}
use Rattle.task_laws.specs.translation.Translations.{Translation, IsOld}
use Rattle.task_laws.specs.translation.OldNames.{OldExpr}
use Rattle.task_laws.specs.translation.Scopes.{HasKnown}
use Rattle.task_laws.specs.translation.Images.{ImageHandlers, IsLocal}

-- a frame, of the statements left in it and what it stands in
abbrev pub frame : PStmts → Around → PFrame
frame rest place = record { rest = rest; place = place }

-- What a frame stands in, with the frames outside of it and the variables, and the same of the image: down to the floor each block, handler and loop
-- has its image. A loop parameter is the same variable on both sides.
pub data Under (x : Translation) : Around → List PFrame → Variables → Around → List PFrame → Variables → Type 0 where
  on_floor : {p p' : Around} {o o' : List PFrame} {V V' : Variables} → x.floor p o V p' o' V' → Under x p o V p' o' V'
  in_block : {p p' : Around} {o o' : List PFrame} {V V' : Variables} (hs hs' : PHandlers) (r r' : PStmts) → ImageHandlers x.text hs hs' → x.text.image r r' → Under x p o V p' o' V' →
      Under x (Block hs) (frame r p ∷ o) V (Block hs') (frame r' p' ∷ o') V'
  in_handler : {p p' : Around} {o o' : List PFrame} {V V' : Variables} (e : Raised) (r r' : PStmts) → x.text.image r r' → Under x p o V p' o' V' →
      Under x (Handling e) (frame r p ∷ o) V (Handling e) (frame r' p' ∷ o') V'
  in_endless : {p p' : Around} {o o' : List PFrame} {V V' : Variables} (name : Option Word) (l l' r r' : PStmts) → x.text.image l l' → x.text.image r r' → Under x p o V p' o' V' →
      Under x (Loop name Endless l) (frame r p ∷ o) V (Loop name Endless l') (frame r' p' ∷ o') V'
  in_while : {p p' : Around} {o o' : List PFrame} {V V' : Variables} (name : Option Word) (e : PExpr) (l l' r r' : PStmts) → OldExpr x.text.programs e → x.text.image l l' → x.text.image r r' → Under x p o V p' o' V' →
      Under x (Loop name (While e) l) (frame r p ∷ o) V (Loop name (While e) l') (frame r' p' ∷ o') V'
  in_count : {p p' : Around} {o o' : List PFrame} {V V' : Variables} (name : Option Word) (backwards : Bool) (last : ℤ) (l l' r r' : PStmts) (b : Object) → IsOld x.text.programs b.name → HasKnown x.text.programs b →
      x.text.image l l' → x.text.image r r' → Under x p o V p' o' V' →
      Under x (Loop name (Counting backwards last) l) (frame r p ∷ o) (b ∷ V) (Loop name (Counting backwards last) l') (frame r' p' ∷ o') (b ∷ V')

-- Where a task stands and where its image stands.
pub data Follows (x : Translation) : Control → Control → Type 0 where
  -- in statements and an image of them
  inside : {p p' : Around} {o o' : List PFrame} {V V' : Variables} (r r' : PStmts) → x.text.image r r' → Under x p o V p' o' V' → Follows x (control r p o V) (control r' p' o' V')
  -- behind those of the floor
  behind : (c d : Control) → x.beyond c d → Follows x c d

-- the same once frames that are over are left
pub record Settle (x : Translation) (c d : Control) : Type 0 where
  pub follows : Follows x (settled c) (settled d)

-- ---- tasks

-- a task, by its parts
abbrev pub task_in : Setting → ℕ → List ℤ → List ℕ → Control → Task
task_in g n input output c = record { setting = g; number = n; control = c; input = input; output = output }

-- A task and its image: they have the same number, the same input left and the same output, and the image stands where it follows the task.
pub data Alike (x : Translation) : Task → Task → Type 0 where
  alike : (n : ℕ) (input : List ℤ) (output : List ℕ) (c d : Control) → Follows x c d → Alike x (task_in x.text.programs.original n input output c) (task_in x.text.programs.made n input output d)

-- an exit from there leaves a loop around it: the innermost, or the one that it names (5.7)
pub data LeavesLoop (w : Option Word) : Around → List PFrame → Type 0 where
  leaves_this : (name : Option Word) (turns : Turns) (l : PStmts) (part : PFrame) (parts : List PFrame) → is_left w name ≡ true → LeavesLoop w (Loop name turns l) (part ∷ parts)
  leaves_outer : (name : Option Word) (turns : Turns) (l : PStmts) (part : PFrame) (parts : List PFrame) → LeavesLoop w part.place parts → LeavesLoop w (Loop name turns l) (part ∷ parts)
  leaves_from_block : (hs : PHandlers) (part : PFrame) (parts : List PFrame) → LeavesLoop w part.place parts → LeavesLoop w (Block hs) (part ∷ parts)
  leaves_from_handler : (e : Raised) (part : PFrame) (parts : List PFrame) → LeavesLoop w part.place parts → LeavesLoop w (Handling e) (part ∷ parts)

-- statements that begin with an exit of that name
pub data IsExit (w : Option Word) : PStmts → Type 0 where
  is_exit : (test : Option PExpr) (s : Span) (rest : PStmts) → IsExit w (stmt_then (SExit w test s) rest)

-- where the task stands at an exit, the exit leaves a loop
abbrev pub ExitsLoop : Task → Type 0
ExitsLoop σ = (w : Option Word) → IsExit w (rest_of σ) → LeavesLoop w (place_of σ) (outer_of σ)

-- a task that stands at a statement that does not synchronize, or at the end of a loop's statements
pub data IsAtLocal : PStmts → Around → Type 0 where
  at_statement : (s : PStmt) (rest : PStmts) (p : Around) → IsLocal s → IsAtLocal (stmt_then s rest) p
  at_turn : (name : Option Word) (turns : Turns) (l : PStmts) → IsAtLocal no_stmt (Loop name turns l)

-- A task and its image in statements that are translated.
pub data AreInside (x : Translation) : Task → Task → Type 0 where
  are_inside : {p p' : Around} {o o' : List PFrame} {V V' : Variables} (n : ℕ) (input : List ℤ) (output : List ℕ) (r r' : PStmts) → x.text.image r r' → Under x p o V p' o' V' →
      AreInside x (task_in x.text.programs.original n input output (control r p o V)) (task_in x.text.programs.made n input output (control r' p' o' V'))

-- A task and its image in frames that go together, whatever is left of the statements in the innermost.
pub data AreAround (x : Translation) : Task → Task → Type 0 where
  are_around : {p p' : Around} {o o' : List PFrame} {V V' : Variables} (n : ℕ) (input : List ℤ) (output : List ℕ) (r r' : PStmts) → Under x p o V p' o' V' →
      AreAround x (task_in x.text.programs.original n input output (control r p o V)) (task_in x.text.programs.made n input output (control r' p' o' V'))

-- Both have a local step, and behind it they are alike again.
pub record StepAlike (x : Translation) (σ κ : Task) : Type 0 where
  pub steps : can_step σ ≡ true
  pub steps_too : can_step κ ≡ true
  pub after : Alike x (stepped σ) (stepped κ)
