-- What is asked of the floors of a translation (this project's rule): names, and what happens where the statements on a floor end, are left by an
-- exception, or by an exit.
use Rattle.std.specs.Prelude.{◌≡◌, ℕ, false, List, Option}
use Rattle.ada_tree.specs.declared.naming.NameId.{NameId}
use Rattle.ada_tree.specs.declared.naming.Word.{Word}
use Rattle.ada_tree.specs.PlainStmt.{PStmts, no_stmt}
use Rattle.ada_value.specs.declared.values.Value.{Value}
use Rattle.ada_value.specs.declared.values.Raised.{Raised}
use Rattle.ada_value.specs.Variables.{Variables, set_value}
use Rattle.task_model.specs.Frames.{Turns, Around, Loop, PFrame, control, handled_at, handled_among, or_else, raised_in, exited_in}
use Rattle.task_laws.specs.translation.Translations.{Translation, IsOld, IsKnown}
use Rattle.task_laws.specs.translation.Scopes.{AgreeOnTypes, SeeAlike}
use Rattle.task_laws.specs.translation.Images.{AreImages}
use Rattle.task_laws.specs.translation.Controls.{LeavesLoop, Settle}

-- the exception of the innermost handler around, if there is one
abbrev pub handled_around : Around → List PFrame → Option Raised
handled_around p o = or_else (handled_at p) (handled_among o)

-- Names on a floor: both see the same variables by old names. What is assigned to an old name on both sides leaves a floor, and so does what the
-- image alone assigns to a name that is added. The innermost handler is for the same exception.
pub record AreScopes (x : Translation) : Type 0 where
  pub sees : (p p' : Around) (o o' : List PFrame) (V V' : Variables) → x.floor p o V p' o' V' → SeeAlike x.text.programs V V'
  pub set : (p p' : Around) (o o' : List PFrame) (V V' : Variables) (id : NameId) (k : ℕ) (v : Value) → IsOld x.text.programs id → IsKnown x.text.programs v →
      x.floor p o V p' o' V' → x.floor p o (set_value V id k v) p' o' (set_value V' id k v)
  pub add : (p p' : Around) (o o' : List PFrame) (V V' : Variables) (id : NameId) (k : ℕ) (v : Value) → x.text.programs.is_old id.0 ≡ false →
      x.floor p o V p' o' V' → x.floor p o V p' o' (set_value V' id k v)
  pub handled : (p p' : Around) (o o' : List PFrame) (V V' : Variables) → x.floor p o V p' o' V' → handled_around p o ≡ handled_around p' o'

-- Ends on a floor, which is no loop: where the statements are over or an exception leaves them, the image follows.
pub record AreFloors (x : Translation) : Type 0 where
  pub apart : (name : Option Word) (turns : Turns) (l : PStmts) (p' : Around) (o o' : List PFrame) (V V' : Variables) → x.floor (Loop name turns l) o V p' o' V' → ⊥
  pub over : (p p' : Around) (o o' : List PFrame) (V V' : Variables) → x.floor p o V p' o' V' → Settle x (control no_stmt p o V) (control no_stmt p' o' V')
  pub raised : (e : Raised) (p p' : Around) (o o' : List PFrame) (V V' : Variables) → x.floor p o V p' o' V' → Settle x (raised_in e o p V) (raised_in e o' p' V')

-- Exits on a floor: where one leads out of the statements, as in no legal program, the image follows. Not every translation is so.
pub record AreExits (x : Translation) : Type 0 where
  pub exited : (w : Option Word) (p p' : Around) (o o' : List PFrame) (V V' : Variables) → x.floor p o V p' o' V' → Settle x (exited_in w o p V) (exited_in w o' p' V')

-- No exit from a floor leaves a loop outside of it, as from a unit's body or an accept body (5.7).
pub record AreClosed (x : Translation) : Type 0 where
  pub closed : (w : Option Word) (p p' : Around) (o o' : List PFrame) (V V' : Variables) → x.floor p o V p' o' V' → LeavesLoop w p o → ⊥

-- What is asked of a translation.
pub record IsTranslation (x : Translation) : Type 0 where
  pub types : AgreeOnTypes x.text.programs
  pub images : AreImages x.text
  pub scopes : AreScopes x
  pub floors : AreFloors x
