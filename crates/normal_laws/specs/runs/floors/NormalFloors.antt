-- Where the statements of a task in the normal form begin (this project's rule): in the unit's own body, which has the same handlers, and in accept
-- bodies, as many as are open, with no frames of their own. The unit has variables that the original has not.
use Rattle.std.specs.Prelude.{◌≡◌, ℕ, zero, suc, false, List, [], ◌∷◌, ◌++◌, Option}
use Rattle.ada_tree.specs.PlainStmt.{PStmts, PHandlers}
use Rattle.ada_value.specs.declared.values.Raised.{Raised}
use Rattle.ada_value.specs.Variables.{Object, Variables}
use Rattle.task_model.specs.declared.parameters.FormalParameter.{FormalParameter}
use Rattle.task_model.specs.Frames.{Around, OwnBody, Opened, PFrame}
use Rattle.task_laws.specs.translation.Translations.{Standing, Programs, Rewriting, Translation, IsOld}
use Rattle.task_laws.specs.translation.Scopes.{HasKnown}
use Rattle.task_laws.specs.translation.Images.{ImageHandlers}
use Rattle.task_laws.specs.translation.Controls.{frame, Under}
use Rattle.task_laws.specs.translation.Itself.{Nowhere}
use Rattle.task_model.specs.Setting.{Setting}
use Rattle.normal_laws.specs.runs.floors.Preludes.{Added, AreThere}

-- Variables, and the same with added ones among them.
pub data Extends (b : Programs) : Variables → Variables → Type 0 where
  extends_none : Extends b [] []
  extends_old : (o : Object) (V V' : Variables) → IsOld b o.name → HasKnown b o → Extends b V V' → Extends b (o ∷ V) (o ∷ V')
  extends_new : (o : Object) (V V' : Variables) → b.is_old o.name.0 ≡ false → Extends b V V' → Extends b V (o ∷ V')

-- the formals of an accept body as variables, one for each: of old names, with values of known kinds
pub data AreOpen (b : Programs) : List FormalParameter → List Object → Type 0 where
  none_open : AreOpen b [] []
  open_then : (f : FormalParameter) (o : Object) (fs : List FormalParameter) (os : List Object) → IsOld b o.name → HasKnown b o → AreOpen b fs os → AreOpen b (f ∷ fs) (o ∷ os)

-- The floors over what may stand below an accept body. The unit's added variables are there.
pub data NormalFloor (x : Rewriting) {g : Setting} (added : Added x.programs g) (Below : Standing) : Around → List PFrame → Variables → Around → List PFrame → Variables → Type 0 where
  own_body : (hs hs' : PHandlers) (taken : Option Raised) (V V' : Variables) → ImageHandlers x hs hs' → Extends x.programs V V' → AreThere added V' →
      NormalFloor x added Below (OwnBody hs taken) [] V (OwnBody hs' taken) [] V'
  accept_body : (p p' : Around) (o o' : List PFrame) (V V' : Variables) (caller : ℕ) (formals : List FormalParameter) (pending : Option Raised) (r r' : PStmts) (bs : List Object) →
      AreOpen x.programs formals bs → x.image r r' → Below p o V p' o' V' →
      NormalFloor x added Below (Opened caller formals pending) (frame r p ∷ o) (bs ++ V) (Opened caller formals pending) (frame r' p' ∷ o') (bs ++ V')

-- nothing stands below
abbrev pub no_floor : Standing
no_floor p o V p' o' V' = ⊥

-- a translation of these rows with these floors, beyond which there is nothing
abbrev pub on_floors : Rewriting → Standing → Translation
on_floors x F = record { text = x; floor = F; beyond = Nowhere }

-- the floors with no more than k open accept bodies
abbrev pub floor_at : (x : Rewriting) {g : Setting} → Added x.programs g → ℕ → Standing
floor_at x added zero = NormalFloor x added no_floor
floor_at x added (suc k) = NormalFloor x added (Under (on_floors x (floor_at x added k)))

-- The floors with any number of open accept bodies.
abbrev pub normal_floor : (x : Rewriting) {g : Setting} → Added x.programs g → Standing
normal_floor x added p o V p' o' V' = (k : ℕ) × floor_at x added k p o V p' o' V'

-- The translation into the normal form, of rows with these images, by a unit with these added variables.
abbrev pub normal : (x : Rewriting) {g : Setting} → Added x.programs g → Translation
normal x added = on_floors x (normal_floor x added)
