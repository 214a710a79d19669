-- The formals of opened accept bodies among the variables of a task: each has a value in its subtype (6.4.1, 9.5).
use Rattle.std.specs.Prelude.{◌≡◌, ℕ, true, List, [], ◌∷◌, ◌++◌, drop}
use Rattle.ada_tree.specs.TypeTable.{TypeTable}
use Rattle.ada_value.specs.declared.values.Value.{Value}
use Rattle.ada_value.specs.declared.values.Limits.{Limits}
use Rattle.ada_value.specs.Values.{position_of, lies_in, lower_bound}
use Rattle.ada_value.specs.Variables.{Variables, value_there}
use Rattle.task_model.specs.declared.parameters.FormalParameter.{FormalParameter}
use Rattle.task_model.specs.Frames.{Around, OwnBody, Block, Handling, Loop, Opened, PFrame, Control, brought}

-- a value lies in a subtype (3.3)
abbrev pub Fits : Limits → Value → Type 0
Fits limits v = lies_in limits (position_of v) ≡ true

-- the formals are the latest variables, in order, and the value of each lies in its subtype
abbrev pub AreHeld : List FormalParameter → Variables → Type 0
AreHeld [] vars = Unit {0}
AreHeld (formal ∷ formals) [] = ⊥
AreHeld (formal ∷ formals) (o ∷ vars) = ((o.limits ≡ formal.limits) × Fits o.limits (value_there o 0)) × AreHeld formals vars

-- the variables of one frame: of an accept body its formals
abbrev pub Own : Around → Variables → Type 0
Own (OwnBody handlers taken) vars = Unit {0}
Own (Block handlers) vars = Unit {0}
Own (Handling x) vars = Unit {0}
Own (Loop name turns stmts) vars = Unit {0}
Own (Opened caller formals pending) vars = AreHeld formals vars

-- of frames, the inner ones first
abbrev pub HeldIn : List PFrame → Variables → Type 0
HeldIn [] vars = Unit {0}
HeldIn (part ∷ parts) vars = Own part.place vars × HeldIn parts (drop (brought part.place) vars)

-- The formals of all accept bodies that are open are held.
abbrev pub IsHeld : Around → List PFrame → Variables → Type 0
IsHeld place outer vars = Own place vars × HeldIn outer (drop (brought place) vars)

-- values fit formals in order: each lies in its formal's subtype; a formal without value opens with its lower bound, which does (6.4.1)
abbrev pub ValuesFit : TypeTable → List FormalParameter → List Value → Type 0
ValuesFit types [] vs = Unit {0}
ValuesFit types (formal ∷ formals) [] = Fits formal.limits (lower_bound types formal.limits) × ValuesFit types formals []
ValuesFit types (formal ∷ formals) (v ∷ vs) = Fits formal.limits v × ValuesFit types formals vs

-- the lower bound of each formal lies in its subtype: no formal has an empty one
abbrev pub LowersFit : TypeTable → List FormalParameter → Type 0
LowersFit types [] = Unit {0}
LowersFit types (formal ∷ formals) = Fits formal.limits (lower_bound types formal.limits) × LowersFit types formals

-- formals of the same modes and subtypes in the same order
abbrev pub AreAlike : List FormalParameter → List FormalParameter → Type 0
AreAlike [] [] = Unit {0}
AreAlike (f ∷ fs) (h ∷ hs) = ((f.mode ≡ h.mode) × (f.limits ≡ h.limits)) × AreAlike fs hs
AreAlike fs hs = ⊥

-- ---- opened accept bodies

-- an opened accept body: its caller and its formals
pub record Opening : Type 0 where
  pub caller : ℕ
  pub formals : List FormalParameter

abbrev pub opening_at : Around → List Opening
opening_at (OwnBody handlers taken) = []
opening_at (Block handlers) = []
opening_at (Handling x) = []
opening_at (Loop name turns stmts) = []
opening_at (Opened caller formals pending) = record { caller = caller; formals = formals } ∷ []

abbrev pub openings_among : List PFrame → List Opening
openings_among [] = []
openings_among (part ∷ parts) = opening_at part.place ++ openings_among parts

-- the accept bodies that a task has opened, the innermost first
abbrev pub openings_in : Control → List Opening
openings_in c = opening_at c.top.place ++ openings_among c.outer
