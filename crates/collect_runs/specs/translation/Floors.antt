-- Where the statements of a task in a collecting text begin, and where it tells of their end (9.4, 9.5, 11.4, 11.5; this project's rule). A task tells of the end of its unit and of each accept body; an exception that leaves a unit's statements comes to its block, and one that leaves those of an accept body to a handler that tells and raises it again.
use Rattle.std.specs.Prelude.{◌≡◌, ◌==◌, ℕ, zero, suc, true, false, List, [], ◌∷◌, ◌++◌, Option, Some, None}
use Rattle.ada_tree.specs.declared.naming.NameId.{NameId}
use Rattle.ada_tree.specs.declared.naming.Span.{Span}
use Rattle.ada_tree.specs.declared.statements.ParMode.TheVariants.{Take}
use Rattle.ada_tree.specs.TypeTable.{TypeTable}
use Rattle.ada_tree.specs.PlainStmt.{SNull, PStmts, no_stmt, stmt_then, PHandler, PHandlers, no_handler, handler_then}
use Rattle.ada_value.specs.declared.values.Value.{Value}
use Rattle.ada_value.specs.declared.values.Raised.{Raised}
use Rattle.ada_value.specs.declared.values.Limits.{Limits}
use Rattle.ada_value.specs.Values.{integer_limits, truth_limits, limits_named}
use Rattle.ada_value.specs.Variables.{Object, Variables}
use Rattle.task_model.specs.declared.parameters.FormalParameter.{FormalParameter}
use Rattle.task_model.specs.Frames.{Around, OwnBody, Block, Handling, Opened, PFrame, Control, control}
use Rattle.task_laws.specs.translation.Translations.{Standing, Programs, Rewriting, Translation, types_after}
use Rattle.task_laws.specs.translation.Images.{ImageHandlers}
use Rattle.task_laws.specs.translation.Controls.{frame, Under}
use Rattle.normal_model.specs.Making.{one}
use Rattle.normal_laws.specs.runs.floors.Preludes.{IsCell}
use Rattle.normal_laws.specs.runs.floors.NormalFloors.{Extends, AreOpen, no_floor}
use Rattle.replay_model.specs.Serving.{raise_again, whatever}
use Rattle.collect_model.specs.declared.AddedNames.{AddedNames}
use Rattle.collect_model.specs.Teller.{Teller}
use Rattle.collect_model.specs.Noting.{at_end, own_note}
use Rattle.collect_model.specs.Serving.{finish_note}

-- ---- the variables of a unit

-- the name means a variable of this subtype with one value
abbrev pub IsVariableOf : Limits → NameId → Variables → Type 0
IsVariableOf limits id V = (v : Value) × IsCell V id limits v

-- the variables by which a unit hears the recorder are there: its answer, and which part of a call came
pub record HasVariables (n : AddedNames) (V : Variables) : Type 0 where
  pub answer : IsVariableOf truth_limits n.answer V
  pub part : IsVariableOf integer_limits n.part V

-- Their names are added ones, and so is that of the formal by which an acceptor knows its caller; no two of them are one.
pub record AreNamesAdded (b : Programs) (n : AddedNames) : Type 0 where
  pub answer : b.is_old n.answer.0 ≡ false
  pub part : b.is_old n.part.0 ≡ false
  pub caller : b.is_old n.caller.0 ≡ false
  pub caller_answer : (n.caller.0 == n.answer.0) ≡ false
  pub caller_part : (n.caller.0 == n.part.0) ≡ false
  pub answer_part : (n.answer.0 == n.part.0) ≡ false
  pub part_answer : (n.part.0 == n.answer.0) ≡ false

-- the formal of the caller (6.1)
abbrev pub caller_parameter : AddedNames → TypeTable → FormalParameter
caller_parameter n types = record { name = n.caller; mode = Take; limits = limits_named types record { 0 = 0 } }

-- ---- frames of the text

-- what catches an exception that leaves a unit's statements: it ends them and no more
abbrev pub ends_unit : Span → PHandlers
ends_unit s = whatever s (one (SNull s))

-- what catches one that leaves the statements of an accept body: the task tells that it is at the end, and raises it again
abbrev pub ends_body : Teller → Span → PHandlers
ends_body x s = whatever s (stmt_then (finish_note x s) (one (raise_again s)))

-- the frame of the unit, in which the task tells of its end
abbrev pub unit_frame : Teller → Span → PFrame
unit_frame x s = frame (one (own_note x s at_end 0)) (OwnBody no_handler None)

-- the frame of the block around the unit's statements and handlers
abbrev pub unit_block : Span → PFrame
unit_block s = frame no_stmt (Block (ends_unit s))

-- the frame of an accept body, in which the task tells that it is at the end
abbrev pub body_frame : Teller → Span → ℕ → List FormalParameter → PFrame
body_frame x s caller formals = frame (one (finish_note x s)) (Opened caller formals None)

-- An accept that a task and its image have opened: where both stand below it, the row behind it and its image, the caller, the formals, and these as variables; of the image also the caller's number as a variable.
pub record OpenAccept (y : Rewriting) (n : AddedNames) (Below : Standing) : Type 0 where
  pub span : Span
  pub place : Around
  pub place' : Around
  pub outer : List PFrame
  pub outer' : List PFrame
  pub vars : Variables
  pub vars' : Variables
  pub below : Below place outer vars place' outer' vars'
  pub row : PStmts
  pub row' : PStmts
  pub rows : y.image row row'
  pub caller : ℕ
  pub formals : List FormalParameter
  pub objects : List Object
  pub are_open : AreOpen y.programs formals objects
  pub own : Object
  pub named : own.name ≡ n.caller

module _ {y : Rewriting} {n : AddedNames} {Below : Standing} where
  -- the task at the end of the accept body, with this exception pending
  abbrev pub ended : OpenAccept y n Below → Option Raised → Control
  ended a pending = control no_stmt (Opened a.caller a.formals pending) (frame a.row a.place ∷ a.outer) (a.objects ++ a.vars)

  -- the formals of the image, its variables, and its frames outside of the accept body
  abbrev pub formals_there : OpenAccept y n Below → List FormalParameter
  formals_there a = caller_parameter n (types_after y.programs) ∷ a.formals

  abbrev pub vars_there : OpenAccept y n Below → Variables
  vars_there a = a.own ∷ (a.objects ++ a.vars')

  abbrev pub frames_outside : OpenAccept y n Below → List PFrame
  frames_outside a = frame a.row' a.place' ∷ a.outer'

-- ---- floors

-- The floors over what may stand below an accept body.
pub data CollectFloor (y : Rewriting) (x : Teller) (Below : Standing) : Around → List PFrame → Variables → Around → List PFrame → Variables → Type 0 where
  -- main's own body, which has the same handlers
  main_body : (hs hs' : PHandlers) (taken : Option Raised) (V V' : Variables) → (x.task == 0) ≡ true → ImageHandlers y hs hs' → Extends y.programs V V' → HasVariables x.added V' →
      CollectFloor y x Below (OwnBody hs taken) [] V (OwnBody hs' taken) [] V'
  -- of a task the statements of a unit without handlers, of one with handlers, and of a handler that is taken
  plain_body : (s : Span) (V V' : Variables) → (x.task == 0) ≡ false → Extends y.programs V V' → HasVariables x.added V' →
      CollectFloor y x Below (OwnBody no_handler None) [] V (Block (ends_unit s)) (unit_frame x s ∷ []) V'
  handled_body : (s : Span) (h h' : PHandler) (hs hs' : PHandlers) (V V' : Variables) → (x.task == 0) ≡ false → ImageHandlers y (handler_then h hs) (handler_then h' hs') → Extends y.programs V V' →
      HasVariables x.added V' → CollectFloor y x Below (OwnBody (handler_then h hs) None) [] V (Block (handler_then h' hs')) (unit_block s ∷ unit_frame x s ∷ []) V'
  taken_handler : (s : Span) (hs : PHandlers) (e : Raised) (V V' : Variables) → (x.task == 0) ≡ false → Extends y.programs V V' → HasVariables x.added V' →
      CollectFloor y x Below (OwnBody hs (Some e)) [] V (Handling e) (unit_block s ∷ unit_frame x s ∷ []) V'
  -- the statements of an accept body
  accept_body : (a : OpenAccept y x.added Below) →
      CollectFloor y x Below (Opened a.caller a.formals None) (frame a.row a.place ∷ a.outer) (a.objects ++ a.vars)
      (Block (ends_body x a.span)) (body_frame x a.span a.caller (formals_there a) ∷ frames_outside a) (vars_there a)

-- ---- places behind the statements

-- Where the task has no statement left. Its image tells of the end of the unit, or of an accept body. Where an exception has left the statements the image is in the handler that caught it, and of a unit one step before it tells.
pub data AtTelling (y : Rewriting) (x : Teller) (Below : Standing) : Control → Control → Type 0 where
  -- behind the unit's statements, and before `null` in the handler that caught the exception
  unit_over : (s : Span) (hs : PHandlers) (taken : Option Raised) (V V' : Variables) → (x.task == 0) ≡ false → Extends y.programs V V' → HasVariables x.added V' →
      AtTelling y x Below (control no_stmt (OwnBody hs taken) [] V) (control (one (own_note x s at_end 0)) (OwnBody no_handler None) [] V')
  unit_left : (s : Span) (hs : PHandlers) (taken : Option Raised) (e : Raised) (V V' : Variables) → (x.task == 0) ≡ false → Extends y.programs V V' → HasVariables x.added V' →
      AtTelling y x Below (control no_stmt (OwnBody hs taken) [] V) (control (one (SNull s)) (Handling e) (unit_frame x s ∷ []) V')
  -- at the end of an accept body, and where an exception has left its statements
  body_over : (a : OpenAccept y x.added Below) →
      AtTelling y x Below (ended a None) (control (one (finish_note x a.span)) (Opened a.caller (formals_there a) None) (frames_outside a) (vars_there a))
  body_left : (e : Raised) (a : OpenAccept y x.added Below) →
      AtTelling y x Below (ended a (Some e))
      (control (stmt_then (finish_note x a.span) (one (raise_again a.span))) (Handling e) (body_frame x a.span a.caller (formals_there a) ∷ frames_outside a) (vars_there a))

-- ---- the translation

-- a translation of these rows with floors over these
abbrev pub over_floors : Rewriting → Teller → Standing → Translation
over_floors y x B = record { text = y; floor = CollectFloor y x B; beyond = AtTelling y x B }

-- what may stand below an accept body, where no more than k are open
abbrev pub below_at : Rewriting → Teller → ℕ → Standing
below_at y x zero = no_floor
below_at y x (suc k) = Under (over_floors y x (below_at y x k))

-- The translation into the collecting text: any number of accept bodies are open.
abbrev pub into_collecting : Rewriting → Teller → Translation
into_collecting y x = record {
  text = y;
  floor = λ p o V p' o' V'. (k : ℕ) × CollectFloor y x (below_at y x k) p o V p' o' V';
  beyond = λ c d. (k : ℕ) × AtTelling y x (below_at y x k) c d;
}
