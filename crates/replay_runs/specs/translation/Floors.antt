-- Where the statements of a task begin in a replay text (this project's rule): in the unit's own body, and in accept bodies, as many as are open. The
-- text has frames of its own there: blocks that catch what leaves the statements, and behind them what asks for the next event.
use Rattle.std.specs.Prelude.{◌≡◌, ℕ, zero, suc, false, List, [], ◌∷◌, ◌++◌, Option, Some, None}
use Rattle.ada_tree.specs.declared.naming.NameId.{NameId}
use Rattle.ada_tree.specs.declared.naming.Span.{Span}
use Rattle.ada_tree.specs.PlainStmt.{SNull, PStmts, no_stmt, stmt_then, PHandlers, no_handler, handler_then, PHandler}
use Rattle.ada_value.specs.declared.values.Raised.{Raised}
use Rattle.ada_value.specs.Values.{integer_limits}
use Rattle.ada_value.specs.declared.values.Value.{Value}
use Rattle.ada_value.specs.Variables.{Object, Variables}
use Rattle.task_model.specs.declared.parameters.FormalParameter.{FormalParameter}
use Rattle.task_model.specs.Frames.{Around, OwnBody, Block, Handling, Opened, PFrame, Control, control, in_front}
use Rattle.task_laws.specs.translation.Translations.{Standing, Programs, Rewriting, Translation}
use Rattle.task_laws.specs.translation.Images.{ImageHandlers}
use Rattle.task_laws.specs.translation.Controls.{frame, Under}
use Rattle.normal_model.specs.RewrittenUnit.{RewrittenUnit}
use Rattle.normal_model.specs.Making.{one}
use Rattle.normal_laws.specs.runs.floors.Preludes.{IsCell}
use Rattle.normal_laws.specs.runs.floors.NormalFloors.{Extends, AreOpen, no_floor}
use Rattle.replay_model.specs.Names.{kind_text, argument_text, index_text, added_id}
use Rattle.replay_model.specs.Asking.{ask_only, done}
use Rattle.replay_model.specs.Serving.{finish, raise_again, whatever}
use Rattle.replay_model.specs.ReplayStmts.{last_kind}

-- ---- the permit

-- the name means a variable of INTEGER with one value
abbrev pub IsNumberVariable : NameId → Variables → Type 0
IsNumberVariable id V = (v : Value) × IsCell V id integer_limits v

-- the variables of a permit are there
pub record HasPermit (u : RewrittenUnit) (V : Variables) : Type 0 where
  pub kind : IsNumberVariable (added_id u.setting.program kind_text) V
  pub argument : IsNumberVariable (added_id u.setting.program argument_text) V
  pub index : IsNumberVariable (added_id u.setting.program index_text) V

-- The names of a permit are added ones.
pub record IsPermitAdded (b : Programs) (u : RewrittenUnit) : Type 0 where
  pub kind : b.is_old (added_id u.setting.program kind_text).0 ≡ false
  pub argument : b.is_old (added_id u.setting.program argument_text).0 ≡ false
  pub index : b.is_old (added_id u.setting.program index_text).0 ≡ false

-- ---- frames of the text

-- what catches an exception that leaves a unit's statements: it ends them and no more
abbrev pub ends_unit : Span → PHandlers
ends_unit s = whatever s (one (SNull s))

-- what catches one that leaves the statements of an accept body: the task asks for the end of the rendezvous, and raises it again
abbrev pub ends_body : RewrittenUnit → Span → PHandlers
ends_body u s = whatever s (in_front (finish u s) (one (raise_again s)))

-- what catches one that leaves the accept statement: the task says that it is done, and raises it again
abbrev pub ends_accept : RewrittenUnit → Span → PHandlers
ends_accept u s = whatever s (stmt_then (done u s) (one (raise_again s)))

-- the frame of the unit, in which the task asks for its end
abbrev pub unit_frame : RewrittenUnit → Span → PFrame
unit_frame u s = frame (ask_only u s (last_kind u.task)) (OwnBody no_handler None)

-- the frame of the block around the unit's statements and handlers
abbrev pub unit_block : Span → PFrame
unit_block s = frame no_stmt (Block (ends_unit s))

-- the frames outside of an accept body with statements: r is the row behind the accept, p what that row stands in, and o the frames outside of that
abbrev pub accept_frames : RewrittenUnit → Span → PStmts → Around → List PFrame → List PFrame
accept_frames u s r p o = frame no_stmt (Block (ends_accept u s)) ∷ frame (stmt_then (done u s) r) p ∷ o

-- the frame of an accept body, in which the task asks for the end of the rendezvous
abbrev pub body_frame : RewrittenUnit → Span → ℕ → List FormalParameter → PFrame
body_frame u s caller formals = frame (finish u s) (Opened caller formals None)

-- An accept that a task and its image have opened: where both stand below it, the row behind it and its image, the caller, the formals, and these as variables.
pub record OpenAccept (x : Rewriting) (Below : Standing) : Type 0 where
  pub span : Span
  pub place : Around
  pub place' : Around
  pub outer : List PFrame
  pub outer' : List PFrame
  pub vars : Variables
  pub vars' : Variables
  pub below : Below place outer vars place' outer' vars'
  pub row : PStmts
  pub row' : PStmts
  pub rows : x.image row row'
  pub caller : ℕ
  pub formals : List FormalParameter
  pub objects : List Object
  pub are_open : AreOpen x.programs formals objects

module _ {x : Rewriting} {Below : Standing} where
  -- the task at the end of the accept body, with this exception pending
  abbrev pub ended : OpenAccept x Below → Option Raised → Control
  ended a pending = control no_stmt (Opened a.caller a.formals pending) (frame a.row a.place ∷ a.outer) (a.objects ++ a.vars)

  -- the frames of the image outside of an accept body with statements
  abbrev pub frames_outside : RewrittenUnit → OpenAccept x Below → List PFrame
  frames_outside u a = accept_frames u a.span a.row' a.place' a.outer'

-- ---- floors

-- The floors over what may stand below an accept body.
pub data ReplayFloor (x : Rewriting) (u : RewrittenUnit) (Below : Standing) : Around → List PFrame → Variables → Around → List PFrame → Variables → Type 0 where
  -- the statements of a unit without handlers, of one with handlers, and of a handler that is taken
  plain_body : (s : Span) (V V' : Variables) → Extends x.programs V V' → HasPermit u V' → ReplayFloor x u Below (OwnBody no_handler None) [] V (Block (ends_unit s)) (unit_frame u s ∷ []) V'
  handled_body : (s : Span) (h h' : PHandler) (hs hs' : PHandlers) (V V' : Variables) → ImageHandlers x (handler_then h hs) (handler_then h' hs') → Extends x.programs V V' → HasPermit u V' →
      ReplayFloor x u Below (OwnBody (handler_then h hs) None) [] V (Block (handler_then h' hs')) (unit_block s ∷ unit_frame u s ∷ []) V'
  taken_handler : (s : Span) (hs : PHandlers) (e : Raised) (V V' : Variables) → Extends x.programs V V' → HasPermit u V' →
      ReplayFloor x u Below (OwnBody hs (Some e)) [] V (Handling e) (unit_block s ∷ unit_frame u s ∷ []) V'
  -- the statements of an accept body
  accept_body : (a : OpenAccept x Below) →
      ReplayFloor x u Below (Opened a.caller a.formals None) (frame a.row a.place ∷ a.outer) (a.objects ++ a.vars)
      (Block (ends_body u a.span)) (body_frame u a.span a.caller a.formals ∷ frames_outside u a) (a.objects ++ a.vars')

-- ---- places behind the statements

-- Where the task has no statement left. Its image asks for the end of the unit, or of an accept body. Where an exception has left the statements the
-- image is in the handler that caught it, and of a unit one step before it asks.
pub data AtAsking (x : Rewriting) (u : RewrittenUnit) (Below : Standing) : Control → Control → Type 0 where
  -- behind the unit's statements, and before `null` in the handler that caught the exception
  unit_over : (s : Span) (hs : PHandlers) (taken : Option Raised) (V V' : Variables) → Extends x.programs V V' → HasPermit u V' →
      AtAsking x u Below (control no_stmt (OwnBody hs taken) [] V) (control (ask_only u s (last_kind u.task)) (OwnBody no_handler None) [] V')
  unit_left : (s : Span) (hs : PHandlers) (taken : Option Raised) (e : Raised) (V V' : Variables) → Extends x.programs V V' → HasPermit u V' →
      AtAsking x u Below (control no_stmt (OwnBody hs taken) [] V) (control (one (SNull s)) (Handling e) (unit_frame u s ∷ []) V')
  -- at the end of an accept body without statements
  empty_over : (a : OpenAccept x Below) →
      AtAsking x u Below (ended a None) (control (finish u a.span) (Opened a.caller a.formals None) (frame (stmt_then (done u a.span) a.row') a.place' ∷ a.outer') (a.objects ++ a.vars'))
  -- at the end of one with statements, and where an exception has left them
  body_over : (a : OpenAccept x Below) →
      AtAsking x u Below (ended a None) (control (finish u a.span) (Opened a.caller a.formals None) (frames_outside u a) (a.objects ++ a.vars'))
  body_left : (e : Raised) (a : OpenAccept x Below) →
      AtAsking x u Below (ended a (Some e))
      (control (in_front (finish u a.span) (one (raise_again a.span))) (Handling e) (body_frame u a.span a.caller a.formals ∷ frames_outside u a) (a.objects ++ a.vars'))

-- ---- the translation

-- a translation of these rows with floors over these
abbrev pub over_floors : Rewriting → RewrittenUnit → Standing → Translation
over_floors x u B = record { text = x; floor = ReplayFloor x u B; beyond = AtAsking x u B }

-- what may stand below an accept body, where no more than k are open
abbrev pub below_at : Rewriting → RewrittenUnit → ℕ → Standing
below_at x u zero = no_floor
below_at x u (suc k) = Under (over_floors x u (below_at x u k))

-- The translation into the replay text: any number of accept bodies are open.
abbrev pub into_replay : Rewriting → RewrittenUnit → Translation
into_replay x u = record {
  text = x;
  floor = λ p o V p' o' V'. (k : ℕ) × ReplayFloor x u (below_at x u k) p o V p' o' V';
  beyond = λ c d. (k : ℕ) × AtAsking x u (below_at x u k) c d;
}
