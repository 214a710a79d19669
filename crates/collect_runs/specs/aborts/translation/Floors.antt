-- Where the statements of a task in a collecting text of a program with abort statements begin, and what stands around them (9.4, 9.5, 9.10, 11.4, 11.5;
-- this project's rule). In the unit's own body it is as without aborts. The statements of an accept body stand in the image's own, whose accept stands in a
-- block and a loop.
use Rattle.std.specs.Prelude.{◌≡◌, ℕ, ◌+◌, ◌<◌, ◌≤◌, false, ◌==◌, List, [], ◌∷◌, ◌++◌, Option, Some, None, pos}
use Rattle.ada_tree.specs.declared.naming.Span.{Span}
use Rattle.ada_tree.specs.PlainExpr.{PExpr}
use Rattle.ada_tree.specs.PlainStmt.{SExit, SIf, PStmts, no_stmt, stmt_then, PMaybe, absent, PAccept, alternative, AAccept, PAlt, PAlts, alt_then, PHandlers}
use Rattle.ada_value.specs.declared.values.Value.TheVariants.{Number, Truth}
use Rattle.ada_value.specs.declared.values.Raised.{Raised}
use Rattle.ada_value.specs.Values.{integer_limits, truth_limits}
use Rattle.ada_value.specs.Variables.{Object, Variables}
use Rattle.task_model.specs.declared.parameters.FormalParameter.{FormalParameter}
use Rattle.task_model.specs.Frames.{Endless, Around, Block, Loop, Opened, PFrame, Control, in_front}
use Rattle.task_laws.specs.translation.Translations.{Standing, Programs, Translation, types_after}
use Rattle.task_laws.specs.translation.OldTexts.{Asked}
use Rattle.task_laws.specs.translation.Controls.{frame, Under}
use Rattle.task_laws.specs.translation.Itself.{Nowhere}
use Rattle.normal_model.specs.Making.{one}
use Rattle.normal_laws.specs.runs.floors.Preludes.{IsCell}
use Rattle.normal_laws.specs.runs.floors.NormalFloors.{AreOpen, no_floor}
use Rattle.replay_model.specs.Serving.{raise_again, whatever}
use Rattle.collect_runs.specs.translation.Floors.{IsVariableOf, caller_parameter, CollectFloor, AtTelling}
use Rattle.collect_runs.specs.telling.Texts.{IsInteger}
use Rattle.collect_model.specs.aborts.AbortTeller.{AbortTeller}
use Rattle.collect_model.specs.aborts.Noting.{over}
use Rattle.collect_model.specs.aborts.Serving.{is_not_refused}
use Rattle.collect_model.specs.aborts.Waiting.{part_unless_refused, is_taken, branches}
use Rattle.collect_runs.specs.aborts.translation.Rows.{telling_rows}

-- ---- the names of places

-- a number of a place of a unit with so many
abbrev pub IsPlace : ℕ → ℕ → Type 0
IsPlace last n = (1 ≤ n) × (n ≤ last)

-- Of a unit with so many places the names of the variables are added ones, and no two are one; neither is one of them the unit's other variables, nor the
-- formal of the caller.
pub record ArePlacesAdded (b : Programs) (x : AbortTeller) (last : ℕ) : Type 0 where
  pub taken : (n : ℕ) → IsPlace last n → b.is_old (x.taken n).0 ≡ false
  pub refused : (n : ℕ) → IsPlace last n → b.is_old (x.refused n).0 ≡ false
  pub taken_apart : (n m : ℕ) → IsPlace last n → IsPlace last m → (n == m) ≡ false → ((x.taken n).0 == (x.taken m).0) ≡ false
  pub refused_apart : (n m : ℕ) → IsPlace last n → IsPlace last m → (n == m) ≡ false → ((x.refused n).0 == (x.refused m).0) ≡ false
  pub taken_refused : (n m : ℕ) → IsPlace last n → IsPlace last m → ((x.taken n).0 == (x.refused m).0) ≡ false
  pub answer_taken : (n : ℕ) → IsPlace last n → (x.teller.added.answer.0 == (x.taken n).0) ≡ false
  pub answer_refused : (n : ℕ) → IsPlace last n → (x.teller.added.answer.0 == (x.refused n).0) ≡ false
  pub part_taken : (n : ℕ) → IsPlace last n → (x.teller.added.part.0 == (x.taken n).0) ≡ false
  pub part_refused : (n : ℕ) → IsPlace last n → (x.teller.added.part.0 == (x.refused n).0) ≡ false
  pub caller_taken : (n : ℕ) → IsPlace last n → (x.teller.added.caller.0 == (x.taken n).0) ≡ false
  pub caller_refused : (n : ℕ) → IsPlace last n → (x.teller.added.caller.0 == (x.refused n).0) ≡ false

-- ---- open accept bodies

-- the number of the place of an accept body that is open, and its caller
pub record OpenPlace : Type 0 where
  pub place : ℕ
  pub caller : ℕ

-- the number of the innermost; in the unit's own body 0
abbrev pub innermost : List OpenPlace → ℕ
innermost [] = 0
innermost (p ∷ ps) = p.place

-- what catches an exception that leaves the rendezvous of the place of number n
abbrev pub ends_service : AbortTeller → Span → ℕ → PHandlers
ends_service x s n = whatever s (stmt_then (over x s n) (one (raise_again s)))

-- the j-th of these alternatives, which are numbered from i on, accepts, with these statements behind
pub data IsBranch : PAlts → ℕ → ℕ → Span → PStmts → Type 0 where
  this_branch : (guard : Option PExpr) (a : PAccept) (l : PStmts) (s : Span) (rest : PAlts) (i : ℕ) → IsBranch (alt_then (alternative guard (AAccept a l) s) rest) i i s l
  later_branch : (alt : PAlt) (rest : PAlts) (i j : ℕ) (s : Span) (l : PStmts) → IsBranch rest (i + 1) j s l → IsBranch (alt_then alt rest) i j s l

-- What stands behind the image of an accept at the place of number n: in its block, the condition of the loop's exit, and behind the loop, where the last
-- statements are what the task goes on with. An accept statement tells first that it is over; of a wait the branch of the alternative does, whose number
-- is one of INTEGER.
pub data Behind (x : AbortTeller) (s : Span) (n : ℕ) : PStmts → PExpr → PStmts → PStmts → Type 0 where
  behind_accept : (r : PStmts) → Behind x s n no_stmt (is_not_refused x s n) (stmt_then (over x s n) r) r
  behind_wait : (alts : PAlts) (otherwise : PMaybe) (j : ℕ) (z : Span) (l r : PStmts) → IsInteger j → IsBranch alts 1 j z l →
      Behind x s n (one (part_unless_refused x z n j)) (is_taken x s) (stmt_then (SIf (branches x s n alts otherwise 1) absent s) r) (in_front l r)

-- An accept that a task and its image have opened, at this place: where both stand below it, the row behind it and its image, the formals, and these as
-- variables; of the image also the caller's number as a variable, and what stands around. The caller is told by a number of INTEGER.
pub record OpenAccept (z : Translation) (x : AbortTeller) (p : OpenPlace) : Type 0 where
  pub place : Around
  pub place' : Around
  pub outer : List PFrame
  pub outer' : List PFrame
  pub vars : Variables
  pub vars' : Variables
  pub below : Under z place outer vars place' outer' vars'
  pub row : PStmts
  pub row' : PStmts
  pub rows : z.text.image row row'
  pub formals : List FormalParameter
  pub objects : List Object
  pub are_open : AreOpen z.text.programs formals objects
  pub own : Object
  pub named : own.name ≡ x.teller.added.caller
  pub span : Span
  pub inner : PStmts
  pub test : PExpr
  pub turn : PStmts
  pub after : PStmts
  pub caller_fits : IsInteger p.caller
  pub behind : Behind x span p.place inner test after row'

module _ {z : Translation} {x : AbortTeller} {p : OpenPlace} where
  -- the formals of the image, its variables, and its frames outside of the accept body
  abbrev pub formals_there : OpenAccept z x p → List FormalParameter
  formals_there a = caller_parameter x.teller.added (types_after z.text.programs) ∷ a.formals

  abbrev pub vars_there : OpenAccept z x p → Variables
  vars_there a = a.own ∷ (a.objects ++ a.vars')

  abbrev pub frames_outside : OpenAccept z x p → List PFrame
  frames_outside a =
      frame a.inner (Block (ends_service x a.span p.place))
      ∷ frame (one (SExit None (Some a.test) a.span)) (Loop None Endless a.turn)
      ∷ frame a.after a.place' ∷ a.outer'

-- ---- floors

-- The floor of an accept body over what stands below it. Where an exception has left its statements both are at its end, with the exception pending.
pub data BodyFloor (z : Translation) (x : AbortTeller) (p : OpenPlace) : Around → List PFrame → Variables → Around → List PFrame → Variables → Type 0 where
  accept_body : (a : OpenAccept z x p) (pending : Option Raised) →
      BodyFloor z x p (Opened p.caller a.formals pending) (frame a.row a.place ∷ a.outer) (a.objects ++ a.vars) (Opened p.caller (formals_there a) pending) (frames_outside a) (vars_there a)

-- Where the image stands once the statements of the innermost floor are over: in the unit's own body it tells of its end. Nothing is told at the end of an
-- accept body.
abbrev pub beyond_at : Asked → AbortTeller → ℕ → List OpenPlace → Control → Control → Type 0
beyond_at a x last [] = AtTelling (telling_rows a x 0 last) x.teller no_floor
beyond_at a x last (p ∷ ps) = Nowhere

-- the rows where these accept bodies are open, the innermost first, with floors
abbrev pub with_floor : Asked → AbortTeller → ℕ → List OpenPlace → Standing → Translation
with_floor a x last ps F = record { text = telling_rows a x (innermost ps) last; floor = F; beyond = beyond_at a x last ps }

-- their floor: that of the unit's own body is the one without aborts
abbrev pub floor_at : Asked → AbortTeller → ℕ → List OpenPlace → Standing
floor_at a x last [] = CollectFloor (telling_rows a x 0 last) x.teller no_floor
floor_at a x last (p ∷ ps) = BodyFloor (with_floor a x last ps (floor_at a x last ps)) x p

-- The translation into the collecting text of a unit with so many places, where these accept bodies are open.
abbrev pub into_aborting : Asked → AbortTeller → ℕ → List OpenPlace → Translation
into_aborting a x last ps = with_floor a x last ps (floor_at a x last ps)

-- ---- the variables of places

-- each place of the unit has its variables
pub record HasPlaces (x : AbortTeller) (last : ℕ) (V : Variables) : Type 0 where
  pub taken : (n : ℕ) → IsPlace last n → IsVariableOf integer_limits (x.taken n) V
  pub refused : (n : ℕ) → IsPlace last n → IsVariableOf truth_limits (x.refused n) V

-- The variables of each place whose accept body is open say its caller, and that it is not refused. An accept body's place comes behind the one around it.
pub data KeepCallers (x : AbortTeller) (last : ℕ) (V : Variables) : List OpenPlace → Type 0 where
  keep_none : KeepCallers x last V []
  keep_then : (p : OpenPlace) (ps : List OpenPlace) → innermost ps < p.place → p.place ≤ last → IsCell V (x.taken p.place) integer_limits (Number (pos p.caller)) →
      IsCell V (x.refused p.place) truth_limits (Truth false) → KeepCallers x last V ps → KeepCallers x last V (p ∷ ps)
