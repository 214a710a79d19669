-- What is to be known of each piece of a collecting text, so that its statements are as asked (this project's rule). One piece is one statement that is added, or a part of one, or what stays of a statement of the normal form; it is as it is asked of the collecting text, where what it was made from is as it is asked of the normal form. Nesting is counted as for replay texts.
use Rattle.std.specs.Prelude.{ℕ, ◌+◌, ◌≤◌, Bool, List, [], ◌∷◌, Option, Some, None}
use Rattle.ada_tree.specs.declared.naming.Span.{Span}
use Rattle.ada_tree.specs.declared.naming.Word.{Word}
use Rattle.ada_tree.specs.declared.expressions.BinaryOp.TheVariants.{Equal}
use Rattle.ada_tree.specs.PlainExpr.{PExpr, EName, EBinary}
use Rattle.ada_tree.specs.PlainStmt.{PCallee, PCall, PChoice, PScheme, PHead, PStmt, SNull, SAssign, SRaise, PStmts, PAlts, PHandlers, no_handler, handler_then, handler}
use Rattle.ada_tree.specs.Every.{alts_count}
use Rattle.syn_event.specs.Numbering.{owner_of}
use Rattle.task_model.specs.Setting.{entry_of}
use Rattle.normal_model.specs.Ranges.{word_at}
use Rattle.normal_model.specs.Walk.{inside_alts, inside_handlers}
use Rattle.task_laws.specs.legal.asked.Asked.{Asks, AskedAlts}
use Rattle.normal_laws.specs.structure.asked.Pieces.{IsPlain, named}
use Rattle.replay_model.specs.Serving.{raise_again, whatever}
use Rattle.replay_structure.specs.asked.Pieces.{StandsAt, StandsNear, IsUnder}
use Rattle.collect_model.specs.Teller.{Teller}
use Rattle.collect_model.specs.Noting.{has_begun, has_delay, has_failed, number, own_number, note_actuals}
use Rattle.collect_model.specs.Calling.{entry_called, member_called, call_telling, tasking_error}
use Rattle.collect_model.specs.Serving.{head_telling}
use Rattle.collect_model.specs.Waiting.{alternatives_told}
use Rattle.collect_model.specs.CollectStmts.{collect_rewriter}

-- ---- notes

-- `DED_RECORD.NOTE(k, t, a, i, o, DED_G)`
abbrev pub note_call : Teller → Span → ℕ → PExpr → ℕ → PExpr → ℕ → PCall
note_call x s k t a i o = record { task = named (word_at s x.added.recorder); entry = word_at s x.added.note; args = Some (record { first = note_actuals x s k t a i o; second = None }) }

-- a task tells of itself
abbrev pub own_call : Teller → Span → ℕ → ℕ → PCall
own_call x s k a = note_call x s k (own_number x s) a (number s 0) 0

-- it tells of the member that is called
abbrev pub call_call : Teller → Span → ℕ → PCall → PCall
call_call x s k c = note_call x s k (own_number x s) (entry_called x c) (member_called x s c) (owner_of x.numbers (entry_called x c))

-- it tells that it has accepted a call
abbrev pub begin_call : Teller → Span → PHead → PCall
begin_call x s h =
    note_call x s has_begun (EName x.added.caller s) (entry_of x.numbers x.task h.entry.name) (x.member (entry_of x.numbers x.task h.entry.name) s h.index) x.task

-- ---- further statements

-- `DED_W := w;`
abbrev pub sets_part : Teller → Span → ℕ → PStmt
sets_part x s w = SAssign (record { name = word_at s x.added.part; index = None }) (number s w) s

-- `DED_W = 1`
abbrev pub has_come : Teller → Span → PExpr
has_come x s = EBinary Equal (EName x.added.part s) (number s 1) s

-- `raise TASKING_ERROR;`
abbrev pub raises : Span → PStmt
raises s = SRaise (Some (tasking_error s)) s

-- ---- the pieces

-- The pieces of a unit, where `b` is asked of the statements of the normal form and `a` of those of the collecting text, what stands around them is related by R, and H is known of the nesting in the normal form of each statement for which some are added.
pub record Pieces {C D : Type 0} (x : Teller) (H : ℕ → Type 0) (b : Asks C) (a : Asks D) (R : C → D → Type 0) : Type 0 where
  -- what is known of the nesting of a statement, and of an accept
  pub here : (c : C) (k : ℕ) (s : Span) → b.outer c k s → H k
  pub here_accepted : (c : C) (k : ℕ) (h : PHead) → b.head c k h → H k
  -- a part that has a place and a nesting, kept or added
  pub outer : (c : C) (d : D) (k n : ℕ) (s : Span) → R c d → H k → StandsNear k n → a.outer d n s
  -- what stays
  pub many : (n : ℕ) → b.many n → a.many n
  pub some : (n : ℕ) → a.many (1 + n)
  pub duration : (n : ℕ) → b.duration n → a.duration n
  pub plain : (c : C) (d : D) (k n : ℕ) (y : PStmt) → IsPlain y → R c d → b.plain c k y → StandsAt k n → a.plain d n y
  pub condition : (c : C) (d : D) (k n : ℕ) (e : PExpr) → R c d → b.condition c k e → StandsAt k n → a.condition d n e
  pub selector : (c : C) (d : D) (k n : ℕ) (e : PExpr) (xs : List PChoice) (others : Bool) (s : Span) → R c d → b.selector c k e xs others s → StandsAt k n → a.selector d n e xs others s
  pub choices : (c : C) (d : D) (k n : ℕ) (e : PExpr) (xs : List PChoice) → R c d → b.choices c k e xs → StandsAt k n → a.choices d n e xs
  pub loop : (c : C) (d : D) (k n : ℕ) (w : Option Word) (y : Option PScheme) → R c d → b.loop c k w y → StandsAt k n → a.loop d n w y
  pub looping : (c : C) (d : D) (k : ℕ) (w : Option Word) (y : Option PScheme) → R c d → b.loop c k w y → R (b.looping c w y) (a.looping d w y)
  pub callee : (c : C) (d : D) (k j n : ℕ) (y : PCallee) → R c d → H k → IsUnder k j → b.callee c j y → StandsAt j n → a.callee d n y
  pub aborts : (c : C) (d : D) (k n : ℕ) (xs : List PCallee) → R c d → b.aborts c k xs → StandsAt k n → a.aborts d n xs
  pub handlers : (hs : PHandlers) (t : ℕ) → b.handlers hs → a.handlers (inside_handlers (collect_rewriter x) hs t)
  pub handled : (c : C) (d : D) (k n : ℕ) (names : List ℕ) (ws : List Word) → R c d → b.handler c k names ws → StandsAt k n → a.handler d n names ws
  pub handling : (c : C) (d : D) → R c d → R (b.handling c) (a.handling d)
  -- a wait as a whole, and a delay alternative of one
  pub wait : (c : C) (d : D) (k n : ℕ) (xs : PAlts) (others : Bool) (s : Span) (t : ℕ) → R c d → H k → b.wait c k xs others s → AskedAlts b c (k + 1) xs → StandsAt k n →
      a.wait d n (alternatives_told x (inside_alts (collect_rewriter x) xs t) 1) others s
  pub delay : (c : C) (d : D) (k n : ℕ) (guard : Option PExpr) (s : Span) → R c d → H k → b.delay c ((k + 1) + 1) guard s → StandsAt ((k + 1) + 1) n → a.delay d n guard s
  -- the call with the own number, and the accept with the formal of the caller
  pub telling : (c : C) (d : D) (k j n : ℕ) (s : Span) (y : PCall) → R c d → H k → IsUnder k j → b.callee c j y.task → b.call c j y → StandsAt j n → a.call d n (call_telling x s y)
  pub head : (c : C) (d : D) (k n : ℕ) (h : PHead) → R c d → b.head c k h → StandsNear k n → a.head d n (head_telling x h)
  pub in_accept : (c : C) (d : D) (k : ℕ) (h : PHead) → R c d → b.head c k h → R (b.accepting c h) (a.accepting d (head_telling x h))
  -- the recorder, and the notes: of a task itself, with kinds up to 8; of a delay alternative of a wait; of a call; of one that has failed; of a begin
  pub recorder : (c : C) (d : D) (k n : ℕ) (s : Span) → R c d → H k → StandsNear k n → a.callee d n (named (word_at s x.added.recorder))
  pub own : (c : C) (d : D) (k n : ℕ) (s : Span) (kind : ℕ) → R c d → H k → kind ≤ 8 → StandsNear k n → a.call d n (own_call x s kind 0)
  pub delayed : (c : C) (d : D) (k n : ℕ) (xs : PAlts) (others : Bool) (t s : Span) (place : ℕ) → R c d → H k → b.wait c k xs others t → place ≤ alts_count xs → StandsNear k n → a.call d n (own_call x s has_delay place)
  pub told : (c : C) (d : D) (k j n : ℕ) (s : Span) (kind : ℕ) (y : PCall) → R c d → H k → IsUnder k j → b.callee c j y.task → b.call c j y → kind ≤ 8 → StandsNear k n → a.call d n (call_call x s kind y)
  pub failed : (c : C) (d : D) (k j n : ℕ) (s : Span) (y : PCall) → R c d → H k → IsUnder k j → b.callee c j y.task → b.call c j y → StandsNear k n → a.call (a.handling d) n (call_call x s has_failed y)
  pub begun : (c : C) (d : D) (k n : ℕ) (s : Span) (h : PHead) → R c d → b.head c k h → StandsNear k n → a.call (a.accepting d (head_telling x h)) n (begin_call x s h)
  -- what is added behind a conditional or timed call: which part came, the test of it and of the answer, and the late TASKING_ERROR
  pub part : (c : C) (d : D) (k n : ℕ) (s : Span) (w : ℕ) → R c d → H k → w ≤ 2 → StandsNear k n → a.plain d n (sets_part x s w)
  pub came : (c : C) (d : D) (k n : ℕ) (s : Span) → R c d → H k → StandsNear k n → a.condition d n (has_come x s)
  pub answered : (c : C) (d : D) (k n : ℕ) (s : Span) → R c d → H k → StandsNear k n → a.condition d n (EName x.added.answer s)
  pub late : (c : C) (d : D) (k n : ℕ) (s : Span) → R c d → H k → StandsNear k n → a.plain d n (raises s)
  -- a handler for TASKING_ERROR, one for all others, and the `null;` or `raise;` in it
  pub watched : (s : Span) (l : PStmts) → a.handlers (handler_then (handler (tasking_error s ∷ []) l s) no_handler)
  pub watch : (c : C) (d : D) (k n : ℕ) (s : Span) → R c d → H k → StandsNear k n → a.handler d n [] (tasking_error s ∷ [])
  pub others : (s : Span) (l : PStmts) → a.handlers (whatever s l)
  pub no_others : a.handlers no_handler
  pub other : (c : C) (d : D) (k n : ℕ) → R c d → H k → StandsNear k n → a.handler d n [] []
  pub null : (c : C) (d : D) (k n : ℕ) (s : Span) → R c d → H k → StandsNear k n → a.plain d n (SNull s)
  pub again : (c : C) (d : D) (k n : ℕ) (s : Span) → R c d → H k → StandsNear k n → a.plain (a.handling d) n (raise_again s)
