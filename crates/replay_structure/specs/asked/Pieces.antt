-- What is to be known of each piece of a replay text, so that its statements are as asked (this project's rule). One piece is one statement that is
-- added, or a part of one, or what stays of a statement of the normal form; it is as it is asked of the replay text, where what it was made from is
-- as it is asked of the normal form.
use Rattle.std.specs.Prelude.{ℕ, ◌+◌, ◌*◌, ◌<◌, ◌≤◌, Bool, true, false, if◌then◌else◌, List, [], ◌∷◌, length, Option, Some, None}
use Rattle.ada_tree.specs.declared.naming.Span.{Span}
use Rattle.ada_tree.specs.declared.naming.Word.{Word}
use Rattle.ada_tree.specs.declared.expressions.BinaryOp.TheVariants.{NotEqual}
use Rattle.ada_tree.specs.PlainExpr.{PExpr, EInteger, EBinary}
use Rattle.ada_tree.specs.PlainStmt.{PCallee, PArgs, PCall, PChoice, PScheme, PHead, PStmt, SNull, PStmts, PMaybe, accepting, PAlt, alternative, AAccept, ADelay, ATerminate, PAlts, no_alt, alt_then, PHandlers, no_handler}
use Rattle.normal_model.specs.RewrittenUnit.{RewrittenUnit}
use Rattle.normal_model.specs.Walk.{inside_handlers}
use Rattle.task_laws.specs.legal.asked.Asked.{Asks, AskedAlts}
use Rattle.normal_laws.specs.structure.asked.Pieces.{IsPlain, named}
use Rattle.replay_model.specs.Names.{kind_text, argument_text, index_text, control_text, go_text, done_text, idle_text, stop_text, never_text, added_word}
use Rattle.replay_model.specs.Asking.{permit_part, permit_is_kind, permit_is_for}
use Rattle.replay_model.specs.Serving.{raise_again, whatever, permits_start}
use Rattle.replay_model.specs.Calling.{double_call, is_called}
use Rattle.replay_model.specs.Waiting.{never_so, and_guard, pauses_of, is_due, never_alt, only_pause}
use Rattle.replay_model.specs.ReplayStmts.{task_called, replay_rewriter}

-- ---- nesting

-- The nesting n in the replay text of what has the nesting k in the normal form. The body of an accept goes three deeper than it stood, and accepts
-- stand in one another, so what stood k deep stands less than 4k deep.
abbrev pub StandsAt : ℕ → ℕ → Type 0
StandsAt k n = n < 4 * k

-- The nesting n of what is added for something with the nesting k in the normal form.
abbrev pub StandsNear : ℕ → ℕ → Type 0
StandsNear k n = n < 4 * k + 8

-- The nesting j of a callee or a call in a statement with the nesting k: one deeper, and in a select two.
abbrev pub IsUnder : ℕ → ℕ → Type 0
IsUnder k j = (k + 1 ≤ j) × (j ≤ k + 2)

-- ---- calls that are added

-- the call of an added task's entry with these lists
abbrev pub call_added : RewrittenUnit → Span → List ℕ → List ℕ → Option PArgs → PCall
call_added u s task entry args = record { task = named (added_word u.setting.program s task); entry = added_word u.setting.program s entry; args = args }

-- `DED_CONTROL.GO(t)(DED_K, DED_A, DED_I)`
abbrev pub asks_permit : RewrittenUnit → Span → PCall
asks_permit u s =
    call_added u s control_text go_text
    (Some (record {
      first = EInteger u.task s ∷ [];
      second = Some (permit_part u s kind_text ∷ permit_part u s argument_text ∷ permit_part u s index_text ∷ []);
    }))

-- `DED_CONTROL.DONE(t)`
abbrev pub says_done : RewrittenUnit → Span → PCall
says_done u s = call_added u s control_text done_text (Some (record { first = EInteger u.task s ∷ []; second = None }))

-- `DED_IDLE.STOP`
abbrev pub stops : RewrittenUnit → Span → PCall
stops u s = call_added u s idle_text stop_text None

-- ---- tests and waits that are added

-- `DED_K /= k`
abbrev pub is_other_kind : RewrittenUnit → Span → ℕ → PExpr
is_other_kind u s k = EBinary NotEqual (permit_part u s kind_text) (EInteger k s) s

-- the head of `accept DED_NEVER;`
abbrev pub never_head : RewrittenUnit → Span → PHead
never_head u s = record { entry = added_word u.setting.program s never_text; index = None; formals = []; span = s }

-- the guard of a delay alternative in the wait for one: none for that one, and FALSE for the others
abbrev pub pause_guard : Span → Bool → Option PExpr
pause_guard s taken = if taken then None else Some (never_so s)

-- ---- alternatives

-- the alternative is one of these
pub data IsAlternative (y : PAlt) : PAlts → Type 0 where
  first_alternative : (l : PAlts) → IsAlternative y (alt_then y l)
  later_alternative : (x : PAlt) (l : PAlts) → IsAlternative y l → IsAlternative y (alt_then x l)

-- ---- the pieces

-- The pieces of a unit, where `b` is asked of the statements of the normal form and `a` of those of the replay text, what stands around them is
-- related by R, and H is known of the nesting in the normal form of each statement for which some are added.
pub record Pieces {C D : Type 0} (u : RewrittenUnit) (H : ℕ → Type 0) (b : Asks C) (a : Asks D) (R : C → D → Type 0) : Type 0 where
  -- what is known of the nesting of a statement, and of an accept
  pub here : (c : C) (k : ℕ) (s : Span) → b.outer c k s → H k
  pub here_accepted : (c : C) (k : ℕ) (h : PHead) → b.head c k h → H k
  -- a part that has a place and a nesting, kept or added
  pub outer : (c : C) (d : D) (k n : ℕ) (s : Span) → R c d → H k → StandsNear k n → a.outer d n s
  -- what stays
  pub many : (n : ℕ) → b.many n → a.many n
  pub some : (n : ℕ) → a.many (1 + n)
  pub duration : (n : ℕ) → b.duration n → a.duration n
  pub plain : (c : C) (d : D) (k n : ℕ) (x : PStmt) → IsPlain x → R c d → b.plain c k x → StandsAt k n → a.plain d n x
  pub condition : (c : C) (d : D) (k n : ℕ) (e : PExpr) → R c d → b.condition c k e → StandsAt k n → a.condition d n e
  pub selector : (c : C) (d : D) (k n : ℕ) (e : PExpr) (xs : List PChoice) (others : Bool) (s : Span) → R c d → b.selector c k e xs others s → StandsAt k n → a.selector d n e xs others s
  pub choices : (c : C) (d : D) (k n : ℕ) (e : PExpr) (xs : List PChoice) → R c d → b.choices c k e xs → StandsAt k n → a.choices d n e xs
  pub loop : (c : C) (d : D) (k n : ℕ) (w : Option Word) (x : Option PScheme) → R c d → b.loop c k w x → StandsAt k n → a.loop d n w x
  pub looping : (c : C) (d : D) (k : ℕ) (w : Option Word) (x : Option PScheme) → R c d → b.loop c k w x → R (b.looping c w x) (a.looping d w x)
  pub callee : (c : C) (d : D) (k j n : ℕ) (x : PCallee) → R c d → H k → IsUnder k j → b.callee c j x → StandsAt j n → a.callee d n x
  pub call : (c : C) (d : D) (k j n : ℕ) (x : PCall) → R c d → H k → IsUnder k j → b.callee c j x.task → b.call c j x → StandsAt j n → a.call d n x
  pub aborts : (c : C) (d : D) (k n : ℕ) (xs : List PCallee) → R c d → b.aborts c k xs → StandsAt k n → a.aborts d n xs
  pub head : (c : C) (d : D) (k n : ℕ) (h : PHead) → R c d → b.head c k h → StandsNear k n → a.head d n h
  pub in_accept : (c : C) (d : D) (k : ℕ) (h : PHead) → R c d → b.head c k h → R (b.accepting c h) (a.accepting d h)
  pub handlers : (hs : PHandlers) → b.handlers hs → a.handlers (inside_handlers replay_rewriter hs u)
  pub handler : (c : C) (d : D) (k n : ℕ) (names : List ℕ) (ws : List Word) → R c d → b.handler c k names ws → StandsAt k n → a.handler d n names ws
  pub handling : (c : C) (d : D) → R c d → R (b.handling c) (a.handling d)
  -- the calls of the controller's entries and of the idle task's: the tasks, and the calls
  pub control : (c : C) (d : D) (k n : ℕ) (s : Span) → R c d → H k → StandsNear k n → a.callee d n (named (added_word u.setting.program s control_text))
  pub asks : (c : C) (d : D) (k n : ℕ) (s : Span) → R c d → H k → StandsNear k n → a.call d n (asks_permit u s)
  pub says : (c : C) (d : D) (k n : ℕ) (s : Span) → R c d → H k → StandsNear k n → a.call d n (says_done u s)
  pub idle : (c : C) (d : D) (k n : ℕ) (s : Span) → R c d → H k → StandsNear k n → a.callee d n (named (added_word u.setting.program s idle_text))
  pub stop : (c : C) (d : D) (k n : ℕ) (s : Span) → R c d → H k → StandsNear k n → a.call d n (stops u s)
  -- the test that a permit is of another kind; kinds are numbers up to 10
  pub other_kind : (c : C) (d : D) (k n : ℕ) (s : Span) (kind : ℕ) → R c d → H k → kind ≤ 10 → StandsNear k n → a.condition d n (is_other_kind u s kind)
  -- a handler `when others`: it is one, what it may name, and the `null;` or `raise;` in it
  pub others : (s : Span) (l : PStmts) → a.handlers (whatever s l)
  pub no_others : a.handlers no_handler
  pub other : (c : C) (d : D) (k n : ℕ) → R c d → H k → StandsNear k n → a.handler d n [] []
  pub null : (c : C) (d : D) (k n : ℕ) (s : Span) → R c d → H k → StandsNear k n → a.plain d n (SNull s)
  pub again : (c : C) (d : D) (k n : ℕ) (s : Span) → R c d → H k → StandsNear k n → a.plain (a.handling d) n (raise_again s)
  -- the test of a permit for a call, and the call of the entry's double
  pub called : (c : C) (d : D) (k j n : ℕ) (s : Span) (kind : ℕ) (x : PCall) → R c d → H k → IsUnder k j → b.callee c j x.task → b.call c j x → kind ≤ 10 → StandsNear k n → a.condition d n (is_called u s kind x)
  pub double : (c : C) (d : D) (k j n : ℕ) (x : PCall) → R c d → H k → IsUnder k j → b.callee c j x.task → b.call c j x → StandsNear k n → a.call d n (double_call u x)
  -- the test of a permit for an abort
  pub aborted : (c : C) (d : D) (k n : ℕ) (s : Span) (x : PCallee) → R c d → H k → b.callee c (k + 1) x → StandsNear k n → a.condition d n (permit_is_for u s 9 (task_called u x))
  -- the test of a permit for an accept
  pub served : (c : C) (d : D) (k n : ℕ) (s : Span) (h : PHead) → R c d → b.head c k h → StandsNear k n → a.condition d n (permits_start u s h)
  -- the tests of a permit for the alternatives of a wait, and for its else part
  pub taken : (c : C) (d : D) (k n : ℕ) (x : PAlts) (else_part : Bool) (t : Span) (guard : Option PExpr) (h : PHead) (o : PMaybe) (l : PStmts) (s : Span) → R c d → H k → b.wait c k x else_part t → AskedAlts b c (k + 1) x →
      IsAlternative (alternative guard (AAccept (accepting h o) l) s) x → StandsNear k n → a.condition d n (and_guard s (permits_start u s h) guard)
  pub due : (c : C) (d : D) (k n : ℕ) (x : PAlts) (else_part : Bool) (t : Span) (guard : Option PExpr) (duration : ℕ) (l : PStmts) (s : Span) (place : ℕ) → R c d → H k → b.wait c k x else_part t → AskedAlts b c (k + 1) x →
      IsAlternative (alternative guard (ADelay duration l) s) x → place ≤ length (pauses_of x) → StandsNear k n → a.condition d n (is_due u s (pauses_of x) place duration guard)
  pub ends : (c : C) (d : D) (k n : ℕ) (x : PAlts) (else_part : Bool) (t : Span) (guard : Option PExpr) (s : Span) → R c d → H k → b.wait c k x else_part t → AskedAlts b c (k + 1) x →
      IsAlternative (alternative guard ATerminate s) x → StandsNear k n → a.condition d n (and_guard s (permit_is_kind u s 10) guard)
  pub passes : (c : C) (d : D) (k n : ℕ) (s : Span) → R c d → H k → StandsNear k n → a.condition d n (permit_is_kind u s 3)
  -- the waits for one alternative: their first alternative, which nobody calls, the delays, and the wait as a whole
  pub never : (c : C) (d : D) (k n : ℕ) (x : PAlts) (else_part : Bool) (t s : Span) → R c d → H k → b.wait c k x else_part t → AskedAlts b c (k + 1) x → StandsNear k n → a.head d n (never_head u s)
  pub shut : (c : C) (d : D) (k n : ℕ) (s : Span) → R c d → H k → StandsNear k n → a.condition d n (never_so s)
  pub delay : (c : C) (d : D) (k n : ℕ) (s : Span) (taken : Bool) → R c d → H k → StandsNear k n → a.delay d n (pause_guard s taken) s
  pub pausing : (c : C) (d : D) (k n : ℕ) (x : PAlts) (else_part : Bool) (t s : Span) (place : ℕ) → R c d → H k → b.wait c k x else_part t → AskedAlts b c (k + 1) x →
      StandsNear k n → a.wait d n (alt_then (never_alt u s) (only_pause s place (pauses_of x) 1)) false s
  pub ending : (c : C) (d : D) (k n : ℕ) (x : PAlts) (else_part : Bool) (t s : Span) → R c d → H k → b.wait c k x else_part t → AskedAlts b c (k + 1) x →
      StandsNear k n → a.wait d n (alt_then (never_alt u s) (alt_then (alternative None ATerminate s) no_alt)) false s
  pub passing : (c : C) (d : D) (k n : ℕ) (x : PAlts) (t s : Span) → R c d → H k → b.wait c k x true t → AskedAlts b c (k + 1) x → StandsNear k n → a.wait d n (alt_then (never_alt u s) no_alt) true s
