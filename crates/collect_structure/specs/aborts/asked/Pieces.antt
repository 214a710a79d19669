-- What is to be known of each piece of a collecting text of a program with abort statements, so that its statements are as asked (this project's rule). One piece is one statement that is added, or a part of one, or what stays of a statement of the normal form; it is as it is asked of the text, where what it was made from is as it is asked of the normal form. Nesting is counted as for replay texts.
use Rattle.std.specs.Prelude.{ℕ, ◌+◌, ◌≤◌, Bool, true, false, List, [], ◌∷◌, Option, Some, None}
use Rattle.ada_tree.specs.declared.naming.NameId.{NameId}
use Rattle.ada_tree.specs.declared.naming.Span.{Span}
use Rattle.ada_tree.specs.declared.naming.Word.{Word}
use Rattle.ada_tree.specs.PlainExpr.{PExpr, EName}
use Rattle.ada_tree.specs.PlainStmt.{PCallee, PCall, PChoice, PScheme, PHead, PStmt, SNull, SExit, PStmts, alternative, AAccept, ADelay, ATerminate, PAlts, no_alt, alt_then, PHandlers, no_handler}
use Rattle.ada_tree.specs.Every.{alts_count}
use Rattle.normal_model.specs.Ranges.{word_at}
use Rattle.normal_model.specs.Walk.{inside_alts, inside_handlers}
use Rattle.task_laws.specs.legal.asked.Asked.{Asks, AskedAlts}
use Rattle.normal_laws.specs.structure.asked.Pieces.{IsPlain, named}
use Rattle.replay_model.specs.Serving.{raise_again, whatever}
use Rattle.replay_structure.specs.asked.Pieces.{StandsAt, StandsNear, IsUnder}
use Rattle.collect_model.specs.Teller.{Teller, task_of}
use Rattle.collect_model.specs.Noting.{at_finish, has_delay, has_failed, number, own_number}
use Rattle.collect_model.specs.Calling.{call_telling}
use Rattle.collect_model.specs.Serving.{head_telling}
use Rattle.collect_structure.specs.asked.Pieces.{own_call, call_call, begin_call, sets_part, raises}
use Rattle.collect_model.specs.aborts.AbortTeller.{AbortTeller}
use Rattle.collect_model.specs.aborts.Noting.{at_abort}
use Rattle.collect_model.specs.aborts.Calling.{is_part}
use Rattle.collect_model.specs.aborts.Serving.{variable_is, is_not_refused}
use Rattle.collect_model.specs.aborts.Waiting.{alternatives_told, is_taken}
use Rattle.collect_model.specs.aborts.AbortStmts.{abort_rewriter}

-- ---- notes

-- `DED_RECORD.NOTE(2, t, DED_Q1, 0, 0, DED_G)`: the rendezvous at the place of number p is over
abbrev pub over_call : AbortTeller → Span → ℕ → PCall
over_call x s p = call_by x.teller (x.taken p)
  where
    call_by : Teller → NameId → PCall
    call_by u caller = record {
      task = named (word_at s u.added.recorder);
      entry = word_at s u.added.note;
      args = Some (record { first = number s at_finish ∷ own_number u s ∷ EName caller s ∷ number s 0 ∷ number s 0 ∷ EName u.added.answer s ∷ []; second = None });
    }

-- ---- waits

-- The number of branches behind a wait with these alternatives, and an else part or none: terminate has no branch.
abbrev pub branches_count : PAlts → Bool → ℕ
branches_count no_alt true = 1
branches_count no_alt false = 0
branches_count (alt_then (alternative g (AAccept a l) s) rest) others = 1 + branches_count rest others
branches_count (alt_then (alternative g (ADelay d l) s) rest) others = 1 + branches_count rest others
branches_count (alt_then (alternative g ATerminate s) rest) others = branches_count rest others

-- ---- the pieces

-- the number of a place of a unit that has so many
abbrev pub IsPlace : ℕ → ℕ → Type 0
IsPlace most p = (1 ≤ p) × (p ≤ most)

-- The pieces of a unit with so many places, where `b` is asked of the statements of the normal form and `a` of those of the text. What stands around a statement that stays is related by R; what stands around anything else is related by S, which holds in an added loop too. H is known of the nesting in the normal form of each statement for which some are added.
pub record Pieces {C D : Type 0} (x : AbortTeller) (most : ℕ) (H : ℕ → Type 0) (b : Asks C) (a : Asks D) (R S : C → D → Type 0) : Type 0 where
  -- what stands around
  pub near : (c : C) (d : D) → R c d → S c d
  pub looping : (c : C) (d : D) (k : ℕ) (w : Option Word) (y : Option PScheme) → R c d → b.loop c k w y → R (b.looping c w y) (a.looping d w y)
  pub handling : (c : C) (d : D) → R c d → R (b.handling c) (a.handling d)
  pub in_accept : (c : C) (d : D) (k : ℕ) (h : PHead) → S c d → b.head c k h → R (b.accepting c h) (a.accepting d (head_telling x.teller h))
  pub in_loop : (c : C) (d : D) → S c d → S c (a.looping d None None)
  pub in_handler : (c : C) (d : D) → S c d → S (b.handling c) (a.handling d)
  -- what is known of the nesting of a statement, and of an accept
  pub here : (c : C) (k : ℕ) (s : Span) → b.outer c k s → H k
  pub here_accepted : (c : C) (k : ℕ) (h : PHead) → b.head c k h → H k
  -- a part that has a place and a nesting, kept or added
  pub outer : (c : C) (d : D) (k n : ℕ) (s : Span) → S c d → H k → StandsNear k n → a.outer d n s
  -- what stays
  pub many : (n : ℕ) → b.many n → a.many n
  pub some : (n : ℕ) → a.many (1 + n)
  pub duration : (n : ℕ) → b.duration n → a.duration n
  pub plain : (c : C) (d : D) (k n : ℕ) (y : PStmt) → IsPlain y → R c d → b.plain c k y → StandsAt k n → a.plain d n y
  pub condition : (c : C) (d : D) (k n : ℕ) (e : PExpr) → S c d → b.condition c k e → StandsAt k n → a.condition d n e
  pub selector : (c : C) (d : D) (k n : ℕ) (e : PExpr) (xs : List PChoice) (others : Bool) (s : Span) → R c d → b.selector c k e xs others s → StandsAt k n → a.selector d n e xs others s
  pub choices : (c : C) (d : D) (k n : ℕ) (e : PExpr) (xs : List PChoice) → R c d → b.choices c k e xs → StandsAt k n → a.choices d n e xs
  pub loop : (c : C) (d : D) (k n : ℕ) (w : Option Word) (y : Option PScheme) → R c d → b.loop c k w y → StandsAt k n → a.loop d n w y
  pub callee : (c : C) (d : D) (k j n : ℕ) (y : PCallee) → R c d → H k → IsUnder k j → b.callee c j y → StandsAt j n → a.callee d n y
  pub aborts : (c : C) (d : D) (k n : ℕ) (xs : List PCallee) → R c d → b.aborts c k xs → StandsAt k n → a.aborts d n xs
  pub handlers : (hs : PHandlers) (t : ℕ) → b.handlers hs → a.handlers (inside_handlers (abort_rewriter x) hs t)
  pub handled : (c : C) (d : D) (k n : ℕ) (names : List ℕ) (ws : List Word) → R c d → b.handler c k names ws → StandsAt k n → a.handler d n names ws
  -- the call with the own number, and the accept with the formal of the caller
  pub telling : (c : C) (d : D) (k j n : ℕ) (s : Span) (y : PCall) → R c d → H k → IsUnder k j → b.callee c j y.task → b.call c j y → StandsAt j n → a.call d n (call_telling x.teller s y)
  pub head : (c : C) (d : D) (k n : ℕ) (h : PHead) → S c d → b.head c k h → StandsNear k n → a.head d n (head_telling x.teller h)
  -- a wait as a whole, a delay alternative of one, and that a wait has a branch
  pub wait : (c : C) (d : D) (k n : ℕ) (xs : PAlts) (others : Bool) (s : Span) (t p : ℕ) → S c d → H k → IsPlace most p → b.wait c k xs others s → AskedAlts b c (k + 1) xs → StandsNear k n →
      a.wait d n (alternatives_told x p (inside_alts (abort_rewriter x) xs t) 1 1) others s
  pub delay : (c : C) (d : D) (k n : ℕ) (guard : Option PExpr) (s : Span) → S c d → H k → b.delay c ((k + 1) + 1) guard s → StandsNear k n → a.delay d n guard s
  pub branched : (c : C) (k : ℕ) (xs : PAlts) (others : Bool) (s : Span) → b.wait c k xs others s → a.many (branches_count xs others)
  -- the recorder, and the notes: of a task itself, with kinds up to 10; of an abort; of a delay alternative of a wait; of a call; of one that has failed; of a begin; that a rendezvous is over
  pub recorder : (c : C) (d : D) (k n : ℕ) (s : Span) → S c d → H k → StandsNear k n → a.callee d n (named (word_at s x.teller.added.recorder))
  pub own : (c : C) (d : D) (k n : ℕ) (s : Span) (kind : ℕ) → S c d → H k → kind ≤ 10 → StandsNear k n → a.call d n (own_call x.teller s kind 0)
  pub aborted : (c : C) (d : D) (k n : ℕ) (s : Span) (y : PCallee) → S c d → H k → b.aborts c (k + 1) (y ∷ []) → b.callee c (k + 1) y → StandsNear k n →
      a.call d n (own_call x.teller s at_abort (task_of x.teller.numbers y.name.name))
  pub delayed : (c : C) (d : D) (k n : ℕ) (xs : PAlts) (others : Bool) (t s : Span) (place : ℕ) → S c d → H k → b.wait c k xs others t → place ≤ alts_count xs →
      StandsNear k n → a.call d n (own_call x.teller s has_delay place)
  pub told : (c : C) (d : D) (k j n : ℕ) (s : Span) (kind : ℕ) (y : PCall) → R c d → H k → IsUnder k j → b.callee c j y.task → b.call c j y → kind ≤ 10 →
      StandsNear k n → a.call d n (call_call x.teller s kind y)
  pub failed : (c : C) (d : D) (k j n : ℕ) (s : Span) (y : PCall) → R c d → H k → IsUnder k j → b.callee c j y.task → b.call c j y → StandsNear k n →
      a.call (a.handling d) n (call_call x.teller s has_failed y)
  pub begun : (c : C) (d : D) (k n : ℕ) (s : Span) (h : PHead) → S c d → b.head c k h → StandsNear k n → a.call (a.accepting d (head_telling x.teller h)) n (begin_call x.teller s h)
  pub over : (c : C) (d : D) (k n : ℕ) (s : Span) (p : ℕ) → S c d → H k → IsPlace most p → StandsNear k n → a.call d n (over_call x s p)
  -- the variables of a place: the caller is kept, and the answer; and the tests of the answer
  pub takes : (c : C) (d : D) (k n : ℕ) (s : Span) (h : PHead) (p : ℕ) → S c d → b.head c k h → IsPlace most p → StandsNear k n →
      a.plain (a.accepting d (head_telling x.teller h)) n (variable_is s (x.taken p) x.teller.added.caller)
  pub keeps : (c : C) (d : D) (k n : ℕ) (s : Span) (p : ℕ) → S c d → H k → IsPlace most p → StandsNear k n → a.plain d n (variable_is s (x.refused p) x.teller.added.answer)
  pub refused : (c : C) (d : D) (k n : ℕ) (s : Span) (p : ℕ) → S c d → H k → IsPlace most p → StandsNear k n → a.condition d n (EName (x.refused p) s)
  pub unrefused : (c : C) (d : D) (k n : ℕ) (s : Span) (p : ℕ) → S c d → H k → IsPlace most p → StandsNear k n → a.condition d n (is_not_refused x s p)
  -- the loop around a service, and the exits from it
  pub tries : (c : C) (d : D) (k n : ℕ) → S c d → H k → StandsNear k n → a.loop d n None None
  pub leaves : (c : C) (d : D) (k n : ℕ) (s : Span) (p : ℕ) → S c d → H k → IsPlace most p → StandsNear k n → a.plain (a.looping d None None) n (SExit None (Some (is_not_refused x s p)) s)
  pub leaves_wait : (c : C) (d : D) (k n : ℕ) (s : Span) → S c d → H k → StandsNear k n → a.plain (a.looping d None None) n (SExit None (Some (is_taken x s)) s)
  -- which part of a call came, and the test of it; the same of a wait; the test of the answer, and the late TASKING_ERROR
  pub part : (c : C) (d : D) (k n : ℕ) (s : Span) (w : ℕ) → S c d → H k → w ≤ 2 → StandsNear k n → a.plain d n (sets_part x.teller s w)
  pub came : (c : C) (d : D) (k n : ℕ) (s : Span) → S c d → H k → StandsNear k n → a.condition d n (is_part x.teller s 1)
  pub chosen : (c : C) (d : D) (k n : ℕ) (xs : PAlts) (others : Bool) (t s : Span) (w : ℕ) → S c d → H k → b.wait c k xs others t → w ≤ 1 + alts_count xs →
      StandsNear k n → a.plain d n (sets_part x.teller s w)
  pub chose : (c : C) (d : D) (k n : ℕ) (xs : PAlts) (others : Bool) (t s : Span) (w : ℕ) → S c d → H k → b.wait c k xs others t → w ≤ 1 + alts_count xs →
      StandsNear k n → a.condition d n (is_part x.teller s w)
  pub answered : (c : C) (d : D) (k n : ℕ) (s : Span) → S c d → H k → StandsNear k n → a.condition d n (EName x.teller.added.answer s)
  pub late : (c : C) (d : D) (k n : ℕ) (s : Span) → S c d → H k → StandsNear k n → a.plain d n (raises s)
  -- a handler for all exceptions, and the `null;` or `raise;` in it
  pub others : (s : Span) (l : PStmts) → a.handlers (whatever s l)
  pub no_others : a.handlers no_handler
  pub other : (c : C) (d : D) (k n : ℕ) → S c d → H k → StandsNear k n → a.handler d n [] []
  pub null : (c : C) (d : D) (k n : ℕ) (s : Span) → S c d → H k → StandsNear k n → a.plain d n (SNull s)
  pub again : (c : C) (d : D) (k n : ℕ) (s : Span) → S c d → H k → StandsNear k n → a.plain (a.handling d) n (raise_again s)
