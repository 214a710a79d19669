-- Frames of the code against the definitions, one frame at a time: each by cases on what it stands in.
use Rattle.std.proofs.Common.{◌≡◌, ℕ, ◌+◌, true, false, List, [], ◌∷◌, ◌++◌, Option, Some, None, option_map, refl, sym, ap, ◌∙◌, true≢false, reverse, drop}
use Rattle.std.specs.Prelude.{slice_get}
use Rattle.std.specs.Borrow.{Bor}
use Rattle.task_model.specs.declared.parameters.FormalParameter.{FormalParameter}
use Rattle.std.proofs.lemmas.List.{drop-drop, reverse-append}
use Rattle.ada_tree.specs.declared.naming.Word.{Word}
use Rattle.ada_tree.specs.declared.statements.Stmt.{Stmt}
use Rattle.ada_tree.specs.PlainStmt.{PStmts, PHandlers, no_stmt, seen}
use Rattle.ada_value.specs.declared.values.Raised.{Raised}
use Rattle.ada_value.specs.Variables.{Variables}
use Rattle.task_model.specs.Frames.{PFrame, Control, raised_in, exited_in, handler_for, unit_with, block_with, is_left, brought_by, or_else, handled_among, callers_among}
use Rattle.task_model.specs.Rendezvous.{behind_in}
use Rattle.task_state.specs.declared.frames.frame.Place.{Place}
use Rattle.task_state.specs.declared.frames.frame.Place.TheVariants as stands
use Rattle.task_state.specs.declared.frames.frame.Frame.{Frame}
use Rattle.task_state.specs.frames.Stack.{Stack, control_on, with_part, passed}
use Rattle.task_state.specs.frames.Seen.{turns_as, seen_handlers, on_parts, all_parts, parts_of, stack_of, IsUnit, IsGrounded, is_over}
use Rattle.task_state.specs.frames.inner.Catching.{unit_caught, block_caught, caught_in, holds_exits, is_exited, parameters_in, handled_in, caller_in}
use Rattle.task_state.specs.frames.Moves.{Settles, IsRaisedTo, IsExitedTo}
use Rattle.common_lemmas.proofs.Truth.{if_false, if_true}

-- ---- lists

-- the last of a list, whose inner ones come last, is the first of its frames
pub popped : (old new : List Frame) (f : Frame) → old ≡ new ++ f ∷ [] → reverse old ≡ f ∷ reverse new
popped old new f e = ap reverse e ∙ reverse-append new (f ∷ [])

-- ---- settling

-- a frame that is not over stays
pub settled_stays : (rest : List Stmt) (place : Place) (parts : List PFrame) → is_over rest place ≡ false → Settles (on_parts (seen rest) place parts) (on_parts (seen rest) place parts)
settled_stays [] stands.Inside parts h vars = absurd (true≢false h)
settled_stays [] (stands.OwnBody handlers taken) [] h vars = refl
settled_stays [] (stands.OwnBody handlers taken) (p ∷ ps) h vars = refl
settled_stays [] (stands.Block handlers) parts h vars = absurd (true≢false h)
settled_stays [] (stands.Handling x) parts h vars = absurd (true≢false h)
settled_stays [] (stands.Loop name turns stmts) [] h vars = refl
settled_stays [] (stands.Loop name turns stmts) (p ∷ ps) h vars = refl
settled_stays [] (stands.Opened caller formals pending) [] h vars = refl
settled_stays [] (stands.Opened caller formals pending) (p ∷ ps) h vars = refl
settled_stays (s ∷ rest) stands.Inside [] h vars = refl
settled_stays (s ∷ rest) stands.Inside (p ∷ ps) h vars = refl
settled_stays (s ∷ rest) (stands.OwnBody handlers taken) parts h vars = refl
settled_stays (s ∷ rest) (stands.Block handlers) parts h vars = refl
settled_stays (s ∷ rest) (stands.Handling x) parts h vars = refl
settled_stays (s ∷ rest) (stands.Loop name turns stmts) parts h vars = refl
settled_stays (s ∷ rest) (stands.Opened caller formals pending) parts h vars = refl

-- a frame that is over is left
pub settled_pops : (rest : List Stmt) (place : Place) (below : Stack) (new : Stack) → is_over rest place ≡ true → Settles below new → Settles (on_parts (seen rest) place (all_parts below)) new
settled_pops [] stands.Inside below new h settles vars = settles vars
settled_pops [] (stands.OwnBody handlers taken) below new h settles vars = absurd (true≢false (sym h))
settled_pops [] (stands.Block handlers) below new h settles vars = settles vars
settled_pops [] (stands.Handling x) below new h settles vars = settles vars
settled_pops [] (stands.Loop name turns stmts) below new h settles vars = absurd (true≢false (sym h))
settled_pops [] (stands.Opened caller formals pending) below new h settles vars = absurd (true≢false (sym h))
settled_pops (s ∷ rest) place below new h settles vars = absurd (true≢false (sym h))

-- the unit's own body is never over
pub over_is_no_unit : (rest : List Stmt) (place : Place) → is_over rest place ≡ true → IsUnit place → ⊥
over_is_no_unit [] stands.Inside h u = u
over_is_no_unit [] (stands.OwnBody handlers taken) h u = true≢false (sym h)
over_is_no_unit [] (stands.Block handlers) h u = u
over_is_no_unit [] (stands.Handling x) h u = u
over_is_no_unit [] (stands.Loop name turns stmts) h u = u
over_is_no_unit [] (stands.Opened caller formals pending) h u = u
over_is_no_unit (s ∷ rest) place h u = true≢false (sym h)

-- ---- passing a statement

pub passed_is : (rest : List Stmt) (place : Place) (parts : List PFrame) → is_over rest place ≡ false → on_parts (behind_in (seen rest)) place parts ≡ passed (on_parts (seen rest) place parts)
passed_is [] stands.Inside parts h = absurd (true≢false h)
passed_is [] (stands.OwnBody handlers taken) parts h = refl
passed_is [] (stands.Block handlers) parts h = refl
passed_is [] (stands.Handling x) parts h = refl
passed_is [] (stands.Loop name turns stmts) parts h = refl
passed_is [] (stands.Opened caller formals pending) parts h = refl
passed_is (s ∷ rest) stands.Inside [] h = refl
passed_is (s ∷ rest) stands.Inside (p ∷ ps) h = refl
passed_is (s ∷ rest) (stands.OwnBody handlers taken) parts h = refl
passed_is (s ∷ rest) (stands.Block handlers) parts h = refl
passed_is (s ∷ rest) (stands.Handling x) parts h = refl
passed_is (s ∷ rest) (stands.Loop name turns stmts) parts h = refl
passed_is (s ∷ rest) (stands.Opened caller formals pending) parts h = refl

-- ---- exceptions

-- where an exception comes to, by the frame that catches it, or beyond
caught_or : Option PFrame → List PFrame → Variables → Control → Control
caught_or (Some part) parts vars beyond = control_on (with_part part parts) vars
caught_or None parts vars beyond = beyond

unit_is : (o : Option PStmts) (x : Raised) (handlers : PHandlers) (parts : List PFrame) (vars : Variables) → control_on (with_part (unit_caught o x handlers) parts) vars ≡ unit_with o x handlers parts vars
unit_is (Some stmts) x handlers parts vars = refl
unit_is None x handlers parts vars = refl

block_is : (o : Option PStmts) (x : Raised) (parts : List PFrame) (vars : Variables) (beyond : Control) → caught_or (block_caught o x) parts vars beyond ≡ block_with o x parts vars beyond
unfolding caught_or
block_is (Some stmts) x parts vars beyond = refl
block_is None x parts vars beyond = refl

-- an exception raised in a frame with another around it is caught there, or raised behind the frame
raised_at : (x : Raised) (rest : PStmts) (place : Place) (below : Stack) (vars : Variables) →
    caught_or (caught_in x place) (all_parts below) vars (raised_in x below.outer below.top.place (drop (parameters_in place) vars)) ≡
    raised_in x (on_parts rest place (all_parts below)).outer (on_parts rest place (all_parts below)).top.place vars
unfolding caught_or
raised_at x rest stands.Inside below vars = refl
raised_at x rest (stands.OwnBody handlers None) below vars = unit_is (handler_for x (seen_handlers handlers.now)) x (seen_handlers handlers.now) (all_parts below) vars
raised_at x rest (stands.OwnBody handlers (Some y)) below vars = refl
raised_at x rest (stands.Block handlers) below vars = block_is (handler_for x (seen_handlers handlers.now)) x (all_parts below) vars (raised_in x below.outer below.top.place vars)
raised_at x rest (stands.Handling y) below vars = refl
raised_at x rest (stands.Loop name turns stmts) below vars = refl
raised_at x rest (stands.Opened caller formals pending) below vars = refl

-- one raised in the outermost frame, the unit's body, is caught there
raised_at_unit : (x : Raised) (rest : PStmts) (place : Place) (vars : Variables) (beyond : Control) → IsUnit place →
    caught_or (caught_in x place) [] vars beyond ≡ raised_in x (on_parts rest place []).outer (on_parts rest place []).top.place vars
unfolding caught_or
raised_at_unit x rest stands.Inside vars beyond u = absurd u
raised_at_unit x rest (stands.OwnBody handlers None) vars beyond u = unit_is (handler_for x (seen_handlers handlers.now)) x (seen_handlers handlers.now) [] vars
raised_at_unit x rest (stands.OwnBody handlers (Some y)) vars beyond u = refl
raised_at_unit x rest (stands.Block handlers) vars beyond u = absurd u
raised_at_unit x rest (stands.Handling y) vars beyond u = absurd u
raised_at_unit x rest (stands.Loop name turns stmts) vars beyond u = absurd u
raised_at_unit x rest (stands.Opened caller formals pending) vars beyond u = absurd u

-- what is caught is where the exception comes to
caught_some : (o : Option PFrame) (parts : List PFrame) (s : Stack) (vars : Variables) (beyond : Control) → Some s ≡ option_map (λ part. with_part part parts) o → control_on s vars ≡ caught_or o parts vars beyond
unfolding caught_or
caught_some (Some part) parts s vars beyond e = let same : s ≡ with_part part parts = cc in ap (λ at. control_on at vars) same
caught_some None parts s vars beyond e = absurd (cc)

caught_none : (o : Option PFrame) (parts : List PFrame) (vars : Variables) (beyond : Control) → ◌≡◌ {A = Option Stack} None (option_map (λ part. with_part part parts) o) → caught_or o parts vars beyond ≡ beyond
unfolding caught_or
caught_none (Some part) parts vars beyond e = absurd (cc)
caught_none None parts vars beyond e = refl

pub raise_caught : (x : Raised) (rest : PStmts) (place : Place) (fs : List Frame) (s : Stack) → IsGrounded place fs →
    Some s ≡ option_map (λ part. with_part part (parts_of fs)) (caught_in x place) → IsRaisedTo x 0 (on_parts rest place (parts_of fs)) s
raise_caught x rest place [] s u e vars = caught_some (caught_in x place) [] s vars (control_on s vars) e ∙ raised_at_unit x rest place vars (control_on s vars) u
raise_caught x rest place (f ∷ fs) s u e vars =
    caught_some (caught_in x place) (parts_of (f ∷ fs)) s vars (raised_in x (stack_of f fs).outer (stack_of f fs).top.place (drop (parameters_in place) vars)) e ∙ raised_at x rest place (stack_of f fs) vars

pub raise_beyond : (x : Raised) (rest : PStmts) (place : Place) (f : Frame) (fs : List Frame) (n : ℕ) (s : Stack) →
    ◌≡◌ {A = Option Stack} None (option_map (λ part. with_part part (parts_of (f ∷ fs))) (caught_in x place)) → IsRaisedTo x n (stack_of f fs) s →
    IsRaisedTo x (parameters_in place + n) (on_parts rest place (parts_of (f ∷ fs))) s
raise_beyond x rest place f fs n s e lands vars =
    ap (λ left. control_on s left) (sym (drop-drop n (parameters_in place) vars)) ∙
    lands (drop (parameters_in place) vars) ∙
    sym (caught_none (caught_in x place) (parts_of (f ∷ fs)) vars (raised_in x (stack_of f fs).outer (stack_of f fs).top.place (drop (parameters_in place) vars)) e) ∙
    raised_at x rest place (stack_of f fs) vars

-- the unit's body catches every exception
pub unit_catches : (x : Raised) (place : Place) → ◌≡◌ {A = Option Stack} None (option_map (λ part. with_part part []) (caught_in x place)) → IsUnit place → ⊥
unit_catches x stands.Inside e u = u
unit_catches x (stands.OwnBody handlers None) e u = cc
unit_catches x (stands.OwnBody handlers (Some y)) e u = cc
unit_catches x (stands.Block handlers) e u = u
unit_catches x (stands.Handling y) e u = u
unit_catches x (stands.Loop name turns stmts) e u = u
unit_catches x (stands.Opened caller formals pending) e u = u

-- ---- exits

pub exit_held : (w : Option Word) (rest : PStmts) (place : Place) (parts : List PFrame) → holds_exits place ≡ true → IsExitedTo w 0 (on_parts rest place parts) (on_parts no_stmt place parts)
exit_held w rest stands.Inside parts h vars = absurd (true≢false (sym h))
exit_held w rest (stands.OwnBody handlers taken) [] h vars = refl
exit_held w rest (stands.OwnBody handlers taken) (p ∷ ps) h vars = refl
exit_held w rest (stands.Block handlers) parts h vars = absurd (true≢false (sym h))
exit_held w rest (stands.Handling x) parts h vars = absurd (true≢false (sym h))
exit_held w rest (stands.Loop name turns stmts) parts h vars = absurd (true≢false (sym h))
exit_held w rest (stands.Opened caller formals pending) [] h vars = refl
exit_held w rest (stands.Opened caller formals pending) (p ∷ ps) h vars = refl

-- the frame is the loop that is left
pub exit_left : (w : Option Word) (rest : PStmts) (place : Place) (below : Stack) → is_exited w place ≡ true → IsExitedTo w (parameters_in place) (on_parts rest place (all_parts below)) below
exit_left w rest stands.Inside below h vars = absurd (true≢false (sym h))
exit_left w rest (stands.OwnBody handlers taken) below h vars = absurd (true≢false (sym h))
exit_left w rest (stands.Block handlers) below h vars = absurd (true≢false (sym h))
exit_left w rest (stands.Handling x) below h vars = absurd (true≢false (sym h))
exit_left w rest (stands.Loop name turns stmts) below h vars =
    sym (if_true (is_left w name) (control_on below (drop (brought_by (turns_as turns)) vars)) (exited_in w below.outer below.top.place (drop (brought_by (turns_as turns)) vars)) h)
exit_left w rest (stands.Opened caller formals pending) below h vars = absurd (true≢false (sym h))

-- the frame is passed
pub exit_passes : (w : Option Word) (rest : PStmts) (place : Place) (below : Stack) (n : ℕ) (s : Stack) → holds_exits place ≡ false → is_exited w place ≡ false → IsExitedTo w n below s →
    IsExitedTo w (parameters_in place + n) (on_parts rest place (all_parts below)) s
exit_passes w rest stands.Inside below n s h left lands vars = ap (λ kept. control_on s kept) (sym (drop-drop n 0 vars)) ∙ lands vars
exit_passes w rest (stands.OwnBody handlers taken) below n s h left lands vars = absurd (true≢false h)
exit_passes w rest (stands.Block handlers) below n s h left lands vars = ap (λ kept. control_on s kept) (sym (drop-drop n 0 vars)) ∙ lands vars
exit_passes w rest (stands.Handling x) below n s h left lands vars = ap (λ kept. control_on s kept) (sym (drop-drop n 0 vars)) ∙ lands vars
exit_passes w rest (stands.Loop name turns stmts) below n s h left lands vars =
    ap (λ kept. control_on s kept) (sym (drop-drop n (brought_by (turns_as turns)) vars)) ∙
    lands (drop (brought_by (turns_as turns)) vars) ∙
    sym (if_false (is_left w name) (control_on below (drop (brought_by (turns_as turns)) vars)) (exited_in w below.outer below.top.place (drop (brought_by (turns_as turns)) vars)) left)
exit_passes w rest (stands.Opened caller formals pending) below n s h left lands vars = absurd (true≢false h)

-- the unit's body holds exits
pub unit_holds : (place : Place) → holds_exits place ≡ false → IsUnit place → ⊥
unit_holds stands.Inside h u = u
unit_holds (stands.OwnBody handlers taken) h u = true≢false h
unit_holds (stands.Block handlers) h u = u
unit_holds (stands.Handling x) h u = u
unit_holds (stands.Loop name turns stmts) h u = u
unit_holds (stands.Opened caller formals pending) h u = u

-- ---- handlers and callers, the inner ones first

pub handled_step : (rest : PStmts) (place : Place) (fs : List Frame) → handled_among (all_parts (on_parts rest place (parts_of fs))) ≡ or_else (handled_in place) (handled_among (parts_of fs))
handled_step rest stands.Inside [] = refl
handled_step rest stands.Inside (f ∷ fs) = refl
handled_step rest (stands.OwnBody handlers taken) fs = refl
handled_step rest (stands.Block handlers) fs = refl
handled_step rest (stands.Handling x) fs = refl
handled_step rest (stands.Loop name turns stmts) fs = refl
handled_step rest (stands.Opened caller formals pending) fs = refl

-- the first of two numbers that is there
abbrev pub first_of : Option ℕ → Option ℕ → Option ℕ
first_of (Some n) o = Some n
first_of None o = o

pub caller_step : (rest : PStmts) (place : Place) (fs : List Frame) → slice_get (callers_among (all_parts (on_parts rest place (parts_of fs)))) 0 ≡ first_of (caller_in place) (slice_get (callers_among (parts_of fs)) 0)
caller_step rest stands.Inside [] = refl
caller_step rest stands.Inside (f ∷ fs) = refl
caller_step rest (stands.OwnBody handlers taken) fs = refl
caller_step rest (stands.Block handlers) fs = refl
caller_step rest (stands.Handling x) fs = refl
caller_step rest (stands.Loop name turns stmts) fs = refl
caller_step rest (stands.Opened caller formals pending) fs = refl

-- ---- two frames more

pub two_pushed : (old mid new : List Frame) (f g : Frame) → mid ≡ old ++ f ∷ [] → new ≡ mid ++ g ∷ [] → reverse new ≡ g ∷ f ∷ reverse old
two_pushed old mid new f g a b = popped new mid g b ∙ ap (λ fs. g ∷ fs) (popped mid old f a)

pub opened_settled : (rest : List Stmt) (caller : ℕ) (formals : Bor (List FormalParameter)) (pending : Option Raised) → is_over rest (stands.Opened caller formals pending) ≡ false
opened_settled [] caller formals pending = refl
opened_settled (s ∷ rest) caller formals pending = refl
