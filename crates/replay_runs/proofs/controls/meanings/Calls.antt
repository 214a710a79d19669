-- Calls of entries, and what a permit makes of their images.
use Rattle.std.proofs.Common.{◌≡◌, ℕ, ℤ, int_eq, Bool, true, false, not, ◌&&◌, ◌==◌, if◌then◌else◌, List, [], ◌∷◌, unwrap_or, Option, None, Some, Result, Ok, refl, sym, ap, ap₂, ◌∙◌, subst, true≢false, arith}
use Rattle.std.specs.Prelude.{pos}
use Rattle.common_lemmas.proofs.Truth.{and_false, or_false}
use Rattle.event_machine.specs.declared.CallForm.{CallForm}
use Rattle.event_machine.specs.declared.CallForm.TheVariants.{Plain, Conditional, Timed}
use Rattle.event_machine.specs.declared.Choice.TheVariants.{Accept}
use Rattle.event_machine.specs.declared.Event.{Event}
use Rattle.event_machine.specs.Offers.{Calls, Waits, is_conditional, is_timed, waits_with, is_finish, opens, same_member}
use Rattle.event_machine.proofs.Basics.{same_member-refl, same_member-true}
use Rattle.ada_tree.specs.declared.naming.Span.{Span}
use Rattle.ada_tree.specs.TypeTable.{TypeTable}
use Rattle.ada_tree.specs.PlainStmt.{PCall, PStmt, SCall, SConditional, STimed, PStmts, no_stmt, stmt_then, PMaybe, present, PArms, no_arm, no_handler, handler_then, handler}
use Rattle.ada_tree.specs.PlainProgram.{PProgram}
use Rattle.ada_static_rules.specs.Refusals.{types_in}
use Rattle.ada_static_rules.specs.StaticValue.{is_integer_value}
use Rattle.ada_value.specs.declared.values.Limits.{Limits}
use Rattle.ada_value.specs.declared.values.Raised.{Raised}
use Rattle.ada_value.specs.declared.values.Raised.TheVariants as raised
use Rattle.ada_value.specs.declared.values.Value.{Value}
use Rattle.ada_value.specs.declared.values.Value.TheVariants.{Truth}
use Rattle.ada_value.specs.Variables.{Variables}
use Rattle.syn_event.specs.Numbering.{entry_named}
use Rattle.task_model.specs.declared.parameters.FormalParameter.{FormalParameter}
use Rattle.task_model.specs.Setting.{Lists, lists_of}
use Rattle.task_model.specs.Frames.{Around, Block, PFrame, in_front}
use Rattle.task_model.specs.Tasks.{Task, gone_to, vars_of, with_vars}
use Rattle.task_model.specs.Calls.{Copies, called, call_of, called_by, opening_values, values_handed, openings, copied_back}
use Rattle.task_model.specs.Stands.{call_stand, stand_at, steps_at, offered, can_step, offer_of}
use Rattle.task_model.specs.Rendezvous.{resumed, resumed_with, returned, come_back, copies_at, call_ended, copies_of, call_failed, took_else, took_delay, more_at, pending_of, finals_of}
use Rattle.task_laws.proofs.statements.Blocks.{tasks_leave_blocks}
use Rattle.task_laws.specs.translation.Translations.{Programs, Translation, types_before, types_after}
use Rattle.task_laws.specs.translation.Scopes.{AgreeOnTypes}
use Rattle.task_laws.specs.translation.OldTexts.{only_names, OldCall, old_call, old_conditional, old_timed, OldStmts, old_no_handler, old_handler}
use Rattle.task_laws.specs.translation.Images.{ImageHandlers, image_handler}
use Rattle.task_laws.specs.translation.Controls.{frame, Under, Alike}
use Rattle.task_laws.proofs.translation.Frames.{sees-alike}
use Rattle.task_laws.proofs.translation.Locals.{go-there, raise-there}
use Rattle.normal_model.specs.RewrittenUnit.{RewrittenUnit}
use Rattle.normal_model.specs.Making.{one}
use Rattle.normal_model.specs.Calls.{entry_called}
use Rattle.normal_model.specs.Walk.{rewritten, after_stmts}
use Rattle.normal_laws.specs.runs.floors.Meetings.{AreValues}
use Rattle.normal_laws.specs.runs.floors.Preludes.{reaches_here, reaches_by}
use Rattle.normal_laws.proofs.runs.callees.Choosing.{reaches-behind}
use Rattle.normal_laws.specs.existence.Laws.{IsLegalOriginal}
use Rattle.run_laws.specs.replaying.Permits.{Permit, ToMeet, ToFinish, ToElse, ToDelay, ToCallElse, ToExpire, ToFail, ToEnd, ToAbort, ToClose, wants}
use Rattle.run_laws.specs.replaying.Copies.{Spots, shows, held_offer}
use Rattle.replay_runs.specs.script.Spelling.{kind, arg, index}
use Rattle.replay_model.specs.Asking.{done, stop, permit_is_at, branch}
use Rattle.replay_model.specs.Serving.{raise_again, saying_so, whatever}
use Rattle.replay_model.specs.Calling.{double_call, is_called, call_image}
use Rattle.replay_model.specs.ReplayStmts.{replay_rewriter}
use Rattle.replay_structure.specs.spots.Places.{text_spots}
use Rattle.replay_runs.specs.starts.Laws.{form_in, text_in}
use Rattle.replay_runs.specs.starts.Formals.{form_setting, text_setting}
use Rattle.replay_runs.specs.translation.Rows.{Replayed, replayed_none, replayed_rows}
use Rattle.replay_runs.proofs.translation.Rows.{rows, handler-rows, are-images}
use Rattle.table_law.specs.States.{Offers}
use Rattle.replay_runs.specs.controls.Asking.{unit_of_task, permit_stored}
use Rattle.replay_runs.specs.controls.Imitating.{permit_values}
use Rattle.replay_runs.specs.controls.formed.Laws.{IsCallFormed}
use Rattle.replay_runs.specs.controls.permits.Laws.{FitsInteger, EvaluatesTo, IndexIs, TakesBranch, takes_this, takes_later, takes_other}
use Rattle.replay_runs.specs.controls.translated.Laws.{form_and_text, unit_translation}
use Rattle.replay_runs.specs.controls.meanings.Pairs.{IsOfForm, IsPair}
use Rattle.replay_runs.specs.controls.meanings.Permits.{ComesToSay, IsCalling, ActsBy, IsHolding, ComesToHold}
use Rattle.replay_runs.specs.controls.meanings.Laws.{StandsAt, stands_at, plain_call, conditional_call, timed_call, HoldsEachPermit, LegalCallsHold}
use Rattle.replay_runs.proofs.controls.permits.Tests.{tests_of_permits}
use Rattle.replay_runs.proofs.controls.translated.Tables.{legal_types_agree}
use Rattle.replay_runs.proofs.controls.meanings.Pairs.{pairs_come, tasks_stay}
use Rattle.replay_runs.proofs.controls.meanings.Parts.{left, right, laws, holds_behind, stops_there, says_row, says_raising, stored_under, stored_holds, InBranch, in_branch}
use Rattle.replay_runs.proofs.controls.meanings.Accepting.{index-of, index-after}
use Rattle.replay_runs.proofs.controls.meanings.Called as eval
use Rattle.replay_runs.proofs.controls.meanings.Aborts.{either}

abbrev truth : Bool → Result Value Raised
truth c = Ok (Truth c)

-- ---- permits for calls

-- the permit is of this kind, for this member
abbrev member : ℕ → ℕ → ℤ → Permit → Bool
member k e z permit = (kind permit == k) && (arg permit == e) && int_eq (index permit) z

-- it is for the other part of a call of this form
abbrev otherwise : CallForm → ℕ → ℤ → Permit → Bool
otherwise Plain e z permit = false
otherwise Conditional e z permit = member 5 e z permit
otherwise Timed e z permit = member 6 e z permit

unwanted : (t : ℕ) (form : CallForm) (e : ℕ) (z : ℤ) (permit : Permit) → member 1 e z permit ≡ false → member 7 e z permit ≡ false →
    otherwise form e z permit ≡ false → wants t permit (Calls form e z) ≡ false
unwanted t form e z (ToMeet f j) a b c = or_false (same_member f j e z) ∙ a
unwanted t form e z ToFinish a b c = refl
unwanted t form e z ToElse a b c = refl
unwanted t form e z (ToDelay k) a b c = refl
unwanted t Plain e z (ToCallElse f j) a b c = refl
unwanted t Conditional e z (ToCallElse f j) a b c = c
unwanted t Timed e z (ToCallElse f j) a b c = refl
unwanted t Plain e z (ToExpire f j) a b c = refl
unwanted t Conditional e z (ToExpire f j) a b c = refl
unwanted t Timed e z (ToExpire f j) a b c = c
unwanted t form e z (ToFail f j) a b c = b
unwanted t form e z ToEnd a b c = and_false (not (t == 0))
unwanted t form e z (ToAbort v) a b c = refl
unwanted t form e z ToClose a b c = either (t == 0)

to-meet : (e : ℕ) (z : ℤ) (permit : Permit) → member 1 e z permit ≡ true → ToMeet e z ≡ permit
to-meet e z (ToMeet f j) c = let same = same_member-true f e j z c in ap (λ g. ToMeet g z) (sym same.0) ∙ ap (ToMeet f) (sym same.1)
to-meet e z _ c = absurd (true≢false (sym c))

to-fail : (e : ℕ) (z : ℤ) (permit : Permit) → member 7 e z permit ≡ true → ToFail e z ≡ permit
to-fail e z (ToFail f j) c = let same = same_member-true f e j z c in ap (λ g. ToFail g z) (sym same.0) ∙ ap (ToFail f) (sym same.1)
to-fail e z _ c = absurd (true≢false (sym c))

to-call-else : (e : ℕ) (z : ℤ) (permit : Permit) → member 5 e z permit ≡ true → ToCallElse e z ≡ permit
to-call-else e z (ToCallElse f j) c = let same = same_member-true f e j z c in ap (λ g. ToCallElse g z) (sym same.0) ∙ ap (ToCallElse f) (sym same.1)
to-call-else e z _ c = absurd (true≢false (sym c))

to-expire : (e : ℕ) (z : ℤ) (permit : Permit) → member 6 e z permit ≡ true → ToExpire e z ≡ permit
to-expire e z (ToExpire f j) c = let same = same_member-true f e j z c in ap (λ g. ToExpire g z) (sym same.0) ∙ ap (ToExpire f) (sym same.1)
to-expire e z _ c = absurd (true≢false (sym c))

-- ---- a call of any form

-- a statement with this call, in this form, and these statements behind the call
record CallsSo (x : PStmt) (c : PCall) (form : CallForm) (l : PStmts) : Type 0 where
  call : call_of x ≡ Some c
  more : more_at x ≡ l
  stand : (k : Task) → stand_at k x ≡ call_stand form (called k.setting (vars_of k) c)

module _ (far : Spots) (p : PProgram) (events : List Event) (h : IsLegalOriginal p) (t : ℕ) where
  abbrev u : RewrittenUnit
  u = unit_of_task p t

  abbrev b : Programs
  b = form_and_text p events

  abbrev y : Translation
  y = unit_translation p events t

  abbrev n : Spots
  n = text_spots far (form_in p)

  abbrev T : TypeTable
  T = types_in (text_in p events)

  types : AgreeOnTypes b
  types = legal_types_agree p events h

  joined : {a a' d d' : PStmts} → Replayed (only_names b) u a a' → Replayed (only_names b) u d d' → Replayed (only_names b) u (in_front a d) (in_front a' d')
  joined k j = (are-images (only_names b) u).joined _ _ _ _ k j

  second : (a a' d d' : PStmts) (s : Span) →
      ImageHandlers (replayed_rows (only_names b) u) (handler_then (handler [] a s) (handler_then (handler [] d s) no_handler))
      (handler_then (handler [] a' s) (handler_then (handler [] d' s) no_handler)) →
      Replayed (only_names b) u d d'
  second a a' d d' s (image_handler _ _ _ _ _ _ _ im (image_handler _ _ _ _ _ _ _ more k)) = more

  -- the image of statements behind others, as those of a second handler are
  rows-behind : (a d : PStmts) (s : Span) → OldStmts (only_names b) a → OldStmts (only_names b) d →
      Replayed (only_names b) u d (rewritten replay_rewriter d (after_stmts replay_rewriter a u))
  rows-behind a d s olda oldd = second a _ d _ s (handler-rows (only_names b) u (old_handler [] a s _ olda (old_handler [] d s _ oldd old_no_handler)))

  module _ (i : List ℤ) (w : List ℕ) (x : PStmt) (c : PCall) (form : CallForm) (l : PStmts) (is : CallsSo x c form l) (s : Span) (r r' : PStmts) {q q' : Around}
      {o o' : List PFrame} {V V' : Variables} (im : Replayed (only_names b) u r r')
      (v : Under y q o V q' o' V') (own : IsOfForm p t (left far p events t i w (stmt_then x r) q o V)) (formed : IsCallFormed p t c) (old : OldCall b c)
      (rests : can_step (left far p events t i w (stmt_then x r) q o V) ≡ false) where
    abbrev σ : Task
    σ = left far p events t i w (stmt_then x r) q o V

    abbrev after : PStmts → Variables → Task
    after rest W = right far p events t i w rest q' o' W

    -- the entry, the lists and the index
    abbrev e : ℕ
    e = formed.entry.entry

    abbrev lists : Lists
    lists = lists_of (form_in p).numbers e c.args

    -- the entry's range and its formals
    abbrev limits : Limits
    limits = eval.called_limits far p events h t c formed

    abbrev formals : List FormalParameter
    formals = eval.called_formals far p events h t c formed

    are-old : eval.OldLists b lists
    are-old = eval.lists_old (form_in p).numbers e old.args

    index-here : (z : ℤ) × IndexIs (types_before b) V lists.index z
    index-here = index-of far p events h t own.there σ own.variables (sees-alike y (laws far p events t h) v) e are-old.index formed.index

    abbrev z : ℤ
    z = index-here.0

    index-there : (W : Variables) → Under y q o V q' o' W → IndexIs (types_after b) W lists.index z
    index-there W under = index-after far p events h t (sees-alike y (laws far p events t h) under) are-old.index index-here.1

    -- ---- what the call comes to

    has : eval.HasValues (types_before b) V limits formals lists z
    has = eval.has_values (types_before b) V e limits formals lists z form
        (sym (ap (λ a. steps_at (call_stand form a)) (eval.called_before far p events h t c formed V z index-here.1)) ∙ (sym (ap steps_at (is.stand σ)) ∙ rests))

    called-here : called (form_setting p) V c ≡ Ok (record { entry = e; index = z; values = has.values })
    called-here = eval.called_before far p events h t c formed V z index-here.1
        ∙ eval.member_is (types_before b) V e limits formals lists z has.values has.lies has.opens

    opens-there : (W : Variables) → Under y q o V q' o' W →
        openings (types_after b) W formals lists.actuals ≡ Ok has.values
    opens-there W under = (eval.opens_alike b types (sees-alike y (laws far p events t h) under) formals are-old.actuals has.values has.opens).0

    called-there : (W : Variables) → Under y q o V q' o' W →
        called (text_setting p events) W c ≡ Ok (record { entry = n.original e; index = z; values = has.values })
    called-there W under = eval.called_original far p events h t c formed W z (index-there W under)
        ∙ eval.member_is (types_after b) W (n.original e) limits formals lists z has.values has.lies (opens-there W under)

    double-there : (W : Variables) → Under y q o V q' o' W →
        called (text_setting p events) W (double_call u c) ≡ Ok (record { entry = n.shadow e; index = z; values = has.values })
    double-there W under = eval.called_double far p events h t c formed W z (index-there W under)
        ∙ eval.member_is (types_after b) W (n.shadow e) limits formals lists z has.values has.lies (opens-there W under)

    offered-here : offer_of σ ≡ Calls form e z
    offered-here = ap offered (is.stand σ) ∙ ap (λ a. offered (call_stand form a)) called-here

    -- ---- the call in both

    handed-here : values_handed σ ≡ has.values
    handed-here = ap (λ k. opening_values (called_by (form_setting p) V k)) is.call ∙ ap (λ a. opening_values (Some a)) called-here

    known-here : AreValues b has.values
    known-here = (eval.opens_alike b types (sees-alike y (laws far p events t h) v) formals are-old.actuals has.values has.opens).1

    module _ (l' : PStmts) (iml : Replayed (only_names b) u l l') (W : Variables) (under : Under y q o V q' o' W) where
      abbrev κ : Task
      κ = after (stmt_then (SCall c s) (in_front l' r')) W

      goes-on : (C D : Copies) → Under y q o C.vars q' o' D.vars → D.stopped ≡ C.stopped → Alike y (come_back σ C C.stopped) (come_back κ D D.stopped)
      goes-on C D both same = subst (λ a. Alike y (come_back σ C C.stopped) (come_back κ D a)) (sym same) (go C.stopped)
        where
          go : (a : Option Raised) → Alike y (come_back σ C a) (come_back κ D a)
          go None = subst (λ m. Alike y (gone_to (in_front m r) (with_vars σ C.vars)) (gone_to (in_front l' r') (with_vars κ D.vars))) (sym is.more)
              (go-there y (laws far p events t h) t i w (stmt_then x r) (stmt_then (SCall c s) (in_front l' r')) (in_front l r) (in_front l' r') (joined iml im) both)
          go (Some a) = raise-there y (laws far p events t h) t i w (stmt_then x r) (stmt_then (SCall c s) (in_front l' r')) both a

      copies-here : (vs : List Value) → copies_of σ vs ≡ copied_back formals lists.actuals vs V
      copies-here vs = ap (λ k. copies_at σ k vs) is.call ∙ ap (λ a. call_ended σ c a vs) called-here

      copies-there : (vs : List Value) → copies_of κ vs ≡ copied_back formals lists.actuals vs W
      copies-there vs =
          ap (λ a. call_ended κ c a vs) (called-there W under)
          ∙ ap₂ (λ ps (a : Lists). copied_back ps a.actuals vs W) (eval.original_stands far p events h t c formed).formals (eval.original_stands far p events h t c formed).lists

      returns : (vs : List Value) → AreValues b vs → Alike y (returned vs σ) (returned vs κ)
      returns vs known =
          let both = eval.copies_alike y (laws far p events t h) q q' o o' formals are-old.actuals known V W under in
          subst (λ C. Alike y (come_back σ C C.stopped) (returned vs κ)) (sym (copies-here vs))
          (subst (λ D. Alike y (come_back σ (copied_back formals lists.actuals vs V) (copied_back formals lists.actuals vs V).stopped) (come_back κ D D.stopped)) (sym (copies-there vs))
          (goes-on _ _ both.under both.stopped))

      comes-back : (a : Option Raised) (vs : List Value) → AreValues b vs → Alike y (resumed_with a vs σ) (resumed_with a vs κ)
      comes-back (Some a) vs known = raise-there y (laws far p events t h) t i w (stmt_then x r) (stmt_then (SCall c s) (in_front l' r')) under a
      comes-back None vs known = returns vs known

      calling : IsCalling p events t σ κ
      calling = record {
        over = record {
          same = ap (λ a. opening_values (Some a)) (called-there W under) ∙ sym handed-here;
          known = subst (AreValues b) (sym handed-here) known-here;
        };
        resumed = λ m j back. pairs_come p events t (resumed m σ) (resumed j κ) (record {
          own = (tasks_stay p t σ own).resumed m;
          alike = subst (λ k. Alike y (resumed m σ) k) (sym (ap₂ (λ a vs. resumed_with a vs κ) back.pending back.finals)) (comes-back (pending_of m) (finals_of m) back.known);
          left = (tasks_leave_blocks κ refl).resumed j;
        });
        raised = pairs_come p events t (call_failed σ) (call_failed κ) (record {
          own = (tasks_stay p t σ own).raised;
          alike = raise-there y (laws far p events t h) t i w (stmt_then x r) (stmt_then (SCall c s) (in_front l' r')) under raised.Tasking;
          left = (tasks_leave_blocks κ refl).raised;
        });
      }

    -- ---- with a permit

    -- the image offers a call of this member, as the permit is for it
    holding : (permit : Permit) (κ : Task) (f : CallForm) (m : ℕ) → Offers κ (Calls f m z) → shows n t permit (Calls form e z) ≡ Calls f m z →
        wants t permit (Calls form e z) ≡ true → κ.output ≡ σ.output →
        ActsBy far p events t permit σ κ → IsHolding far p events t permit σ κ
    holding permit κ f m its shown wanted out acts = record {
      output = out;
      offers = record {
        rests = its.rests;
        offers = its.offers ∙ sym (ap (held_offer n t permit) offered-here ∙ ap (λ a. if a then shows n t permit (Calls form e z) else Calls Plain n.stop (pos 0)) wanted ∙ shown);
      };
      callers = λ k. absurd (true≢false (sym k ∙ ap is_finish its.offers));
      acts = acts;
    }

    meet-holds : (l' : PStmts) → Replayed (only_names b) u l l' → (W : Variables) → Under y q o V q' o' W →
        IsHolding far p events t (ToMeet e z) σ (after (stmt_then (SCall c s) (in_front l' r')) W)
    meet-holds l' iml W under =
        holding (ToMeet e z) (after (stmt_then (SCall c s) (in_front l' r')) W) Plain (n.original e)
        (record { rests = ap (λ a. steps_at (call_stand Plain a)) (called-there W under); offers = ap (λ a. offered (call_stand Plain a)) (called-there W under) })
        (ap (λ a. if a then Calls Plain (n.original e) z else Waits (Accept (n.original e) z ∷ [])) (same_member-refl e z))
        (or_false (same_member e z e z) ∙ same_member-refl e z) refl
        (λ k. calling l' iml W under, λ k. absurd (true≢false (sym k ∙ ap (waits_with (opens e z)) offered-here)))

    -- before the call of the double, in the block that says so
    abbrev failing : Variables → Task
    failing W = right far p events t i w (one (SCall (double_call u c) s)) (Block (whatever s (stmt_then (done u s) (one (raise_again s))))) (frame r' q' ∷ o') W

    fail-holds : (W : Variables) → Under y q o V q' o' W → IsHolding far p events t (ToFail e z) σ (failing W)
    fail-holds W under =
        holding (ToFail e z) (failing W) Plain (n.shadow e)
        (record { rests = ap (λ a. steps_at (call_stand Plain a)) (double-there W under); offers = ap (λ a. offered (call_stand Plain a)) (double-there W under) })
        refl (same_member-refl e z) refl
        (λ k. record { reached = _; reach = reaches_here _; says = says_raising far p events t h raised.Tasking i w s (stmt_then x r) r' under (tasks_stay p t σ own).raised })

    module _ (permit : Permit) (j : Task) (few : FitsInteger (arg permit)) (fits : is_integer_value (index permit) ≡ true) (pending : pending_of j ≡ None)
        (finals : finals_of j ≡ permit_values permit) where
      abbrev W : Variables
      W = permit_stored p V' (kind permit) (arg permit) (index permit)

      stored : Under y q o V q' o' W
      stored = stored_under far p events t h permit v

      called-entry : entry_called (form_in p) c ≡ e
      called-entry = ap (λ m. unwrap_or (entry_named (form_in p).numbers (unwrap_or m 0) c.entry.name) 0) formed.callee.named ∙ ap (λ m. unwrap_or m 0) formed.entry.found

      test : (k : ℕ) → FitsInteger k → EvaluatesTo T W (is_called u s k c) (member k e z permit)
      test k small = subst (λ m. EvaluatesTo T W (permit_is_at u s k m (lists_of (form_in p).numbers m c.args).index) (member k e z permit)) (sym called-entry)
          ((tests_of_permits p t T W (kind permit) (arg permit) (index permit) (stored_holds far p events t h own.there permit v)).member
          s k e lists.index z small formed.entry.fits (index-there W stored))

      abbrev stops : PMaybe
      stops = present (one (stop u s))

      module _ (l' : PStmts) (others : PArms) where
        abbrev fails : PArms
        fails = branch (is_called u s 7 c) (one (saying_so u s (SCall (double_call u c) s))) others

        abbrev arms : PArms
        arms = branch (is_called u s 1 c) (stmt_then (SCall c s) l') fails

        abbrev asking : Task
        asking = resumed j (right far p events t i w (in_front (call_image u s c (stmt_then (SCall c s) l') others) r') q' o' V')

        into : (a : PStmt) (d : PStmts) → TakesBranch T W arms stops (stmt_then a d) →
            InBranch far p events t h permit i w q o V q' o' V' asking (stmt_then a (in_front d r'))
        into a d takes = in_branch far p events t h own.there permit j few fits pending finals i w r r' v s arms stops a d takes

        -- neither the branch of the rendezvous nor that of a call that fails
        later : (a : PStmt) (d : PStmts) → member 1 e z permit ≡ false → member 7 e z permit ≡ false → TakesBranch T W others stops (stmt_then a d) →
            InBranch far p events t h permit i w q o V q' o' V' asking (stmt_then a (in_front d r'))
        later a d met failed takes =
            into a d (takes_later _ _ fails stops _ (test 1 (omega arith) ∙ ap truth met) (takes_later _ _ others stops _ (test 7 (omega arith) ∙ ap truth failed) takes))

        stopping : member 1 e z permit ≡ false → member 7 e z permit ≡ false → otherwise form e z permit ≡ false →
            TakesBranch T W others stops (stmt_then (stop u s) no_stmt) → ComesToHold far p events t permit σ asking
        stopping met failed other takes =
            let c1 = later (stop u s) no_stmt met failed takes in
            holds_behind far p events t permit σ c1.reach
            (stops_there far p events t h permit σ s r' (record { number = t; input = i; output = w; place = q'; outer = o'; vars = W }) own.there
            (ap (wants t permit) offered-here ∙ unwanted t form e z permit met failed other) refl)

        meeting : Replayed (only_names b) u l l' → member 1 e z permit ≡ true → ComesToHold far p events t permit σ asking
        meeting iml met =
            let c1 = into (SCall c s) l' (takes_this _ _ fails stops (test 1 (omega arith) ∙ ap truth met)) in
            holds_behind far p events t permit σ c1.reach
            (subst (λ g. IsHolding far p events t g σ (after (stmt_then (SCall c s) (in_front l' r')) W)) (to-meet e z permit met) (meet-holds l' iml W stored))

        fails-there : member 1 e z permit ≡ false → member 7 e z permit ≡ true → ComesToHold far p events t permit σ asking
        fails-there met failed =
            let c1 = into (saying_so u s (SCall (double_call u c) s)) no_stmt
            (takes_later _ _ fails stops _ (test 1 (omega arith) ∙ ap truth met) (takes_this _ _ others stops (test 7 (omega arith) ∙ ap truth failed))) in
            holds_behind far p events t permit σ (reaches-behind c1.reach (reaches_by _ _ refl refl (reaches_here _)))
            (subst (λ g. IsHolding far p events t g σ (failing W)) (to-fail e z permit failed) (fail-holds W stored))

        call_holds : Replayed (only_names b) u l l' → (member 1 e z permit ≡ false → member 7 e z permit ≡ false → ComesToHold far p events t permit σ asking) →
            ComesToHold far p events t permit σ asking
        call_holds iml rest = go (member 1 e z permit) refl (member 7 e z permit) refl
          where
            go : (d : Bool) → member 1 e z permit ≡ d → (f : Bool) → member 7 e z permit ≡ f → ComesToHold far p events t permit σ asking
            go true met f failed = meeting iml met
            go false met true failed = fails-there met failed
            go false met false failed = rest met failed

      -- with a branch for the other part: of this kind, before this statement and those behind it
      other-part : (l' : PStmts) → Replayed (only_names b) u l l' → (k : ℕ) → FitsInteger k → otherwise form e z permit ≡ member k e z permit →
          (a : PStmt) (d : PStmts) →
          (member k e z permit ≡ true → IsHolding far p events t permit σ (after (stmt_then a (in_front d r')) W)) →
          ComesToHold far p events t permit σ (asking l' (branch (is_called u s k c) (stmt_then a d) no_arm))
      other-part l' iml k small same a d holds = call_holds l' others iml (λ met failed. go (member k e z permit) refl met failed)
        where
          others : PArms
          others = branch (is_called u s k c) (stmt_then a d) no_arm

          go : (f : Bool) → member k e z permit ≡ f → member 1 e z permit ≡ false → member 7 e z permit ≡ false →
              ComesToHold far p events t permit σ (asking l' others)
          go true other met failed =
              let c1 = later l' others a d met failed (takes_this _ _ no_arm stops (test k small ∙ ap truth other)) in
              holds_behind far p events t permit σ c1.reach (holds other)
          go false other met failed = stopping l' others met failed (same ∙ other) (takes_later _ _ no_arm stops _ (test k small ∙ ap truth other) (takes_other stops))

      -- the call of the double in the same form
      double-offers : (f : CallForm) (a : PStmt) → CallsSo a (double_call u c) f no_stmt → (d : PStmts) →
          Offers (after (stmt_then a d) W) (Calls f (n.shadow e) z)
      double-offers f a so d = record {
        rests = ap steps_at (so.stand (after (stmt_then a d) W)) ∙ ap (λ k. steps_at (call_stand f k)) (double-there W stored);
        offers = ap offered (so.stand (after (stmt_then a d) W)) ∙ ap (λ k. offered (call_stand f k)) (double-there W stored);
      }

      conditional-part : form ≡ Conditional → (l' d : PStmts) → Replayed (only_names b) u l l' →
          ComesToSay far p events t (took_else σ) (after (stmt_then (done u s) (in_front d r')) W) →
          ComesToHold far p events t permit σ (asking l' (branch (is_called u s 5 c) (stmt_then (SConditional (double_call u c) no_stmt (one (done u s)) s) d) no_arm))
      conditional-part same l' d iml says =
          let a : PStmt = SConditional (double_call u c) no_stmt (one (done u s)) s in
          let κ : Task = after (stmt_then a (in_front d r')) W in
          other-part l' iml 5 (omega arith) (ap (λ f. otherwise f e z permit) same) a d
          (λ other. subst (λ g. IsHolding far p events t g σ κ) (to-call-else e z permit other)
          (holding (ToCallElse e z) κ Conditional (n.shadow e) (double-offers Conditional a (record { call = refl; more = refl; stand = λ k. refl }) (in_front d r')) refl
          (ap (λ f. is_conditional f && same_member e z e z) same ∙ same_member-refl e z) refl (λ k. says)))

      timed-part : form ≡ Timed → (l' d : PStmts) (m : ℕ) → Replayed (only_names b) u l l' →
          ComesToSay far p events t (took_delay 1 σ) (after (stmt_then (done u s) (in_front d r')) W) →
          ComesToHold far p events t permit σ (asking l' (branch (is_called u s 6 c) (stmt_then (STimed (double_call u c) no_stmt m (one (done u s)) s) d) no_arm))
      timed-part same l' d m iml says =
          let a : PStmt = STimed (double_call u c) no_stmt m (one (done u s)) s in
          let κ : Task = after (stmt_then a (in_front d r')) W in
          other-part l' iml 6 (omega arith) (ap (λ f. otherwise f e z permit) same) a d
          (λ other. subst (λ g. IsHolding far p events t g σ κ) (to-expire e z permit other)
          (holding (ToExpire e z) κ Timed (n.shadow e) (double-offers Timed a (record { call = refl; more = refl; stand = λ k. refl }) (in_front d r')) refl
          (ap (λ f. is_timed f && same_member e z e z) same ∙ same_member-refl e z) refl (λ k. says)))

  -- ---- each form

  plain-at : (σ κ : Task) → IsPair p events t σ κ → (c : PCall) (s : Span) → StandsAt p events t (SCall c s) σ κ → can_step σ ≡ false →
      HoldsEachPermit far p events t σ κ
  plain-at σ κ pair c s (stands_at {q} {q'} {o} {o'} {V} {V'} i w _ r r' (old_call _ _ old asked) im v) rests permit j few fits pending finals =
      let is : CallsSo (SCall c s) c Plain no_stmt = record { call = refl; more = refl; stand = λ k. refl } in
      let formed : IsCallFormed p t c = pair.own.formed.rest.0.0 in
      call_holds i w (SCall c s) c Plain no_stmt is s r r' im v pair.own formed old rests permit j few fits pending finals no_stmt no_arm replayed_none
      (λ met failed. stopping i w (SCall c s) c Plain no_stmt is s r r' im v pair.own formed old rests permit j few fits pending finals no_stmt no_arm met failed refl
      (takes_other (present (one (stop u s)))))

  conditional-at : (σ κ : Task) → IsPair p events t σ κ → (c : PCall) (a d : PStmts) (s : Span) → StandsAt p events t (SConditional c a d s) σ κ →
      can_step σ ≡ false → HoldsEachPermit far p events t σ κ
  conditional-at σ κ pair c a d s (stands_at {q} {q'} {o} {o'} {V} {V'} i w _ r r' (old_conditional _ _ _ _ old asked olda oldd) im v) rests permit j few fits pending finals =
      let is : CallsSo (SConditional c a d s) c Conditional a = record { call = refl; more = refl; stand = λ k. refl } in
      let formed : IsCallFormed p t c = pair.own.formed.rest.0.0 in
      let d' : PStmts = rewritten replay_rewriter d (after_stmts replay_rewriter a u) in
      conditional-part i w (SConditional c a d s) c Conditional a is s r r' im v pair.own formed old rests permit j few fits pending finals
      refl (rewritten replay_rewriter a u) d' (rows (only_names b) u olda)
      (record {
        reached = _;
        reach = reaches_here _;
        says = says_row far p events t h i w s (stmt_then (SConditional c a d s) r) (in_front d r) (in_front d' r')
            (joined (rows-behind a d s olda oldd) im) (stored_under far p events t h permit v)
            (tasks_stay p t σ pair.own).took_else;
      })

  timed-at : (σ κ : Task) → IsPair p events t σ κ → (c : PCall) (a : PStmts) (m : ℕ) (d : PStmts) (s : Span) → StandsAt p events t (STimed c a m d s) σ κ →
      can_step σ ≡ false → HoldsEachPermit far p events t σ κ
  timed-at σ κ pair c a m d s (stands_at {q} {q'} {o} {o'} {V} {V'} i w _ r r' (old_timed _ _ _ _ _ old asked olda oldd) im v) rests permit j few fits pending finals =
      let is : CallsSo (STimed c a m d s) c Timed a = record { call = refl; more = refl; stand = λ k. refl } in
      let formed : IsCallFormed p t c = pair.own.formed.rest.0.0 in
      let d' : PStmts = rewritten replay_rewriter d (after_stmts replay_rewriter a u) in
      timed-part i w (STimed c a m d s) c Timed a is s r r' im v pair.own formed old rests permit j few fits pending finals
      refl (rewritten replay_rewriter a u) d' m (rows (only_names b) u olda)
      (record {
        reached = _;
        reach = reaches_here _;
        says = says_row far p events t h i w s (stmt_then (STimed c a m d s) r) (in_front d r) (in_front d' r')
            (joined (rows-behind a d s olda oldd) im) (stored_under far p events t h permit v)
            ((tasks_stay p t σ pair.own).took_delay 1);
      })

pub calls : LegalCallsHold
calls far p events h t σ κ pair _ _ at (plain_call c s) rests = plain-at far p events h t σ κ pair c s at rests
calls far p events h t σ κ pair _ _ at (conditional_call c a d s) rests = conditional-at far p events h t σ κ pair c a d s at rests
calls far p events h t σ κ pair _ _ at (timed_call c a m d s) rests = timed-at far p events h t σ κ pair c a m d s at rests
