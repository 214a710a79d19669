-- Calls of entries: the image tells that it is before its call, makes it in a block, and tells what came of it. Whatever the answer says, behind it the task
-- goes on as without the text, or TASKING_ERROR is raised at the call.
use Rattle.std.proofs.Common.{◌≡◌, ℕ, ℤ, pos, int_eq, Bool, true, false, if◌then◌else◌, List, ◌∷◌, Option, None, Some, refl, sym, ap, ◌∙◌, subst, true≢false}
use Rattle.std.specs.Prelude.{is_some}
use Rattle.event_machine.specs.declared.CallForm.{CallForm}
use Rattle.event_machine.specs.declared.CallForm.TheVariants.{Plain, Conditional, Timed}
use Rattle.event_machine.specs.Offers.{Calls, calls_in, is_conditional, is_timed}
use Rattle.ada_tree.specs.declared.naming.Span.{Span}
use Rattle.ada_tree.specs.PlainExpr.{PExpr, EName}
use Rattle.ada_tree.specs.PlainStmt.{PCall, PStmt, SRaise, SCall, SConditional, STimed, SBlock, PStmts, no_stmt, stmt_then, absent, present, PHandlers, body}
use Rattle.ada_value.specs.declared.values.Raised.{Raised}
use Rattle.ada_value.specs.declared.values.Raised.TheVariants as raised
use Rattle.ada_value.specs.declared.values.Value.{Value}
use Rattle.ada_value.specs.declared.values.Value.TheVariants.{Number, Truth}
use Rattle.ada_value.specs.Values.{integer_limits, truth_limits}
use Rattle.ada_value.specs.Variables.{Variables}
use Rattle.syn_event.specs.Numbering.{owner_of}
use Rattle.task_model.specs.declared.parameters.FormalParameter.{FormalParameter}
use Rattle.task_model.specs.Setting.{entry_parameters, lists_of}
use Rattle.task_model.specs.Frames.{Around, Block, Handling, PFrame, control, in_front, settled}
use Rattle.task_model.specs.Tasks.{Task, with_vars, gone_to, raised_there}
use Rattle.task_model.specs.Calls.{Copies, called_by, opening_values, values_handed, copied_back}
use Rattle.task_model.specs.Stands.{call_stand, steps_at, offered, can_step, offer_of}
use Rattle.task_model.specs.Rendezvous.{resumed, resumed_with, returned, come_back, copies_at, copies_of, call_ended, call_failed, took_else, took_delay, pending_of, finals_of}
use Rattle.task_laws.specs.translation.Translations.{Translation}
use Rattle.task_laws.specs.translation.OldTexts.{only_names, OldCall}
use Rattle.task_laws.specs.translation.Controls.{frame, task_in, Under}
use Rattle.task_laws.proofs.translation.Frames.{sees-alike}
use Rattle.normal_model.specs.Making.{one}
use Rattle.normal_laws.specs.runs.floors.Meetings.{AreValues}
use Rattle.normal_laws.specs.runs.floors.Preludes.{Reaches, reaches_here, reaches_by}
use Rattle.normal_laws.proofs.runs.callees.Choosing.{reaches-behind}
use Rattle.normal_laws.proofs.runs.floors.Cells.{cell-set}
use Rattle.run_laws.specs.collecting.Copies.{other_in, other_part}
use Rattle.run_laws.specs.collecting.Settings.{is_call}
use Rattle.replay_model.specs.Serving.{raise_again, whatever}
use Rattle.collect_model.specs.Teller.{Teller}
use Rattle.collect_model.specs.Noting.{before_call, has_call_else, has_expired, has_failed, number, own_number, own_note}
use Rattle.collect_model.specs.Calling.{entry_called, member_called, call_note, call_telling, tasking_error, part_is, fails_late}
use Rattle.collect_runs.specs.translation.Floors.{IsVariableOf, HasVariables}
use Rattle.collect_runs.specs.telling.Texts.{IsInteger, IsCallAlike}
use Rattle.collect_runs.specs.telling.Meetings.{ComesTo, HandBackAlike}
use Rattle.collect_runs.proofs.telling.Noting.{here, later, literal}
use Rattle.collect_runs.proofs.telling.Hearing.{cell-worth, part-test, parted, part-goes, if-goes}
use Rattle.replay_runs.proofs.controls.meanings.Called.{copies_alike, CopiedAlike, lists_old}
use Rattle.collect_runs.proofs.telling.Calling.{CallsSo, fits_integer}
use Rattle.collect_model.specs.aborts.Noting.{has_returned, returned_then}
use Rattle.collect_model.specs.aborts.Calling.{is_part, parts_behind, plain_image, conditional_image, timed_image}
use Rattle.run_laws.specs.aborts.Notes.{Note, BeforeCall, HasCallElse, HasExpired, HasFailed, HasReturned}
use Rattle.run_laws.specs.aborts.Copies.{TookOther, Failed, Returned, other_note, due_note, done_by}
use Rattle.collect_runs.specs.aborts.recorder.Telling.{member_of, spelled}
use Rattle.collect_runs.specs.aborts.translation.Rows.{Telling}
use Rattle.collect_runs.specs.aborts.translation.Floors.{OpenPlace, innermost}
use Rattle.collect_runs.proofs.aborts.translation.Rows.{are-images}
use Rattle.collect_runs.proofs.aborts.translation.Floors.{variables-there}
use Rattle.collect_runs.specs.aborts.telling.Texts.{Texts, plain, form, text, teller, unit_translation, program_of, CanTell}
use Rattle.collect_runs.specs.aborts.telling.Forms.{ComesBack, Form}
use Rattle.collect_runs.specs.aborts.telling.Meetings.{pends, IsBased, IsNoting, IsBehind, IsOwing, IsCalling}
use Rattle.collect_runs.proofs.aborts.telling.Noting.{hearing, going, notes}
use Rattle.collect_runs.proofs.aborts.telling.Ending.{callers-alike, own-notes}
use Rattle.collect_runs.proofs.aborts.telling.Keeping.{old-other}
use Rattle.collect_runs.proofs.aborts.telling.Holding.{Stays, callers-stay}
use Rattle.collect_runs.proofs.aborts.telling.Placing.{MeanSame, places-kept}
use Rattle.collect_runs.proofs.aborts.telling.Turning.{stays-parted, stays-heard}
use Rattle.collect_runs.proofs.aborts.telling.Likening.{noting-like}
use Rattle.collect_runs.proofs.aborts.telling.Copying.{copies-keep}
use Rattle.collect_runs.proofs.aborts.telling.Moving.{laws, shut, floor-raised, added, added-there, row-comes, raise-comes, raise-comes-like}

module _ (x : Texts) (can : CanTell x) (f : Form x) (t : ℕ) (ps : List OpenPlace) where
  abbrev y : Translation
  y = unit_translation x t ps

  abbrev X : Teller
  X = (teller x t).teller

  abbrev Row : PStmts → PStmts → Type 0
  Row r r' = Telling (only_names x.programs) (teller x t) (innermost ps) (x.places t) r r'

  joined : {a a' d d' : PStmts} → Row a a' → Row d d' → Row (in_front a d) (in_front a' d')
  joined k j = (are-images (only_names x.programs) (teller x t) (innermost ps) (x.places t)).joined _ _ _ _ k j

  pub there : {q q' : Around} {o o' : List PFrame} {V W : Variables} → Under (unit_translation x t ps) q o V q' o' W → HasVariables x.main.teller.added W
  there v = variables-there (only_names x.programs) (teller x t) (x.places t) can.plainly.names ps v

  module _ (q q' : Around) (o o' : List PFrame) where
    module _ (σ : Task) (own : f.plainly.IsSo t σ) where
      -- what the image keeps in its own variables leaves all as it was
      pub heard : (b : Bool) {V W : Variables} → Stays x t ps q q' o o' V W → Stays x t ps q q' o o' V (hearing x b W)
      heard b v = stays-heard x can t (added-there x can t f σ own) ps v b

      pub kept-part : (m : ℕ) {V W : Variables} → Stays x t ps q q' o o' V W → Stays x t ps q q' o o' V (parted (plain x) m W)
      kept-part m v = stays-parted x can t (added-there x can t f σ own) ps v m

  module _ (i : List ℤ) (w : List ℕ) (st : PStmt) (c : PCall) (form' : CallForm) (l : PStmts) (is : CallsSo st c form' l) (s : Span) (r r' behind : PStmts)
      (st' : PStmt) (l' : PStmts)
      (is' : CallsSo st' (call_telling (teller x t).teller s c) form' l') (q q' : Around) (o o' : List PFrame) (V : Variables)
      (own : f.plainly.IsSo t (task_in (form x) t i w (control (stmt_then st r) q o V))) (old : OldCall x.programs c)
      (rests : can_step (task_in (form x) t i w (control (stmt_then st r) q o V)) ≡ false) where
    abbrev σ : Task
    σ = task_in (form x) t i w (control (stmt_then st r) q o V)

    fits : IsInteger t
    fits = f.plainly.fits t σ own

    worth : (W : Variables) → Under y q o V q' o' W → IsCallAlike (plain x) t c V W
    worth W v = f.plainly.calls t i w (control (stmt_then st r) q o V) own rests c is.call old W (sees-alike y (laws x can t ps) v)

    -- ---- where the image stands

    -- what catches any exception at the call
    abbrev handled : PStmts
    handled = stmt_then (call_note X s has_failed c) (stmt_then (fails_late X s) (one (raise_again s)))

    abbrev watch : PHandlers
    watch = whatever s handled

    -- the frames outside of the block
    abbrev outside : List PFrame
    outside = frame (in_front behind r') q' ∷ o'

    -- in the block, before the call and before other statements; behind it; and in the handler
    abbrev within : PStmts → Variables → Task
    within a W = task_in (text x) t i w (control a (Block watch) outside W)

    abbrev after : PStmts → Variables → Task
    after a W = task_in (text x) t i w (control a q' o' W)

    abbrev failing : Raised → Variables → Task
    failing e W = task_in (text x) t i w (control handled (Handling e) outside W)

    -- ---- the test of the answer

    -- TASKING_ERROR is raised, or the task goes on
    tested : (place : Around) (out : List PFrame) (rest : PStmts) (b : Bool) (W : Variables) → HasVariables x.main.teller.added W →
        Reaches (task_in (text x) t i w (control (stmt_then (fails_late X s) rest) place out (hearing x b W)))
        (task_in (text x) t i w (settled (control (in_front (if b then one (SRaise (Some (tasking_error s)) s) else no_stmt) rest) place out (hearing x b W))))
    tested place out rest b W has =
        if-goes (plain x) t i w place out (EName x.main.teller.added.answer s) (one (SRaise (Some (tasking_error s)) s)) absent s rest (hearing x b W) b
        (cell-worth (text x).types (hearing x b W) x.main.teller.added.answer truth_limits (Truth b) s
        (cell-set W x.main.teller.added.answer truth_limits has.answer.0 (Truth b) has.answer.1))

    module _ (W : Variables) (v : Stays x t ps q q' o o' V W) where
      abbrev a : IsCallAlike (plain x) t c V W
      a = worth W v.under

      offer-here : offer_of σ ≡ Calls form' a.entry a.index
      offer-here = ap offered (is.stand σ) ∙ ap (λ k. offered (call_stand form' k)) a.here

      handed-here : values_handed σ ≡ a.values
      handed-here = ap (λ k. opening_values (called_by (form x) V k)) is.call ∙ ap (λ k. opening_values (Some k)) a.here

      -- ---- notes about the call

      -- of this kind, with these statements behind it
      told : (k : ℕ) (rest : PStmts) (place : Around) (out : List PFrame) (said : Note) (other : ℕ) (IsSo : Bool → Task → Type 0) → IsInteger k →
          ((u : Value) → spelled said other u ≡ record {
            kind = k;
            subject = t;
            argument = entry_called X c;
            index = u;
            owner = owner_of x.main.teller.numbers
                (entry_called X c);
          }) → member_of said ≡ a.index →
          ((b : Bool) → ComesTo (IsSo b) (going x can t i w rest place out (hearing x b W))) →
          IsNoting f said IsSo (task_in (text x) t i w (control (stmt_then (call_note X s k c) rest) place out W))
      told k rest place out said other IsSo small spells named comes =
          notes x can t W s k (own_number X s) (number s (entry_called X c)) (member_called X s c) (owner_of x.main.teller.numbers (entry_called X c)) t
          (entry_called X c) a.index small
          (ap (λ e. fits_integer (owner_of x.main.teller.numbers e)) a.number ∙ ap fits_integer a.owner ∙ a.owner_fits)
          (record {
            subject = literal (text x).types W t s fits;
            subject_fits = fits;
            argument = literal (text x).types W (entry_called X c) s (ap fits_integer a.number ∙ a.entry_fits);
            argument_fits = ap fits_integer a.number ∙ a.entry_fits;
            index = a.member s;
          })
          (there v.under) i w rest place out f said other IsSo spells named comes

      -- An exception has been raised at the call: the image tells so, and raises it again, or TASKING_ERROR with the answer.
      fails : (e : Raised) → f.plainly.IsSo t (raised_there e σ) → IsNoting f (HasFailed t a.entry a.index)
          (λ b. IsBased f t (if b then call_failed σ else raised_there e σ)) (failing e W)
      fails e own' =
          told has_failed (stmt_then (fails_late X s) (one (raise_again s))) (Handling e) outside (HasFailed t a.entry a.index)
          (owner_of x.main.teller.numbers (entry_called X c))
          (λ b. IsBased f t (if b then call_failed σ else raised_there e σ)) refl
          (λ u. ap (λ m. record { kind = has_failed; subject = t; argument = m; index = u; owner = owner_of x.main.teller.numbers (entry_called X c) })
          (sym a.number)) refl
          (λ b. later (tested (Handling e) outside (one (raise_again s)) b W (there v.under)) (by_answer b))
        where
          by_answer : (b : Bool) → ComesTo (IsBased f t (if b then call_failed σ else raised_there e σ))
              (task_in (text x) t i w (settled
              (control (in_front (if b then one (SRaise (Some (tasking_error s)) s) else no_stmt) (one (raise_again s))) (Handling e) outside (hearing x b W))))
          by_answer true =
              let h = heard q q' o o' σ own true v in
              later (reaches_by _ _ refl refl (reaches_here _))
              (raise-comes x can t f ps raised.Tasking i w (stmt_then st r) no_stmt h.under h.places h.keeps (f.plainly.stays t σ own).raised)
          by_answer false =
              let h = heard q q' o o' σ own false v in
              later (reaches_by _ _ refl refl (reaches_here _)) (raise-comes x can t f ps e i w (stmt_then st r) no_stmt h.under h.places h.keeps own')

      -- ---- values come back, or an exception

      abbrev κ : Task
      κ = within (one st') W

      module _ (vs : List Value) where
        -- the variables of the two as the values have come back
        abbrev fs : List FormalParameter
        fs = entry_parameters (form x) a.entry

        abbrev es : List PExpr
        es = (lists_of (form x).numbers a.entry c.args).actuals

        abbrev C : Copies
        C = copied_back fs es vs V

        abbrev D : Copies
        D = copied_back fs es vs W

        here-is : copies_of σ vs ≡ C
        here-is = ap (λ k. copies_at σ k vs) is.call ∙ ap (λ k. call_ended σ c k vs) a.here

        there-is : copies_of κ vs ≡ D
        there-is = ap (λ k. copies_at κ k vs) is'.call ∙ ap (λ k. call_ended κ (call_telling X s c) k vs) (a.there s) ∙ a.copies s vs W

        copied : AreValues x.programs vs → CopiedAlike y (laws x can t ps) q q' o o' C D
        copied known = copies_alike y (laws x can t ps) q q' o o' fs (lists_old (form x).numbers a.entry old.args).actuals known V W v.under

        stays-copied : AreValues x.programs vs → Stays x t ps q q' o o' C.vars D.vars
        stays-copied known =
            let z = added x can t f σ own in
            let olds = (lists_old (form x).numbers a.entry old.args).actuals in
            let same : MeanSame x.programs (teller x t) (x.places t) (x.places t) W D.vars = record {
              taken = λ n at le. copies-keep x.programs (x.main.taken n)
                  (old-other y (laws x can t ps) (shut x can t ps) (floor-raised x can t ps) (x.main.taken n) (z.taken n at)) fs olds vs W;
              refused = λ n at le. copies-keep x.programs (x.main.refused n)
                  (old-other y (laws x can t ps) (shut x can t ps) (floor-raised x can t ps) (x.main.refused n) (z.refused n at)) fs olds vs W;
            } in
            record {
              under = (copied known).under;
              places = places-kept x.programs (teller x t) (x.places t) same v.places;
              keeps = callers-stay x.programs (teller x t) (x.places t) same v.keeps;
            }

      -- ---- behind the call

      -- The call has come back with these values, which fit, and the image is before its note of that. Where the answer is TRUE the values have come back in the
      -- text alone.
      module _ (d' : PStmts) (img : Row (in_front l r) (in_front d' r')) (m : Task) (known : AreValues x.programs (finals_of m)) (none : pending_of m ≡ None)
          (fit : (C (finals_of m)).stopped ≡ None) where
        resumed-is : resumed m σ ≡ gone_to (in_front l r) (with_vars σ (C (finals_of m)).vars)
        resumed-is =
            ap (λ z. resumed_with z (finals_of m) σ) none ∙ ap (λ (z : Copies). come_back σ z z.stopped) (here-is (finals_of m))
            ∙ ap (λ z. come_back σ (C (finals_of m)) z) fit
            ∙ ap (λ z. gone_to (in_front z r) (with_vars σ (C (finals_of m)).vars)) is.more

        lost-here : f.IsLike t (call_failed σ) (call_failed (with_vars σ (C (finals_of m)).vars))
        lost-here = subst (λ (z : Copies). f.IsLike t (call_failed σ) (call_failed (with_vars σ z.vars))) (here-is (finals_of m))
            (f.lost t σ m own (ap is_call offer-here) none)

        behind-answer : (W1 : Variables) → Stays x t ps q q' o o' (C (finals_of m)).vars W1 → (b : Bool) →
            ComesTo (IsBased f t (if b then call_failed σ else resumed m σ))
            (task_in (text x) t i w (settled
            (control (in_front (if b then one (SRaise (Some (tasking_error s)) s) else no_stmt) (in_front d' r')) q' o' (hearing x b W1))))
        behind-answer W1 v1 true =
            let h = heard q q' o o' σ own true v1 in
            later (reaches_by _ _ refl refl (reaches_here _))
            (raise-comes-like x can t f ps raised.Tasking i w (stmt_then st r) no_stmt h.under h.places h.keeps (call_failed σ) lost-here)
        behind-answer W1 v1 false =
            let h = heard q q' o o' σ own false v1 in
            subst (λ z. ComesTo (IsBased f t z) (task_in (text x) t i w (settled (control (in_front d' r') q' o' (hearing x false W1))))) (sym resumed-is)
            (row-comes x can t f ps i w (stmt_then st r) no_stmt (in_front l r) (in_front d' r') img h.under h.places h.keeps
            (subst (f.plainly.IsSo t) resumed-is ((f.plainly.stays t σ own).resumed m)))

        owes-returned : (W1 : Variables) → Stays x t ps q q' o o' (C (finals_of m)).vars W1 →
            IsOwing f t (Returned m) σ (after (stmt_then (own_note X s has_returned 0) (stmt_then (fails_late X s) (in_front d' r'))) W1)
        owes-returned W1 v1 = record {
          output = refl;
          callers = callers-alike x t ps v1.under;
          notes = subst (λ z. IsNoting f (if is_some z then due_note (program_of x) pends t Failed (offer_of σ) else HasReturned t)
              (λ b. IsBased f t (if b then call_failed σ else resumed m σ))
              (after (stmt_then (own_note X s has_returned 0) (stmt_then (fails_late X s) (in_front d' r'))) W1)) (sym none)
              (own-notes x can f t i w fits has_returned 0 refl refl s (stmt_then (fails_late X s) (in_front d' r')) q' o' W1 (there v1.under) (HasReturned t)
              (λ b. IsBased f t (if b then call_failed σ else resumed m σ)) (λ u. refl) refl
              (λ b. later (tested q' o' (in_front d' r') b W1 (there v1.under)) (behind-answer W1 v1 b)));
        }

        -- where the image is as the values come back to it
        back-is : (j : Task) → HandBackAlike f.plainly m j → resumed j κ ≡ task_in (text x) t i w
            (settled (control (in_front l' no_stmt) (Block watch) outside (D (finals_of m)).vars))
        back-is j h =
            ap (λ z. resumed_with z (finals_of j) κ) (h.pending ∙ none) ∙ ap (λ z. returned z κ) h.finals
            ∙ ap (λ (z : Copies). come_back κ z z.stopped) (there-is (finals_of m))
            ∙ ap (λ z. come_back κ (D (finals_of m)) z) ((copied (finals_of m) known).stopped ∙ fit)
            ∙ ap (λ z. gone_to (in_front z no_stmt) (with_vars κ (D (finals_of m)).vars)) is'.more

      -- An exception comes from the accept body.
      owes-failed : (m : Task) (e : Raised) → pending_of m ≡ Some e → IsOwing f t (Returned m) σ (failing e W)
      owes-failed m e pending =
          let same : resumed m σ ≡ raised_there e σ = ap (λ z. resumed_with z (finals_of m) σ) pending in
          record {
            output = refl;
            callers = callers-alike x t ps v.under;
            notes = subst (λ z. IsNoting f (if is_some z then due_note (program_of x) pends t Failed (offer_of σ) else HasReturned t)
                (λ b. IsBased f t (if b then call_failed σ else resumed m σ)) (failing e W)) (sym pending)
                (subst (λ z. IsNoting f (due_note (program_of x) pends t Failed z) (λ b. IsBased f t (if b then call_failed σ else resumed m σ)) (failing e W))
                (sym offer-here)
                (subst (λ z. IsNoting f (HasFailed t a.entry a.index) (λ b. IsBased f t (if b then call_failed σ else z)) (failing e W)) (sym same)
                (fails e (subst (f.plainly.IsSo t) same ((f.plainly.stays t σ own).resumed m)))));
          }

      either-failed : (b : Bool) (k : Task) → IsBased f t (if b then call_failed σ else raised_there raised.Tasking σ) k → IsBased f t (call_failed σ) k
      either-failed true k h = h
      either-failed false k h = h

      -- At its call. As values have come back the image comes to its note of that.
      calling : (d' : PStmts) → Row (in_front l r) (in_front d' r') →
          ((V1 W1 : Variables) → Stays x t ps q q' o o' V1 W1 → (W2 : Variables) × (Stays x t ps q q' o o' V1 W2 ×
          Reaches (task_in (text x) t i w (settled (control (in_front l' no_stmt) (Block watch) outside W1)))
          (after (stmt_then (own_note X s has_returned 0) (stmt_then (fails_late X s) (in_front d' r'))) W2))) →
          ((e : ℕ) (z : ℤ) → calls_in is_conditional e z (offer_of σ) ≡ true → ComesTo (IsOwing f t TookOther σ) (took_else κ)) →
          ((e : ℕ) (z : ℤ) → calls_in is_timed e z (offer_of σ) ≡ true → ComesTo (IsOwing f t TookOther σ) (took_delay 1 κ)) → IsCalling f t σ κ
      calling d' img leaves otherwise expired = record {
        output = refl;
        offers = record {
          rests = ap steps_at (is'.stand κ) ∙ ap (λ k. steps_at (call_stand form' k)) (a.there s);
          offers = ap offered (is'.stand κ) ∙ ap (λ k. offered (call_stand form' k)) (a.there s) ∙ sym offer-here;
        };
        callers = callers-alike x t ps v.under;
        over = record {
          fits = fits;
          same = ap (λ k. opening_values (called_by (text x) W k)) is'.call ∙ ap (λ k. opening_values (Some k)) (a.there s)
              ∙ ap (λ vs. Number (pos t) ∷ vs) (sym handed-here);
          known = subst (AreValues x.programs) (sym handed-here) a.known;
        };
        returned = λ m j h back. comes m j h back (pending_of m) refl;
        took_else = otherwise;
        expired = expired;
        failed = here (failing raised.Tasking W) (record {
          output = refl;
          callers = callers-alike x t ps v.under;
          notes = subst (λ z. IsNoting f (due_note (program_of x) pends t Failed z) (λ b. IsBased f t (call_failed σ)) (failing raised.Tasking W))
              (sym offer-here)
              (noting-like f t either-failed (fails raised.Tasking (f.plainly.stays t σ own).raised));
        });
      }
        where
          comes : (m j : Task) → HandBackAlike f.plainly m j → ComesBack σ m → (p : Option Raised) → pending_of m ≡ p →
              ComesTo (IsOwing f t (Returned m) σ) (resumed j κ)
          comes m j h back None none =
              let fit : (C (finals_of m)).stopped ≡ None = subst (λ (z : Copies). z.stopped ≡ None) (here-is (finals_of m)) back.fits in
              let there-now = leaves (C (finals_of m)).vars (D (finals_of m)).vars (stays-copied (finals_of m) h.known) in
              subst (ComesTo (IsOwing f t (Returned m) σ)) (sym (back-is d' img m h.known none fit j h))
              (later there-now.1.1 (here _ (owes-returned d' img m h.known none fit there-now.0 there-now.1.0)))
          comes m j h back (Some e) pending =
              subst (ComesTo (IsOwing f t (Returned m) σ)) (sym (ap (λ z. resumed_with z (finals_of j) κ) (h.pending ∙ pending)))
              (here (failing e W) (owes-failed m e pending))

      -- ---- the other part

      module _ (k : ℕ) (small : IsInteger k) (made : ℕ → ℤ → ℕ → Note) (d d' : PStmts) (img : Row (in_front d r) (in_front d' r'))
          (own' : f.plainly.IsSo t (gone_to (in_front d r) σ))
          (spells : (e : ℕ) (z : ℤ) (n : ℕ) (u : Value) → spelled (made e z n) 0 u ≡ record { kind = k; subject = t; argument = e; index = u; owner = n })
          (named : (e : ℕ) (z : ℤ) (n : ℕ) → member_of (made e z n) ≡ z)
          (notes-so : (e : ℕ) (z : ℤ) → other_note (program_of x) t form' e z ≡ made e z (owner_of (form x).numbers e))
          (part-so : other_in (program_of x) form' σ ≡ gone_to (in_front d r) σ) where
        -- what is so behind the answer: TASKING_ERROR has been raised, or the other part goes on
        abbrev Other : Bool → Task → Type 0
        Other b k1 = IsBehind f (done_by (program_of x) t b TookOther σ) k1

        goes-other : (b : Bool) → ComesTo (Other b) (after (stmt_then (fails_late X s) (in_front d' r')) (hearing x b W))
        goes-other b = later (tested q' o' (in_front d' r') b W (there v.under)) (by_answer b)
          where
            by_answer : (b : Bool) → ComesTo (Other b)
                (task_in (text x) t i w (settled
                (control (in_front (if b then one (SRaise (Some (tasking_error s)) s) else no_stmt) (in_front d' r')) q' o' (hearing x b W))))
            by_answer true =
                let h = heard q q' o o' σ own true v in
                later (reaches_by _ _ refl refl (reaches_here _))
                (raise-comes x can t f ps raised.Tasking i w (stmt_then st r) no_stmt h.under h.places h.keeps (f.plainly.stays t σ own).raised)
            by_answer false =
                let h = heard q q' o o' σ own false v in
                subst (λ z. ComesTo (IsBased f t (other_part (program_of x) z σ))
                (task_in (text x) t i w (settled (control (in_front d' r') q' o' (hearing x false W))))) (sym offer-here)
                (subst (λ z. ComesTo (IsBased f t z) (task_in (text x) t i w (settled (control (in_front d' r') q' o' (hearing x false W))))) (sym part-so)
                (row-comes x can t f ps i w (stmt_then st r) no_stmt (in_front d r) (in_front d' r') img h.under h.places h.keeps own'))

        -- it tells of the other part
        owes-other : IsOwing f t TookOther σ (after (stmt_then (call_note X s k c) (stmt_then (fails_late X s) (in_front d' r'))) W)
        owes-other = record {
          output = refl;
          callers = callers-alike x t ps v.under;
          notes = subst (λ z. IsNoting f (due_note (program_of x) pends t TookOther z) Other
              (after (stmt_then (call_note X s k c) (stmt_then (fails_late X s) (in_front d' r'))) W)) (sym offer-here)
              (subst (λ z. IsNoting f z Other (after (stmt_then (call_note X s k c) (stmt_then (fails_late X s) (in_front d' r'))) W))
              (sym (notes-so a.entry a.index))
              (told k (stmt_then (fails_late X s) (in_front d' r')) q' o' (made a.entry a.index (owner_of (form x).numbers a.entry)) 0 Other small
              (λ u. spells a.entry a.index (owner_of (form x).numbers a.entry) u
              ∙ ap (λ n. record { kind = k; subject = t; argument = a.entry; index = u; owner = n }) (sym a.owner)
              ∙ ap (λ n. record { kind = k; subject = t; argument = n; index = u; owner = owner_of x.main.teller.numbers n }) (sym a.number))
              (named a.entry a.index (owner_of (form x).numbers a.entry))
              goes-other));
        }

    -- ---- which part came

    -- the image keeps in the block which part came, and comes to the part behind it
    module _ (k : ℕ) (met d' : PStmts) (so : behind ≡ one (parts_behind X s k c met d')) (W : Variables)
        (part : IsVariableOf integer_limits x.main.teller.added.part W) where
      abbrev rows : ℕ → PStmts
      rows m = in_front (if int_eq (pos m) (pos 1) then returned_then X s met else stmt_then (call_note X s k c) (stmt_then (fails_late X s) d')) r'

      parts : (m : ℕ) → IsInteger m → Reaches (within (in_front (part_is X s m) no_stmt) W)
          (task_in (text x) t i w (settled (control (rows m) q' o' (parted (plain x) m W))))
      parts m small = reaches-behind
          (subst (λ z. Reaches (within (in_front (part_is X s m) no_stmt) W)
          (task_in (text x) t i w (settled (control (in_front z r') q' o' (parted (plain x) m W))))) so
          (part-goes (plain x) t i w (Block watch) outside m W s no_stmt small part))
          (if-goes (plain x) t i w q' o' (is_part X s 1) (returned_then X s met) (present (stmt_then (call_note X s k c) (stmt_then (fails_late X s) d'))) s r'
          (parted (plain x) m W) (int_eq (pos m) (pos 1))
          (part-test (text x).types (parted (plain x) m W) x.main.teller.added.part m s
          (cell-set W x.main.teller.added.part integer_limits part.0 (Number (pos m)) part.1)))

    -- ---- before the call

    -- the image tells that it is before its call, and then is in the block
    at-call : (W : Variables) (v : Stays x t ps q q' o o' V W) → ((W1 : Variables) → Stays x t ps q q' o o' V W1 → IsCalling f t σ (within (one st') W1)) →
        IsNoting f (BeforeCall t) (λ b. IsCalling f t σ)
        (after (stmt_then (own_note X s before_call 0) (stmt_then (SBlock (body (one st') watch) s) (in_front behind r'))) W)
    at-call W v calls =
        own-notes x can f t i w fits before_call 0 refl refl s (stmt_then (SBlock (body (one st') watch) s) (in_front behind r')) q' o' W (there v.under)
        (BeforeCall t) (λ b. IsCalling f t σ)
        (λ u. refl) refl
        (λ b. later (reaches_by _ _ refl refl (reaches_here _)) (here (within (one st') (hearing x b W)) (calls (hearing x b W) (heard q q' o o' σ own b v))))

  -- ---- each form

  module _ (i : List ℤ) (w : List ℕ) (c : PCall) (s : Span) (r r' : PStmts) (im : Row r r') {q q' : Around} {o o' : List PFrame} {V W : Variables}
      (v : Stays x t ps q q' o o' V W)
      (old : OldCall x.programs c) where
    -- a plain call
    pub plain-tells : f.plainly.IsSo t (task_in (form x) t i w (control (stmt_then (SCall c s) r) q o V)) →
        can_step (task_in (form x) t i w (control (stmt_then (SCall c s) r) q o V)) ≡ false →
        IsNoting f (BeforeCall t) (λ b. IsCalling f t (task_in (form x) t i w (control (stmt_then (SCall c s) r) q o V)))
        (task_in (text x) t i w (control (in_front (plain_image X s c) r') q' o' W))
    plain-tells own rests =
        at-call i w (SCall c s) c Plain no_stmt is s r r' (returned_then X s no_stmt) (SCall (call_telling X s c) s) no_stmt is' q q' o o' V own old rests W v
        (λ W1 v1. calling i w (SCall c s) c Plain no_stmt is s r r' (returned_then X s no_stmt)
        (SCall (call_telling X s c) s) no_stmt is' q q' o o' V own old rests W1 v1 no_stmt im
        (λ V2 W2 v2. (W2, (v2, reaches_here _)))
        (λ e z it. absurd (true≢false (sym it ∙ ap (calls_in is_conditional e z)
        (offer-here i w (SCall c s) c Plain no_stmt is s r r' (returned_then X s no_stmt)
        (SCall (call_telling X s c) s) no_stmt is' q q' o o' V own old rests W1 v1))))
        (λ e z it. absurd (true≢false (sym it ∙ ap (calls_in is_timed e z)
        (offer-here i w (SCall c s) c Plain no_stmt is s r r' (returned_then X s no_stmt)
        (SCall (call_telling X s c) s) no_stmt is' q q' o o' V own old rests W1 v1)))))
      where
        is : CallsSo (SCall c s) c Plain no_stmt
        is = record { call = refl; more = refl; stand = λ k. refl }

        is' : CallsSo (SCall (call_telling (teller x t).teller s c) s) (call_telling (teller x t).teller s c) Plain no_stmt
        is' = record { call = refl; more = refl; stand = λ k. refl }

    module _ (l l' d d' : PStmts) (iml : Row l l') (imd : Row d d') where
      -- a conditional call
      abbrev cst : PStmt
      cst = SConditional c l d s

      abbrev cst' : PStmt
      cst' = SConditional (call_telling (teller x t).teller s c) (part_is X s 1) (part_is X s 2) s

      abbrev cbehind : PStmts
      cbehind = one (parts_behind X s has_call_else c l' d')

      cis : CallsSo cst c Conditional l
      cis = record { call = refl; more = refl; stand = λ k. refl }

      cis' : CallsSo cst' (call_telling (teller x t).teller s c) Conditional (part_is X s 1)
      cis' = record { call = refl; more = refl; stand = λ k. refl }

      pub conditional-tells : f.plainly.IsSo t (task_in (form x) t i w (control (stmt_then (SConditional c l d s) r) q o V)) →
          can_step (task_in (form x) t i w (control (stmt_then (SConditional c l d s) r) q o V)) ≡ false →
          IsNoting f (BeforeCall t) (λ b. IsCalling f t (task_in (form x) t i w (control (stmt_then (SConditional c l d s) r) q o V)))
          (task_in (text x) t i w (control (in_front (conditional_image X s c l' d') r') q' o' W))
      conditional-tells own rests =
          at-call i w cst c Conditional l cis s r r' cbehind cst' (part_is X s 1) cis' q q' o o' V own old rests W v
          (λ W1 v1. calling i w cst c Conditional l cis s r r' cbehind cst' (part_is X s 1) cis' q q' o o' V own old rests W1 v1 l' (joined iml im)
          (λ V2 W2 v2. (
            parted (plain x) 1 W2,
            (
              kept-part q q' o o' _ own 1 v2,
              parts i w cst c Conditional l cis s r r' cbehind cst' (part_is X s 1) cis' q q' o o' V own old rests has_call_else l' d' refl W2
                  (there v2.under).part 1 refl,
            ),
          ))
          (λ e z it. later (parts i w cst c Conditional l cis s r r' cbehind cst' (part_is X s 1) cis' q q' o o' V own old rests has_call_else l' d' refl W1
          (there v1.under).part 2 refl)
          (here _ (owes-other i w cst c Conditional l cis s r r' cbehind cst' (part_is X s 1) cis' q q' o o' V own old rests (parted (plain x) 2 W1)
          (kept-part q q' o o' _ own 2 v1) has_call_else refl
          (λ e1 z1 n. HasCallElse t e1 z1 n) d d' (joined imd im) (f.plainly.stays t _ own).took_else (λ e1 z1 n u. refl) (λ e1 z1 n. refl)
          (λ e1 z1. refl) refl)))
          (λ e z it. absurd (true≢false (sym it ∙ ap (calls_in is_timed e z)
          (offer-here i w cst c Conditional l cis s r r' cbehind cst' (part_is X s 1) cis' q q' o o' V own old rests W1 v1)))))

    module _ (l l' d d' : PStmts) (m : ℕ) (iml : Row l l') (imd : Row d d') where
      -- a timed call
      abbrev tst : PStmt
      tst = STimed c l m d s

      abbrev tst' : PStmt
      tst' = STimed (call_telling (teller x t).teller s c) (part_is X s 1) m (part_is X s 2) s

      abbrev tbehind : PStmts
      tbehind = one (parts_behind X s has_expired c l' d')

      tis : CallsSo tst c Timed l
      tis = record { call = refl; more = refl; stand = λ k. refl }

      tis' : CallsSo tst' (call_telling (teller x t).teller s c) Timed (part_is X s 1)
      tis' = record { call = refl; more = refl; stand = λ k. refl }

      pub timed-tells : f.plainly.IsSo t (task_in (form x) t i w (control (stmt_then (STimed c l m d s) r) q o V)) →
          can_step (task_in (form x) t i w (control (stmt_then (STimed c l m d s) r) q o V)) ≡ false →
          IsNoting f (BeforeCall t) (λ b. IsCalling f t (task_in (form x) t i w (control (stmt_then (STimed c l m d s) r) q o V)))
          (task_in (text x) t i w (control (in_front (timed_image X s c l' m d') r') q' o' W))
      timed-tells own rests =
          at-call i w tst c Timed l tis s r r' tbehind tst' (part_is X s 1) tis' q q' o o' V own old rests W v
          (λ W1 v1. calling i w tst c Timed l tis s r r' tbehind tst' (part_is X s 1) tis' q q' o o' V own old rests W1 v1 l' (joined iml im)
          (λ V2 W2 v2. (
            parted (plain x) 1 W2,
            (
              kept-part q q' o o' _ own 1 v2,
              parts i w tst c Timed l tis s r r' tbehind tst' (part_is X s 1) tis' q q' o o' V own old rests has_expired l' d' refl W2
                  (there v2.under).part 1 refl,
            ),
          ))
          (λ e z it. absurd (true≢false (sym it ∙ ap (calls_in is_conditional e z)
          (offer-here i w tst c Timed l tis s r r' tbehind tst' (part_is X s 1) tis' q q' o o' V own old rests W1 v1))))
          (λ e z it. later (parts i w tst c Timed l tis s r r' tbehind tst' (part_is X s 1) tis' q q' o o' V own old rests has_expired l' d' refl W1
          (there v1.under).part 2 refl)
          (here _ (owes-other i w tst c Timed l tis s r r' tbehind tst' (part_is X s 1) tis' q q' o o' V own old rests (parted (plain x) 2 W1)
          (kept-part q q' o o' _ own 2 v1) has_expired refl
          (λ e1 z1 n. HasExpired t e1 z1 n) d d' (joined imd im) ((f.plainly.stays t _ own).took_delay 1) (λ e1 z1 n u. refl) (λ e1 z1 n. refl)
          (λ e1 z1. refl) refl))))
