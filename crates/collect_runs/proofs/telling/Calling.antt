-- Calls of entries: the image tells that it is before its call, makes it in a block, and tells what came of it.
use Rattle.std.proofs.Common.{◌≡◌, ◌==◌, ℕ, ℤ, pos, int_eq, Bool, true, false, if◌then◌else◌, List, [], ◌∷◌, Option, None, Some, Ok, Err, refl, sym, ap, ◌∙◌, subst, true≢false}
use Rattle.common_lemmas.proofs.Truth.{or_false}
use Rattle.event_machine.specs.declared.CallForm.{CallForm}
use Rattle.event_machine.specs.declared.CallForm.TheVariants.{Plain, Conditional, Timed}
use Rattle.event_machine.specs.Offers.{Offer, Calls, calls_in, is_conditional, is_timed}
use Rattle.ada_tree.specs.declared.naming.Span.{Span}
use Rattle.ada_tree.specs.declared.naming.NameId.{NameId}
use Rattle.ada_tree.specs.declared.statements.ParMode.{ParMode}
use Rattle.ada_tree.specs.declared.statements.ParMode.TheVariants.{Take, Give, Both}
use Rattle.ada_tree.specs.declared.expressions.BinaryOp.TheVariants.{Equal}
use Rattle.ada_tree.specs.PlainExpr.{PExpr, EName, EBinary}
use Rattle.ada_static_rules.specs.StaticValue.{is_integer_value}
use Rattle.ada_tree.specs.PlainStmt.{PCall, PStmt, SRaise, SCall, SConditional, STimed, SBlock, PStmts, no_stmt, stmt_then, absent, present, PHandlers, body, no_handler, handler_then, handler}
use Rattle.ada_value.specs.declared.values.Raised.{Raised}
use Rattle.ada_value.specs.declared.values.Raised.TheVariants as raised
use Rattle.ada_value.specs.declared.values.Value.{Value}
use Rattle.ada_value.specs.declared.values.Value.TheVariants.{Number, Truth}
use Rattle.ada_value.specs.Values.{and_then, integer_limits, truth_limits, lies_in, position_of}
use Rattle.ada_value.specs.Variables.{Object, Variables, object_named, checked_for, set_value}
use Rattle.syn_event.specs.Numbering.{owner_of}
use Rattle.task_model.specs.declared.parameters.FormalParameter.{FormalParameter}
use Rattle.task_model.specs.Setting.{entry_parameters, lists_of}
use Rattle.task_model.specs.Frames.{Around, Block, Handling, PFrame, control, in_front, settled, raised_name, raised_in, block_with, is_for}
use Rattle.task_model.specs.Tasks.{Task, vars_of, with_vars, gone_to, raised_there}
use Rattle.task_model.specs.Calls.{Copies, called, call_of, called_by, opening_values, values_handed, variable_of, stored_back, copies_on, copied_one, copied_back}
use Rattle.task_model.specs.Stands.{call_stand, stand_at, steps_at, offered, can_step, offer_of}
use Rattle.task_model.specs.Rendezvous.{resumed, resumed_with, returned, come_back, copies_at, copies_of, call_ended, call_failed, took_else, took_delay, more_at, pending_of, finals_of}
use Rattle.task_laws.specs.translation.Translations.{Translation}
use Rattle.task_laws.specs.translation.OldTexts.{only_names, OldCall}
use Rattle.task_laws.specs.translation.Controls.{frame, task_in, Under}
use Rattle.task_laws.proofs.translation.Frames.{sees-alike, add-alike}
use Rattle.normal_model.specs.Making.{one, or_null}
use Rattle.normal_laws.specs.runs.floors.Meetings.{AreValues}
use Rattle.normal_laws.specs.runs.floors.Preludes.{Reaches, reaches_here, reaches_by}
use Rattle.normal_laws.proofs.runs.callees.Choosing.{reaches-behind}
use Rattle.normal_laws.proofs.runs.floors.Cells.{cell-set}
use Rattle.run_laws.specs.collecting.Notes.{Note, BeforeCall, HasCallElse, HasExpired, HasFailed}
use Rattle.run_laws.specs.collecting.Copies.{TookOther, Failed, Upset, other_note, due_note, other_in, other_part, done_by}
use Rattle.replay_model.specs.Serving.{raise_again}
use Rattle.replay_runs.proofs.controls.meanings.Called.{copies_alike, lists_old}
use Rattle.collect_model.specs.Teller.{Teller}
use Rattle.collect_model.specs.Noting.{before_call, has_call_else, has_expired, has_failed, number, own_number, own_note}
use Rattle.collect_model.specs.Calling.{entry_called, member_called, call_note, call_telling, tasking_error, part_is, fails_late, parts_behind, plain_image, conditional_image, timed_image}
use Rattle.collect_runs.specs.recorder.Telling.{member_of, spelled}
use Rattle.collect_runs.specs.translation.Rows.{Telling}
use Rattle.collect_runs.specs.translation.Floors.{IsVariableOf, HasVariables}
use Rattle.collect_runs.proofs.translation.Rows.{are-images}
use Rattle.collect_runs.proofs.translation.Floors.{variables-there}
use Rattle.collect_runs.specs.telling.Texts.{Texts, form, text, teller, unit_rows, unit_translation, program_of, IsInteger, CanTell, IsCallAlike}
use Rattle.collect_runs.specs.telling.Forms.{Form}
use Rattle.collect_runs.specs.telling.Meetings.{ComesTo, is_tasking, pends, IsBased, IsNoting, IsOwing, HandBackAlike, IsCalling}
use Rattle.collect_runs.proofs.telling.Noting.{here, later, literal, hearing, going, notes, zero-told}
use Rattle.collect_runs.proofs.telling.Hearing.{cell-worth, part-test, parted, part-goes, if-goes}
use Rattle.collect_runs.proofs.telling.Pairs.{laws, row-comes, raise-comes}

-- ---- offers

-- the entry and the member of a call
abbrev entry_in : Offer → ℕ
entry_in (Calls form e i) = e
entry_in _ = 0

abbrev index_in : Offer → ℤ
index_in (Calls form e i) = i
index_in _ = pos 0

-- ---- TASKING_ERROR

-- the handler of a call is for the exceptions with that name
handles : (s : Span) (e : Raised) → is_for e (tasking_error s ∷ []) ≡ (9 == raised_name e)
handles s e = or_false (9 == raised_name e)

-- ---- statements with a call

-- a statement with this call, in this form, and these statements behind the call
pub record CallsSo (st : PStmt) (c : PCall) (form : CallForm) (l : PStmts) : Type 0 where
  pub call : call_of st ≡ Some c
  pub more : more_at st ≡ l
  pub stand : (k : Task) → stand_at k st ≡ call_stand form (called k.setting (vars_of k) c)

-- ---- values that come back

-- one value that comes back stops copying by no other exception than CONSTRAINT_ERROR
stored-so : (more : Variables → Copies) → ((V : Variables) → is_tasking (more V).stopped ≡ false) → (V : Variables) (id : Option NameId) (v : Value) → is_tasking (copies_on more V (stored_back V id v)).stopped ≡ false
stored-so more h V None v = h V
stored-so more h V (Some id) v = go (object_named V id)
  where
    by_test : (o : Object) (b : Bool) → is_tasking (copies_on more V (and_then (if b then Ok v else Err raised.Constraint) (λ u. Ok (set_value V id 0 u)))).stopped ≡ false
    by_test o true = h (set_value V id 0 v)
    by_test o false = refl

    go : (o : Option Object) → is_tasking (copies_on more V (and_then (checked_for o v) (λ u. Ok (set_value V id 0 u)))).stopped ≡ false
    go None = h (set_value V id 0 v)
    go (Some o) = by_test o (lies_in o.limits (position_of v))

one-so : (more : List Value → Variables → Copies) → ((vs : List Value) (V : Variables) → is_tasking (more vs V).stopped ≡ false) → (m : ParMode) (e : PExpr) (vs : List Value) (V : Variables) →
    is_tasking (copied_one more m e vs V).stopped ≡ false
one-so more h Take e vs V = h vs V
one-so more h Give e [] V = refl
one-so more h Give e (v ∷ vs) V = stored-so (λ W. more vs W) (λ W. h vs W) V (variable_of e) v
one-so more h Both e [] V = refl
one-so more h Both e (v ∷ vs) V = stored-so (λ W. more vs W) (λ W. h vs W) V (variable_of e) v

stops-so : (fs : List FormalParameter) (es : List PExpr) (vs : List Value) (V : Variables) → is_tasking (copied_back fs es vs V).stopped ≡ false
stops-so [] es vs V = refl
stops-so (formal ∷ fs) [] vs V = refl
stops-so (formal ∷ fs) (e ∷ es) vs V = one-so (λ ws W. copied_back fs es ws W) (λ ws W. stops-so fs es ws W) formal.mode e vs V

abbrev pub fits_integer : ℕ → Bool
fits_integer n = is_integer_value (pos n)

module _ (x : Texts) (can : CanTell x) (f : Form x) (t : ℕ) where
  abbrev y : Translation
  y = unit_translation x t

  abbrev X : Teller
  X = teller x t

  joined : {a a' d d' : PStmts} → Telling (only_names x.programs) X a a' → Telling (only_names x.programs) X d d' → Telling (only_names x.programs) X (in_front a d) (in_front a' d')
  joined k j = (are-images (only_names x.programs) X).joined _ _ _ _ k j

  -- the variables stay together, whatever the image keeps in its own
  pub under-heard : (b : Bool) {q q' : Around} {o o' : List PFrame} {V V' : Variables} → Under (unit_translation x t) q o V q' o' V' → Under (unit_translation x t) q o V q' o' (hearing x b V')
  under-heard b v = add-alike (unit_translation x t) (laws x can t) x.main.added.answer 0 (Truth b) can.names.answer v

  pub under-parted : (m : ℕ) {q q' : Around} {o o' : List PFrame} {V V' : Variables} → Under (unit_translation x t) q o V q' o' V' →
      Under (unit_translation x t) q o V q' o' (parted x m V')
  under-parted m v = add-alike (unit_translation x t) (laws x can t) x.main.added.part 0 (Number (pos m)) can.names.part v

  pub there : {q q' : Around} {o o' : List PFrame} {V V' : Variables} → Under (unit_translation x t) q o V q' o' V' → HasVariables x.main.added V'
  there v = variables-there (unit_rows x t) X can.names v

  module _ (i : List ℤ) (w : List ℕ) (st : PStmt) (c : PCall) (form' : CallForm) (l : PStmts) (is : CallsSo st c form' l) (s : Span) (r r' behind : PStmts) (st' : PStmt) (l' : PStmts)
      (is' : CallsSo st' (call_telling X s c) form' l') (q q' : Around) (o o' : List PFrame) (V : Variables) (own : f.IsSo t (task_in (form x) t i w (control (stmt_then st r) q o V))) (old : OldCall x.programs c)
      (rests : can_step (task_in (form x) t i w (control (stmt_then st r) q o V)) ≡ false) where
    abbrev σ : Task
    σ = task_in (form x) t i w (control (stmt_then st r) q o V)

    fits : IsInteger t
    fits = f.fits t σ own

    worth : (V' : Variables) → Under y q o V q' o' V' → IsCallAlike x t c V V'
    worth V' v = f.calls t i w (control (stmt_then st r) q o V) own rests c is.call old V' (sees-alike y (laws x can t) v)

    -- ---- where the image stands

    -- what catches TASKING_ERROR at the call
    abbrev watch : PHandlers
    watch = handler_then (handler (tasking_error s ∷ []) (stmt_then (call_note X s has_failed c) (one (raise_again s))) s) no_handler

    -- the frames outside of the block
    abbrev outside : List PFrame
    outside = frame (in_front behind r') q' ∷ o'

    -- in the block, before the call and before other statements; behind it; and in the handler
    abbrev within : PStmts → Variables → Task
    within a V' = task_in (text x) t i w (control a (Block watch) outside V')

    abbrev after : PStmts → Variables → Task
    after a V' = task_in (text x) t i w (control a q' o' V')

    abbrev failing : Raised → Variables → Task
    failing e V' = task_in (text x) t i w (control (stmt_then (call_note X s has_failed c) (one (raise_again s))) (Handling e) outside V')

    module _ (V' : Variables) (v : Under y q o V q' o' V') where
      abbrev a : IsCallAlike x t c V V'
      a = worth V' v

      offer-here : offer_of σ ≡ Calls form' a.entry a.index
      offer-here = ap offered (is.stand σ) ∙ ap (λ k. offered (call_stand form' k)) a.here

      handed-here : values_handed σ ≡ a.values
      handed-here = ap (λ k. opening_values (called_by (form x) V k)) is.call ∙ ap (λ k. opening_values (Some k)) a.here

      -- ---- notes about the call

      -- of this kind, with these statements behind it
      told : (k : ℕ) (rest : PStmts) (place : Around) (out : List PFrame) (said : Note) (other : ℕ) (IsSo : Bool → Task → Type 0) → IsInteger k →
          ((v : Value) → spelled said other v ≡ record { kind = k; subject = t; argument = entry_called X c; index = v; owner = owner_of x.main.numbers (entry_called X c) }) → member_of said ≡ a.index →
          ((b : Bool) → ComesTo (IsSo b) (going x can t i w rest place out (hearing x b V'))) →
          IsNoting f said IsSo (task_in (text x) t i w (control (stmt_then (call_note X s k c) rest) place out V'))
      told k rest place out said other IsSo small spells named comes =
          notes x can t V' s k (own_number X s) (entry_called X c) (member_called X s c) (owner_of x.main.numbers (entry_called X c)) t a.index small
          (ap fits_integer a.number ∙ a.entry_fits) (ap (λ e. fits_integer (owner_of x.main.numbers e)) a.number ∙ ap fits_integer a.owner ∙ a.owner_fits)
          (record { subject = literal (text x).types V' t s fits; subject_fits = fits; index = a.member s })
          (there v) i w rest place out f said other IsSo spells named comes

      -- TASKING_ERROR has been raised at the call: the image tells so, and raises it again
      fails : (e : Raised) → f.IsSo t (raised_there e σ) → IsNoting f (HasFailed t a.entry a.index) (λ b. IsBased f t (raised_there e σ)) (failing e V')
      fails e own' =
          told has_failed (one (raise_again s)) (Handling e) outside (HasFailed t a.entry a.index) (owner_of x.main.numbers (entry_called X c)) (λ b. IsBased f t (raised_there e σ)) refl
          (λ v. ap (λ m. record { kind = has_failed; subject = t; argument = m; index = v; owner = owner_of x.main.numbers (entry_called X c) }) (sym a.number)) refl
          (λ b. later (reaches_by _ _ refl refl (reaches_here _)) (raise-comes x can t f e i w (stmt_then st r) no_stmt (under-heard b v) own'))

      -- ---- values come back, or an exception

      abbrev κ : Task
      κ = within (one st') V'

      -- an exception that the block does not catch
      passes : (e : Raised) (a' : PStmts) (W' : Variables) → (9 == raised_name e) ≡ false → raised_there e (within a' W') ≡ raised_there e (after no_stmt W')
      passes e a' W' other =
          ap (λ b. task_in (text x) t i w (settled (block_with (if b then Some (stmt_then (call_note X s has_failed c) (one (raise_again s))) else None) e outside W' (raised_in e o' q' W')))) (handles s e ∙ other)

      module _ (returns : (W W' : Variables) → Under y q o W q' o' W' → f.IsSo t (gone_to (in_front l r) (with_vars σ W)) →
          ComesTo (IsBased f t (gone_to (in_front l r) (with_vars σ W))) (task_in (text x) t i w (settled (control (in_front l' no_stmt) (Block watch) outside W')))) where
        -- the caller with what came back
        back : (C D : Copies) → Under y q o C.vars q' o' D.vars → (stopped : Option Raised) → is_tasking stopped ≡ false → f.IsSo t (come_back σ C stopped) →
            ComesTo (IsBased f t (come_back σ C stopped)) (come_back κ D stopped)
        back C D both None other own' =
            subst (λ b. ComesTo (IsBased f t (come_back σ C None)) (gone_to (in_front b no_stmt) (with_vars κ D.vars))) (sym is'.more)
            (subst (λ b. f.IsSo t (gone_to (in_front b r) (with_vars σ C.vars)) → ComesTo (IsBased f t (gone_to (in_front b r) (with_vars σ C.vars))) (gone_to (in_front l' no_stmt) (with_vars κ D.vars)))
            (sym is.more) (returns C.vars D.vars both) own')
        back C D both (Some e) other own' =
            subst (ComesTo (IsBased f t (raised_there e (with_vars σ C.vars)))) (sym (passes e (one st') D.vars other)) (raise-comes x can t f e i w (stmt_then st r) no_stmt both own')

        module _ (vs : List Value) where
          -- the variables of the two as the values have come back
          abbrev fs : List FormalParameter
          fs = entry_parameters (form x) a.entry

          abbrev es : List PExpr
          es = (lists_of (form x).numbers a.entry c.args).actuals

          abbrev C : Copies
          C = copied_back fs es vs V

          abbrev D : Copies
          D = copied_back fs es vs V'

          here-is : copies_of σ vs ≡ C
          here-is = ap (λ k. copies_at σ k vs) is.call ∙ ap (λ k. call_ended σ c k vs) a.here

          there-is : copies_of κ vs ≡ D
          there-is = ap (λ k. copies_at κ k vs) is'.call ∙ ap (λ k. call_ended κ (call_telling X s c) k vs) (a.there s) ∙ a.copies s vs V'

          returned-comes : AreValues x.programs vs → f.IsSo t (returned vs σ) → ComesTo (IsBased f t (returned vs σ)) (returned vs κ)
          returned-comes known own' =
              let alike = copies_alike y (laws x can t) q q' o o' fs (lists_old (form x).numbers a.entry old.args).actuals known V V' v in
              subst (λ (z : Copies). ComesTo (IsBased f t (returned vs σ)) (come_back κ z z.stopped)) (sym there-is)
              (subst (λ (z : Copies). f.IsSo t (come_back σ z z.stopped) → ComesTo (IsBased f t (come_back σ z z.stopped)) (come_back κ D D.stopped)) (sym here-is)
              (subst (λ z. f.IsSo t (come_back σ C C.stopped) → ComesTo (IsBased f t (come_back σ C C.stopped)) (come_back κ D z)) (sym alike.stopped)
              (back C D alike.under C.stopped (stops-so fs es vs V))) own')

        -- the rendezvous ends, and no TASKING_ERROR comes from its accept body
        ended : (pending : Option Raised) (vs : List Value) → AreValues x.programs vs → is_tasking pending ≡ false → f.IsSo t (resumed_with pending vs σ) →
            ComesTo (IsBased f t (resumed_with pending vs σ)) (resumed_with pending vs κ)
        ended None vs known other own' = returned-comes vs known own'
        ended (Some e) vs known other own' =
            subst (ComesTo (IsBased f t (raised_there e σ))) (sym (passes e (one st') V' other)) (raise-comes x can t f e i w (stmt_then st r) no_stmt v own')

        -- TASKING_ERROR comes from there
        upsets : (pending : Option Raised) (vs : List Value) → is_tasking pending ≡ true → f.IsSo t (resumed_with pending vs σ) → (g : CallForm) (e : ℕ) (z : ℤ) → offer_of σ ≡ Calls g e z →
            ComesTo (IsOwing f t (Upset e z) (resumed_with pending vs σ)) (resumed_with pending vs κ)
        upsets None vs it own' g e z offer = absurd (true≢false (sym it))
        upsets (Some m) vs it own' g e z offer =
            subst (ComesTo (IsOwing f t (Upset e z) (raised_there m σ)))
            (sym (ap (λ b. task_in (text x) t i w (settled (block_with (if b then Some (stmt_then (call_note X s has_failed c) (one (raise_again s))) else None) m outside V' (raised_in m o' q' V')))) (handles s m ∙ it)))
            (here (failing m V') (record {
              output = refl;
              notes = subst (λ (z' : Offer). IsNoting f (HasFailed t (entry_in z') (index_in z')) (λ b. IsBased f t (raised_there m σ)) (failing m V')) (sym offer-here ∙ offer) (fails m own');
            }))

        resumes : (m j : Task) → HandBackAlike f m j → pends m ≡ false → ComesTo (IsBased f t (resumed m σ)) (resumed j κ)
        resumes m j h other =
            subst (λ z. ComesTo (IsBased f t (resumed m σ)) (resumed_with z (finals_of j) κ)) (sym h.pending)
            (subst (λ z. ComesTo (IsBased f t (resumed m σ)) (resumed_with (pending_of m) z κ)) (sym h.finals)
            (ended (pending_of m) (finals_of m) h.known other ((f.stays t σ own).resumed m)))

        upset-comes : (m j : Task) → HandBackAlike f m j → pends m ≡ true → (g : CallForm) (e : ℕ) (z : ℤ) → offer_of σ ≡ Calls g e z → ComesTo (IsOwing f t (Upset e z) (resumed m σ)) (resumed j κ)
        upset-comes m j h it g e z offer =
            subst (λ u. ComesTo (IsOwing f t (Upset e z) (resumed m σ)) (resumed_with u (finals_of j) κ)) (sym h.pending)
            (subst (λ u. ComesTo (IsOwing f t (Upset e z) (resumed m σ)) (resumed_with (pending_of m) u κ)) (sym h.finals)
            (upsets (pending_of m) (finals_of m) it ((f.stays t σ own).resumed m) g e z offer))

        -- at its call
        calling : ((e : ℕ) (z : ℤ) → calls_in is_conditional e z (offer_of σ) ≡ true → ComesTo (IsOwing f t TookOther σ) (took_else κ)) →
            ((e : ℕ) (z : ℤ) → calls_in is_timed e z (offer_of σ) ≡ true → ComesTo (IsOwing f t TookOther σ) (took_delay 1 κ)) → IsCalling f t σ κ
        calling otherwise expired = record {
          output = refl;
          offers = record {
            rests = ap steps_at (is'.stand κ) ∙ ap (λ k. steps_at (call_stand form' k)) (a.there s);
            offers = ap offered (is'.stand κ) ∙ ap (λ k. offered (call_stand form' k)) (a.there s) ∙ sym offer-here;
          };
          over = record {
            fits = fits;
            same = ap (λ k. opening_values (called_by (text x) V' k)) is'.call ∙ ap (λ k. opening_values (Some k)) (a.there s) ∙ ap (λ vs. Number (pos t) ∷ vs) (sym handed-here);
            known = subst (AreValues x.programs) (sym handed-here) a.known;
          };
          returns = resumes;
          upset = upset-comes;
          took_else = otherwise;
          expired = expired;
          failed = here (failing raised.Tasking V') (record {
            output = refl;
            notes = subst (λ z. IsNoting f (due_note (program_of x) t Failed z) (λ b. IsBased f t (call_failed σ)) (failing raised.Tasking V')) (sym offer-here)
                (fails raised.Tasking (f.stays t σ own).raised);
          });
        }

      -- ---- the other part

      module _ (k : ℕ) (small : IsInteger k) (made : ℕ → ℤ → ℕ → Note) (d d' : PStmts) (img : Telling (only_names x.programs) X (in_front d r) (in_front d' r')) (own' : f.IsSo t (gone_to (in_front d r) σ))
          (spells : (e : ℕ) (z : ℤ) (n : ℕ) (v : Value) → spelled (made e z n) 0 v ≡ record { kind = k; subject = t; argument = e; index = v; owner = n })
          (named : (e : ℕ) (z : ℤ) (n : ℕ) → member_of (made e z n) ≡ z)
          (notes-so : (e : ℕ) (z : ℤ) → other_note (program_of x) t form' e z ≡ made e z (owner_of (form x).numbers e)) (part-so : other_in (program_of x) form' σ ≡ gone_to (in_front d r) σ) where
        -- with the answer the image raises TASKING_ERROR, or goes on with the other part
        goes-other : (b : Bool) → ComesTo (IsBased f t (done_by (program_of x) b TookOther σ)) (after (stmt_then (fails_late X s) (in_front d' r')) (hearing x b V'))
        goes-other b = later (if-goes x t i w q' o' (EName x.main.added.answer s) (one (SRaise (Some (tasking_error s)) s)) absent s (in_front d' r') (hearing x b V') b
            (cell-worth (text x).types (hearing x b V') x.main.added.answer truth_limits (Truth b) s (cell-set V' x.main.added.answer truth_limits (there v).answer.0 (Truth b) (there v).answer.1))) (by_answer b)
          where
            by_answer : (b : Bool) → ComesTo (IsBased f t (done_by (program_of x) b TookOther σ))
                (task_in (text x) t i w (settled (control (in_front (if b then one (SRaise (Some (tasking_error s)) s) else no_stmt) (in_front d' r')) q' o' (hearing x b V'))))
            by_answer true = later (reaches_by _ _ refl refl (reaches_here _)) (raise-comes x can t f raised.Tasking i w (stmt_then st r) no_stmt (under-heard true v) (f.stays t σ own).raised)
            by_answer false =
                subst (λ z. ComesTo (IsBased f t (other_part (program_of x) z σ)) (task_in (text x) t i w (settled (control (in_front d' r') q' o' (hearing x false V'))))) (sym offer-here)
                (subst (λ z. ComesTo (IsBased f t z) (task_in (text x) t i w (settled (control (in_front d' r') q' o' (hearing x false V'))))) (sym part-so)
                (row-comes x can t f i w (stmt_then st r) no_stmt (in_front d r) (in_front d' r') img (under-heard false v) own'))

        -- it tells of the other part
        owes-other : IsOwing f t TookOther σ (after (stmt_then (call_note X s k c) (stmt_then (fails_late X s) (in_front d' r'))) V')
        owes-other = record {
          output = refl;
          notes = subst (λ z. IsNoting f (due_note (program_of x) t TookOther z) (λ b. IsBased f t (done_by (program_of x) b TookOther σ)) (after (stmt_then (call_note X s k c) (stmt_then (fails_late X s) (in_front d' r'))) V')) (sym offer-here)
              (subst (λ z. IsNoting f z (λ b. IsBased f t (done_by (program_of x) b TookOther σ)) (after (stmt_then (call_note X s k c) (stmt_then (fails_late X s) (in_front d' r'))) V')) (sym (notes-so a.entry a.index))
              (told k (stmt_then (fails_late X s) (in_front d' r')) q' o' (made a.entry a.index (owner_of (form x).numbers a.entry)) 0 (λ b. IsBased f t (done_by (program_of x) b TookOther σ)) small
              (λ u. spells a.entry a.index (owner_of (form x).numbers a.entry) u
              ∙ ap (λ m. record { kind = k; subject = t; argument = a.entry; index = u; owner = m }) (sym a.owner)
              ∙ ap (λ m. record { kind = k; subject = t; argument = m; index = u; owner = owner_of x.main.numbers m }) (sym a.number))
              (named a.entry a.index (owner_of (form x).numbers a.entry))
              goes-other));
        }

    -- ---- which part came

    -- the statements behind the block, where the call has two parts
    abbrev split : ℕ → PStmts → PStmts → PStmt
    split k met d' = parts_behind X s k c met d'

    -- the image keeps in the block which part came, and comes to the part behind it
    module _ (k : ℕ) (met d' : PStmts) (so : behind ≡ one (split k met d')) (V' : Variables) (part : IsVariableOf integer_limits x.main.added.part V') where
      abbrev rows : ℕ → PStmts
      rows m = in_front (if int_eq (pos m) (pos 1) then or_null s met else stmt_then (call_note X s k c) (stmt_then (fails_late X s) d')) r'

      parts : (m : ℕ) → IsInteger m → Reaches (within (in_front (part_is X s m) no_stmt) V') (task_in (text x) t i w (settled (control (rows m) q' o' (parted x m V'))))
      parts m small = reaches-behind
          (subst (λ z. Reaches (within (in_front (part_is X s m) no_stmt) V') (task_in (text x) t i w (settled (control (in_front z r') q' o' (parted x m V'))))) so
          (part-goes x t i w (Block watch) outside m V' s no_stmt small part))
          (if-goes x t i w q' o' (EBinary Equal (EName x.main.added.part s) (number s 1) s) (or_null s met) (present (stmt_then (call_note X s k c) (stmt_then (fails_late X s) d'))) s r' (parted x m V') (int_eq (pos m) (pos 1))
          (part-test (text x).types (parted x m V') x.main.added.part m s (cell-set V' x.main.added.part integer_limits part.0 (Number (pos m)) part.1)))

    -- statements, with `null` where there are none, are left as the statements are
    null-row : (rest r1 : PStmts) (met : PStmts) {V1 V' : Variables} → Telling (only_names x.programs) X rest (in_front met r') → Under y q o V1 q' o' V' → f.IsSo t (gone_to rest (task_in (form x) t i w (control r1 q o V1))) →
        ComesTo (IsBased f t (gone_to rest (task_in (form x) t i w (control r1 q o V1)))) (task_in (text x) t i w (settled (control (in_front (or_null s met) r') q' o' V')))
    null-row rest r1 no_stmt img v own' = later (reaches_by _ _ refl refl (reaches_here _)) (row-comes x can t f i w r1 no_stmt rest r' img v own')
    null-row rest r1 (stmt_then z met) img v own' = row-comes x can t f i w r1 no_stmt rest (in_front (stmt_then z met) r') img v own'

    -- ---- before the call

    -- the image tells that it is before its call, and then is in the block
    at-call : (V' : Variables) (v : Under y q o V q' o' V') → ((V1 : Variables) → Under y q o V q' o' V1 → IsCalling f t σ (within (one st') V1)) →
        IsNoting f (BeforeCall t) (λ b. IsCalling f t σ) (after (stmt_then (own_note X s before_call 0) (stmt_then (SBlock (body (one st') watch) s) (in_front behind r'))) V')
    at-call V' v calls =
        notes x can t V' s before_call (own_number X s) 0 (number s 0) 0 t (pos 0) refl refl refl
        (record { subject = literal (text x).types V' t s fits; subject_fits = fits; index = zero-told (text x).types V' s })
        (there v) i w (stmt_then (SBlock (body (one st') watch) s) (in_front behind r')) q' o' f (BeforeCall t) 0 (λ b. IsCalling f t σ) (λ u. refl) refl
        (λ b. later (reaches_by _ _ refl refl (reaches_here _)) (here (within (one st') (hearing x b V')) (calls (hearing x b V') (under-heard b v))))

  -- ---- each form

  module _ (i : List ℤ) (w : List ℕ) (c : PCall) (s : Span) (r r' : PStmts) (im : Telling (only_names x.programs) X r r') {q q' : Around} {o o' : List PFrame} {V V' : Variables} (v : Under y q o V q' o' V') (old : OldCall x.programs c) where
    -- a plain call
    pub plain-tells : f.IsSo t (task_in (form x) t i w (control (stmt_then (SCall c s) r) q o V)) → can_step (task_in (form x) t i w (control (stmt_then (SCall c s) r) q o V)) ≡ false →
        IsNoting f (BeforeCall t) (λ b. IsCalling f t (task_in (form x) t i w (control (stmt_then (SCall c s) r) q o V))) (task_in (text x) t i w (control (in_front (plain_image X s c) r') q' o' V'))
    plain-tells own rests =
        at-call i w (SCall c s) c Plain no_stmt is s r r' no_stmt (SCall (call_telling X s c) s) no_stmt is' q q' o o' V own old rests V' v
        (λ V1 v1. calling i w (SCall c s) c Plain no_stmt is s r r' no_stmt (SCall (call_telling X s c) s) no_stmt is' q q' o o' V own old rests V1 v1
        (λ W W' both own'. row-comes x can t f i w (stmt_then (SCall c s) r) no_stmt r r' im both own')
        (λ e z it. absurd (true≢false (sym it ∙ ap (calls_in is_conditional e z) (offer-here i w (SCall c s) c Plain no_stmt is s r r' no_stmt (SCall (call_telling X s c) s) no_stmt is' q q' o o' V own old rests V1 v1))))
        (λ e z it. absurd (true≢false (sym it ∙ ap (calls_in is_timed e z) (offer-here i w (SCall c s) c Plain no_stmt is s r r' no_stmt (SCall (call_telling X s c) s) no_stmt is' q q' o o' V own old rests V1 v1)))))
      where
        is : CallsSo (SCall c s) c Plain no_stmt
        is = record { call = refl; more = refl; stand = λ k. refl }

        is' : CallsSo (SCall (call_telling X s c) s) (call_telling X s c) Plain no_stmt
        is' = record { call = refl; more = refl; stand = λ k. refl }

    module _ (l l' d d' : PStmts) (iml : Telling (only_names x.programs) X l l') (imd : Telling (only_names x.programs) X d d') where
      -- a conditional call
      abbrev cst : PStmt
      cst = SConditional c l d s

      abbrev cst' : PStmt
      cst' = SConditional (call_telling X s c) (part_is X s 1) (part_is X s 2) s

      abbrev cbehind : PStmts
      cbehind = one (parts_behind X s has_call_else c l' d')

      cis : CallsSo cst c Conditional l
      cis = record { call = refl; more = refl; stand = λ k. refl }

      cis' : CallsSo cst' (call_telling X s c) Conditional (part_is X s 1)
      cis' = record { call = refl; more = refl; stand = λ k. refl }

      pub conditional-tells : f.IsSo t (task_in (form x) t i w (control (stmt_then (SConditional c l d s) r) q o V)) → can_step (task_in (form x) t i w (control (stmt_then (SConditional c l d s) r) q o V)) ≡ false →
          IsNoting f (BeforeCall t) (λ b. IsCalling f t (task_in (form x) t i w (control (stmt_then (SConditional c l d s) r) q o V))) (task_in (text x) t i w (control (in_front (conditional_image X s c l' d') r') q' o' V'))
      conditional-tells own rests =
          at-call i w cst c Conditional l cis s r r' cbehind cst' (part_is X s 1) cis' q q' o o' V own old rests V' v
          (λ V1 v1. calling i w cst c Conditional l cis s r r' cbehind cst' (part_is X s 1) cis' q q' o o' V own old rests V1 v1
          (λ W W' both own'. later (parts i w cst c Conditional l cis s r r' cbehind cst' (part_is X s 1) cis' q q' o o' V own old rests has_call_else l' d' refl W' (there both).part 1 refl)
          (null-row i w cst c Conditional l cis s r r' cbehind cst' (part_is X s 1) cis' q q' o o' V own old rests (in_front l r) (stmt_then cst r) l' (joined iml im) (under-parted 1 both) own'))
          (λ e z it. later (parts i w cst c Conditional l cis s r r' cbehind cst' (part_is X s 1) cis' q q' o o' V own old rests has_call_else l' d' refl V1 (there v1).part 2 refl)
          (here _ (owes-other i w cst c Conditional l cis s r r' cbehind cst' (part_is X s 1) cis' q q' o o' V own old rests (parted x 2 V1) (under-parted 2 v1) has_call_else refl (λ e1 z1 n. HasCallElse t e1 z1 n) d d' (joined imd im)
          (f.stays t _ own).took_else (λ e1 z1 n u. refl) (λ e1 z1 n. refl) (λ e1 z1. refl) refl)))
          (λ e z it. absurd (true≢false (sym it ∙ ap (calls_in is_timed e z) (offer-here i w cst c Conditional l cis s r r' cbehind cst' (part_is X s 1) cis' q q' o o' V own old rests V1 v1)))))

    module _ (l l' d d' : PStmts) (m : ℕ) (iml : Telling (only_names x.programs) X l l') (imd : Telling (only_names x.programs) X d d') where
      -- a timed call
      abbrev tst : PStmt
      tst = STimed c l m d s

      abbrev tst' : PStmt
      tst' = STimed (call_telling X s c) (part_is X s 1) m (part_is X s 2) s

      abbrev tbehind : PStmts
      tbehind = one (parts_behind X s has_expired c l' d')

      tis : CallsSo tst c Timed l
      tis = record { call = refl; more = refl; stand = λ k. refl }

      tis' : CallsSo tst' (call_telling X s c) Timed (part_is X s 1)
      tis' = record { call = refl; more = refl; stand = λ k. refl }

      pub timed-tells : f.IsSo t (task_in (form x) t i w (control (stmt_then (STimed c l m d s) r) q o V)) → can_step (task_in (form x) t i w (control (stmt_then (STimed c l m d s) r) q o V)) ≡ false →
          IsNoting f (BeforeCall t) (λ b. IsCalling f t (task_in (form x) t i w (control (stmt_then (STimed c l m d s) r) q o V))) (task_in (text x) t i w (control (in_front (timed_image X s c l' m d') r') q' o' V'))
      timed-tells own rests =
          at-call i w tst c Timed l tis s r r' tbehind tst' (part_is X s 1) tis' q q' o o' V own old rests V' v
          (λ V1 v1. calling i w tst c Timed l tis s r r' tbehind tst' (part_is X s 1) tis' q q' o o' V own old rests V1 v1
          (λ W W' both own'. later (parts i w tst c Timed l tis s r r' tbehind tst' (part_is X s 1) tis' q q' o o' V own old rests has_expired l' d' refl W' (there both).part 1 refl)
          (null-row i w tst c Timed l tis s r r' tbehind tst' (part_is X s 1) tis' q q' o o' V own old rests (in_front l r) (stmt_then tst r) l' (joined iml im) (under-parted 1 both) own'))
          (λ e z it. absurd (true≢false (sym it ∙ ap (calls_in is_conditional e z) (offer-here i w tst c Timed l tis s r r' tbehind tst' (part_is X s 1) tis' q q' o o' V own old rests V1 v1))))
          (λ e z it. later (parts i w tst c Timed l tis s r r' tbehind tst' (part_is X s 1) tis' q q' o o' V own old rests has_expired l' d' refl V1 (there v1).part 2 refl)
          (here _ (owes-other i w tst c Timed l tis s r r' tbehind tst' (part_is X s 1) tis' q q' o o' V own old rests (parted x 2 V1) (under-parted 2 v1) has_expired refl (λ e1 z1 n. HasExpired t e1 z1 n) d d' (joined imd im)
          ((f.stays t _ own).took_delay 1) (λ e1 z1 n u. refl) (λ e1 z1 n. refl) (λ e1 z1. refl) refl))))
