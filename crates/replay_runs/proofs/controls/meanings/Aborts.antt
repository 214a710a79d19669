-- An abort statement with one name, and what a permit makes of its image.
use Rattle.std.proofs.Common.{◌≡◌, ℕ, ℤ, Bool, true, false, not, ◌&&◌, ◌==◌, if◌then◌else◌, List, [], ◌∷◌, Option, None, Some, Result, Ok, refl, sym, ap, ◌∙◌, subst, true≢false, arith}
use Rattle.std.specs.Prelude.{unwrap_or, pos}
use Rattle.std.proofs.lemmas.Bool.{eqb-true}
use Rattle.common_lemmas.proofs.Truth.{and_false}
use Rattle.event_machine.specs.declared.CallForm.TheVariants.{Plain}
use Rattle.event_machine.specs.declared.Event.{Event}
use Rattle.event_machine.specs.Offers.{Calls, Aborts, is_finish}
use Rattle.event_machine.specs.Worlds.{aborts as is_abort_of}
use Rattle.ada_tree.specs.declared.naming.Span.{Span}
use Rattle.ada_tree.specs.TypeTable.{TypeTable}
use Rattle.ada_tree.specs.PlainStmt.{PCallee, SAbort, PStmts, no_stmt, stmt_then, present, PArms, no_arm, PMaybe}
use Rattle.ada_tree.specs.PlainProgram.{PProgram}
use Rattle.ada_static_rules.specs.Refusals.{types_in}
use Rattle.ada_value.specs.declared.values.Raised.{Raised}
use Rattle.ada_value.specs.declared.values.Value.{Value}
use Rattle.ada_value.specs.declared.values.Value.TheVariants.{Truth}
use Rattle.ada_value.specs.Variables.{Variables}
use Rattle.syn_event.specs.Numbering.{task_named}
use Rattle.task_model.specs.Setting.{Setting, task_meant, callee_task}
use Rattle.task_model.specs.Frames.{Around, PFrame, control, in_front, settled_in}
use Rattle.task_model.specs.Tasks.{Task}
use Rattle.task_model.specs.Stands.{name_stand, offered, steps_at}
use Rattle.task_model.specs.Rendezvous.{resumed, past_name}
use Rattle.task_laws.specs.translation.OldTexts.{only_names}
use Rattle.task_laws.specs.translation.Controls.{task_in, Under}
use Rattle.normal_model.specs.RewrittenUnit.{RewrittenUnit}
use Rattle.normal_model.specs.Making.{one}
use Rattle.normal_model.specs.Walk.{image_of}
use Rattle.normal_laws.specs.runs.floors.Preludes.{Reaches, reaches_here}
use Rattle.normal_laws.specs.existence.Laws.{IsLegalOriginal}
use Rattle.run_laws.specs.replaying.Permits.{Permit, ToMeet, ToFinish, ToElse, ToDelay, ToCallElse, ToExpire, ToFail, ToEnd, ToAbort, ToClose, wants}
use Rattle.run_laws.specs.replaying.Copies.{Spots}
use Rattle.replay_runs.specs.script.Spelling.{kind, arg, index}
use Rattle.replay_model.specs.Asking.{done, stop, permit_is_for, branch}
use Rattle.replay_model.specs.ReplayStmts.{task_called, replay_rewriter}
use Rattle.replay_structure.specs.spots.Places.{text_spots}
use Rattle.replay_runs.specs.starts.Laws.{form_in, text_in}
use Rattle.replay_runs.specs.starts.Formals.{form_setting, text_setting}
use Rattle.replay_runs.specs.translation.Rows.{Replayed}
use Rattle.table_law.specs.States.{Offers}
use Rattle.replay_runs.specs.controls.Asking.{unit_of_task, permit_stored}
use Rattle.replay_runs.specs.controls.permits.Laws.{EvaluatesTo, takes_this, takes_later, takes_other}
use Rattle.replay_runs.specs.controls.formed.Laws.{NamesTask}
use Rattle.replay_runs.specs.controls.translated.Laws.{form_and_text, unit_translation}
use Rattle.replay_runs.specs.controls.meanings.Pairs.{IsOfForm}
use Rattle.replay_runs.specs.controls.meanings.Permits.{IsHolding, ComesToSay, ComesToHold}
use Rattle.replay_runs.specs.controls.meanings.Laws.{stands_at, HoldsEachPermit, LegalAbortsHold}
use Rattle.replay_runs.proofs.controls.permits.Tests.{tests_of_permits}
use Rattle.replay_runs.proofs.controls.meanings.Pairs.{tasks_stay}
use Rattle.replay_runs.proofs.controls.meanings.Parts.{task_stays, left, right, holds_behind, stops_there, says_row, stored_holds, in_branch}

-- the task that is found by a name
abbrev found : Option ℕ → Result ℕ Raised
found o = Ok (unwrap_or o 0)

pub callee_found : (g : Setting) (V : Variables) (x : PCallee) (k : ℕ) → x.index ≡ None → task_named g.numbers x.name.name ≡ Some k → callee_task g V x ≡ Ok k
callee_found g V x k simple named = ap (task_meant g V x.name.name) simple ∙ ap found named

-- what an abort statement with one name offers
offers-abort : (g : Setting) (n : ℕ) (i : List ℤ) (w : List ℕ) (x : PCallee) (s : Span) (r : PStmts) (q : Around) (o : List PFrame) (V : Variables) (k : ℕ) → callee_task g V x ≡ Ok k →
    Offers (task_in g n i w (control (stmt_then (SAbort (x ∷ []) s) r) q o V)) (Aborts k)
offers-abort g n i w x s r q o V k e = record { rests = ap (λ c. steps_at (name_stand c)) e; offers = ap (λ c. offered (name_stand c)) e }

abbrev truth : Bool → Result Value Raised
truth b = Ok (Truth b)

pub either : (b : Bool) → (if b then false else false) ≡ false
either true = refl
either false = refl

module _ (far : Spots) (p : PProgram) (events : List Event) (h : IsLegalOriginal p) (t : ℕ) where
  abbrev u : RewrittenUnit
  u = unit_of_task p t

  abbrev T : TypeTable
  T = types_in (text_in p events)

  -- which permit an abort of the task k is for
  wanted : (permit : Permit) (k : ℕ) → wants t permit (Aborts k) ≡ ((kind permit == 9) && (arg permit == k))
  wanted (ToMeet e i) k = refl
  wanted ToFinish k = refl
  wanted ToElse k = refl
  wanted (ToDelay d) k = refl
  wanted (ToCallElse e i) k = refl
  wanted (ToExpire e i) k = refl
  wanted (ToFail e i) k = refl
  wanted ToEnd k = and_false (not (t == 0))
  wanted (ToAbort v) k = refl
  wanted ToClose k = either (t == 0)

  module _ (i : List ℤ) (w : List ℕ) (x : PCallee) (s : Span) (r r' : PStmts) {q q' : Around} {o o' : List PFrame} {V V' : Variables} (im : Replayed (only_names (form_and_text p events)) u r r') (v : Under (unit_translation p events t) q o V q' o' V')
      (own : IsOfForm p t (left far p events t i w (stmt_then (SAbort (x ∷ []) s) r) q o V)) where
    abbrev σ : Task
    σ = left far p events t i w (stmt_then (SAbort (x ∷ []) s) r) q o V

    names : NamesTask p x
    names = own.formed.rest.0.0

    called : task_called u x ≡ names.task
    called = ap (λ m. unwrap_or m 0) names.named

    offered-here : Offers σ (Aborts names.task)
    offered-here = offers-abort (form_setting p) t i w x s r q o V names.task (callee_found (form_setting p) V x names.task names.simple names.named)

    -- what stands behind the abort in its branch
    abbrev tail : PStmts
    tail = if task_called u x == t then no_stmt else one (done u s)

    module _ (W : Variables) (under : Under (unit_translation p events t) q o V q' o' W) where
      abbrev κ : Task
      κ = right far p events t i w (stmt_then (SAbort (x ∷ []) s) (in_front tail r')) q' o' W

      offered-there : Offers κ (Aborts names.task)
      offered-there =
          offers-abort (text_setting p events) t i w x s (in_front tail r') q' o' W names.task
          (callee_found (text_setting p events) W x names.task names.simple (task_stays p x.name.name names.task names.named))

      -- behind the abort of another task it says that it is done
      says-so : (k : ℕ) → (k == names.task) ≡ true → (k == t) ≡ false → ComesToSay far p events t (past_name σ) (past_name κ)
      says-so k same other =
          let there : (task_called u x == t) ≡ false = ap (λ m. m == t) (called ∙ sym (eqb-true k names.task same)) ∙ other in
          let end : Task = right far p events t i w (stmt_then (done u s) r') q' o' W in
          let path : past_name κ ≡ end = ap (λ b. task_in (text_setting p events) t i w (settled_in o' (in_front (if b then no_stmt else one (done u s)) r') q' W)) there in
          record {
            reached = end;
            reach = subst (λ z. Reaches z end) (sym path) (reaches_here end);
            says = says_row far p events t h i w s (stmt_then (SAbort (x ∷ []) s) r) r r' im under (tasks_stay p t σ own).passed;
          }

      abort-holds : (permit : Permit) → ((kind permit == 9) && (arg permit == names.task)) ≡ true → IsHolding far p events t permit σ κ
      abort-holds (ToMeet e j) c = absurd (true≢false (sym c))
      abort-holds ToFinish c = absurd (true≢false (sym c))
      abort-holds ToElse c = absurd (true≢false (sym c))
      abort-holds (ToDelay d) c = absurd (true≢false (sym c))
      abort-holds (ToCallElse e j) c = absurd (true≢false (sym c))
      abort-holds (ToExpire e j) c = absurd (true≢false (sym c))
      abort-holds (ToFail e j) c = absurd (true≢false (sym c))
      abort-holds ToEnd c = absurd (true≢false (sym c))
      abort-holds ToClose c = absurd (true≢false (sym c))
      abort-holds (ToAbort k) c = record {
        output = refl;
        offers = record {
          rests = offered-there.rests;
          offers = offered-there.offers ∙ ap Aborts (sym (eqb-true k names.task c))
              ∙ sym (ap (λ b. if b then Aborts k else Calls Plain (text_spots far (form_in p)).stop (pos 0)) (ap (is_abort_of k) offered-here.offers ∙ c));
        };
        callers = λ f. absurd (true≢false (sym f ∙ ap is_finish offered-there.offers));
        acts = λ named other. says-so k c other;
      }

    aborts-at : HoldsEachPermit far p events t σ (right far p events t i w (in_front (image_of replay_rewriter (SAbort (x ∷ []) s) u) r') q' o' V')
    aborts-at permit j few fits pending finals = go ((kind permit == 9) && (arg permit == names.task)) refl
      where
        W : Variables
        W = permit_stored p V' (kind permit) (arg permit) (index permit)

        arms : PArms
        arms = branch (permit_is_for u s 9 (task_called u x)) (stmt_then (SAbort (x ∷ []) s) tail) no_arm

        others : PMaybe
        others = present (one (stop u s))

        test : EvaluatesTo T W (permit_is_for u s 9 (task_called u x)) ((kind permit == 9) && (arg permit == names.task))
        test = subst (λ m. EvaluatesTo T W (permit_is_for u s 9 m) ((kind permit == 9) && (arg permit == names.task))) (sym called)
            ((tests_of_permits p t T W (kind permit) (arg permit) (index permit) (stored_holds far p events t h own.there permit v)).kind_and_argument s 9 names.task (omega arith) names.fits)

        go : (b : Bool) → ((kind permit == 9) && (arg permit == names.task)) ≡ b →
            ComesToHold far p events t permit σ (resumed j (right far p events t i w (in_front (image_of replay_rewriter (SAbort (x ∷ []) s) u) r') q' o' V'))
        go true e =
            let c = in_branch far p events t h own.there permit j few fits pending finals i w r r' v s arms others (SAbort (x ∷ []) s) tail (takes_this _ _ no_arm others (test ∙ ap truth e)) in
            holds_behind far p events t permit σ c.reach (abort-holds W c.under permit e)
        go false e =
            let c = in_branch far p events t h own.there permit j few fits pending finals i w r r' v s arms others (stop u s) no_stmt (takes_later _ _ no_arm others _ (test ∙ ap truth e) (takes_other others)) in
            holds_behind far p events t permit σ c.reach
            (stops_there far p events t h permit σ s r' (record { number = t; input = i; output = w; place = q'; outer = o'; vars = W }) own.there
            (ap (wants t permit) offered-here.offers ∙ wanted permit names.task ∙ e) refl)

pub aborts : LegalAbortsHold
aborts far p events h t σ κ pair x s (stands_at i w _ r r' old im v) rests = aborts-at far p events h t i w x s r r' im v pair.own
