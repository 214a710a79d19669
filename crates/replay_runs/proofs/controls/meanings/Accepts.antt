-- An accept statement, and what a permit makes of its image, where its entry and its index are found in the text.
use Rattle.std.proofs.Common.{◌≡◌, ℕ, ℤ, int_eq, Bool, true, false, not, ◌&&◌, ◌==◌, if◌then◌else◌, List, [], ◌∷◌, None, Some, Result, Ok, refl, sym, ap, ◌∙◌, subst, true≢false, arith}
use Rattle.std.specs.Prelude.{pos}
use Rattle.common_lemmas.proofs.Truth.{and_false, or_false}
use Rattle.event_machine.specs.declared.CallForm.TheVariants.{Plain}
use Rattle.event_machine.specs.declared.Choice.TheVariants.{Accept}
use Rattle.event_machine.specs.declared.Event.{Event}
use Rattle.event_machine.specs.Offers.{Calls, Waits, calls_in, is_any_form, is_finish, same_member}
use Rattle.event_machine.proofs.Basics.{same_member-refl, same_member-true}
use Rattle.ada_tree.specs.declared.naming.Span.{Span}
use Rattle.ada_tree.specs.TypeTable.{TypeTable}
use Rattle.ada_tree.specs.PlainStmt.{PHead, SAccept, SIf, PStmts, no_stmt, stmt_then, PMaybe, absent, present, PArms, no_arm, accepting}
use Rattle.ada_tree.specs.PlainProgram.{PProgram}
use Rattle.ada_static_rules.specs.Refusals.{types_in}
use Rattle.ada_static_rules.specs.StaticValue.{is_integer_value}
use Rattle.ada_value.specs.declared.values.Raised.{Raised}
use Rattle.ada_value.specs.declared.values.Value.{Value}
use Rattle.ada_value.specs.declared.values.Value.TheVariants.{Truth}
use Rattle.ada_value.specs.Variables.{Variables}
use Rattle.task_model.specs.Setting.{entry_of, member_index}
use Rattle.task_model.specs.Frames.{Around, PFrame, in_front}
use Rattle.task_model.specs.Tasks.{Task, stmts_or_none}
use Rattle.task_model.specs.Waits.{Accepts, alternative_for}
use Rattle.task_model.specs.Stands.{offer_of}
use Rattle.task_model.specs.Rendezvous.{resumed, pending_of, finals_of}
use Rattle.task_laws.specs.translation.OldTexts.{only_names, OldFormals}
use Rattle.task_laws.specs.translation.Images.{ImageMaybe}
use Rattle.task_laws.specs.translation.Controls.{Under}
use Rattle.normal_model.specs.RewrittenUnit.{RewrittenUnit}
use Rattle.normal_model.specs.Making.{one}
use Rattle.normal_model.specs.Walk.{image_of, inside_maybe}
use Rattle.normal_laws.proofs.runs.callees.Choosing.{reaches-behind}
use Rattle.normal_laws.specs.existence.Laws.{IsLegalOriginal}
use Rattle.run_laws.specs.replaying.Permits.{Permit, ToMeet, ToFinish, ToElse, ToDelay, ToCallElse, ToExpire, ToFail, ToEnd, ToAbort, ToClose, wants}
use Rattle.run_laws.specs.replaying.Copies.{Spots, held_offer}
use Rattle.replay_runs.specs.script.Spelling.{kind, arg, index}
use Rattle.replay_model.specs.Asking.{ask, done, stop, permit_is_at, branch}
use Rattle.replay_model.specs.Serving.{accept_asking, saying_so, serve, permits_start}
use Rattle.replay_model.specs.ReplayStmts.{replay_rewriter}
use Rattle.replay_structure.specs.spots.Places.{text_spots}
use Rattle.replay_runs.specs.starts.Laws.{form_in, text_in}
use Rattle.replay_runs.specs.starts.Formals.{text_setting}
use Rattle.replay_runs.specs.translation.Rows.{Replayed, replayed_rows}
use Rattle.table_law.specs.States.{Offers}
use Rattle.replay_runs.specs.controls.Asking.{unit_of_task, permit_stored}
use Rattle.replay_runs.specs.controls.Imitating.{permit_values}
use Rattle.replay_runs.specs.controls.permits.Laws.{FitsInteger, EvaluatesTo, IndexIs, TakesBranch, takes_this, takes_later, takes_other}
use Rattle.replay_runs.specs.controls.translated.Laws.{form_and_text, unit_translation}
use Rattle.replay_runs.specs.controls.meanings.Pairs.{IsOfForm}
use Rattle.replay_runs.specs.controls.meanings.Permits.{IsAccepting, IsHolding, ComesToHold}
use Rattle.replay_runs.specs.controls.meanings.Laws.{HoldsEachPermit}
use Rattle.replay_runs.proofs.controls.permits.Tests.{tests_of_permits}
use Rattle.replay_runs.proofs.controls.meanings.Parts.{left, right, holds_behind, stops_there, stored_under, stored_holds, InBranch, in_branch}
use Rattle.replay_runs.proofs.controls.meanings.Serving.{serve_holds}
use Rattle.replay_runs.proofs.controls.meanings.Aborts.{either}

abbrev truth : Bool → Result Value Raised
truth c = Ok (Truth c)

-- the permit is for the begin of a rendezvous at this member
abbrev pub starts : ℕ → ℤ → Permit → Bool
starts e z permit = (kind permit == 1) && (arg permit == e) && int_eq (index permit) z

-- which permit a wait for this member alone is for
wanted : (t e : ℕ) (z : ℤ) (permit : Permit) → wants t permit (Waits (Accept e z ∷ [])) ≡ starts e z permit
wanted t e z (ToMeet f j) = or_false (same_member f j e z)
wanted t e z ToFinish = refl
wanted t e z ToElse = refl
wanted t e z (ToDelay k) = refl
wanted t e z (ToCallElse f j) = refl
wanted t e z (ToExpire f j) = refl
wanted t e z (ToFail f j) = refl
wanted t e z ToEnd = and_false (not (t == 0))
wanted t e z (ToAbort v) = refl
wanted t e z ToClose = either (t == 0)

pub to-meet : (e : ℕ) (z : ℤ) (permit : Permit) → starts e z permit ≡ true → ToMeet e z ≡ permit
to-meet e z (ToMeet f j) c = let same = same_member-true f e j z c in ap (λ g. ToMeet g z) (sym same.0) ∙ ap (ToMeet f) (sym same.1)
to-meet e z ToFinish c = absurd (true≢false (sym c))
to-meet e z ToElse c = absurd (true≢false (sym c))
to-meet e z (ToDelay k) c = absurd (true≢false (sym c))
to-meet e z (ToCallElse f j) c = absurd (true≢false (sym c))
to-meet e z (ToExpire f j) c = absurd (true≢false (sym c))
to-meet e z (ToFail f j) c = absurd (true≢false (sym c))
to-meet e z ToEnd c = absurd (true≢false (sym c))
to-meet e z (ToAbort v) c = absurd (true≢false (sym c))
to-meet e z ToClose c = absurd (true≢false (sym c))

module _ (far : Spots) (p : PProgram) (events : List Event) (h : IsLegalOriginal p) (t : ℕ) where
  abbrev u : RewrittenUnit
  u = unit_of_task p t

  abbrev n : Spots
  n = text_spots far (form_in p)

  abbrev T : TypeTable
  T = types_in (text_in p events)

  meet-holds : (e : ℕ) (z : ℤ) (σ κ : Task) → offer_of σ ≡ Waits (Accept e z ∷ []) → Offers κ (Waits (Accept (n.original e) z ∷ [])) → κ.output ≡ σ.output → IsAccepting far p events t e z σ κ →
      IsHolding far p events t (ToMeet e z) σ κ
  meet-holds e z σ κ mine its out opened = record {
    output = out;
    offers = record {
      rests = its.rests;
      offers = its.offers
          ∙ sym (ap (held_offer n t (ToMeet e z)) mine ∙ ap (λ c. if c then Waits (Accept (n.original e) z ∷ []) else Calls Plain n.stop (pos 0)) (or_false (same_member e z e z) ∙ same_member-refl e z));
    };
    callers = λ f. absurd (true≢false (sym f ∙ ap is_finish its.offers));
    acts = (λ f. absurd (true≢false (sym f ∙ ap (calls_in is_any_form e z) mine)), λ f. opened);
  }

  module _ (i : List ℤ) (w : List ℕ) (head : PHead) (m : PMaybe) (s : Span) (r r' : PStmts) {q q' : Around} {o o' : List PFrame} {V V' : Variables} (im : Replayed (only_names (form_and_text p events)) u r r')
      (v : Under (unit_translation p events t) q o V q' o' V') (own : IsOfForm p t (left far p events t i w (stmt_then (SAccept (accepting head m) s) r) q o V)) where
    abbrev σ : Task
    σ = left far p events t i w (stmt_then (SAccept (accepting head m) s) r) q o V

    abbrev there : PMaybe
    there = inside_maybe replay_rewriter m u

    -- into the branch that serves
    serves : (permit : Permit) (j : Task) → FitsInteger (arg permit) → is_integer_value (index permit) ≡ true → pending_of j ≡ None → finals_of j ≡ permit_values permit → (k : PMaybe) (arms : PArms) (others : PMaybe) →
        TakesBranch T (permit_stored p V' (kind permit) (arg permit) (index permit)) arms others (serve u s (accepting head k)) →
        InBranch far p events t h permit i w q o V q' o' V' (resumed j (right far p events t i w (stmt_then (ask u s) (stmt_then (SIf arms others s) r')) q' o' V')) (in_front (serve u s (accepting head k)) r')
    serves permit j few fits pending finals absent arms others takes =
        in_branch far p events t h own.there permit j few fits pending finals i w r r' v s arms others (accept_asking u s (accepting head absent)) (one (done u s)) takes
    serves permit j few fits pending finals (present l) arms others takes =
        in_branch far p events t h own.there permit j few fits pending finals i w r r' v s arms others (saying_so u s (accept_asking u s (accepting head (present l)))) (one (done u s)) takes

    -- Where the entry is found in both programs, and the index is worth the same in both whatever the permit, the image does what its permit is for.
    pub accept_holds : (e : ℕ) (z : ℤ) → OldFormals (form_and_text p events) head.formals → ImageMaybe (replayed_rows (only_names (form_and_text p events)) u) m there → FitsInteger e → entry_of (form_in p).numbers t head.entry.name ≡ e →
        entry_of (text_setting p events).numbers t head.entry.name ≡ n.original e → ((W : Variables) → Under (unit_translation p events t) q o V q' o' W → IndexIs T W head.index z) →
        ((W : Variables) → Under (unit_translation p events t) q o V q' o' W → member_index (text_setting p events) W (entry_of (text_setting p events).numbers t head.entry.name) head.index ≡ Ok z) →
        alternative_for σ e z ≡ Some (Accepts e z head (stmts_or_none m) no_stmt) → offer_of σ ≡ Waits (Accept e z ∷ []) →
        HoldsEachPermit far p events t σ (right far p events t i w (in_front (image_of replay_rewriter (SAccept (accepting head m) s) u) r') q' o' V')
    accept_holds e z old images few-entry named named-there worth member alt offer permit j few fits pending finals = go (starts e z permit) refl
      where
        W : Variables
        W = permit_stored p V' (kind permit) (arg permit) (index permit)

        arms : PArms
        arms = branch (permits_start u s head) (serve u s (accepting head there)) no_arm

        others : PMaybe
        others = present (one (stop u s))

        test : EvaluatesTo T W (permits_start u s head) (starts e z permit)
        test = subst (λ k. EvaluatesTo T W (permit_is_at u s 1 k head.index) (starts e z permit)) (sym named)
            ((tests_of_permits p t T W (kind permit) (arg permit) (index permit) (stored_holds far p events t h own.there permit v)).member s 1 e head.index z (omega arith) few-entry (worth W (stored_under far p events t h permit v)))

        go : (c : Bool) → starts e z permit ≡ c → ComesToHold far p events t permit σ (resumed j (right far p events t i w (in_front (image_of replay_rewriter (SAccept (accepting head m) s) u) r') q' o' V'))
        go true c =
            let into = serves permit j few fits pending finals there arms others (takes_this _ _ no_arm others (test ∙ ap truth c)) in
            let served = serve_holds far p events h t i w head s e z (SAccept (accepting head m) s) r no_stmt r' images old im into.under named-there (member W into.under) own alt in
            holds_behind far p events t permit σ (reaches-behind into.reach served.reach)
            (subst (λ g. IsHolding far p events t g σ served.reached) (to-meet e z permit c) (meet-holds e z σ served.reached offer served.offers served.output served.accepts))
        go false c =
            let into = in_branch far p events t h own.there permit j few fits pending finals i w r r' v s arms others (stop u s) no_stmt (takes_later _ _ no_arm others _ (test ∙ ap truth c) (takes_other others)) in
            holds_behind far p events t permit σ into.reach
            (stops_there far p events t h permit σ s r' (record { number = t; input = i; output = w; place = q'; outer = o'; vars = W }) own.there (ap (wants t permit) offer ∙ wanted t e z permit ∙ c) refl)
