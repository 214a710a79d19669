-- The ends of units and of accept bodies, and what a permit makes of their images.
use Rattle.std.proofs.Common.{◌≡◌, ℕ, zero, suc, ◌≤◌, ℤ, Bool, true, false, not, ◌&&◌, ◌==◌, if◌then◌else◌, List, [], ◌∷◌, ◌++◌, drop, length, Option, None, Some, Result, Ok, refl, sym, ap, ◌∙◌, subst, true≢false, arith}
use Rattle.std.specs.Prelude.{pos}
use Rattle.common_lemmas.proofs.Truth.{and_false}
use Rattle.event_machine.specs.declared.CallForm.TheVariants.{Plain}
use Rattle.event_machine.specs.declared.Event.{Event}
use Rattle.event_machine.specs.declared.Choice.TheVariants.{Accept, Terminate}
use Rattle.event_machine.specs.Offers.{Offer, Calls, Waits, Ends, Finishes, is_finish}
use Rattle.ada_tree.specs.declared.expressions.BinaryOp.TheVariants.{NotEqual}
use Rattle.ada_tree.specs.declared.naming.NameId.{NameId}
use Rattle.ada_tree.specs.declared.naming.Span.{Span}
use Rattle.ada_tree.specs.TypeTable.{TypeTable}
use Rattle.ada_tree.specs.PlainExpr.{EInteger, EBinary}
use Rattle.ada_tree.specs.PlainStmt.{SNull, PStmts, no_stmt, stmt_then, no_handler, absent, arm, PArms, no_arm, arm_then}
use Rattle.ada_tree.specs.PlainProgram.{PProgram}
use Rattle.ada_static_rules.specs.Refusals.{types_in}
use Rattle.ada_static_rules.specs.StaticValue.{is_integer_value}
use Rattle.ada_value.specs.declared.values.Raised.{Raised}
use Rattle.ada_value.specs.declared.values.Value.{Value}
use Rattle.ada_value.specs.declared.values.Value.TheVariants.{Number, Truth}
use Rattle.ada_value.specs.Variables.{Object, Variables, set_value, value_there}
use Rattle.task_model.specs.declared.parameters.FormalParameter.{FormalParameter}
use Rattle.task_model.specs.Frames.{Around, OwnBody, Handling, Opened, PFrame, Control, caller_at, callers_among}
use Rattle.task_model.specs.Tasks.{Task, rest_of, gone_to}
use Rattle.task_model.specs.Calls.{finals_in, finals_if, comes_back}
use Rattle.task_model.specs.Stands.{offer_of, can_step}
use Rattle.task_model.specs.Rendezvous.{resumed, finished, going_on, pending_of, finals_of}
use Rattle.task_laws.specs.translation.Translations.{Rewriting, Programs, IsKnown}
use Rattle.task_laws.specs.translation.Scopes.{AgreeOnTypes}
use Rattle.task_laws.specs.translation.OldTexts.{only_names}
use Rattle.task_laws.specs.translation.Images.{AreImages}
use Rattle.task_laws.specs.translation.Controls.{frame, task_in, Under, on_floor, in_block, in_handler, in_endless, in_while, in_count, are_around}
use Rattle.task_laws.proofs.translation.Frames.{add-alike}
use Rattle.task_laws.proofs.translation.Mapping.{under-map}
use Rattle.normal_model.specs.RewrittenUnit.{RewrittenUnit}
use Rattle.normal_model.specs.Making.{one}
use Rattle.normal_laws.specs.runs.floors.Preludes.{Reaches, reaches_here, reaches_by}
use Rattle.normal_laws.specs.runs.floors.NormalFloors.{AreOpen, none_open, open_then}
use Rattle.normal_laws.specs.runs.floors.Meetings.{AreValues, no_value, value_then}
use Rattle.normal_laws.proofs.runs.floors.Extending.{Fronts, fronts, own-add}
use Rattle.normal_laws.proofs.runs.callees.Choosing.{reaches-behind}
use Rattle.normal_laws.specs.existence.Laws.{IsLegalOriginal}
use Rattle.run_laws.specs.replaying.Permits.{Permit, ToMeet, ToFinish, ToElse, ToDelay, ToCallElse, ToExpire, ToFail, ToEnd, ToAbort, ToClose, wants}
use Rattle.run_laws.specs.replaying.Copies.{Spots, shows, held_offer}
use Rattle.replay_runs.specs.script.Spelling.{kind, arg, index}
use Rattle.replay_model.specs.Names.{kind_text, argument_text, index_text, added_id}
use Rattle.replay_model.specs.Asking.{permit_part, ask, done, stop, only}
use Rattle.replay_model.specs.Serving.{raise_again}
use Rattle.replay_model.specs.ReplayStmts.{last_kind}
use Rattle.replay_model.specs.ReplayTree.{last_task}
use Rattle.replay_structure.specs.spots.Places.{text_spots}
use Rattle.replay_runs.specs.starts.Laws.{form_in, text_in}
use Rattle.replay_runs.specs.starts.Formals.{form_setting, text_setting}
use Rattle.replay_runs.specs.translation.Rows.{Replayed, replayed_rows}
use Rattle.replay_runs.specs.translation.Floors.{HasPermit, OpenAccept, frames_outside, body_frame, ReplayFloor, plain_body, handled_body, taken_handler, accept_body, AtAsking, unit_over, unit_left, empty_over, body_over, body_left, over_floors, below_at}
use Rattle.replay_runs.proofs.translation.Rows.{are-images}
use Rattle.replay_runs.proofs.translation.Floors.{levels}
use Rattle.replay_runs.proofs.translation.Carried.{replay_keeps_permit}
use Rattle.table_law.specs.States.{Offers}
use Rattle.replay_runs.specs.controls.Asking.{unit_of_task, Surroundings, with_next, having, permit_stored}
use Rattle.replay_runs.specs.controls.Imitating.{permit_values}
use Rattle.replay_runs.specs.controls.permits.Laws.{FitsInteger, EvaluatesTo, takes_this, takes_later, takes_other}
use Rattle.replay_runs.specs.controls.translated.Laws.{form_and_text, unit_translation}
use Rattle.replay_runs.specs.controls.meanings.Pairs.{IsOfForm, IsBased}
use Rattle.replay_runs.specs.controls.meanings.Permits.{ComesToSay, ActsBy, IsHolding, ComesToHold}
use Rattle.replay_runs.specs.controls.meanings.Laws.{stands_behind, HoldsEachPermit, LegalEndsHold}
use Rattle.replay_runs.proofs.controls.Asking.{legal_asks_controller}
use Rattle.replay_runs.proofs.controls.Controllers.{small-kind}
use Rattle.replay_runs.proofs.controls.permits.Tests.{tests_of_permits}
use Rattle.replay_runs.proofs.controls.permits.Branches.{permits_decide}
use Rattle.replay_runs.proofs.controls.translated.Tables.{legal_types_agree}
use Rattle.replay_runs.proofs.controls.translated.Objects.{permit_is_added}
use Rattle.replay_runs.proofs.controls.meanings.Pairs.{tasks_stay}
use Rattle.replay_runs.proofs.controls.meanings.Parts.{left, right, holds_behind, stops_there, says_row, says_raising}
use Rattle.replay_runs.proofs.controls.meanings.Aborts.{either}

-- ---- the formals of an accept body in front

pub formals-left : {b : Programs} {fs : List FormalParameter} {bs : List Object} → AreOpen b fs bs → (V : Variables) → drop (length fs) (bs ++ V) ≡ V
formals-left none_open V = refl
formals-left (open_then f o fs os old known h) V = formals-left h V

pub finals-one : (b : Bool) (o : Object) (vs ws : List Value) → vs ≡ ws → finals_if b o vs ≡ finals_if b o ws
finals-one true o vs ws e = ap (λ us. finals_if true o us) e
finals-one false o vs ws e = e

pub finals-same : {b : Programs} {fs : List FormalParameter} {bs : List Object} → AreOpen b fs bs → (V V' : Variables) → finals_in fs (bs ++ V) ≡ finals_in fs (bs ++ V')
finals-same none_open V V' = refl
finals-same (open_then f o fs os old known h) V V' = finals-one (comes_back f.mode) o (finals_in fs (os ++ V)) (finals_in fs (os ++ V')) (finals-same h V V')

pub known-one : (b : Programs) (c : Bool) (o : Object) (vs : List Value) → IsKnown b (value_there o 0) → AreValues b vs → AreValues b (finals_if c o vs)
known-one b true o vs known h = value_then (value_there o 0) vs known h
known-one b false o vs known h = h

-- what comes back is of known kinds
pub finals-known : {b : Programs} {fs : List FormalParameter} {bs : List Object} → AreOpen b fs bs → (V : Variables) → AreValues b (finals_in fs (bs ++ V))
finals-known none_open V = no_value
finals-known {b} (open_then f o fs os old known h) V = known-one b (comes_back f.mode) o (finals_in fs (os ++ V)) (known.0 0) (finals-known h V)

-- what the image assigns to an added name
fronts-add : (b : Programs) → AgreeOnTypes b → (B : Variables → Variables → Type 0) (id : NameId) (v : Value) → b.is_old id.0 ≡ false → ((W W' : Variables) → B W W' → B W (set_value W' id 0 v)) →
    {fs : List FormalParameter} {V V' : Variables} → Fronts b B fs V V' → Fronts b B fs V (set_value V' id 0 v)
fronts-add b types B id v fresh close (fronts bs W W' own f) = own-add b types {B = B} id 0 v fresh own W W' (close W W' f)

-- ---- which permit is for an end

apart : (b : Bool) (k : ℕ) → (k == 10) ≡ false → (k == 8) ≡ false → false ≡ (k == (if b then 10 else 8))
apart true k ten eight = sym ten
apart false k ten eight = sym eight

eight-or-ten : (b : Bool) → (not b && true) ≡ (8 == (if b then 10 else 8))
eight-or-ten true = refl
eight-or-ten false = refl

ten-or-eight : (b : Bool) → (if b then true else false) ≡ (10 == (if b then 10 else 8))
ten-or-eight true = refl
ten-or-eight false = refl

few-last : (b : Bool) → (if b then 10 else 8) ≤ 2147483647
few-last true = omega arith
few-last false = omega arith

wants-end : (t : ℕ) (permit : Permit) → wants t permit Ends ≡ (kind permit == last_kind t)
wants-end t (ToMeet e i) = apart (t == 0) 1 refl refl
wants-end t ToFinish = apart (t == 0) 2 refl refl
wants-end t ToElse = apart (t == 0) 3 refl refl
wants-end t (ToDelay k) = apart (t == 0) 4 refl refl
wants-end t (ToCallElse e i) = apart (t == 0) 5 refl refl
wants-end t (ToExpire e i) = apart (t == 0) 6 refl refl
wants-end t (ToFail e i) = apart (t == 0) 7 refl refl
wants-end t ToEnd = eight-or-ten (t == 0)
wants-end t (ToAbort v) = apart (t == 0) 9 refl refl
wants-end t ToClose = ten-or-eight (t == 0)

wants-finish : (t : ℕ) (permit : Permit) → wants t permit Finishes ≡ (kind permit == 2)
wants-finish t (ToMeet e i) = refl
wants-finish t ToFinish = refl
wants-finish t ToElse = refl
wants-finish t (ToDelay k) = refl
wants-finish t (ToCallElse e i) = refl
wants-finish t (ToExpire e i) = refl
wants-finish t (ToFail e i) = refl
wants-finish t ToEnd = and_false (not (t == 0))
wants-finish t (ToAbort v) = refl
wants-finish t ToClose = either (t == 0)

to-finish : (permit : Permit) → (kind permit == 2) ≡ true → ToFinish ≡ permit
to-finish (ToMeet e i) c = absurd (true≢false (sym c))
to-finish ToFinish c = refl
to-finish ToElse c = absurd (true≢false (sym c))
to-finish (ToDelay k) c = absurd (true≢false (sym c))
to-finish (ToCallElse e i) c = absurd (true≢false (sym c))
to-finish (ToExpire e i) c = absurd (true≢false (sym c))
to-finish (ToFail e i) c = absurd (true≢false (sym c))
to-finish ToEnd c = absurd (true≢false (sym c))
to-finish (ToAbort v) c = absurd (true≢false (sym c))
to-finish ToClose c = absurd (true≢false (sym c))

-- ---- where the image has left its unit

abbrev truth : Bool → Result Value Raised
truth b = Ok (Truth b)

-- the next statement is `null`
abbrev at-null : PStmts → Bool
at-null (stmt_then (SNull s) rest) = true
at-null rest = false

-- ---- callers

abbrev callers_of : Around → List PFrame → List ℕ
callers_of q o = caller_at q ++ callers_among o

module _ (X : Rewriting) (u : RewrittenUnit) where
  under-callers : (k : ℕ) → ((q q' : Around) (o o' : List PFrame) (V V' : Variables) → ReplayFloor X u (below_at X u k) q o V q' o' V' → callers_of q' o' ≡ callers_of q o) →
      {q q' : Around} {o o' : List PFrame} {V V' : Variables} → Under (over_floors X u (below_at X u k)) q o V q' o' V' → callers_of q' o' ≡ callers_of q o
  under-callers k h (on_floor f) = h _ _ _ _ _ _ f
  under-callers k h (in_block hs hs' r r' im im' v) = under-callers k h v
  under-callers k h (in_handler e r r' im v) = under-callers k h v
  under-callers k h (in_endless name l l' r r' im im' v) = under-callers k h v
  under-callers k h (in_while name e l l' r r' old im im' v) = under-callers k h v
  under-callers k h (in_count name backwards last l l' r r' b old known im im' v) = under-callers k h v

  floor-callers : (k : ℕ) → ((q q' : Around) (o o' : List PFrame) (V V' : Variables) → below_at X u k q o V q' o' V' → callers_of q' o' ≡ callers_of q o) →
      (q q' : Around) (o o' : List PFrame) (V V' : Variables) → ReplayFloor X u (below_at X u k) q o V q' o' V' → callers_of q' o' ≡ callers_of q o
  floor-callers k h q q' o o' V V' (plain_body s V1 W1 ext per) = refl
  floor-callers k h q q' o o' V V' (handled_body s hd hd' hs hs' V1 W1 im ext per) = refl
  floor-callers k h q q' o o' V V' (taken_handler s hs e V1 W1 ext per) = refl
  floor-callers k h q q' o o' V V' (accept_body a) = ap (λ c. a.caller ∷ c) (h a.place a.place' a.outer a.outer' a.vars a.vars' a.below)

  below-callers : (k : ℕ) (q q' : Around) (o o' : List PFrame) (V V' : Variables) → below_at X u k q o V q' o' V' → callers_of q' o' ≡ callers_of q o
  below-callers zero q q' o o' V V' f = absurd f
  below-callers (suc k) q q' o o' V V' f = under-callers k (floor-callers k (below-callers k)) f

module _ (far : Spots) (p : PProgram) (events : List Event) (h : IsLegalOriginal p) (t : ℕ) where
  abbrev u : RewrittenUnit
  u = unit_of_task p t

  abbrev b : Programs
  b = form_and_text p events

  abbrev X : Rewriting
  X = replayed_rows (only_names b) u

  abbrev n : Spots
  n = text_spots far (form_in p)

  types : AgreeOnTypes b
  types = legal_types_agree p events h

  images : AreImages X
  images = are-images (only_names b) u

  -- ---- below an accept body

  below-add : (k : ℕ) (id : NameId) (v : Value) → b.is_old id.0 ≡ false → (q q' : Around) (o o' : List PFrame) (W W' : Variables) → below_at X u k q o W q' o' W' → below_at X u k q o W q' o' (set_value W' id 0 v)
  below-add zero id v fresh q q' o o' W W' f = absurd f
  below-add (suc k) id v fresh q q' o o' W W' f = add-alike (over_floors X u (below_at X u k)) (levels X images types u k) id 0 v fresh f

  lifted : (k : ℕ) (q q' : Around) (o o' : List PFrame) (V V' : Variables) → below_at X u k q o V q' o' V' → Under (unit_translation p events t) q o V q' o' V'
  lifted zero q q' o o' V V' f = absurd f
  lifted (suc k) q q' o o' V V' f =
      under-map X (ReplayFloor X u (below_at X u k)) (unit_translation p events t).floor (AtAsking X u (below_at X u k)) (unit_translation p events t).beyond (λ r r' a a' W W' g. (k, g)) (λ c d g. (k, g)) f

  abbrev stored : Permit → Variables → Variables
  stored permit V = permit_stored p V (kind permit) (arg permit) (index permit)

  -- the permit's variables stay behind the formals
  fronts-stored : (k : ℕ) (a : OpenAccept X (below_at X u k)) (permit : Permit) →
      Fronts b (λ W W'. below_at X u k a.place a.outer W a.place' a.outer' W') a.formals (a.objects ++ a.vars) (stored permit (a.objects ++ a.vars'))
  fronts-stored k a permit =
      let new = permit_is_added p events t in
      fronts-add b types (λ W W'. below_at X u k a.place a.outer W a.place' a.outer' W') (added_id (form_in p).program index_text) (Number (index permit)) new.index
      (below-add k (added_id (form_in p).program index_text) (Number (index permit)) new.index a.place a.place' a.outer a.outer')
      (fronts-add b types (λ W W'. below_at X u k a.place a.outer W a.place' a.outer' W') (added_id (form_in p).program argument_text) (Number (pos (arg permit))) new.argument
      (below-add k (added_id (form_in p).program argument_text) (Number (pos (arg permit))) new.argument a.place a.place' a.outer a.outer')
      (fronts-add b types (λ W W'. below_at X u k a.place a.outer W a.place' a.outer' W') (added_id (form_in p).program kind_text) (Number (pos (kind permit))) new.kind
      (below-add k (added_id (form_in p).program kind_text) (Number (pos (kind permit))) new.kind a.place a.place' a.outer a.outer')
      (fronts a.objects a.vars a.vars' a.are_open a.below)))

  -- the permit is there at the end of an accept body
  permit-there : (k : ℕ) (a : OpenAccept X (below_at X u k)) → HasPermit u (a.objects ++ a.vars')
  permit-there k a =
      replay_keeps_permit b u (permit_is_added p events t) (left far p events t [] [] no_stmt (Opened a.caller a.formals None) (frame a.row a.place ∷ a.outer) (a.objects ++ a.vars)) _
      (are_around t [] [] no_stmt no_stmt (on_floor (k, accept_body a)))

  -- ---- behind `if DED_K /= n then STOP`

  here : (permit : Permit) (σ κ : Task) → IsHolding far p events t permit σ κ → ComesToHold far p events t permit σ κ
  here permit σ κ holds = record { reached = κ; reach = reaches_here κ; holds = holds }

  later : (permit : Permit) (σ : Task) {κ κ' : Task} → Reaches κ κ' → ComesToHold far p events t permit σ κ' → ComesToHold far p events t permit σ κ
  later permit σ way c = record { reached = c.reached; reach = reaches-behind way c.reach; holds = c.holds }

  only-holds : t ≤ last_task (form_in p).numbers → (permit : Permit) (j : Task) → FitsInteger (arg permit) → is_integer_value (index permit) ≡ true → pending_of j ≡ None → finals_of j ≡ permit_values permit →
      (m : ℕ) → FitsInteger m → (s : Span) (r : PStmts) (x : Surroundings) (σ : Task) → HasPermit u x.vars → x.output ≡ σ.output → wants t permit (offer_of σ) ≡ (kind permit == m) →
      ((kind permit == m) ≡ true → ComesToHold far p events t permit σ (gone_to r (with_next p events r (having x (stored permit x.vars))))) →
      ComesToHold far p events t permit σ (resumed j (with_next p events (stmt_then (ask u s) (stmt_then (only u s m) r)) x))
  only-holds there permit j few fits pending finals m fitting s r x σ has out wanted go = by_test (kind permit == m) refl
    where
      W : Variables
      W = permit_stored p x.vars (kind permit) (arg permit) (index permit)

      T : TypeTable
      T = types_in (text_in p events)

      arms : PArms
      arms = arm_then (arm (EBinary NotEqual (permit_part u s kind_text) (EInteger m s) s) (one (stop u s))) no_arm

      test : EvaluatesTo T W (EBinary NotEqual (permit_part u s kind_text) (EInteger m s) s) (not (kind permit == m))
      test = (tests_of_permits p t T W (kind permit) (arg permit) (index permit) ((legal_asks_controller far p events t h there).holds x.vars (kind permit) (arg permit) (index permit) has)).other_kind s m fitting

      by_test : (c : Bool) → (kind permit == m) ≡ c → ComesToHold far p events t permit σ (resumed j (with_next p events (stmt_then (ask u s) (stmt_then (only u s m) r)) x))
      by_test true e =
          later permit σ
          (permits_decide p events t h there s arms absent r no_stmt x j (kind permit) (arg permit) (index permit) has (small-kind permit) few fits pending finals
          (takes_later _ _ no_arm absent no_stmt (test ∙ ap (λ c. truth (not c)) e) (takes_other absent)))
          (go e)
      by_test false e =
          holds_behind far p events t permit σ
          (permits_decide p events t h there s arms absent r (one (stop u s)) x j (kind permit) (arg permit) (index permit) has (small-kind permit) few fits pending finals
          (takes_this _ _ no_arm absent (test ∙ ap (λ c. truth (not c)) e)))
          (stops_there far p events t h permit σ s r (having x W) there (wanted ∙ e) out)

  -- ---- the end of a unit

  other : (k : ℕ) → (k == 10) ≡ false → (k == 8) ≡ false → (k == last_kind t) ≡ true → ⊥
  other k ten eight c = true≢false (sym c ∙ sym (apart (t == 0) k ten eight))

  shown-close : (c : Bool) (offer : Offer) → (10 == (if c then 10 else 8)) ≡ true → (if c then Ends else offer) ≡ Ends
  shown-close true offer e = refl
  shown-close false offer e = absurd (true≢false (sym e))

  shows-end : (permit : Permit) → (kind permit == last_kind t) ≡ true → shows n t permit Ends ≡ Ends
  shows-end (ToMeet e i) c = absurd (other 1 refl refl c)
  shows-end ToFinish c = absurd (other 2 refl refl c)
  shows-end ToElse c = absurd (other 3 refl refl c)
  shows-end (ToDelay k) c = absurd (other 4 refl refl c)
  shows-end (ToCallElse e i) c = absurd (other 5 refl refl c)
  shows-end (ToExpire e i) c = absurd (other 6 refl refl c)
  shows-end (ToFail e i) c = absurd (other 7 refl refl c)
  shows-end ToEnd c = refl
  shows-end (ToAbort v) c = absurd (other 9 refl refl c)
  shows-end ToClose c = shown-close (t == 0) (Waits (Accept (n.never t) (pos 0) ∷ Terminate ∷ [])) c

  acts-end : (permit : Permit) (σ κ : Task) → (kind permit == last_kind t) ≡ true → ActsBy far p events t permit σ κ
  acts-end (ToMeet e i) σ κ c = absurd (other 1 refl refl c)
  acts-end ToFinish σ κ c = absurd (other 2 refl refl c)
  acts-end ToElse σ κ c = absurd (other 3 refl refl c)
  acts-end (ToDelay k) σ κ c = absurd (other 4 refl refl c)
  acts-end (ToCallElse e i) σ κ c = absurd (other 5 refl refl c)
  acts-end (ToExpire e i) σ κ c = absurd (other 6 refl refl c)
  acts-end (ToFail e i) σ κ c = absurd (other 7 refl refl c)
  acts-end ToEnd σ κ c = tt
  acts-end (ToAbort v) σ κ c = absurd (other 9 refl refl c)
  acts-end ToClose σ κ c = tt

  end-holds : (permit : Permit) (σ κ : Task) → (kind permit == last_kind t) ≡ true → offer_of σ ≡ Ends → Offers κ Ends → κ.output ≡ σ.output → IsHolding far p events t permit σ κ
  end-holds permit σ κ c mine its out = record {
    output = out;
    offers = record {
      rests = its.rests;
      offers = its.offers
          ∙ sym (ap (held_offer n t permit) mine ∙ ap (λ d. if d then shows n t permit Ends else Calls Plain n.stop (pos 0)) (wants-end t permit ∙ c) ∙ shows-end permit c);
    };
    callers = λ f. absurd (true≢false (sym f ∙ ap is_finish its.offers));
    acts = acts-end permit σ κ c;
  }

  -- ---- the end of an accept body

  module _ (i : List ℤ) (w : List ℕ) where
    abbrev before : PStmts → Around → List PFrame → Variables → Task
    before r q o V = left far p events t i w r q o V

    abbrev after : PStmts → Around → List PFrame → Variables → Task
    after r q o V = right far p events t i w r q o V

    -- Both are at the end of an accept body, with this pending. Once it is closed the image is so, and comes to say that it is done.
    body-holds : (k : ℕ) (caller : ℕ) (pending : Option Raised) (row : PStmts) (q q' : Around) (o o' : List PFrame) (parts : List PFrame) (closed : Variables → Task) (fs : List FormalParameter) → callers_among parts ≡ callers_of q' o' →
        ((W : Variables) → finished (after no_stmt (Opened caller fs pending) parts W) ≡ closed (drop (length fs) W)) →
        ((V W : Variables) → Under (unit_translation p events t) q o V q' o' W → IsOfForm p t (going_on pending (before row q o V)) → ComesToSay far p events t (going_on pending (before row q o V)) (closed W)) →
        {V W : Variables} → Fronts b (λ V1 W1. below_at X u k q o V1 q' o' W1) fs V W → IsOfForm p t (before no_stmt (Opened caller fs pending) (frame row q ∷ o) V) →
        IsHolding far p events t ToFinish (before no_stmt (Opened caller fs pending) (frame row q ∷ o) V) (after no_stmt (Opened caller fs pending) parts W)
    body-holds k caller pending row q q' o o' parts closed fs same close goes (fronts bs V W opens f) own =
        let σ : Task = before no_stmt (Opened caller fs pending) (frame row q ∷ o) (bs ++ V) in
        let κ : Task = after no_stmt (Opened caller fs pending) parts (bs ++ W) in
        let on : IsOfForm p t (going_on pending (before row q o V)) = subst (λ V1. IsOfForm p t (going_on pending (before row q o V1))) (formals-left opens V) (tasks_stay p t σ own).finished in
        record {
          output = refl;
          offers = record { rests = refl; offers = refl };
          callers = λ c. ap (λ cs. caller ∷ cs) (same ∙ below-callers X u k q q' o o' V W f);
          acts = λ c. record {
            back = record { pending = refl; finals = finals-same opens W V; known = finals-known opens V };
            goes_on = subst (λ V1. ComesToSay far p events t (going_on pending (before row q o V1)) (finished κ)) (sym (formals-left opens V))
                (subst (ComesToSay far p events t (going_on pending (before row q o V))) (sym (close (bs ++ W) ∙ ap closed (formals-left opens W)))
                (goes V W (lifted k q q' o o' V W f) on));
          };
        }

    -- behind a body without an exception
    goes-on : (s : Span) (row row' : PStmts) (q q' : Around) (o o' : List PFrame) → Replayed (only_names b) u row row' → (V W : Variables) → Under (unit_translation p events t) q o V q' o' W →
        IsOfForm p t (going_on None (before row q o V)) → ComesToSay far p events t (going_on None (before row q o V)) (after (stmt_then (done u s) row') q' o' W)
    goes-on s row row' q q' o o' im V W v own = record { reached = _; reach = reaches_here _; says = says_row far p events t h i w s row row row' im v own }

    -- and with one
    goes-raising : (e : Raised) (s : Span) (row row' : PStmts) (q q' : Around) (o o' : List PFrame) (V W : Variables) → Under (unit_translation p events t) q o V q' o' W →
        IsOfForm p t (going_on (Some e) (before row q o V)) →
        ComesToSay far p events t (going_on (Some e) (before row q o V)) (after (stmt_then (done u s) (one (raise_again s))) (Handling e) (frame row' q' ∷ o') W)
    goes-raising e s row row' q q' o o' V W v own = record { reached = _; reach = reaches_here _; says = says_raising far p events t h e i w s row row' v own }

    behind-holds : (k : ℕ) {c d : Control} → AtAsking X u (below_at X u k) c d → IsBased p events t (task_in (form_setting p) t i w c) (task_in (text_setting p events) t i w d) →
        can_step (task_in (form_setting p) t i w c) ≡ false → HoldsEachPermit far p events t (task_in (form_setting p) t i w c) (task_in (text_setting p events) t i w d)
    behind-holds k (unit_over s hs taken V V' ext per) based rests permit j few fits pending finals =
        let σ : Task = before no_stmt (OwnBody hs taken) [] V in
        only-holds based.pair.own.there permit j few fits pending finals (last_kind t) (few-last (t == 0)) s no_stmt
        (record { number = t; input = i; output = w; place = OwnBody no_handler None; outer = []; vars = V' }) σ per refl (wants-end t permit)
        (λ c. here permit σ _ (end-holds permit σ (after no_stmt (OwnBody no_handler None) [] (stored permit V')) c refl (record { rests = refl; offers = refl }) refl))
    behind-holds k (unit_left s hs taken e V V' ext per) based rests permit j few fits pending finals = absurd (true≢false (ap (λ κ. at-null (rest_of κ)) (based.asks rests).is))
    behind-holds k (empty_over a) based rests permit j few fits pending finals =
        let σ : Task = before no_stmt (Opened a.caller a.formals None) (frame a.row a.place ∷ a.outer) (a.objects ++ a.vars) in
        let parts : List PFrame = frame (stmt_then (done u a.span) a.row') a.place' ∷ a.outer' in
        only-holds based.pair.own.there permit j few fits pending finals 2 (omega arith) a.span no_stmt
        (record { number = t; input = i; output = w; place = Opened a.caller a.formals None; outer = parts; vars = a.objects ++ a.vars' }) σ (permit-there k a) refl (wants-finish t permit)
        (λ c. here permit σ _ (subst (λ q. IsHolding far p events t q σ (after no_stmt (Opened a.caller a.formals None) parts (stored permit (a.objects ++ a.vars')))) (to-finish permit c)
        (body-holds k a.caller None a.row a.place a.place' a.outer a.outer' parts (after (stmt_then (done u a.span) a.row') a.place' a.outer') a.formals refl (λ W. refl)
        (goes-on a.span a.row a.row' a.place a.place' a.outer a.outer' a.rows) (fronts-stored k a permit) based.pair.own)))
    behind-holds k (body_over a) based rests permit j few fits pending finals =
        let σ : Task = before no_stmt (Opened a.caller a.formals None) (frame a.row a.place ∷ a.outer) (a.objects ++ a.vars) in
        let parts : List PFrame = frames_outside u a in
        only-holds based.pair.own.there permit j few fits pending finals 2 (omega arith) a.span no_stmt
        (record { number = t; input = i; output = w; place = Opened a.caller a.formals None; outer = parts; vars = a.objects ++ a.vars' }) σ (permit-there k a) refl (wants-finish t permit)
        (λ c. here permit σ _ (subst (λ q. IsHolding far p events t q σ (after no_stmt (Opened a.caller a.formals None) parts (stored permit (a.objects ++ a.vars')))) (to-finish permit c)
        (body-holds k a.caller None a.row a.place a.place' a.outer a.outer' parts (after (stmt_then (done u a.span) a.row') a.place' a.outer') a.formals refl (λ W. refl)
        (goes-on a.span a.row a.row' a.place a.place' a.outer a.outer' a.rows) (fronts-stored k a permit) based.pair.own)))
    behind-holds k (body_left e a) based rests permit j few fits pending finals =
        let σ : Task = before no_stmt (Opened a.caller a.formals (Some e)) (frame a.row a.place ∷ a.outer) (a.objects ++ a.vars) in
        let parts : List PFrame = frames_outside u a in
        let end : Task = after no_stmt (Opened a.caller a.formals (Some e)) parts (stored permit (a.objects ++ a.vars')) in
        only-holds based.pair.own.there permit j few fits pending finals 2 (omega arith) a.span (one (raise_again a.span))
        (record { number = t; input = i; output = w; place = Handling e; outer = body_frame u a.span a.caller a.formals ∷ parts; vars = a.objects ++ a.vars' }) σ (permit-there k a) refl (wants-finish t permit)
        (λ c. later permit σ (reaches_by _ end refl refl (reaches_here end)) (here permit σ end (subst (λ q. IsHolding far p events t q σ end) (to-finish permit c)
        (body-holds k a.caller (Some e) a.row a.place a.place' a.outer a.outer' parts
        (after (stmt_then (done u a.span) (one (raise_again a.span))) (Handling e) (frame (stmt_then (done u a.span) a.row') a.place' ∷ a.outer')) a.formals refl (λ W. refl)
        (goes-raising e a.span a.row (stmt_then (done u a.span) a.row') a.place a.place' a.outer a.outer') (fronts-stored k a permit) based.pair.own))))

pub ends : LegalEndsHold
ends far p events h t σ κ based (stands_behind k i w c d at) rests = behind-holds far p events h t i w k at based rests
