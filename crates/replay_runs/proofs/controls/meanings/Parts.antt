-- What the proofs about permits have in common: the branch that a permit takes, a task that stops, and one that says that it is done.
use Rattle.std.proofs.Common.{◌≡◌, ℕ, ◌≤◌, ℤ, pos, true, false, ◌==◌, if◌then◌else◌, List, [], ◌∷◌, Some, None, refl, sym, ap, ◌∙◌, subst, true≢false}
use Rattle.std.proofs.lemmas.Bool.{or_left, or_right}
use Rattle.event_machine.specs.declared.CallForm.TheVariants.{Plain}
use Rattle.event_machine.specs.declared.Event.{Event}
use Rattle.event_machine.specs.Offers.{Calls, calls_in, is_any_form, waits_with, is_finish, opens}
use Rattle.ada_tree.specs.declared.naming.NameId.{NameId}
use Rattle.ada_tree.specs.declared.naming.Span.{Span}
use Rattle.ada_tree.specs.PlainStmt.{PStmt, SNull, SIf, PStmts, no_stmt, stmt_then, PMaybe, PArms}
use Rattle.ada_tree.specs.PlainProgram.{PProgram}
use Rattle.ada_static_rules.specs.Refusals.{types_in}
use Rattle.ada_static_rules.specs.StaticValue.{is_integer_value}
use Rattle.ada_value.specs.declared.values.Raised.{Raised}
use Rattle.ada_value.specs.declared.values.Value.TheVariants.{Number}
use Rattle.ada_value.specs.Variables.{Variables}
use Rattle.syn_event.specs.declared.numbering.TaskInfo.{TaskInfo}
use Rattle.syn_event.specs.Numbering.{task_named}
use Rattle.task_model.specs.Setting.{Setting}
use Rattle.task_model.specs.Frames.{Around, Handling, Opened, PFrame, control, in_front}
use Rattle.task_model.specs.Tasks.{Task, gone_to, raised_there}
use Rattle.task_model.specs.Stands.{offer_of, stepped}
use Rattle.task_model.specs.Rendezvous.{resumed, pending_of, finals_of}
use Rattle.task_laws.specs.statements.Blocks.{HasLeftBlocks}
use Rattle.task_laws.proofs.statements.Blocks.{tasks_leave_blocks}
use Rattle.task_laws.specs.translation.Translations.{Translation}
use Rattle.task_laws.specs.translation.Controls.{frame, task_in, Under, are_around}
use Rattle.task_laws.specs.translation.Floors.{IsTranslation}
use Rattle.task_laws.proofs.translation.Frames.{add-alike}
use Rattle.task_laws.proofs.translation.Locals.{raise-there, go-there}
use Rattle.normal_model.specs.RewrittenUnit.{RewrittenUnit}
use Rattle.normal_model.specs.Making.{one}
use Rattle.normal_laws.specs.runs.floors.Preludes.{Reaches, reaches_here, reaches_by}
use Rattle.normal_laws.proofs.runs.callees.Choosing.{reaches-behind}
use Rattle.normal_laws.specs.existence.Laws.{IsLegalOriginal}
use Rattle.run_laws.specs.replaying.Permits.{Permit, ToMeet, ToFinish, ToElse, ToDelay, ToCallElse, ToExpire, ToFail, ToEnd, ToAbort, ToClose, wants}
use Rattle.run_laws.specs.replaying.Copies.{Spots, shows}
use Rattle.replay_runs.specs.script.Spelling.{kind, arg, index}
use Rattle.replay_model.specs.Names.{kind_text, argument_text, index_text, added_id}
use Rattle.replay_model.specs.Asking.{ask, done, stop}
use Rattle.replay_model.specs.Serving.{raise_again}
use Rattle.replay_model.specs.ReplayTree.{last_task}
use Rattle.replay_model.specs.ReplayNumbers.{numbers_replayed}
use Rattle.replay_structure.specs.spots.Places.{text_spots}
use Rattle.replay_runs.specs.starts.Laws.{form_in, text_in}
use Rattle.replay_runs.specs.starts.Formals.{form_setting, text_setting}
use Rattle.replay_runs.specs.translation.Rows.{Replayed}
use Rattle.replay_runs.proofs.translation.Carried.{replay_translates, replay_keeps_permit}
use Rattle.task_laws.specs.translation.OldTexts.{only_names}
use Rattle.table_law.specs.States.{Offers}
use Rattle.replay_runs.specs.controls.Asking.{unit_of_task, Surroundings, with_next, permit_stored, HoldsPermit}
use Rattle.replay_runs.specs.controls.Imitating.{permit_values}
use Rattle.replay_runs.specs.controls.permits.Laws.{FitsInteger, TakesBranch}
use Rattle.replay_runs.specs.controls.translated.Laws.{form_and_text, unit_translation}
use Rattle.replay_runs.specs.controls.images.Laws.{StandsBeforeAsk}
use Rattle.replay_runs.specs.controls.meanings.Pairs.{IsOfForm, Comes}
use Rattle.replay_runs.specs.controls.meanings.Permits.{IsSaying, ComesToSay, ActsBy, IsHolding, ComesToHold}
use Rattle.replay_runs.proofs.controls.Asking.{legal_asks_controller}
use Rattle.replay_runs.proofs.controls.Controllers.{small-kind}
use Rattle.replay_runs.proofs.controls.Joining.{found-before}
use Rattle.replay_runs.proofs.controls.translated.Tables.{legal_types_agree}
use Rattle.replay_runs.proofs.controls.translated.Objects.{permit_is_added}
use Rattle.replay_runs.proofs.controls.images.Leading.{legal_permits_lead}
use Rattle.replay_runs.proofs.controls.meanings.Pairs.{pairs_come}

-- ---- tasks

-- a task of the normal form that is found by a name is found by it in the text
pub task_stays : (p : PProgram) (name : NameId) (k : ℕ) → task_named (form_in p).numbers name ≡ Some k → task_named (numbers_replayed (form_in p)) name ≡ Some k
task_stays p name k found = found-before (λ (i : TaskInfo). i.name.0 == name.0) (form_in p).numbers.tasks _ _ k found

-- ---- blocks

-- wherever it goes on, or an exception is raised, a task stands at the end of no block
pub gone_left : (g : Setting) (n : ℕ) (i : List ℤ) (w : List ℕ) (r rest : PStmts) (q : Around) (o : List PFrame) (V : Variables) → HasLeftBlocks (gone_to rest (task_in g n i w (control r q o V)))
gone_left g n i w r rest q o V = (tasks_leave_blocks (task_in g n i w (control (stmt_then (SNull (record { start = 0; end = 0 })) rest) q o V)) refl).stepped

pub raised_left : (e : Raised) (g : Setting) (n : ℕ) (i : List ℤ) (w : List ℕ) (r : PStmts) (q : Around) (o : List PFrame) (V : Variables) → HasLeftBlocks (raised_there e (task_in g n i w (control r q o V)))
raised_left e g n i w r q o V =
    (tasks_leave_blocks (task_in g n i w (control (stmt_then (SNull (record { start = 0; end = 0 })) r) q o V)) refl).resumed (task_in g n i w (control r (Opened 0 [] (Some e)) o V))

module _ (far : Spots) (p : PProgram) (events : List Event) (t : ℕ) where
  abbrev pub u : RewrittenUnit
  u = unit_of_task p t

  abbrev pub y : Translation
  y = unit_translation p events t

  -- a task of the normal form, and one of the text
  abbrev pub left : List ℤ → List ℕ → PStmts → Around → List PFrame → Variables → Task
  left i w r q o V = task_in (form_setting p) t i w (control r q o V)

  abbrev pub right : List ℤ → List ℕ → PStmts → Around → List PFrame → Variables → Task
  right i w r q o V = task_in (text_setting p events) t i w (control r q o V)

  -- ---- steps before

  pub comes_behind : (σ : Task) {κ κ' : Task} → Reaches κ κ' → Comes p events t σ κ' → Comes p events t σ κ
  comes_behind σ way c = record { reached = c.reached; reach = reaches-behind way c.reach; based = c.based }

  pub says_behind : (σ : Task) {κ κ' : Task} → Reaches κ κ' → ComesToSay far p events t σ κ' → ComesToSay far p events t σ κ
  says_behind σ way c = record { reached = c.reached; reach = reaches-behind way c.reach; says = c.says }

  pub holds_behind : (permit : Permit) (σ : Task) {κ κ' : Task} → Reaches κ κ' → IsHolding far p events t permit σ κ' → ComesToHold far p events t permit σ κ
  holds_behind permit σ {κ} {κ'} way h = record { reached = κ'; reach = way; holds = h }

  -- ---- a task that stops

  -- what is not wanted is not done
  no-act : (permit : Permit) (σ κ : Task) → wants t permit (offer_of σ) ≡ false → ActsBy far p events t permit σ κ
  no-act (ToMeet e i) σ κ n = (
    λ h. absurd (true≢false (sym (or_left (calls_in is_any_form e i (offer_of σ)) (waits_with (opens e i) (offer_of σ)) h) ∙ n)),
    λ h. absurd (true≢false (sym (or_right (calls_in is_any_form e i (offer_of σ)) (waits_with (opens e i) (offer_of σ)) h) ∙ n)),
  )
  no-act ToFinish σ κ n = λ h. absurd (true≢false (sym h ∙ n))
  no-act ToElse σ κ n = λ h. absurd (true≢false (sym h ∙ n))
  no-act (ToDelay k) σ κ n = λ h. absurd (true≢false (sym h ∙ n))
  no-act (ToCallElse e i) σ κ n = λ h. absurd (true≢false (sym h ∙ n))
  no-act (ToExpire e i) σ κ n = λ h. absurd (true≢false (sym h ∙ n))
  no-act (ToFail e i) σ κ n = λ h. absurd (true≢false (sym h ∙ n))
  no-act ToEnd σ κ n = tt
  no-act (ToAbort v) σ κ n = λ h other. absurd (true≢false (sym h ∙ n))
  no-act ToClose σ κ n = tt

  -- Where the task does not offer what the permit is for, its image stops.
  pub stops : (permit : Permit) (σ κ : Task) → wants t permit (offer_of σ) ≡ false → κ.output ≡ σ.output → Offers κ (Calls Plain (text_spots far (form_in p)).stop (pos 0)) → IsHolding far p events t permit σ κ
  stops permit σ κ n out o = record {
    output = out;
    offers = record {
      rests = o.rests;
      offers = o.offers ∙ sym (ap (λ b. if b then shows (text_spots far (form_in p)) t permit (offer_of σ) else Calls Plain (text_spots far (form_in p)).stop (pos 0)) n);
    };
    callers = λ h. absurd (true≢false (sym h ∙ ap is_finish o.offers));
    acts = no-act permit σ κ n;
  }

  module _ (h : IsLegalOriginal p) where
    pub laws : IsTranslation y
    laws = replay_translates (form_and_text p events) u (legal_types_agree p events h)

    -- before the call of STOP
    pub stops_there : (permit : Permit) (σ : Task) (s : Span) (r : PStmts) (x : Surroundings) → t ≤ last_task (form_in p).numbers → wants t permit (offer_of σ) ≡ false → x.output ≡ σ.output →
        IsHolding far p events t permit σ (with_next p events (stmt_then (stop u s) r) x)
    stops_there permit σ s r x there n out = stops permit σ (with_next p events (stmt_then (stop u s) r) x) n out ((legal_asks_controller far p events t h there).stops s r x)

    -- ---- a task that says that it is done

    -- before the call of DONE
    pub says : (σ : Task) (s : Span) (r : PStmts) (x : Surroundings) → t ≤ last_task (form_in p).numbers → x.output ≡ σ.output →
        Comes p events t σ (gone_to r (with_next p events (stmt_then (done u s) r) x)) → IsSaying far p events t σ (with_next p events (stmt_then (done u s) r) x)
    says σ s r x there out c = record {
      output = out;
      says = (legal_asks_controller far p events t h there).says s r x;
      answered = λ j pending finals. subst (Comes p events t σ) (sym ((legal_asks_controller far p events t h there).answered s r x j pending finals)) c;
    }

    -- before that call and the image of a row, where the task goes on with the row
    pub says_row : (i : List ℤ) (w : List ℕ) (s : Span) (r q q' : PStmts) {a a' : Around} {o o' : List PFrame} {V V' : Variables} → Replayed (only_names (form_and_text p events)) u q q' → Under y a o V a' o' V' →
        IsOfForm p t (gone_to q (left i w r a o V)) → IsSaying far p events t (gone_to q (left i w r a o V)) (right i w (stmt_then (done u s) q') a' o' V')
    says_row i w s r q q' {a} {a'} {o} {o'} {V} {V'} im v own =
        says (gone_to q (left i w r a o V)) s q' (record { number = t; input = i; output = w; place = a'; outer = o'; vars = V' }) own.there refl
        (pairs_come p events t (gone_to q (left i w r a o V)) (gone_to q' (right i w (stmt_then (done u s) q') a' o' V'))
        (record {
          own = own;
          alike = go-there y laws t i w r (stmt_then (done u s) q') q q' im v;
          left = gone_left (text_setting p events) t i w (stmt_then (done u s) q') q' a' o' V';
        }))

    -- in a handler that says so and raises again, where the exception is raised at the task
    pub says_raising : (e : Raised) (i : List ℤ) (w : List ℕ) (s : Span) (r r' : PStmts) {a a' : Around} {o o' : List PFrame} {V V' : Variables} → Under y a o V a' o' V' →
        IsOfForm p t (raised_there e (left i w r a o V)) →
        IsSaying far p events t (raised_there e (left i w r a o V)) (right i w (stmt_then (done u s) (one (raise_again s))) (Handling e) (frame r' a' ∷ o') V')
    says_raising e i w s r r' {a} {a'} {o} {o'} {V} {V'} v own =
        let σ : Task = raised_there e (left i w r a o V) in
        let κ : Task = right i w (one (raise_again s)) (Handling e) (frame r' a' ∷ o') V' in
        says σ s (one (raise_again s)) (record { number = t; input = i; output = w; place = Handling e; outer = frame r' a' ∷ o'; vars = V' }) own.there refl
        (comes_behind σ (reaches_by κ (stepped κ) refl refl (reaches_here (stepped κ)))
        (pairs_come p events t σ (stepped κ)
        (record { own = own; alike = raise-there y laws t i w r r' v e; left = raised_left e (text_setting p events) t i w r' a' o' V' })))

    -- ---- the branch that a permit takes

    -- the permit's variables hold it, and the frames around go together as before
    pub stored_under : (permit : Permit) {a a' : Around} {o o' : List PFrame} {V V' : Variables} → Under y a o V a' o' V' → Under y a o V a' o' (permit_stored p V' (kind permit) (arg permit) (index permit))
    stored_under permit v =
        let new = permit_is_added p events t in
        add-alike y laws (added_id (form_in p).program index_text) 0 (Number (index permit)) new.index
        (add-alike y laws (added_id (form_in p).program argument_text) 0 (Number (pos (arg permit))) new.argument (add-alike y laws (added_id (form_in p).program kind_text) 0 (Number (pos (kind permit))) new.kind v))

    pub stored_holds : t ≤ last_task (form_in p).numbers → (permit : Permit) → {a a' : Around} {o o' : List PFrame} {V V' : Variables} → Under y a o V a' o' V' →
        HoldsPermit p (permit_stored p V' (kind permit) (arg permit) (index permit)) (kind permit) (arg permit) (index permit)
    stored_holds there permit {a} {a'} {o} {o'} {V} {V'} v =
        (legal_asks_controller far p events t h there).holds V' (kind permit) (arg permit) (index permit)
        (replay_keeps_permit (form_and_text p events) u (permit_is_added p events t) (left [] [] no_stmt a o V) (right [] [] no_stmt a' o' V') (are_around t [] [] no_stmt no_stmt v))

    pub record InBranch (permit : Permit) (i : List ℤ) (w : List ℕ) (a : Around) (o : List PFrame) (V : Variables) (a' : Around) (o' : List PFrame) (V' : Variables) (asking : Task) (rest : PStmts) : Type 0 where
      pub reach : Reaches asking (right i w rest a' o' (permit_stored p V' (kind permit) (arg permit) (index permit)))
      pub holds : HoldsPermit p (permit_stored p V' (kind permit) (arg permit) (index permit)) (kind permit) (arg permit) (index permit)
      pub under : Under y a o V a' o' (permit_stored p V' (kind permit) (arg permit) (index permit))

    -- A task asks before an if statement, in the place of a statement, and the permit comes back. Then it comes into the branch that is taken, which
    -- begins with this statement.
    pub in_branch : t ≤ last_task (form_in p).numbers → (permit : Permit) (j : Task) → FitsInteger (arg permit) → is_integer_value (index permit) ≡ true → pending_of j ≡ None → finals_of j ≡ permit_values permit →
        (i : List ℤ) (w : List ℕ) (r r' : PStmts) {a a' : Around} {o o' : List PFrame} {V V' : Variables} → Under y a o V a' o' V' → (s : Span) (arms : PArms) (others : PMaybe) (b : PStmt) (l : PStmts) →
        TakesBranch (types_in (text_in p events)) (permit_stored p V' (kind permit) (arg permit) (index permit)) arms others (stmt_then b l) →
        InBranch permit i w a o V a' o' V' (resumed j (right i w (stmt_then (ask u s) (stmt_then (SIf arms others s) r')) a' o' V')) (stmt_then b (in_front l r'))
    in_branch there permit j few fits pending finals i w r r' {a} {a'} {o} {o'} {V} {V'} v s arms others b l takes =
        let here : StandsBeforeAsk p events t (right i w (stmt_then (ask u s) (stmt_then (SIf arms others s) r')) a' o' V') =
        record { span = s; arms = arms; others = others; behind = r'; here = record { number = t; input = i; output = w; place = a'; outer = o'; vars = V' }; is = refl } in
        let c = legal_permits_lead p events h t there (left i w r a o V) (right i w (stmt_then (ask u s) (stmt_then (SIf arms others s) r')) a' o' V')
        (are_around t i w r (stmt_then (ask u s) (stmt_then (SIf arms others s) r')) v) here j (kind permit) (arg permit) (index permit) (stmt_then b l) (small-kind permit) few fits pending finals takes in
        record { reach = c.reach; holds = c.holds; under = stored_under permit v }
