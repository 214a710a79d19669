-- An accept statement that a replay text serves: the acceptor offers the member of the entry, and says that it is done once a caller is there.
use Rattle.std.proofs.Common.{◌≡◌, ℕ, suc, ℤ, Bool, true, false, if◌then◌else◌, List, [], ◌∷◌, ◌++◌, find, map, Some, None, Ok, refl, sym, ap, ◌∙◌, subst}
use Rattle.event_machine.specs.declared.Choice.TheVariants.{Accept}
use Rattle.event_machine.specs.declared.Event.{Event}
use Rattle.event_machine.specs.Offers.{Waits}
use Rattle.event_machine.proofs.Basics.{same_member-refl}
use Rattle.ada_tree.specs.declared.naming.Span.{Span}
use Rattle.ada_tree.specs.declared.naming.Word.{Word}
use Rattle.ada_tree.specs.declared.statements.ParMode.{ParMode}
use Rattle.ada_tree.specs.PlainStmt.{PFormal, PHead, PStmt, SAccept, PStmts, no_stmt, stmt_then, PMaybe, absent, present, accepting}
use Rattle.ada_tree.specs.PlainProgram.{PProgram}
use Rattle.ada_value.specs.declared.values.Limits.{Limits}
use Rattle.ada_value.specs.declared.values.Value.{Value}
use Rattle.ada_value.specs.Values.{and_then, lower_bound, limits_named}
use Rattle.ada_value.specs.Variables.{Variables}
use Rattle.task_model.specs.declared.parameters.FormalParameter.{FormalParameter}
use Rattle.task_model.specs.Setting.{entry_of, member_index, parameters_in, parameters_of}
use Rattle.task_model.specs.Frames.{Around, Block, Opened, PFrame, control, in_front, settled}
use Rattle.task_model.specs.Tasks.{Task, stmts_or_none}
use Rattle.task_model.specs.Calls.{opened_object, opened_objects, values_handed}
use Rattle.task_model.specs.Waits.{Accepts, open_at, accepts_member, first_accepting, alternative_for}
use Rattle.task_model.specs.Stands.{wait_stand, steps_at, offered, stepped}
use Rattle.task_model.specs.Rendezvous.{accepted, alternative_opened, body_opened}
use Rattle.task_laws.proofs.statements.Blocks.{tasks_leave_blocks}
use Rattle.task_laws.specs.translation.Translations.{Rewriting, Programs, types_before, types_after}
use Rattle.task_laws.specs.translation.Scopes.{AgreeOnTypes}
use Rattle.task_laws.specs.translation.OldTexts.{only_names, OldWords, old_no_word, old_word, OldFormals, old_no_formal, old_formal}
use Rattle.task_laws.specs.translation.Images.{ImageMaybe, image_absent, image_present, AreImages}
use Rattle.task_laws.specs.translation.Controls.{frame, task_in, Under, on_floor, in_block, in_handler, in_endless, in_while, in_count, Alike, alike, behind}
use Rattle.task_laws.proofs.translation.Evaluating.{single-known}
use Rattle.task_laws.proofs.translation.Locals.{of_settle}
use Rattle.normal_model.specs.RewrittenUnit.{RewrittenUnit}
use Rattle.normal_laws.specs.runs.floors.Preludes.{Reaches, reaches_here, reaches_by}
use Rattle.normal_laws.specs.runs.floors.NormalFloors.{AreOpen, none_open, open_then}
use Rattle.normal_laws.specs.runs.floors.Meetings.{AreNamed, none_named, named_then, AreValues, no_value, value_then}
use Rattle.normal_laws.specs.existence.Laws.{IsLegalOriginal}
use Rattle.run_laws.specs.replaying.Copies.{Spots}
use Rattle.replay_model.specs.Asking.{done}
use Rattle.replay_model.specs.Serving.{finish, body_kept, serve}
use Rattle.replay_structure.specs.spots.Places.{text_spots}
use Rattle.replay_runs.specs.starts.Laws.{form_in}
use Rattle.replay_runs.specs.starts.Formals.{form_setting, text_setting}
use Rattle.replay_runs.specs.translation.Rows.{Replayed, replayed_rows}
use Rattle.replay_runs.specs.translation.Floors.{ends_accept, accept_frames, OpenAccept, accept_body, empty_over, over_floors, below_at}
use Rattle.replay_runs.proofs.translation.Rows.{are-images}
use Rattle.replay_runs.proofs.translation.Floors.{floor-row, up}
use Rattle.table_law.specs.States.{Offers}
use Rattle.replay_runs.specs.controls.Asking.{unit_of_task}
use Rattle.replay_runs.specs.controls.translated.Laws.{form_and_text, unit_translation}
use Rattle.replay_runs.specs.controls.meanings.Pairs.{IsOfForm}
use Rattle.replay_runs.specs.controls.meanings.Permits.{IsAccepting, ComesToSay}
use Rattle.replay_runs.proofs.controls.translated.Tables.{legal_types_agree}
use Rattle.replay_runs.proofs.controls.meanings.Pairs.{pairs_come, tasks_stay}
use Rattle.replay_runs.proofs.controls.meanings.Parts.{left, right, comes_behind, laws, says}

-- the first that passes the test
pub find-first : {A : Type 0} (test : A → Bool) (x : A) (xs : List A) → test x ≡ true → find test (x ∷ xs) ≡ Some x
find-first test x xs e = ap (λ c. if c then Some x else find test xs) e

-- statements in an accept body are not left at once
opened-settled : (l : PStmts) (caller : ℕ) (fs : List FormalParameter) (part : PFrame) (parts : List PFrame) (V : Variables) → settled (control l (Opened caller fs None) (part ∷ parts) V) ≡ control l (Opened caller fs None) (part ∷ parts) V
opened-settled no_stmt caller fs part parts V = refl
opened-settled (stmt_then s l) caller fs part parts V = refl

-- ---- formals

module _ (b : Programs) (types : AgreeOnTypes b) where
  words-named : (mode : ParMode) (limits : Limits) {ws : List Word} → OldWords b ws → AreNamed b (map (λ w. record { name = w.name; mode = mode; limits = limits }) ws)
  words-named mode limits old_no_word = none_named
  words-named mode limits (old_word w rest old free h) = named_then (record { name = w.name; mode = mode; limits = limits }) _ old free (words-named mode limits h)

  named-append : {fs gs : List FormalParameter} → AreNamed b fs → AreNamed b gs → AreNamed b (fs ++ gs)
  named-append none_named k = k
  named-append (named_then f fs old free h) k = named_then f _ old free (named-append h k)

  formals-named : {fs : List PFormal} → OldFormals b fs → AreNamed b (parameters_of (types_before b) fs)
  formals-named old_no_formal = none_named
  formals-named (old_formal f rest h old k) = named-append (words-named f.mode (limits_named (types_before b) f.mark.name) h) (formals-named k)

  formals-same : {fs : List PFormal} → OldFormals b fs → parameters_of (types_before b) fs ≡ parameters_of (types_after b) fs
  formals-same old_no_formal = refl
  formals-same (old_formal f rest h old k) =
      ap (λ l. map (λ w. record { name = w.name; mode = f.mode; limits = l }) f.names ++ parameters_of (types_before b) rest) (types.marks f.mark.name old)
      ∙ ap (λ fs. parameters_in (types_after b) f ++ fs) (formals-same k)

  opened-known : {fs : List FormalParameter} → AreNamed b fs → {vs : List Value} → AreValues b vs → AreOpen b fs (opened_objects (types_before b) fs vs)
  opened-known none_named h = none_open
  opened-known (named_then f fs old free k) no_value =
      open_then f _ fs _ old (single-known b types f.name f.limits None (lower_bound (types_before b) f.limits) free (types.values_known f.limits.kind f.limits.first)) (opened-known k no_value)
  opened-known (named_then f fs old free k) (value_then v vs known h) = open_then f _ fs _ old (single-known b types f.name f.limits None v free known) (opened-known k h)

  opened-same : (fs : List FormalParameter) (vs : List Value) → opened_objects (types_before b) fs vs ≡ opened_objects (types_after b) fs vs
  opened-same [] vs = refl
  opened-same (f ∷ fs) [] =
      ap (λ v. opened_object f v ∷ opened_objects (types_before b) fs []) (types.values f.limits.kind f.limits.first)
      ∙ ap (λ os. opened_object f (lower_bound (types_after b) f.limits) ∷ os) (opened-same fs [])
  opened-same (f ∷ fs) (v ∷ vs) = ap (λ os. opened_object f v ∷ os) (opened-same fs vs)

module _ (far : Spots) (p : PProgram) (events : List Event) (h : IsLegalOriginal p) (t : ℕ) where
  abbrev u : RewrittenUnit
  u = unit_of_task p t

  abbrev b : Programs
  b = form_and_text p events

  abbrev X : Rewriting
  X = replayed_rows (only_names b) u

  types : AgreeOnTypes b
  types = legal_types_agree p events h

  images : AreImages X
  images = are-images (only_names b) u

  -- the entry's number in the text
  abbrev original : ℕ → ℕ
  original e = (text_spots far (form_in p)).original e

  -- how many accept bodies are open
  lowered : {q q' : Around} {o o' : List PFrame} {V V' : Variables} → Under (unit_translation p events t) q o V q' o' V' → (k : ℕ) × Under (over_floors X u (below_at X u k)) q o V q' o' V'
  lowered (on_floor f) = (f.0, on_floor f.1)
  lowered (in_block hs hs' r r' im im' v) = let l = lowered v in (l.0, in_block hs hs' r r' im im' l.1)
  lowered (in_handler e r r' im v) = let l = lowered v in (l.0, in_handler e r r' im l.1)
  lowered (in_endless name l l' r r' im im' v) = let m = lowered v in (m.0, in_endless name l l' r r' im im' m.1)
  lowered (in_while name e l l' r r' old im im' v) = let m = lowered v in (m.0, in_while name e l l' r r' old im im' m.1)
  lowered (in_count name backwards last l l' r r' c old known im im' v) = let m = lowered v in (m.0, in_count name backwards last l l' r r' c old known im im' m.1)

  -- The image comes, by steps that write nothing, to where it waits for a call of this member. Once a caller is there it says that it is done, beside
  -- the task that has accepted it.
  pub record Serves (e : ℕ) (z : ℤ) (σ κ : Task) : Type 0 where
    pub reached : Task
    pub reach : Reaches κ reached
    pub output : reached.output ≡ σ.output
    pub offers : Offers reached (Waits (Accept (original e) z ∷ []))
    pub accepts : IsAccepting far p events t e z σ reached

  module _ (i : List ℤ) (w : List ℕ) where
    abbrev before : PStmts → Around → List PFrame → Variables → Task
    before r q o V = left far p events t i w r q o V

    abbrev after : PStmts → Around → List PFrame → Variables → Task
    after r q o V = right far p events t i w r q o V

    -- an accept statement of the text
    module _ (head : PHead) (s : Span) (e : ℕ) (z : ℤ) (W : Variables) (entry : entry_of (text_setting p events).numbers t head.entry.name ≡ original e)
        (member : member_index (text_setting p events) W (entry_of (text_setting p events).numbers t head.entry.name) head.index ≡ Ok z) (l rest : PStmts) (q : Around) (o : List PFrame) where
      abbrev at : Task
      at = after (stmt_then (SAccept (accepting head (present l)) s) rest) q o W

      is-open : open_at at (SAccept (accepting head (present l)) s) ≡ Ok (Accepts (original e) z head l no_stmt ∷ [])
      is-open =
          ap (λ r. and_then (and_then r (λ j. Ok (Accepts (entry_of (text_setting p events).numbers t head.entry.name) j head l no_stmt))) (λ a. Ok (a ∷ []))) member
          ∙ ap (λ m. Ok (Accepts m z head l no_stmt ∷ [])) entry

      waits : Offers at (Waits (Accept (original e) z ∷ []))
      waits = record { rests = ap (λ r. steps_at (wait_stand false r)) is-open; offers = ap (λ r. offered (wait_stand false r)) is-open }

      alternative : alternative_for at (original e) z ≡ Some (Accepts (original e) z head l no_stmt)
      alternative = ap (first_accepting (original e) z) is-open ∙ find-first (accepts_member (original e) z) (Accepts (original e) z head l no_stmt) [] (same_member-refl (original e) z)

      -- with values that are the same, and the formals of the normal form
      opens : OldFormals b head.formals → (caller : ℕ) (K : Task) (vs : List Value) → values_handed K ≡ vs →
          accepted (original e) z caller K at ≡
          after l (Opened caller (parameters_of (types_before b) head.formals) None) (frame rest q ∷ o) (opened_objects (types_before b) (parameters_of (types_before b) head.formals) vs ++ W)
      opens old caller K vs same =
          ap (λ a. alternative_opened caller a (values_handed K) at) alternative
          ∙ ap (λ us. body_opened caller (parameters_of (types_after b) head.formals) l no_stmt us at) same
          ∙ ap (λ fs. body_opened caller fs l no_stmt vs at) (sym (formals-same b types old))
          ∙ ap (λ os. after l (Opened caller (parameters_of (types_before b) head.formals) None) (frame rest q ∷ o) (os ++ W)) (sym (opened-same b types (parameters_of (types_before b) head.formals) vs))

    -- the task as it has accepted
    opened-so : (head : PHead) (m : PMaybe) (e : ℕ) (z : ℤ) (caller : ℕ) (L : Task) (s0 : PStmt) (r d : PStmts) (q : Around) (o : List PFrame) (V : Variables) →
        alternative_for (before (stmt_then s0 r) q o V) e z ≡ Some (Accepts e z head (stmts_or_none m) d) →
        accepted e z caller L (before (stmt_then s0 r) q o V) ≡
        before (stmts_or_none m) (Opened caller (parameters_of (types_before b) head.formals) None) (frame (in_front d r) q ∷ o)
        (opened_objects (types_before b) (parameters_of (types_before b) head.formals) (values_handed L) ++ V)
    opened-so head m e z caller L s0 r d q o V alt = ap (λ a. alternative_opened caller a (values_handed L) (before (stmt_then s0 r) q o V)) alt

    -- an accept that both have opened
    abbrev opened-both : (k : ℕ) (s : Span) (head : PHead) (caller : ℕ) (vs : List Value) (row row' : PStmts) {q q' : Around} {o o' : List PFrame} {V W : Variables} → OldFormals b head.formals → AreValues b vs → Replayed (only_names b) u row row' →
        Under (over_floors X u (below_at X u k)) q o V q' o' W → OpenAccept X (below_at X u (suc k))
    opened-both k s head caller vs row row' {q} {q'} {o} {o'} {V} {W} old known im v = record {
      span = s;
      place = q;
      place' = q';
      outer = o;
      outer' = o';
      vars = V;
      vars' = W;
      below = v;
      row = row;
      row' = row';
      rows = im;
      caller = caller;
      formals = parameters_of (types_before b) head.formals;
      objects = opened_objects (types_before b) (parameters_of (types_before b) head.formals) vs;
      are_open = opened-known b types (formals-named b types old) known;
    }

    -- without statements: the image goes on to ask for the end
    says-empty : (k : ℕ) (a : OpenAccept X (below_at X u k)) → IsOfForm p t (before no_stmt (Opened a.caller a.formals None) (frame a.row a.place ∷ a.outer) (a.objects ++ a.vars)) →
        ComesToSay far p events t (before no_stmt (Opened a.caller a.formals None) (frame a.row a.place ∷ a.outer) (a.objects ++ a.vars))
        (after (stmt_then (done u a.span) (finish u a.span)) (Opened a.caller a.formals None) (frame (stmt_then (done u a.span) a.row') a.place' ∷ a.outer') (a.objects ++ a.vars'))
    says-empty k a own =
        let parts : List PFrame = frame (stmt_then (done u a.span) a.row') a.place' ∷ a.outer' in
        let σ : Task = before no_stmt (Opened a.caller a.formals None) (frame a.row a.place ∷ a.outer) (a.objects ++ a.vars) in
        let κ : Task = after (finish u a.span) (Opened a.caller a.formals None) parts (a.objects ++ a.vars') in
        record {
          reached = _;
          reach = reaches_here _;
          says = says far p events t h σ a.span (finish u a.span) (record { number = t; input = i; output = w; place = Opened a.caller a.formals None; outer = parts; vars = a.objects ++ a.vars' }) own.there refl
              (pairs_come p events t σ κ (record { own = own; alike = alike t i w _ _ (behind _ _ (k, empty_over a)); left = refl }));
        }

    -- with statements: it enters the block around them
    says-body : (k : ℕ) (a : OpenAccept X (below_at X u k)) (l l' : PStmts) → Replayed (only_names b) u l l' → IsOfForm p t (before l (Opened a.caller a.formals None) (frame a.row a.place ∷ a.outer) (a.objects ++ a.vars)) →
        ComesToSay far p events t (before l (Opened a.caller a.formals None) (frame a.row a.place ∷ a.outer) (a.objects ++ a.vars))
        (after (stmt_then (done u a.span) (stmt_then (body_kept u a.span l') (finish u a.span))) (Opened a.caller a.formals None) (accept_frames u a.span a.row' a.place' a.outer') (a.objects ++ a.vars'))
    says-body k a l l' im own =
        let parts : List PFrame = accept_frames u a.span a.row' a.place' a.outer' in
        let σ : Task = before l (Opened a.caller a.formals None) (frame a.row a.place ∷ a.outer) (a.objects ++ a.vars) in
        let κ : Task = after (stmt_then (body_kept u a.span l') (finish u a.span)) (Opened a.caller a.formals None) parts (a.objects ++ a.vars') in
        let both : Alike (unit_translation p events t) (task_in (form_setting p) t i w (settled (control l (Opened a.caller a.formals None) (frame a.row a.place ∷ a.outer) (a.objects ++ a.vars)))) (stepped κ) =
        of_settle (unit_translation p events t) (laws far p events t h) t i w (up X images types u k (floor-row X images types u (below_at X u k) l l' im (accept_body a))) in
        record {
          reached = _;
          reach = reaches_here _;
          says = says far p events t h σ a.span (stmt_then (body_kept u a.span l') (finish u a.span))
              (record { number = t; input = i; output = w; place = Opened a.caller a.formals None; outer = parts; vars = a.objects ++ a.vars' }) own.there refl
              (comes_behind far p events t σ (reaches_by κ (stepped κ) refl refl (reaches_here (stepped κ)))
              (pairs_come p events t σ (stepped κ) (record {
                own = own;
                alike = subst (λ c. Alike (unit_translation p events t) (task_in (form_setting p) t i w c) (stepped κ)) (opened-settled l a.caller a.formals (frame a.row a.place) a.outer (a.objects ++ a.vars)) both;
                left = (tasks_leave_blocks κ refl).stepped;
              })));
        }

    -- The image serves an accept, whose entry and index are found in the text, in front of what stands behind the accept.
    pub serve_holds : (head : PHead) (s : Span) (e : ℕ) (z : ℤ) (s0 : PStmt) (r d row' : PStmts) {m m' : PMaybe} {q q' : Around} {o o' : List PFrame} {V W : Variables} → ImageMaybe X m m' → OldFormals b head.formals →
        Replayed (only_names b) u (in_front d r) row' → Under (unit_translation p events t) q o V q' o' W → entry_of (text_setting p events).numbers t head.entry.name ≡ original e →
        member_index (text_setting p events) W (entry_of (text_setting p events).numbers t head.entry.name) head.index ≡ Ok z → IsOfForm p t (before (stmt_then s0 r) q o V) →
        alternative_for (before (stmt_then s0 r) q o V) e z ≡ Some (Accepts e z head (stmts_or_none m) d) →
        Serves e z (before (stmt_then s0 r) q o V) (after (in_front (serve u s (accepting head m')) row') q' o' W)
    serve_holds head s e z s0 r d row' {q = q} {q' = q'} {o = o} {o' = o'} {V = V} {W = W} image_absent old im v entry member own alt =
        let l : PStmts = stmt_then (done u s) (finish u s) in
        let σ : Task = before (stmt_then s0 r) q o V in
        let low = lowered v in
        record {
          reached = _;
          reach = reaches_here _;
          output = refl;
          offers = waits head s e z W entry member l (stmt_then (done u s) row') q' o';
          accepts = λ caller L K over.
              let a : OpenAccept X (below_at X u (suc low.0)) = opened-both low.0 s head caller (values_handed L) (in_front d r) row' old over.known im low.1 in
              let before-says = opened-so head absent e z caller L s0 r d q o V alt in
              subst (λ τ. ComesToSay far p events t τ (accepted (original e) z caller K (at head s e z W entry member l (stmt_then (done u s) row') q' o'))) (sym before-says)
              (subst (ComesToSay far p events t _) (sym (opens head s e z W entry member l (stmt_then (done u s) row') q' o' old caller K (values_handed L) over.same))
              (says-empty (suc low.0) a (subst (IsOfForm p t) before-says ((tasks_stay p t σ own).accepted e z caller L))));
        }
    serve_holds head s e z s0 r d row' {q = q} {q' = q'} {o = o} {o' = o'} {V = V} {W = W} (image_present l1 l2 iml) old im v entry member own alt =
        let l : PStmts = stmt_then (done u s) (stmt_then (body_kept u s l2) (finish u s)) in
        let σ : Task = before (stmt_then s0 r) q o V in
        let parts : List PFrame = frame (stmt_then (done u s) row') q' ∷ o' in
        let low = lowered v in
        record {
          reached = at head s e z W entry member l no_stmt (Block (ends_accept u s)) parts;
          reach = reaches_by _ _ refl refl (reaches_here _);
          output = refl;
          offers = waits head s e z W entry member l no_stmt (Block (ends_accept u s)) parts;
          accepts = λ caller L K over.
              let a : OpenAccept X (below_at X u (suc low.0)) = opened-both low.0 s head caller (values_handed L) (in_front d r) row' old over.known im low.1 in
              let before-says = opened-so head (present l1) e z caller L s0 r d q o V alt in
              subst (λ τ. ComesToSay far p events t τ (accepted (original e) z caller K (at head s e z W entry member l no_stmt (Block (ends_accept u s)) parts))) (sym before-says)
              (subst (ComesToSay far p events t _) (sym (opens head s e z W entry member l no_stmt (Block (ends_accept u s)) parts old caller K (values_handed L) over.same))
              (says-body (suc low.0) a l1 l2 iml (subst (IsOfForm p t) before-says ((tasks_stay p t σ own).accepted e z caller L))));
        }
