-- The laws, from their parts.
use Rattle.std.proofs.Common.{◌≡◌, ◌≤◌, ◌==◌, ℕ, Bool, true, false, if◌then◌else◌, List, [], ◌∷◌, None, refl, subst, sym}
use Rattle.std.specs.Prelude.{ℤ}
use Rattle.ada_tree.specs.declared.naming.Span.{Span}
use Rattle.ada_tree.specs.PlainStmt.{PStmt, PStmts, no_stmt, stmt_then, PBody, PHandlers, no_handler, handler_then, handler}
use Rattle.ada_value.specs.Variables.{Variables}
use Rattle.task_model.specs.Frames.{OwnBody, Around, Block, PFrame, control, settled}
use Rattle.task_model.specs.Steps.{block_stmts, block_handlers}
use Rattle.task_laws.specs.translation.Scopes.{AgreeOnTypes}
use Rattle.task_laws.specs.translation.Translations.{Programs}
use Rattle.task_laws.specs.translation.OldTexts.{Asked, only_names, OldBody, old_body, old_no_handler, old_handler}
use Rattle.task_laws.specs.translation.Images.{ImageHandlers}
use Rattle.task_laws.specs.translation.Controls.{frame, task_in, Alike, are_around}
use Rattle.task_laws.specs.translation.Floors.{IsTranslation}
use Rattle.task_laws.proofs.translation.Locals.{step-in-loops, raises-alike, of_settle}
use Rattle.normal_model.specs.Walk.{after_stmts, after_body, rewritten, inside_handlers}
use Rattle.normal_laws.specs.runs.floors.NormalFloors.{Extends, no_floor}
use Rattle.normal_laws.specs.runs.floors.Preludes.{reaches_here, reaches_by}
use Rattle.collect_runs.specs.translation.Floors.{HasVariables, AreNamesAdded, CollectFloor, main_body, plain_body, handled_body}
use Rattle.collect_runs.proofs.translation.Floors.{floor-row}
use Rattle.collect_model.specs.aborts.AbortTeller.{AbortTeller}
use Rattle.collect_model.specs.aborts.AbortStmts.{abort_rewriter, main_body as main_text, task_body}
use Rattle.collect_runs.specs.aborts.translation.Rows.{Telling, telling_rows}
use Rattle.collect_runs.specs.aborts.translation.Floors.{OpenPlace, into_aborting}
use Rattle.collect_runs.specs.aborts.translation.Laws.{AbortTranslates, AbortIsClosed, AbortSteps, AbortRaises, AbortKeepsVariables, StartAlike, AbortStarts}
use Rattle.collect_runs.proofs.aborts.translation.Counting.{at-most, grows_stmts, grows_handlers, same_body}
use Rattle.collect_runs.proofs.aborts.translation.Rows.{rows, handler-rows, are-images}
use Rattle.collect_runs.proofs.aborts.translation.Floors.{is-translation, is-closed, variables-there}
use Rattle.replay_runs.proofs.translation.Carried.{own-settled}

pub translates : (a : Asked) (x : AbortTeller) (last : ℕ) (ps : List OpenPlace) → AreNamesAdded a.programs x.teller.added → AgreeOnTypes a.programs → IsTranslation (into_aborting a x last ps)
translates a x last ps new types = is-translation a x last new types ps

pub abort_translates : AbortTranslates
abort_translates b x last ps new types = translates (only_names b) x last ps new types

pub abort_is_closed : AbortIsClosed
abort_is_closed b x last ps = is-closed (only_names b) x last ps

pub abort_steps : AbortSteps
abort_steps b x last ps new types σ κ both at stays =
    step-in-loops (into_aborting (only_names b) x last ps) (abort_translates b x last ps new types) (abort_is_closed b x last ps) σ κ both at stays

pub abort_raises : AbortRaises
abort_raises b x last ps new types σ κ both e = raises-alike (into_aborting (only_names b) x last ps) (abort_translates b x last ps new types) σ κ both e

pub abort_keeps_variables : AbortKeepsVariables
abort_keeps_variables b x last ps new σ κ (are_around n i w r r' f) = variables-there (only_names b) x last new ps f

-- ---- the start

-- where a block's statements are over the task goes on outside of it, with the same variables
block-vars : (l : PStmts) (hs : PHandlers) (y : PStmt) (r : PStmts) (q : Around) (o : List PFrame) (V : Variables) → (settled (control l (Block hs) (frame (stmt_then y r) q ∷ o) V)).vars ≡ V
block-vars no_stmt hs y r q o V = refl
block-vars (stmt_then s l) hs y r q o V = refl

blocks-vars : (l : PStmts) (hs hs' : PHandlers) (y : PStmt) (r : PStmts) (q : Around) (o : List PFrame) (V : Variables) →
    (settled (control l (Block hs) (frame no_stmt (Block hs') ∷ frame (stmt_then y r) q ∷ o) V)).vars ≡ V
blocks-vars no_stmt hs hs' y r q o V = refl
blocks-vars (stmt_then s l) hs hs' y r q o V = refl

-- a row on a floor where no accept body is open, and its image once frames that are over are left
begins : (a : Asked) (x : AbortTeller) (last : ℕ) (new : AreNamesAdded a.programs x.teller.added) (types : AgreeOnTypes a.programs) (n : ℕ) (input : List ℤ) (hs : PHandlers) (l l' : PStmts) (p' : Around) (o' : List PFrame)
    (V V' : Variables) → Telling a x 0 last l l' → CollectFloor (telling_rows a x 0 last) x.teller no_floor (OwnBody hs None) [] V p' o' V' →
    Alike (into_aborting a x last []) (task_in a.programs.original n input [] (control l (OwnBody hs None) [] V)) (task_in a.programs.made n input [] (settled (control l' p' o' V')))
begins a x last new types n input hs l l' p' o' V V' im f =
    let y = telling_rows a x 0 last in
    subst (λ c. Alike (into_aborting a x last []) (task_in a.programs.original n input [] c) (task_in a.programs.made n input [] (settled (control l' p' o' V')))) (own-settled hs l V)
    (of_settle (into_aborting a x last []) (translates a x last [] new types) n input [] (floor-row y (are-images a x 0 last) types x.teller no_floor l l' im f))

module _ (b : Programs) (x : AbortTeller) (last : ℕ) (new : AreNamesAdded b x.teller.added) (types : AgreeOnTypes b) (s : Span) (V V' : Variables) (n : ℕ) (input : List ℤ) (ext : Extends b V V')
    (there : HasVariables x.teller.added V') where
  -- the task of the normal form, and its image in a body
  abbrev Starts : PBody → PBody → Type 0
  Starts its made = StartAlike b x last
      (task_in b.original n input [] (control (block_stmts its) (OwnBody (block_handlers its) None) [] V))
      (task_in b.made n input [] (control (block_stmts made) (OwnBody (block_handlers made) None) [] V'))

  -- its statements and handlers as the rewriter makes them
  abbrev made-stmts : PStmts → PStmts
  made-stmts l = rewritten (abort_rewriter x) l 0

  abbrev made-handlers : PStmts → PHandlers → PHandlers
  made-handlers l hs = inside_handlers (abort_rewriter x) hs (after_stmts (abort_rewriter x) l 0)

  main-starts : (its : PBody) → after_body (abort_rewriter x) its 0 ≤ last → OldBody (only_names b) its → (x.teller.task == 0) ≡ true → Starts its (main_text x its)
  main-starts its to (old_body l hs h k) main =
      let im : ImageHandlers (telling_rows (only_names b) x 0 last) hs (made-handlers l hs) = handler-rows (only_names b) x 0 last k (after_stmts (abort_rewriter x) l 0) (grows_stmts x l 0) to in
      let up = at-most (grows_handlers x hs (after_stmts (abort_rewriter x) l 0)) to in
      record {
        reached = _;
        reach = reaches_here _;
        same = refl;
        alike = subst (λ c. Alike (into_aborting (only_names b) x last []) (task_in b.original n input [] (control l (OwnBody hs None) [] V)) (task_in b.made n input [] c))
            (own-settled (made-handlers l hs) (made-stmts l) V')
            (begins (only_names b) x last new types n input hs l (made-stmts l) _ _ V V' (rows (only_names b) x 0 last h 0 (grows_stmts x no_stmt 0) up)
            (main_body hs _ None V V' main im ext there));
      }

  task-starts : (its : PBody) → after_body (abort_rewriter x) its 0 ≤ last → OldBody (only_names b) its → (x.teller.task == 0) ≡ false → Starts its (task_body x s its)
  task-starts its to (old_body l hs h old_no_handler) task = record {
    reached = _;
    reach = reaches_by _ _ refl refl (reaches_here _);
    same = block-vars (made-stmts l) _ _ _ _ _ V';
    alike = begins (only_names b) x last new types n input no_handler l (made-stmts l) _ _ V V' (rows (only_names b) x 0 last h 0 (grows_stmts x no_stmt 0) to) (plain_body s V V' task ext there);
  }
  task-starts its to (old_body l hs h (old_handler ws l1 s1 rest h1 k1)) task =
      let im : ImageHandlers (telling_rows (only_names b) x 0 last) (handler_then (handler ws l1 s1) rest) (made-handlers l (handler_then (handler ws l1 s1) rest)) =
      handler-rows (only_names b) x 0 last (old_handler ws l1 s1 rest h1 k1) (after_stmts (abort_rewriter x) l 0) (grows_stmts x l 0) to in
      let up = at-most (grows_handlers x (handler_then (handler ws l1 s1) rest) (after_stmts (abort_rewriter x) l 0)) to in
      record {
        reached = _;
        reach = reaches_by _ _ refl refl (reaches_by _ _ refl refl (reaches_here _));
        same = blocks-vars (made-stmts l) _ _ _ _ _ _ V';
        alike = begins (only_names b) x last new types n input (handler_then (handler ws l1 s1) rest) l (made-stmts l) _ _ V V' (rows (only_names b) x 0 last h 0 (grows_stmts x no_stmt 0) up)
            (handled_body s _ _ _ _ V V' task im ext there);
      }

pub abort_starts : AbortStarts
abort_starts b x last s its V V' n input new types fits old ext there = go (x.teller.task == 0) refl
  where
    counted : after_body (abort_rewriter x) its 0 ≤ last
    counted = subst (λ n. n ≤ last) (sym (same_body x its 0)) fits

    go : (t : Bool) → (x.teller.task == 0) ≡ t → StartAlike b x last
        (task_in b.original n input [] (control (block_stmts its) (OwnBody (block_handlers its) None) [] V))
        (task_in b.made n input []
        (control (block_stmts (if t then main_text x its else task_body x s its)) (OwnBody (block_handlers (if t then main_text x its else task_body x s its)) None) [] V'))
    go true e = main-starts b x last new types s V V' n input ext there its counted old e
    go false e = task-starts b x last new types s V V' n input ext there its counted old e
