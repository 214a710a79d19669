-- The laws, from their parts.
use Rattle.std.proofs.Common.{◌≡◌, ◌==◌, Bool, true, false, if◌then◌else◌, List, [], None, refl, subst, sym}
use Rattle.std.specs.Prelude.{ℕ, ℤ}
use Rattle.ada_tree.specs.declared.naming.Span.{Span}
use Rattle.ada_tree.specs.PlainStmt.{PStmts, PBody, PHandlers, no_handler, handler_then, handler}
use Rattle.ada_value.specs.Variables.{Variables}
use Rattle.task_model.specs.Frames.{OwnBody, Around, PFrame, control, settled}
use Rattle.task_model.specs.Steps.{block_stmts, block_handlers}
use Rattle.task_laws.specs.translation.Scopes.{AgreeOnTypes}
use Rattle.task_laws.specs.translation.Translations.{Programs}
use Rattle.task_laws.specs.translation.OldTexts.{Asked, only_names, OldBody, old_body, old_no_handler, old_handler}
use Rattle.task_laws.specs.translation.Images.{ImageHandlers}
use Rattle.task_laws.specs.translation.Controls.{task_in, Alike, are_around}
use Rattle.task_laws.specs.translation.Floors.{IsTranslation}
use Rattle.task_laws.proofs.translation.Locals.{step-in-loops, raises-alike, of_settle}
use Rattle.normal_model.specs.Walk.{after_stmts, rewritten, inside_handlers}
use Rattle.normal_laws.specs.runs.floors.NormalFloors.{Extends, no_floor}
use Rattle.normal_laws.specs.runs.floors.Preludes.{reaches_here, reaches_by}
use Rattle.collect_model.specs.Teller.{Teller}
use Rattle.collect_model.specs.CollectStmts.{collect_rewriter, main_body as main_text, task_body}
use Rattle.collect_runs.specs.translation.Rows.{Telling, telling_rows}
use Rattle.collect_runs.specs.translation.Floors.{HasVariables, AreNamesAdded, CollectFloor, main_body, plain_body, handled_body, into_collecting}
use Rattle.collect_runs.specs.translation.Laws.{CollectTranslates, CollectIsClosed, CollectSteps, CollectRaises, CollectKeepsVariables, StartAlike, CollectStarts}
use Rattle.collect_runs.proofs.translation.Kept.{still_stmts}
use Rattle.collect_runs.proofs.translation.Rows.{rows, handler-rows, are-images}
use Rattle.collect_runs.proofs.translation.Floors.{floor-row, up, is-translation, is-closed, variables-there}
use Rattle.replay_runs.proofs.translation.Carried.{own-settled}

pub translates : (a : Asked) (x : Teller) → AreNamesAdded a.programs x.added → AgreeOnTypes a.programs → IsTranslation (into_collecting (telling_rows a x) x)
translates a x new types = is-translation (telling_rows a x) (are-images a x) types x new

pub collect_translates : CollectTranslates
collect_translates b x new types = translates (only_names b) x new types

pub collect_is_closed : CollectIsClosed
collect_is_closed b x = is-closed (telling_rows (only_names b) x) x

pub collect_steps : CollectSteps
collect_steps b x new types σ κ both at stays = step-in-loops (into_collecting (telling_rows (only_names b) x) x) (collect_translates b x new types) (collect_is_closed b x) σ κ both at stays

pub collect_raises : CollectRaises
collect_raises b x new types σ κ both e = raises-alike (into_collecting (telling_rows (only_names b) x) x) (collect_translates b x new types) σ κ both e

pub collect_keeps_variables : CollectKeepsVariables
collect_keeps_variables b x new σ κ (are_around n i w r r' f) = variables-there (telling_rows (only_names b) x) x new f

-- ---- the start

-- a row on a floor where no accept body is open, and its image once frames that are over are left
begins : (a : Asked) (x : Teller) (new : AreNamesAdded a.programs x.added) (types : AgreeOnTypes a.programs) (n : ℕ) (input : List ℤ) (hs : PHandlers) (l l' : PStmts) (p' : Around) (o' : List PFrame) (V V' : Variables) →
    Telling a x l l' → CollectFloor (telling_rows a x) x no_floor (OwnBody hs None) [] V p' o' V' →
    Alike (into_collecting (telling_rows a x) x) (task_in a.programs.original n input [] (control l (OwnBody hs None) [] V)) (task_in a.programs.made n input [] (settled (control l' p' o' V')))
begins a x new types n input hs l l' p' o' V V' im f =
    let y = telling_rows a x in
    subst (λ c. Alike (into_collecting y x) (task_in a.programs.original n input [] c) (task_in a.programs.made n input [] (settled (control l' p' o' V')))) (own-settled hs l V)
    (of_settle (into_collecting y x) (translates a x new types) n input [] (up y (are-images a x) types x 0 (floor-row y (are-images a x) types x no_floor l l' im f)))

module _ (b : Programs) (x : Teller) (new : AreNamesAdded b x.added) (types : AgreeOnTypes b) (s : Span) (V V' : Variables) (n : ℕ) (input : List ℤ) (ext : Extends b V V') (there : HasVariables x.added V') where
  -- the task of the normal form, and its image in a body
  abbrev Starts : PBody → PBody → Type 0
  Starts its made = StartAlike b x
      (task_in b.original n input [] (control (block_stmts its) (OwnBody (block_handlers its) None) [] V))
      (task_in b.made n input [] (control (block_stmts made) (OwnBody (block_handlers made) None) [] V'))

  main-starts : (its : PBody) → OldBody (only_names b) its → (x.task == 0) ≡ true → Starts its (main_text x its)
  main-starts its (old_body l hs h k) main =
      let y = telling_rows (only_names b) x in
      let im : ImageHandlers y hs (inside_handlers (collect_rewriter x) hs (after_stmts (collect_rewriter x) l 0)) =
      subst (λ v. ImageHandlers y hs (inside_handlers (collect_rewriter x) hs v)) (sym (still_stmts x l 0)) (handler-rows (only_names b) x k) in
      record {
        reached = _;
        reach = reaches_here _;
        alike = subst (λ c. Alike (into_collecting y x) (task_in b.original n input [] (control l (OwnBody hs None) [] V)) (task_in b.made n input [] c))
            (own-settled (inside_handlers (collect_rewriter x) hs (after_stmts (collect_rewriter x) l 0)) (rewritten (collect_rewriter x) l 0) V')
            (begins (only_names b) x new types n input hs l (rewritten (collect_rewriter x) l 0) _ _ V V' (rows (only_names b) x h) (main_body hs _ None V V' main im ext there));
      }

  task-starts : (its : PBody) → OldBody (only_names b) its → (x.task == 0) ≡ false → Starts its (task_body x s its)
  task-starts its (old_body l hs h old_no_handler) task = record {
    reached = _;
    reach = reaches_by _ _ refl refl (reaches_here _);
    alike = begins (only_names b) x new types n input no_handler l (rewritten (collect_rewriter x) l 0) _ _ V V' (rows (only_names b) x h) (plain_body s V V' task ext there);
  }
  task-starts its (old_body l hs h (old_handler ws l1 s1 rest h1 k1)) task =
      let y = telling_rows (only_names b) x in
      let im : ImageHandlers y (handler_then (handler ws l1 s1) rest) (inside_handlers (collect_rewriter x) (handler_then (handler ws l1 s1) rest) (after_stmts (collect_rewriter x) l 0)) =
      subst (λ v. ImageHandlers y (handler_then (handler ws l1 s1) rest) (inside_handlers (collect_rewriter x) (handler_then (handler ws l1 s1) rest) v)) (sym (still_stmts x l 0)) (handler-rows (only_names b) x (old_handler ws l1 s1 rest h1 k1)) in
      record {
        reached = _;
        reach = reaches_by _ _ refl refl (reaches_by _ _ refl refl (reaches_here _));
        alike = begins (only_names b) x new types n input (handler_then (handler ws l1 s1) rest) l (rewritten (collect_rewriter x) l 0) _ _ V V' (rows (only_names b) x h) (handled_body s _ _ _ _ V V' task im ext there);
      }

pub collect_starts : CollectStarts
collect_starts b x s its V V' n input new types old ext there = go (x.task == 0) refl
  where
    go : (t : Bool) → (x.task == 0) ≡ t → StartAlike b x
        (task_in b.original n input [] (control (block_stmts its) (OwnBody (block_handlers its) None) [] V))
        (task_in b.made n input [] (control (block_stmts (if t then main_text x its else task_body x s its)) (OwnBody (block_handlers (if t then main_text x its else task_body x s its)) None) [] V'))
    go true e = main-starts b x new types s V V' n input ext there its old e
    go false e = task-starts b x new types s V V' n input ext there its old e
