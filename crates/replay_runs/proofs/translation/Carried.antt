-- The laws, from their parts.
use Rattle.std.proofs.Common.{◌≡◌, List, [], None, refl, subst, sym}
use Rattle.std.specs.Prelude.{ℕ, ℤ}
use Rattle.ada_tree.specs.PlainStmt.{PStmts, no_stmt, stmt_then, PHandlers, no_handler, handler_then, handler}
use Rattle.ada_value.specs.Variables.{Variables}
use Rattle.task_model.specs.Frames.{OwnBody, Around, PFrame, control, settled}
use Rattle.task_laws.specs.translation.Scopes.{AgreeOnTypes}
use Rattle.task_laws.specs.translation.OldTexts.{Asked, only_names, old_body, old_no_handler, old_handler}
use Rattle.task_laws.specs.translation.Images.{ImageHandlers}
use Rattle.task_laws.specs.translation.Controls.{task_in, Alike, are_around}
use Rattle.task_laws.specs.translation.Floors.{IsTranslation}
use Rattle.task_laws.proofs.translation.Locals.{step-in-loops, raises-alike, of_settle}
use Rattle.normal_model.specs.RewrittenUnit.{RewrittenUnit}
use Rattle.normal_model.specs.Walk.{after_stmts, rewritten, inside_handlers}
use Rattle.normal_laws.specs.runs.floors.NormalFloors.{no_floor}
use Rattle.normal_laws.specs.runs.floors.Preludes.{reaches_here, reaches_by}
use Rattle.replay_model.specs.ReplayStmts.{replay_rewriter}
use Rattle.replay_structure.proofs.asked.Kept.{still_stmts}
use Rattle.replay_runs.specs.translation.Rows.{Replayed, replayed_rows}
use Rattle.replay_runs.specs.translation.Floors.{ReplayFloor, plain_body, handled_body, into_replay}
use Rattle.replay_runs.specs.translation.Laws.{ReplayTranslates, ReplayIsClosed, ReplaySteps, ReplayRaises, ReplayKeepsPermit, ReplayStarts}
use Rattle.replay_runs.proofs.translation.Rows.{rows, handler-rows, are-images}
use Rattle.replay_runs.proofs.translation.Floors.{floor-row, up, is-translation, is-closed, permit-there}

pub translates : (a : Asked) (u : RewrittenUnit) → AgreeOnTypes a.programs → IsTranslation (into_replay (replayed_rows a u) u)
translates a u types = is-translation (replayed_rows a u) (are-images a u) types u

pub replay_translates : ReplayTranslates
replay_translates b u types = translates (only_names b) u types

pub replay_is_closed : ReplayIsClosed
replay_is_closed b u = is-closed (replayed_rows (only_names b) u) u

pub replay_steps : ReplaySteps
replay_steps b u types σ κ both at stays = step-in-loops (into_replay (replayed_rows (only_names b) u) u) (replay_translates b u types) (replay_is_closed b u) σ κ both at stays

pub replay_raises : ReplayRaises
replay_raises b u types σ κ both e = raises-alike (into_replay (replayed_rows (only_names b) u) u) (replay_translates b u types) σ κ both e

pub replay_keeps_permit : ReplayKeepsPermit
replay_keeps_permit b u new σ κ (are_around n i w r r' f) = permit-there (replayed_rows (only_names b) u) u new f

-- ---- the start

pub own-settled : (hs : PHandlers) (l : PStmts) (V : Variables) → settled (control l (OwnBody hs None) [] V) ≡ control l (OwnBody hs None) [] V
own-settled hs no_stmt V = refl
own-settled hs (stmt_then s l) V = refl

-- a row on a floor where no accept body is open, and its image once frames that are over are left
begins : (a : Asked) (u : RewrittenUnit) (types : AgreeOnTypes a.programs) (n : ℕ) (input : List ℤ) (hs : PHandlers) (l l' : PStmts) (p' : Around) (o' : List PFrame) (V V' : Variables) →
    Replayed a u l l' → ReplayFloor (replayed_rows a u) u no_floor (OwnBody hs None) [] V p' o' V' →
    Alike (into_replay (replayed_rows a u) u) (task_in a.programs.original n input [] (control l (OwnBody hs None) [] V)) (task_in a.programs.made n input [] (settled (control l' p' o' V')))
begins a u types n input hs l l' p' o' V V' im f =
    let x = replayed_rows a u in
    subst (λ c. Alike (into_replay x u) (task_in a.programs.original n input [] c) (task_in a.programs.made n input [] (settled (control l' p' o' V')))) (own-settled hs l V)
    (of_settle (into_replay x u) (translates a u types) n input [] (up x (are-images a u) types u 0 (floor-row x (are-images a u) types u no_floor l l' im f)))

pub replay_starts : ReplayStarts
replay_starts b u s its V V' n input types (old_body l hs h old_no_handler) ext per = record {
  reached = _;
  reach = reaches_by _ _ refl refl (reaches_here _);
  alike = begins (only_names b) u types n input no_handler l (rewritten replay_rewriter l u) _ _ V V' (rows (only_names b) u h) (plain_body s V V' ext per);
}
replay_starts b u s its V V' n input types (old_body l hs h (old_handler ws l1 s1 rest h1 k1)) ext per =
    let x = replayed_rows (only_names b) u in
    let im : ImageHandlers x (handler_then (handler ws l1 s1) rest) (inside_handlers replay_rewriter (handler_then (handler ws l1 s1) rest) (after_stmts replay_rewriter l u)) =
    subst (λ v. ImageHandlers x (handler_then (handler ws l1 s1) rest) (inside_handlers replay_rewriter (handler_then (handler ws l1 s1) rest) v)) (sym (still_stmts l u)) (handler-rows (only_names b) u (old_handler ws l1 s1 rest h1 k1)) in
    record {
      reached = _;
      reach = reaches_by _ _ refl refl (reaches_by _ _ refl refl (reaches_here _));
      alike = begins (only_names b) u types n input (handler_then (handler ws l1 s1) rest) l (rewritten replay_rewriter l u) _ _ V V' (rows (only_names b) u h) (handled_body s _ _ _ _ V V' im ext per);
    }
