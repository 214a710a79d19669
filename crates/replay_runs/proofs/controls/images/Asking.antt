-- In the place of each synchronizing statement stand ASK and an if statement.
use Rattle.std.proofs.Common.{◌≡◌, pos, refl, sym, ap, subst}
use Rattle.event_machine.specs.declared.CallForm.TheVariants.{Plain}
use Rattle.event_machine.specs.Offers.{Calls}
use Rattle.ada_tree.specs.declared.naming.Span.{Span}
use Rattle.ada_tree.specs.PlainStmt.{PStmt, SIf, PStmts, no_stmt, stmt_then, PMaybe, present, PArms, accepting, PAlts, no_alt, alt_then}
use Rattle.task_model.specs.Frames.{in_front}
use Rattle.task_model.specs.Tasks.{Task}
use Rattle.task_laws.specs.translation.OldTexts.{Asked, only_names}
use Rattle.task_laws.specs.translation.Controls.{are_inside}
use Rattle.normal_model.specs.RewrittenUnit.{RewrittenUnit}
use Rattle.normal_model.specs.Making.{one}
use Rattle.normal_model.specs.Walk.{alts_leads, after_alt, after_alts, inside_alts, inside_maybe}
use Rattle.replay_model.specs.Asking.{ask, stop}
use Rattle.replay_model.specs.ReplayStmts.{replay_rewriter}
use Rattle.replay_model.specs.Waiting.{pauses_of, alternative_branches, else_branch, wait_image}
use Rattle.replay_structure.specs.spots.Places.{text_spots}
use Rattle.replay_runs.specs.starts.Laws.{form_in}
use Rattle.replay_runs.specs.translation.Rows.{Replayed, replayed_then}
use Rattle.replay_runs.specs.controls.Asking.{unit_of_task, Surroundings, with_next}
use Rattle.replay_runs.proofs.controls.Asking.{legal_asks_controller}
use Rattle.replay_runs.specs.controls.translated.Laws.{form_and_text}
use Rattle.replay_runs.specs.controls.images.Laws.{IsSynchronizing, plain_entry_call, conditional_call, timed_call, accept_statement, selective_wait, abort_of_one, ImagesAsk, LegalAskingOffers}
use Rattle.table_law.specs.States.{Offers}

-- a row that begins with ASK and an if statement
record Begins (u : RewrittenUnit) (r : PStmts) : Type 0 where
  place : Span
  arms : PArms
  others : PMaybe
  behind : PStmts
  is : r ≡ stmt_then (ask u place) (stmt_then (SIf arms others place) behind)

-- alternatives put nothing in front of their wait
no-lead : (x : PAlts) (u : RewrittenUnit) → alts_leads replay_rewriter x u ≡ no_stmt
no-lead no_alt u = refl
no-lead (alt_then x l) u = no-lead l (after_alt replay_rewriter x u)

begins : (a : Asked) (u : RewrittenUnit) {s : PStmt} {r r' : PStmts} → IsSynchronizing s → Replayed a u (stmt_then s r) r' → Begins u r'
begins a u (plain_entry_call c s) (replayed_then _ r r' old k) = record { place = _; arms = _; others = _; behind = _; is = refl }
begins a u (conditional_call c l o s) (replayed_then _ r r' old k) = record { place = _; arms = _; others = _; behind = _; is = refl }
begins a u (timed_call c l d o s) (replayed_then _ r r' old k) = record { place = _; arms = _; others = _; behind = _; is = refl }
begins a u (accept_statement (accepting h o) s) (replayed_then _ r r' old k) = record { place = _; arms = _; others = _; behind = _; is = refl }
begins a u (selective_wait x o s) (replayed_then _ r r' old k) =
    let alts : PAlts = inside_alts replay_rewriter x u in
    let otherwise : PMaybe = inside_maybe replay_rewriter o (after_alts replay_rewriter x u) in
    record {
      place = s;
      arms = alternative_branches u (pauses_of alts) (else_branch u s otherwise) alts 1;
      others = present (one (stop u s));
      behind = r';
      is = ap (λ l. in_front (in_front l (wait_image u s alts otherwise)) r') (no-lead x u);
    }
begins a u (abort_of_one x s) (replayed_then _ r r' old k) = record { place = _; arms = _; others = _; behind = _; is = refl }

pub images_ask : ImagesAsk
images_ask p events t σ κ s r (are_inside {p' = q} {o' = o} {V' = V} n i w l l' im u) e sync =
    let a = only_names (form_and_text p events) in
    let b = begins a (unit_of_task p t) sync (subst (λ m. Replayed a (unit_of_task p t) m l') e im) in
    let here : Surroundings = record { number = n; input = i; output = w; place = q; outer = o; vars = V } in
    record { span = b.place; arms = b.arms; others = b.others; behind = b.behind; here = here; is = ap (λ (m : PStmts). with_next p events m here) b.is }

pub legal_asking_offers : LegalAskingOffers
legal_asking_offers far p events h t l κ a =
    subst (λ (k : Task). Offers k (Calls Plain (text_spots far (form_in p)).go (pos t))) (sym a.is) ((legal_asks_controller far p events t h l).asks a.span (stmt_then (SIf a.arms a.others a.span) a.behind) a.here)
