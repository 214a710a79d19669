-- A task that asks comes with its permit into the branch that is taken, and around it all goes together as before.
use Rattle.std.proofs.Common.{ℕ, ℤ, pos, List, sym, subst}
use Rattle.event_machine.specs.declared.Event.{Event}
use Rattle.ada_tree.specs.PlainStmt.{SIf, PStmts, stmt_then}
use Rattle.ada_tree.specs.PlainProgram.{PProgram}
use Rattle.ada_value.specs.declared.values.Value.TheVariants.{Number}
use Rattle.task_model.specs.Frames.{control}
use Rattle.task_model.specs.Tasks.{Task, place_of, outer_of, vars_of, entered}
use Rattle.task_model.specs.Rendezvous.{resumed}
use Rattle.task_laws.specs.translation.Translations.{Translation}
use Rattle.task_laws.specs.translation.Controls.{task_in, AreAround, are_around}
use Rattle.task_laws.specs.translation.Floors.{IsTranslation}
use Rattle.task_laws.proofs.translation.Frames.{add-alike}
use Rattle.normal_laws.specs.runs.floors.Preludes.{Reaches}
use Rattle.normal_laws.specs.existence.Laws.{IsLegalOriginal}
use Rattle.replay_model.specs.Asking.{ask}
use Rattle.replay_model.specs.Names.{kind_text, argument_text, index_text, added_id}
use Rattle.replay_runs.specs.starts.Laws.{form_in}
use Rattle.replay_runs.specs.starts.Formals.{text_setting}
use Rattle.replay_runs.specs.translation.Floors.{HasPermit}
use Rattle.replay_runs.proofs.translation.Carried.{replay_translates, replay_keeps_permit}
use Rattle.replay_runs.specs.controls.Asking.{unit_of_task, with_next, permit_stored}
use Rattle.replay_runs.proofs.controls.Asking.{legal_asks_controller}
use Rattle.replay_runs.proofs.controls.permits.Branches.{nowhere, permits_decide}
use Rattle.replay_runs.specs.controls.translated.Laws.{form_and_text, unit_translation}
use Rattle.replay_runs.proofs.controls.translated.Tables.{legal_types_agree}
use Rattle.replay_runs.proofs.controls.translated.Objects.{permit_is_added}
use Rattle.replay_runs.specs.controls.images.Laws.{permitted_vars, past_if, LegalPermitsLead}

module _ (p : PProgram) (events : List Event) (h : IsLegalOriginal p) (t : ℕ) where
  abbrev x : Translation
  x = unit_translation p events t

  laws : IsTranslation x
  laws = replay_translates (form_and_text p events) (unit_of_task p t) (legal_types_agree p events h)

  -- a permit that comes back leaves all around as it is
  stored-around : (σ κ : Task) (kind argument : ℕ) (index : ℤ) (rest : PStmts) → AreAround x σ κ →
      AreAround x σ (task_in (text_setting p events) κ.number κ.input κ.output (control rest (place_of κ) (outer_of κ) (permit_stored p (vars_of κ) kind argument index)))
  stored-around σ κ kind argument index rest (are_around n i w r r' u) =
      let new = permit_is_added p events t in
      are_around n i w r rest
      (add-alike x laws (added_id (form_in p).program index_text) 0 (Number index) new.index
      (add-alike x laws (added_id (form_in p).program argument_text) 0 (Number (pos argument)) new.argument (add-alike x laws (added_id (form_in p).program kind_text) 0 (Number (pos kind)) new.kind u)))

  -- the variables of the permit are there
  permit-there : (σ κ : Task) → AreAround x σ κ → HasPermit (unit_of_task p t) (vars_of κ)
  permit-there σ κ around = replay_keeps_permit (form_and_text p events) (unit_of_task p t) (permit_is_added p events t) σ κ around

pub legal_permits_lead : LegalPermitsLead
legal_permits_lead p events h t l σ κ around a j kind argument index branch few_kind few_argument fits pending finals takes =
    let rest : PStmts = stmt_then (SIf a.arms a.others a.span) a.behind in
    let k : Task = with_next p events (stmt_then (ask (unit_of_task p t) a.span) rest) a.here in
    let there : AreAround (unit_translation p events t) σ k = subst (λ z. AreAround (unit_translation p events t) σ z) a.is around in
    let has : HasPermit (unit_of_task p t) a.here.vars = permit-there p events h t σ k there in
    record {
      reach = subst (λ (z : Task). Reaches (resumed j z) (entered branch a.behind (past_if p events t κ a (permitted_vars p events t κ a kind argument index)))) (sym a.is)
          (permits_decide p events t h l a.span a.arms a.others a.behind branch a.here j kind argument index has few_kind few_argument fits pending finals takes);
      holds = (legal_asks_controller nowhere p events t h l).holds a.here.vars kind argument index has;
      around = stored-around p events h t σ k kind argument index a.behind there;
    }
