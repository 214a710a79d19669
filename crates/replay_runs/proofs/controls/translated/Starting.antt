-- Each task of a replay text comes from its start to where it is alike the task of the normal form, and then takes the same local steps.
use Rattle.std.proofs.Common.{◌≡◌, ℕ, ℤ, zero, suc, ◌≤◌, List, [], slice_index_or, slice_get, option_map, Option, Some, None, refl, sym, ap, ◌∙◌, subst}
use Rattle.std.proofs.lemmas.Option.{none-some}
use Rattle.common_lemmas.proofs.Options.{some_same}
use Rattle.event_machine.specs.declared.Event.{Event}
use Rattle.ada_tree.specs.declared.naming.Span.{Span}
use Rattle.ada_tree.specs.PlainStmt.{PBody}
use Rattle.ada_tree.specs.PlainProgram.{PProgram}
use Rattle.ada_static_rules.specs.Refusals.{types_in}
use Rattle.syn_event.specs.declared.numbering.TaskInfo.{TaskInfo}
use Rattle.syn_event.specs.AddedNames.{task_info}
use Rattle.syn_event.specs.Numbering.{task_at}
use Rattle.ada_value.specs.Variables.{Variables}
use Rattle.task_model.specs.Setting.{Setting}
use Rattle.task_model.specs.Frames.{OwnBody, control}
use Rattle.task_model.specs.Steps.{block_stmts, block_handlers}
use Rattle.task_model.specs.Starting.{Unit, unit_of, started}
use Rattle.task_laws.proofs.statements.Carried.{exits_are_in_loops}
use Rattle.task_laws.specs.translation.Translations.{Programs}
use Rattle.task_laws.specs.translation.OldTexts.{only_names, OldBody}
use Rattle.task_laws.specs.translation.Controls.{task_in}
use Rattle.normal_laws.specs.runs.floors.NormalFloors.{Extends}
use Rattle.normal_model.specs.RewrittenUnit.{RewrittenUnit}
use Rattle.normal_model.specs.Names.{task_name}
use Rattle.normal_model.specs.NormalTree.{tasks_beside, unit_for}
use Rattle.normal_laws.proofs.structure.units.Tasks.{tasks_keep_numbers}
use Rattle.normal_laws.specs.runs.forms.Normalisable.{numbers_of, setting_for, made_for}
use Rattle.normal_laws.specs.existence.Laws.{IsLegalOriginal}
use Rattle.replay_model.specs.ReplayStmts.{replay_body}
use Rattle.replay_model.specs.ReplayTree.{last_task, script_of}
use Rattle.replay_model.specs.ReplayNumbers.{numbers_replayed}
use Rattle.replay_structure.proofs.legal.names.form_units.Entries.{tell, unit-numbered}
use Rattle.replay_structure.proofs.legal.names.form_units.OpForms.{at-place}
use Rattle.replay_runs.specs.starts.Laws.{form_in, text_in, start_before, start_after}
use Rattle.replay_runs.specs.starts.Formals.{form_setting, text_setting}
use Rattle.replay_runs.proofs.starts.Bodies.{legal_runs}
use Rattle.replay_runs.specs.translation.Floors.{HasPermit}
use Rattle.replay_runs.specs.translation.Laws.{StartAlike}
use Rattle.replay_runs.proofs.translation.Carried.{replay_starts, replay_steps}
use Rattle.replay_runs.specs.controls.Asking.{unit_of_task}
use Rattle.replay_runs.specs.controls.translated.Laws.{form_and_text, LegalStartsAlike, LegalStepsAlike}
use Rattle.replay_runs.proofs.controls.translated.Tables.{legal_types_agree}
use Rattle.replay_runs.proofs.controls.translated.Bodies.{bodies-old}
use Rattle.replay_runs.proofs.controls.translated.Objects.{beside-main, starts-with-permit}

module _ (p : PProgram) (events : List Event) (h : IsLegalOriginal p) where
  abbrev b : Programs
  b = form_and_text p events

  abbrev G : Setting
  G = setting_for p

  abbrev F : Setting
  F = form_in p

  -- a body and what it becomes, each at its start
  of-body : (t : ℕ) (s : Span) (its image : PBody) (V V' : Variables) (input : List ℤ) → OldBody (only_names b) its → Extends b V V' → HasPermit (unit_of_task p t) V' → image ≡ replay_body (unit_of_task p t) s its →
      StartAlike b (unit_of_task p t) (task_in b.original t input [] (control (block_stmts its) (OwnBody (block_handlers its) None) [] V)) (task_in b.made t input [] (control (block_stmts image) (OwnBody (block_handlers image) None) [] V'))
  of-body t s its image V V' input names ext per e =
      subst (λ x. StartAlike b (unit_of_task p t) (task_in b.original t input [] (control (block_stmts its) (OwnBody (block_handlers its) None) [] V)) (task_in b.made t input [] (control (block_stmts x) (OwnBody (block_handlers x) None) [] V')))
      (sym e) (replay_starts b (unit_of_task p t) s its V V' t input (legal_types_agree p events h) names ext per)

  -- the task of a number runs the body of its number
  unit-is : (t : ℕ) (info : TaskInfo) → task_at F.numbers (suc t) ≡ Some info → unit_for F info.unit ≡ unit_of_task p (suc t)
  unit-is t info at = by_place (slice_get (tasks_beside G) t) refl
    where
      kept : task_at F.numbers (suc t) ≡ option_map (λ (x : TaskInfo). task_info (made_for p).names (task_name G x)) (slice_get (tasks_beside G) t)
      kept = tasks_keep_numbers p (types_in p) (numbers_of p) (tell p h) t

      by_place : (o : Option TaskInfo) → slice_get (tasks_beside G) t ≡ o → unit_for F info.unit ≡ unit_of_task p (suc t)
      by_place None e = absurd (none-some info (sym (ap (option_map (λ (x : TaskInfo). task_info (made_for p).names (task_name G x))) e) ∙ sym kept ∙ at))
      by_place (Some x) e =
          let same : task_info (made_for p).names (task_name G x) ≡ info = some_same (sym (kept ∙ ap (option_map (λ (y : TaskInfo). task_info (made_for p).names (task_name G y))) e) ∙ at) in
          ap (λ (y : TaskInfo). unit_for F y.unit) (sym same)
          ∙ ap (unit_of_task p) (unit-numbered p h t x (at-place x (tasks_beside G) t e) e)

  starts-alike : (inputs : List (List ℤ)) (t : ℕ) → t ≤ last_task F.numbers → StartAlike b (unit_of_task p t) (started (form_setting p) inputs t) (started (text_setting p events) inputs t)
  starts-alike inputs zero l =
      let w = starts-with-permit p events h 0 l in
      of-body 0 F.program.name.span F.program.body (text_in p events).body (start_before p 0) (start_after p events 0) (slice_index_or inputs 0 []) (bodies-old p events h 0) w.extends w.permit refl
  starts-alike inputs (suc t) l =
      let w = starts-with-permit p events h (suc t) l in
      let x = beside-main p events h t l in
      let runs = (legal_runs p (script_of (numbers_of p) events) h).own t x.0 x.1 in
      let its : PBody = (unit_of F.program F.numbers (suc t)).body in
      let image : PBody = (unit_of (text_in p events) (numbers_replayed F) (suc t)).body in
      of-body (suc t) runs.0 its image (start_before p (suc t)) (start_after p events (suc t)) (slice_index_or inputs (suc t) []) (bodies-old p events h (suc t)) w.extends w.permit
      (ap (λ (y : Unit). y.body) runs.1 ∙ ap (λ (u : RewrittenUnit). replay_body u runs.0 its) (unit-is t x.0 x.1))

pub legal_starts_alike : LegalStartsAlike
legal_starts_alike p events h inputs t l = starts-alike p events h inputs t l

pub legal_steps_alike : LegalStepsAlike
legal_steps_alike p events h t σ κ both at leaves = replay_steps (form_and_text p events) (unit_of_task p t) (legal_types_agree p events h) σ κ both at (exits_are_in_loops σ leaves)
