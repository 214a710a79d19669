-- Each task beside main of a legal program's collecting text with abort statements runs what becomes of the body that it runs in the normal form.
use Rattle.std.proofs.Common.{◌≡◌, ℕ, suc, [], ◌∷◌, Some}
use Rattle.std.proofs.Common.{sym, ap, ◌∙◌}
use Rattle.ada_tree.specs.declared.naming.Span.{Span}
use Rattle.ada_tree.specs.PlainProgram.{PProgram}
use Rattle.syn_event.specs.declared.numbering.TaskInfo.{TaskInfo}
use Rattle.syn_event.specs.Numbering.{Numbering, task_at}
use Rattle.task_model.specs.Starting.{unit_of}
use Rattle.normal_model.specs.NormalTree.{main_unit}
use Rattle.normal_laws.specs.runs.forms.Normalisable.{made_for}
use Rattle.normal_laws.specs.existence.Laws.{IsLegalOriginal}
use Rattle.replay_structure.proofs.bodies.Bodies.{unit-at}
use Rattle.replay_runs.specs.starts.Laws.{form_in}
use Rattle.collect_model.specs.Teller.{task_of}
use Rattle.collect_runs.proofs.forms.Units.{legal_runs_told as plain_runs_told, body-of}
use Rattle.collect_model.specs.aborts.AbortTeller.{AbortTeller, told_in}
use Rattle.collect_model.specs.aborts.AbortTree.{recorder_body_told}
use Rattle.collect_runs.specs.aborts.starts.Texts.{abort_text, abort_setting}
use Rattle.collect_runs.proofs.aborts.forms.Numbers.{task-stays}
use Rattle.collect_runs.proofs.aborts.forms.Bodies.{told_unit, found, bodies-alone}

module _ (p : PProgram) (h : IsLegalOriginal p) where
  abbrev q : PProgram
  q = made_for p

  abbrev F : Numbering
  F = (form_in p).numbers

  abbrev x : AbortTeller
  x = told_in (main_unit (form_in p))

  -- ---- the unit

  -- It runs what becomes of its body.
  pub legal_runs_told : (t : ℕ) (info : TaskInfo) → task_at F (suc t) ≡ Some info →
      (s : Span) × (unit_of (abort_text p) (abort_setting p).numbers (suc t) ≡ told_unit x q.names info.unit s (unit_of q F (suc t))) ×
      (task_of F info.unit ≡ suc t)
  legal_runs_told t info at =
      let one = found x q.names info.unit q.decls (recorder_body_told x q ∷ []) (body-of p h t info at) in (
        one.0,
        unit-at (abort_text p) (abort_setting p).numbers t info (task-stays p h (suc t) info at)
            ∙ bodies-alone x q info.unit
            ∙ one.1
            ∙ ap (told_unit x q.names info.unit one.0) (sym (unit-at q F t info at)),
        (plain_runs_told p h t info at).2,
      )
