-- The replay text of each legal program replays each sequence that a file of it can hold.
use Rattle.std.proofs.Common.{◌≡◌, ℤ, suc, List, refl, sym, ◌∙◌, subst}
use Rattle.event_machine.specs.declared.Event.{Event}
use Rattle.ada_tree.specs.PlainProgram.{PProgram}
use Rattle.syn_event.specs.Numbering.{Numbering}
use Rattle.syn_event.specs.Origin.{back_of}
use Rattle.task_model.specs.Tasks.{Task}
use Rattle.run_laws.specs.imitation.Shown.{Opened}
use Rattle.run_laws.specs.replaying.Copies.{Spots}
use Rattle.normal_laws.specs.structure.placed.Example.{passing}
use Rattle.normal_laws.specs.runs.forms.Normalisable.{numbers_of}
use Rattle.normal_laws.specs.existence.Laws.{IsLegalOriginal}
use Rattle.replay_model.specs.ReplayTree.{last_task}
use Rattle.replay_structure.specs.checked.Example.{example_events}
use Rattle.replay_structure.proofs.spots.Ordered.{normal_is_in_order}
use Rattle.replay_structure.specs.legal.Laws.{text_for}
use Rattle.replay_structure.specs.legal.known.Laws.{AreKnown}
use Rattle.replay_structure.proofs.legal.names.kept_names.Instance as example
use Rattle.replay_runs.specs.starts.Laws.{form_in}
use Rattle.replay_runs.proofs.found.Legal as facts
use Rattle.replay_runs.specs.controls.meanings.Settings.{FormLaws, form_program, form_replayed}
use Rattle.replay_runs.proofs.controls.meanings.Formed.{forms_are_known}
use Rattle.replay_runs.specs.controls.replayed.Laws.{LegalTextsReplay, TextIsMet, starting_form}
use Rattle.replay_runs.specs.controls.replayed.Replaying.{Replays, starting}
use Rattle.replay_runs.proofs.controls.replayed.Callers.{have_callers}
use Rattle.replay_runs.proofs.controls.replayed.Numbers.{text_numbers, text_opened, text_setup, text-has-numbers, text-starts-so}
use Rattle.replay_runs.proofs.controls.replayed.Numbers as numbers
use Rattle.replay_runs.proofs.controls.replayed.Opened.{text-is-controlled}
use Rattle.replay_runs.proofs.controls.replayed.Origins.{form-tasks, legal_has_origins}
use Rattle.replay_runs.proofs.controls.replayed.Programs.{legal_forms_carry_over}
use Rattle.replay_runs.proofs.controls.replayed.Text.{text-replays}

module _ (p : PProgram) (s : List Event) (legal : IsLegalOriginal p) (known : AreKnown p s) where
  abbrev far : Spots
  far = forms_are_known.0

  module _ (inputs : List (List ℤ)) where
    forms : FormLaws far p inputs
    forms = forms_are_known.2 p inputs legal

    -- the original has main and the tasks up to the last
    size : (form_program p inputs).size ≡ suc (last_task (form_in p).numbers)
    size = numbers.form-tasks p inputs ∙ form-tasks p

    -- by the numbers that the rewriting gives it
    by-rewriting : Replays s (starting_form p inputs) (text_opened p s inputs) (back_of (text_numbers p))
    by-rewriting =
        text-replays far (form_in p) (normal_is_in_order p (facts.ordered p legal)) (legal_has_origins far p legal) (form-tasks p) (text_setup p s inputs) (form_replayed far p s inputs forms) refl size
        (have_callers p s legal known) (text-is-controlled far p s inputs legal known forms)

    -- by its own numbers
    by-text : Replays s (starting_form p inputs) (starting (text_for p s) inputs) (back_of (numbers_of (text_for p s)))
    by-text =
        subst (λ (o : Opened Task). Replays s (starting_form p inputs) o (back_of (numbers_of (text_for p s)))) (sym (text-starts-so p s inputs legal))
        (subst (λ (n : Numbering). Replays s (starting_form p inputs) (text_opened p s inputs) (back_of n)) (sym (text-has-numbers p s legal)) by-rewriting)

pub legal_texts_replay : LegalTextsReplay
legal_texts_replay p s legal known = legal_forms_carry_over p (text_for p s) s legal (by-text p s legal known)

pub text_is_met : TextIsMet
text_is_met = legal_texts_replay passing example_events example.is_met.0 example.is_met.1
