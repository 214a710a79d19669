-- What is known of the normal form of a legal program, as the law of replaying takes it.
use Rattle.std.proofs.Common.{◌≡◌, ℤ, suc, ◌<◌, List, [], length, sym, ◌∙◌, subst, arith}
use Rattle.event_machine.specs.Programs.{numbered, IsOpening}
use Rattle.ada_tree.specs.PlainProgram.{PProgram}
use Rattle.syn_event.specs.Numbering.{owner_of}
use Rattle.task_model.specs.Setting.{Setting}
use Rattle.task_model.specs.Laws.{IsProper}
use Rattle.task_model.proofs.Lawful.{lawful}
use Rattle.task_model.proofs.Following as following
use Rattle.task_laws.proofs.invariants.Beginning as beginning
use Rattle.normal_laws.specs.structure.placed.Example.{passing}
use Rattle.normal_laws.specs.existence.Laws.{IsLegalOriginal}
use Rattle.normal_laws.proofs.existence.Joined.{legal_is_normal, legal_is_calm}
use Rattle.replay_runs.proofs.found.Legal as facts
use Rattle.run_laws.specs.replaying.Copies.{Spots, IsNumbered, HasOwners}
use Rattle.run_laws.proofs.replaying.Twins.{numbering, numbering_numbers}
use Rattle.run_laws.proofs.telling.Knowing.{knows_by_events}
use Rattle.replay_model.specs.ReplayTree.{last_task}
use Rattle.replay_model.specs.ReplayNumbers.{numbers_replayed}
use Rattle.replay_structure.specs.spots.Places.{counts, text_spots}
use Rattle.replay_structure.proofs.spots.Sorted.{spots_are_numbered}
use Rattle.replay_structure.proofs.spots.Placed.{spots_have_owners}
use Rattle.replay_structure.proofs.spots.Ordered.{normal_is_in_order}
use Rattle.replay_structure.proofs.legal.Examples as examples
use Rattle.replay_runs.specs.starts.Laws.{form_in}
use Rattle.replay_runs.proofs.controls.Offers.{as-many-numbers}
use Rattle.replay_runs.proofs.controls.meanings.Naming.{owner-below, aborted-below}
use Rattle.replay_runs.proofs.controls.meanings.Reading.{forms_keep_reading}
use Rattle.replay_runs.specs.controls.meanings.Settings.{form_setup, form_program, form_opening, FormLaws, LegalFormLaws, LegalFormsAreKnown, IsMet}

module _ (far : Spots) (p : PProgram) (inputs : List (List ℤ)) (h : IsLegalOriginal p) where
  -- there are as many tasks as the last one's number tells, and main
  long : (form_program p inputs).size ≡ length (form_in p).numbers.tasks
  long = beginning.length_first (form_setup p inputs) (form_in p).numbers (length (form_in p).numbers.tasks)

  size : (form_program p inputs).size ≡ suc (last_task (form_in p).numbers)
  size = long ∙ (legal_is_normal p h inputs).size ∙ as-many-numbers p h

  opens_so : IsOpening (numbered (form_program p inputs)) (form_opening p inputs)
  opens_so =
      let o = following.opens (form_setup p inputs) (form_in p).numbers in
      record { line = o.line; ended = o.ended; live = o.live; callers = o.callers; beyond = o.beyond }

  owners : HasOwners (owner_of (form_in p).numbers) (form_program p inputs).size (text_spots far (form_in p)) (owner_of (numbers_replayed (form_in p)))
  owners = subst (λ n. HasOwners (owner_of (form_in p).numbers) n (text_spots far (form_in p)) (owner_of (numbers_replayed (form_in p)))) (sym size)
      (spots_have_owners far (form_in p) (normal_is_in_order p (facts.ordered p h)))

  pub form_laws : IsNumbered far → FormLaws far p inputs
  form_laws numbered = record {
    lawful = lawful;
    main = let e = size in omega (arith, e);
    calls_tasks = λ l e i proper calm calls. subst (λ n. owner_of (form_in p).numbers e < n) (sym size) (owner-below (form_in p).numbers (normal_is_in_order p (facts.ordered p h)) e);
    aborts_tasks = λ l v proper calm names. subst (λ n. v < n) (sym long) (subst (λ (g : Setting). v < length g.numbers.tasks) calm.setting
        (aborted-below l v (let e = size in let o = long in subst (λ (g : Setting). 0 < length g.numbers.tasks) (sym calm.setting) (let n : 0 < length (form_in p).numbers.tasks = omega (arith, e, o) in n)) names));
    opens_so = opens_so;
    proper = following.proper (form_setup p inputs) (form_in p).numbers;
    calm = λ moves made goes t l live. record { calm = (legal_is_calm p h inputs).after_moves moves made t live; setting = forms_keep_reading p inputs moves made t l };
    numbers = spots_are_numbered far numbered (counts (form_in p).numbers (last_task (form_in p).numbers) 1);
    owners = owners;
    knows = knows_by_events (form_program p inputs) IsProper lawful (form_opening p inputs) opens_so (following.proper (form_setup p inputs) (form_in p).numbers);
  }

pub legal_form_laws : LegalFormLaws
legal_form_laws far p inputs numbered h = form_laws far p inputs h numbered

pub forms_are_known : LegalFormsAreKnown
forms_are_known = (numbering, numbering_numbers, λ p inputs h. form_laws numbering p inputs h numbering_numbers)

pub is_met : IsMet
is_met = (examples.is_met.0, (numbering, form_laws numbering passing [] examples.is_met.0 numbering_numbers))
