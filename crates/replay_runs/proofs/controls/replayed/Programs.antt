-- What replays a sequence of the normal form of a legal program replays it of the program.
use Rattle.std.proofs.Common.{◌≡◌, ℤ, List, length, sym, ◌∙◌, subst}
use Rattle.ada_tree.specs.PlainProgram.{PProgram}
use Rattle.ada_static_rules.specs.Refusals.{types_in}
use Rattle.syn_event.specs.Origin.{back_of}
use Rattle.task_model.specs.Machine.{ProgramWithInputs}
use Rattle.task_laws.proofs.invariants.Beginning.{length_first}
use Rattle.normal_laws.specs.runs.forms.Normalisable.{numbers_of, made_for}
use Rattle.normal_laws.specs.structure.units.Laws.{numbers_made}
use Rattle.normal_laws.specs.existence.Laws.{IsLegalOriginal}
use Rattle.normal_laws.proofs.existence.Joined.{legal_is_normal, legal_shows_same}
use Rattle.replay_runs.specs.controls.replayed.Replaying.{Replays, starting}
use Rattle.replay_runs.specs.controls.replayed.Laws.{starting_form, LegalFormsCarryOver}
use Rattle.replay_runs.proofs.controls.replayed.Carried.{replays_carry_over}
use Rattle.replay_runs.proofs.controls.replayed.Inputs.{inputs_below_count}

-- the program and its normal form have as many tasks
same-size : (p : PProgram) → IsLegalOriginal p → (inputs : List (List ℤ)) → (starting p inputs).program.size ≡ (starting_form p inputs).program.size
same-size p legal inputs =
    let one : ProgramWithInputs = record { program = p; types = types_in p; inputs = inputs } in
    let two : ProgramWithInputs = record { program = made_for p; types = types_in (made_for p); inputs = inputs } in
    length_first one (numbers_of p) (length (numbers_of p).tasks)
    ∙ sym (legal_is_normal p legal inputs).size
    ∙ sym (length_first two (numbers_made p (types_in p) (numbers_of p)) (length (numbers_made p (types_in p) (numbers_of p)).tasks))

pub legal_forms_carry_over : LegalFormsCarryOver
legal_forms_carry_over p q s legal h inputs others agree =
    subst (λ o. Replays s o (starting q others) (back_of (numbers_of q))) (sym (inputs_below_count p inputs others agree))
    (replays_carry_over s (starting p others) (starting_form p others) (starting q others) (back_of (numbers_of q)) (same-size p legal others) (legal_shows_same p legal others) (h others))
