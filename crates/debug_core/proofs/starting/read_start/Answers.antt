-- A program that meets the rules, and a bad file of inputs, give no start.
use Rattle.std.proofs.Common.{ℕ, List, inr, subst}
use Rattle.ada_tree.specs.PlainProgram.{PProgram, plain_program}
use Rattle.debug_outcome.specs.files.Giving.{inputs_in}
use Rattle.debug_outcome.proofs.Comings.{stops_more}
use Rattle.debug_core.specs.InputTexts.{AreBadInputs}
use Rattle.debug_core.specs.LegalTexts.{IsLegalText}
use Rattle.debug_core.specs.Starts.{IsRefusedStart}
use Rattle.debug_core.proofs.starting.read_start.Goals as goal

pub returns-clause-cause : goal.returns-clause-cause
returns-clause-cause c =
    let p : PProgram = plain_program c.in-Ok.legal.program in
    let legal : IsLegalText c.args.files.now.text.items c.args.mode p c.in-Ok.legal.types c.in-Ok.legal.numbers = subst (λ (text : List ℕ). IsLegalText text c.args.mode p c.in-Ok.legal.types c.in-Ok.legal.numbers) c.as_slice.ensures.value c.in-Ok.ensures.program in
    stops_more (AreBadInputs c.in-Ok.legal.numbers (inputs_in c.args.files.now)) (IsRefusedStart c.args.files.now.text.items c.args.mode (inputs_in c.args.files.now)) c.in-Err-inputs_of.stop
    (λ o bad. inr (record { program = p; types = c.in-Ok.legal.types; numbers = c.in-Ok.legal.numbers; is_legal = legal; are_bad = bad }))
    c.in-Err-inputs_of.ensures.cause
