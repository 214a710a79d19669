use Rattle.std.proofs.Common.{subst, sym}
use Rattle.ada_tree.specs.PlainProgram.{plain_program}
use Rattle.debug_outcome.specs.Coming.{Stops}
use Rattle.debug_outcome.specs.declared.stopping.Stop.{Stop}
use Rattle.debug_core.specs.LegalTexts.{IsRefusedText}
use Rattle.debug_core.proofs.Refusing.{stops_illegal}
use Rattle.debug_core.proofs.reading.read_legal.Goals as goal

pub returns-clause-cause : goal.returns-clause-cause
returns-clause-cause c =
    subst (λ (stop : Stop). Stops (IsRefusedText c.args.text.now c.args.mode) stop) (sym c.rule_failure.ensures)
    (stops_illegal (plain_program c.in-Ok.program) c.args.mode c.args.text.now c.in-Err-check.error c.in-Ok.ensures.program c.in-Err-check.ensures.err)
