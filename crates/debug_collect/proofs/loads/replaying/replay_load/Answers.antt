use Rattle.std.proofs.Common.{IfOk, sym, subst}
use Rattle.ada_tree.specs.PlainProgram.{PProgram, plain_program}
use Rattle.debug_collect.specs.loads.inner.Loaded.{IsRunOf}
use Rattle.debug_collect.proofs.loads.Ran.{never_many, text_made}
use Rattle.debug_collect.proofs.loads.ReplayTexts.{IsLegalText}
use Rattle.debug_collect.proofs.loads.replaying.replay_load.Goals as goal

pub run_text-requires : goal.run_text-requires
run_text-requires c =
    subst IsLegalText (text_made (plain_program c.args.program.now) c.args.types.now c.args.numbers.now c.args.events.now (plain_program c.in-Ok.text) c.requires.few c.in-Ok.ensures.text) c.requires.legal

pub returns-in-Ok : goal.returns-in-Ok
returns-in-Ok c =
    subst (λ (q : PProgram). IfOk c.run_text.result (IsRunOf q c.args.seed))
    (sym (text_made (plain_program c.args.program.now) c.args.types.now c.args.numbers.now c.args.events.now (plain_program c.in-Ok.text) c.requires.few c.in-Ok.ensures.text)) c.run_text.ensures

pub unreachable-requires : goal.unreachable-requires
unreachable-requires c = never_many c.args.events.now c.requires.few c.in-Err-TooManyEvents.field-0 c.in-Err-TooManyEvents.field-0-0 c.in-Err-TooManyEvents.field-0-is c.in-Err-TooManyEvents.ensures.cause
