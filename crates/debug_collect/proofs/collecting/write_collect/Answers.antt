use Rattle.std.proofs.Common.{◌≡◌}
use Rattle.ada_tree.specs.PlainProgram.{PProgram, plain_program}
use Rattle.debug_outcome.specs.Coming.{Never}
use Rattle.debug_outcome.specs.Printing.{printed_outcome}
use Rattle.debug_outcome.proofs.Comings.{comes_more}
use Rattle.debug_collect.specs.CollectOutcomes.{CollectsProgram}
use Rattle.debug_collect.proofs.Keeping.{text_called}
use Rattle.debug_collect.proofs.collecting.write_collect.Goals as goal

pub returns-in-Ok : goal.returns-in-Ok
returns-in-Ok g c =
    let p : PProgram = plain_program c.args.program.now in
    comes_more (λ o. o ≡ printed_outcome (plain_program c.in-Ok.text)) (CollectsProgram p c.args.types.now c.args.numbers.now) Never Never
    (g.K.Sink.told c.args.out.now) (g.K.Sink.told c.write_text.new.out) (g.K.Sink.faults c.args.out.now) (g.K.Sink.faults c.write_text.new.out) c.write_text.result
    (λ o is. text_called p c.requires.legal c.args.types.now c.args.numbers.now c.requires.own (plain_program c.in-Ok.text) c.in-Ok.ensures.text o is) (λ o never. never)
    c.write_text.ensures
