use Rattle.std.proofs.Common.{◌≡◌, ◌≤◌, arith}
use Rattle.std.proofs.lemmas.Bool.Decides.{nat_tests}
use Rattle.ada_tree.specs.PlainProgram.{PProgram, plain_program}
use Rattle.ada_printer.specs.ProgramText.{program_text}
use Rattle.debug_outcome.proofs.Comings.{has_put, has_broken}
use Rattle.debug_outcome.specs.Printing.{printed_outcome}
use Rattle.debug_outcome.proofs.Lengths.{short_by}
use Rattle.debug_outcome.proofs.printing.write_text.Goals as goal

pub returns-in-Ok : goal.returns-in-Ok
returns-in-Ok g c =
    let p : PProgram = plain_program c.args.text.now in
    let less : c.text_len.result ≤ 33554432 = grind (arith, nat_tests) in
    has_put _ _ c.in-Ok.field-0 (λ o. o ≡ printed_outcome p) (program_text p) 0 (g.K.Sink.told c.args.out.now) (g.K.Sink.told c.print.new.out) (g.K.Sink.faults c.args.out.now) (g.K.Sink.faults c.print.new.out)
    (short_by p c.text_len.result c.text_len.ensures less) c.in-Ok.ensures.bytes c.in-Ok.ensures.cause

pub returns-in-Err : goal.returns-in-Err
returns-in-Err g c =
    let p : PProgram = plain_program c.args.text.now in
    let less : c.text_len.result ≤ 33554432 = grind (arith, nat_tests) in
    has_broken _ _ c.in-Err.field-0 (λ o. o ≡ printed_outcome p) (program_text p) 0 (g.K.Sink.told c.args.out.now) (g.K.Sink.told c.print.new.out) (g.K.Sink.faults c.args.out.now) (g.K.Sink.faults c.print.new.out)
    (short_by p c.text_len.result c.text_len.ensures less) c.in-Err.ensures.bytes c.in-Err.ensures.cause
