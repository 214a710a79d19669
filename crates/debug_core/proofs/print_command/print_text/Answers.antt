use Rattle.std.proofs.Common.{refl, inl}
use Rattle.ada_tree.specs.PlainProgram.{PProgram, plain_program}
use Rattle.ada_printer.specs.ProgramText.{program_text}
use Rattle.debug_core.specs.PrintMeaning.{PrintMeans}
use Rattle.debug_outcome.proofs.Comings.{has_put, has_broken}
use Rattle.debug_core.proofs.ReadingBack.{printed_back}
use Rattle.debug_core.proofs.print_command.print_text.Goals as goal

pub returns-in-Ok-print : goal.returns-in-Ok-print
returns-in-Ok-print g c =
    let p : PProgram = plain_program c.in-Ok.program in
    has_put _ _ c.in-Ok-print.field-0 (PrintMeans c.args.text.now) (program_text p) 0 (g.O.Sink.told c.args.out.now) (g.O.Sink.told c.print.new.out) (g.O.Sink.faults c.args.out.now) (g.O.Sink.faults c.print.new.out)
    (inl (record { program = p; is_read = c.in-Ok.ensures.program; read_back = printed_back c.args.text.now p c.in-Ok.ensures.program; is = refl })) c.in-Ok-print.ensures.bytes c.in-Ok-print.ensures.cause

pub returns-in-Ok : goal.returns-in-Ok
returns-in-Ok g c =
    let p : PProgram = plain_program c.in-Ok.program in
    has_broken _ _ c.in-Err-print.field-0 (PrintMeans c.args.text.now) (program_text p) 0 (g.O.Sink.told c.args.out.now) (g.O.Sink.told c.print.new.out) (g.O.Sink.faults c.args.out.now) (g.O.Sink.faults c.print.new.out)
    (inl (record { program = p; is_read = c.in-Ok.ensures.program; read_back = printed_back c.args.text.now p c.in-Ok.ensures.program; is = refl })) c.in-Err-print.ensures.bytes c.in-Err-print.ensures.cause
