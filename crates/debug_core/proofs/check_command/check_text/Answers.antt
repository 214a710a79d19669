use Rattle.std.proofs.Common.{refl, inl}
use Rattle.ada_tree.specs.PlainProgram.{PProgram, plain_program}
use Rattle.debug_run.specs.texts.CheckText.{check_text}
use Rattle.debug_core.specs.CheckMeaning.{CheckMeans}
use Rattle.debug_outcome.proofs.Comings.{has_put, has_broken}
use Rattle.debug_core.proofs.check_command.check_text.Goals as goal

pub returns-in-Ok-put_numbers : goal.returns-in-Ok-put_numbers
returns-in-Ok-put_numbers g c =
    let p : PProgram = plain_program c.in-Ok.legal.program in
    has_put _ _ c.in-Ok-put_numbers.field-0 (CheckMeans c.args.text.now) (check_text p.names c.in-Ok.legal.numbers) 0 (g.O.Sink.told c.args.out.now) (g.O.Sink.told c.put_numbers.new.out) (g.O.Sink.faults c.args.out.now) (g.O.Sink.faults c.put_numbers.new.out)
    (inl (record { program = p; types = c.in-Ok.legal.types; numbers = c.in-Ok.legal.numbers; is_legal = c.in-Ok.ensures.program; is = refl })) c.in-Ok-put_numbers.ensures.bytes c.in-Ok-put_numbers.ensures.cause

pub returns-in-Ok : goal.returns-in-Ok
returns-in-Ok g c =
    let p : PProgram = plain_program c.in-Ok.legal.program in
    has_broken _ _ c.in-Err-put_numbers.field-0 (CheckMeans c.args.text.now) (check_text p.names c.in-Ok.legal.numbers) 0 (g.O.Sink.told c.args.out.now) (g.O.Sink.told c.put_numbers.new.out) (g.O.Sink.faults c.args.out.now) (g.O.Sink.faults c.put_numbers.new.out)
    (inl (record { program = p; types = c.in-Ok.legal.types; numbers = c.in-Ok.legal.numbers; is_legal = c.in-Ok.ensures.program; is = refl })) c.in-Err-put_numbers.ensures.bytes c.in-Err-put_numbers.ensures.cause
