use Rattle.std.proofs.Common.{inl}
use Rattle.ada_tree.specs.PlainProgram.{PProgram, plain_program}
use Rattle.syn_event.specs.declared.numbering.Mode.TheVariants.{Original}
use Rattle.debug_outcome.specs.Coming.{Never}
use Rattle.debug_outcome.proofs.Comings.{comes_more}
use Rattle.debug_collect.specs.CollectOutcomes.{CollectsProgram}
use Rattle.debug_core.specs.LegalTexts.{IsLegalText}
use Rattle.debug_core.specs.CollectMeaning.{CollectMeans}
use Rattle.debug_core.proofs.Originals.{read_is_original}
use Rattle.debug_core.proofs.collect_command.collect_text.Goals as goal

pub write_collect-requires-clause-legal : goal.write_collect-requires-clause-legal
write_collect-requires-clause-legal g c =
    read_is_original c.args.text.now (plain_program c.in-Ok.legal.program) c.in-Ok.legal.types c.in-Ok.legal.numbers c.requires c.in-Ok.ensures.program

pub write_collect-requires-clause-own : goal.write_collect-requires-clause-own
write_collect-requires-clause-own g c =
    let p : PProgram = plain_program c.in-Ok.legal.program in
    let legal : IsLegalText _ Original p c.in-Ok.legal.types c.in-Ok.legal.numbers = c.in-Ok.ensures.program in
    legal.legal

pub returns-in-Ok : goal.returns-in-Ok
returns-in-Ok g c =
    let p : PProgram = plain_program c.in-Ok.legal.program in
    comes_more (CollectsProgram p c.in-Ok.legal.types c.in-Ok.legal.numbers) (CollectMeans c.args.text.now) Never Never (g.O.Sink.told c.args.out.now) (g.O.Sink.told c.write_collect.new.out) (g.O.Sink.faults c.args.out.now) (g.O.Sink.faults c.write_collect.new.out) c.write_collect.result
    (λ o collected. inl (record { program = p; types = c.in-Ok.legal.types; numbers = c.in-Ok.legal.numbers; is_legal = c.in-Ok.ensures.program; collected = collected })) (λ o never. never)
    c.write_collect.ensures
