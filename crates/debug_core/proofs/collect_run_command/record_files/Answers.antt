use Rattle.std.proofs.Common.{inl}
use Rattle.ada_tree.specs.PlainProgram.{plain_program}
use Rattle.syn_event.specs.declared.numbering.Mode.TheVariants.{Original}
use Rattle.debug_outcome.specs.Coming.{Never}
use Rattle.debug_outcome.specs.files.Giving.{given_as, inputs_in}
use Rattle.debug_outcome.proofs.Comings.{comes_more}
use Rattle.debug_core.specs.CollectRunMeaning.{CollectRunMeans, RecordsUnder}
use Rattle.debug_core.specs.LegalTexts.{IsLegalText}
use Rattle.debug_core.specs.inner.Started.{setup_of}
use Rattle.debug_core.proofs.Originals.{read_is_original}
use Rattle.debug_core.proofs.collect_run_command.record_files.Goals as goal

pub record_under-requires-clause-legal : goal.record_under-requires-clause-legal
record_under-requires-clause-legal g c =
    let legal : IsLegalText _ Original (plain_program c.in-Ok.start.legal.program) c.in-Ok.start.legal.types c.in-Ok.start.legal.numbers = c.in-Ok.ensures.start.is_legal in
    record {
      original = read_is_original c.args.found.now.start.text.items (plain_program c.in-Ok.start.legal.program) c.in-Ok.start.legal.types c.in-Ok.start.legal.numbers c.requires.0 legal;
      own = legal.legal;
    }

pub returns-in-Ok : goal.returns-in-Ok
returns-in-Ok g c =
    comes_more (RecordsUnder (setup_of c.in-Ok.start) c.in-Ok.start.legal.numbers (given_as c.args.found.now.choices) c.args.turns) (CollectRunMeans c.args.found.now.start.text.items (inputs_in c.args.found.now.start) (given_as c.args.found.now.choices) c.args.turns) Never Never
    (g.O.Sink.told c.args.out.now) (g.O.Sink.told c.record_under.new.out) (g.O.Sink.faults c.args.out.now) (g.O.Sink.faults c.record_under.new.out) c.record_under.result
    (λ o recorded. inl (record { setup = setup_of c.in-Ok.start; numbers = c.in-Ok.start.legal.numbers; is_start = c.in-Ok.ensures.start; recorded = recorded })) (λ o never. never)
    c.record_under.ensures
