use Rattle.std.proofs.Common.{◌≢◌, ◌≤◌, ℕ, List, length, subst, sym}
use Rattle.ada_tree.specs.PlainProgram.{plain_program}
use Rattle.event_machine.specs.declared.Event.{Event}
use Rattle.seq_file.specs.declared.errors.SeqError.TheVariants as error
use Rattle.seq_file.specs.Files.{HasFirstFault, SeqReads}
use Rattle.load_gen.specs.LoadTree.{load_names}
use Rattle.load_gen.specs.LoadNumbers.{load_numbers}
use Rattle.debug_outcome.specs.Coming.{Stops}
use Rattle.debug_outcome.specs.declared.stopping.Stop.{Stop}
use Rattle.debug_outcome.specs.files.Wanting.{sequence_limit}
use Rattle.debug_collect.specs.loads.LoadOutcomes.{LoadMeans, collected_file}
use Rattle.debug_collect.proofs.loads.Collecting.{as_load}
use Rattle.debug_collect.proofs.loads.Reading.{read_is_recorded, stops_unread}
use Rattle.debug_collect.proofs.loads.loading.load_file.Goals as goal

pub load_events-requires-clause-collected : goal.load_events-requires-clause-collected
load_events-requires-clause-collected c =
    let reads : SeqReads (collected_file c.args.n) (load_numbers c.args.n) (load_names c.args.n) c.in-Ok.events.items =
    as_load c.args.n (plain_program c.args.program.now) c.args.types.now c.args.numbers.now c.requires.load (λ q t m. SeqReads (collected_file c.args.n) m q.names c.in-Ok.events.items)
    (subst (λ (f : List ℕ). SeqReads f c.args.numbers.now (plain_program c.args.program.now).names c.in-Ok.events.items) c.requires.file c.in-Ok.ensures.reads) in
    read_is_recorded c.args.n c.requires.load.few c.requires.collected.0 c.deref.result.now c.requires.collected.1
    (subst (λ (events : List Event). SeqReads (collected_file c.args.n) (load_numbers c.args.n) (load_names c.args.n) events) (sym c.deref.ensures.value) reads)

pub returns-in-Err-clause-cause : goal.returns-in-Err-clause-cause
returns-in-Err-clause-cause c =
    let short : length (collected_file c.args.n) ≤ sequence_limit =
    subst (λ (f : List ℕ). length f ≤ sequence_limit) c.requires.file c.if-file-gt-SEQUENCE_LIMIT.false in
    let fault : c.in-Err.error ≢ error.Memory → HasFirstFault (collected_file c.args.n) (load_numbers c.args.n) (load_names c.args.n) c.in-Err.error =
    as_load c.args.n (plain_program c.args.program.now) c.args.types.now c.args.numbers.now c.requires.load
    (λ q t m. c.in-Err.error ≢ error.Memory → HasFirstFault (collected_file c.args.n) m q.names c.in-Err.error)
    (subst (λ (f : List ℕ). c.in-Err.error ≢ error.Memory → HasFirstFault f c.args.numbers.now (plain_program c.args.program.now).names c.in-Err.error) c.requires.file c.in-Err.ensures.first_fault) in
    subst (λ (s : Stop). Stops (LoadMeans c.args.n) s) (sym c.sequence_failure.ensures)
    (stops_unread c.args.n c.requires.load.few c.requires.collected.0 c.requires.collected.1 short c.in-Err.error fault)
