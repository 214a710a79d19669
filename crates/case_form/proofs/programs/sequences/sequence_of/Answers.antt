use Rattle.std.proofs.Common.{arith}
use Rattle.std.proofs.lemmas.Result.{IfOk-weaker}
use Rattle.std.specs.Prelude.{◌<◌, ◌-◌, ◌^◌, vec_len}
use Rattle.ada_tree.specs.PlainProgram.{plain_program}
use Rattle.seq_file.specs.Files.{SeqReads, NothingFollowsEnd}
use Rattle.seq_file.proofs.MainNames.{main_is_upper}
use Rattle.case_form.proofs.programs.sequences.sequence_of.Goals as goal

pub read_seq-requires-clause-name : goal.read_seq-requires-clause-name
read_seq-requires-clause-name c = main_is_upper (plain_program c.args.known.now.program) c.args.known.now.checked.types c.args.known.now.checked.numbers c.args.mode c.requires.placed c.requires.legal

pub returns-then-bytes-lt4294967295-clause-end : goal.returns-then-bytes-lt4294967295-clause-end
returns-then-bytes-lt4294967295-clause-end c =
    IfOk-weaker c.read_seq.result (λ found. SeqReads c.args.bytes.now c.args.known.now.checked.numbers c.args.known.now.program.names found.items) (λ found. NothingFollowsEnd found.items)
    (λ found reads. reads.fit.end) c.read_seq.ensures.reads

pub returns-then-bytes-lt4294967295-clause-few : goal.returns-then-bytes-lt4294967295-clause-few
returns-then-bytes-lt4294967295-clause-few c =
    IfOk-weaker c.read_seq.result (λ found. SeqReads c.args.bytes.now c.args.known.now.checked.numbers c.args.known.now.program.names found.items) (λ found. vec_len found < 2 ^ 32 - 1)
    (λ found reads. omega (arith, reads.fit.few)) c.read_seq.ensures.reads
