use Rattle.std.proofs.Common.{◌≡◌, [], Some, subst}
use Rattle.std.specs.Prelude.{IfOk, IfErr}
use Rattle.ada_tree.specs.PlainProgram.{PProgram, plain_program}
use Rattle.syn_event.specs.Numbering.{Numbering}
use Rattle.seq_file.specs.Files.{header_fault}
use Rattle.seq_file.specs.Stepping.{StandsBehind}
use Rattle.debug_judge.proofs.judged_lines.open_lines.Goals as goal

pub returns-clause-opened : goal.returns-clause-opened
returns-clause-opened c =
    let p : PProgram = plain_program c.program.result.now in
    subst (λ (q : PProgram). IfOk c.new.result (StandsBehind c.args.bytes.now c.args.links.now.numbers q.names [])) c.program.ensures
    (subst (λ (n : Numbering). IfOk c.new.result (StandsBehind c.args.bytes.now n p.names [])) c.numbers.ensures c.new.ensures.opened)

pub returns-clause-fault : goal.returns-clause-fault
returns-clause-fault c =
    let p : PProgram = plain_program c.program.result.now in
    subst (λ (q : PProgram). IfErr c.new.result (λ error. header_fault q.names c.args.links.now.numbers c.args.bytes.now ≡ Some error)) c.program.ensures
    (subst (λ (n : Numbering). IfErr c.new.result (λ error. header_fault p.names n c.args.bytes.now ≡ Some error)) c.numbers.ensures c.new.ensures.fault)
