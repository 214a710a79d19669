use Rattle.std.proofs.Common.{◌^◌, ◌<◌, sym, subst, ◌∙◌, [], inl, inr, length}
use Rattle.seq_file.proofs.text_lines.Filing.{some-by}
use Rattle.input_file.specs.declared.errors.InputError.TheVariants.{BadLine}
use Rattle.input_file.specs.InputFiles.{input_format}
use Rattle.input_file.specs.inner.NextLines.{IsNextInputs}
use Rattle.input_file.specs.inner.Tables.{IsTableOf}
use Rattle.input_file.proofs.Reading.{cut-shorter, other-header, inputs-start, inputs-more, inputs-fault, inputs-end, inputs-unique, inputs-no_fault, inputs-one_fault, memory-cases}
use Rattle.common_lemmas.proofs.Lists.{empty_by}
use Rattle.input_file.proofs.inputs.read_inputs.Goals as goal

-- the first line is another
pub returns-in_default-clause-only_inputs : goal.returns-in_default-clause-only_inputs
returns-in_default-clause-only_inputs c = λ wanted h.
    let short : length c.args.numbers.now.tasks < 2 ^ 32 = subst (λ n. n < 2 ^ 32) c.task_count-tasks.ensures.is c.task_count-tasks.ensures.small in
    absurd (inputs-no_fault c.args.numbers.now short c.args.bytes.now wanted (BadLine 1) h (other-header (input_format c.args.numbers.now) c.args.bytes.now c.in_default.ensures))

pub returns-in_default-clause-only_fault : goal.returns-in_default-clause-only_fault
returns-in_default-clause-only_fault c = λ fault h ne.
    let short : length c.args.numbers.now.tasks < 2 ^ 32 = subst (λ n. n < 2 ^ 32) c.task_count-tasks.ensures.is c.task_count-tasks.ensures.small in
    inputs-one_fault c.args.numbers.now short c.args.bytes.now (BadLine 1) fault (other-header (input_format c.args.numbers.now) c.args.bytes.now c.in_default.ensures) h

pub loop-rest-init : goal.loop-rest-init
loop-rest-init c =
    let short : length c.args.numbers.now.tasks < 2 ^ 32 = subst (λ n. n < 2 ^ 32) c.task_count-tasks.ensures.is c.task_count-tasks.ensures.small in
    inputs-start c.args.numbers.now short c.args.bytes.now c.in-Some.rest.now c.in-Ok.table c.in-Some.ensures
    (subst (λ n. IsTableOf n [] c.in-Ok.table) c.task_count-tasks.ensures.is c.in-Ok.ensures.made)

-- one more line
pub loop-rest-preserved : goal.loop-rest-preserved
loop-rest-preserved c =
    let short : length c.args.numbers.now.tasks < 2 ^ 32 = subst (λ n. n < 2 ^ 32) c.task_count-tasks.ensures.is c.task_count-tasks.ensures.small in
    inputs-more c.args.numbers.now short c.args.bytes.now c.loop-rest.rest.now c.in-Ok-next_line.behind.now c.loop-rest.table c.next_line.new.table c.loop-rest.number c.loop-rest.invariant
    (c.in-Ok-next_line.ensures.read c.args.numbers.now)

pub loop-rest-smaller : goal.loop-rest-smaller
loop-rest-smaller c =
    let next : IsNextInputs c.args.numbers.now c.loop-rest.invariant.lines c.loop-rest.rest.now c.next_line.new.table c.in-Ok-next_line.behind.now =
    c.in-Ok-next_line.ensures.read c.args.numbers.now c.loop-rest.invariant.lines c.loop-rest.invariant.all c.loop-rest.invariant.next in
    cut-shorter 10 c.loop-rest.rest.now next.line c.in-Ok-next_line.behind.now next.cuts

-- the next line is bad, or memory is wanted
pub returns-in-Err-next_line-clause-only_inputs : goal.returns-in-Err-next_line-clause-only_inputs
returns-in-Err-next_line-clause-only_inputs c = λ wanted h.
    let short : length c.args.numbers.now.tasks < 2 ^ 32 = subst (λ n. n < 2 ^ 32) c.task_count-tasks.ensures.is c.task_count-tasks.ensures.small in
    elim (memory-cases c.in-Err-next_line.error) [
      | inl memory ↦ memory
      | inr ne ↦ absurd (inputs-no_fault c.args.numbers.now short c.args.bytes.now wanted c.in-Err-next_line.error h
          (inputs-fault c.args.numbers.now c.args.bytes.now c.loop-rest.rest.now c.loop-rest.table c.loop-rest.number c.in-Err-next_line.error c.loop-rest.invariant
          (some-by c.loop-rest.rest.now (sym c.is_empty.ensures ∙ c.loop-rest-test.true)) (λ lines is at. c.in-Err-next_line.ensures.fault c.args.numbers.now lines is at ne)))
    ]

pub returns-in-Err-next_line-clause-only_fault : goal.returns-in-Err-next_line-clause-only_fault
returns-in-Err-next_line-clause-only_fault c = λ fault h ne.
    let short : length c.args.numbers.now.tasks < 2 ^ 32 = subst (λ n. n < 2 ^ 32) c.task_count-tasks.ensures.is c.task_count-tasks.ensures.small in
    inputs-one_fault c.args.numbers.now short c.args.bytes.now c.in-Err-next_line.error fault
    (inputs-fault c.args.numbers.now c.args.bytes.now c.loop-rest.rest.now c.loop-rest.table c.loop-rest.number c.in-Err-next_line.error c.loop-rest.invariant
    (some-by c.loop-rest.rest.now (sym c.is_empty.ensures ∙ c.loop-rest-test.true)) (λ lines is at. c.in-Err-next_line.ensures.fault c.args.numbers.now lines is at ne))
    h

-- all lines are read
pub returns-clause-only_inputs : goal.returns-clause-only_inputs
returns-clause-only_inputs c = λ wanted h.
    let short : length c.args.numbers.now.tasks < 2 ^ 32 = subst (λ n. n < 2 ^ 32) c.task_count-tasks.ensures.is c.task_count-tasks.ensures.small in
    rw c.lists_of.ensures
    (inputs-unique c.args.numbers.now short c.args.bytes.now _ wanted
    (inputs-end c.args.numbers.now c.args.bytes.now c.loop-rest.rest.now c.loop-rest.table c.loop-rest.number c.loop-rest.invariant (empty_by c.loop-rest.rest.now (sym c.is_empty.ensures ∙ c.loop-rest-test.false))) h)

pub returns-clause-only_fault : goal.returns-clause-only_fault
returns-clause-only_fault c = λ fault h.
    let short : length c.args.numbers.now.tasks < 2 ^ 32 = subst (λ n. n < 2 ^ 32) c.task_count-tasks.ensures.is c.task_count-tasks.ensures.small in
    inputs-no_fault c.args.numbers.now short c.args.bytes.now _ fault
    (inputs-end c.args.numbers.now c.args.bytes.now c.loop-rest.rest.now c.loop-rest.table c.loop-rest.number c.loop-rest.invariant (empty_by c.loop-rest.rest.now (sym c.is_empty.ensures ∙ c.loop-rest-test.false))) h
