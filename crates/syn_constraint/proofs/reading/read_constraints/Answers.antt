use Rattle.std.proofs.Common.{◌≡◌, ◌≢◌, sym, subst, ◌∙◌, [], length, inl, refl, rules, Some}
use Rattle.std.specs.Prelude.{option_and_then}
use Rattle.seq_file.specs.text_lines.LineFiles.{HasFirstFault}
use Rattle.seq_file.specs.text_lines.Lines.{first_line}
use Rattle.seq_file.proofs.text_lines.Filing.{some-by}
use Rattle.common_lemmas.proofs.Lists.{empty_by}
use Rattle.syn_constraint.specs.declared.errors.ConError.TheVariants.{BadLine}
use Rattle.syn_constraint.specs.Lines.{line_of_text}
use Rattle.syn_constraint.specs.Files.{constraint_format, fault_behind}
use Rattle.syn_constraint.specs.inner.Reading.{IsNextConstraint}
use Rattle.syn_constraint.proofs.Formatted.{ConstraintsReadTo, constraints-start, constraints-more, constraints-fault, constraints-end, constraints-unique, constraints-no_fault, constraints-one_fault}
use Rattle.syn_constraint.proofs.reading.read_constraints.Goals as goal

-- the first line is another
pub returns-in_default-clause-only_constraints : goal.returns-in_default-clause-only_constraints
returns-in_default-clause-only_constraints c = λ wanted h.
    absurd (constraints-no_fault c.args.numbers.now c.check_short.ensures c.args.bytes.now wanted (BadLine 1) h (inl (c.in_default.ensures, refl)))

pub returns-in_default-clause-only_fault : goal.returns-in_default-clause-only_fault
returns-in_default-clause-only_fault c = λ fault h ne.
    constraints-one_fault c.args.numbers.now c.check_short.ensures c.args.bytes.now (BadLine 1) fault (inl (c.in_default.ensures, refl)) h

pub loop-rest-init : goal.loop-rest-init
loop-rest-init c =
    subst (λ t. ConstraintsReadTo c.args.numbers.now c.args.bytes.now t c.in-Some.rest.now) (sym c.new-constraints.ensures.items)
    (constraints-start c.args.numbers.now c.check_short.ensures c.args.bytes.now c.in-Some.rest.now c.in-Some.ensures)

-- one more line
pub loop-rest-preserved : goal.loop-rest-preserved
loop-rest-preserved c =
    let items = c.loop-rest.constraints.items in
    let count : c.len.result ≡ length items = search rules in
    subst (λ t. ConstraintsReadTo c.args.numbers.now c.args.bytes.now t c.in-Ok.next.1.now) (sym c.in_ok-add.ensures.added)
    (constraints-more c.args.numbers.now c.check_short.ensures c.args.bytes.now c.loop-rest.rest.now c.in-Ok.next.1.now items c.in-Ok.next.0 c.loop-rest.invariant
    (subst (λ n. IsNextConstraint c.args.numbers.now n c.loop-rest.rest.now c.in-Ok.next.0 c.in-Ok.next.1.now) count c.in-Ok.ensures.read))

-- the next line is bad
pub returns-in-Err-clause-first_fault : goal.returns-in-Err-clause-first_fault
returns-in-Err-clause-first_fault c = λ ne.
    let count : c.len.result ≡ length c.loop-rest.constraints.items = search rules in
    let more : c.loop-rest.rest.now ≢ [] = some-by c.loop-rest.rest.now (sym c.is_empty.ensures ∙ c.loop-rest-test.true) in
    constraints-fault c.args.numbers.now c.args.bytes.now c.loop-rest.rest.now c.loop-rest.constraints.items c.in-Err.error c.loop-rest.invariant more
    (subst (λ n. fault_behind c.args.numbers.now n (option_and_then line_of_text (first_line c.loop-rest.rest.now)) ≡ Some c.in-Err.error) count c.in-Err.ensures.fault)

pub returns-in-Err-clause-only_constraints : goal.returns-in-Err-clause-only_constraints
returns-in-Err-clause-only_constraints c = λ wanted h.
    let count : c.len.result ≡ length c.loop-rest.constraints.items = search rules in
    let more : c.loop-rest.rest.now ≢ [] = some-by c.loop-rest.rest.now (sym c.is_empty.ensures ∙ c.loop-rest-test.true) in
    absurd (constraints-no_fault c.args.numbers.now c.check_short.ensures c.args.bytes.now wanted c.in-Err.error h
    (constraints-fault c.args.numbers.now c.args.bytes.now c.loop-rest.rest.now c.loop-rest.constraints.items c.in-Err.error c.loop-rest.invariant more
    (subst (λ n. fault_behind c.args.numbers.now n (option_and_then line_of_text (first_line c.loop-rest.rest.now)) ≡ Some c.in-Err.error) count c.in-Err.ensures.fault)))

pub returns-in-Err-clause-only_fault : goal.returns-in-Err-clause-only_fault
returns-in-Err-clause-only_fault c = λ fault h ne.
    let count : c.len.result ≡ length c.loop-rest.constraints.items = search rules in
    let more : c.loop-rest.rest.now ≢ [] = some-by c.loop-rest.rest.now (sym c.is_empty.ensures ∙ c.loop-rest-test.true) in
    constraints-one_fault c.args.numbers.now c.check_short.ensures c.args.bytes.now c.in-Err.error fault
    (constraints-fault c.args.numbers.now c.args.bytes.now c.loop-rest.rest.now c.loop-rest.constraints.items c.in-Err.error c.loop-rest.invariant more
    (subst (λ n. fault_behind c.args.numbers.now n (option_and_then line_of_text (first_line c.loop-rest.rest.now)) ≡ Some c.in-Err.error) count c.in-Err.ensures.fault))
    h

-- all lines are read
pub returns-clause-only_constraints : goal.returns-clause-only_constraints
returns-clause-only_constraints c = λ wanted h.
    constraints-unique c.args.numbers.now c.check_short.ensures c.args.bytes.now c.loop-rest.constraints.items wanted
    (constraints-end c.args.numbers.now c.args.bytes.now c.loop-rest.rest.now c.loop-rest.constraints.items c.loop-rest.invariant (empty_by c.loop-rest.rest.now (sym c.is_empty.ensures ∙ c.loop-rest-test.false))) h

pub returns-clause-only_fault : goal.returns-clause-only_fault
returns-clause-only_fault c = λ fault h.
    constraints-no_fault c.args.numbers.now c.check_short.ensures c.args.bytes.now c.loop-rest.constraints.items fault
    (constraints-end c.args.numbers.now c.args.bytes.now c.loop-rest.rest.now c.loop-rest.constraints.items c.loop-rest.invariant (empty_by c.loop-rest.rest.now (sym c.is_empty.ensures ∙ c.loop-rest-test.false))) h
