use Rattle.std.proofs.Common.{sym, subst, ◌∙◌, inl, inr}
use Rattle.seq_file.proofs.text_lines.Filing.{some-by}
use Rattle.input_file.specs.declared.errors.InputError.TheVariants.{BadLine}
use Rattle.input_file.specs.ChoiceFiles.{choice_format}
use Rattle.input_file.proofs.Reading.{ChoicesReadTo, other-header, choices-start, choices-more, choices-fault, choices-end, choices-unique, choices-no_fault, choices-one_fault, memory-cases}
use Rattle.common_lemmas.proofs.Lists.{empty_by}
use Rattle.input_file.proofs.choices.read_choices.Goals as goal

-- the first line is another
pub returns-in_default-clause-only_choices : goal.returns-in_default-clause-only_choices
returns-in_default-clause-only_choices c = λ wanted h.
    absurd (choices-no_fault c.args.bytes.now wanted (BadLine 1) h (other-header choice_format c.args.bytes.now c.in_default.ensures))

pub returns-in_default-clause-only_fault : goal.returns-in_default-clause-only_fault
returns-in_default-clause-only_fault c = λ fault h ne.
    choices-one_fault c.args.bytes.now (BadLine 1) fault (other-header choice_format c.args.bytes.now c.in_default.ensures) h

pub loop-rest-init : goal.loop-rest-init
loop-rest-init c =
    subst (λ t. ChoicesReadTo c.args.bytes.now t c.in-Some.rest.now 2) (sym c.new-choices.ensures.items) (choices-start c.args.bytes.now c.in-Some.rest.now c.in-Some.ensures)

-- one more line
pub loop-rest-preserved : goal.loop-rest-preserved
loop-rest-preserved c =
    choices-more c.args.bytes.now c.loop-rest.choices.items c.next_line.new.choices.items c.loop-rest.rest.now c.in-Ok.behind.now c.loop-rest.number c.loop-rest.invariant c.in-Ok.ensures.read

-- the next line is bad, or memory is wanted
pub returns-in-Err-clause-only_choices : goal.returns-in-Err-clause-only_choices
returns-in-Err-clause-only_choices c = λ wanted h. elim (memory-cases c.in-Err.error) [
  | inl memory ↦ memory
  | inr ne ↦ absurd (choices-no_fault c.args.bytes.now wanted c.in-Err.error h
      (choices-fault c.args.bytes.now c.loop-rest.choices.items c.loop-rest.rest.now c.loop-rest.number c.in-Err.error c.loop-rest.invariant (some-by c.loop-rest.rest.now (sym c.is_empty.ensures ∙ c.loop-rest-test.true))
      (λ lines all at. c.in-Err.ensures.fault lines all at ne)))
]

pub returns-in-Err-clause-only_fault : goal.returns-in-Err-clause-only_fault
returns-in-Err-clause-only_fault c = λ fault h ne.
    choices-one_fault c.args.bytes.now c.in-Err.error fault
    (choices-fault c.args.bytes.now c.loop-rest.choices.items c.loop-rest.rest.now c.loop-rest.number c.in-Err.error c.loop-rest.invariant (some-by c.loop-rest.rest.now (sym c.is_empty.ensures ∙ c.loop-rest-test.true))
    (λ lines all at. c.in-Err.ensures.fault lines all at ne))
    h

-- all lines are read
pub returns-clause-only_choices : goal.returns-clause-only_choices
returns-clause-only_choices c = λ wanted h.
    choices-unique c.args.bytes.now c.loop-rest.choices.items wanted
    (choices-end c.args.bytes.now c.loop-rest.choices.items c.loop-rest.rest.now c.loop-rest.number c.loop-rest.invariant (empty_by c.loop-rest.rest.now (sym c.is_empty.ensures ∙ c.loop-rest-test.false))) h

pub returns-clause-only_fault : goal.returns-clause-only_fault
returns-clause-only_fault c = λ fault h.
    choices-no_fault c.args.bytes.now c.loop-rest.choices.items fault
    (choices-end c.args.bytes.now c.loop-rest.choices.items c.loop-rest.rest.now c.loop-rest.number c.loop-rest.invariant (empty_by c.loop-rest.rest.now (sym c.is_empty.ensures ∙ c.loop-rest-test.false))) h
