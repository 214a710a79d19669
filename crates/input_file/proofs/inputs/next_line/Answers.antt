use Rattle.std.proofs.Common.{◌≡◌, ◌∙◌, ap, sym, refl, Some, None, option_map}
use Rattle.input_file.specs.InputFiles.{input_of_line, input_fault}
use Rattle.input_file.specs.inner.Tables.{plain_line}
use Rattle.input_file.proofs.Reading.{line-case, inputs-read}
use Rattle.input_file.proofs.inputs.next_line.Goals as goal

pub lay-requires-clause-task : goal.lay-requires-clause-task
lay-requires-clause-task c = c.in-None.ensures.task refl

pub lay-requires-clause-few : goal.lay-requires-clause-few
lay-requires-clause-few c = c.in-None.ensures.few refl

pub returns-in-Some-line_fault-clause-fault : goal.returns-in-Some-line_fault-clause-fault
returns-in-Some-line_fault-clause-fault c = λ numbers lines is at ne.
    let (added, read, same) = line-case (input_of_line c.in-Some.text.now) (plain_line c.in-Some-found.line) (sym (ap (option_map plain_line) c.in-Some-found.is) ∙ c.in-Ok.ensures.is) in
    inputs-read numbers lines c.args.rest.now c.in-Some.text.now c.in-Some.behind.now added (sym c.in-Some.ensures.cut) read
    ∙ sym (c.in-Some-line_fault.ensures.is numbers lines added is at same)

pub returns-clause-read : goal.returns-clause-read
returns-clause-read c = λ numbers lines is at.
    let (added, read, same) = line-case (input_of_line c.in-Some.text.now) (plain_line c.in-Some-found.line) (sym (ap (option_map plain_line) c.in-Some-found.is) ∙ c.in-Ok.ensures.is) in
    let sound : input_fault numbers lines (Some added) ≡ None = sym (c.in-None.ensures.is numbers lines added is at same) in
    record {
      line = c.in-Some.text.now;
      added = added;
      cuts = sym c.in-Some.ensures.cut;
      writes = read;
      sound = sound;
      all = c.lay.ensures numbers lines added is same sound;
    }
