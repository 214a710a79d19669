use Rattle.std.proofs.Common.{◌≡◌, ◌≤◌, ◌<◌, sym, arith, rules, length}
use Rattle.input_file.specs.ChoiceFiles.{most_choices, choices_of_line}
use Rattle.input_file.proofs.Adding.{line-read, good-is}
use Rattle.input_file.proofs.Reading.{choices-many, choices-next}
use Rattle.input_file.proofs.choices.next_line.Goals as goal

pub returns-then-len-gt-MOST_CHOICES-clause-fault : goal.returns-then-len-gt-MOST_CHOICES-clause-fault
returns-then-len-gt-MOST_CHOICES-clause-fault c = λ lines all at ne.
    let old = c.args.choices.now.items in
    let new = c.add_line.new.choices.items in
    let line = c.in-Some.line.now in
    let count : c.len.result ≡ length new = search rules in
    let many : most_choices < length new = omega (arith, count, c.if-len-gt-MOST_CHOICES.true) in
    let (added, read, joined) = line-read old new (choices_of_line line) (good-is c.in-Ok.good _ new c.if-not-good.false c.in-Ok.ensures.is) in
    choices-many lines c.args.rest.now line c.in-Some.behind.now old new added (sym c.in-Some.ensures.cut) read joined all many

pub returns-clause-read : goal.returns-clause-read
returns-clause-read c = λ lines all at.
    let old = c.args.choices.now.items in
    let new = c.add_line.new.choices.items in
    let line = c.in-Some.line.now in
    let count : c.len.result ≡ length new = search rules in
    let few : length new ≤ most_choices = omega (arith, count, c.if-len-gt-MOST_CHOICES.false) in
    let (added, read, joined) = line-read old new (choices_of_line line) (good-is c.in-Ok.good _ new c.if-not-good.false c.in-Ok.ensures.is) in
    choices-next lines c.args.rest.now line c.in-Some.behind.now old new added (sym c.in-Some.ensures.cut) read joined all few
