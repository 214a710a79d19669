use Rattle.std.specs.Prelude.{nat_le}
use Rattle.std.proofs.Common.{◌≡◌, ◌+◌, ◌∙◌, ap, sym, subst, arith, rules, get_or, length, false, cond, None, Some}
use Rattle.std.proofs.lemmas.Bool.{leb-true}
use Rattle.input_file.specs.InputFiles.{most_inputs}
use Rattle.input_file.specs.declared.errors.InputError.TheVariants.{TooMany}
use Rattle.input_file.specs.inner.Tables.{plain_line}
use Rattle.input_file.proofs.Tabling.{fault-seen, fault-unknown, fault-count}
use Rattle.input_file.proofs.table.line_fault.Goals as goal

pub returns-then-has_line-clause-is : goal.returns-then-has_line-clause-is
returns-then-has_line-clause-is c = λ numbers lines added is at same.
    fault-seen numbers lines c.args.table.now (plain_line c.args.line.now) added c.args.number is at same
    (sym (c.has_line.ensures ∙ ap (λ s. get_or s c.args.line.now.task false) c.deref.ensures.value) ∙ c.if-has_line.true)

pub returns-then-line-len-clause-is : goal.returns-then-line-len-clause-is
returns-then-line-len-clause-is c = λ numbers lines added is at same.
    let count : c.len.result ≡ length c.args.table.now.seen.items = search rules in
    fault-unknown numbers lines c.args.table.now (plain_line c.args.line.now) added c.args.number is at same
    (sym (c.has_line.ensures ∙ ap (λ s. get_or s c.args.line.now.task false) c.deref.ensures.value) ∙ c.if-has_line.false)
    (omega (arith, count, c.if-line-len.true))

pub returns-then-fits-clause-is : goal.returns-then-fits-clause-is
returns-then-fits-clause-is c = λ numbers lines added is at same.
    let count : c.len.result ≡ length c.args.table.now.seen.items = search rules in
    let more : c.len-2.result ≡ length c.args.line.now.values.items = search rules in
    sym (ap (λ b. cond b None (Some (TooMany most_inputs))) c.if-fits.true)
    ∙ fault-count numbers lines c.args.table.now (plain_line c.args.line.now) added c.args.number c.fits.result is at same
    (sym (c.has_line.ensures ∙ ap (λ s. get_or s c.args.line.now.task false) c.deref.ensures.value) ∙ c.if-has_line.false)
    (omega (arith, count, c.if-line-len.false))
    (subst (λ n. c.fits.result ≡ nat_le (c.args.table.now.count + n) most_inputs) more c.fits.ensures)

pub returns-else-fits-clause-is : goal.returns-else-fits-clause-is
returns-else-fits-clause-is c = λ numbers lines added is at same.
    let count : c.len.result ≡ length c.args.table.now.seen.items = search rules in
    let more : c.len-2.result ≡ length c.args.line.now.values.items = search rules in
    sym (ap (λ b. cond b None (Some (TooMany most_inputs))) c.if-fits.false)
    ∙ fault-count numbers lines c.args.table.now (plain_line c.args.line.now) added c.args.number c.fits.result is at same
    (sym (c.has_line.ensures ∙ ap (λ s. get_or s c.args.line.now.task false) c.deref.ensures.value) ∙ c.if-has_line.false)
    (omega (arith, count, c.if-line-len.false))
    (subst (λ n. c.fits.result ≡ nat_le (c.args.table.now.count + n) most_inputs) more c.fits.ensures)

pub returns-then-fits-clause-task : goal.returns-then-fits-clause-task
returns-then-fits-clause-task c = λ none.
    let count : c.len.result ≡ length c.args.table.now.seen.items = search rules in
    omega (arith, count, c.if-line-len.false)

pub returns-then-fits-clause-few : goal.returns-then-fits-clause-few
returns-then-fits-clause-few c = λ none.
    let more : c.len-2.result ≡ length c.args.line.now.values.items = search rules in
    leb-true (c.args.table.now.count + length c.args.line.now.values.items) most_inputs
    (sym (subst (λ n. c.fits.result ≡ nat_le (c.args.table.now.count + n) most_inputs) more c.fits.ensures) ∙ c.if-fits.true)
