use Rattle.std.proofs.Common.{◌≡◌, ◌+◌, ◌∙◌, ap, rules, length, map}
use Rattle.std.proofs.lemmas.List.{map-set}
use Rattle.input_file.specs.inner.Tables.{plain_line}
use Rattle.input_file.proofs.Tabling.{table-laid}
use Rattle.input_file.proofs.table.lay.Goals as goal

pub returns : goal.returns
returns c = λ numbers lines added is same sound.
    let more : c.len.result ≡ length c.args.line.values.items = search rules in
    table-laid numbers lines c.args.table.now _ (plain_line c.args.line) added is same sound c.mark.ensures
    (ap (map (λ v. v.items)) c.replace.ensures ∙ map-set (λ v. v.items) c.args.table.now.lists.items c.args.line.task c.args.line.values)
    (ap (λ n. c.args.table.now.count + n) more)
