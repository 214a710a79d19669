use Rattle.std.proofs.Common.{ap, ◌∙◌, length}
use Rattle.ada_scopes.specs.Entries.{plain_range}
use Rattle.ada_decl_rules.proofs.objects.Arrays.{array_made}
use Rattle.ada_decl_rules.proofs.objects.making.add_array.Goals as goal

pub returns : goal.returns
returns c =
    array_made c.args.scope c.in_ok-with_kind.field-0 c.args.name (plain_range c.args.index) c.args.part c.in_ok-place.place c.in_ok-array.array c.in_ok-mark.mark c.add.result
    c.in_ok-with_kind.ensures c.in_ok-array.ensures c.in_ok-mark.ensures (c.in_ok-place.ensures ∙ ap (λ t. length t.kinds) c.table.ensures) c.add.ensures
