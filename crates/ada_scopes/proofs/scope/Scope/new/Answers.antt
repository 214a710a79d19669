use Rattle.std.proofs.Common.{ap, ◌∙◌, map}
use Rattle.ada_scopes.specs.Entries.{plain_entry}
use Rattle.ada_scopes.proofs.Predefining.{begun}
use Rattle.ada_scopes.proofs.scope.Scope.new.Goals as goal

pub returns-in-Ok : goal.returns-in-Ok
returns-in-Ok c =
    begun c.in_ok-table.table c.in_ok-names.names c.len.result c.in-Ok.own.value c.new-in-Ok-2.result.items
    c.in_ok-table.ensures c.in_ok-names.ensures c.len.ensures
    (c.in-Ok.ensures.ok ∙ c.in_ok-entries.ensures ∙ ap (map plain_entry) c.new.ensures.items) c.new-in-Ok-2.ensures.items
