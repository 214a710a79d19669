use Rattle.std.proofs.Common.{◌==◌, sym, ap, ◌∙◌}
use Rattle.std.specs.List.{list_any}
use Rattle.task_state.proofs.frames.HandlerLemmas.{is_for_named}
use Rattle.task_state.proofs.frames.frame.is_for.Goals as goal

pub returns-else-is_empty : goal.returns-else-is_empty
returns-else-is_empty c =
    c.is_named.ensures ∙
    ap (λ n. list_any (λ v. v.name.0 == n) c.args.names.now) c.name_of.ensures ∙
    is_for_named c.args.raised c.args.names.now (sym c.if-is_empty.ensures)
