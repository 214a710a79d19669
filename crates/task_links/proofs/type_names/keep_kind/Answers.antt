use Rattle.std.proofs.Common.{ap, sym, nat_eq}
use Rattle.std.specs.HashMap.{get}
use Rattle.ada_static_rules.specs.StaticValue.{position_in}
use Rattle.task_links.proofs.KeepingLemmas.{literal_of}
use Rattle.common_lemmas.proofs.Results.{on_ok}
use Rattle.task_links.proofs.type_names.keep_kind.Goals as goal

pub returns-in-Enumeration : goal.returns-in-Enumeration
returns-in-Enumeration c =
    on_ok c.keep_literals.result (λ h id.
    literal_of c.args.place c.word.result _ c.as_slice.result.now c.args.kind.now id (get nat_eq c.args.map.now id.0) (get nat_eq c.keep_literals.new.map id.0)
    c.word.ensures c.as_slice.ensures (ap (position_in id) (sym c.in-Enumeration.is)) (h id)) c.keep_literals.ensures
