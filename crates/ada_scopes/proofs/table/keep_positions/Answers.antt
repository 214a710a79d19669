use Rattle.std.proofs.Common.{ap, sym, ◌∙◌, ◌==◌, nat_eq, position}
use Rattle.std.specs.HashMap.{get}
use Rattle.ada_static_rules.specs.StaticValue.{first_of_two, position_in}
use Rattle.common_lemmas.proofs.Results.{on_ok}
use Rattle.ada_scopes.proofs.table.keep_positions.Goals as goal

pub returns-in-Enumeration : goal.returns-in-Enumeration
returns-in-Enumeration c =
    on_ok c.keep_literals.result (λ h id.
    h id.0
    ∙ ap (λ l. first_of_two (get nat_eq c.args.map.now id.0) (position (λ n. n.0 == id.0) l)) c.as_slice.ensures
    ∙ ap (λ k. first_of_two (get nat_eq c.args.map.now id.0) (position_in id k)) (sym c.in-Enumeration.is)) c.keep_literals.ensures
