use Rattle.std.proofs.Common.{Some, ap, sym, ◌∙◌}
use Rattle.syn_event.specs.CheckScope.{EnclosingUnit, CheckScope}
use Rattle.ada_check_rules.specs.scopes.Around.{unit}
use Rattle.ada_check_rules.proofs.scopes.check_scopes.CheckScopes.enter_body.Goals as goal

pub returns-clause-around : goal.returns-clause-around
returns-clause-around c =
    let with : EnclosingUnit → CheckScope → CheckScope = λ u x. record x { own = Some u } in
    ap (with (unit c.args.word.name c.in_ok-entries.entries.value)) c.self.view_is ∙ ap (λ u. with u c.args.self.now) (sym (c.in_ok-entries.ensures c.args.word.span))
