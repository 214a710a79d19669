use Rattle.std.proofs.Common.{◌≡◌, ◌-◌, ℕ, List, None, ap, ◌∙◌, length, drop}
use Rattle.syn_event.specs.declared.meanings.Meant.{Meant}
use Rattle.syn_event.specs.CheckScope.{CheckScope}
use Rattle.ada_check_rules.proofs.scopes.Around.{left_names}
use Rattle.ada_check_rules.proofs.scopes.check_scopes.CheckScopes.leave_body.Goals as goal

pub returns : goal.returns
returns c = λ s counted within.
    let now : CheckScope = c.args.self.now in
    let leaves : c.leave.new.self ≡ drop (length c.self.inside.names - c.args.count) c.self.inside.names = c.leave.ensures ∙ ap (λ n. drop (n - c.args.count) c.self.inside.names) c.len.ensures in
    let names = left_names s.names now.names within.0 c.self.inside.names c.leave.new.self c.args.count counted within.1 (ap (λ x. x.names) c.self.view_is) leaves in
    let with : List (ℕ × Meant) → CheckScope → CheckScope = λ all x. record x { names = all; own = None } in
    ap (with c.leave.new.self) c.self.view_is
    ∙ ap (λ all. with all now) names
