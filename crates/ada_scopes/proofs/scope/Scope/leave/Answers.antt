use Rattle.std.proofs.Common.{◌≡◌, ◌-◌, ℕ, List, ap, ◌∙◌, length, map, take, drop}
use Rattle.ada_static_rules.specs.Scope.{Scope, NameMeaning}
use Rattle.ada_scopes.specs.Denotations.{plain_names}
use Rattle.ada_scopes.proofs.Nesting.{left_names, left_here}
use Rattle.ada_scopes.proofs.scope.Scope.leave.Goals as goal

pub returns : goal.returns
returns c = λ s is within.
    let now : Scope = c.args.self.now in
    let named : plain_names c.self.inside.names ≡ now.names = ap (λ x. x.names) c.self.view_is in
    let leaves : c.leave.new.self ≡ drop (length c.self.inside.names - c.args.outer.count) c.self.inside.names = c.leave.ensures ∙ ap (λ n. drop (n - c.args.outer.count) c.self.inside.names) c.len.ensures in
    let names = left_names s now c.args.outer c.self.inside.names c.leave.new.self is within named leaves in
    let here = left_here s now c.args.outer c.self.inside.names c.leave.new.self is within named leaves in
    let behind : List ℕ = map (λ y. y.0) (take (length c.leave.new.self - c.args.outer.base) c.leave.new.self) in
    let with_names : List NameMeaning → List ℕ → Scope → Scope = λ all own x. record x { names = all; here = own } in
    ap (with_names (plain_names c.leave.new.self) behind) c.self.view_is
    ∙ ap (λ all. with_names all behind now) names
    ∙ ap (λ own. with_names s.names own now) here
