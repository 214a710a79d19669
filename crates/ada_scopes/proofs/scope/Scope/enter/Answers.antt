use Rattle.std.proofs.Common.{ap, sym}
use Rattle.ada_scopes.proofs.Nesting.{outer_is}
use Rattle.ada_scopes.proofs.scope.Scope.enter.Goals as goal

pub returns-clause-outer : goal.returns-clause-outer
returns-clause-outer c =
    outer_is c.args.self.now c.self.inside.names c.self.inside.base c.len.result
    (ap (λ s. s.names) (sym c.self.view_is)) (ap (λ s. s.here) (sym c.self.view_is)) c.len.ensures c.self.invariant
