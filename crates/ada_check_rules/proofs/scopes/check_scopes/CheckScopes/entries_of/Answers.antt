use Rattle.std.proofs.Common.{ap, sym, ◌∙◌, option_map}
use Rattle.ada_check_rules.specs.scopes.Around.{unit}
use Rattle.ada_check_rules.proofs.scopes.Around.{unit_there, unit_gone}
use Rattle.ada_check_rules.proofs.scopes.check_scopes.CheckScopes.entries_of.Goals as goal

pub returns-in-Some : goal.returns-in-Some
returns-in-Some c = λ span.
    unit_there (λ e. e.value) c.self.inside.units c.args.self.now.units c.args.id.0 (option_map (λ t. t.now) c.meaning.result) c.in-Some.entries.now c.meaning.ensures (ap (option_map (λ t. t.now)) c.in-Some.is) (ap (λ s. s.units) c.self.view_is)
    ∙ ap (unit c.args.id) (sym c.in_ok-clone-in-Some.ensures.cases)

pub returns-in-Ok : goal.returns-in-Ok
returns-in-Ok c = λ span.
    unit_gone (λ e. e.value) c.self.inside.units c.args.self.now.units c.args.id.0 (option_map (λ t. t.now) c.meaning.result) c.meaning.ensures (ap (option_map (λ t. t.now)) c.in-None.is) (ap (λ s. s.units) c.self.view_is)
    ∙ ap (unit c.args.id) (sym (c.in-Ok.ensures.ok ∙ c.new.ensures))
