use Rattle.std.specs.Prelude.{◌==◌}
use Rattle.std.specs.List.{list_any}
use Rattle.std.proofs.Common.{ap, ◌∙◌}
use Rattle.ada_tree.specs.declared.naming.NameId.{NameId}
use Rattle.scoped_names.proofs.name_sets.Among.{is_in, by_number}
use Rattle.scoped_names.proofs.name_sets.NameSet.has.Goals as goal

pub returns-clause-named : goal.returns-clause-named
returns-clause-named c = c.is_some.ensures ∙ is_in (λ t. t.now) c.meaning.result c.self.inside.names c.args.name.0 c.meaning.ensures ∙ ap (list_any (λ (n : NameId). n.0 == c.args.name.0)) c.self.view_is

pub returns-clause-numbered : goal.returns-clause-numbered
returns-clause-numbered c = returns-clause-named c ∙ by_number c.args.self.now c.args.name.0
