use Rattle.std.proofs.Common.{◌≡◌, ap, ◌∙◌, refl, Some, length}
use Rattle.ada_tree.specs.NameList.{interned}
use Rattle.normal_model.specs.Names.{variable_text}
use Rattle.normal_lookups.proofs.names.Variables.{one_more}
use Rattle.normal_lookups.proofs.names.names.NormalNames.add.Goals as goal

pub returns-clause-names : goal.returns-clause-names
returns-clause-names c =
    let text_is : c.as_str.result.now ≡ variable_text (length c.args.self.now.variables.items) = c.as_str.ensures.value ∙ c.in_ok-text.ensures ∙ ap variable_text c.requires in
    λ g. one_more g c.args.self.now record { names = c.intern.new.self; tasks = c.args.self.now.tasks; variables = c.push.new.self } c.in_ok-id.id
    (c.in_ok-id.ensures.texts ∙ ap (interned c.args.self.now.names) text_is) c.in_ok-id.ensures.names (c.in_ok-id.ensures.named ∙ ap Some text_is) refl c.in_ok-push.ensures.items
