use Rattle.std.proofs.Common.{◌==◌, ◌||◌, ap, sym, ◌∙◌, is_some}
use Rattle.std.specs.List.{list_any}
use Rattle.ada_tree.specs.declared.naming.NameId.{NameId}
use Rattle.ada_static_rules.specs.StaticValue.{position_in}
use Rattle.scoped_names.specs.Meaning.{meaning_in}
use Rattle.normal_lookups.proofs.Statics.{placed_any}
use Rattle.common_lemmas.proofs.Results.{on_ok}
use Rattle.normal_lookups.proofs.static_names.know_kind.Goals as goal

pub returns-in-Enumeration : goal.returns-in-Enumeration
returns-in-Enumeration c =
    on_ok c.know_literals.result (λ h id.
    h id.0
    ∙ ap (λ l. is_some (meaning_in c.args.known.now id.0) || list_any (λ (n : NameId). n.0 == id.0) l) c.as_slice.ensures
    ∙ ap (λ b. is_some (meaning_in c.args.known.now id.0) || b) (sym (placed_any (λ (n : NameId). n.0 == id.0) c.in-Enumeration.literals))
    ∙ ap (λ k. is_some (meaning_in c.args.known.now id.0) || is_some (position_in id k)) (sym c.in-Enumeration.is)) c.know_literals.ensures
