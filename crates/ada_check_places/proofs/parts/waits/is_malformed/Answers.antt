use Rattle.std.proofs.Common.{ap, sym, ◌∙◌, map}
use Rattle.ada_tree.specs.PlainStmt.{plain_alt, alts_of}
use Rattle.syn_event.specs.RuleSelectForm.{alt_kinds}
use Rattle.ada_check_places.specs.parts.inner.Waiting.{wrong_form}
use Rattle.ada_check_places.proofs.parts.Forming.{malformed_by}
use Rattle.ada_check_places.proofs.parts.waits.is_malformed.Goals as goal

pub returns : goal.returns
returns c =
    c.is_wrong.ensures
    ∙ ap (λ f. wrong_form f c.args.has_else) c.forms_of.ensures
    ∙ sym (malformed_by (alt_kinds (alts_of (map plain_alt c.args.alts.now))) c.args.has_else)
