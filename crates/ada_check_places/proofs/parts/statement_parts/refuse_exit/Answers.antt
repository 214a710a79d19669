use Rattle.std.proofs.Common.{ap, sym, ◌∙◌, [], ◌∷◌, not, if◌then◌else◌}
use Rattle.std.specs.List.{list_any}
use Rattle.syn_event.specs.RuleExitPlace.{is_left}
use Rattle.ada_check_rules.specs.rules.Sooner.{found}
use Rattle.ada_check_rules.proofs.scopes.Around.{any_reverse}
use Rattle.ada_check_places.proofs.parts.Asking.{exits_at}
use Rattle.ada_check_places.proofs.parts.statement_parts.refuse_exit.Goals as goal

pub returns : goal.returns
returns c = λ by.
    c.refuse_if.ensures
    ∙ ap (λ b. found 21 (if not b then c.args.span ∷ [] else []))
    (c.is_any_left-leaves.ensures ∙ any_reverse (is_left c.args.name) c.loops.result.now ∙ ap (list_any (is_left c.args.name)) c.loops.ensures)
    ∙ sym (exits_at by c.args.around.now c.args.name c.args.span)
