use Rattle.std.proofs.Common.{◌≡◌, ℕ, ◌+◌, ap, ◌∙◌, arith}
use Rattle.ada_tree.specs.PlainStmt.{plain_call}
use Rattle.syn_event.specs.declared.limits.What.TheVariants.{Nesting}
use Rattle.syn_event.specs.CheckScope.{counts}
use Rattle.syn_event.specs.CheckSites.{call_sites}
use Rattle.ada_check_rules.specs.rules.RefusedFirst.{refused_first_at, refused_first}
use Rattle.ada_check_rules.proofs.rules.Meeting.{before}
use Rattle.ada_check_places.proofs.parts.statement_parts.walk_select.Goals as goal

two : (k : ℕ) → k + 1 + 1 ≡ k + 2
two k = omega arith

pub returns : goal.returns
returns c =
    let call = plain_call c.args.call.now in
    c.first.ensures
    ∙ before c.args.by.now c.args.around.now (counts Nesting 0 (c.args.k + 1) call.task.name.span) (call_sites c.args.around.now (c.args.k + 2) call) _ _
    (c.refuse_deep-deep.ensures c.args.around.now ∙ ap (λ n. refused_first_at c.args.by.now c.args.around.now (counts Nesting 0 n call.task.name.span)) c.in_ok-inner.ensures)
    (c.in_ok-walked.ensures ∙ ap (λ n. refused_first c.args.by.now (call_sites c.args.around.now n call)) (c.in_ok-deeper.ensures ∙ ap (λ n. n + 1) c.in_ok-inner.ensures ∙ two c.args.k))
