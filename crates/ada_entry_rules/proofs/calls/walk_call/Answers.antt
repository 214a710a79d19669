use Rattle.std.proofs.Common.{◌≡◌, ap, ◌∙◌, option_map}
use Rattle.ada_tree.specs.PlainStmt.{plain_args, plain_call}
use Rattle.ada_static_rules.specs.Scope.{meaning}
use Rattle.ada_static_rules.specs.RuleUnknown.{unknown_entry}
use Rattle.ada_static_rules.specs.RuleArgCount.{called_entry, wrong_call}
use Rattle.ada_static_rules.specs.Sites.{if_there, args_sites}
use Rattle.ada_static_rules.specs.Sooner.{sooner, found}
use Rattle.ada_static_rules.specs.RefusedFirst.{refused_first}
use Rattle.ada_scopes.specs.Entries.{plain_entry}
use Rattle.ada_entry_rules.proofs.Calling.{call_met}
use Rattle.ada_entry_rules.proofs.calls.walk_call.Goals as goal

pub returns : goal.returns
returns c =
    let call = plain_call c.args.call.now in
    let entry_is : option_map (λ e. plain_entry e.now) c.called_entry-entry.result ≡ called_entry (meaning c.args.scope.now c.args.call.now.task.name.name) c.args.call.now.entry.name =
    c.called_entry-entry.ensures ∙ ap (λ o. called_entry o c.args.call.now.entry.name) c.meaning-thing.ensures in
    c.first-3.ensures
    ∙ ap (sooner c.walk_callee-callee.result) (c.first-2.ensures ∙ ap (λ o. sooner o c.walk_lists-lists.result) c.first.ensures)
    ∙ call_met c.args.scope.now call _ _ _ _
    c.walk_callee-callee.ensures
    (c.refuse_missing-missing.ensures ∙ ap (λ o. found 1 (unknown_entry o c.args.call.now.entry)) c.meaning-thing.ensures)
    (c.refuse_count-count.ensures ∙ ap (λ o. found 8 (wrong_call o (option_map plain_args c.args.call.now.args) c.args.call.now.entry.span)) entry_is)
    (c.walk_lists-lists.ensures ∙ ap (λ o. refused_first (if_there (args_sites c.args.scope.now o) (option_map plain_args c.args.call.now.args))) entry_is)
