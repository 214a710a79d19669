use Rattle.std.proofs.Common.{◌≡◌, sym, ◌∙◌, ap, rules}
use Rattle.ada_expr_parser.specs.readers.Readers.{bind, token, go_on}
use Rattle.ada_expr_parser.specs.Tests.{word}
use Rattle.ada_expr_parser.specs.Gives.{Fails}
use Rattle.ada_expr_parser.specs.Parts.{drange}
use Rattle.ada_expr_parser.proofs.Steps.{fails_go_on}
use Rattle.ada_phrase_parser.specs.Reading.{behind_index}
use Rattle.ada_task_parser.specs.inner.ReadingTasks.{entry_name}
use Rattle.ada_task_parser.proofs.TaskSteps.{entry_is}
use Rattle.ada_task_parser.proofs.entries.behind_name.Goals as goal

pub returns-in_err-family-clause-tree : goal.returns-in_err-family-clause-tree
returns-in_err-family-clause-tree c =
    let is : bind (token word) (entry_name c.args.depth) c.args.items.now ≡ go_on (drange c.args.depth c.args.items.now) behind_index =
    entry_is c.args.depth c.in_ok-name.name c.args.items.now c.in_ok-name.rest.now _ c.in_ok-name.ensures.tree c.in-len1-up.len_at_least (sym c.is_formal_mark.ensures ∙ c.if-is_formal_mark.false) in
    let fails : Fails c.in_err-family.field-0.0 (bind (token word) (entry_name c.args.depth) c.args.items.now) = rw is (fails_go_on _ _ behind_index c.in_err-family.ensures.tree) in
    search (rules, fails)

pub returns-clause-tree : goal.returns-clause-tree
returns-clause-tree c =
    let is : bind (token word) (entry_name c.args.depth) c.args.items.now ≡ go_on (drange c.args.depth c.args.items.now) behind_index =
    entry_is c.args.depth c.in_ok-name.name c.args.items.now c.in_ok-name.rest.now _ c.in_ok-name.ensures.tree c.in-len1-up.len_at_least (sym c.is_formal_mark.ensures ∙ c.if-is_formal_mark.false) in
    rw (is ∙ ap (λ r. go_on r behind_index) c.in_ok-family.ensures.tree) c.behind_range.ensures.tree
