use Rattle.std.proofs.Common.{map, option_map, sym, ap, ◌∙◌}
use Rattle.std.proofs.lemmas.Result.{on_ok_weaker}
use Rattle.ada_tree.specs.PlainStmt.{plain_handler}
use Rattle.ada_compound_parts.specs.inner.ReadingParts.{with_others}
use Rattle.ada_phrase_parser.proofs.Lists.{grown}
use Rattle.ada_compound_parts.proofs.Seen.{others_last}
use Rattle.ada_compound_parts.proofs.handlers.add_others.Goals as goal

pub returns-in-Some-clause-added : goal.returns-in-Some-clause-added
returns-in-Some-clause-added c =
    let last = others_last (map plain_handler c.args.list.now.items) (plain_handler c.in-Some.handler) in
    on_ok_weaker c.add.result (λ e. grown plain_handler c.args.list.now.items c.add.new.list.items c.in-Some.handler e ∙ (sym last ∙ ap (λ o. with_others (map plain_handler c.args.list.now.items) (option_map plain_handler o)) (sym c.in-Some.is))) c.add.ensures.added
