use Rattle.std.proofs.Common.{◌++◌, ap, ◌∙◌, map}
use Rattle.std.proofs.lemmas.List.{take_all}
use Rattle.ada_tree.specs.PlainStmt.{plain_formal}
use Rattle.ada_scopes.specs.Entries.{plain_part}
use Rattle.ada_entry_rules.specs.EntryDecls.{part_of}
use Rattle.ada_entry_rules.proofs.EntryDecls.{list_grown}
use Rattle.ada_entry_rules.proofs.entries.add_group.Goals as goal

pub loop-word-preserved : goal.loop-word-preserved
loop-word-preserved c =
    list_grown plain_part (part_of (plain_formal c.args.formal.now) c.args.kind) (map plain_part c.args.parts.now.items) c.deref-word-items.result.now _ _ c.loop-word.word-index _ _
    c.loop-word-test.true c.loop-word.invariant c.in_ok-push.ensures.items c.formal_part.ensures

pub returns : goal.returns
returns c =
    c.loop-word.invariant
    ∙ ap (λ ws. map plain_part c.args.parts.now.items ++ map (part_of (plain_formal c.args.formal.now) c.args.kind) ws)
    (take_all c.loop-word.word-index c.deref-word-items.result.now c.loop-word-test.false ∙ c.deref-word-items.ensures.value)
