use Rattle.std.proofs.Common.{◌≡◌, ◌++◌, ◌∷◌, [], arith, ◌∙◌}
use Rattle.ada_tree.specs.NameList.{predefined}
use Rattle.ada_expr_parser.proofs.Naming.{one_more, names_on, with_token-keeps}
use Rattle.ada_expr_parser.proofs.items.read_items.Goals as goal

pub loop-token-preserved : goal.loop-token-preserved
loop-token-preserved c =
    let grown : c.push.new.self.items ≡ c.loop-token.list.items ++ c.in_ok-item.item ∷ [] = c.in_ok-push.ensures.items in (
      rw grown (one_more c.args.src.now c.loop-token.names c.read_item.new.names (with_token-keeps c.args.src.now c.loop-token.names c.read_item.new.names _ c.in_ok-item.ensures.names) c.args.tokens.now c.loop-token.token-index _ c.loop-token.list.items c.in_ok-item.item (omega arith) c.loop-token.invariant.0 c.in_ok-item.ensures.said),
      c.in_ok-item.ensures.names ∙ names_on c.args.src.now predefined c.args.tokens.now c.loop-token.token-index _ c.loop-token.names (omega arith) c.loop-token.invariant.1,
    )
