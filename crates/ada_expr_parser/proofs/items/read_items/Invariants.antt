use Rattle.std.proofs.Common.{◌≡◌, take, fold}
use Rattle.std.specs.List.{AllZip}
use Rattle.ada_tree.specs.NameList.{predefined}
use Rattle.ada_expr_parser.specs.Items.{IsItemOf, with_token}
use Rattle.ada_expr_parser.proofs.items.read_items.Given as goal

-- the items so far are those of the tokens gone by, and the names are theirs
abbrev pub invariant-loop-token : goal.invariant-loop-token
invariant-loop-token l =
    AllZip (IsItemOf l.src l.names) (take l.token-index l.tokens) l.list.items × (l.names ≡ fold (with_token l.src) predefined (take l.token-index l.tokens))
