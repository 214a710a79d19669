use Rattle.std.proofs.Common.{map, ap, ◌∙◌}
use Rattle.std.specs.Char.{to_ascii_uppercase}
use Rattle.std.proofs.lemmas.Str.{IsUtf8-from_ascii}
use Rattle.ada_expr_parser.proofs.items.upper_text.Goals as goal

pub returns : goal.returns
returns c = c.make_ascii_uppercase.ensures.bytes ∙ ap (map to_ascii_uppercase) (c.in_ok-text.ensures.ok (IsUtf8-from_ascii _ c.requires))
