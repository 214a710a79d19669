use Rattle.std.proofs.Common.{sym, ap, ◌∙◌, option_map}
use Rattle.ada_expr_parser.specs.readers.Readers.{bind}
use Rattle.ada_tree.specs.PlainStmt.{plain_part}
use Rattle.ada_phrase_parser.specs.Reading.{string, operand}
use Rattle.ada_simple_stmt_parser.specs.inner.ReadingSimple.{put_more, put_behind}
use Rattle.ada_phrase_parser.specs.Views.{told}
use Rattle.ada_simple_stmt_parser.specs.inner.SimpleViews.{put_of}
use Rattle.ada_phrase_parser.proofs.Named.{on_there}
use Rattle.ada_simple_stmt_parser.proofs.name_statements.put_rest.Goals as goal

pub returns-in-Some-clause-tree : goal.returns-in-Some-clause-tree
returns-in-Some-clause-tree c =
    rw (on_there (string (told c.args.source.now)) (put_more (told c.args.source.now) c.args.depth (put_of c.args.line) c.args.word)
    (bind (operand c.args.depth) (put_behind (told c.args.source.now) c.args.depth (put_of c.args.line) c.args.word)) c.args.items.now _ (plain_part c.in-Some.part) c.in-len1-up.len_at_least (sym (ap (option_map plain_part) c.in-Some.is) ∙ c.in_ok-part.ensures.part))
    c.put_more.ensures.tree
