use Rattle.std.proofs.Common.{length, sym, ◌∙◌}
use Rattle.std.proofs.lemmas.Bool.Decides.{Decides-eqb}
use Rattle.ada_tree.specs.PlainStmt.{seen}
use Rattle.normal_walk.proofs.waits.Guarding.{empty-placed}
use Rattle.normal_walk.proofs.waits.closing.push_raise.Goals as goal

pub returns-then-is_empty : goal.returns-then-is_empty
returns-then-is_empty c = empty-placed c.args.span c.args.alts.now (seen c.args.out.now.items) ((Decides-eqb (length c.args.alts.now) 0).0 (sym c.is_empty.ensures ∙ c.if-is_empty.true))
