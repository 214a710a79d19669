use Rattle.seq_file.proofs.text_lines.Walks.{split-Some, split-None}
use Rattle.std.proofs.Common.{sym}
use Rattle.seq_file.proofs.text_lines.cutting.cut_at.Goals as goal

pub returns-in-Some-clause-parts : goal.returns-in-Some-clause-parts
returns-in-Some-clause-parts c =
    split-Some c.args.mark c.args.text.now _ _ c.in-Some.n (sym c.in-Some.ensures.is) c.front.ensures c.behind.ensures

pub returns-in-None-clause-parts : goal.returns-in-None-clause-parts
returns-in-None-clause-parts c = split-None c.args.mark c.args.text.now (sym c.in-None.ensures.is)
