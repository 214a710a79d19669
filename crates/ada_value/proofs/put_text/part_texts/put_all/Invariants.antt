use Rattle.std.proofs.Common.{◌≡◌, ◌++◌, ℕ, List, drop}
use Rattle.ada_value.proofs.put_text.TextLemmas.{behind_text, text_from}
use Rattle.ada_value.proofs.put_text.part_texts.put_all.Given as goal

-- the texts of the parts gone by are written, and the text of all is that of the others behind them
abbrev pub invariant-loop-part : goal.invariant-loop-part
invariant-loop-part g l =
    (written : List ℕ) ×
    (l.output.items ≡ l.fn.output.items ++ written) ×
    (text_from l.names (g.N.NameValues.table l.scope) (g.N.NameValues.vars l.scope) l.parts ≡
    behind_text written (text_from l.names (g.N.NameValues.table l.scope) (g.N.NameValues.vars l.scope) (drop l.part-index l.parts)))
