use Rattle.std.proofs.Common.{◌++◌, ◌<◌, length, sym, ap, ◌∙◌, append_assoc, arith}
use Rattle.ada_tree.specs.PlainStmt.{plain_part}
use Rattle.ada_value.specs.Texts.{part_output}
use Rattle.ada_value.specs.put_text.Written.{text_or_none}
use Rattle.ada_value.proofs.put_text.TextLemmas.{raises_at, goes_on}
use Rattle.ada_value.proofs.put_text.part_texts.put_all.Goals as goal

pub returns-in-Some-clause-raised : goal.returns-in-Some-clause-raised
returns-in-Some-clause-raised g c =
    let within : c.loop-part.part-index < length c.args.parts.now = omega arith in
    raises_at
    c.args.names.now
    (g.N.NameValues.table c.args.scope.now)
    (g.N.NameValues.vars c.args.scope.now)
    c.args.parts.now
    c.loop-part.part-index
    c.part-item.result
    c.loop-part.invariant.0
    c.in-Some.raised
    within
    c.part-item.is
    (sym c.in-Some.is ∙ c.in_ok-raised.ensures.raised)
    c.loop-part.invariant.2

pub loop-part-preserved : goal.loop-part-preserved
loop-part-preserved g c =
    let within : c.loop-part.part-index < length c.args.parts.now = omega arith in
    let text = text_or_none (part_output c.args.names.now (g.N.NameValues.table c.args.scope.now) (g.N.NameValues.vars c.args.scope.now) (plain_part c.part-item.result)) in (
      c.loop-part.invariant.0 ++ text,
      c.in_ok-raised.ensures.ok ∙ ap (λ front. front ++ text) c.loop-part.invariant.1 ∙ append_assoc c.args.output.now.items c.loop-part.invariant.0 text,
      goes_on
          c.args.names.now
          (g.N.NameValues.table c.args.scope.now)
          (g.N.NameValues.vars c.args.scope.now)
          c.args.parts.now
          c.loop-part.part-index
          c.part-item.result
          c.loop-part.invariant.0
          within
          c.part-item.is
          (sym c.in-None.is ∙ c.in_ok-raised.ensures.raised)
          c.loop-part.invariant.2,
    )
