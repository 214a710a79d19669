use Rattle.std.proofs.Common.{ap, ◌∙◌}
use Rattle.ada_tree.specs.PlainExpr.{plain_expr}
use Rattle.ada_static_rules.specs.Sooner.{sooner}
use Rattle.ada_types.proofs.Writing.{kind_of_image, image_written}
use Rattle.ada_types.proofs.written_parts.walk_image.Goals as goal

pub returns : goal.returns
returns c = record {
  kind_is = kind_of_image c.args.scope.now c.args.words.0 c.args.words.1 (plain_expr c.args.arg.now) c.args.span c.requires.image;
  refusal_is =
      c.first-2.ensures
      ∙ ap (sooner c.args.inner.raised) c.first.ensures
      ∙ image_written c.args.scope.now c.args.words.0 c.args.words.1 (plain_expr c.args.arg.now) c.args.span _ _ _ c.requires.image c.requires.inner.raised_is c.refuse_attribute-own.ensures c.requires.inner.parts_are;
}
