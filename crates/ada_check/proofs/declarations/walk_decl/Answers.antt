use Rattle.std.proofs.Common.{ap, ◌∙◌}
use Rattle.ada_tree.specs.PlainDecl.{plain_decl}
use Rattle.ada_check_rules.specs.rules.RefusedFirst.{refused_first}
use Rattle.scoped_names.specs.name_sets.Numbers.{numbers_in}
use Rattle.ada_check.specs.inner.TaskBodies.{body_part}
use Rattle.ada_check.proofs.Bodies.{parted}
use Rattle.ada_check.proofs.declaration_places.Declaring.{own_none}
use Rattle.ada_check.proofs.declarations.walk_decl.Goals as goal

pub walk_if_body-requires : goal.walk_if_body-requires
walk_if_body-requires c = own_none c.args.around.now c.declare.new.around (plain_decl c.args.decl.now) c.requires c.in_ok-declare.ensures

pub returns : goal.returns
returns c = record {
  told =
      c.first.ensures
      ∙ parted c.args.by.now c.args.around.now (numbers_in c.args.bodies.now) (plain_decl c.args.decl.now) _ _ c.in_ok-places.ensures (c.in_ok-body.ensures.told ∙ ap (λ s. refused_first c.args.by.now (body_part s (plain_decl c.args.decl.now))) c.in_ok-declare.ensures);
  after = c.in_ok-body.ensures.kept ∙ c.in_ok-declare.ensures;
}
