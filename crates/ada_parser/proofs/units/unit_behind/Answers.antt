use Rattle.std.proofs.Common.{◌≡◌, ◌+◌, ◌∙◌, suc, ap, rules, arith}
use Rattle.ada_expr_parser.specs.readers.Readers.{pure, go_on}
use Rattle.ada_expr_parser.specs.Gives.{Fails}
use Rattle.ada_expr_parser.proofs.Steps.{fails_go_on}
use Rattle.ada_parser.specs.inner.ReadingDeclarativeParts.{unit_end}
use Rattle.ada_parser.specs.inner.UnitViews.{unit_of_parts}
use Rattle.ada_phrase_parser.specs.Views.{told}
use Rattle.ada_parser.proofs.EndSteps.{unit_end_is}
use Rattle.ada_parser.proofs.units.unit_behind.Goals as goal

pub returns-in_err-body-clause-tree : goal.returns-in_err-body-clause-tree
returns-in_err-body-clause-tree c =
    let deeper : suc c.args.depth ≡ c.args.depth + 1 = omega arith in
    let fails : Fails c.in_err-body.field-0.0 (unit_end (told c.args.source.now) (suc c.args.depth) c.args.name (unit_of_parts c.args.text_io c.args.name c.args.decls.items) c.args.items.now) =
    rw (unit_end_is (told c.args.source.now) c.args.name (unit_of_parts c.args.text_io c.args.name c.args.decls.items) (suc c.args.depth) (c.args.depth + 1) c.args.items.now deeper) (fails_go_on _ _ (λ x. pure (unit_of_parts c.args.text_io c.args.name c.args.decls.items x.0 x.1)) c.in_err-body.ensures.tree) in
    search (rules, fails)

pub returns-clause-tree : goal.returns-clause-tree
returns-clause-tree c =
    let deeper : suc c.args.depth ≡ c.args.depth + 1 = omega arith in
    unit_end_is (told c.args.source.now) c.args.name (unit_of_parts c.args.text_io c.args.name c.args.decls.items) (suc c.args.depth) (c.args.depth + 1) c.args.items.now deeper
    ∙ ap (λ r. go_on r (λ x. pure (unit_of_parts c.args.text_io c.args.name c.args.decls.items x.0 x.1))) c.in_ok-body.ensures.tree
