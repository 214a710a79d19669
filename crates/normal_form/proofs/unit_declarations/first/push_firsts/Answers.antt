use Rattle.normal_form.proofs.unit_declarations.Firsts.{first_end, first_more}
use Rattle.normal_form.proofs.unit_declarations.first.push_firsts.Goals as goal
use Rattle.common_lemmas.proofs.Lists.{rest_at}

pub loop-decl-preserved : goal.loop-decl-preserved
loop-decl-preserved c =
    first_more c.args.decls.now c.loop-decl.decl-index c.decl-item.result _ _ _ _ _ (rest_at c.args.decls.now c.loop-decl.decl-index c.decl-item.result c.decl-item.result c.loop-decl-test.true c.decl-item.is) c.loop-decl.invariant
    c.in_ok-push_first.ensures c.in_ok-know_decl.ensures

pub returns : goal.returns
returns c = first_end c.args.decls.now c.loop-decl.decl-index _ _ _ c.loop-decl-test.false c.loop-decl.invariant
