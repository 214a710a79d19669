use Rattle.std.proofs.lemmas.List.{drop_more}
use Rattle.ada_tree.specs.declared.naming.Word.{Word}
use Rattle.syn_event.specs.declared.limits.What.TheVariants.{Formals}
use Rattle.ada_check_rules.proofs.rules.Capping.{count_step, count_all}
use Rattle.ada_check_rules.proofs.rules.CountLaws.{numbered_more, numbered_end}
use Rattle.ada_check_rules.proofs.rules.counting.count_names.Goals as goal

pub loop-name-preserved : goal.loop-name-preserved
loop-name-preserved c = record {
  count = count_step _ _ _ _ 1 c.loop-name.invariant.count c.count_on-counted.ensures.count;
  refusal = λ around. numbered_more c.args.by.now around Formals (λ (w : Word). w.span) c.args.names.now c.loop-name.name-index _ _ _ _ _ _ (drop_more c.args.names.now c.loop-name.name-index _ c.loop-name-test.true) (c.loop-name.invariant.refusal around) c.count_on-counted.ensures.count (c.count_on-counted.ensures.refusal around);
}

pub returns : goal.returns
returns c = λ around. record {
  count_is = count_all _ _ _ _ c.loop-name-test.false c.loop-name.auto.name-index-end c.loop-name.invariant.count;
  refusal_is = numbered_end c.args.by.now around Formals (λ (w : Word). w.span) c.args.names.now c.loop-name.name-index _ _ _ c.loop-name-test.false (c.loop-name.invariant.refusal around);
}
