use Rattle.std.proofs.Common.{ap, ◌∙◌, [], false}
use Rattle.ada_static_rules.specs.Sooner.{sooner}
use Rattle.scoped_names.specs.name_sets.Numbers.{numbers_in}
use Rattle.ada_decl_rules.specs.duplicates.NamingsInOrder.{first_repeated}
use Rattle.ada_decl_rules.specs.declared.duplicates.namings_in_order.Naming.{Naming}
use Rattle.ada_decl_rules.specs.declared.duplicates.namings_in_order.Naming.TheVariants.{Declares}
use Rattle.ada_decl_rules.proofs.duplicates.Repeating.{repeat_more}
use Rattle.ada_decl_rules.proofs.duplicates.repeats.refuse_repeats.Goals as goal

pub loop-naming-preserved : goal.loop-naming-preserved
loop-naming-preserved c =
    let none : Naming = Declares false false record { name = record { 0 = 0 }; span = record { start = 0; end = 0 } } in
    repeat_more c.loop-naming.refusal c.first-refusal.result (first_repeated [] [] c.args.namings.now) (numbers_in c.loop-naming.fixed) (numbers_in c.loop-naming.introduced) (numbers_in c.fix.new.fixed) (numbers_in c.introduce.new.introduced) c.args.namings.now c.loop-naming.naming-index none
    c.loop-naming-test.true (c.first-refusal.ensures ∙ ap (sooner c.loop-naming.refusal) c.refuse_again.ensures) c.in_ok-fix.ensures c.in_ok-introduce.ensures c.loop-naming.invariant
