use Rattle.ada_tree.proofs.Interning.{AreNames-predefined}
use Rattle.ada_tree.proofs.naming.Names.new.Goals as goal

pub invariant_of-result : goal.invariant_of-result
invariant_of-result c = rw c.in_ok-texts.ensures AreNames-predefined
