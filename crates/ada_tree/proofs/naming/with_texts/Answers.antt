use Rattle.std.proofs.Common.{[], string_bytes, ◌∙◌}
use Rattle.ada_tree.proofs.Interning.{map-insert_key, fold_one_more}
use Rattle.ada_tree.proofs.naming.with_texts.Goals as goal

pub loop-text-preserved : goal.loop-text-preserved
loop-text-preserved c =
    map-insert_key string_bytes _ _ _ _ c.in_ok-from_str.ensures.ok c.in_ok-insert.ensures.keys ∙
    fold_one_more (λ t. t.now) c.args.texts.now c.loop-text.text-index record { ref_ptr = (0, 0); now = [] } _ c.loop-text-test.true c.loop-text.invariant
