use Rattle.std.proofs.Common.{◌≡◌, [], map, fold, string_bytes, ap, ◌∙◌}
use Rattle.std.proofs.lemmas.List.{take_all}
use Rattle.ada_tree.specs.NameList.{interned}
use Rattle.ada_tree.proofs.Interning.{map-insert_key, fold_one_more, fold_distinct}
use Rattle.ada_tree.proofs.naming.Names.copy.Goals as goal

pub loop-text-preserved : goal.loop-text-preserved
loop-text-preserved c =
    map-insert_key string_bytes _ _ _ _ (c.in_ok-clone.ensures.cases ∙ ap string_bytes c.text-item.is) c.in_ok-insert.ensures.keys ∙
    fold_one_more string_bytes c.as_slice-text-items.result.now c.loop-text.text-index c.text-item.result _ c.loop-text-test.true c.loop-text.invariant

-- the texts at the end of the loop
copied : (c : goal.After-loop-text) → map string_bytes c.loop-text.texts.keys ≡ map string_bytes c.self.inside.texts.keys
copied c =
    c.loop-text.invariant ∙
    ap (λ xs. fold interned [] (map string_bytes xs)) (take_all _ _ c.loop-text-test.false ∙ c.as_slice-text-items.ensures.keys) ∙
    fold_distinct [] (map string_bytes c.self.inside.texts.keys) c.self.invariant.distinct

pub invariant_of-result : goal.invariant_of-result
invariant_of-result c = rw (copied c) c.self.invariant

pub returns : goal.returns
returns c = copied c ∙ c.self.view_is
