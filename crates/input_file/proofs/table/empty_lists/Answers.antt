use Rattle.std.proofs.Common.{◌≡◌, ◌∙◌, ap, arith, rules, length, map, [], ◌∷◌, length-append}
use Rattle.std.proofs.lemmas.List.{length-map}
use Rattle.input_file.proofs.Tabling.{empty-none, empty-more, empty-lists}
use Rattle.input_file.proofs.table.empty_lists.Goals as goal

pub loop-alloc-init : goal.loop-alloc-init
loop-alloc-init c = record {
  within = omega (arith, ap length c.new-lists.ensures.items);
  empty = rw c.new-lists.ensures.items empty-none;
}

pub loop-alloc-preserved : goal.loop-alloc-preserved
loop-alloc-preserved c =
    let count : c.len.result ≡ length c.loop-alloc.lists.items = search rules in
    record {
      within = omega (
        arith,
        count,
        c.loop-alloc-test.true,
        ap length c.in_ok-add_empty.ensures.added,
        length-map c.add_empty.new.lists.items (λ v. v.items),
        length-map c.loop-alloc.lists.items (λ v. v.items),
        length-append (map (λ v. v.items) c.loop-alloc.lists.items) ([] ∷ []),
      );
      empty = empty-more _ _ c.loop-alloc.invariant.empty c.in_ok-add_empty.ensures.added;
    }

pub returns-clause-made : goal.returns-clause-made
returns-clause-made c =
    let count : c.len.result ≡ length c.loop-alloc.lists.items = search rules in
    let full : length c.loop-alloc.lists.items ≡ c.args.tasks = omega (arith, count, c.loop-alloc-test.false, c.loop-alloc.invariant.within) in
    empty-lists c.args.tasks _ c.loop-alloc.invariant.empty (length-map c.loop-alloc.lists.items _ ∙ full)
