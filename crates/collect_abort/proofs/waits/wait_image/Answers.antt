use Rattle.std.proofs.Common.{◌+◌, ◌++◌, length, map, ap, ◌∙◌}
use Rattle.ada_tree.specs.PlainStmt.{plain_alt, plain_arm, seen_maybe}
use Rattle.collect_abort.specs.Looked.{told_of}
use Rattle.collect_abort.specs.Waited.{alternative_list, branch_list, else_list}
use Rattle.collect_abort.proofs.Waiting.{wait-made}
use Rattle.collect_abort.proofs.waits.wait_image.Goals as goal

pub returns-in-Ok : goal.returns-in-Ok
returns-in-Ok c =
    let v = told_of c.args.x.now in
    let n = c.args.place in
    let xs = c.args.alts.now.items in
    let o = seen_maybe c.args.otherwise in
    wait-made v c.args.s n xs o (seen_maybe c.in-Ok.other) (map plain_alt c.put_parts.new.told.items) (map plain_arm c.put_parts.new.arms.items) c.served.result
    (c.in-Ok.ensures.told ∙ ap (λ l. map plain_alt l ++ alternative_list v n (map plain_alt xs) 1 1) c.new-told.ensures.items)
    (c.in-Ok.ensures.arms ∙ ap (λ l. map plain_arm l ++ (branch_list v n (map plain_alt xs) 1 ++ else_list v c.args.s o (1 + length xs))) c.new-arms.ensures.items)
    c.in-Ok.ensures.other c.served.ensures
