use Rattle.std.proofs.Common.{◌≡◌, ◌<◌, length, map, arith}
use Rattle.ada_tree.specs.PlainStmt.{plain_alt, alts_of}
use Rattle.task_model.specs.Waits.{alternatives_open}
use Rattle.task_waits.specs.Standing.{task_here}
use Rattle.task_waits.proofs.Offering.{stands_closed, stands_waiting, stands_raising}
use Rattle.task_waits.proofs.stands.wait_stand.Goals as goal

pub returns-in-Err-clause-ok : goal.returns-in-Err-clause-ok
returns-in-Err-clause-ok c = stands_raising c.args.has_else c.in-Err.raised (alternatives_open (task_here c.args.here.now) (alts_of (map plain_alt c.args.alts.now)) 0) c.in-Err.ensures

pub returns-then-len-eq0-clause-ok : goal.returns-then-len-eq0-clause-ok
returns-then-len-eq0-clause-ok c =
    let none : length c.put_all.new.choices.items ≡ 0 = omega (arith, c.put_all.new.choices.ok.0) in
    stands_closed c.args.has_else c.in-Ok.least (alternatives_open (task_here c.args.here.now) (alts_of (map plain_alt c.args.alts.now)) 0) c.put_all.new.choices.items c.in-Ok.ensures c.put_all.ensures.choices none

pub returns-else-len-eq0-clause-ok : goal.returns-else-len-eq0-clause-ok
returns-else-len-eq0-clause-ok c =
    let some : 0 < length c.put_all.new.choices.items = omega (arith, c.put_all.new.choices.ok.0) in
    stands_waiting c.args.has_else c.in-Ok.least (alternatives_open (task_here c.args.here.now) (alts_of (map plain_alt c.args.alts.now)) 0) c.put_all.new.choices.items c.in-Ok.ensures c.put_all.ensures.choices some
