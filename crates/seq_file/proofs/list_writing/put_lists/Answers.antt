use Rattle.std.proofs.Common.{◌+◌, ◌∙◌, ap, refl}
use Rattle.ded_io.proofs.Writes.{wrote_none}
use Rattle.seq_file.proofs.ListWriting.{wrote_item, wrote_item_stop}
use Rattle.seq_file.proofs.list_writing.put_lists.Goals as goal

pub loop-list-init : goal.loop-list-init
loop-list-init g c = record { task = refl; written = wrote_none _ _ _ _; faults = refl }

-- one more list
pub loop-list-preserved : goal.loop-list-preserved
loop-list-preserved g c =
    let loop = c.loop-list in
    record {
      task = ap (λ n. n + 1) loop.invariant.task;
      written =
          wrote_item _ _ _ _ _ (λ v. v.items) c.args.lists.now loop.list-index loop.task c.list-item.result c.deref.result.now _ _ _ (g.K.Sink.told c.args.out.now) (g.K.Sink.told loop.out) (g.K.Sink.told c.put_list.new.out) c.loop-list-test.true
          c.list-item.is c.deref.ensures.value loop.invariant.task loop.invariant.written c.in-Ok.ensures.bytes;
      faults = c.in-Ok.ensures.cause ∙ loop.invariant.faults;
    }

-- the list could not be written
pub returns-in-Err-clause-bytes : goal.returns-in-Err-clause-bytes
returns-in-Err-clause-bytes g c =
    let loop = c.loop-list in
    wrote_item_stop _ _ _ _ _ _ (λ v. v.items) c.args.lists.now loop.list-index loop.task c.list-item.result c.deref.result.now _ c.in-Err.error c.in-Err.error (g.K.Sink.told c.args.out.now) (g.K.Sink.told loop.out) (g.K.Sink.told c.put_list.new.out)
    c.loop-list-test.true c.list-item.is c.deref.ensures.value loop.invariant.task loop.invariant.written c.in-Err.ensures.bytes
