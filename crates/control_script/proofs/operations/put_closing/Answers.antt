use Rattle.std.proofs.Common.{◌<◌, ◌≤◌, ◌++◌, [], ◌∷◌, length, ap, ◌∙◌, arith}
use Rattle.syn_event.specs.Numbering.{Numbering}
use Rattle.control_script.proofs.Writing.{closings_more, closings_end}
use Rattle.control_script.proofs.operations.put_closing.Goals as goal

pub loop-t-preserved : goal.loop-t-preserved
loop-t-preserved c = record {
  written = closings_more c.args.progress.now c.args.ops.now.items c.loop-t.ops.items c.put_close.new.ops.items c.loop-t.t (omega arith) c.loop-t.invariant.written
      c.in_ok-put_close.ensures;
  below =
      let less : c.loop-t.t < length c.args.progress.now.parties = omega (arith, ap (λ (n : Numbering). length n.tasks) c.numbers.view_is) in
      omega arith;
}

pub returns : goal.returns
returns c =
    let all : length c.args.progress.now.parties ≤ c.loop-t.t = omega (arith, ap (λ (n : Numbering). length n.tasks) c.numbers.view_is) in
    closings_end c.args.progress.now c.args.ops.now.items c.loop-t.ops.items c.push.new.self.items c.loop-t.t (omega arith) c.loop-t.invariant.below all
    c.loop-t.invariant.written (c.in_ok-push.ensures.items ∙ ap (λ op. c.loop-t.ops.items ++ op ∷ []) c.go.ensures)
