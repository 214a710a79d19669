use Rattle.std.proofs.Common.{◌≡◌, ◌<◌, ◌+◌, suc, [], length, take, set, length-set, refl, ap, sym, ◌∙◌, subst, arith, rules}
use Rattle.std.proofs.Math.Seq.{take-suc-set}
use Rattle.table_law.proofs.Interned.{texts-more, ids-more}
use Rattle.table_control.proofs.Lists.{begins-on}
use Rattle.table_control.proofs.names.add_all.Goals as goal

pub loop-k-preserved : goal.loop-k-preserved
loop-k-preserved c =
    let texts = c.args.texts.now in
    let many : length texts ≡ 13 = search rules in
    let slots : length c.loop-k.ids ≡ 13 = c.loop-k.invariant.slots in
    let within : c.loop-k.k < length texts = omega arith in
    let next : c.loop-k.k + 1 ≡ suc c.loop-k.k = omega arith in
    record {
      ids =
          ap (λ n. take n (set c.loop-k.ids c.loop-k.k c.in_ok-ids.field-0)) next
          ∙ take-suc-set c.loop-k.ids c.loop-k.k c.in_ok-ids.field-0 (omega arith)
          ∙ ids-more (λ t. t.now) c.args.names.now texts c.loop-k.k record { ref_ptr = (0, 0); now = [] } c.loop-k.names c.add.new.names (take c.loop-k.k c.loop-k.ids) c.in_ok-ids.field-0 within
          c.loop-k.invariant.texts c.in_ok-ids.ensures.texts c.loop-k.invariant.ids c.in_ok-ids.ensures.id;
      texts = texts-more (λ t. t.now) c.args.names.now texts c.loop-k.k record { ref_ptr = (0, 0); now = [] } c.loop-k.names c.add.new.names within c.loop-k.invariant.texts c.in_ok-ids.ensures.texts;
      slots = length-set c.loop-k.ids c.loop-k.k c.in_ok-ids.field-0 ∙ slots;
      begins = begins-on c.args.names.now c.loop-k.names c.add.new.names c.loop-k.invariant.begins c.add.ensures.begins;
    }
