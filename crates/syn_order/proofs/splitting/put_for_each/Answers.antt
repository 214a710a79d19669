use Rattle.std.proofs.Common.{◌≡◌, ◌<◌, ◌∙◌, refl, sym, subst, length, map}
use Rattle.std.proofs.lemmas.List.{length-map}
use Rattle.syn_order.specs.inner.Lists.{at_place}
use Rattle.syn_order.proofs.Dealing.{put_further, put_none, as_many_put}
use Rattle.syn_order.proofs.splitting.put_for_each.Goals as goal

pub loop-t-init : goal.loop-t-init
loop-t-init c = record { many = refl; each = λ u l. put_none (at_place (map (λ v. v.items) c.args.lists.now.items) u) c.args.e }

pub loop-t-preserved : goal.loop-t-preserved
loop-t-preserved c =
    let count : length (map (λ v. v.items) c.loop-t.lists.items) ≡ length c.args.lists.now.items = length-map c.loop-t.lists.items (λ v. v.items) ∙ c.loop-t.invariant.many in
    record {
      many =
          sym (length-map c.put_event.new.lists.items (λ v. v.items))
          ∙ as_many_put (map (λ v. v.items) c.loop-t.lists.items) (map (λ v. v.items) c.put_event.new.lists.items) _ c.args.e c.in_ok-put_event.ensures ∙ count;
      each = λ u l. put_further (map (λ v. v.items) c.args.lists.now.items) (map (λ v. v.items) c.loop-t.lists.items) (map (λ v. v.items) c.put_event.new.lists.items)
          c.args.tasks.now c.loop-t.t-index _ c.args.e u c.loop-t-test.true (subst (λ n. u < n) (sym count) l) (c.loop-t.invariant.each u l) c.in_ok-put_event.ensures;
    }
