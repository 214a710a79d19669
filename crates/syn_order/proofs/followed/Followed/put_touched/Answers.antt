use Rattle.std.proofs.Common.{◌+◌, ◌∙◌, ◌&&◌, ◌||◌, ◌==◌, if◌then◌else◌, ap, sym, subst, length, map}
use Rattle.std.specs.Prelude.{nat_lt}
use Rattle.common_lemmas.proofs.Results.{on_ok}
use Rattle.event_machine.specs.Soundness.{times}
use Rattle.syn_event.specs.Numbering.{Numbering, owner_of}
use Rattle.syn_order.specs.inner.Lists.{at_place}
use Rattle.syn_order.specs.inner.Callers.{AreTouched}
use Rattle.syn_order.proofs.Touching.{touched_aborting}
use Rattle.syn_order.proofs.followed.Followed.put_touched.Goals as goal

pub returns-in_ok-put_two-in-B : goal.returns-in_ok-put_two-in-B
returns-in_ok-put_two-in-B c =
    on_ok c.put_others.result
    (λ g. subst (λ e. AreTouched (owner_of c.args.numbers.now) c.args.self.now.progress e c.put_others.new.touched.items) (sym c.in-B.is)
    (touched_aborting (owner_of c.args.numbers.now) c.args.self.now.progress _ c.requires.callers (length c.as_slice.result.now)
    (c.requires.tasks ∙ sym (ap length c.as_slice.ensures.value ∙ ap (λ (n : Numbering). length n.tasks) c.numbers.view_is)) c.put_others.new.touched.items
    (λ u. times u c.put_two-in-B.new.touched.items) c.in-B.t c.in-B.x
    (λ u. c.in_ok-put_two-in-B.ensures u ∙ ap (λ xs. times u xs + (if ((u == c.in-B.t) || (u == c.in-B.x)) && nat_lt u (length c.as_slice.result.now) then 1 else 0)) c.clear.ensures.items)
    (λ u. g u ∙ ap (λ xs. times u c.put_two-in-B.new.touched.items + (if ((u == c.in-B.t) || (u == c.in-B.x)) then 0 else (if nat_lt u (length c.as_slice.result.now) then times u xs else 0)))
    (c.callers_of-in-B.ensures ∙ ap (λ vs. at_place (map (λ v. v.items) vs) c.in-B.x) c.deref-in-B.ensures.value)))) c.put_others.ensures
