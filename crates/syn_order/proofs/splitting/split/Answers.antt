use Rattle.std.proofs.Common.{◌+◌, ◌<◌, ◌∙◌, [], refl, ap, sym, subst, length, map, take}
use Rattle.std.proofs.lemmas.List.{length-map, length-replicate}
use Rattle.syn_event.specs.Numbering.{Numbering, owner_of}
use Rattle.syn_order.specs.inner.Lists.{at_place}
use Rattle.syn_order.proofs.Placing.{empty_at}
use Rattle.syn_order.proofs.Following.{admitted_further, known_further, known_tasks}
use Rattle.syn_order.proofs.Dealing.{split_further, source_of}
use Rattle.syn_order.specs.declared.errors.OrderError.TheVariants.{NotAdmitted}
use Rattle.syn_order.proofs.Neighbours.{refused_error}
use Rattle.syn_order.proofs.splitting.split.Goals as goal

pub loop-e-init : goal.loop-e-init
loop-e-init c =
    record {
      counted = refl;
      admitted = tt;
      is_known = c.in_ok-followed.ensures.known;
      callers = c.in_ok-followed.ensures.callers;
      many = sym (length-map c.in_ok-lists.lists.items (λ v. v.items)) ∙ ap length c.in_ok-lists.ensures ∙ length-replicate _ [] ∙ (ap length c.as_slice.ensures.value ∙ ap (λ (m : Numbering). length m.tasks) c.numbers.view_is);
      lists = λ u l. ap (λ ls. at_place ls u) c.in_ok-lists.ensures ∙ empty_at _ u;
    }

pub loop-e-preserved : goal.loop-e-preserved
loop-e-preserved c =
    let owner = owner_of c.args.numbers.now in
    let n = length c.args.numbers.now.tasks in
    let h = c.loop-e.invariant in
    let admitted = sym c.admits.ensures ∙ c.if-not-admits.false in
    record {
      counted = ap (λ m. m + 1) h.counted;
      admitted = admitted_further owner n c.args.events.now c.loop-e.e-index _ c.loop-e-test.true c.loop-e.followed.progress h.is_known h.admitted admitted;
      is_known = known_further owner n c.args.events.now c.loop-e.e-index _ c.loop-e-test.true c.loop-e.followed.progress h.is_known h.admitted c.advance.new.self.progress c.in_ok-advance.ensures.known;
      callers = c.in_ok-advance.ensures.callers;
      many = c.in_ok-put_for_each.ensures.count ∙ h.many;
      lists = split_further owner n c.args.events.now c.loop-e.e-index _ c.loop-e.followed.progress (map (λ v. v.items) c.loop-e.lists.items) (map (λ v. v.items) c.put_for_each.new.lists.items)
          c.put_touched.new.touched.items c.deref.result.now c.loop-e-test.true c.deref.ensures.value h.is_known
          (known_tasks owner n (take c.loop-e.e-index c.args.events.now) c.loop-e.followed.progress h.is_known) c.in_ok-put_touched.ensures h.lists
          (λ u l. c.in_ok-put_for_each.ensures.each u (subst (λ m. u < m) (sym h.many) l));
    }

pub put_touched-requires-clause-tasks : goal.put_touched-requires-clause-tasks
put_touched-requires-clause-tasks c =
    known_tasks (owner_of c.args.numbers.now) (length c.args.numbers.now.tasks) (take c.loop-e.e-index c.args.events.now) c.loop-e.followed.progress c.loop-e.invariant.is_known

pub returns-then-not-admits-clause-refused : goal.returns-then-not-admits-clause-refused
returns-then-not-admits-clause-refused c =
    let h = c.loop-e.invariant in
    refused_error (owner_of c.args.numbers.now) (length c.args.numbers.now.tasks) c.args.events.now c.loop-e.e-index _ c.loop-e.followed.progress (NotAdmitted (c.loop-e.at + 1)) (c.loop-e.at + 1) c.loop-e-test.true
    h.is_known h.admitted (ap (λ m. m + 1) h.counted) refl (sym c.admits.ensures ∙ c.if-not-admits.true)

pub returns-clause-lists : goal.returns-clause-lists
returns-clause-lists c =
    let h = c.loop-e.invariant in
    source_of (owner_of c.args.numbers.now) (length c.args.numbers.now.tasks) c.args.events.now c.loop-e.e-index (map (λ v. v.items) c.loop-e.lists.items) c.loop-e-test.false h.admitted
    (length-map c.loop-e.lists.items (λ v. v.items) ∙ h.many) h.lists
