use Rattle.std.proofs.Common.{ap, sym, ◌∙◌, cond, w64, is_some, Some}
use Rattle.std.specs.HashMap.{get}
use Rattle.std.proofs.lemmas.Int.{to_z-of_z}
use Rattle.task_links.specs.inner.Keys.{member_eq}
use Rattle.task_links.proofs.KeepingLemmas.{kept, put, member_equiv}
use Rattle.task_links.proofs.keeping.keep_member.Goals as goal

pub returns-then-known : goal.returns-then-known
returns-then-known c = λ q.
    kept member_eq member_equiv c.args.map.now (c.args.name, c.args.index) q c.args.number
    (ap (λ i. is_some (get member_eq c.args.map.now (c.args.name, i))) (sym (to_z-of_z w64 c.args.index c.ranges.index)) ∙ sym c.contains_key-known.ensures ∙ c.if-known.true)

pub returns-in-Ok : goal.returns-in-Ok
returns-in-Ok c = λ q.
    put member_eq member_equiv c.args.map.now c.insert.new.self (c.args.name, c.args.index) q c.args.number
    (ap (λ i. is_some (get member_eq c.args.map.now (c.args.name, i))) (sym (to_z-of_z w64 c.args.index c.ranges.index)) ∙ sym c.contains_key-known.ensures ∙ c.if-known.false)
    (c.in-Ok.ensures.updates.0 q ∙ ap (λ i. cond (member_eq (c.args.name, i) q) (Some c.args.number) (get member_eq c.args.map.now q)) (to_z-of_z w64 c.args.index c.ranges.index))
