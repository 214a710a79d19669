use Rattle.std.proofs.Common.{rules, ◌≡◌, sym, subst, w64, FitsSigned, to_z, None}
use Rattle.std.specs.Int.{int_min, int_max}
use Rattle.std.proofs.lemmas.Int.{to_z-of_z}
use Rattle.ada_entry_rules.specs.case_choices.Covers.{IsFree}
use Rattle.ada_entry_rules.proofs.case_choices.Covering.{Changed, taken_apart, turned, forward, shorter, covered, put_apart}
use Rattle.ada_entry_rules.proofs.case_choices.covered.Covered.add.Goals as goal

pub invariant_of-self : goal.invariant_of-self
invariant_of-self c =
    let end : FitsSigned w64 c.in-Some.end = search rules in
    let gone : Changed c.self.inside.firsts.entries c.remove.new.self.entries c.in-Some.end None = λ q. simp to_z-of_z at (c.remove.ensures.updates.0 q) in
    taken_apart c.self.inside.firsts.entries c.remove.new.self.entries c.in-Some.end c.self.invariant gone

pub loop-start-preserved : goal.loop-start-preserved
loop-start-preserved c =
    let low : FitsSigned w64 c.min-low.result = search rules in
    let high : FitsSigned w64 c.max-high.result = search rules in
    let first : FitsSigned w64 c.args.first = c.ranges.first in
    let last : FitsSigned w64 c.args.last = c.ranges.last in
    let start : FitsSigned w64 c.in-Some.start = search rules in
    let end : FitsSigned w64 c.in-Some.end = search rules in
    let gone : Changed c.self.inside.firsts.entries c.remove.new.self.entries c.in-Some.end None = λ q. simp to_z-of_z at (c.remove.ensures.updates.0 q) in
    let least : c.min-low.result ≡ int_min (to_z w64 c.loop-start.low-bits) c.in-Some.start = simp to_z-of_z at c.min-low.ensures.value in
    let most : c.max-high.result ≡ int_max (to_z w64 c.loop-start.high-bits) c.in-Some.end = simp to_z-of_z at c.max-high.ensures.value in
    simp to_z-of_z (record {
      forward = forward (to_z w64 c.loop-start.low-bits) (to_z w64 c.loop-start.high-bits) c.in-Some.start c.in-Some.end c.min-low.result c.max-high.result c.loop-start.invariant.forward least most;
      reach = turned c.loop-start.self c.self.inside.firsts.entries c.remove.new.self.entries c.args.self.now (to_z w64 c.loop-start.low-bits) (to_z w64 c.loop-start.high-bits) c.in-Some.start c.in-Some.end c.min-low.result c.max-high.result c.args.first c.args.last c.self.view_is c.in-Some.ensures.0 c.in-Some.ensures.1 c.in-Some.ensures.2 gone least most (simp to_z-of_z at c.loop-start.invariant.reach);
    })

pub loop-start-smaller : goal.loop-start-smaller
loop-start-smaller c =
    let end : FitsSigned w64 c.in-Some.end = search rules in
    shorter c.remove.new.self.entries c.self.inside.firsts.entries c.loop-start.self c.remove.result c.in-Some.end c.in-Some.start c.self.view_is (simp to_z-of_z at c.remove.ensures.value) c.in-Some.ensures.0 c.remove.ensures.len

pub invariant_of-self-2 : goal.invariant_of-self-2
invariant_of-self-2 c =
    let free : IsFree c.self-2.inside.firsts.entries (to_z w64 c.loop-start.low-bits) (to_z w64 c.loop-start.high-bits) = subst (λ xs. IsFree xs (to_z w64 c.loop-start.low-bits) (to_z w64 c.loop-start.high-bits)) (sym c.self-2.view_is) c.in_default.ensures in
    put_apart c.self-2.inside.firsts.entries c.insert.new.self.entries (to_z w64 c.loop-start.low-bits) (to_z w64 c.loop-start.high-bits) c.self-2.invariant free c.loop-start.invariant.forward c.in_ok-insert.ensures.updates.0

pub returns : goal.returns
returns c =
    let first : FitsSigned w64 c.args.first = c.ranges.first in
    let last : FitsSigned w64 c.args.last = c.ranges.last in
    covered c.loop-start.self c.self-2.inside.firsts.entries c.insert.new.self.entries c.args.self.now (to_z w64 c.loop-start.low-bits) (to_z w64 c.loop-start.high-bits) c.args.first c.args.last c.self-2.view_is c.self-2.invariant c.in_default.ensures c.loop-start.invariant.forward c.in_ok-insert.ensures.updates.0 (simp to_z-of_z at c.loop-start.invariant.reach)
