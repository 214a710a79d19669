use Rattle.std.proofs.Common.{rules, Some, ◌≡◌, ◌≤ℤ◌, ◌<ℤ◌, w64, to_z, of_z, subst, arith}
use Rattle.std.specs.Ordering.{int_cmp}
use Rattle.std.specs.BTreeMap.Range.{IsRangeOf}
use Rattle.std.specs.declared.ops.Bound.TheVariants.{Included, Unbounded}
use Rattle.std.proofs.Common.{FitsSigned}
use Rattle.std.proofs.lemmas.Int.{to_z-of_z, ints}
use Rattle.ada_entry_rules.specs.case_choices.Covers.{first_of, IsFree}
use Rattle.ada_entry_rules.proofs.case_choices.Covering.{meets_first, misses_first}
use Rattle.ada_entry_rules.proofs.case_choices.covered.Covered.meeting.Goals as goal

pub returns-then-start-last : goal.returns-then-start-last
returns-then-start-last c =
    let raw : IsRangeOf int_cmp (Included (to_z w64 (of_z w64 c.args.first))) Unbounded c.self.inside.firsts c.range.result = c.range.ensures.in_range tt in
    let inside : IsRangeOf int_cmp (Included c.args.first) Unbounded c.self.inside.firsts c.range.result = subst (λ x. IsRangeOf int_cmp (Included x) Unbounded c.self.inside.firsts c.range.result) (to_z-of_z w64 c.args.first c.ranges.first) raw in
    let start : FitsSigned w64 c.in-Some.start.now = search rules in
    let end : FitsSigned w64 c.in-Some.end.now = search rules in
    let last : FitsSigned w64 c.args.last = c.ranges.last in
    let low : c.in-Some.start.now ≤ℤ c.args.last = grind (arith, ints) in
    let is = meets_first c.self.inside.firsts c.args.first c.args.last c.range.result c.next.new.self c.in-Some.end.now c.in-Some.start.now c.self.invariant inside c.in-Some.ensures.steps low in
    simp to_z-of_z (subst (λ xs. (first_of xs c.in-Some.end.now ≡ Some c.in-Some.start.now) × (c.in-Some.start.now ≤ℤ c.args.last) × (c.args.first ≤ℤ c.in-Some.end.now) × (c.in-Some.start.now ≤ℤ c.in-Some.end.now)) c.self.view_is is)

pub returns-else-start-last : goal.returns-else-start-last
returns-else-start-last c =
    let raw : IsRangeOf int_cmp (Included (to_z w64 (of_z w64 c.args.first))) Unbounded c.self.inside.firsts c.range.result = c.range.ensures.in_range tt in
    let inside : IsRangeOf int_cmp (Included c.args.first) Unbounded c.self.inside.firsts c.range.result = subst (λ x. IsRangeOf int_cmp (Included x) Unbounded c.self.inside.firsts c.range.result) (to_z-of_z w64 c.args.first c.ranges.first) raw in
    let start : FitsSigned w64 c.in-Some.start.now = search rules in
    let last : FitsSigned w64 c.args.last = c.ranges.last in
    let high : c.args.last <ℤ c.in-Some.start.now = grind (arith, ints) in
    subst (λ xs. IsFree xs c.args.first c.args.last) c.self.view_is (misses_first c.self.inside.firsts c.args.first c.args.last c.range.result c.next.new.self c.in-Some.end.now c.in-Some.start.now c.self.invariant inside c.in-Some.ensures.steps high)
