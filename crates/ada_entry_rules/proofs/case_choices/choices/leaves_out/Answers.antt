use Rattle.std.proofs.Common.{rules, ◌≡◌, ◌≤ℤ◌, ◌<ℤ◌, ◌+ℤ◌, pos, ℤ, sym, subst, arith, w64, to_z, of_z, FitsSigned}
use Rattle.std.proofs.lemmas.Int.{ints, by_lt_z}
use Rattle.ada_scopes.specs.Entries.{plain_range}
use Rattle.ada_entry_rules.specs.case_choices.Covers.{Covers}
use Rattle.ada_entry_rules.proofs.case_choices.Choosing.{all_there, one_not, free_not, reached}
use Rattle.ada_entry_rules.proofs.case_choices.choices.leaves_out.Goals as goal

short : (next start z last end : ℤ) → z ≤ℤ last → last ≤ℤ end → z ≤ℤ end
short next start z last end g h = grind (arith, ints)

pub returns-then-values-range : goal.returns-then-values-range
returns-then-values-range c = λ is_covered shows.
    let end : FitsSigned w64 c.in-Some.range.1 = search rules in
    let last : FitsSigned w64 c.args.values.last = search rules in
    let far : c.args.values.last ≤ℤ c.in-Some.range.1 = grind (arith, ints) in
    all_there is_covered (plain_range c.args.values) (λ z g l. (shows z).0
    (by_lt_z z (to_z w64 c.leaves.next-bits)
    (λ u. c.leaves.invariant.there z g u)
    (λ u. reached c.args.covered.now (to_z w64 c.leaves.next-bits) c.in-Some.range.0 c.in-Some.range.1 z c.in-Some.ensures.0 c.in-Some.ensures.1 u (short (to_z w64 c.leaves.next-bits) c.in-Some.range.0 z c.args.values.last c.in-Some.range.1 l far))))

one_more : (z end : ℤ) → z <ℤ (end +ℤ pos 1) → z ≤ℤ end
one_more z end h = grind (arith, ints)

further : (first next end : ℤ) → first ≤ℤ next → next ≤ℤ end → first ≤ℤ (end +ℤ pos 1)
further first next end g h = grind (arith, ints)

pub leaves-preserved : goal.leaves-preserved
leaves-preserved c =
    let end : FitsSigned w64 c.in-Some.range.1 = search rules in
    let last : FitsSigned w64 c.args.values.last = search rules in
    let sum : to_z w64 (of_z w64 (to_z w64 (of_z w64 c.in-Some.range.1) +ℤ pos 1)) ≡ c.in-Some.range.1 +ℤ pos 1 = omega (arith, ints) in
    subst (λ n. record { from : c.args.values.first ≤ℤ n; there : (z : ℤ) → c.args.values.first ≤ℤ z → z <ℤ n → Covers c.args.covered.now z }) (sym sum)
    record {
      from = further c.args.values.first (to_z w64 c.leaves.next-bits) c.in-Some.range.1 c.leaves.invariant.from c.in-Some.ensures.2;
      there = λ z g l. by_lt_z z (to_z w64 c.leaves.next-bits)
          (λ u. c.leaves.invariant.there z g u)
          (λ u. reached c.args.covered.now (to_z w64 c.leaves.next-bits) c.in-Some.range.0 c.in-Some.range.1 z c.in-Some.ensures.0 c.in-Some.ensures.1 u (one_more z c.in-Some.range.1 l));
    }

pub returns-in-None : goal.returns-in-None
returns-in-None c = λ is_covered shows.
    let last : FitsSigned w64 c.args.values.last = search rules in
    let inside : to_z w64 c.leaves.next-bits ≤ℤ c.args.values.last = grind (arith, ints) in
    one_not is_covered (plain_range c.args.values) (to_z w64 c.leaves.next-bits) c.leaves.invariant.from inside (free_not c.args.covered.now is_covered (to_z w64 c.leaves.next-bits) shows c.in-None.ensures)

before : (z last next : ℤ) → z ≤ℤ last → last <ℤ next → z <ℤ next
before z last next g h = grind (arith, ints)

pub returns : goal.returns
returns c = λ is_covered shows.
    let last : FitsSigned w64 c.args.values.last = search rules in
    let past : c.args.values.last <ℤ to_z w64 c.leaves.next-bits = grind (arith, ints) in
    all_there is_covered (plain_range c.args.values) (λ z g l. (shows z).0 (c.leaves.invariant.there z g (before z c.args.values.last (to_z w64 c.leaves.next-bits) l past)))
