use Rattle.std.proofs.Common.{◌<◌, length, sym, true≢false, ◌∙◌, arith}
use Rattle.ada_tree_same.proofs.statements.SameRows.{stmts_length, alts_more, alts_at, alts_length, arms_length, case_arms_length, handlers_length}
use Rattle.ada_tree_same.proofs.statements.statements.+same.Goals as goal

pub same_alts-returns-then-a-b : goal.same_alts-returns-then-a-b
same_alts-returns-then-a-b t c = (λ e. absurd (true≢false (sym e)), λ h. absurd (c.if-a-b.true (alts_length _ _ c.args.a.now c.args.b.now h)))

pub same_arms-returns-then-a-b : goal.same_arms-returns-then-a-b
same_arms-returns-then-a-b t c = (λ e. absurd (true≢false (sym e)), λ h. absurd (c.if-a-b.true (arms_length _ _ c.args.a.now c.args.b.now h)))

pub same_case_arms-returns-then-a-b : goal.same_case_arms-returns-then-a-b
same_case_arms-returns-then-a-b t c = (λ e. absurd (true≢false (sym e)), λ h. absurd (c.if-a-b.true (case_arms_length _ _ c.args.a.now c.args.b.now h)))

pub same_handlers-returns-then-a-b : goal.same_handlers-returns-then-a-b
same_handlers-returns-then-a-b t c = (λ e. absurd (true≢false (sym e)), λ h. absurd (c.if-a-b.true (handlers_length _ _ c.args.a.now c.args.b.now h)))

pub same_stmts-returns-then-a-b : goal.same_stmts-returns-then-a-b
same_stmts-returns-then-a-b t c = (λ e. absurd (true≢false (sym e)), λ h. absurd (c.if-a-b.true (stmts_length _ _ c.args.a.now c.args.b.now h)))

pub same_alts-returns-then-not-same_alt : goal.same_alts-returns-then-not-same_alt
same_alts-returns-then-not-same_alt t c =
    let inside : c.loop-i.i < length c.args.b.now = omega arith in
    (λ e. absurd (true≢false (sym e)), λ h. absurd (true≢false (sym (c.same_alt.ensures.1 (alts_at _ _ c.args.a.now c.args.b.now c.loop-i.i _ _ c.loop-i-test.true inside c.index-a-i.is c.index-b-i.is h)) ∙ c.if-not-same_alt.true)))

pub same_alts-loop-i-preserved : goal.same_alts-loop-i-preserved
same_alts-loop-i-preserved t c =
    let inside : c.loop-i.i < length c.args.b.now = omega arith in
    alts_more _ _ c.args.a.now c.args.b.now c.loop-i.i _ _ c.loop-i-test.true inside c.index-a-i.is c.index-b-i.is c.loop-i.invariant (c.same_alt.ensures.0 c.if-not-same_alt.false)
