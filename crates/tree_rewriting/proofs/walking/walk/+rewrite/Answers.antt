use Rattle.std.proofs.Common.{rules}
use Rattle.ada_tree.specs.PlainStmt.{plain_alt, plain_arm, plain_case_arm, plain_handler, alts_of, arms_of, case_arms_of, handlers_of, seen}
use Rattle.normal_model.specs.Walk.{after_alts, after_arms, after_case_arms, after_handlers, inside_alts, inside_arms, inside_case_arms, inside_handlers}
use Rattle.tree_rewriting.specs.walking.Rules.{walk_of, after_arm, inside_arm, after_case_arm, inside_case_arm, after_handler, inside_handler, behind_alt, inside_alt}
use Rattle.tree_rewriting.proofs.walking.Rows.{arms_snoc, arms-snoc, arms-more, arms-behind, case_arms_snoc, case_arms-snoc, case_arms-more, case_arms-behind, handlers_snoc, handlers-snoc, handlers-more, handlers-behind, alts_snoc, alts-snoc, alts-more, alts-behind}
use Rattle.tree_rewriting.proofs.walking.Turns.{row-turn, row-state-turn, stmts-tree-turn, stmts-state-turn, leads-turn}
use Rattle.tree_rewriting.proofs.walking.walk.+rewrite.Goals as goal

pub inside_arms-loop-arm-preserved : goal.inside_arms-loop-arm-preserved
inside_arms-loop-arm-preserved g t c = record {
  tree = row-turn plain_arm arms_of arms_snoc arms-snoc (inside_arms (walk_of (g.R.Rewriter.rule c.args.r.now))) (after_arms (walk_of (g.R.Rewriter.rule c.args.r.now))) (inside_arm (walk_of (g.R.Rewriter.rule c.args.r.now))) (after_arm (walk_of (g.R.Rewriter.rule c.args.r.now))) (arms-more (walk_of (g.R.Rewriter.rule c.args.r.now))) (arms-behind (walk_of (g.R.Rewriter.rule c.args.r.now))) c.deref_mut-arm-items.result.now c.loop-arm.arm-items c.loop-arm.arm-index c.arm-item.result c.inside_one_arm.new.arm (g.R.Rewriter.state c.args.track.now) (g.R.Rewriter.state c.loop-arm.track) (search rules) c.loop-arm.invariant.left c.loop-arm.invariant.tree c.loop-arm.invariant.state (search rules);
  state = row-state-turn plain_arm arms_of arms_snoc arms-snoc (inside_arms (walk_of (g.R.Rewriter.rule c.args.r.now))) (after_arms (walk_of (g.R.Rewriter.rule c.args.r.now))) (inside_arm (walk_of (g.R.Rewriter.rule c.args.r.now))) (after_arm (walk_of (g.R.Rewriter.rule c.args.r.now))) (arms-more (walk_of (g.R.Rewriter.rule c.args.r.now))) (arms-behind (walk_of (g.R.Rewriter.rule c.args.r.now))) c.deref_mut-arm-items.result.now c.loop-arm.arm-items c.loop-arm.arm-index c.arm-item.result (g.R.Rewriter.state c.args.track.now) (g.R.Rewriter.state c.loop-arm.track) (g.R.Rewriter.state c.inside_one_arm.new.track) (search rules) c.loop-arm.invariant.left c.loop-arm.invariant.state (search rules);
  fits = search rules;
  left = search rules;
}

pub inside_case_arms-loop-arm-preserved : goal.inside_case_arms-loop-arm-preserved
inside_case_arms-loop-arm-preserved g t c = record {
  tree = row-turn plain_case_arm case_arms_of case_arms_snoc case_arms-snoc (inside_case_arms (walk_of (g.R.Rewriter.rule c.args.r.now))) (after_case_arms (walk_of (g.R.Rewriter.rule c.args.r.now))) (inside_case_arm (walk_of (g.R.Rewriter.rule c.args.r.now))) (after_case_arm (walk_of (g.R.Rewriter.rule c.args.r.now))) (case_arms-more (walk_of (g.R.Rewriter.rule c.args.r.now))) (case_arms-behind (walk_of (g.R.Rewriter.rule c.args.r.now))) c.deref_mut-arm-items.result.now c.loop-arm.arm-items c.loop-arm.arm-index c.arm-item.result c.inside_one_case_arm.new.arm (g.R.Rewriter.state c.args.track.now) (g.R.Rewriter.state c.loop-arm.track) (search rules) c.loop-arm.invariant.left c.loop-arm.invariant.tree c.loop-arm.invariant.state (search rules);
  state = row-state-turn plain_case_arm case_arms_of case_arms_snoc case_arms-snoc (inside_case_arms (walk_of (g.R.Rewriter.rule c.args.r.now))) (after_case_arms (walk_of (g.R.Rewriter.rule c.args.r.now))) (inside_case_arm (walk_of (g.R.Rewriter.rule c.args.r.now))) (after_case_arm (walk_of (g.R.Rewriter.rule c.args.r.now))) (case_arms-more (walk_of (g.R.Rewriter.rule c.args.r.now))) (case_arms-behind (walk_of (g.R.Rewriter.rule c.args.r.now))) c.deref_mut-arm-items.result.now c.loop-arm.arm-items c.loop-arm.arm-index c.arm-item.result (g.R.Rewriter.state c.args.track.now) (g.R.Rewriter.state c.loop-arm.track) (g.R.Rewriter.state c.inside_one_case_arm.new.track) (search rules) c.loop-arm.invariant.left c.loop-arm.invariant.state (search rules);
  fits = search rules;
  left = search rules;
}

pub inside_handlers-loop-handler-preserved : goal.inside_handlers-loop-handler-preserved
inside_handlers-loop-handler-preserved g t c = record {
  tree = row-turn plain_handler handlers_of handlers_snoc handlers-snoc (inside_handlers (walk_of (g.R.Rewriter.rule c.args.r.now))) (after_handlers (walk_of (g.R.Rewriter.rule c.args.r.now))) (inside_handler (walk_of (g.R.Rewriter.rule c.args.r.now))) (after_handler (walk_of (g.R.Rewriter.rule c.args.r.now))) (handlers-more (walk_of (g.R.Rewriter.rule c.args.r.now))) (handlers-behind (walk_of (g.R.Rewriter.rule c.args.r.now))) c.deref_mut-handler-items.result.now c.loop-handler.handler-items c.loop-handler.handler-index c.handler-item.result c.inside_one_handler.new.handler (g.R.Rewriter.state c.args.track.now) (g.R.Rewriter.state c.loop-handler.track) (search rules) c.loop-handler.invariant.left c.loop-handler.invariant.tree c.loop-handler.invariant.state (search rules);
  state = row-state-turn plain_handler handlers_of handlers_snoc handlers-snoc (inside_handlers (walk_of (g.R.Rewriter.rule c.args.r.now))) (after_handlers (walk_of (g.R.Rewriter.rule c.args.r.now))) (inside_handler (walk_of (g.R.Rewriter.rule c.args.r.now))) (after_handler (walk_of (g.R.Rewriter.rule c.args.r.now))) (handlers-more (walk_of (g.R.Rewriter.rule c.args.r.now))) (handlers-behind (walk_of (g.R.Rewriter.rule c.args.r.now))) c.deref_mut-handler-items.result.now c.loop-handler.handler-items c.loop-handler.handler-index c.handler-item.result (g.R.Rewriter.state c.args.track.now) (g.R.Rewriter.state c.loop-handler.track) (g.R.Rewriter.state c.inside_one_handler.new.track) (search rules) c.loop-handler.invariant.left c.loop-handler.invariant.state (search rules);
  fits = search rules;
  left = search rules;
}

pub inside_alts-loop-alt-preserved : goal.inside_alts-loop-alt-preserved
inside_alts-loop-alt-preserved g t c = record {
  tree = row-turn plain_alt alts_of alts_snoc alts-snoc (inside_alts (walk_of (g.R.Rewriter.rule c.args.r.now))) (after_alts (walk_of (g.R.Rewriter.rule c.args.r.now))) (inside_alt (walk_of (g.R.Rewriter.rule c.args.r.now))) (behind_alt (walk_of (g.R.Rewriter.rule c.args.r.now))) (alts-more (walk_of (g.R.Rewriter.rule c.args.r.now))) (alts-behind (walk_of (g.R.Rewriter.rule c.args.r.now))) c.deref_mut-alt-items.result.now c.loop-alt.alt-items c.loop-alt.alt-index c.alt-item.result c.inside_one_alt.new.alt (g.R.Rewriter.state c.args.track.now) (g.R.Rewriter.state c.loop-alt.track) (search rules) c.loop-alt.invariant.left c.loop-alt.invariant.tree c.loop-alt.invariant.state (search rules);
  lead = leads-turn (walk_of (g.R.Rewriter.rule c.args.r.now)) c.deref_mut-alt-items.result.now c.loop-alt.alt-items c.loop-alt.alt-index c.alt-item.result (g.R.Rewriter.state c.args.track.now) (g.R.Rewriter.state c.loop-alt.track) (seen c.args.out.now.items) (seen c.loop-alt.out.items) (seen c.inside_one_alt.new.out.items) (search rules) c.loop-alt.invariant.left c.loop-alt.invariant.lead c.loop-alt.invariant.state (search rules);
  state = row-state-turn plain_alt alts_of alts_snoc alts-snoc (inside_alts (walk_of (g.R.Rewriter.rule c.args.r.now))) (after_alts (walk_of (g.R.Rewriter.rule c.args.r.now))) (inside_alt (walk_of (g.R.Rewriter.rule c.args.r.now))) (behind_alt (walk_of (g.R.Rewriter.rule c.args.r.now))) (alts-more (walk_of (g.R.Rewriter.rule c.args.r.now))) (alts-behind (walk_of (g.R.Rewriter.rule c.args.r.now))) c.deref_mut-alt-items.result.now c.loop-alt.alt-items c.loop-alt.alt-index c.alt-item.result (g.R.Rewriter.state c.args.track.now) (g.R.Rewriter.state c.loop-alt.track) (g.R.Rewriter.state c.inside_one_alt.new.track) (search rules) c.loop-alt.invariant.left c.loop-alt.invariant.state (search rules);
  fits = search rules;
  left = search rules;
}

pub rewrite_onto-loop-stmt-preserved : goal.rewrite_onto-loop-stmt-preserved
rewrite_onto-loop-stmt-preserved g t c = record {
  tree = stmts-tree-turn (walk_of (g.R.Rewriter.rule c.args.r.now)) c.deref_mut-stmt-items.result.now c.loop-stmt.stmt-items c.loop-stmt.stmt-index c.stmt-item.result (g.R.Rewriter.state c.args.track.now) (g.R.Rewriter.state c.loop-stmt.track) (seen c.args.out.now.items) (seen c.loop-stmt.out.items) (seen c.rewrite_one.new.out.items) (search rules) c.loop-stmt.invariant.left c.loop-stmt.invariant.tree c.loop-stmt.invariant.state (search rules);
  state = stmts-state-turn (walk_of (g.R.Rewriter.rule c.args.r.now)) c.deref_mut-stmt-items.result.now c.loop-stmt.stmt-items c.loop-stmt.stmt-index c.stmt-item.result (g.R.Rewriter.state c.args.track.now) (g.R.Rewriter.state c.loop-stmt.track) (g.R.Rewriter.state c.rewrite_one.new.track) (search rules) c.loop-stmt.invariant.left c.loop-stmt.invariant.state (search rules);
  fits = search rules;
  left = search rules;
}
