use Rattle.std.proofs.Common.{◌≡◌, map, take}
use Rattle.ada_tree.specs.PlainStmt.{plain_alt, plain_arm, plain_case_arm, plain_handler, alts_of, arms_of, case_arms_of, handlers_of, seen}
use Rattle.task_model.specs.Frames.{in_front}
use Rattle.normal_model.specs.Walk.{after_stmts, after_alts, after_arms, after_case_arms, after_handlers, alts_leads, rewritten, inside_alts, inside_arms, inside_case_arms, inside_handlers}
use Rattle.tree_rewriting.specs.walking.Rules.{walk_of}
use Rattle.tree_rewriting.proofs.walking.walk.+rewrite.Given as goal

abbrev pub invariant-inside_arms-loop-arm : goal.invariant-inside_arms-loop-arm
invariant-inside_arms-loop-arm g l = record {
  tree : arms_of (map plain_arm (take l.arm-index l.arm-items)) ≡ inside_arms (walk_of (g.R.Rewriter.rule l.r)) (arms_of (map plain_arm (take l.arm-index l.initial.arm-items))) (g.R.Rewriter.state l.initial.track);
  state : g.R.Rewriter.state l.track ≡ after_arms (walk_of (g.R.Rewriter.rule l.r)) (arms_of (map plain_arm (take l.arm-index l.initial.arm-items))) (g.R.Rewriter.state l.initial.track);
  fits : g.R.Rewriter.fits l.r l.track;
  left : goal.unvisited-inside_arms-loop-arm g l;
}

abbrev pub invariant-inside_case_arms-loop-arm : goal.invariant-inside_case_arms-loop-arm
invariant-inside_case_arms-loop-arm g l = record {
  tree : case_arms_of (map plain_case_arm (take l.arm-index l.arm-items)) ≡ inside_case_arms (walk_of (g.R.Rewriter.rule l.r)) (case_arms_of (map plain_case_arm (take l.arm-index l.initial.arm-items))) (g.R.Rewriter.state l.initial.track);
  state : g.R.Rewriter.state l.track ≡ after_case_arms (walk_of (g.R.Rewriter.rule l.r)) (case_arms_of (map plain_case_arm (take l.arm-index l.initial.arm-items))) (g.R.Rewriter.state l.initial.track);
  fits : g.R.Rewriter.fits l.r l.track;
  left : goal.unvisited-inside_case_arms-loop-arm g l;
}

abbrev pub invariant-inside_handlers-loop-handler : goal.invariant-inside_handlers-loop-handler
invariant-inside_handlers-loop-handler g l = record {
  tree : handlers_of (map plain_handler (take l.handler-index l.handler-items)) ≡ inside_handlers (walk_of (g.R.Rewriter.rule l.r)) (handlers_of (map plain_handler (take l.handler-index l.initial.handler-items))) (g.R.Rewriter.state l.initial.track);
  state : g.R.Rewriter.state l.track ≡ after_handlers (walk_of (g.R.Rewriter.rule l.r)) (handlers_of (map plain_handler (take l.handler-index l.initial.handler-items))) (g.R.Rewriter.state l.initial.track);
  fits : g.R.Rewriter.fits l.r l.track;
  left : goal.unvisited-inside_handlers-loop-handler g l;
}

abbrev pub invariant-inside_alts-loop-alt : goal.invariant-inside_alts-loop-alt
invariant-inside_alts-loop-alt g l = record {
  tree : alts_of (map plain_alt (take l.alt-index l.alt-items)) ≡ inside_alts (walk_of (g.R.Rewriter.rule l.r)) (alts_of (map plain_alt (take l.alt-index l.initial.alt-items))) (g.R.Rewriter.state l.initial.track);
  lead : seen l.out.items ≡ in_front (seen l.initial.out.items) (alts_leads (walk_of (g.R.Rewriter.rule l.r)) (alts_of (map plain_alt (take l.alt-index l.initial.alt-items))) (g.R.Rewriter.state l.initial.track));
  state : g.R.Rewriter.state l.track ≡ after_alts (walk_of (g.R.Rewriter.rule l.r)) (alts_of (map plain_alt (take l.alt-index l.initial.alt-items))) (g.R.Rewriter.state l.initial.track);
  fits : g.R.Rewriter.fits l.r l.track;
  left : goal.unvisited-inside_alts-loop-alt g l;
}

abbrev pub invariant-rewrite_onto-loop-stmt : goal.invariant-rewrite_onto-loop-stmt
invariant-rewrite_onto-loop-stmt g l = record {
  tree : seen l.out.items ≡ in_front (seen l.initial.out.items) (rewritten (walk_of (g.R.Rewriter.rule l.r)) (seen (take l.stmt-index l.initial.stmt-items)) (g.R.Rewriter.state l.initial.track));
  state : g.R.Rewriter.state l.track ≡ after_stmts (walk_of (g.R.Rewriter.rule l.r)) (seen (take l.stmt-index l.initial.stmt-items)) (g.R.Rewriter.state l.initial.track);
  fits : g.R.Rewriter.fits l.r l.track;
  left : goal.unvisited-rewrite_onto-loop-stmt g l;
}
