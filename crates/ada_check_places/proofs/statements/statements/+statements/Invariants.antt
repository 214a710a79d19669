use Rattle.std.proofs.Common.{◌≡◌, map, drop}
use Rattle.ada_tree.specs.PlainStmt.{plain_stmt, plain_alt, plain_arm, plain_case_arm, plain_handler, stmts_of, alts_of, arms_of, case_arms_of, handlers_of}
use Rattle.syn_event.specs.CheckSites.{stmts_sites, alts_sites, arms_sites, case_arms_sites, handlers_sites}
use Rattle.ada_check_rules.specs.rules.Sooner.{sooner}
use Rattle.ada_check_rules.specs.rules.RefusedFirst.{refused_first}
use Rattle.ada_check_places.proofs.statements.statements.+statements.Given as goal

-- what stands around is as it was, and what is refused so far and of the rest of the list is what is refused of the whole
abbrev pub invariant-walk_stmts-loop-stmt :
    goal.invariant-walk_stmts-loop-stmt
invariant-walk_stmts-loop-stmt l = record {
  same : l.around ≡ l.fn.around;
  told : sooner l.refusal (refused_first l.by (stmts_sites l.fn.around l.k (stmts_of (map plain_stmt (drop l.stmt-index l.list))))) ≡ refused_first l.by (stmts_sites l.fn.around l.k (stmts_of (map plain_stmt l.list)));
}

abbrev pub invariant-walk_alts-loop-alt :
    goal.invariant-walk_alts-loop-alt
invariant-walk_alts-loop-alt l = record {
  same : l.around ≡ l.fn.around;
  told : sooner l.refusal (refused_first l.by (alts_sites l.fn.around l.k (alts_of (map plain_alt (drop l.alt-index l.alts))))) ≡ refused_first l.by (alts_sites l.fn.around l.k (alts_of (map plain_alt l.alts)));
}

abbrev pub invariant-walk_arms-loop-arm :
    goal.invariant-walk_arms-loop-arm
invariant-walk_arms-loop-arm l = record {
  same : l.around ≡ l.fn.around;
  told : sooner l.refusal (refused_first l.by (arms_sites l.fn.around l.k (arms_of (map plain_arm (drop l.arm-index l.arms))))) ≡ refused_first l.by (arms_sites l.fn.around l.k (arms_of (map plain_arm l.arms)));
}

abbrev pub invariant-walk_case_arms-loop-arm :
    goal.invariant-walk_case_arms-loop-arm
invariant-walk_case_arms-loop-arm l = record {
  same : l.around ≡ l.fn.around;
  told : sooner l.refusal (refused_first l.by (case_arms_sites l.fn.around l.k (case_arms_of (map plain_case_arm (drop l.arm-index l.arms))))) ≡ refused_first l.by (case_arms_sites l.fn.around l.k (case_arms_of (map plain_case_arm l.arms)));
}

abbrev pub invariant-walk_handlers-loop-handler :
    goal.invariant-walk_handlers-loop-handler
invariant-walk_handlers-loop-handler l = record {
  same : l.around ≡ l.fn.around;
  told : sooner l.refusal (refused_first l.by (handlers_sites l.fn.around l.k (handlers_of (map plain_handler (drop l.handler-index l.handlers))))) ≡ refused_first l.by (handlers_sites l.fn.around l.k (handlers_of (map plain_handler l.handlers)));
}
