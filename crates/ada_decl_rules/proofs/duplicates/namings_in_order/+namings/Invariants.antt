use Rattle.std.proofs.Common.{ℕ, List, Option, [], map, drop}
use Rattle.ada_tree.specs.PlainStmt.{plain_stmt, plain_alt, plain_arm, plain_case_arm, plain_handler, stmts_of, alts_of, arms_of, case_arms_of, handlers_of}
use Rattle.ada_static_rules.specs.Scope.{Range}
use Rattle.ada_static_rules.specs.Sites.{stmts_sites, alts_sites, arms_sites, case_arms_sites, handlers_sites}
use Rattle.scoped_names.specs.name_sets.Numbers.{numbers_in}
use Rattle.ada_decl_rules.specs.duplicates.NamingsInOrder.{Named}
use Rattle.ada_decl_rules.specs.declared.duplicates.namings_in_order.Naming.{Naming}
use Rattle.ada_decl_rules.proofs.duplicates.namings_in_order.+namings.Given as goal

-- what is still to be noted makes what is noted so far the whole
abbrev pub invariant-note_stmts-loop-stmt : goal.invariant-note_stmts-loop-stmt
invariant-note_stmts-loop-stmt l = (new : List Naming) → Named l.namings.items new (λ s. stmts_sites s (stmts_of (map plain_stmt (drop l.stmt-index l.list)))) → Named l.fn.namings.items new (λ s. stmts_sites s (stmts_of (map plain_stmt l.list)))

abbrev pub invariant-note_alts-loop-alt : goal.invariant-note_alts-loop-alt
invariant-note_alts-loop-alt l = (new : List Naming) → Named l.namings.items new (λ s. alts_sites s (alts_of (map plain_alt (drop l.alt-index l.alts)))) → Named l.fn.namings.items new (λ s. alts_sites s (alts_of (map plain_alt l.alts)))

abbrev pub invariant-note_arms-loop-arm : goal.invariant-note_arms-loop-arm
invariant-note_arms-loop-arm l = (new : List Naming) → Named l.namings.items new (λ s. arms_sites s (arms_of (map plain_arm (drop l.arm-index l.arms)))) → Named l.fn.namings.items new (λ s. arms_sites s (arms_of (map plain_arm l.arms)))

abbrev pub invariant-note_case_arms-loop-arm : goal.invariant-note_case_arms-loop-arm
invariant-note_case_arms-loop-arm l = (k : Option ℕ) (range : Option Range) (new : List Naming) → Named l.namings.items new (λ s. case_arms_sites s k range (case_arms_of (map plain_case_arm (drop l.arm-index l.arms)))) → Named l.fn.namings.items new (λ s. case_arms_sites s k range (case_arms_of (map plain_case_arm l.arms)))

abbrev pub invariant-note_handlers-loop-handler : goal.invariant-note_handlers-loop-handler
invariant-note_handlers-loop-handler l = (new : List Naming) → Named l.namings.items new (λ s. handlers_sites s (numbers_in l.names) (handlers_of (map plain_handler (drop l.handler-index l.handlers)))) → Named l.fn.namings.items new (λ s. handlers_sites s [] (handlers_of (map plain_handler l.handlers)))
