-- The places of each member of a list of the tree, and what a handler names.
use Rattle.std.specs.Prelude.{ℕ, List, ◌++◌, flat_map, Option}
use Rattle.ada_tree.specs.declared.naming.Word.{Word}
use Rattle.ada_tree.specs.PlainStmt.{PAlt, alternative, PArm, arm, PCaseArm, case_arm, PHandler, handler}
use Rattle.ada_static_rules.specs.Scope.{Scope, Range}
use Rattle.ada_static_rules.specs.Demand.{Site}
use Rattle.ada_static_rules.specs.Sites.{if_there, condition_sites, stmts_sites, alt_sites, choice_sites, handler_names_sites}

abbrev pub alt_places : Scope → PAlt → List Site
alt_places scope (alternative g x s) = if_there (condition_sites scope) g ++ alt_sites scope x

abbrev pub arm_places : Scope → PArm → List Site
arm_places scope (arm e l) = condition_sites scope e ++ stmts_sites scope l

abbrev pub case_arm_places : Option ℕ → Option Range → Scope → PCaseArm → List Site
case_arm_places k range scope (case_arm choices l) = flat_map (choice_sites scope k range) choices ++ stmts_sites scope l

abbrev pub handler_words : PHandler → List Word
handler_words (handler ws l s) = ws

abbrev pub handler_places : Scope → List ℕ → PHandler → List Site
handler_places scope names (handler ws l s) = handler_names_sites scope names ws ++ stmts_sites scope l
