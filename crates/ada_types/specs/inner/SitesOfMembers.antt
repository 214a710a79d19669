-- The places of each member of a list of the tree.
use Rattle.std.specs.Prelude.{◌≡◌, ℕ, List, [], ◌∷◌, ◌++◌, flat_map, Option, option_map}
use Rattle.ada_tree.specs.declared.naming.Word.{Word}
use Rattle.ada_tree.specs.PlainExpr.{PExpr}
use Rattle.ada_tree.specs.PlainStmt.{PAlt, alternative, PArm, arm, PCaseArm, case_arm, PHandler, handler}
use Rattle.ada_static_rules.specs.Scope.{Scope, Range}
use Rattle.ada_static_rules.specs.ExprTypes.{kind_of}
use Rattle.ada_static_rules.specs.RuleChoiceBad.{selected_range}
use Rattle.ada_static_rules.specs.Demand.{Site, names_exception}
use Rattle.ada_static_rules.specs.Sites.{site, if_there, condition_sites, stmts_sites, alt_sites, choice_sites}
use Rattle.ada_static_rules.specs.RefusedFirst.{refused_first}
use Rattle.ada_scopes.specs.Entries.{plain_range}
use Rattle.ada_types.specs.declared.statements.CaseHead.{CaseHead}

abbrev pub each_alt : Scope → PAlt → List Site
each_alt scope (alternative g x s) = if_there (condition_sites scope) g ++ alt_sites scope x

abbrev pub each_arm : Scope → PArm → List Site
each_arm scope (arm e l) = condition_sites scope e ++ stmts_sites scope l

abbrev pub each_case_arm : Scope → Option ℕ → Option Range → PCaseArm → List Site
each_case_arm scope k range (case_arm choices l) = flat_map (choice_sites scope k range) choices ++ stmts_sites scope l

abbrev pub exception_sites : Scope → Word → List Site
exception_sites scope w = site scope (names_exception w) ∷ []

abbrev pub each_handler : Scope → PHandler → List Site
each_handler scope (handler ws l s) = flat_map (exception_sites scope) ws ++ stmts_sites scope l

-- the kind of a case's selector and its values, and the first refusal at the places before its arms
pub record IsCaseHead (sites : List Site) (scope : Scope) (e : PExpr) (h : CaseHead) : Type 0 where
  pub kind_is : h.kind ≡ kind_of scope e
  pub values_are : option_map plain_range h.values ≡ selected_range scope e
  pub refusal_is : h.refusal ≡ refused_first sites
