-- The laws of what a program and its normal form declare and name (8.3; this project's rule).
use Rattle.std.specs.Prelude.{◌≡◌, true, false, List, [], ◌∷◌, ◌++◌, map, flat_map, is_some, None}
use Rattle.std.specs.List.{AllByRecursion}
use Rattle.ada_tree.specs.TypeTable.{TypeTable}
use Rattle.ada_tree.specs.PlainStmt.{PBody}
use Rattle.ada_tree.specs.PlainDecl.{decls_of}
use Rattle.ada_tree.specs.PlainProgram.{PProgram}
use Rattle.ada_static_rules.specs.Scope.{Scope}
use Rattle.ada_static_rules.specs.Demand.{Site}
use Rattle.ada_static_rules.specs.Declaring.{first_scope, after_decls}
use Rattle.ada_static_rules.specs.RuleDuplicate.{is_among}
use Rattle.ada_static_rules.specs.Sites.{decls_sites, body_sites, sites}
use Rattle.ada_static_rules.specs.Refusals.{MeetsTypeRules}
use Rattle.syn_event.specs.Numbering.{Numbering}
use Rattle.syn_event.specs.NamedTasks.{NamedTasks, task_names_of}
use Rattle.syn_event.specs.DeclaredTasks.{decl_list, tasks_in}
use Rattle.normal_model.specs.NormalTree.{first_decls, tasks_beside, task_declared, bodies_of, main_variables, normal_tree}
use Rattle.normal_model.specs.RewrittenUnit.{RewrittenUnit}
use Rattle.normal_model.specs.NormalStmts.{normal_body}
use Rattle.normal_laws.specs.structure.types.Laws.{setting_of}
use Rattle.ada_decl_rules.specs.duplicates.NamedSoFar.{object_words}
use Rattle.normal_laws.specs.structure.once.Once.{AllOnce}
use Rattle.ada_decl_rules.specs.duplicates.NamingsInOrder.{namings_of, declared}
use Rattle.normal_laws.specs.structure.once.Apart.{fixed_names, IsFitIn, AreFit}
use Rattle.normal_laws.specs.structure.once.Names.{body_names, tasks_names, bodies_names, IsFitDecl}

-- Rule Duplicate refuses nothing at places just where what is named at them is fit.
abbrev pub OnceIsFit : Type 0
OnceIsFit = (ss : List Site) → (AllOnce [] ss → AreFit (namings_of ss)) × (AreFit (namings_of ss) → AllOnce [] ss)

-- In a program that meets the rules on types what is named is fit.
abbrev pub ProgramIsFit : Type 0
ProgramIsFit = (p : PProgram) → MeetsTypeRules p → AreFit (namings_of (sites p))

-- The statements of a unit in the normal form declare and name what those of the unit do, in the same order, whatever can be used at either.
abbrev pub NormalNamesSame : Type 0
NormalNamesSame = (u : RewrittenUnit) (b : PBody) (s t : Scope) → namings_of (body_sites t (normal_body u b)) ≡ namings_of (body_sites s b)

-- What the first declarations of a normal form name is fit, where the program meets the rules on types.
abbrev pub FirstIsFit : Type 0
FirstIsFit = (p : PProgram) → MeetsTypeRules p → AreFit (namings_of (decls_sites (first_scope p.name) (first_decls [] p.decls)))

-- what can be used behind the first declarations of a normal form, and behind the variables of main
abbrev pub behind_first : PProgram → Scope
behind_first p = after_decls (first_scope p.name) (first_decls [] p.decls)

abbrev pub behind_variables : PProgram → TypeTable → Numbering → Scope
behind_variables p types numbers = after_decls (behind_first p) (decls_of (main_variables (setting_of p types numbers)))

-- What the declarations of a normal form name: what the first ones do, and then the variables of main, the tasks with their entries, and the bodies,
-- each told by its text and by the names before it.
abbrev pub NormalDeclares : Type 0
NormalDeclares =
    (p : PProgram) (types : TypeTable) (numbers : Numbering) →
    namings_of (decls_sites (first_scope p.name) (normal_tree p types numbers).decls)
    ≡ namings_of (decls_sites (first_scope p.name) (first_decls [] p.decls))
    ++ (declared false (behind_first p).here (flat_map object_words (main_variables (setting_of p types numbers)))
    ++ tasks_names (behind_variables p types numbers).here (tasks_in (flat_map (task_declared (setting_of p types numbers)) (tasks_beside (setting_of p types numbers))))
    ++ bodies_names [] (flat_map (bodies_of (setting_of p types numbers)) (decl_list p.decls)))

-- Each name that stands for one task of a program that meets the rules on types is declared for all of main.
abbrev pub TaskNamesAreFixed : Type 0
TaskNamesAreFixed =
    (p : PProgram) → MeetsTypeRules p →
    AllByRecursion (λ x. x.index_range ≡ None → is_among (fixed_names (namings_of (decls_sites (first_scope p.name) p.decls))) x.name.name.0 ≡ true) (task_names_of p)

-- What stands in its tasks, its task bodies and its own body is fit beside the names that are declared for all of main.
abbrev pub InnerIsFit : Type 0
InnerIsFit =
    (p : PProgram) → MeetsTypeRules p →
    AllByRecursion (IsFitDecl (fixed_names (namings_of (sites p)))) (decl_list p.decls) × AllByRecursion (IsFitIn (fixed_names (namings_of (sites p)))) (body_names p.body)

-- A program with an array of tasks and a single task meets the rules on types.
abbrev pub IsMet : Type 0
IsMet = (p : PProgram) × MeetsTypeRules p × (map (λ (x : NamedTasks). is_some x.index_range) (task_names_of p) ≡ true ∷ false ∷ [])
