-- What statements declare and name, in the order of the text and whatever can be used there: labels, loop parameters, formals of accepts, and the
-- exceptions of handlers (8.3, 11.2; this project's rule).
use Rattle.std.specs.Prelude.{ℕ, true, false, List, [], ◌∷◌, ◌++◌, flat_map, Option, Some, None}
use Rattle.std.specs.List.{AllByRecursion}
use Rattle.ada_tree.specs.declared.naming.Word.{Word}
use Rattle.ada_tree.specs.PlainStmt.{PScheme, LWhile, LFor, PStmt, SAccept, SWait, SConditional, STimed, SIf, SCase, SBlock, SLoop, PStmts, no_stmt, stmt_then, PMaybe, absent, present, PAccept, accepting, alternative, PAltKind, AAccept, ADelay, ATerminate, PAlts, no_alt, alt_then, arm, PArms, no_arm, arm_then, case_arm, PCaseArms, no_case_arm, case_arm_then, PBody, body, handler, PHandlers, no_handler, handler_then}
use Rattle.ada_tree.specs.PlainDecl.{PEntry, PTask, PDecl, DTask, DTaskBody, PDecls}
use Rattle.ada_static_rules.specs.RuleDuplicate.{is_among}
use Rattle.ada_static_rules.specs.Sites.{all_names, with_words}
use Rattle.syn_event.specs.DeclaredTasks.{decl_list}
use Rattle.ada_decl_rules.specs.duplicates.NamedSoFar.{object_words}
use Rattle.ada_decl_rules.specs.duplicates.NamingsInOrder.{declared, named_once}
use Rattle.ada_decl_rules.specs.declared.duplicates.namings_in_order.Naming.{Naming}
use Rattle.ada_decl_rules.specs.declared.duplicates.namings_in_order.Naming.TheVariants.{Declares, Labels, Once}
use Rattle.normal_laws.specs.structure.once.Apart.{IsFitIn}

-- the name of a loop
abbrev pub label_names : Option Word → List Naming
label_names (Some w) = Labels w ∷ []
label_names None = []

-- the parameter of a for loop
abbrev pub scheme_names : Option PScheme → List Naming
scheme_names (Some (LFor w r x)) = Declares false false w ∷ []
scheme_names (Some (LWhile e)) = []
scheme_names None = []

abbrev mutual
  -- what a statement and the statements in it declare and name
  pub stmt_names : PStmt → List Naming
  stmt_names (SAccept a s) = accept_names a
  stmt_names (SWait x o s) = alts_names x ++ maybe_names o
  stmt_names (SConditional c b o s) = stmts_names b ++ stmts_names o
  stmt_names (STimed c b d a s) = stmts_names b ++ stmts_names a
  stmt_names (SIf x o s) = arms_names x ++ maybe_names o
  stmt_names (SCase e x o s) = case_arms_names x ++ maybe_names o
  stmt_names (SBlock b s) = body_names b
  stmt_names (SLoop w c l s) = label_names w ++ (scheme_names c ++ stmts_names l)
  stmt_names _ = []

  pub stmts_names : PStmts → List Naming
  stmts_names no_stmt = []
  stmts_names (stmt_then x l) = stmt_names x ++ stmts_names l

  pub maybe_names : PMaybe → List Naming
  maybe_names absent = []
  maybe_names (present l) = stmts_names l

  pub accept_names : PAccept → List Naming
  accept_names (accepting h o) = declared false [] (all_names h.formals) ++ maybe_names o

  pub alts_names : PAlts → List Naming
  alts_names no_alt = []
  alts_names (alt_then (alternative g x s) l) = kind_names x ++ alts_names l

  pub kind_names : PAltKind → List Naming
  kind_names (AAccept a l) = accept_names a ++ stmts_names l
  kind_names (ADelay d l) = stmts_names l
  kind_names ATerminate = []

  pub arms_names : PArms → List Naming
  arms_names no_arm = []
  arms_names (arm_then (arm e l) rest) = stmts_names l ++ arms_names rest

  pub case_arms_names : PCaseArms → List Naming
  case_arms_names no_case_arm = []
  case_arms_names (case_arm_then (case_arm cs l) rest) = stmts_names l ++ case_arms_names rest

  pub body_names : PBody → List Naming
  body_names (body l hs) = stmts_names l ++ handlers_names [] hs

  -- handlers behind those that name some exceptions
  pub handlers_names : List ℕ → PHandlers → List Naming
  handlers_names names no_handler = []
  handlers_names names (handler_then (handler ws l s) rest) = named_once names ws ++ (stmts_names l ++ handlers_names (with_words names ws) rest)

-- ---- entries

-- what entries declare, behind those of the same task with these names: each its own name once, and its formals
abbrev pub entries_names : List ℕ → List PEntry → List Naming
entries_names names [] = []
entries_names names (e ∷ es) = Once (is_among names e.name.name.0) e.name ∷ (declared false [] (all_names e.formals) ++ entries_names (e.name.name.0 ∷ names) es)

-- ---- tasks and bodies of main

-- what tasks declare, where these names of main stand before
abbrev pub tasks_names : List ℕ → List PTask → List Naming
tasks_names here [] = []
tasks_names here (t ∷ ts) = Declares true (is_among here t.name.name.0) t.name ∷ (entries_names [] t.entries ++ tasks_names (t.name.name.0 ∷ here) ts)

-- what a body declares and names in itself: its objects, and its statements
abbrev pub inner_names : PDecls → PBody → List Naming
inner_names objects its = declared false [] (flat_map object_words (decl_list objects)) ++ body_names its

-- what declarations that are bodies name, behind bodies of these tasks
abbrev pub bodies_names : List ℕ → List PDecl → List Naming
bodies_names names [] = []
bodies_names names (DTaskBody w objects its s ∷ ds) = Once (is_among names w.name.0) w ∷ (inner_names objects its ++ bodies_names (w.name.0 ∷ names) ds)
bodies_names names (_ ∷ ds) = bodies_names names ds

-- what stands in a task or a task body is fit beside these names
abbrev pub IsFitDecl : List ℕ → PDecl → Type 0
IsFitDecl fixed (DTask t s) = AllByRecursion (IsFitIn fixed) (entries_names [] t.entries)
IsFitDecl fixed (DTaskBody w objects its s) = AllByRecursion (IsFitIn fixed) (inner_names objects its)
IsFitDecl fixed _ = Unit {0}
