-- The normal form of a program with light bodies needs few variables.
use Rattle.std.proofs.Common.{ℕ, ◌+◌, ◌<◌, ◌≤◌, ◌^◌, List, [], ◌∷◌, length, map, arith}
use Rattle.std.specs.List.{AllByRecursion}
use Rattle.ada_tree.specs.PlainDecl.{PDecl, DNumber, DObject, DEnumeration, DArray, DSubtype, DException, DIntIo, DPragma, DTask, DTaskBody, PDecls, no_decl, decl_then}
use Rattle.ada_tree.specs.PlainProgram.{PProgram}
use Rattle.syn_event.specs.declared.numbering.TaskInfo.{TaskInfo}
use Rattle.syn_event.specs.DeclaredTasks.{decl_list}
use Rattle.task_model.specs.Setting.{Setting}
use Rattle.normal_model.specs.NormalStmts.{unit_variables}
use Rattle.normal_model.specs.NormalTree.{unit_for, running, main_variables, variables_if, variables_of_body, greatest, variables_needed}
use Rattle.normal_laws.specs.runs.forms.Normalisable.{setting_for}
use Rattle.normal_laws.specs.existence.units.Weights.{body_weight, AreLight, IsLight}
use Rattle.normal_laws.proofs.existence.units.Few.{body-few, light-has-few}

greatest-below : (b : ℕ) → 0 < b → (ns : List ℕ) → AllByRecursion (λ n. n < b) ns → greatest ns < b
greatest-below b l [] h = l
greatest-below b l (n ∷ ns) h = let r = greatest-below b l ns h.1 in omega (arith, h.0, r)

mapped-below : (g : Setting) (b : ℕ) (ds : List PDecl) → AllByRecursion (λ d. variables_of_body g d < b) ds → AllByRecursion (λ n. n < b) (map (variables_of_body g) ds)
mapped-below g b [] h = tt
mapped-below g b (d ∷ ds) h = (h.0, mapped-below g b ds h.1)

some-below : (xs : List TaskInfo) (vars : List PDecl) (b : ℕ) → 0 < b → length vars < b → variables_if xs vars < b
some-below [] vars b l h = l
some-below (x ∷ xs) vars b l h = h

module _ (g : Setting) where
  abbrev IsFew : PDecl → Type 0
  IsFew d = variables_of_body g d < 2 ^ 64

  no-variables : 0 < 2 ^ 64
  no-variables = omega arith

  bodies-few : (ds : PDecls) → AreLight ds → AllByRecursion IsFew (decl_list ds)
  bodies-few no_decl h = tt
  bodies-few (decl_then (DTaskBody w objects its s) rest) h =
      let few : length (unit_variables (unit_for g w.name) its) ≤ 0 + body_weight its = body-few (unit_for g w.name) its [] in
      (some-below (running g w.name) (unit_variables (unit_for g w.name) its) (2 ^ 64) no-variables (omega (arith, few, h.0)), bodies-few rest h.1)
  bodies-few (decl_then (DNumber w e s) rest) h = (no-variables, bodies-few rest h)
  bodies-few (decl_then (DObject ws c x i s) rest) h = (no-variables, bodies-few rest h)
  bodies-few (decl_then (DEnumeration w ws s) rest) h = (no-variables, bodies-few rest h)
  bodies-few (decl_then (DArray w i x s) rest) h = (no-variables, bodies-few rest h)
  bodies-few (decl_then (DSubtype w x s) rest) h = (no-variables, bodies-few rest h)
  bodies-few (decl_then (DException ws s) rest) h = (no-variables, bodies-few rest h)
  bodies-few (decl_then (DIntIo w s) rest) h = (no-variables, bodies-few rest h)
  bodies-few (decl_then (DPragma e s) rest) h = (no-variables, bodies-few rest h)
  bodies-few (decl_then (DTask t s) rest) h = (no-variables, bodies-few rest h)

-- Each unit of a light program gets few variables, and so does the greatest one.
pub light-needs-few : (p : PProgram) → IsLight p → variables_needed (setting_for p) < 2 ^ 64
light-needs-few p h =
    greatest-below (2 ^ 64) (no-variables (setting_for p)) (length (main_variables (setting_for p)) ∷ map (variables_of_body (setting_for p)) (decl_list p.decls))
    (light-has-few p h 0, mapped-below (setting_for p) (2 ^ 64) (decl_list p.decls) (bodies-few (setting_for p) p.decls h.1))
