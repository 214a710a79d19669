-- The names, tasks, entries and variables of an original that is read, and of its normal form, are few.
use Rattle.std.proofs.Common.{ℕ, zero, suc, ◌+◌, ◌≤◌, List, [], ◌∷◌, length, length-append, fold, map, Some, None, arith}
use Rattle.std.specs.List.{AllByRecursion}
use Rattle.ada_tree.specs.NameList.{predefined, interned}
use Rattle.ada_tree.specs.PlainDecl.{PDecl, DNumber, DObject, DEnumeration, DArray, DSubtype, DException, DIntIo, DPragma, DTask, DTaskBody, PDecls, no_decl, decl_then}
use Rattle.ada_tree.specs.PlainProgram.{PProgram}
use Rattle.syn_event.specs.declared.numbering.TaskInfo.{TaskInfo}
use Rattle.syn_event.specs.DeclaredTasks.{decl_list, text_of}
use Rattle.task_model.specs.Setting.{Setting}
use Rattle.normal_model.specs.Names.{variable_text, texts_of_member, member_texts, with_variables}
use Rattle.normal_model.specs.NormalStmts.{unit_variables}
use Rattle.normal_model.specs.NormalTree.{unit_for, running, main_unit, main_variables, variables_if, variables_of_body, greatest, variables_needed}
use Rattle.normal_laws.specs.existence.units.Weights.{body_weight}
use Rattle.normal_laws.specs.runs.forms.Normalisable.{numbers_of, setting_for, made_for}
use Rattle.normal_laws.proofs.existence.units.Few.{body-few}
use Rattle.normal_laws.proofs.legality.Legal.{normal_has_names}
use Rattle.replay_structure.proofs.legal.fits.Counted.{tasks-within, entries-within}
use Rattle.text_laws.specs.sizes.Weight.{decls_weight, program_weight}
use Rattle.text_laws.specs.normal.Laws.{TextHasFewParts, TextNormalHasNames}
use Rattle.text_laws.proofs.sizes.Read.{few-interned, read_has_few_names, read_weighs_little}
use Rattle.text_laws.proofs.normal.Joined.{text_is_legal}

-- ---- names

one-interned : (names : List (List ℕ)) (t : List ℕ) → length (interned names t) ≤ length names + 1
one-interned names t = few-interned [] names t

all-interned : (names : List (List ℕ)) (texts : List (List ℕ)) → length (fold interned names texts) ≤ length names + length texts
all-interned names [] = omega arith
all-interned names (t ∷ texts) = omega (arith, one-interned names t, all-interned (interned names t) texts)

-- a task has at most one new name
one-member : (names : List (List ℕ)) (info : TaskInfo) → length (texts_of_member (text_of names info.name) info.member) ≤ 1
one-member names info = by_member info.member
  where
    by_member : (o : _) → length (texts_of_member (text_of names info.name) o) ≤ 1
    by_member None = omega arith
    by_member (Some i) = omega arith

few-members : (names : List (List ℕ)) (infos : List TaskInfo) → length (member_texts names infos) ≤ length infos
few-members names [] = omega arith
few-members names (info ∷ infos) =
    omega (arith, one-member names info, few-members names infos, length-append (texts_of_member (text_of names info.name) info.member) (member_texts names infos))

few-variables : (names : List (List ℕ)) (n : ℕ) → length (with_variables names n) ≤ length names + n
few-variables names zero = omega arith
few-variables names (suc n) = omega (arith, few-variables names n, one-interned (with_variables names n) (variable_text n))

-- ---- variables

greatest-within : (b : ℕ) (ns : List ℕ) → AllByRecursion (λ n. n ≤ b) ns → greatest ns ≤ b
greatest-within b [] h = omega arith
greatest-within b (n ∷ ns) h = omega (arith, h.0, greatest-within b ns h.1)

some-within : (xs : List TaskInfo) (vars : List PDecl) (b : ℕ) → length vars ≤ b → variables_if xs vars ≤ b
some-within [] vars b h = omega arith
some-within (x ∷ xs) vars b h = h

module _ (g : Setting) where
  -- each body has as many variables at most as all bodies weigh
  bodies-within : (ds : PDecls) (b : ℕ) → decls_weight ds ≤ b → AllByRecursion (λ n. n ≤ b) (map (variables_of_body g) (decl_list ds))
  bodies-within no_decl b h = tt
  bodies-within (decl_then (DTaskBody w objects its s) rest) b h =
      let few : length (unit_variables (unit_for g w.name) its) ≤ 0 + body_weight its = body-few (unit_for g w.name) its [] in
      (some-within (running g w.name) (unit_variables (unit_for g w.name) its) b (omega (arith, few, h)), bodies-within rest b (omega (arith, h)))
  bodies-within (decl_then (DNumber w e s) rest) b h = (omega arith, bodies-within rest b (omega (arith, h)))
  bodies-within (decl_then (DObject ws c x i s) rest) b h = (omega arith, bodies-within rest b (omega (arith, h)))
  bodies-within (decl_then (DEnumeration w ws s) rest) b h = (omega arith, bodies-within rest b (omega (arith, h)))
  bodies-within (decl_then (DArray w i x s) rest) b h = (omega arith, bodies-within rest b (omega (arith, h)))
  bodies-within (decl_then (DSubtype w x s) rest) b h = (omega arith, bodies-within rest b (omega (arith, h)))
  bodies-within (decl_then (DException ws s) rest) b h = (omega arith, bodies-within rest b (omega (arith, h)))
  bodies-within (decl_then (DIntIo w s) rest) b h = (omega arith, bodies-within rest b (omega (arith, h)))
  bodies-within (decl_then (DPragma e s) rest) b h = (omega arith, bodies-within rest b (omega (arith, h)))
  bodies-within (decl_then (DTask t s) rest) b h = (omega arith, bodies-within rest b (omega (arith, h)))

-- no unit has more variables than all bodies weigh
needed-within : (p : PProgram) → variables_needed (setting_for p) ≤ program_weight p
needed-within p =
    let main : length (main_variables (setting_for p)) ≤ 0 + body_weight p.body = body-few (main_unit (setting_for p)) p.body [] in
    greatest-within (program_weight p) (length (main_variables (setting_for p)) ∷ map (variables_of_body (setting_for p)) (decl_list p.decls))
    (omega (arith, main), bodies-within (setting_for p) p.decls (program_weight p) (omega arith))

-- ---- the laws

made-names : (p : PProgram) → length (made_for p).names ≤ length p.names + length (numbers_of p).tasks + variables_needed (setting_for p)
made-names p =
    let texts : List (List ℕ) = member_texts p.names (numbers_of p).tasks in
    let members : length (fold interned p.names texts) ≤ length p.names + length texts = all-interned p.names texts in
    let few : length texts ≤ length (numbers_of p).tasks = few-members p.names (numbers_of p).tasks in
    let all : length (with_variables (fold interned p.names texts) (variables_needed (setting_for p))) ≤ length (fold interned p.names texts) + variables_needed (setting_for p) =
    few-variables (fold interned p.names texts) (variables_needed (setting_for p)) in
    omega (arith, members, few, all)

pub text_has_few_parts : TextHasFewParts
text_has_few_parts bytes p h =
    let names : length p.names ≤ length predefined + length bytes = read_has_few_names bytes p h.reads in
    let weight : program_weight p ≤ length bytes = read_weighs_little bytes p h.reads in
    let needed : variables_needed (setting_for p) ≤ program_weight p = needed-within p in
    let tasks : length (numbers_of p).tasks ≤ 201 = tasks-within p h.legal.check_rules in
    record {
      names = omega (arith, names, h.short);
      made_names = omega (arith, names, weight, needed, tasks, h.short, made-names p);
      tasks = tasks;
      entries = entries-within p h.legal.check_rules;
      variables = omega (arith, weight, needed, h.short);
    }

pub text_normal_has_names : TextNormalHasNames
text_normal_has_names bytes p h = normal_has_names p (text_is_legal bytes p h) (let few = (text_has_few_parts bytes p h).made_names in omega (arith, few))
