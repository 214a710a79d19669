-- The declarations of a collecting text, one list behind the other: the first declarations, what main declares more, the variables of the normal form,
-- the tasks, the recorder, the bodies, and the recorder's body.
use Rattle.std.proofs.Common.{List, [], ap, append-nil, append_assoc, arith, codes, false, if◌then◌else◌, length, map, max, nat_eq, subst, suc, sym, true, unwrap_or, ℕ, ◌++◌, ◌+◌, ◌<◌, ◌∙◌, ◌∷◌, ◌≡◌, ◌≤◌}
use Rattle.std.specs.List.{AllByRecursion, starts_with}
use Rattle.ada_tree.specs.PlainDecl.{PDecl}
use Rattle.ada_tree.specs.PlainProgram.{PProgram}
use Rattle.syn_event.specs.AddedNames.{is_added_name}
use Rattle.syn_event.specs.DeclaredTasks.{decl_list}
use Rattle.syn_event.specs.Numbering.{entry_at}
use Rattle.task_model.specs.Setting.{Setting, formals_of_info}
use Rattle.normal_model.proofs.VariablesLemmas.{Begins}
use Rattle.normal_model.specs.Calls.{Slot, slots_of}
use Rattle.normal_model.specs.Names.{normal_names, variable_name, with_members}
use Rattle.normal_model.specs.NormalTree.{greatest, main_variables, variables_needed, variables_of_body}
use Rattle.normal_laws.proofs.structure.numbers.Named.{added-longer}
use Rattle.normal_laws.proofs.structure.placed.Added.{AreSubtypes, AreVariablesFrom, unit-from}
use Rattle.normal_laws.proofs.structure.placed.Names.{variables-more}
use Rattle.normal_laws.proofs.structure.types.Names.{variable-there}
use Rattle.normal_laws.specs.runs.forms.Normalisable.{made_for, setting_for}
use Rattle.replay_model.specs.ReplayTree.{is_added_object}
use Rattle.replay_structure.specs.scopes.Form.{plain_decls}
use Rattle.collect_model.specs.CollectTree.{behind_own, collect_decls, objects_told, recorder_body_told, recorder_told}
use Rattle.collect_model.specs.Teller.{Teller}
use Rattle.collect_structure.proofs.texts.Listed.{behind-front}
use Rattle.collect_structure.specs.scopes.Text.{more, told, told_bodies, told_tasks}

-- in front of variables
pub behind-added : (names : List (List ℕ)) (ds xs : List PDecl) → AllByRecursion (λ x. is_added_object names x ≡ true) xs → behind_own names ds xs ≡ ds ++ xs
behind-added names ds [] h = sym (append-nil ds)
behind-added names ds (x ∷ xs) h = ap (λ b. if b then ds ++ x ∷ xs else x ∷ behind_own names ds xs) h.0

module _ (g : Setting) (before vars : List PDecl) (plain : plain_decls g.program ≡ before ++ vars) (front : AllByRecursion (λ x. is_added_object g.program.names x ≡ false) before)
    (added : AllByRecursion (λ x. is_added_object g.program.names x ≡ true) vars) where
  abbrev p : PProgram
  p = g.program

  abbrev teller : Teller
  teller = told g before vars

  objects-are : objects_told teller p (before ++ vars) ≡ before ++ more g before vars ++ vars
  objects-are =
      behind-front p.names (more g before vars) before vars front ∙ ap (λ l. before ++ l) (behind-added p.names (more g before vars) vars added) ∙ sym (append_assoc before (more g before vars) vars)

  pub text-list : collect_decls teller p (decl_list p.decls) ≡
      before ++ more g before vars ++ vars ++ told_tasks g before vars ++ (recorder_told teller p ∷ []) ++ told_bodies g before vars ++ (recorder_body_told teller p ∷ [])
  text-list =
      ap (λ l. objects_told teller p l ++ told_tasks g before vars ++ (recorder_told teller p ∷ []) ++ told_bodies g before vars ++ (recorder_body_told teller p ∷ [])) plain
      ∙ ap (λ l. l ++ told_tasks g before vars ++ (recorder_told teller p ∷ []) ++ told_bodies g before vars ++ (recorder_body_told teller p ∷ [])) objects-are

-- ---- variables of main

module _ (p : PProgram) where
  abbrev form : Setting
  form = setting_for p

  abbrev names : List (List ℕ)
  names = (made_for p).names

  -- their names begin with DED_
  variable-added : (k : ℕ) → k < variables_needed form → is_added_name names (variable_name form k) ≡ true
  variable-added k l =
      let b : Begins (normal_names form (suc k)) (normal_names form (variables_needed form)) = variables-more (with_members form) (suc k) (variables_needed form) (omega (arith, l)) in
      added-longer (normal_names form (suc k)) (normal_names form (variables_needed form)) (variable_name form k) b (variable-there form k).1
      ∙ ap (λ o. starts_with nat_eq (unwrap_or o []) (codes "DED_")) (variable-there form k).0

  anything : AreSubtypes form (λ x. Prim.Unit {0})
  anything = record { integers = λ s. tt; truths = λ s. tt; arrays = λ s id. tt; families = λ s e. tt; formals = λ e. all (slots_of (formals_of_info form (entry_at form.numbers e))) }
    where
      all : (xs : List Slot) → AllByRecursion (λ (x : Slot). Prim.Unit {0}) xs
      all [] = tt
      all (x ∷ xs) = (tt, all xs)

  variables-from : (vs : List PDecl) (k : ℕ) → AreVariablesFrom form (λ x. Prim.Unit {0}) k vs → k + length vs ≤ variables_needed form → AllByRecursion (λ x. is_added_object names x ≡ true) vs
  variables-from [] k v l = tt
  variables-from (d ∷ ds) k v l = (subst (λ x. is_added_object names x ≡ true) (sym v.0.is) (variable-added k (omega (arith, l))), variables-from ds (k + 1) v.1 (omega (arith, l)))

  few : length (main_variables form) ≤ variables_needed form
  few = at-most (length (main_variables form)) (greatest (map (variables_of_body form) (decl_list p.decls)))
    where
      at-most : (a b : ℕ) → a ≤ max a b
      at-most a b = omega arith

  pub main-variables-added : AllByRecursion (λ x. is_added_object names x ≡ true) (main_variables form)
  main-variables-added = variables-from (main_variables form) 0 (unit-from form (λ x. Prim.Unit {0}) anything 0 p.body) (omega (arith, few))
