-- The names in the statements of main and in the first declarations of the normal form of a legal program pass a test that good names pass, and nothing
-- is too deep there; so with its variables, where their subtypes are so. One such test is that a replay text keeps the name.
use Rattle.std.proofs.Common.{◌≡◌, ℕ, ◌+◌, ◌<◌, ◌≤◌, Bool, true, false, ◌||◌, nat_eq, codes, List, [], ◌∷◌, ◌++◌, length, map, max, slice_get, unwrap_or, Option, Some, None, IsSomeAnd, refl, sym, ap, subst, ◌∙◌, arith}
use Rattle.std.specs.List.{AllByRecursion, list_any, starts_with}
use Rattle.std.specs.Str.{bytes_eq}
use Rattle.std.proofs.lemmas.Bool.{or_from, or_parts}
use Rattle.std.proofs.lemmas.List.Elements.{All-from_recursion}
use Rattle.std.proofs.lemmas.Option.{slice_get_within}
use Rattle.ada_tree.specs.declared.naming.NameId.{NameId}
use Rattle.ada_tree.specs.Attributes.{false_name, true_name}
use Rattle.ada_tree.specs.TypeTable.{TypeTable}
use Rattle.ada_tree.specs.PlainDecl.{PDecl}
use Rattle.ada_tree.specs.PlainProgram.{PProgram}
use Rattle.ada_tree.specs.Every.{Rules, EveryWord, EverySubind, EveryDecl, EveryDecls, EveryBody}
use Rattle.syn_event.specs.CheckSites as check
use Rattle.syn_event.specs.DeclaredTasks.{decl_list}
use Rattle.task_model.specs.Setting.{Setting}
use Rattle.normal_model.specs.Names.{variable_name, task_name}
use Rattle.normal_model.specs.NormalTree.{first_decls, main_unit, main_variables, tasks_beside, variables_needed, variables_of_body, greatest}
use Rattle.normal_model.specs.Ranges.{word_at}
use Rattle.normal_laws.proofs.existence.units.TasksApart.{IsNamed}
use Rattle.normal_laws.specs.structure.types.Own.{own_name}
use Rattle.normal_laws.specs.runs.forms.Normalisable.{numbers_of, setting_for, made_for}
use Rattle.normal_laws.proofs.structure.placed.Names.{first-named}
use Rattle.normal_laws.proofs.structure.placed.Added.{AreSubtypes, AreVariablesFrom, unit-from}
use Rattle.normal_laws.specs.structure.checked.Around.{IsLiteralOf, is_false, is_true, is_enumerated}
use Rattle.normal_laws.proofs.legality.asked.Bodies.{main-asked}
use Rattle.normal_laws.proofs.legality.asked.Beside.{callees-beside}
use Rattle.normal_laws.proofs.legality.declares_once.Ids.{first-free}
use Rattle.normal_laws.specs.existence.Laws.{IsLegalOriginal}
use Rattle.normal_laws.proofs.legality.scopes.Main.{named}
use Rattle.normal_laws.proofs.legality.checks.AroundBody.{place-there, kinds-there, has-value}
use Rattle.normal_laws.proofs.legality.checks.Facts as facts
use Rattle.replay_model.specs.Names.{join_text, operations_text, tasks_text, kinds_text, arguments_text, indices_text, counter_text}
use Rattle.replay_structure.proofs.declares_once.Ids.{IsOwn}
use Rattle.replay_structure.proofs.declares_once.Texts.{good-own, variable-own, task-own}
use Rattle.replay_structure.specs.checked.Around.{meant_texts, kept_name}
use Rattle.replay_structure.proofs.legal.Keeping.{IsKeeping}
use Rattle.replay_structure.proofs.checkable.Kept.{rules_of}
use Rattle.replay_structure.proofs.checkable.KeptNames.{kept-by}
use Rattle.replay_structure.proofs.checkable.KeptPieces.{KeepsNames}
use Rattle.replay_structure.proofs.checkable.KeptDecls.{unit-kept, firsts-kept}
use Rattle.normal_laws.proofs.structure.placed.Made.{among}

shorter : (f : List ℕ → Bool) (xs ys : List (List ℕ)) → list_any f (xs ++ ys) ≡ false → list_any f xs ≡ false
shorter f [] ys h = refl
shorter f (x ∷ xs) ys h = let r = or_parts (f x) (list_any f (xs ++ ys)) h in or_from (f x) (list_any f xs) r.0 (shorter f xs ys r.1)

-- ---- names of a normal form

-- what a replay text declares but in main and the bodies of the normal form
abbrev later_texts : List (List ℕ)
later_texts = join_text ∷ operations_text ∷ tasks_text ∷ kinds_text ∷ arguments_text ∷ indices_text ∷ counter_text ∷ []

-- a name that no replay text adds is kept
pub new-kept : (p : PProgram) (x : ℕ) → IsOwn (made_for p).names x → kept_name (made_for p) x ≡ true
new-kept p x o = by_place (slice_get (made_for p).names x) refl o
  where
    by_place : (s : Option (List ℕ)) → slice_get (made_for p).names x ≡ s → IsSomeAnd s (λ t. (list_any (bytes_eq t) (meant_texts ++ later_texts) || starts_with nat_eq t (codes "DED_S_")) ≡ false) → kept_name (made_for p) x ≡ true
    by_place None e k = absurd k
    by_place (Some t) e k =
        kept-by (made_for p) (record { 0 = x }) (slice_get_within (made_for p).names x t e)
        (ap (λ (s : Option (List ℕ)). list_any (bytes_eq (unwrap_or s [])) meant_texts) e ∙ shorter (bytes_eq t) meant_texts later_texts (or_parts (list_any (bytes_eq t) (meant_texts ++ later_texts)) (starts_with nat_eq t (codes "DED_S_")) k).0)

-- A test that holds of the program's own names, and of those names of the normal form of which no replay text has one of its own.
pub keeping : (p : PProgram) (kept : ℕ → Bool) → ((k : ℕ) → own_name p k ≡ true → kept k ≡ true) → ((x : ℕ) → IsOwn (made_for p).names x → kept x ≡ true) → IsKeeping p kept
keeping p kept old new = record {
  old = old;
  good = λ x k. new x (good-own (setting_for p) (variables_needed (setting_for p)) x k);
  variable = λ k l. new (variable_name (setting_for p) k).0 (variable-own (setting_for p) (variables_needed (setting_for p)) k l);
  task = λ info n. new (task_name (setting_for p) info).0 (task-own (setting_for p) (variables_needed (setting_for p)) info n);
}

module _ (p : PProgram) (h : IsLegalOriginal p) (kept : ℕ → Bool) (are : IsKeeping p kept) where
  abbrev g : Setting
  g = setting_for p

  abbrev n : PProgram
  n = made_for p

  abbrev T : TypeTable
  T = facts.T p h

  abbrev r' : Rules
  r' = rules_of kept

  pub first-kept : (k : ℕ) → k < 25 → kept k ≡ true
  first-kept k l = are.good k (record { there = first-named p.names h.names k l; free = first-free p.names h.names k l })

  main-few : length (main_variables g) ≤ variables_needed g
  main-few = at-most (length (main_variables g)) (greatest (map (variables_of_body g) (decl_list p.decls)))
    where
      at-most : (a b : ℕ) → a ≤ max a b
      at-most a b = omega arith

  variable-kept : (k : ℕ) → k < variables_needed g → kept (variable_name g k).0 ≡ true
  variable-kept k l = are.variable k l

  -- the literals of indices are names that the program declares, or predefined ones
  literal-kept : (id : NameId) → IsLiteralOf g id → kept id.0 ≡ true
  literal-kept id (is_false e) = subst (λ (x : NameId). kept x.0 ≡ true) (sym e) (first-kept false_name (omega arith))
  literal-kept id (is_true e) = subst (λ (x : NameId). kept x.0 ≡ true) (sym e) (first-kept true_name (omega arith))
  literal-kept id (is_enumerated ids k i e) = subst (λ (x : NameId). kept x.0 ≡ true) (sym e) (go (slice_get ids k) refl)
    where
      go : (o : Option NameId) → slice_get ids k ≡ o → kept (unwrap_or o (record { 0 = 0 })).0 ≡ true
      go None f = first-kept 0 (omega arith)
      go (Some x) f = are.old x.0 (facts.valued-own p h x (has-value T x (kinds-there ids x T.kinds i (place-there ids k x f))))

  pub names-kept : (vars : List PDecl) → length vars ≤ variables_needed g → KeepsNames g (facts.own p h) kept vars
  names-kept vars few = record {
    old = are.old;
    first = first-kept;
    variables = λ k l. variable-kept k (omega (arith, l, few));
    tasks = λ info i. are.task info (among (IsNamed g) info (tasks_beside g) i (named p h));
    literals = literal-kept;
  }

  -- the statements of main
  pub main-kept : EveryBody r' 1 n.body
  main-kept =
      unit-kept g (facts.own p h) kept p.names (main_unit g) (check.after_decls (facts.around p h) p.decls) p.body (names-kept (main_variables g) main-few) (facts.owns p h).3
      (callees-beside g (facts.own p h) [] _ 1 p.body (main-asked p T (numbers_of p) h.legal h.placed h.names h.small (facts.own p h) (facts.owns p h)))
      (facts.body-checked p h)

  -- the first declarations, the variables of main, and the tasks
  pub firsts-all : EveryDecls r' (first_decls [] p.decls)
  firsts-all = firsts-kept (facts.own p h) kept are.old p.names (check.body_names p.decls) p.decls [] (facts.around p h) (facts.owns p h).2 (facts.decls-checked p h)

  pub vars-kept : (vs : List PDecl) (k : ℕ) → AreVariablesFrom g (EverySubind r' 2) k vs → k + length vs ≤ variables_needed g → AllByRecursion (EveryDecl r') vs
  vars-kept [] k v l = tt
  vars-kept (d ∷ ds) k v l = (
    subst (EveryDecl r') (sym v.0.is) (omega arith, (tt, All-from_recursion (EveryWord r') (word_at v.0.place (variable_name g k) ∷ []) (variable-kept k (omega (arith, l)), tt)), v.0.fits, tt, tt),
    vars-kept ds (k + 1) v.1 (omega (arith, l)),
  )

  pub main-vars : AreSubtypes g (EverySubind r' 2) → AllByRecursion (EveryDecl r') (main_variables g)
  main-vars its = vars-kept (main_variables g) 0 (unit-from g (EverySubind r' 2) its 0 p.body) (let few : length (main_variables g) ≤ variables_needed g = main-few in omega (arith, few))
