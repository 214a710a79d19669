-- The names that stand for tasks, declaration by declaration.
use Rattle.std.specs.Prelude.{◌≡◌, ℕ, ◌+◌, ◌≤◌, ◌==◌, Bool, true, false, cond, List, [], ◌∷◌, ◌++◌, length, map, drop, find, Some, option_map, refl}
use Rattle.std.specs.Borrow.{Bor}
use Rattle.std.proofs.Common.{sym, ap, ◌∙◌, append_assoc}
use Rattle.std.proofs.lemmas.List.{drop_all, append-nil}
use Rattle.scoped_names.specs.Meaning.{meaning_in}
use Rattle.ada_tree.specs.declared.naming.NameId.{NameId}
use Rattle.ada_tree.specs.declared.declarations.TaskUnit.{TaskUnit}
use Rattle.ada_tree.specs.declared.declarations.Decl.{Decl}
use Rattle.ada_tree.specs.PlainDecl.{PTask, PDecl, DNumber, DObject, DEnumeration, DArray, DSubtype, DException, DIntIo, DPragma, DTask, DTaskBody, PDecls, decl_then, decls_of, plain_task, plain_decl}
use Rattle.syn_event.specs.NamedTasks.{NamedTasks, type_named, task_names_in}
use Rattle.ada_task_numbers.specs.task_objects.PlainNames.{plain_types, AreNamed, decl_task_names, decl_types}

pick : (b : Bool) (s : ℕ × Bor TaskUnit) (rest : List (ℕ × Bor TaskUnit)) (id : NameId) → option_map (λ (t : Bor TaskUnit). plain_task t.now) (meaning_in rest id.0) ≡ type_named (plain_types rest) id
    → option_map (λ (t : Bor TaskUnit). plain_task t.now) (option_map (λ (x : ℕ × Bor TaskUnit). x.1) (cond b (Some s) (find (λ (x : ℕ × Bor TaskUnit). x.0 == id.0) rest))) ≡ cond b (Some (plain_task s.1.now)) (type_named (plain_types rest) id)
pick true s rest id h = refl
pick false s rest id h = h

-- the task type of a name
pub named_is : (names : List (ℕ × Bor TaskUnit)) → AreNamed names → (id : NameId) → option_map (λ (t : Bor TaskUnit). plain_task t.now) (meaning_in names id.0) ≡ type_named (plain_types names) id
named_is [] h id = refl
named_is (s ∷ rest) h id =
    pick (s.0 == id.0) s rest id (named_is rest h.1 id)
    ∙ ap (λ (n : ℕ). cond (n == id.0) (Some (plain_task s.1.now)) (type_named (plain_types rest) id)) h.0

parts_next : (kinds : List PTask) (d : PDecl) (rest : PDecls) → task_names_in kinds (decl_then d rest) ≡ decl_task_names kinds d ++ task_names_in (decl_types kinds d) rest
parts_next kinds (DNumber w e s) rest = refl
parts_next kinds (DObject ws c x i s) rest = refl
parts_next kinds (DEnumeration w ws s) rest = refl
parts_next kinds (DArray w r x s) rest = refl
parts_next kinds (DSubtype w x s) rest = refl
parts_next kinds (DException ws s) rest = refl
parts_next kinds (DIntIo w s) rest = refl
parts_next kinds (DPragma e s) rest = refl
parts_next kinds (DTask t s) rest = refl
parts_next kinds (DTaskBody w objects its s) rest = refl

pub parts_more : (xs : List Decl) (i : ℕ) (x : Decl) (before after all : List NamedTasks) (kinds more : List PTask) → drop i xs ≡ x ∷ drop (i + 1) xs
    → before ++ task_names_in kinds (decls_of (map plain_decl (drop i xs))) ≡ all
    → after ≡ before ++ decl_task_names kinds (plain_decl x)
    → more ≡ decl_types kinds (plain_decl x)
    → after ++ task_names_in more (decls_of (map plain_decl (drop (i + 1) xs))) ≡ all
parts_more xs i x before after all kinds more is_cut told is_after is_more =
    let rest = decls_of (map plain_decl (drop (i + 1) xs)) in
    ap (λ k. after ++ task_names_in k rest) is_more
    ∙ ap (λ a. a ++ task_names_in (decl_types kinds (plain_decl x)) rest) is_after
    ∙ append_assoc before (decl_task_names kinds (plain_decl x)) (task_names_in (decl_types kinds (plain_decl x)) rest)
    ∙ ap (λ l. before ++ l) (sym (parts_next kinds (plain_decl x) rest))
    ∙ ap (λ (ys : List Decl). before ++ task_names_in kinds (decls_of (map plain_decl ys))) (sym is_cut)
    ∙ told

pub parts_end : (xs : List Decl) (i : ℕ) (before all : List NamedTasks) (kinds : List PTask) → length xs ≤ i
    → before ++ task_names_in kinds (decls_of (map plain_decl (drop i xs))) ≡ all → before ≡ all
parts_end xs i before all kinds h told =
    sym (append-nil before) ∙ ap (λ (ys : List Decl). before ++ task_names_in kinds (decls_of (map plain_decl ys))) (sym (drop_all i xs h)) ∙ told
