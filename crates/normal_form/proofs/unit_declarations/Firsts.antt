-- The first declarations, one after the other, are those of the definition.
use Rattle.std.proofs.Common.{◌≡◌, ◌==◌, ◌+◌, ◌≤◌, ℕ, Bool, true, false, cond, List, [], ◌∷◌, ◌++◌, map, drop, length, find, Some, option_map, is_some, refl, sym, ap, ◌∙◌, append_assoc}
use Rattle.std.proofs.lemmas.List.{drop_all, append-nil}
use Rattle.ada_tree.specs.declared.naming.NameId.{NameId}
use Rattle.ada_tree.specs.declared.declarations.Decl.{Decl}
use Rattle.ada_tree.specs.PlainDecl.{PTask, PDecl, DNumber, DObject, DEnumeration, DArray, DSubtype, DException, DIntIo, DPragma, DTask, DTaskBody, decls_of, plain_decl}
use Rattle.scoped_names.specs.Meaning.{meaning_in}
use Rattle.syn_event.specs.DeclaredTasks.{decl_list}
use Rattle.syn_event.specs.NamedTasks.{type_named, with_type}
use Rattle.normal_model.specs.NormalTree.{first_decls, mark_of, unless_left}
use Rattle.normal_form.specs.unit_declarations.inner.First.{first_list, first_of, known_behind, with_name}

-- the names of task types
abbrev pub names_of : List PTask → List (ℕ × Bool)
names_of kinds = map (λ t. let named : ℕ × Bool = (t.name.name.0, true) in named) kinds

-- a name is known where a task type has it
known_is : (kinds : List PTask) (id : NameId) → is_some (meaning_in (names_of kinds) id.0) ≡ is_some (type_named kinds id)
known_is [] id = refl
known_is (t ∷ kinds) id = by (t.name.name.0 == id.0) (known_is kinds id)
  where
    by : (b : Bool) → is_some (meaning_in (names_of kinds) id.0) ≡ is_some (type_named kinds id) →
        is_some (option_map (λ (s : ℕ × Bool). s.1) (cond b (Some (t.name.name.0, true)) (find (λ (s : ℕ × Bool). s.0 == id.0) (names_of kinds)))) ≡ is_some (cond b (Some t) (type_named kinds id))
    by true e = refl
    by false e = e

with_name_is : (kinds : List PTask) (b : Bool) (t : PTask) → with_name (names_of kinds) b t.name.name.0 ≡ names_of (with_type kinds b t)
with_name_is kinds true t = refl
with_name_is kinds false t = refl

-- a declaration in front of others, unless it is left out
left_out : (b c : Bool) (d : PDecl) (l : List PDecl) (ds : _) → b ≡ c → l ≡ decl_list ds → cond b [] (d ∷ []) ++ l ≡ decl_list (unless_left c d ds)
left_out true true d l ds e same = same
left_out false false d l ds e same = ap (λ r. d ∷ r) same
left_out true false d l ds e same = cc
left_out false true d l ds e same = cc

first_same : (kinds : List PTask) (ds : List PDecl) → first_list (names_of kinds) ds ≡ decl_list (first_decls kinds (decls_of ds))
first_same kinds [] = refl
first_same kinds (DTask t s ∷ ds) = ap (λ known. first_list known ds) (with_name_is kinds t.of_kind t) ∙ first_same (with_type kinds t.of_kind t) ds
first_same kinds (DTaskBody w objects its s ∷ ds) = first_same kinds ds
first_same kinds (DObject names constant shape init s ∷ ds) =
    left_out (is_some (meaning_in (names_of kinds) (mark_of shape).0)) (is_some (type_named kinds (mark_of shape))) (DObject names constant shape init s) (first_list (names_of kinds) ds) (first_decls kinds (decls_of ds)) (known_is kinds (mark_of shape)) (first_same kinds ds)
first_same kinds (DNumber w e s ∷ ds) = ap (λ l. DNumber w e s ∷ l) (first_same kinds ds)
first_same kinds (DEnumeration w ws s ∷ ds) = ap (λ l. DEnumeration w ws s ∷ l) (first_same kinds ds)
first_same kinds (DArray w r x s ∷ ds) = ap (λ l. DArray w r x s ∷ l) (first_same kinds ds)
first_same kinds (DSubtype w x s ∷ ds) = ap (λ l. DSubtype w x s ∷ l) (first_same kinds ds)
first_same kinds (DException ws s ∷ ds) = ap (λ l. DException ws s ∷ l) (first_same kinds ds)
first_same kinds (DIntIo w s ∷ ds) = ap (λ l. DIntIo w s ∷ l) (first_same kinds ds)
first_same kinds (DPragma e s ∷ ds) = ap (λ l. DPragma e s ∷ l) (first_same kinds ds)

-- ---- the loop

-- a declaration more: those so far and those that are left are all
pub first_more : (xs : List Decl) (i : ℕ) (x : Decl) (before after all : List PDecl) (known more : List (ℕ × Bool)) → drop i xs ≡ x ∷ drop (i + 1) xs
    → before ++ first_list known (map plain_decl (drop i xs)) ≡ all
    → after ≡ before ++ first_of known (plain_decl x)
    → more ≡ known_behind known (plain_decl x)
    → after ++ first_list more (map plain_decl (drop (i + 1) xs)) ≡ all
first_more xs i x before after all known more is_cut told is_after is_more =
    let rest = map plain_decl (drop (i + 1) xs) in
    ap (λ k. after ++ first_list k rest) is_more
    ∙ ap (λ a. a ++ first_list (known_behind known (plain_decl x)) rest) is_after
    ∙ append_assoc before (first_of known (plain_decl x)) (first_list (known_behind known (plain_decl x)) rest)
    ∙ ap (λ (ys : List Decl). before ++ first_list known (map plain_decl ys)) (sym is_cut)
    ∙ told

pub first_end : (xs : List Decl) (i : ℕ) (before start : List PDecl) (known : List (ℕ × Bool)) → length xs ≤ i
    → before ++ first_list known (map plain_decl (drop i xs)) ≡ start ++ first_list [] (map plain_decl xs)
    → before ≡ start ++ decl_list (first_decls [] (decls_of (map plain_decl xs)))
first_end xs i before start known h told =
    sym (append-nil before)
    ∙ ap (λ (ys : List Decl). before ++ first_list known (map plain_decl ys)) (sym (drop_all i xs h))
    ∙ told
    ∙ ap (λ l. start ++ l) (first_same [] (map plain_decl xs))
