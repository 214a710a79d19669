-- Names of the program, and names of the normal form of which no replay text has one of its own, are old.
use Rattle.std.proofs.Common.{◌≡◌, ℕ, ◌<◌, nat_eq, Bool, true, false, not, ◌&&◌, ◌||◌, List, [], ◌∷◌, ◌++◌, length, map, flat_map, slice_get, unwrap_or, codes, Option, Some, None, IsSomeAnd, refl, sym, ap, ap₂, subst, ◌∙◌, true≢false}
use Rattle.std.specs.List.{list_any, starts_with}
use Rattle.std.specs.Str.{bytes_eq}
use Rattle.std.proofs.lemmas.Bool.{lt-ltb, or_from, or_parts}
use Rattle.std.proofs.lemmas.Option.{slice_get_within}
use Rattle.std.proofs.lemmas.Slice.Eq.{bytes_eq-Decides}
use Rattle.ada_tree.specs.declared.naming.NameId.{NameId}
use Rattle.ada_tree.specs.TypeTable.{TypeTable}
use Rattle.ada_tree.specs.PlainDecl.{PEntry, PTask}
use Rattle.ada_tree.specs.PlainProgram.{PProgram}
use Rattle.syn_event.specs.Numbering.{Numbering}
use Rattle.syn_event.specs.DeclaredTasks.{text_of, tasks_of}
use Rattle.normal_model.specs.NormalTree.{variables_needed, normal_tree}
use Rattle.normal_laws.specs.structure.types.Own.{own_name}
use Rattle.normal_laws.proofs.structure.numbers.Named.{text-longer, own-within, own-not-added, begins-within}
use Rattle.normal_laws.proofs.structure.numbers.TaskNames.{normal-begins}
use Rattle.normal_laws.specs.runs.forms.Normalisable.{setting_for, made_for}
use Rattle.normal_laws.proofs.structure.placed.Names.{first-named}
use Rattle.normal_laws.proofs.legality.declares_once.Ids.{first-free}
use Rattle.normal_laws.specs.existence.Laws.{IsLegalOriginal}
use Rattle.normal_laws.proofs.legality.checks.Facts as facts
use Rattle.replay_model.specs.Names.{double_text, double_texts}
use Rattle.replay_structure.specs.declares_once.Names.{declared_texts}
use Rattle.replay_structure.proofs.declares_once.Ids.{IsOwn}
use Rattle.replay_structure.proofs.declares_once.Texts.{good-own}
use Rattle.replay_structure.specs.scopes.Names.{new_texts, old_name}
use Rattle.replay_structure.proofs.scopes.Names.{plain-old}

-- ---- texts

none-joined : (f : List ℕ → Bool) (xs ys : List (List ℕ)) → list_any f xs ≡ false → list_any f ys ≡ false → list_any f (xs ++ ys) ≡ false
none-joined f [] ys h k = k
none-joined f (x ∷ xs) ys h k = let r = or_parts (f x) (list_any f xs) h in or_from (f x) (list_any f (xs ++ ys)) r.0 (none-joined f xs ys r.1 k)

abbrev is_double : List ℕ → Bool
is_double t = starts_with nat_eq t (codes "DED_S_")

-- a text that does not begin so is no double
no-double : (t a : List ℕ) → is_double t ≡ false → bytes_eq t (double_text a) ≡ false
no-double t a h = by_test (bytes_eq t (double_text a)) refl
  where
    by_test : (b : Bool) → bytes_eq t (double_text a) ≡ b → b ≡ false
    by_test false e = refl
    by_test true e = absurd (true≢false (sym (ap is_double ((bytes_eq-Decides t (double_text a)).0 e)) ∙ h))

none-doubled : (names : List (List ℕ)) (t : List ℕ) → is_double t ≡ false → (ts : List PTask) → list_any (bytes_eq t) (flat_map (double_texts names) ts) ≡ false
none-doubled names t h [] = refl
none-doubled names t h (x ∷ xs) = none-joined (bytes_eq t) (double_texts names x) (flat_map (double_texts names) xs) (of-entries x.entries) (none-doubled names t h xs)
  where
    of-entries : (es : List PEntry) → list_any (bytes_eq t) (map (λ e. double_text (text_of names e.name.name)) es) ≡ false
    of-entries [] = refl
    of-entries (e ∷ es) = or_from (bytes_eq t (double_text (text_of names e.name.name))) _ (no-double t (text_of names e.name.name) h) (of-entries es)

-- ---- names

module _ (q : PProgram) where
  -- A name of which no replay text has one of its own is old.
  pub new-old : (x : ℕ) → IsOwn q.names x → old_name q x ≡ true
  new-old x o = by_place (slice_get q.names x) refl o
    where
      by_place : (s : Option (List ℕ)) → slice_get q.names x ≡ s → IsSomeAnd s (λ t. (list_any (bytes_eq t) declared_texts || is_double t) ≡ false) → old_name q x ≡ true
      by_place None e k = absurd k
      by_place (Some t) e k =
          let two = or_parts (list_any (bytes_eq t) declared_texts) (is_double t) k in
          let none : list_any (bytes_eq t) (new_texts q) ≡ false = none-joined (bytes_eq t) declared_texts (flat_map (double_texts q.names) (tasks_of q)) two.0 (none-doubled q.names t two.1 (tasks_of q)) in
          let same : text_of q.names (record { 0 = x }) ≡ t = ap (λ (s : Option (List ℕ)). unwrap_or s []) e in
          ap₂ (λ (a b : Bool). a && not b) (lt-ltb x (length q.names) (slice_get_within q.names x t e)) (subst (λ v. list_any (bytes_eq v) (new_texts q) ≡ false) (sym same) none)

module _ (p : PProgram) (types : TypeTable) (numbers : Numbering) where
  -- A name of the program is old.
  pub own-old : (k : ℕ) → own_name p k ≡ true → old_name (normal_tree p types numbers) k ≡ true
  own-old k h =
      let n = normal_tree p types numbers in
      let id : NameId = record { 0 = k } in
      let l : k < length p.names = own-within p k h in
      plain-old n id (begins-within p.names n.names k (normal-begins p types numbers) l)
      (ap (λ t. starts_with nat_eq t (codes "DED_")) (text-longer p.names n.names id (normal-begins p types numbers) l) ∙ own-not-added p id h)

module _ (p : PProgram) (h : IsLegalOriginal p) where
  -- So are the predefined names of a legal program.
  pub first-old : (k : ℕ) → k < 25 → old_name (made_for p) k ≡ true
  first-old k l = new-old (made_for p) k (good-own (setting_for p) (variables_needed (setting_for p)) k (record { there = first-named p.names h.names k l; free = first-free p.names h.names k l }))
