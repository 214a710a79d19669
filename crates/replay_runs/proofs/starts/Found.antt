-- Tasks and entries of a replay text as they are found by their names.
use Rattle.std.proofs.Common.{◌≡◌, ◌==◌, Bool, true, false, cond, List, [], ◌∷◌, ◌++◌, map, find, option_map, Option, Some, None, refl, ap, ap₂, ◌∙◌}
use Rattle.std.specs.List.{AllByRecursion}
use Rattle.ada_tree.specs.declared.naming.NameId.{NameId}
use Rattle.ada_tree.specs.PlainDecl.{PEntry, PTask}
use Rattle.ada_tree.specs.PlainProgram.{PProgram}
use Rattle.ada_static_rules.specs.StaticValue.{first_of_two}
use Rattle.task_model.specs.Setting.{formals_of_entry, formals_in}
use Rattle.replay_model.specs.Names.{never_text, join_text, double_word, added_id}
use Rattle.replay_model.specs.ReplayTree.{double_entry}
use Rattle.replay_model.specs.Controlling.{added_entry}
use Rattle.replay_structure.proofs.texts.Listed.{more_task}
use Rattle.ada_static_rules.proofs.found_twice.FirstOfTwo.{first_or_none}
use Rattle.common_lemmas.proofs.Lists.{found_none}

-- ---- lists

-- the first of a list is found, or passed over
pub picked : {A : Type 0} (p : A → Bool) (x : A) (xs : List A) → p x ≡ true → find p (x ∷ xs) ≡ Some x
picked p x xs e = ap (λ (b : Bool). cond b (Some x) (find p xs)) e

pub skipped : {A : Type 0} (p : A → Bool) (x : A) (xs : List A) → p x ≡ false → find p (x ∷ xs) ≡ find p xs
skipped p x xs e = ap (λ (b : Bool). cond b (Some x) (find p xs)) e

-- two lists one behind the other
find-joined : {A : Type 0} (p : A → Bool) (xs ys : List A) → find p (xs ++ ys) ≡ first_of_two (find p xs) (find p ys)
find-joined p [] ys = refl
find-joined p (x ∷ xs) ys = by_test (p x) (find-joined p xs ys)
  where
    by_test : (b : Bool) → find p (xs ++ ys) ≡ first_of_two (find p xs) (find p ys) → cond b (Some x) (find p (xs ++ ys)) ≡ first_of_two (cond b (Some x) (find p xs)) (find p ys)
    by_test true e = refl
    by_test false e = e

-- what is made of each, where the tests are the same
find-mapped : {A B : Type 0} (f : A → B) (p : B → Bool) (r : A → Bool) (xs : List A) → AllByRecursion (λ x. p (f x) ≡ r x) xs → find p (map f xs) ≡ option_map f (find r xs)
find-mapped f p r [] h = refl
find-mapped f p r (x ∷ xs) h = ap (λ (b : Bool). cond b (Some (f x)) (find p (map f xs))) h.0 ∙ by_test (r x) (find-mapped f p r xs h.1)
  where
    by_test : (b : Bool) → find p (map f xs) ≡ option_map f (find r xs) → cond b (Some (f x)) (find p (map f xs)) ≡ option_map f (cond b (Some x) (find r xs))
    by_test true e = refl
    by_test false e = e

first-alone : {A : Type 0} (o : Option A) → first_of_two (first_of_two o None) None ≡ o
first-alone None = refl
first-alone (Some x) = refl

all-mapped-false : {A B : Type 0} (f : A → B) (p : B → Bool) (xs : List A) → AllByRecursion (λ x. p (f x) ≡ false) xs → AllByRecursion (λ y. p y ≡ false) (map f xs)
all-mapped-false f p [] h = tt
all-mapped-false f p (x ∷ xs) h = (h.0, all-mapped-false f p xs h.1)

-- ---- tasks

module _ (q : PProgram) (added : List PTask) (id : NameId) where
  -- the task has that name
  abbrev has_it : PTask → Bool
  has_it t = t.name.name.0 == id.0

  -- a task that is found is found with further entries
  pub among-more : (ts : List PTask) (t : PTask) → find has_it ts ≡ Some t → find has_it (map (more_task q) ts ++ added) ≡ Some (more_task q t)
  among-more ts t e =
      find-joined has_it (map (more_task q) ts) added
      ∙ ap (λ o. first_of_two o (find has_it added)) (find-mapped (more_task q) has_it has_it ts (same ts) ∙ ap (option_map (more_task q)) e)
    where
      same : (ts : List PTask) → AllByRecursion (λ t. has_it (more_task q t) ≡ has_it t) ts
      same [] = tt
      same (t ∷ ts) = (refl, same ts)

  -- and where there is none one of the added tasks is found
  pub none-more : (ts : List PTask) → AllByRecursion (λ t. has_it t ≡ false) ts → find has_it (map (more_task q) ts ++ added) ≡ find has_it added
  none-more ts h =
      find-joined has_it (map (more_task q) ts) added
      ∙ ap (λ o. first_of_two o (find has_it added)) (found_none has_it (map (more_task q) ts) (all-mapped-false (more_task q) has_it ts h))

-- ---- entries

module _ (q : PProgram) (t : PTask) (name : NameId) where
  -- the entry has that name, and so has its double
  abbrev pub is_it : PEntry → Bool
  is_it e = e.name.name.0 == name.0

  abbrev pub double_is : PEntry → Bool
  double_is e = (double_word q e.name).name.0 == name.0

  abbrev never : PEntry
  never = added_entry q t.name.span never_text None []

  abbrev join : PEntry
  join = added_entry q t.name.span join_text None []

  abbrev last : List PEntry
  last = never ∷ join ∷ []

  whole : (a b c : Option PEntry) → find is_it t.entries ≡ a → find is_it (map (double_entry q) t.entries) ≡ b → find is_it last ≡ c → formals_in (Some (more_task q t)) name ≡ formals_of_entry (first_of_two (first_of_two a b) c)
  whole a b c e f g =
      ap formals_of_entry
      (find-joined is_it (t.entries ++ map (double_entry q) t.entries) last
      ∙ ap₂ first_of_two (find-joined is_it t.entries (map (double_entry q) t.entries) ∙ ap₂ first_of_two e f) g)

  none-doubled : AllByRecursion (λ e. double_is e ≡ false) t.entries → find is_it (map (double_entry q) t.entries) ≡ None
  none-doubled h = found_none is_it (map (double_entry q) t.entries) (all-mapped-false (double_entry q) is_it t.entries h)

  none-last : ((added_id q never_text).0 == name.0) ≡ false → ((added_id q join_text).0 == name.0) ≡ false → find is_it last ≡ None
  none-last e f = skipped is_it never (join ∷ []) e ∙ skipped is_it join [] f

  -- a name that no added entry has finds what it found
  pub own-formals : AllByRecursion (λ e. double_is e ≡ false) t.entries → ((added_id q never_text).0 == name.0) ≡ false → ((added_id q join_text).0 == name.0) ≡ false → formals_in (Some (more_task q t)) name ≡ formals_in (Some t) name
  own-formals h e f = whole (find is_it t.entries) None None refl (none-doubled h) (none-last e f) ∙ ap formals_of_entry (first-alone (find is_it t.entries))

  -- the name of a double finds the double of what another name finds
  pub double-formals : (other : NameId) → AllByRecursion (λ e. is_it e ≡ false) t.entries → AllByRecursion (λ e. double_is e ≡ (e.name.name.0 == other.0)) t.entries →
      ((added_id q never_text).0 == name.0) ≡ false → ((added_id q join_text).0 == name.0) ≡ false → formals_in (Some (more_task q t)) name ≡ formals_in (Some t) other
  double-formals other n d e f =
      let found : Option PEntry = find (λ (x : PEntry). x.name.name.0 == other.0) t.entries in
      whole None (option_map (double_entry q) found) None (found_none is_it t.entries n) (find-mapped (double_entry q) is_it (λ x. x.name.name.0 == other.0) t.entries d) (none-last e f)
      ∙ ap formals_of_entry (first_or_none (option_map (double_entry q) found))
      ∙ doubled found
    where
      doubled : (o : Option PEntry) → formals_of_entry (option_map (double_entry q) o) ≡ formals_of_entry o
      doubled None = refl
      doubled (Some x) = refl

  -- the two more have no formals
  pub never-formals : AllByRecursion (λ e. is_it e ≡ false) t.entries → AllByRecursion (λ e. double_is e ≡ false) t.entries → ((added_id q never_text).0 == name.0) ≡ true → formals_in (Some (more_task q t)) name ≡ []
  never-formals n d e = whole None None (Some never) (found_none is_it t.entries n) (none-doubled d) (picked is_it never (join ∷ []) e)

  pub join-formals : AllByRecursion (λ e. is_it e ≡ false) t.entries → AllByRecursion (λ e. double_is e ≡ false) t.entries → ((added_id q never_text).0 == name.0) ≡ false → ((added_id q join_text).0 == name.0) ≡ true →
      formals_in (Some (more_task q t)) name ≡ []
  join-formals n d e f = whole None None (Some join) (found_none is_it t.entries n) (none-doubled d) (skipped is_it never (join ∷ []) e ∙ picked is_it join [] f)
