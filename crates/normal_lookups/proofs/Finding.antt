-- What is found in lists that are kept by names.
use Rattle.std.proofs.Common.{◌≡◌, ◌==◌, ◌<◌, ◌+◌, ℕ, Bool, true, false, List, [], ◌∷◌, map, drop, find, get_or, length, Option, Some, None, option_map, unwrap_or, if◌then◌else◌, refl, sym, ap, ◌∙◌}
use Rattle.std.specs.Borrow.{Bor}
use Rattle.std.proofs.lemmas.List.{drop_more}
use Rattle.ada_tree.specs.declared.naming.NameId.{NameId}
use Rattle.ada_tree.specs.declared.declarations.Drange.{Drange}
use Rattle.ada_tree.specs.declared.static_types.Mark.{Mark}
use Rattle.ada_tree.specs.TypeTable.{TypeTable}
use Rattle.ada_static_rules.specs.Scope.{and_then}
use Rattle.ada_tree.specs.PlainExpr.{PDrange, plain_drange}
use Rattle.ada_tree.specs.PlainProgram.{PProgram}
use Rattle.syn_event.specs.NamedTasks.{NamedTasks, task_names_of}
use Rattle.ada_task_numbers.specs.declared.task_objects.task_names.NamedTasks as kept
use Rattle.ada_task_numbers.specs.task_objects.PlainNames.{plain_named_tasks}
use Rattle.scoped_names.specs.Meaning.{meaning_in}
use Rattle.normal_model.specs.Ranges.{array_range, kind_name}
use Rattle.normal_lookups.specs.inner.Kept.{kinds_named, ranges_named, seen_range}

-- an element of what is made of a list is made of what is found in the list
pub find_made : {X Y : Type 0} (p : Y → Bool) (f : X → Y) (xs : List X) → find p (map f xs) ≡ option_map f (find (λ x. p (f x)) xs)
find_made p f [] = refl
find_made p f (x ∷ xs) = by (p (f x)) (find_made p f xs)
  where
    by : (b : Bool) → find p (map f xs) ≡ option_map f (find (λ x. p (f x)) xs) → (if b then Some (f x) else find p (map f xs)) ≡ option_map f (if b then Some x else find (λ x. p (f x)) xs)
    by true e = refl
    by false e = e

-- one more in front of what stands behind a place
pub made_in_front : {X Y : Type 0} (f : X → Y) (xs : List X) (i : ℕ) (d : X) (ys : List Y) → i < length xs → ys ≡ map f (drop (i + 1) xs) → f (get_or xs i d) ∷ ys ≡ map f (drop i xs)
made_in_front f xs i d ys lt so_far = ap (λ l. f (get_or xs i d) ∷ l) so_far ∙ sym (ap (map f) (drop_more xs i d lt))

-- what is kept for names is what is found by the name
pub meaning_made : {X Y Z : Type 0} (see : X → Z) (name : Y → ℕ) (what : Y → Z) (kept : List (ℕ × X)) (ys : List Y) (k : ℕ) →
    map (λ (s : ℕ × X). let seen : ℕ × Z = (s.0, see s.1) in seen) kept ≡ map (λ y. let named : ℕ × Z = (name y, what y) in named) ys →
    option_map see (meaning_in kept k) ≡ option_map what (find (λ y. name y == k) ys)
meaning_made {X} {Y} {Z} see name what kept ys k same =
    sym (first (find (λ s. s.0 == k) kept))
    ∙ ap (option_map (λ (s : ℕ × Z). s.1)) (sym (find_made (λ (s : ℕ × Z). s.0 == k) (λ (s : ℕ × X). let seen : ℕ × Z = (s.0, see s.1) in seen) kept) ∙ ap (find (λ (s : ℕ × Z). s.0 == k)) same ∙ find_made (λ (s : ℕ × Z). s.0 == k) (λ y. let named : ℕ × Z = (name y, what y) in named) ys)
    ∙ second (find (λ y. name y == k) ys)
  where
    first : (o : Option (ℕ × X)) → option_map (λ (s : ℕ × Z). s.1) (option_map (λ (s : ℕ × X). let seen : ℕ × Z = (s.0, see s.1) in seen) o) ≡ option_map see (option_map (λ (s : ℕ × X). s.1) o)
    first None = refl
    first (Some s) = refl

    second : (o : Option Y) → option_map (λ (s : ℕ × Z). s.1) (option_map (λ y. let named : ℕ × Z = (name y, what y) in named) o) ≡ option_map what o
    second None = refl
    second (Some y) = refl

-- ---- kinds and ranges

-- what an option of an option has
abbrev pub joined : {X : Type 0} → Option (Option X) → Option X
joined None = None
joined (Some o) = o

-- the declared name of a kind
pub kind_is : (types : TypeTable) (names : List (ℕ × Option NameId)) (k : ℕ) (o : Option (Option NameId)) → meaning_in names k ≡ o → names ≡ kinds_named types → unwrap_or (joined o) (record { 0 = 0 }) ≡ kind_name types k
kind_is types names k o found same =
    ap (λ x. unwrap_or (joined x) (record { 0 = 0 })) (sym found ∙ sym (plain (meaning_in names k)) ∙ meaning_made (λ x. x) (λ m. m.kind) (λ m. m.name) names types.marks k (each names ∙ same))
    ∙ by (find (λ m. m.kind == k) types.marks)
  where
    plain : (x : Option (Option NameId)) → option_map (λ y. y) x ≡ x
    plain None = refl
    plain (Some y) = refl

    each : (l : List (ℕ × Option NameId)) → map (λ (s : ℕ × Option NameId). let seen : ℕ × Option NameId = (s.0, s.1) in seen) l ≡ l
    each [] = refl
    each (s ∷ l) = ap (λ r. s ∷ r) (each l)

    by : (x : Option Mark) → unwrap_or (joined (option_map (λ m. m.name) x)) (record { 0 = 0 }) ≡ unwrap_or (and_then (λ m. m.name) x) (record { 0 = 0 })
    by None = refl
    by (Some m) = refl

-- the range of an array of tasks
pub range_is : (p : PProgram) (ranges : List (ℕ × Option (Bor Drange))) (name : NameId) (o : Option (Option (Bor Drange))) → meaning_in ranges name.0 ≡ o → map seen_range ranges ≡ ranges_named p → option_map (λ r. plain_drange r.now) (joined o) ≡ array_range p name
range_is p ranges name o found same =
    inside o
    ∙ ap joined (ap (option_map (option_map (λ r. plain_drange r.now))) (sym found) ∙ meaning_made (option_map (λ r. plain_drange r.now)) (λ x. x.name.name.0) (λ x. x.index_range) ranges (task_names_of p) name.0 same)
    ∙ by (find (λ x. x.name.name.0 == name.0) (task_names_of p))
  where
    inside : (x : Option (Option (Bor Drange))) → option_map (λ r. plain_drange r.now) (joined x) ≡ joined (option_map (option_map (λ r. plain_drange r.now)) x)
    inside None = refl
    inside (Some y) = refl

    by : (x : Option NamedTasks) → joined (option_map (λ y. y.index_range) x) ≡ and_then (λ y. y.index_range) x
    by None = refl
    by (Some y) = refl

-- ranges by their names, as they are kept
abbrev pub range_of_kept : kept.NamedTasks → ℕ × Option (Bor Drange)
range_of_kept x = (x.name.name.0, x.index_range)

abbrev pub range_of_named : NamedTasks → ℕ × Option PDrange
range_of_named x = (x.name.name.0, x.index_range)

pub ranges_seen : (parts : List kept.NamedTasks) → map seen_range (map range_of_kept parts) ≡ map range_of_named (map plain_named_tasks parts)
ranges_seen [] = refl
ranges_seen (x ∷ parts) = ap (λ l. seen_range (range_of_kept x) ∷ l) (ranges_seen parts)
