-- The rules 13 to 23 refuse nothing in the program as an original. The declarations are gone through one by one; what is asked of names and of the list of bodies is told apart, and the rest is computed.
use Rattle.std.proofs.Common.{◌≡◌, ◌≢◌, ◌⊎◌, inl, inr, subst, ℕ, zero, suc, ◌+◌, ◌*◌, ◌≤◌, ◌<◌, ◌==◌, Bool, true, false, List, [], ◌∷◌, ◌++◌, Option, Some, None, map, flat_map, find, if◌then◌else◌, refl, sym, ap, ◌∙◌, arith}
use Rattle.std.specs.Prelude.{nat_le, nat_lt}
use Rattle.std.proofs.Math.Nat.{mul-zero}
use Rattle.std.proofs.lemmas.Bool.{ne_eqb, le-leb, le-ltb}
use Rattle.std.proofs.lemmas.Bool.Decides.{eqb_tells}
use Rattle.std.proofs.lemmas.Grind.{flat_map-append}
use Rattle.std.specs.List.{list_any, range_with_len}
use Rattle.ada_tree.specs.declared.naming.NameId.{NameId}
use Rattle.ada_tree.specs.TypeTable.{TypeTable}
use Rattle.ada_tree.specs.PlainDecl.{PDecls, decls_of}
use Rattle.ada_static_rules.specs.Refusals.{types_in}
use Rattle.syn_event.specs.declared.numbering.Mode.TheVariants as mode
use Rattle.syn_event.specs.declared.meanings.Meant.{Meant}
use Rattle.syn_event.specs.declared.meanings.Meant.TheVariants.{TaskOf, MainProcedure}
use Rattle.syn_event.specs.NamedTasks.{NamedTasks, named_tasks, task_names_in, task_count}
use Rattle.syn_event.specs.Copying.{body_share, part_share}
use Rattle.syn_event.specs.CheckScope.{EnclosingUnit, CheckScope, CheckSite, declares}
use Rattle.syn_event.specs.CheckSites.{site, decl_sites, decls_sites, body_names, body_sites, after_decls, around_program, tasks_sites, entries_sites, copies_sites, counted_sites, all_copies_sites}
use Rattle.syn_event.specs.CheckRefusals.{refused_at, check_refusals}
use Rattle.load_gen.specs.LoadTree.{nowhere, word, producers, put_entry, task_with, producer_task, producer_body, buffer_task, buffer_body, load_decls, load_body, load_names, load_tree}
use Rattle.load_gen.proofs.Texts.{IsFine, producer-fine}

-- nothing is refused at these places, in an original with those names
abbrev pub IsClean : List (List ℕ) → List CheckSite → Type 0
IsClean names sites = flat_map (refused_at mode.Original names) sites ≡ []

clean-append : (names : List (List ℕ)) (xs ys : List CheckSite) → IsClean names xs → IsClean names ys → IsClean names (xs ++ ys)
clean-append names xs ys f g = flat_map-append (refused_at mode.Original names) xs ys ∙ rw (f, g) refl

-- what stands around the declarations of main behind some
abbrev pub around_at : TypeTable → List (ℕ × Meant) → List EnclosingUnit → CheckScope
around_at types meant units = record { types = types; names = meant; units = units; own = None; accepting = []; loops = []; in_handler = false }

abbrev pub buffer_unit : EnclosingUnit
buffer_unit = record { name = record { 0 = 26 }; entries = record { 0 = 14 } ∷ [] }

-- what B means, and its unit
abbrev pub meant_at : List (ℕ × Meant) → ℕ → Option (ℕ × Meant)
meant_at meant id = find (λ k. k.0 == id) meant

abbrev pub unit_at : List EnclosingUnit → ℕ → Option EnclosingUnit
unit_at units id = find (λ u. u.name.0 == id) units

-- ---- one declaration

buffer_task-clean :
    (names : List (List ℕ)) (types : TypeTable) (bodies : List ℕ) →
    list_any (λ m. m == 26) bodies ≡ true → IsFine names 26 → IsFine names 14 → IsFine names 27 →
    IsClean names (decl_sites (around_at types ((25, MainProcedure) ∷ []) []) bodies buffer_task)
buffer_task-clean names types bodies has f g h = simp (has, f.free, f.short, g.free, g.short, h.free, h.short)

producer_task-clean :
    (names : List (List ℕ)) (types : TypeTable) (meant : List (ℕ × Meant)) (units : List EnclosingUnit) (bodies : List ℕ) (k : ℕ) →
    list_any (λ m. m == (29 + k)) bodies ≡ true → IsFine names (29 + k) →
    IsClean names (decl_sites (around_at types meant units) bodies (producer_task k))
producer_task-clean names types meant units bodies k has f = simp (has, f.free, f.short)

buffer_body-clean :
    (names : List (List ℕ)) (types : TypeTable) (meant : List (ℕ × Meant)) (units : List EnclosingUnit) (bodies : List ℕ) →
    unit_at units 26 ≡ Some buffer_unit → IsFine names 27 → IsFine names 28 →
    IsClean names (decl_sites (around_at types meant units) bodies buffer_body)
buffer_body-clean names types meant units bodies own f g = simp (own, f.free, f.short, g.free, g.short)

producer_body-clean :
    (names : List (List ℕ)) (types : TypeTable) (meant : List (ℕ × Meant)) (units : List EnclosingUnit) (bodies : List ℕ) (k : ℕ) →
    meant_at meant 26 ≡ Some (26, TaskOf (record { 0 = 26 })) → IsFine names 29 →
    IsClean names (decl_sites (around_at types meant units) bodies (producer_body k))
producer_body-clean names types meant units bodies k e f = simp (e, f.free, f.short)

-- ---- all declarations

bodies-clean :
    (names : List (List ℕ)) (types : TypeTable) (meant : List (ℕ × Meant)) (units : List EnclosingUnit) (bodies : List ℕ) (c k : ℕ) →
    meant_at meant 26 ≡ Some (26, TaskOf (record { 0 = 26 })) → IsFine names 29 →
    IsClean names (decls_sites (around_at types meant units) bodies (decls_of (map producer_body (range_with_len k c))))
bodies-clean names types meant units bodies zero k e f = refl
bodies-clean names types meant units bodies (suc c) k e f =
    clean-append names (decl_sites (around_at types meant units) bodies (producer_body k)) (decls_sites (around_at types meant units) bodies (decls_of (map producer_body (range_with_len (k + 1) c))))
    (producer_body-clean names types meant units bodies k e f) (bodies-clean names types meant units bodies c (k + 1) e f)

abbrev later : ℕ → List ℕ → PDecls
later n ks = decls_of (map producer_task ks ++ (buffer_body ∷ map producer_body (producers n)))

-- what is asked of the names of the program with n producers, and of the list of its bodies
pub record AreFit (names : List (List ℕ)) (bodies : List ℕ) (n : ℕ) : Type 0 where
  pub of_buffer : IsFine names 26
  pub put : IsFine names 14
  pub given : IsFine names 27
  pub sum : IsFine names 28
  pub turn : IsFine names 29
  pub producer : (j : ℕ) → 1 ≤ j → j ≤ n → IsFine names (29 + j)
  pub has_buffer : list_any (λ m. m == 26) bodies ≡ true
  pub has : (j : ℕ) → 1 ≤ j → j ≤ n → list_any (λ m. m == (29 + j)) bodies ≡ true

tasks-clean :
    (names : List (List ℕ)) (types : TypeTable) (bodies : List ℕ) (n c k : ℕ) (meant : List (ℕ × Meant)) (units : List EnclosingUnit) →
    AreFit names bodies n → 1 ≤ k → k + c ≡ n + 1 → meant_at meant 26 ≡ Some (26, TaskOf (record { 0 = 26 })) → unit_at units 26 ≡ Some buffer_unit →
    IsClean names (decls_sites (around_at types meant units) bodies (later n (range_with_len k c)))
tasks-clean names types bodies n zero k meant units fit lo e m u =
    clean-append names (decl_sites (around_at types meant units) bodies buffer_body) (decls_sites (around_at types meant units) bodies (decls_of (map producer_body (producers n))))
    (buffer_body-clean names types meant units bodies u fit.given fit.sum) (bodies-clean names types meant units bodies n 1 m fit.turn)
tasks-clean names types bodies n (suc c) k meant units fit lo e m u =
    let other : ((29 + k) == 26) ≡ false = ne_eqb (29 + k) 26 (λ e. omega arith) in
    let meant' : List (ℕ × Meant) = (29 + k, TaskOf (record { 0 = 29 + k })) ∷ meant in
    let units' : List EnclosingUnit = record { name = record { 0 = 29 + k }; entries = [] } ∷ units in
    clean-append names (decl_sites (around_at types meant units) bodies (producer_task k)) (decls_sites (around_at types meant' units') bodies (later n (range_with_len (k + 1) c)))
    (producer_task-clean names types meant units bodies k (fit.has k lo (omega arith)) (fit.producer k lo (omega arith)))
    (tasks-clean names types bodies n c (k + 1) meant' units' fit (omega arith) (omega arith) (rw other m) (rw other u))

-- ---- the names of tasks

abbrev pub named_buffer : NamedTasks
named_buffer = named_tasks (word 26) nowhere (task_with 26 (put_entry ∷ [])) None

abbrev pub named_producer : ℕ → NamedTasks
named_producer k = named_tasks (word (29 + k)) nowhere (task_with (29 + k) []) None

bodies-unnamed : (c k : ℕ) → task_names_in [] (decls_of (map producer_body (range_with_len k c))) ≡ []
bodies-unnamed zero k = refl
bodies-unnamed (suc c) k = bodies-unnamed c (k + 1)

tasks-named : (n c k : ℕ) → task_names_in [] (later n (range_with_len k c)) ≡ map named_producer (range_with_len k c)
tasks-named n zero k = bodies-unnamed n 1
tasks-named n (suc c) k = ap (λ xs. named_producer k ∷ xs) (tasks-named n c (k + 1))

pub names-of_tasks : (n : ℕ) → task_names_in [] (decls_of (load_decls n)) ≡ named_buffer ∷ map named_producer (producers n)
names-of_tasks n = ap (λ xs. named_buffer ∷ xs) (tasks-named n n 1)

-- ---- what is counted over the whole

tasks-counted : (names : List (List ℕ)) (around : CheckScope) (c k m : ℕ) → m + c ≤ 200 → IsClean names (tasks_sites around m (map named_producer (range_with_len k c)))
tasks-counted names around zero k m le = refl
tasks-counted names around (suc c) k m le =
    let here : nat_le m 200 ≡ true = le-leb m 200 (omega arith) in
    let more : nat_lt 200 (m + 1) ≡ false = le-ltb 200 (m + 1) (omega arith) in
    simp (here, more) (tasks-counted names around c (k + 1) (m + 1) (omega arith))

entries-counted : (names : List (List ℕ)) (around : CheckScope) (c k m : ℕ) → IsClean names (entries_sites around m (map named_producer (range_with_len k c)))
entries-counted names around zero k m = refl
entries-counted names around (suc c) k m = entries-counted names around c (k + 1) (m + 0)

copies-counted :
    (names : List (List ℕ)) (around : CheckScope) (share : NamedTasks → ℕ) → ((x : NamedTasks) → share x ≡ 0) → (xs : List NamedTasks) →
    IsClean names (copies_sites around share 0 xs)
copies-counted names around share none [] = refl
copies-counted names around share none (x ∷ xs) = rw (none x) (copies-counted names around share none xs)

-- no body has a place, and none calls a member of an array, so none counts
if_zero : (b : Bool) (x y : ℕ) → x ≡ 0 → y ≡ 0 → (if b then x else y) ≡ 0
if_zero true x y e f = e
if_zero false x y e f = f

bodies-share : (types : TypeTable) (parts : List NamedTasks) (id : NameId) (c k : ℕ) → body_share types parts (decls_of (map producer_body (range_with_len k c))) id ≡ 0
bodies-share types parts id zero k = refl
bodies-share types parts id (suc c) k = if_zero ((29 + k) == id.0) 0 (body_share types parts (decls_of (map producer_body (range_with_len (k + 1) c))) id) refl (bodies-share types parts id c (k + 1))

tasks-share : (types : TypeTable) (parts : List NamedTasks) (id : NameId) (n c k : ℕ) → body_share types parts (later n (range_with_len k c)) id ≡ 0
tasks-share types parts id n zero k = if_zero (26 == id.0) 0 (body_share types parts (decls_of (map producer_body (producers n))) id) refl (bodies-share types parts id n 1)
tasks-share types parts id n (suc c) k = tasks-share types parts id n c (k + 1)

no_share : (types : TypeTable) (parts : List NamedTasks) (n : ℕ) (x : NamedTasks) → part_share types parts (decls_of (load_decls n)) x ≡ 0
no_share types parts n x = ap (λ s. task_count types x * s) (tasks-share types parts x.unit.name.name n n 1) ∙ mul-zero (task_count types x)

counted : (names : List (List ℕ)) (around : CheckScope) (n : ℕ) → n ≤ 100 → IsClean names (counted_sites around (load_tree n))
counted names around n le =
    let parts : List NamedTasks = named_buffer ∷ map named_producer (producers n) in
    subst (λ parts. IsClean names (tasks_sites around 0 parts ++ entries_sites around 0 parts ++ all_copies_sites around parts (load_tree n))) (sym (names-of_tasks n))
    (clean-append names (tasks_sites around 0 parts ++ entries_sites around 0 parts) (all_copies_sites around parts (load_tree n))
    (clean-append names (tasks_sites around 0 parts) (entries_sites around 0 parts) (tasks-counted names around n 1 1 (omega arith)) (entries-counted names around n 1 1))
    (copies-counted names around (part_share around.types parts (decls_of (load_decls n))) (no_share around.types parts n) parts))

-- ---- the whole

-- the names of the bodies
tasks-bodies : (n c k : ℕ) → body_names (later n (range_with_len k c)) ≡ 26 ∷ body_names (decls_of (map producer_body (producers n)))
tasks-bodies n zero k = refl
tasks-bodies n (suc c) k = tasks-bodies n c (k + 1)

bodies-have : (c k j : ℕ) → k ≤ j → j < k + c → list_any (λ m. m == (29 + j)) (body_names (decls_of (map producer_body (range_with_len k c)))) ≡ true
bodies-have zero k j lo hi = absurd (omega arith)
bodies-have (suc c) k j lo hi = by_test (eqb_tells (29 + k) (29 + j)) (λ ne. bodies-have c (k + 1) j (omega arith) (omega arith))
  where
    by_test :
        (((29 + k) == (29 + j)) ≡ true) × (29 + k ≡ 29 + j) ⊎ (((29 + k) == (29 + j)) ≡ false) × (29 + k ≢ 29 + j) →
        ((29 + k ≢ 29 + j) → list_any (λ m. m == (29 + j)) (body_names (decls_of (map producer_body (range_with_len (k + 1) c)))) ≡ true) →
        list_any (λ m. m == (29 + j)) (body_names (decls_of (map producer_body (range_with_len k (suc c))))) ≡ true
    by_test (inl (t, e)) rest = rw t refl
    by_test (inr (f, ne)) rest = rw f (rest ne)

names-fit : (n : ℕ) → n ≤ 100 → AreFit (load_names n) (body_names (decls_of (load_decls n))) n
names-fit n le = record {
  of_buffer = record { free = refl; short = refl };
  put = record { free = refl; short = refl };
  given = record { free = refl; short = refl };
  sum = record { free = refl; short = refl };
  turn = record { free = refl; short = refl };
  producer = λ j lo hi. producer-fine n j le lo hi;
  has_buffer = rw (tasks-bodies n n 1) refl;
  has = λ j lo hi. let other : (26 == (29 + j)) ≡ false = ne_eqb 26 (29 + j) (λ e. omega arith) in rw (tasks-bodies n n 1, other) (bodies-have n 1 j lo (omega arith));
}

pub checked : (n : ℕ) → n ≤ 100 → check_refusals (load_tree n) mode.Original ≡ []
checked n le =
    let names : List (List ℕ) = load_names n in
    let bodies : List ℕ = body_names (decls_of (load_decls n)) in
    let types : TypeTable = types_in (load_tree n) in
    let around : CheckScope = around_program (load_tree n) in
    let fit : AreFit names bodies n = names-fit n le in
    let meant : List (ℕ × Meant) = (26, TaskOf (record { 0 = 26 })) ∷ (25, MainProcedure) ∷ [] in
    let units : List EnclosingUnit = buffer_unit ∷ [] in
    let head : CheckSite = site around (declares (word 25)) in
    let rest : List CheckSite = decls_sites (around_at types meant units) bodies (later n (producers n)) in
    let main : List CheckSite = body_sites (after_decls around (decls_of (load_decls n))) 1 load_body in
    clean-append names (head ∷ decls_sites around bodies (decls_of (load_decls n)) ++ main) (counted_sites around (load_tree n))
    (clean-append names (head ∷ decls_sites around bodies (decls_of (load_decls n))) main
    (clean-append names (head ∷ []) (decls_sites around bodies (decls_of (load_decls n)))
    refl
    (clean-append names (decl_sites around bodies buffer_task) rest
    (buffer_task-clean names types bodies fit.has_buffer fit.of_buffer fit.put fit.given)
    (tasks-clean names types bodies n n 1 meant units fit (omega arith) (omega arith) refl refl)))
    refl)
    (counted names around n le)
