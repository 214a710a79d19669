-- The first twelve static rules refuse nothing in the program, and its types are the predefined ones. The declarations are gone through one by one: what each looks up in front of it is told apart, and the rest is computed.
use Rattle.std.proofs.Common.{◌≡◌, ◌≢◌, ◌⊎◌, inl, inr, subst, ℕ, zero, suc, ◌+◌, ◌≤◌, ◌<◌, ◌==◌, Bool, true, false, List, [], ◌∷◌, ◌++◌, Option, Some, map, find, refl, sym, ap, ◌∙◌, arith, append_assoc}
use Rattle.std.proofs.lemmas.Bool.{ne_eqb, le-ltb}
use Rattle.std.proofs.lemmas.Bool.Decides.{eqb_tells}
use Rattle.std.specs.List.{list_any, range_with_len}
use Rattle.ada_tree.specs.declared.statements.ParMode.TheVariants.{Take}
use Rattle.ada_tree.specs.PlainDecl.{PDecl, PDecls, decls_of, decl_then}
use Rattle.ada_static_rules.specs.Scope.{Scope, NameMeaning, SingleTask, EntryPart, single, TypeMark}
use Rattle.ada_static_rules.specs.Demand.{Site, declares}
use Rattle.ada_static_rules.specs.Declaring.{predefined_types, seen_as, before_all, first_scope, after_decl, after_decls}
use Rattle.ada_static_rules.specs.Sites.{site, decl_sites, decls_sites}
use Rattle.ada_static_rules.specs.RuleDuplicate.{is_among, is_predefined, fixes, introduces}
use Rattle.ada_static_rules.specs.Refusals.{refused_at, refused_from, refusals, types_in}
use Rattle.load_gen.proofs.Ranges.{front_false, rest_false}
use Rattle.load_gen.specs.LoadTree.{word, producer_id, producers, producer_task, producer_body, buffer_task, buffer_body, load_tree}

-- ---- one place after the other

-- places in front of which others stand, the latest first
abbrev pub past : List Site → List Site → List Site
past b [] = b
past b (x ∷ xs) = past (x ∷ b) xs

refused_from-append : (b xs ys : List Site) → refused_from b (xs ++ ys) ≡ refused_from b xs ++ refused_from (past b xs) ys
refused_from-append b [] ys = refl
refused_from-append b (x ∷ xs) ys = ap (λ r. refused_at b x ++ r) (refused_from-append (x ∷ b) xs ys) ∙ sym (append_assoc (refused_at b x) (refused_from (x ∷ b) xs) (refused_from (past (x ∷ b) xs) ys))

-- a declaration in which nothing is refused, in front of others
met-then :
    (b : List Site) (s : Scope) (d : PDecl) (rest : PDecls) (more : List Site) →
    refused_from b (decl_sites s d) ≡ [] → refused_from (past b (decl_sites s d)) (decls_sites (after_decl s d) rest ++ more) ≡ [] →
    refused_from b (decls_sites s (decl_then d rest) ++ more) ≡ []
met-then b s d rest more first then' =
    ap (refused_from b) (append_assoc (decl_sites s d) (decls_sites (after_decl s d) rest) more)
    ∙ refused_from-append b (decl_sites s d) (decls_sites (after_decl s d) rest ++ more)
    ∙ rw (first, then') refl

list_any-past : (p : Site → Bool) (b xs : List Site) → list_any p b ≡ false → list_any p xs ≡ false → list_any p (past b xs) ≡ false
list_any-past p b [] hb h = hb
list_any-past p b (x ∷ xs) hb h = list_any-past p (x ∷ b) xs (rw (front_false (p x) (list_any p xs) h) hb) (rest_false (p x) (list_any p xs) h)

-- ---- scopes of main

-- what can be used where these names are declared, those of main here, and these tasks have bodies
abbrev pub scope_at : List NameMeaning → List ℕ → List ℕ → Scope
scope_at names here bodies = record { types = predefined_types; names = names; here = here; in_main = true; own = []; bodies = bodies; has_instance = false }

-- what a name is looked up as
abbrev pub found : List NameMeaning → ℕ → Option NameMeaning
found names id = find (λ s. s.name == id) names

-- the entry PUT, and the three things that are looked up
abbrev pub put_part : EntryPart
put_part = record { name = record { 0 = 14 }; family = single; formals = record { name = record { 0 = 27 }; mode = Take; mark = record { 0 = 0 }; kind = Some 0 } ∷ [] }

abbrev pub integer_mark : NameMeaning
integer_mark = seen_as (TypeMark 0) 0

abbrev pub buffer : NameMeaning
buffer = seen_as (SingleTask (put_part ∷ [])) 26

abbrev pub producer : ℕ → NameMeaning
producer k = seen_as (SingleTask []) (29 + k)

-- ---- the body of B

buffer-met :
    (b : List Site) (names : List NameMeaning) (here bodies : List ℕ) →
    found names 0 ≡ Some integer_mark → found names 26 ≡ Some buffer → is_among bodies 26 ≡ false → list_any (fixes 27) b ≡ false → list_any (fixes 28) b ≡ false →
    refused_from b (decl_sites (scope_at names here bodies) buffer_body) ≡ []
buffer-met b names here bodies e0 e26 eb e27 e28 = simp (e0, e26, eb, e27, e28)

buffer-fixes :
    (names : List NameMeaning) (here bodies : List ℕ) → found names 0 ≡ Some integer_mark → found names 26 ≡ Some buffer →
    list_any (fixes 29) (decl_sites (scope_at names here bodies) buffer_body) ≡ false
buffer-fixes names here bodies e0 e26 = simp (e0, e26)

buffer-after :
    (names : List NameMeaning) (here bodies : List ℕ) → found names 0 ≡ Some integer_mark →
    after_decl (scope_at names here bodies) buffer_body ≡ scope_at names here (26 ∷ bodies)
buffer-after names here bodies e0 = simp e0

-- ---- the body of a producer

producer-met :
    (b : List Site) (names : List NameMeaning) (here bodies : List ℕ) (k : ℕ) →
    found names 26 ≡ Some buffer → found names (29 + k) ≡ Some (producer k) → is_among bodies (29 + k) ≡ false → list_any (fixes 29) b ≡ false →
    refused_from b (decl_sites (scope_at names here bodies) (producer_body k)) ≡ []
producer-met b names here bodies k e26 ek eb ef = simp (e26, ek, eb, ef)

producer-fixes :
    (names : List NameMeaning) (here bodies : List ℕ) (k : ℕ) → found names 26 ≡ Some buffer →
    list_any (fixes 29) (decl_sites (scope_at names here bodies) (producer_body k)) ≡ false
producer-fixes names here bodies k e26 = simp e26

-- ---- the bodies of all producers

bodies-met :
    (names : List NameMeaning) (here : List ℕ) (c k : ℕ) (b : List Site) (bodies : List ℕ) →
    found names 26 ≡ Some buffer → ((j : ℕ) → k ≤ j → j < k + c → found names (29 + j) ≡ Some (producer j)) →
    ((j : ℕ) → k ≤ j → is_among bodies (29 + j) ≡ false) → list_any (fixes 29) b ≡ false →
    refused_from b (decls_sites (scope_at names here bodies) (decls_of (map producer_body (range_with_len k c))) ++ []) ≡ []
bodies-met names here zero k b bodies e26 declared free ef = refl
bodies-met names here (suc c) k b bodies e26 declared free ef =
    met-then b (scope_at names here bodies) (producer_body k) (decls_of (map producer_body (range_with_len (k + 1) c))) []
    (producer-met b names here bodies k e26 (declared k (omega arith) (omega arith)) (free k (omega arith)) ef)
    (bodies-met names here c (k + 1) (past b (decl_sites (scope_at names here bodies) (producer_body k))) ((29 + k) ∷ bodies) e26
    (λ j lo hi. declared j (omega arith) (omega arith))
    (λ j lo. let other : ((29 + k) == (29 + j)) ≡ false = ne_eqb (29 + k) (29 + j) (λ e. omega arith) in rw other (free j (omega arith)))
    (list_any-past (fixes 29) b (decl_sites (scope_at names here bodies) (producer_body k)) ef (producer-fixes names here bodies k e26)))

-- ---- the tasks of all producers

-- what is so where the producers in front of k are declared
record IsReady (b : List Site) (names : List NameMeaning) (here : List ℕ) (k : ℕ) : Type 0 where
  pub integer : found names 0 ≡ Some integer_mark
  pub of_buffer : found names 26 ≡ Some buffer
  pub declared : (j : ℕ) → 1 ≤ j → j < k → found names (29 + j) ≡ Some (producer j)
  pub not_here : (j : ℕ) → k ≤ j → is_among here (29 + j) ≡ false
  pub not_fixed : (j : ℕ) → k ≤ j → list_any (fixes (29 + j)) b ≡ false
  pub not_introduced : (j : ℕ) → k ≤ j → list_any (introduces (29 + j)) b ≡ false
  pub given : list_any (fixes 27) b ≡ false
  pub sum : list_any (fixes 28) b ≡ false
  pub turn : list_any (fixes 29) b ≡ false

abbrev next_site : List NameMeaning → List ℕ → ℕ → Site
next_site names here k = site (scope_at names here []) (declares true (word (producer_id k)))

-- a producer is found that is declared last, or before
found-more : (k j : ℕ) (names : List NameMeaning) → ((29 + k ≡ 29 + j → ⊥) → found names (29 + j) ≡ Some (producer j)) → found (producer k ∷ names) (29 + j) ≡ Some (producer j)
found-more k j names h = by_test (eqb_tells (29 + k) (29 + j))
  where
    by_test : (((29 + k) == (29 + j)) ≡ true) × (29 + k ≡ 29 + j) ⊎ (((29 + k) == (29 + j)) ≡ false) × (29 + k ≢ 29 + j) → found (producer k ∷ names) (29 + j) ≡ Some (producer j)
    by_test (inl (t, e)) = rw t (ap (λ i. Some (seen_as (SingleTask []) i)) e)
    by_test (inr (f, ne)) = rw f (h ne)

ready-more : (b : List Site) (names : List NameMeaning) (here : List ℕ) (k : ℕ) → 1 ≤ k → IsReady b names here k → IsReady (next_site names here k ∷ b) (producer k ∷ names) ((29 + k) ∷ here) (k + 1)
ready-more b names here k lo r =
    let own : ((29 + k) == 0) ≡ false = ne_eqb (29 + k) 0 (λ e. omega arith) in
    let own26 : ((29 + k) == 26) ≡ false = ne_eqb (29 + k) 26 (λ e. omega arith) in
    let own27 : ((29 + k) == 27) ≡ false = ne_eqb (29 + k) 27 (λ e. omega arith) in
    let own28 : ((29 + k) == 28) ≡ false = ne_eqb (29 + k) 28 (λ e. omega arith) in
    let own29 : ((29 + k) == 29) ≡ false = ne_eqb (29 + k) 29 (λ e. omega arith) in
    let other : (j : ℕ) → k + 1 ≤ j → ((29 + k) == (29 + j)) ≡ false = λ j le. ne_eqb (29 + k) (29 + j) (λ e. omega arith) in
    record {
      integer = rw own r.integer;
      of_buffer = rw own26 r.of_buffer;
      declared = λ j lo' hi. found-more k j names (λ ne. r.declared j lo' (omega arith));
      not_here = λ j le. rw (other j le) (r.not_here j (omega arith));
      not_fixed = λ j le. rw (other j le) (r.not_fixed j (omega arith));
      not_introduced = λ j le. rw (other j le) (r.not_introduced j (omega arith));
      given = rw own27 r.given;
      sum = rw own28 r.sum;
      turn = rw own29 r.turn;
    }

task-met :
    (b : List Site) (names : List NameMeaning) (here : List ℕ) (k : ℕ) → IsReady b names here k →
    refused_from b (decl_sites (scope_at names here []) (producer_task k)) ≡ []
task-met b names here k r =
    let own : is_predefined (29 + k) ≡ false = le-ltb (29 + k) 18 (omega arith) in
    let not_here : is_among here (29 + k) ≡ false = r.not_here k (omega arith) in
    let not_fixed : list_any (fixes (29 + k)) b ≡ false = r.not_fixed k (omega arith) in
    let not_introduced : list_any (introduces (29 + k)) b ≡ false = r.not_introduced k (omega arith) in
    simp (own, not_here, not_fixed, not_introduced)

-- the tasks and all bodies behind them
abbrev later : ℕ → List ℕ → PDecls
later n ks = decls_of (map producer_task ks ++ (buffer_body ∷ map producer_body (producers n)))

not_buffer : (j : ℕ) → (26 == (29 + j)) ≡ false
not_buffer j = ne_eqb 26 (29 + j) (λ e. omega arith)

tasks-met :
    (n c k : ℕ) (b : List Site) (names : List NameMeaning) (here : List ℕ) → 1 ≤ k → k + c ≡ n + 1 → IsReady b names here k →
    refused_from b (decls_sites (scope_at names here []) (later n (range_with_len k c)) ++ []) ≡ []
tasks-met n zero k b names here lo e r =
    met-then b (scope_at names here []) buffer_body (decls_of (map producer_body (producers n))) []
    (buffer-met b names here [] r.integer r.of_buffer refl r.given r.sum)
    (subst (λ s. refused_from (past b (decl_sites (scope_at names here []) buffer_body)) (decls_sites s (decls_of (map producer_body (producers n))) ++ []) ≡ [])
    (sym (buffer-after names here [] r.integer))
    (bodies-met names here n 1 (past b (decl_sites (scope_at names here []) buffer_body)) (26 ∷ []) r.of_buffer
    (λ j lo' hi. r.declared j lo' (omega arith))
    (λ j lo'. rw (not_buffer j) refl)
    (list_any-past (fixes 29) b (decl_sites (scope_at names here []) buffer_body) r.turn (buffer-fixes names here [] r.integer r.of_buffer))))
tasks-met n (suc c) k b names here lo e r =
    met-then b (scope_at names here []) (producer_task k) (later n (range_with_len (k + 1) c)) []
    (task-met b names here k r)
    (tasks-met n c (k + 1) (next_site names here k ∷ b) (producer k ∷ names) ((29 + k) ∷ here) (omega arith) (omega arith) (ready-more b names here k lo r))

-- ---- the whole

-- the places in front of the producers', and the names there
abbrev first_names : List NameMeaning
first_names = buffer ∷ (first_scope (word 25)).names

abbrev first_past : List Site
first_past = past (site before_all (declares true (word 25)) ∷ []) (decl_sites (first_scope (word 25)) buffer_task)

first-ready : IsReady first_past first_names (26 ∷ 25 ∷ []) 1
first-ready =
    let not25 : (j : ℕ) → (25 == (29 + j)) ≡ false = λ j. ne_eqb 25 (29 + j) (λ e. omega arith) in
    let not27 : (j : ℕ) → (27 == (29 + j)) ≡ false = λ j. ne_eqb 27 (29 + j) (λ e. omega arith) in
    record {
      integer = refl;
      of_buffer = refl;
      declared = λ j lo hi. absurd (omega arith);
      not_here = λ j lo. simp (not_buffer j, not25 j);
      not_fixed = λ j lo. simp (not_buffer j, not25 j);
      not_introduced = λ j lo. simp (not_buffer j, not25 j, not27 j);
      given = refl;
      sum = refl;
      turn = refl;
    }

pub met : (n : ℕ) → refusals (load_tree n) ≡ []
met n = tasks-met n n 1 first_past first_names (26 ∷ 25 ∷ []) (omega arith) (omega arith) first-ready

-- ---- the types

bodies-types : (names : List NameMeaning) (here : List ℕ) (c k : ℕ) (bodies : List ℕ) → (after_decls (scope_at names here bodies) (decls_of (map producer_body (range_with_len k c)))).types ≡ predefined_types
bodies-types names here zero k bodies = refl
bodies-types names here (suc c) k bodies = bodies-types names here c (k + 1) ((29 + k) ∷ bodies)

tasks-types : (n c k : ℕ) (names : List NameMeaning) (here : List ℕ) → found names 0 ≡ Some integer_mark → (after_decls (scope_at names here []) (later n (range_with_len k c))).types ≡ predefined_types
tasks-types n zero k names here e0 =
    subst (λ s. (after_decls s (decls_of (map producer_body (producers n)))).types ≡ predefined_types) (sym (buffer-after names here [] e0)) (bodies-types names here n 1 (26 ∷ []))
tasks-types n (suc c) k names here e0 =
    let own : ((29 + k) == 0) ≡ false = ne_eqb (29 + k) 0 (λ e. omega arith) in
    tasks-types n c (k + 1) (producer k ∷ names) ((29 + k) ∷ here) (rw own e0)

pub types : (n : ℕ) → types_in (load_tree n) ≡ predefined_types
types n = tasks-types n n 1 first_names (26 ∷ 25 ∷ []) refl
