-- What is refused first at names that are declared, at the names of an abort statement, and at the alternatives of a wait by their number.
use Rattle.std.specs.Prelude.{◌≡◌, ℕ, ◌+◌, ◌-◌, ◌<◌, ◌≤◌, ◌==◌, Bool, true, false, List, [], ◌∷◌, length, map, drop, get_or, Option, refl}
use Rattle.std.proofs.Common.{sym, ap, ◌∙◌, arith}
use Rattle.std.proofs.lemmas.Bool.Decides.{nat_tests}
use Rattle.std.proofs.lemmas.List.{drop_more, drop_all, map-append, length-map, length-drop}
use Rattle.ada_tree.specs.declared.naming.Span.{Span}
use Rattle.ada_tree.specs.declared.naming.Word.{Word}
use Rattle.ada_tree.specs.declared.statements.Formal.{Formal}
use Rattle.ada_tree.specs.declared.statements.Callee.{Callee}
use Rattle.ada_tree.specs.declared.statements.Alt.{Alt}
use Rattle.ada_tree.specs.PlainStmt.{PFormal, PCallee, plain_formal, plain_callee, plain_alt, alts_of}
use Rattle.syn_event.specs.declared.limits.What.TheVariants.{Alternatives}
use Rattle.syn_event.specs.CheckRefusals.{CheckRefusal}
use Rattle.syn_event.specs.CheckScope.{CheckScope, CheckSite, declares, aborts_before, counts}
use Rattle.syn_event.specs.CheckSites.{site, names_sites, formal_names, callee_sites, aborted_sites, numbered, alt_places}
use Rattle.ada_check_rules.specs.rules.Sooner.{sooner}
use Rattle.ada_check_rules.specs.rules.RefusedFirst.{Standard, refused_first_at, refused_first}
use Rattle.ada_check_places.specs.parts.inner.Aborted.{aborted_one}
use Rattle.ada_check_rules.proofs.rules.SoonerLaws.{sooner_none}
use Rattle.ada_check_rules.proofs.rules.Meeting.{met_none, met_cons, met_append}
use Rattle.ada_check_rules.proofs.rules.Listing.{cut, gone, ended, row_more, row_end}

-- ---- names

pub names_more : (by : Standard) (around : CheckScope) (ws : List Word) (i : ℕ) (d : Word) (a b c all : Option CheckRefusal) → i < length ws
    → sooner a (refused_first by (names_sites around (drop i ws))) ≡ all → b ≡ refused_first_at by around (declares (get_or ws i d)) → c ≡ sooner a b
    → sooner c (refused_first by (names_sites around (drop (i + 1) ws))) ≡ all
names_more by around ws i d a b c all h before is_b is_c =
    ap (λ o. sooner o (refused_first by (names_sites around (drop (i + 1) ws)))) is_c
    ∙ gone a b all (refused_first by (names_sites around (drop (i + 1) ws))) (refused_first by (names_sites around (drop i ws)))
    (ap (λ l. refused_first by (names_sites around l)) (drop_more ws i d h)
    ∙ met_cons by around (declares (get_or ws i d)) (names_sites around (drop (i + 1) ws))
    ∙ ap (λ o. sooner o (refused_first by (names_sites around (drop (i + 1) ws)))) (sym is_b))
    before

pub names_end : (by : Standard) (around : CheckScope) (ws : List Word) (i : ℕ) (a all : Option CheckRefusal) → length ws ≤ i → sooner a (refused_first by (names_sites around (drop i ws))) ≡ all → a ≡ all
names_end by around ws i a all h before = ended by a all (names_sites around (drop i ws)) (ap (names_sites around) (drop_all i ws h)) before

-- ---- the names of formals

abbrev formals_sites : CheckScope → List PFormal → List CheckSite
formals_sites around fs = names_sites around (formal_names fs)

formals_next : (by : Standard) (around : CheckScope) (f : PFormal) (fs : List PFormal) → refused_first by (formals_sites around (f ∷ fs)) ≡ sooner (refused_first by (names_sites around f.names)) (refused_first by (formals_sites around fs))
formals_next by around f fs = ap (refused_first by) (map-append (λ w. site around (declares w)) f.names (formal_names fs)) ∙ met_append by (names_sites around f.names) (formals_sites around fs)

pub formals_more : (by : Standard) (around : CheckScope) (fs : List Formal) (i : ℕ) (f : Formal) (names : List Word) (a b c all : Option CheckRefusal) → i < length fs → f ≡ get_or fs i f
    → sooner a (refused_first by (formals_sites around (map plain_formal (drop i fs)))) ≡ all → b ≡ refused_first by (names_sites around names) → names ≡ f.names.items → c ≡ sooner a b
    → sooner c (refused_first by (formals_sites around (map plain_formal (drop (i + 1) fs)))) ≡ all
formals_more by around fs i f names a b c all h is_f before is_b named is_c =
    row_more by plain_formal (formals_sites around) (λ x. refused_first by (names_sites around x.names)) (formals_next by around) fs i f a b c all h is_f before (is_b ∙ ap (λ l. refused_first by (names_sites around l)) named) is_c

pub formals_end : (by : Standard) (around : CheckScope) (fs : List Formal) (i : ℕ) (a all : Option CheckRefusal) → length fs ≤ i → sooner a (refused_first by (formals_sites around (map plain_formal (drop i fs)))) ≡ all → a ≡ all
formals_end by around fs i a all h before = row_end by plain_formal (formals_sites around) (λ x. refused_first by (names_sites around x.names)) (formals_next by around) fs i a all h refl before

-- ---- the names of an abort statement

abbrev is_last : {A : Type 0} → List A → Bool
is_last [] = true
is_last (x ∷ xs) = false

aborted_next : (by : Standard) (around : CheckScope) (k : ℕ) (c : PCallee) (cs : List PCallee)
    → refused_first by (aborted_sites around k (c ∷ cs)) ≡ sooner (refused_first by (aborted_one around k c (is_last cs))) (refused_first by (aborted_sites around k cs))
aborted_next by around k c [] = sym (sooner_none (refused_first by (callee_sites around k c))) ∙ ap (sooner (refused_first by (callee_sites around k c))) (sym (met_none by))
aborted_next by around k c (d ∷ cs) = met_append by (site around (aborts_before c.name) ∷ callee_sites around k c) (aborted_sites around k (d ∷ cs))

last_by_length : {A : Type 0} (xs : List A) → is_last xs ≡ (length xs == 0)
last_by_length [] = refl
last_by_length (x ∷ xs) = grind (arith, nat_tests)

at_end : (i n : ℕ) → i < n → (n - (i + 1) == 0) ≡ (i + 1 == n)
at_end i n h = grind (arith, nat_tests)

last_at : (cs : List Callee) (i : ℕ) → i < length cs → is_last (map plain_callee (drop (i + 1) cs)) ≡ (i + 1 == length cs)
last_at cs i h =
    last_by_length (map plain_callee (drop (i + 1) cs))
    ∙ ap (λ n. n == 0) (length-map (drop (i + 1) cs) plain_callee ∙ length-drop (i + 1) cs)
    ∙ at_end i (length cs) h

pub aborted_more : (by : Standard) (around : CheckScope) (k : ℕ) (cs : List Callee) (i : ℕ) (x : Callee) (last : Bool) (a b c all : Option CheckRefusal) → i < length cs → x ≡ get_or cs i x
    → sooner a (refused_first by (aborted_sites around k (map plain_callee (drop i cs)))) ≡ all → b ≡ refused_first by (aborted_one around k (plain_callee x) last) → last ≡ (i + 1 == length cs) → c ≡ sooner a b
    → sooner c (refused_first by (aborted_sites around k (map plain_callee (drop (i + 1) cs)))) ≡ all
aborted_more by around k cs i x last a b c all h is_x before is_b ends is_c =
    let rest = refused_first by (aborted_sites around k (map plain_callee (drop (i + 1) cs))) in
    ap (λ o. sooner o rest) is_c
    ∙ gone a b all rest (refused_first by (aborted_sites around k (map plain_callee (drop i cs))))
    (ap (λ l. refused_first by (aborted_sites around k (map plain_callee l))) (cut cs i x h is_x)
    ∙ aborted_next by around k (plain_callee x) (map plain_callee (drop (i + 1) cs))
    ∙ ap (λ t. sooner (refused_first by (aborted_one around k (plain_callee x) t)) rest) (last_at cs i h ∙ sym ends)
    ∙ ap (λ o. sooner o rest) (sym is_b))
    before

pub aborted_end : (by : Standard) (around : CheckScope) (k : ℕ) (cs : List Callee) (i : ℕ) (a all : Option CheckRefusal) → length cs ≤ i
    → sooner a (refused_first by (aborted_sites around k (map plain_callee (drop i cs)))) ≡ all → a ≡ all
aborted_end by around k cs i a all h before =
    ended by a all (aborted_sites around k (map plain_callee (drop i cs))) (ap (λ l. aborted_sites around k (map plain_callee l)) (drop_all i cs h)) before

-- ---- the alternatives of a wait by their number

abbrev places_of : List Alt → List Span
places_of xs = alt_places (alts_of (map plain_alt xs))

pub numbers_more : (by : Standard) (around : CheckScope) (xs : List Alt) (i : ℕ) (x : Alt) (a b c all : Option CheckRefusal) → i < length xs → x ≡ get_or xs i x
    → sooner a (refused_first by (numbered around Alternatives i (places_of (drop i xs)))) ≡ all → b ≡ refused_first_at by around (counts Alternatives i 1 x.span) → c ≡ sooner a b
    → sooner c (refused_first by (numbered around Alternatives (i + 1) (places_of (drop (i + 1) xs)))) ≡ all
numbers_more by around xs i x a b c all h is_x before is_b is_c =
    let rest = refused_first by (numbered around Alternatives (i + 1) (places_of (drop (i + 1) xs))) in
    ap (λ o. sooner o rest) is_c
    ∙ gone a b all rest (refused_first by (numbered around Alternatives i (places_of (drop i xs))))
    (ap (λ l. refused_first by (numbered around Alternatives i (places_of l))) (cut xs i x h is_x)
    ∙ met_cons by around (counts Alternatives i 1 x.span) (numbered around Alternatives (i + 1) (places_of (drop (i + 1) xs)))
    ∙ ap (λ o. sooner o rest) (sym is_b))
    before

pub numbers_end : (by : Standard) (around : CheckScope) (xs : List Alt) (i : ℕ) (a all : Option CheckRefusal) → length xs ≤ i → sooner a (refused_first by (numbered around Alternatives i (places_of (drop i xs)))) ≡ all → a ≡ all
numbers_end by around xs i a all h before =
    ended by a all (numbered around Alternatives i (places_of (drop i xs))) (ap (λ l. numbered around Alternatives i (places_of l)) (drop_all i xs h)) before
