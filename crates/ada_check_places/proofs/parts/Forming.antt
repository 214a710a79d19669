-- The form of a wait, told by which alternatives it has.
use Rattle.std.specs.Prelude.{◌≡◌, ℕ, ◌+◌, ◌<◌, ◌≤◌, nat_lt, ◌==◌, Bool, true, false, not, ◌||◌, ◌&&◌, List, [], ◌∷◌, length, map, drop, get_or, count_by, cond, refl}
use Rattle.std.proofs.Common.{sym, ap, ◌∙◌, arith}
use Rattle.std.proofs.lemmas.Bool.Decides.{nat_tests}
use Rattle.std.proofs.lemmas.List.{drop_all}
use Rattle.std.proofs.lemmas.List.Sums.{sum_by-cons}
use Rattle.ada_tree.specs.declared.statements.Alt.{Alt}
use Rattle.ada_tree.specs.PlainStmt.{PAltKind, AAccept, ADelay, ATerminate, plain_alt, plain_alt_kind, alts_of}
use Rattle.syn_event.specs.RuleSelectForm.{alt_kinds, is_accept, is_delay, is_terminate, some, one_if, is_malformed}
use Rattle.ada_check_places.specs.parts.inner.Waiting.{with_kind, no_forms, forms_behind, forms_in, wrong_form}
use Rattle.ada_check_places.specs.declared.parts.waits.Forms.{Forms}
use Rattle.ada_check_rules.proofs.rules.Listing.{cut}
use Rattle.common_lemmas.proofs.Truth.{or_none}

or_true : (b : Bool) → true ≡ (b || true)
or_true true = refl
or_true false = refl

some_more : (n : ℕ) → true ≡ not (1 + n == 0)
some_more n = grind (arith, nat_tests)

accepts_behind : (f : Forms) (xs : List PAltKind) → (forms_behind f xs).accepts ≡ (f.accepts || not (count_by is_accept xs == 0))
accepts_behind f [] = or_none f.accepts
accepts_behind f (AAccept a l ∷ xs) = accepts_behind (with_kind f (AAccept a l)) xs ∙ or_true f.accepts ∙ ap (λ b. f.accepts || b) (some_more (count_by is_accept xs)) ∙ ap (λ n. f.accepts || not (n == 0)) (sym (sum_by-cons (λ x. cond (is_accept x) 1 0) (AAccept a l) xs))
accepts_behind f (ADelay d l ∷ xs) = accepts_behind (with_kind f (ADelay d l)) xs
accepts_behind f (ATerminate ∷ xs) = accepts_behind (with_kind f ATerminate) xs

delays_behind : (f : Forms) (xs : List PAltKind) → (forms_behind f xs).delays ≡ (f.delays || not (count_by is_delay xs == 0))
delays_behind f [] = or_none f.delays
delays_behind f (AAccept a l ∷ xs) = delays_behind (with_kind f (AAccept a l)) xs
delays_behind f (ADelay d l ∷ xs) = delays_behind (with_kind f (ADelay d l)) xs ∙ or_true f.delays ∙ ap (λ b. f.delays || b) (some_more (count_by is_delay xs)) ∙ ap (λ n. f.delays || not (n == 0)) (sym (sum_by-cons (λ x. cond (is_delay x) 1 0) (ADelay d l) xs))
delays_behind f (ATerminate ∷ xs) = delays_behind (with_kind f ATerminate) xs

terminates_behind : (f : Forms) (xs : List PAltKind) → (forms_behind f xs).terminates ≡ (f.terminates || not (count_by is_terminate xs == 0))
terminates_behind f [] = or_none f.terminates
terminates_behind f (AAccept a l ∷ xs) = terminates_behind (with_kind f (AAccept a l)) xs
terminates_behind f (ADelay d l ∷ xs) = terminates_behind (with_kind f (ADelay d l)) xs
terminates_behind f (ATerminate ∷ xs) = terminates_behind (with_kind f ATerminate) xs ∙ or_true f.terminates ∙ ap (λ b. f.terminates || b) (some_more (count_by is_terminate xs)) ∙ ap (λ n. f.terminates || not (n == 0)) (sym (sum_by-cons (λ x. cond (is_terminate x) 1 0) ATerminate xs))

-- one terminate alternative more behind one, or behind none
again_more : (t a : Bool) (n : ℕ) → ((t || a) || nat_lt 1 (n + 1)) ≡ (a || nat_lt 1 ((1 + n) + one_if t))
again_more true true n = refl
again_more true false n = grind (arith, nat_tests)
again_more false true n = refl
again_more false false n = grind (arith, nat_tests)

again_none : (t a : Bool) → a ≡ (a || nat_lt 1 (0 + one_if t))
again_none true true = refl
again_none true false = refl
again_none false true = refl
again_none false false = refl

again_behind : (f : Forms) (xs : List PAltKind) → (forms_behind f xs).again ≡ (f.again || nat_lt 1 (count_by is_terminate xs + one_if f.terminates))
again_behind f [] = again_none f.terminates f.again
again_behind f (AAccept a l ∷ xs) = again_behind (with_kind f (AAccept a l)) xs
again_behind f (ADelay d l ∷ xs) = again_behind (with_kind f (ADelay d l)) xs
again_behind f (ATerminate ∷ xs) = again_behind (with_kind f ATerminate) xs ∙ again_more f.terminates f.again (count_by is_terminate xs)
    ∙ ap (λ n. f.again || nat_lt 1 (n + one_if f.terminates)) (sym (sum_by-cons (λ x. cond (is_terminate x) 1 0) ATerminate xs))

by_numbers : (a t d : ℕ) (e : Bool)
    → ((a == 0) || nat_lt 1 t || nat_lt 1 (some t + some d + one_if e))
    ≡ (not (not (a == 0)) || nat_lt 1 (t + 0) || ((not (t == 0) && not (d == 0)) || (e && (not (t == 0) || not (d == 0)))))
by_numbers a t d true = grind (arith, nat_tests)
by_numbers a t d false = grind (arith, nat_tests)

abbrev wrong : Bool → Bool → Bool → Bool → Bool → Bool
wrong a g t d e = not a || g || ((t && d) || (e && (t || d)))

pub malformed_by : (xs : List PAltKind) (e : Bool) → is_malformed xs e ≡ wrong_form (forms_in xs) e
malformed_by xs e =
    by_numbers (count_by is_accept xs) (count_by is_terminate xs) (count_by is_delay xs) e
    ∙ ap (λ a. wrong a (nat_lt 1 (count_by is_terminate xs + 0)) (not (count_by is_terminate xs == 0)) (not (count_by is_delay xs == 0)) e) (sym (accepts_behind no_forms xs))
    ∙ ap (λ g. wrong (forms_in xs).accepts g (not (count_by is_terminate xs == 0)) (not (count_by is_delay xs == 0)) e) (sym (again_behind no_forms xs))
    ∙ ap (λ t. wrong (forms_in xs).accepts (forms_in xs).again t (not (count_by is_delay xs == 0)) e) (sym (terminates_behind no_forms xs))
    ∙ ap (λ d. wrong (forms_in xs).accepts (forms_in xs).again (forms_in xs).terminates d e) (sym (delays_behind no_forms xs))

-- ---- one alternative after the other

abbrev kinds_in : List Alt → List PAltKind
kinds_in xs = alt_kinds (alts_of (map plain_alt xs))

pub forms_more : (xs : List Alt) (i : ℕ) (x : Alt) (f g all : Forms) → i < length xs → x ≡ get_or xs i x → forms_behind f (kinds_in (drop i xs)) ≡ all → g ≡ with_kind f (plain_alt_kind x.kind) → forms_behind g (kinds_in (drop (i + 1) xs)) ≡ all
forms_more xs i x f g all h is_x before is =
    ap (λ y. forms_behind y (kinds_in (drop (i + 1) xs))) is
    ∙ ap (λ l. forms_behind f (kinds_in l)) (sym (cut xs i x h is_x))
    ∙ before

pub forms_end : (xs : List Alt) (i : ℕ) (f all : Forms) → length xs ≤ i → forms_behind f (kinds_in (drop i xs)) ≡ all → f ≡ all
forms_end xs i f all h before = ap (λ l. forms_behind f (kinds_in l)) (sym (drop_all i xs h)) ∙ before
