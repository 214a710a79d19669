-- Parts that are counted, one after the other, as far as limits go.
use Rattle.std.specs.Prelude.{◌≡◌, ℕ, ◌+◌, ◌≤◌, nat_lt, Bool, true, if◌then◌else◌, List, [], ◌∷◌, ◌++◌, length, map, drop, suc, Option, Some, None, refl}
use Rattle.std.proofs.Common.{sym, ap, ◌∙◌, arith}
use Rattle.std.proofs.lemmas.List.{drop_all, map-append, length-map}
use Rattle.ada_tree.specs.declared.naming.Span.{Span}
use Rattle.ada_tree.specs.declared.naming.Word.{Word}
use Rattle.ada_tree.specs.declared.statements.Formal.{Formal}
use Rattle.ada_tree.specs.PlainStmt.{PFormal, plain_formal}
use Rattle.syn_event.specs.declared.numbering.Mode.{Mode}
use Rattle.syn_event.specs.declared.numbering.Mode.TheVariants as mode
use Rattle.syn_event.specs.declared.limits.What.{What}
use Rattle.syn_event.specs.declared.limits.What.TheVariants.{Name, Nesting, Tasks, Entries, Members, Components, Alternatives, Formals, Copies}
use Rattle.syn_event.specs.Limits.{limit_of}
use Rattle.syn_event.specs.RuleLimit.{OverAt, limit_passed}
use Rattle.syn_event.specs.CheckRefusals.{CheckRefusal}
use Rattle.syn_event.specs.CheckScope.{CheckScope, counts, CheckSite}
use Rattle.syn_event.specs.CheckSites.{formal_names, numbered}
use Rattle.ada_check_rules.specs.declared.rules.counting.Counted.{Counted}
use Rattle.ada_check_rules.specs.rules.Amounts.{many, capped}
use Rattle.ada_check_rules.specs.rules.inner.Counted.{IsCounted}
use Rattle.ada_check_rules.specs.rules.Sooner.{sooner, found_over}
use Rattle.ada_check_rules.specs.rules.RefusedFirst.{Standard, refused_first_at, refused_first}
use Rattle.ada_check_rules.proofs.rules.Capping.{capped_twice, capped_left, over_same}
use Rattle.ada_check_rules.proofs.rules.SoonerLaws.{sooner_assoc, sooner_none}
use Rattle.ada_check_rules.proofs.rules.Meeting.{at_counts, met_none, met_cons}
use Rattle.ada_check_rules.proofs.rules.Listing.{gone}
use Rattle.common_lemmas.proofs.Numbers.{lt_is}

-- ---- what is counted as far as limits go is refused as the numbers are

abbrev IsBelow : Option ℕ → Type 0
IsBelow (Some n) = nat_lt n many ≡ true
IsBelow None = Unit {0}

limit_below : (m : Mode) (what : What) → IsBelow (limit_of m what)
limit_below mode.Original Name = refl
limit_below mode.Original Nesting = refl
limit_below mode.Original Tasks = refl
limit_below mode.Original Entries = refl
limit_below mode.Original Members = refl
limit_below mode.Original Components = refl
limit_below mode.Original Alternatives = refl
limit_below mode.Original Formals = refl
limit_below mode.Original Copies = refl
limit_below mode.Any Name = refl
limit_below mode.Any Nesting = refl
limit_below mode.Any Tasks = refl
limit_below mode.Any Entries = refl
limit_below mode.Any Members = refl
limit_below mode.Any Components = refl
limit_below mode.Any Alternatives = refl
limit_below mode.Any Formals = refl
limit_below mode.Any Copies = tt

passed_capped : (what : What) (l : Option ℕ) (b h : ℕ) (s : Span) → IsBelow l → limit_passed what l (capped b) (capped h) s ≡ limit_passed what l b h s
passed_capped what (Some n) b h s le =
    let told : Bool → List OverAt = λ t. if t then record { over = record { what = what; limit = n }; span = s } ∷ [] else [] in
    ap told (over_same n b h (lt_is n many le))
passed_capped what None b h s le = refl

at_capped : (by : Standard) (around : CheckScope) (what : What) (b h : ℕ) (s : Span) → refused_first_at by around (counts what (capped b) (capped h) s) ≡ refused_first_at by around (counts what b h s)
at_capped by around what b h s =
    at_counts by around what (capped b) (capped h) s
    ∙ ap found_over (passed_capped what (limit_of by.mode what) b h s (limit_below by.mode what))
    ∙ sym (at_counts by around what b h s)

-- counts that are the same as far as limits go
pub at_same : (by : Standard) (around : CheckScope) (what : What) (b c h i : ℕ) (s : Span) → capped b ≡ capped c → capped h ≡ capped i → refused_first_at by around (counts what b h s) ≡ refused_first_at by around (counts what c i s)
at_same by around what b c h i s p q =
    sym (at_capped by around what b h s)
    ∙ ap (λ x. refused_first_at by around (counts what x (capped h) s)) p
    ∙ ap (λ y. refused_first_at by around (counts what (capped c) y s)) q
    ∙ at_capped by around what c i s

-- a size that is counted as far as limits go
pub sized : (by : Standard) (around : CheckScope) (what : What) (n m : ℕ) (s t : Span) → n ≡ capped m → s ≡ t → refused_first_at by around (counts what 0 n s) ≡ refused_first_at by around (counts what 0 m t)
sized by around what n m s t h g = at_same by around what 0 0 n m s refl (ap capped h ∙ capped_twice m) ∙ ap (λ x. refused_first_at by around (counts what 0 m x)) g

pub sum_same : (b c w : ℕ) → capped b ≡ capped c → capped (b + w) ≡ capped (c + w)
sum_same b c w h = sym (capped_left b w) ∙ ap (λ x. capped (x + w)) h ∙ capped_left c w

pub right_same : (b v w : ℕ) → capped v ≡ capped w → capped (b + v) ≡ capped (b + w)
right_same b v w h = ap capped (swap b v) ∙ sum_same v w b h ∙ ap capped (swap w b)
  where
    swap : (k l : ℕ) → k + l ≡ l + k
    swap k l = omega arith

-- ---- places of a list with a running count: `each` is what is refused at those of a member, and `weight` what it counts

module _ {B : Type 0} (by : Standard) (places : ℕ → List B → List CheckSite) (each : ℕ → B → Option CheckRefusal) (weight : B → ℕ)
    (none : (n : ℕ) → refused_first by (places n []) ≡ None)
    (next : (n : ℕ) (x : B) (xs : List B) → refused_first by (places n (x ∷ xs)) ≡ sooner (each n x) (refused_first by (places (n + weight x) xs)))
    (same : (b c : ℕ) (x : B) → capped b ≡ capped c → each b x ≡ each c x) where
  pub from_same : (b c : ℕ) (xs : List B) → capped b ≡ capped c → refused_first by (places b xs) ≡ refused_first by (places c xs)
  from_same b c [] h = none b ∙ sym (none c)
  from_same b c (x ∷ xs) h =
      next b x xs
      ∙ ap (λ o. sooner o (refused_first by (places (b + weight x) xs))) (same b c x h)
      ∙ ap (sooner (each c x)) (from_same (b + weight x) (c + weight x) xs (sum_same b c (weight x) h))
      ∙ sym (next c x xs)

  pub count_more : {A : Type 0} (see : A → B) (xs : List A) (i : ℕ) (x : A) (b c : ℕ) (before after all : Option CheckRefusal) → drop i xs ≡ x ∷ drop (i + 1) xs
      → sooner before (refused_first by (places b (map see (drop i xs)))) ≡ all
      → capped c ≡ capped (b + weight (see x))
      → after ≡ sooner before (each b (see x))
      → sooner after (refused_first by (places c (map see (drop (i + 1) xs)))) ≡ all
  count_more see xs i x b c before after all is_cut told count is_after =
      let rest = map see (drop (i + 1) xs) in
      ap (sooner after) (from_same c (b + weight (see x)) rest count)
      ∙ ap (λ o. sooner o (refused_first by (places (b + weight (see x)) rest))) is_after
      ∙ gone before (each b (see x)) all (refused_first by (places (b + weight (see x)) rest)) (refused_first by (places b (map see (drop i xs))))
      (ap (λ ys. refused_first by (places b (map see ys))) is_cut ∙ next b (see x) rest)
      told

  pub count_end : {A : Type 0} (see : A → B) (xs : List A) (i : ℕ) (b : ℕ) (a all : Option CheckRefusal) → length xs ≤ i
      → sooner a (refused_first by (places b (map see (drop i xs)))) ≡ all
      → a ≡ all
  count_end see xs i b a all h told =
      sym (sooner_none a) ∙ ap (sooner a) (sym (none b)) ∙ ap (λ ys. sooner a (refused_first by (places b (map see ys)))) (sym (drop_all i xs h)) ∙ told

-- ---- parts of which each counts one

module _ (by : Standard) (around : CheckScope) (what : What) where
  one_next : (n : ℕ) (s : Span) (rest : List Span) → refused_first by (numbered around what n (s ∷ rest)) ≡ sooner (refused_first_at by around (counts what n 1 s)) (refused_first by (numbered around what (n + 1) rest))
  one_next n s rest = met_cons by around (counts what n 1 s) (numbered around what (n + 1) rest)

  one_same : (b c : ℕ) (s : Span) → capped b ≡ capped c → refused_first_at by around (counts what b 1 s) ≡ refused_first_at by around (counts what c 1 s)
  one_same b c s h = at_same by around what b c 1 1 s h refl

  pub numbered_same : (b c : ℕ) (xs : List Span) → capped b ≡ capped c → refused_first by (numbered around what b xs) ≡ refused_first by (numbered around what c xs)
  numbered_same = from_same by (numbered around what) (λ n s. refused_first_at by around (counts what n 1 s)) (λ s. 1) (λ n. met_none by) one_next one_same

  pub numbered_more : {A : Type 0} (see : A → Span) (xs : List A) (i : ℕ) (x : A) (b c : ℕ) (before after all : Option CheckRefusal) → drop i xs ≡ x ∷ drop (i + 1) xs
      → sooner before (refused_first by (numbered around what b (map see (drop i xs)))) ≡ all
      → capped c ≡ capped (b + 1)
      → after ≡ sooner before (refused_first_at by around (counts what b 1 (see x)))
      → sooner after (refused_first by (numbered around what c (map see (drop (i + 1) xs)))) ≡ all
  numbered_more = count_more by (numbered around what) (λ n s. refused_first_at by around (counts what n 1 s)) (λ s. 1) (λ n. met_none by) one_next one_same

  pub numbered_end : {A : Type 0} (see : A → Span) (xs : List A) (i : ℕ) (b : ℕ) (a all : Option CheckRefusal) → length xs ≤ i
      → sooner a (refused_first by (numbered around what b (map see (drop i xs)))) ≡ all
      → a ≡ all
  numbered_end = count_end by (numbered around what) (λ n s. refused_first_at by around (counts what n 1 s)) (λ s. 1) (λ n. met_none by) one_next one_same

-- the formals of an entry, declaration by declaration
numbered_append : (by : Standard) (around : CheckScope) (what : What) (n : ℕ) (xs ys : List Span) → refused_first by (numbered around what n (xs ++ ys)) ≡ sooner (refused_first by (numbered around what n xs)) (refused_first by (numbered around what (n + length xs) ys))
numbered_append by around what n [] ys = ap (λ o. sooner o (refused_first by (numbered around what n ys))) (sym (met_none by)) ∙ ap (λ k. sooner (refused_first by []) (refused_first by (numbered around what k ys))) (none_more n)
  where
    none_more : (k : ℕ) → k ≡ k + 0
    none_more k = omega arith
numbered_append by around what n (x ∷ xs) ys =
    met_cons by around (counts what n 1 x) (numbered around what (n + 1) (xs ++ ys))
    ∙ ap (sooner (refused_first_at by around (counts what n 1 x))) (numbered_append by around what (n + 1) xs ys)
    ∙ sym (sooner_assoc (refused_first_at by around (counts what n 1 x)) (refused_first by (numbered around what (n + 1) xs)) (refused_first by (numbered around what (n + 1 + length xs) ys)))
    ∙ ap (λ o. sooner o (refused_first by (numbered around what (n + 1 + length xs) ys))) (sym (met_cons by around (counts what n 1 x) (numbered around what (n + 1) xs)))
    ∙ ap (λ k. sooner (refused_first by (numbered around what n (x ∷ xs))) (refused_first by (numbered around what k ys))) (one_more n (length xs))
  where
    one_more : (k m : ℕ) → k + 1 + m ≡ k + suc m
    one_more k m = omega arith

module _ (by : Standard) (around : CheckScope) where
  names_next : (n : ℕ) (f : PFormal) (fs : List PFormal) → refused_first by (numbered around Formals n (map (λ w. w.span) (formal_names (f ∷ fs)))) ≡ sooner (refused_first by (numbered around Formals n (map (λ w. w.span) f.names))) (refused_first by (numbered around Formals (n + length f.names) (map (λ w. w.span) (formal_names fs))))
  names_next n f fs =
      ap (λ l. refused_first by (numbered around Formals n l)) (map-append (λ (w : Word). w.span) f.names (formal_names fs))
      ∙ numbered_append by around Formals n (map (λ (w : Word). w.span) f.names) (map (λ (w : Word). w.span) (formal_names fs))
      ∙ ap (λ k. sooner (refused_first by (numbered around Formals n (map (λ (w : Word). w.span) f.names))) (refused_first by (numbered around Formals (n + k) (map (λ (w : Word). w.span) (formal_names fs))))) (length-map f.names (λ (w : Word). w.span))

  names_same : (b c : ℕ) (f : PFormal) → capped b ≡ capped c → refused_first by (numbered around Formals b (map (λ w. w.span) f.names)) ≡ refused_first by (numbered around Formals c (map (λ w. w.span) f.names))
  names_same b c f h = numbered_same by around Formals b c (map (λ (w : Word). w.span) f.names) h

  pub formals_more : (fs : List Formal) (i : ℕ) (f : Formal) (names : List Word) (counted after : Counted) (all : Option CheckRefusal) → drop i fs ≡ f ∷ drop (i + 1) fs → names ≡ f.names.items
      → sooner counted.refusal (refused_first by (numbered around Formals counted.count (map (λ (w : Word). w.span) (formal_names (map plain_formal (drop i fs)))))) ≡ all
      → IsCounted by counted (numbered around Formals counted.count (map (λ (w : Word). w.span) names)) (length names) after
      → sooner after.refusal (refused_first by (numbered around Formals after.count (map (λ (w : Word). w.span) (formal_names (map plain_formal (drop (i + 1) fs)))))) ≡ all
  formals_more fs i f names counted after all is_cut named told here =
      count_more by (λ n xs. numbered around Formals n (map (λ (w : Word). w.span) (formal_names xs))) (λ n x. refused_first by (numbered around Formals n (map (λ (w : Word). w.span) x.names))) (λ x. length x.names) (λ n. met_none by) names_next names_same plain_formal fs i f counted.count after.count counted.refusal after.refusal all is_cut told
      (here.count_is ∙ ap (λ (l : List Word). capped (counted.count + length l)) named)
      (here.refusal_is ∙ ap (λ l. sooner counted.refusal (refused_first by (numbered around Formals counted.count (map (λ (w : Word). w.span) l)))) named)

  pub formals_end : (fs : List Formal) (i : ℕ) (b : ℕ) (a all : Option CheckRefusal) → length fs ≤ i
      → sooner a (refused_first by (numbered around Formals b (map (λ (w : Word). w.span) (formal_names (map plain_formal (drop i fs)))))) ≡ all
      → a ≡ all
  formals_end = count_end by (λ n xs. numbered around Formals n (map (λ (w : Word). w.span) (formal_names xs))) (λ n x. refused_first by (numbered around Formals n (map (λ (w : Word). w.span) x.names))) (λ x. length x.names) (λ n. met_none by) names_next names_same plain_formal
