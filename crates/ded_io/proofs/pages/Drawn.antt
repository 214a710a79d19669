-- What is put on a page one after the other.
use Rattle.std.specs.Prelude.{◌≡◌, ◌++◌, ◌+◌, ◌≤◌, ℕ, min, List, [], length, Bool, true, false, Option, Result, Ok, Err, refl, if◌then◌else◌}
use Rattle.std.proofs.Common.{sym, ap, ◌∙◌, arith, subst, true≢false}
use Rattle.std.proofs.lemmas.List.{append_assoc, append-nil, length-append}
use Rattle.std.proofs.lemmas.Grind.{common_steps}
use Rattle.ded_io.specs.Counts.{last_count, Rose, HasCause}
use Rattle.ded_io.specs.Written.{appended, Began, Wrote, ◌⧺◌}
use Rattle.ded_io.proofs.Writes.{appended-appended, appended-nil}
use Rattle.ded_io.specs.pages.Pages.{Sheet, over, Drawing, Passed, Went, Counted, Drew}

went_none : (x : Bool) (a : Drawing) → Went x x a a []
went_none false a = (record { front = []; parts = append-nil a.waiting; told = sym (appended-nil a.told) }, refl)
went_none true a = (refl, refl)

pub counted_none : (n : ℕ) → Counted n n []
counted_none n le = grind (arith, common_steps)

-- nothing was put
pub drew_none : (a : Drawing) → Drew a a []
unfolding Drew
drew_none a = (went_none a.failed a, counted_none a.count)

-- two fronts one after the other
passed_then : (a b c : Drawing) (s t rest : List ℕ) → Passed a b s b.waiting → Passed b c t rest → Passed a c (s ++ t) rest
passed_then a b c s t rest p q = record {
  front = p.front ++ q.front;
  parts =
      sym (append_assoc a.waiting s t) ∙ ap (λ x. x ++ t) p.parts ∙ append_assoc p.front b.waiting t
      ∙ ap (λ x. p.front ++ x) q.parts ∙ sym (append_assoc p.front q.front rest);
  told = q.told ∙ ap (λ o. appended o q.front) p.told ∙ appended-appended a.told p.front q.front;
}

-- what a failed page was to take stays in the rest
abbrev passed_more : (a b : Drawing) (s t rest : List ℕ) → Passed a b s rest → Passed a b (s ++ t) (rest ++ t)
passed_more a b s t rest p = record {
  front = p.front;
  parts = sym (append_assoc a.waiting s t) ∙ ap (λ x. x ++ t) p.parts ∙ append_assoc p.front rest t;
  told = p.told;
}

counted_then : (a b c : ℕ) (s t : List ℕ) → Counted a b s → Counted b c t → Counted a c (s ++ t)
counted_then a b c s t p q le =
    let e : b ≡ min (a + length s) last_count = p le in
    let f : b ≤ last_count = grind (e, arith, common_steps) in
    let g : c ≡ min (b + length t) last_count = q f in
    let h : length (s ++ t) ≡ length s + length t = length-append s t in
    grind (e, g, h, arith, common_steps)

went_then : (x y z : Bool) (a b c : Drawing) (s t : List ℕ) → Went x y a b s → Went y z b c t → Went x z a c (s ++ t)
went_then false false false a b c s t (p, e) (q, f) = (passed_then a b c s t c.waiting p q, f ∙ e)
went_then false false true a b c s t (p, e) (rest, q, rose) = (rest, passed_then a b c s t rest p q, subst (λ n. Rose n c.faults) e rose)
went_then false true true a b c s t (rest, p, rose) (told, e) = (
  rest ++ t,
  record { front = p.front; parts = (passed_more a b s t rest p).parts; told = told ∙ p.told },
  subst (λ n. Rose a.faults n) (sym e) rose,
)
went_then true true true a b c s t (told, e) (told', f) = (told' ∙ told, f ∙ e)
went_then false true false a b c s t p q = absurd q
went_then true false z a b c s t p q = absurd p
went_then true true false a b c s t p q = absurd q

-- one text, and then another
pub drew_then : (a b c : Drawing) (s t : List ℕ) → Drew a b s → Drew b c t → Drew a c (s ⧺ t)
unfolding Drew ◌⧺◌
drew_then a b c s t (p, m) (q, n) = (went_then a.failed b.failed c.failed a b c s t p q, counted_then a.count b.count c.count s t m n)

-- a page without failure, behind which the rest waits
drew_well : (x y : Bool) (a b : Drawing) (s : List ℕ) → x ≡ false → y ≡ false → Passed a b s b.waiting → b.faults ≡ a.faults → Went x y a b s
drew_well false false a b s e f p q = (p, q)
drew_well true y a b s e f p q = absurd (true≢false e)
drew_well false true a b s e f p q = absurd (true≢false f)

-- a write that failed
drew_badly : (x y : Bool) (a b : Drawing) (s rest : List ℕ) → x ≡ false → y ≡ true → Passed a b s rest → Rose a.faults b.faults → Went x y a b s
drew_badly false true a b s rest e f p q = (rest, p, q)
drew_badly true y a b s rest e f p q = absurd (true≢false e)
drew_badly false false a b s rest e f p q = absurd (true≢false (sym f))

-- a page that failed before
drew_late : (x y : Bool) (a b : Drawing) (s : List ℕ) → x ≡ true → y ≡ true → b.told ≡ a.told → b.faults ≡ a.faults → Went x y a b s
drew_late true true a b s e f p q = (p, q)
drew_late false y a b s e f p q = absurd (true≢false (sym e))
drew_late true false a b s e f p q = absurd (true≢false (sym f))

pub counted_same : (n m : ℕ) → m ≡ n → Counted n m []
counted_same n m e le = grind (e, arith, common_steps)

-- what waited is written
pub flushed : (A E : Type 0) (x : A) (a b : Drawing) → a.failed ≡ false → b.failed ≡ false → Wrote {E = E} (Ok x) a.told b.told a.waiting → b.waiting ≡ [] → b.faults ≡ a.faults → b.count ≡ a.count → Drew a b []
unfolding Drew Wrote
flushed A E x a b e f w none q n = (
  drew_well a.failed b.failed a b [] e f record { front = a.waiting; parts = ap (λ t. a.waiting ++ t) (sym none); told = w } q,
  counted_same a.count b.count n,
)

-- a front of what waited is written
pub flush_stopped : (A E : Type 0) (x : E) (a b : Drawing) → a.failed ≡ false → b.failed ≡ true → Wrote {A = A} (Err x) a.told b.told a.waiting → Rose a.faults b.faults → b.count ≡ a.count → Drew a b []
unfolding Drew Wrote
flush_stopped A E x a b e f (front, rest, parts, told) q n = (
  drew_badly a.failed b.failed a b [] rest e f record { front = front; parts = append-nil a.waiting ∙ parts; told = told } q,
  counted_same a.count b.count n,
)

-- a page that failed before takes nothing
pub skipped : (a b : Drawing) (s : List ℕ) → a.failed ≡ true → b.failed ≡ true → b.told ≡ a.told → b.faults ≡ a.faults → Counted a.count b.count s → Drew a b s
unfolding Drew
skipped a b s e f p q n = (drew_late a.failed b.failed a b s e f p q, n)

-- bytes are written at once
pub passed : (A E : Type 0) (x : A) (a b : Drawing) (s : List ℕ) → a.failed ≡ false → b.failed ≡ false → a.waiting ≡ [] → b.waiting ≡ [] → Wrote {E = E} (Ok x) a.told b.told s → b.faults ≡ a.faults → Counted a.count b.count s → Drew a b s
unfolding Drew Wrote
passed A E x a b s e f none none' w q n = (
  drew_well a.failed b.failed a b s e f record { front = s; parts = ap (λ t. t ++ s) none ∙ sym (append-nil s) ∙ ap (λ t. s ++ t) (sym none'); told = w } q,
  n,
)

-- a front of the bytes is written
pub pass_stopped : (A E : Type 0) (x : E) (a b : Drawing) (s : List ℕ) → a.failed ≡ false → b.failed ≡ true → a.waiting ≡ [] → Wrote {A = A} (Err x) a.told b.told s → Rose a.faults b.faults → Counted a.count b.count s → Drew a b s
unfolding Drew Wrote
pass_stopped A E x a b s e f none (front, rest, parts, told) q n = (
  drew_badly a.failed b.failed a b s rest e f record { front = front; parts = ap (λ t. t ++ s) none ∙ parts; told = told } q,
  n,
)

-- bytes wait behind those that wait
pub kept : (a b : Drawing) (s : List ℕ) → b.failed ≡ a.failed → b.told ≡ a.told → b.faults ≡ a.faults → b.waiting ≡ a.waiting ++ s → Counted a.count b.count s → Drew a b s
unfolding Drew
kept a b s e t q w n = (kept_by a.failed b.failed a b s e t q w, n) where
  kept_by : (x y : Bool) (a b : Drawing) (s : List ℕ) → y ≡ x → b.told ≡ a.told → b.faults ≡ a.faults → b.waiting ≡ a.waiting ++ s → Went x y a b s
  kept_by false false a b s e t q w = (record { front = []; parts = sym w; told = t ∙ sym (appended-nil a.told) }, q)
  kept_by true true a b s e t q w = (t, q)
  kept_by false true a b s e t q w = absurd (true≢false e)
  kept_by true false a b s e t q w = absurd (true≢false (sym e))

-- the same at a page that is seen by its inside
pub from_inside : (inside old : Sheet) (told : Option (List ℕ)) (faults : ℕ) (b : Drawing) (s : List ℕ) → inside ≡ old → Drew (over inside told faults) b s → Drew (over old told faults) b s
from_inside inside old told faults b s e = subst (λ x. Drew (over x told faults) b s) e

-- nothing more than what waited went out, and then a text
pub drew_behind : (a b c : Drawing) (s : List ℕ) → Drew a b [] → Drew b c s → Drew a c s
unfolding Drew
drew_behind a b c s (p, m) (q, n) = (went_then a.failed b.failed c.failed a b c [] s p q, counted_then a.count b.count c.count [] s m n)

-- a text, and then only what waited
pub drew_both : (a b c : Drawing) (s : List ℕ) → Drew a b s → Drew b c [] → Drew a c s
unfolding Drew
drew_both a b c s (p, m) (q, n) = (subst (λ t. Went a.failed c.failed a c t) (append-nil s) (went_then a.failed b.failed c.failed a b c s [] p q), subst (λ t. Counted a.count c.count t) (append-nil s) (counted_then a.count b.count c.count s [] m n))

-- what a fresh page was given has been written, where nothing waits and nothing failed
pub written : (A E : Type 0) (x : A) (a b : Drawing) (s : List ℕ) → a.failed ≡ false → a.waiting ≡ [] → b.failed ≡ false → b.waiting ≡ [] → Drew a b s → Wrote {E = E} (Ok x) a.told b.told s
unfolding Drew Wrote
written A E x a b s e none f none' (p, n) = written_by a.failed b.failed a b s e none f none' p where
  written_by : (x y : Bool) (a b : Drawing) (s : List ℕ) → x ≡ false → a.waiting ≡ [] → y ≡ false → b.waiting ≡ [] → Went x y a b s → b.told ≡ appended a.told s
  written_by false false a b s e none f none' (p, q) =
      p.told ∙ ap (appended a.told) (sym (append-nil p.front) ∙ ap (λ t. p.front ++ t) (sym none') ∙ sym p.parts ∙ ap (λ t. t ++ s) none)
  written_by true y a b s e none f none' p = absurd (true≢false e)
  written_by false true a b s e none f none' p = absurd (true≢false f)

-- a front of it, where a write failed
pub written_front : (A E : Type 0) (x : E) (a b : Drawing) (s : List ℕ) → a.failed ≡ false → a.waiting ≡ [] → b.failed ≡ true → Drew a b s → Wrote {A = A} (Err x) a.told b.told s
unfolding Drew Wrote
written_front A E x a b s e none f (p, n) = front_by a.failed b.failed a b s e none f p where
  front_by : (x y : Bool) (a b : Drawing) (s : List ℕ) → x ≡ false → a.waiting ≡ [] → y ≡ true → Went x y a b s → Began a.told b.told s
  front_by false true a b s e none f (rest, p, q) = (p.front, rest, sym (ap (λ t. t ++ s) none) ∙ p.parts, p.told)
  front_by true y a b s e none f p = absurd (true≢false e)
  front_by false false a b s e none f p = absurd (true≢false (sym f))

-- the faults of the output rose exactly where a write failed
pub blamed : (a b : Drawing) (s : List ℕ) → a.failed ≡ false → Drew a b s → b.failed ≡ true → Rose a.faults b.faults
unfolding Drew
blamed a b s e (p, n) f = blamed_by a.failed b.failed a b s e f p where
  blamed_by : (x y : Bool) (a b : Drawing) (s : List ℕ) → x ≡ false → y ≡ true → Went x y a b s → Rose a.faults b.faults
  blamed_by false true a b s e f (rest, p, q) = q
  blamed_by true y a b s e f p = absurd (true≢false e)
  blamed_by false false a b s e f p = absurd (true≢false (sym f))

pub blameless : (a b : Drawing) (s : List ℕ) → a.failed ≡ false → Drew a b s → b.failed ≡ false → b.faults ≡ a.faults
unfolding Drew
blameless a b s e (p, n) f = blameless_by a.failed b.failed a b s e f p where
  blameless_by : (x y : Bool) (a b : Drawing) (s : List ℕ) → x ≡ false → y ≡ false → Went x y a b s → b.faults ≡ a.faults
  blameless_by false false a b s e f (p, q) = q
  blameless_by true y a b s e f p = absurd (true≢false e)
  blameless_by false true a b s e f p = absurd (true≢false f)

-- a new page over an output, and what it answers once nothing waits
pub closed : (A E : Type 0) (x : A) (y : E) (a b : Drawing) (s : List ℕ) → a.failed ≡ false → a.waiting ≡ [] → b.waiting ≡ [] → Drew a b s → (r : Result A E) → r ≡ (if b.failed then Err y else Ok x) → Wrote r a.told b.told s × HasCause a.faults b.faults r
closed A E x y a b s e none none' drew r is = closed_by b.failed refl r is where
  closed_by : (z : Bool) → b.failed ≡ z → (r : Result A E) → r ≡ (if z then Err y else Ok x) → Wrote r a.told b.told s × HasCause a.faults b.faults r
  closed_by true f r is = subst (λ q. Wrote q a.told b.told s × HasCause a.faults b.faults q) (sym is) (written_front A E y a b s e none f drew, blamed a b s e drew f)
  closed_by false f r is = subst (λ q. Wrote q a.told b.told s × HasCause a.faults b.faults q) (sym is) (written A E x a b s e none f none' drew, blameless a b s e drew f)

-- how many bytes were put on a new page
pub counted_all : (a b : Drawing) (s : List ℕ) → a.count ≡ 0 → Drew a b s → b.count ≡ min (length s) last_count
unfolding Drew
counted_all a b s e (p, n) =
    let le : a.count ≤ last_count = grind (e, arith, common_steps) in
    let all : b.count ≡ min (a.count + length s) last_count = n le in
    grind (e, all, arith, common_steps)

pub ruleset drawn = (drew_none, drew_then)
