-- Places as tests: the last of them, how many there are, and windows that are opened and not closed.
use Rattle.std.proofs.Common.{◌≡◌, ℕ, zero, suc, ◌+◌, ◌<◌, ◌≤◌, Bool, true, false, cond, ap, ◌∙◌, sym, refl, arith, inl, inr}
use Rattle.std.specs.Prelude.{◌&&◌, nat_lt, nat_le}
use Rattle.std.proofs.lemmas.Bool.{cases_Bool, cases_lt, and_parts, lt-ltb, le-leb, ltb-true, leb-true}
use Rattle.common_lemmas.proofs.Truth.{clash, both_true, false_behind}
use Rattle.syn_constraint.specs.inner.Places.{last_of, total_of, is_open, live_of}

-- ---- the last of the places

pub last-here : (p : ℕ → Bool) (n : ℕ) → p (suc n) ≡ true → last_of p (suc n) ≡ suc n
last-here p n e = ap (λ b. cond b (suc n) (last_of p n)) e

pub last-same : (p : ℕ → Bool) (n : ℕ) → p (suc n) ≡ false → last_of p (suc n) ≡ last_of p n
last-same p n e = ap (λ b. cond b (suc n) (last_of p n)) e

pub last-within : (p : ℕ → Bool) (n : ℕ) → last_of p n ≤ n
last-within p zero = omega arith
last-within p (suc n) = elim (cases_Bool (p (suc n))) [
  | inl yes' ↦ omega (arith, last-here p n yes')
  | inr no' ↦ omega (arith, last-same p n no', last-within p n)
]

pub last-more : (p : ℕ → Bool) (n : ℕ) → last_of p n ≤ last_of p (suc n)
last-more p n = elim (cases_Bool (p (suc n))) [
  | inl yes' ↦ omega (arith, last-here p n yes', last-within p n)
  | inr no' ↦ omega (arith, last-same p n no')
]

pub last-least : (p : ℕ → Bool) (n i : ℕ) → i ≤ n → p i ≡ true → i ≤ last_of p n
last-least p zero i low e = low
last-least p (suc n) i low e = elim (cases_lt n i) [
  | inl above ↦ let same : i ≡ suc n = omega arith in omega (arith, same, last-here p n (sym (ap p same) ∙ e))
  | inr below ↦ omega (arith, last-least p n i below e, last-more p n)
]

pub last-after : (p : ℕ → Bool) (n i : ℕ) → last_of p n < i → i ≤ n → p i ≡ false
last-after p n i above low = elim (cases_Bool (p i)) [
  | inl yes' ↦ absurd (omega (arith, above, last-least p n i low yes'))
  | inr no' ↦ no'
]

pub last-there : (p : ℕ → Bool) (n : ℕ) → 0 < last_of p n → p (last_of p n) ≡ true
last-there p zero some = absurd (omega (arith, some))
last-there p (suc n) some = elim (cases_Bool (p (suc n))) [
  | inl yes' ↦ ap p (last-here p n yes') ∙ yes'
  | inr no' ↦ ap p (last-same p n no') ∙ last-there p n (omega (arith, some, last-same p n no'))
]

-- ---- how many places there are

pub total-more : (p : ℕ → Bool) (n : ℕ) → p (suc n) ≡ true → total_of p (suc n) ≡ total_of p n + 1
total-more p n e = ap (λ b. total_of p n + cond b 1 0) e

pub total-same : (p : ℕ → Bool) (n : ℕ) → p (suc n) ≡ false → total_of p (suc n) ≡ total_of p n
total-same p n e = let h : total_of p (suc n) ≡ total_of p n + 0 = ap (λ b. total_of p n + cond b 1 0) e in omega (arith, h)

pub total-step : (p : ℕ → Bool) (n : ℕ) → total_of p n ≤ total_of p (suc n)
total-step p n = elim (cases_Bool (p (suc n))) [
  | inl yes' ↦ omega (arith, total-more p n yes')
  | inr no' ↦ omega (arith, total-same p n no')
]

pub total-up : (p : ℕ → Bool) (n i : ℕ) → i ≤ n → total_of p i ≤ total_of p n
total-up p zero i low = let same : i ≡ zero = omega arith in omega (arith, ap (total_of p) same)
total-up p (suc n) i low = elim (cases_lt n i) [
  | inl above ↦ let same : i ≡ suc n = omega arith in omega (arith, ap (total_of p) same)
  | inr below ↦ omega (arith, total-up p n i below, total-step p n)
]

pub total-within : (p : ℕ → Bool) (n : ℕ) → total_of p n ≤ n
total-within p zero = omega arith
total-within p (suc n) = elim (cases_Bool (p (suc n))) [
  | inl yes' ↦ omega (arith, total-more p n yes', total-within p n)
  | inr no' ↦ omega (arith, total-same p n no', total-within p n)
]

-- ---- windows

-- nothing closes behind the place i up to the place k
abbrev pub IsUnclosed : (ℕ → Bool) → ℕ → ℕ → Type 0
IsUnclosed closes i k = (j : ℕ) → i < j → j ≤ k → closes j ≡ false

pub unclosed-last : (closes : ℕ → Bool) (i n : ℕ) → IsUnclosed closes i n → last_of closes n ≤ i
unclosed-last closes i n un = elim (cases_lt i (last_of closes n)) [
  | inl above ↦ clash (sym (un (last_of closes n) above (last-within closes n)) ∙ last-there closes n (omega (arith, above)))
  | inr below ↦ below
]

pub last-unclosed : (closes : ℕ → Bool) (i n : ℕ) → last_of closes n ≤ i → IsUnclosed closes i n
last-unclosed closes i n low = λ j above within. last-after closes n j (omega (arith, low, above)) within

-- a place before k opens, nothing closes behind it, and more than the limit are counted from there up to k
pub record IsWindow (opens closes counts : ℕ → Bool) (limit k : ℕ) : Type 0 where
  pub opening : ℕ
  pub before : opening < k
  pub opened : opens opening ≡ true
  pub unclosed : IsUnclosed closes opening k
  pub many : total_of counts opening + limit < total_of counts k

-- what an open window has counted
pub live-closed : (opens closes counts : ℕ → Bool) (n : ℕ) → closes (suc n) ≡ true → live_of opens closes counts (suc n) ≡ 0
live-closed opens closes counts n e =
    ap (λ b. cond b 0 (cond (counts (suc n) && is_open opens closes n) (suc (live_of opens closes counts n)) (live_of opens closes counts n))) e

live-by : (opens closes counts : ℕ → Bool) (n : ℕ) (b : Bool) → closes (suc n) ≡ false → (counts (suc n) && is_open opens closes n) ≡ b →
    live_of opens closes counts (suc n) ≡ cond b (suc (live_of opens closes counts n)) (live_of opens closes counts n)
live-by opens closes counts n b e h =
    ap (λ t. cond t 0 (cond (counts (suc n) && is_open opens closes n) (suc (live_of opens closes counts n)) (live_of opens closes counts n))) e
    ∙ ap (λ t. cond t (suc (live_of opens closes counts n)) (live_of opens closes counts n)) h

pub live-within : (opens closes counts : ℕ → Bool) (n : ℕ) → live_of opens closes counts n ≤ n
live-within opens closes counts zero = omega arith
live-within opens closes counts (suc n) = elim (cases_Bool (closes (suc n))) [
  | inl yes' ↦ omega (arith, live-closed opens closes counts n yes')
  | inr no' ↦ elim (cases_Bool (counts (suc n) && is_open opens closes n)) [
    | inl more ↦ omega (arith, live-by opens closes counts n true no' more, live-within opens closes counts n)
    | inr same ↦ omega (arith, live-by opens closes counts n false no' same, live-within opens closes counts n)
  ]
]

pub open-by : (opens closes : ℕ → Bool) (n i : ℕ) → 0 < i → i ≤ n → opens i ≡ true → last_of closes n ≤ i → is_open opens closes n ≡ true
open-by opens closes n i some low yes' last =
    let there : i ≤ last_of opens n = last-least opens n i low yes' in
    both_true (nat_lt 0 (last_of opens n)) (nat_le (last_of closes n) (last_of opens n))
    (lt-ltb 0 (last_of opens n) (omega (arith, some, there)))
    (le-leb (last_of closes n) (last_of opens n) (omega (arith, last, there)))

-- what it says that a window is open
pub record HasOpened (opens closes : ℕ → Bool) (n : ℕ) : Type 0 where
  pub some : 0 < last_of opens n
  pub last : last_of closes n ≤ last_of opens n

pub open-is : (opens closes : ℕ → Bool) (n : ℕ) → is_open opens closes n ≡ true → HasOpened opens closes n
open-is opens closes n e =
    let both = and_parts (nat_lt 0 (last_of opens n)) (nat_le (last_of closes n) (last_of opens n)) e in
    record { some = ltb-true 0 (last_of opens n) both.0; last = leb-true (last_of closes n) (last_of opens n) both.1 }

open-stays : (opens closes : ℕ → Bool) (n : ℕ) → is_open opens closes n ≡ true → closes (suc n) ≡ false → is_open opens closes (suc n) ≡ true
open-stays opens closes n e no' =
    let is : HasOpened opens closes n = open-is opens closes n e in
    open-by opens closes (suc n) (last_of opens n) is.some (omega (arith, last-within opens n)) (last-there opens n is.some)
    (omega (arith, is.last, last-same closes n no'))

-- no window, nothing counted
shut-live : (opens closes counts : ℕ → Bool) (n : ℕ) → is_open opens closes n ≡ false → live_of opens closes counts n ≡ 0
shut-live opens closes counts zero shut = refl
shut-live opens closes counts (suc n) shut = elim (cases_Bool (closes (suc n))) [
  | inl yes' ↦ live-closed opens closes counts n yes'
  | inr no' ↦ elim (cases_Bool (is_open opens closes n)) [
    | inl open' ↦ clash (sym shut ∙ open-stays opens closes n open' no')
    | inr shut' ↦
        live-by opens closes counts n false no' (false_behind (counts (suc n)) (is_open opens closes n) shut') ∙ shut-live opens closes counts n shut'
  ]
]

-- behind each place that opens no more are counted than in the window
pub live-most : (opens closes counts : ℕ → Bool) (n i : ℕ) → 0 < i → i ≤ n → opens i ≡ true → IsUnclosed closes i n →
    total_of counts n ≤ total_of counts i + live_of opens closes counts n
live-most opens closes counts zero i some low yes' un = absurd (omega (arith, some, low))
live-most opens closes counts (suc n) i some low yes' un = elim (cases_lt n i) [
  | inl above ↦ let same : i ≡ suc n = omega arith in omega (arith, ap (total_of counts) same)
  | inr below ↦
      let before : IsUnclosed closes i n = λ j above within. un j above (omega (arith, within)) in
      let rest : total_of counts n ≤ total_of counts i + live_of opens closes counts n = live-most opens closes counts n i some below yes' before in
      let open' : is_open opens closes n ≡ true = open-by opens closes n i some below yes' (unclosed-last closes i n before) in
      let no' : closes (suc n) ≡ false = un (suc n) (omega (arith, below)) (omega arith) in
      elim (cases_Bool (counts (suc n))) [
        | inl counted ↦
            omega (arith, rest, total-more counts n counted, live-by opens closes counts n true no' (both_true (counts (suc n)) (is_open opens closes n) counted open'))
        | inr uncounted ↦
            omega (arith, rest, total-same counts n uncounted, live-by opens closes counts n false no' (ap (λ b. b && is_open opens closes n) uncounted))
      ]
]

-- the place that has opened the window
pub record IsOpenedAt (opens closes counts : ℕ → Bool) (n : ℕ) : Type 0 where
  pub opening : ℕ
  pub within : opening ≤ n
  pub opened : opens opening ≡ true
  pub unclosed : IsUnclosed closes opening n
  pub counted : total_of counts n ≡ total_of counts opening + live_of opens closes counts n

opened-now : (opens closes counts : ℕ → Bool) (n : ℕ) → opens (suc n) ≡ true → live_of opens closes counts (suc n) ≡ 0 → IsOpenedAt opens closes counts (suc n)
opened-now opens closes counts n yes' none = record {
  opening = suc n;
  within = omega arith;
  opened = yes';
  unclosed = λ j above within. absurd (omega (arith, above, within));
  counted = omega (arith, none);
}

opened-before : (opens closes counts : ℕ → Bool) (n : ℕ) → is_open opens closes n ≡ true → closes (suc n) ≡ false → IsOpenedAt opens closes counts n → IsOpenedAt opens closes counts (suc n)
opened-before opens closes counts n open' no' at = record {
  opening = at.opening;
  within = omega (arith, at.within);
  opened = at.opened;
  unclosed = λ j above within. elim (cases_lt n j) [
    | inl last ↦ let same : j ≡ suc n = omega arith in ap closes same ∙ no'
    | inr below ↦ at.unclosed j above below
  ];
  counted = elim (cases_Bool (counts (suc n))) [
    | inl counted ↦
        omega (arith, at.counted, total-more counts n counted, live-by opens closes counts n true no' (both_true (counts (suc n)) (is_open opens closes n) counted open'))
    | inr uncounted ↦
        omega (arith, at.counted, total-same counts n uncounted, live-by opens closes counts n false no' (ap (λ b. b && is_open opens closes n) uncounted))
  ];
}

-- the window that was open has grown, or one is opened
pub open-live : (opens closes counts : ℕ → Bool) (n : ℕ) → is_open opens closes n ≡ true → IsOpenedAt opens closes counts n
open-live opens closes counts zero e = let is : HasOpened opens closes zero = open-is opens closes zero e in absurd (omega (arith, is.some))
open-live opens closes counts (suc n) e = elim (cases_Bool (closes (suc n))) [
  | inl yes' ↦
      let is : HasOpened opens closes (suc n) = open-is opens closes (suc n) e in
      let same : last_of opens (suc n) ≡ suc n = omega (arith, is.last, last-here closes n yes', last-within opens (suc n)) in
      opened-now opens closes counts n (sym (ap opens same) ∙ last-there opens (suc n) is.some) (live-closed opens closes counts n yes')
  | inr no' ↦ elim (cases_Bool (is_open opens closes n)) [
    | inl open' ↦ opened-before opens closes counts n open' no' (open-live opens closes counts n open')
    | inr shut' ↦ opened-now opens closes counts n (opens-now no' shut') (live-by opens closes counts n false no' (false_behind (counts (suc n)) (is_open opens closes n) shut') ∙ shut-live opens closes counts n shut')
  ]
]
  where
    opens-now : closes (suc n) ≡ false → is_open opens closes n ≡ false → opens (suc n) ≡ true
    opens-now no' shut' = elim (cases_Bool (opens (suc n))) [
      | inl yes' ↦ yes'
      | inr none ↦ clash (sym shut' ∙ (ap (λ t. nat_lt 0 t && nat_le (last_of closes n) t) (sym (last-same opens n none)) ∙ ap (λ t. nat_lt 0 (last_of opens (suc n)) && nat_le t (last_of opens (suc n))) (sym (last-same closes n no')) ∙ e))
    ]

-- a window that goes past the limit is one that has counted up to it before
pub window-live : (opens closes counts : ℕ → Bool) (limit n : ℕ) → opens 0 ≡ false → counts (suc n) ≡ true → IsWindow opens closes counts limit (suc n) →
    (closes (suc n) ≡ false) × (is_open opens closes n ≡ true) × (limit < suc (live_of opens closes counts n))
window-live opens closes counts limit n none counted window =
    let i : ℕ = window.opening in
    let low : i ≤ n = omega (arith, window.before) in
    let before : IsUnclosed closes i n = λ j above within. window.unclosed j above (omega (arith, within)) in
    let some : 0 < i = elim (cases_lt 0 i) [ inl above ↦ above | inr zero' ↦ let same : i ≡ 0 = omega arith in clash (sym (ap opens same ∙ none) ∙ window.opened) ] in (
      window.unclosed (suc n) window.before (omega arith),
      open-by opens closes n i some low window.opened (unclosed-last closes i n before),
      omega (arith, window.many, total-more counts n counted, live-most opens closes counts n i some low window.opened before),
    )

pub live-window : (opens closes counts : ℕ → Bool) (limit n : ℕ) → counts (suc n) ≡ true → closes (suc n) ≡ false → is_open opens closes n ≡ true → limit < suc (live_of opens closes counts n) →
    IsWindow opens closes counts limit (suc n)
live-window opens closes counts limit n counted no' open' many =
    let at : IsOpenedAt opens closes counts n = open-live opens closes counts n open' in
    record {
      opening = at.opening;
      before = omega (arith, at.within);
      opened = at.opened;
      unclosed = λ j above within. elim (cases_lt n j) [
        | inl last ↦ let same : j ≡ suc n = omega arith in ap closes same ∙ no'
        | inr below ↦ at.unclosed j above below
      ];
      many = omega (arith, many, at.counted, total-more counts n counted);
    }
