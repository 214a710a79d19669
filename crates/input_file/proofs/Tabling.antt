-- The table of inputs, behind each line.
use Rattle.std.proofs.Common.{◌≡◌, ℕ, ℤ, zero, suc, ◌+◌, ◌^◌, ◌<◌, ◌≤◌, Bool, true, false, cond, List, [], ◌∷◌, ◌++◌, length, map, get_or, Option, None, Some, refl, ap, ◌∙◌, sym, subst, arith, inl, inr}
use Rattle.std.specs.Prelude.{◌==◌, ◌||◌, nat_le}
use Rattle.std.proofs.Math.ListN.{set}
use Rattle.std.proofs.lemmas.Bool.{cases_Bool, ltb-true, lt-ltb, cases_lt, eqb-true, eqb-false}
use Rattle.std.proofs.lemmas.List.{get_or-set_same, get_or-set_other, length-set, ext_get_or}
use Rattle.std.proofs.lemmas.List.{get_or_past}
use Rattle.std.proofs.lemmas.List.Sums.{sum_by_push}
use Rattle.syn_event.specs.Numbering.{Numbering}
use Rattle.seq_file.specs.text_lines.Capped.{capped}
use Rattle.seq_file.proofs.text_lines.Capping.{capped-small, capped-large}
use Rattle.input_file.specs.declared.errors.InputError.{InputError}
use Rattle.input_file.specs.declared.errors.InputError.TheVariants.{BadLine, UnknownTask, TooMany}
use Rattle.input_file.specs.declared.table.Table.{Table}
use Rattle.input_file.specs.inner.Tables.{IsTableOf, capped_line}
use Rattle.input_file.specs.InputFiles.{most_inputs, InputLine, has_line, line_values, input_count, has_task, input_fault, AreListsOf}
use Rattle.input_file.proofs.Inputting.{IsSoundBehind, sound-to, has-push_other}
use Rattle.common_lemmas.proofs.Numbers.{lt_false}
use Rattle.common_lemmas.proofs.Truth.{or_left, or_right}

-- so many empty lists
pub lists-none : AreListsOf 0 [] []
lists-none = record { count = refl; each = λ task h. absurd (omega (arith, h)) }

get-push : {X : Type 0} (xs : List X) (y d : X) (n : ℕ) → get_or xs n d ≡ d → y ≡ d → get_or (xs ++ (y ∷ [])) n d ≡ d
get-push [] y d zero h same = same
get-push [] y d (suc n) h same = h
get-push (x ∷ xs) y d zero h same = h
get-push (x ∷ xs) y d (suc n) h same = get-push xs y d n h same

-- lists that are all empty
pub record AreEmpty (lists : List (List ℤ)) : Type 0 where
  pub each : (task : ℕ) → get_or lists task [] ≡ []

pub empty-none : AreEmpty []
empty-none = record { each = λ task. refl }

pub empty-push : (lists : List (List ℤ)) → AreEmpty lists → AreEmpty (lists ++ ([] ∷ []))
empty-push lists h = record { each = λ task. get-push lists [] [] task (h.each task) refl }

pub empty-lists : (tasks : ℕ) (lists : List (List ℤ)) → AreEmpty lists → length lists ≡ tasks → AreListsOf tasks [] lists
empty-lists tasks lists h count = record { count = count; each = λ task lt. h.each task }

-- what the tasks read behind one more line
has-push_same : (t : ℕ) (xs : List InputLine) (y : InputLine) → (y.task == t) ≡ true → has_line t (xs ++ (y ∷ [])) ≡ true
has-push_same t [] y h = ap (λ b. b || false) h
has-push_same t (x ∷ xs) y h = ap (λ b. (x.task == t) || b) (has-push_same t xs y h) ∙ or-true (x.task == t)
  where
    or-true : (b : Bool) → (b || true) ≡ true
    or-true true = refl
    or-true false = refl

values-push_same : (t : ℕ) (xs : List InputLine) (y : InputLine) → (y.task == t) ≡ true → has_line t xs ≡ false → line_values t (xs ++ (y ∷ [])) ≡ y.values
values-push_same t [] y h first = ap (λ b. cond b y.values []) h
values-push_same t (x ∷ xs) y h first =
    ap (λ b. cond b x.values (line_values t (xs ++ (y ∷ [])))) (or_left (x.task == t) (has_line t xs) first)
    ∙ values-push_same t xs y h (or_right (x.task == t) (has_line t xs) first)

values-push_other : (t : ℕ) (xs : List InputLine) (y : InputLine) → (y.task == t) ≡ false → line_values t (xs ++ (y ∷ [])) ≡ line_values t xs
values-push_other t [] y h = ap (λ b. cond b y.values []) h
values-push_other t (x ∷ xs) y h = ap (cond (x.task == t) x.values) (values-push_other t xs y h)

-- the lists, with that of the task of the line replaced
pub lists-laid : (tasks : ℕ) (lines : List InputLine) (lists : List (List ℤ)) (y : InputLine) → AreListsOf tasks lines lists → y.task < tasks → has_line y.task lines ≡ false →
    AreListsOf tasks (lines ++ (y ∷ [])) (set lists y.task y.values)
lists-laid tasks lines lists y are lt first = record {
  count = length-set lists y.task y.values ∙ are.count;
  each = λ task h. elim (cases_Bool (y.task == task)) [
    | inl e ↦
        let same : y.task ≡ task = eqb-true y.task task e in
        ap (λ n. get_or (set lists y.task y.values) n []) (sym same)
        ∙ get_or-set_same lists y.task y.values [] (omega (arith, lt, are.count))
        ∙ sym (values-push_same task lines y e (ap (λ n. has_line n lines) (sym same) ∙ first))
    | inr e ↦
        get_or-set_other lists y.task task y.values [] (λ same. eqb-false y.task task e (sym same))
        ∙ are.each task h ∙ sym (values-push_other task lines y e)
  ];
}

pub seen-laid : (lines : List InputLine) (seen : List Bool) (y : InputLine) → ((task : ℕ) → get_or seen task false ≡ has_line task lines) → y.task < length seen →
    (task : ℕ) → get_or (set seen y.task true) task false ≡ has_line task (lines ++ (y ∷ []))
seen-laid lines seen y each lt task = elim (cases_Bool (y.task == task)) [
  | inl e ↦
      let same : y.task ≡ task = eqb-true y.task task e in
      ap (λ n. get_or (set seen y.task true) n false) (sym same)
      ∙ get_or-set_same seen y.task true false lt
      ∙ sym (has-push_same task lines y e)
  | inr e ↦
      get_or-set_other seen y.task task true false (λ same. eqb-false y.task task e (sym same))
      ∙ each task ∙ sym (has-push_other task lines y e)
]

-- a number past the end of the marks does not see the cap
seen-capped : (seen : List Bool) (task : ℕ) → length seen < 2 ^ 32 → get_or seen (capped task) false ≡ get_or seen task false
seen-capped seen task short = elim (cases_lt task (2 ^ 32)) [
  | inl lt ↦ ap (λ n. get_or seen n false) (capped-small task (omega (arith, lt)))
  | inr ge ↦
      ap (λ n. get_or seen n false) (capped-large task ge)
      ∙ get_or_past seen (2 ^ 32) false (omega (arith, short)) ∙ sym (get_or_past seen task false (omega (arith, short, ge)))
]

capped-past : (n task : ℕ) → n < 2 ^ 32 → n ≤ capped task → n ≤ task
capped-past n task short h = elim (cases_lt task (2 ^ 32)) [
  | inl lt ↦ omega (arith, h, capped-small task (omega (arith, lt)))
  | inr ge ↦ omega (arith, short, ge)
]

capped-below : (n task : ℕ) → n < 2 ^ 32 → capped task < n → capped task ≡ task
capped-below n task short h = elim (cases_lt task (2 ^ 32)) [
  | inl lt ↦ capped-small task (omega (arith, lt))
  | inr ge ↦ absurd (omega (arith, short, h, capped-large task ge))
]

-- what the table says of a line
record TableSays (numbers : Numbering) (lines : List InputLine) (table : Table) (line added : InputLine) : Type 0 where
  marked : get_or table.seen.items line.task false ≡ has_line added.task lines
  count : table.count + length line.values ≡ input_count lines + length added.values

says : (numbers : Numbering) (lines : List InputLine) (table : Table) (line added : InputLine) → IsTableOf (length numbers.tasks) lines table → line ≡ capped_line added → TableSays numbers lines table line added
says numbers lines table line added is same = record {
  marked =
      ap (λ l. get_or table.seen.items l.task false) same
      ∙ seen-capped table.seen.items added.task (omega (arith, is.small, is.seen_count)) ∙ is.seen added.task;
  count = ap (λ l. table.count + length l.values) same ∙ ap (λ n. n + length added.values) is.count;
}

abbrev rest-of : Numbering → List InputLine → InputLine → Option InputError
rest-of numbers lines added =
    cond (has_task numbers added.task) (cond (nat_le (input_count lines + length added.values) most_inputs) None (Some (TooMany most_inputs))) (Some (UnknownTask (length lines + 2)))

pub fault-seen : (numbers : Numbering) (lines : List InputLine) (table : Table) (line added : InputLine) (number : ℕ) → IsTableOf (length numbers.tasks) lines table → number ≡ length lines + 2 → line ≡ capped_line added →
    get_or table.seen.items line.task false ≡ true → Some (BadLine number) ≡ input_fault numbers lines (Some added)
fault-seen numbers lines table line added number is at same marked =
    ap (λ n. Some (BadLine n)) at
    ∙ sym (ap (λ b. cond b (Some (BadLine (length lines + 2))) (rest-of numbers lines added)) (sym (says numbers lines table line added is same).marked ∙ marked))

pub fault-unknown : (numbers : Numbering) (lines : List InputLine) (table : Table) (line added : InputLine) (number : ℕ) → IsTableOf (length numbers.tasks) lines table → number ≡ length lines + 2 → line ≡ capped_line added →
    get_or table.seen.items line.task false ≡ false → length table.seen.items ≤ line.task → Some (UnknownTask number) ≡ input_fault numbers lines (Some added)
fault-unknown numbers lines table line added number is at same marked past =
    let beyond : length numbers.tasks ≤ added.task = capped-past (length numbers.tasks) added.task is.small (omega (arith, past, is.seen_count, ap (λ l. l.task) same)) in
    ap (λ n. Some (UnknownTask n)) at
    ∙ sym (ap (λ b. cond b (Some (BadLine (length lines + 2))) (rest-of numbers lines added)) (sym (says numbers lines table line added is same).marked ∙ marked)
    ∙ ap (λ b. cond b (cond (nat_le (input_count lines + length added.values) most_inputs) None (Some (TooMany most_inputs))) (Some (UnknownTask (length lines + 2)))) (lt_false added.task (length numbers.tasks) beyond))

pub fault-count : (numbers : Numbering) (lines : List InputLine) (table : Table) (line added : InputLine) (number : ℕ) (fits : Bool) → IsTableOf (length numbers.tasks) lines table → number ≡ length lines + 2 → line ≡ capped_line added →
    get_or table.seen.items line.task false ≡ false → line.task < length table.seen.items → fits ≡ nat_le (table.count + length line.values) most_inputs →
    cond fits None (Some (TooMany most_inputs)) ≡ input_fault numbers lines (Some added)
fault-count numbers lines table line added number fits is at same marked below count =
    let there : TableSays numbers lines table line added = says numbers lines table line added is same in
    let small : capped added.task < length numbers.tasks = omega (arith, below, is.seen_count, ap (λ l. l.task) same) in
    let known : added.task < length numbers.tasks = omega (arith, small, capped-below (length numbers.tasks) added.task is.small small) in
    ap (λ b. cond b None (Some (TooMany most_inputs))) (count ∙ ap (λ n. nat_le n most_inputs) there.count)
    ∙ sym (ap (λ b. cond b (Some (BadLine (length lines + 2))) (rest-of numbers lines added)) (sym there.marked ∙ marked)
    ∙ ap (λ b. cond b (cond (nat_le (input_count lines + length added.values) most_inputs) None (Some (TooMany most_inputs))) (Some (UnknownTask (length lines + 2)))) (lt-ltb added.task (length numbers.tasks) known))

-- the table behind a line without a fault
pub table-laid : (numbers : Numbering) (lines : List InputLine) (table new : Table) (line added : InputLine) → IsTableOf (length numbers.tasks) lines table → line ≡ capped_line added → input_fault numbers lines (Some added) ≡ None →
    new.seen.items ≡ set table.seen.items line.task true → map (λ v. v.items) new.lists.items ≡ set (map (λ v. v.items) table.lists.items) line.task line.values → new.count ≡ table.count + length line.values →
    IsTableOf (length numbers.tasks) (lines ++ (added ∷ [])) new
table-laid numbers lines table new line added is same sound seen lists count =
    let fine : IsSoundBehind numbers lines added = sound-to numbers lines added sound in
    let known : added.task < length numbers.tasks = ltb-true added.task (length numbers.tasks) fine.known in
    let task : line.task ≡ added.task = ap (λ l. l.task) same ∙ capped-small added.task (omega (arith, known, is.small)) in
    let values : line.values ≡ added.values = ap (λ l. l.values) same in
    record {
      small = is.small;
      lists =
          subst (AreListsOf (length numbers.tasks) (lines ++ (added ∷ [])))
          (sym (lists ∙ ap (λ n. set (map (λ v. v.items) table.lists.items) n line.values) task ∙ ap (set (map (λ v. v.items) table.lists.items) added.task) values))
          (lists-laid (length numbers.tasks) lines (map (λ v. v.items) table.lists.items) added is.lists known fine.first);
      seen_count = ap length seen ∙ length-set table.seen.items line.task true ∙ is.seen_count;
      seen = λ t.
          ap (λ s. get_or s t false) (seen ∙ ap (λ n. set table.seen.items n true) task)
          ∙ seen-laid lines table.seen.items added is.seen (omega (arith, known, is.seen_count)) t;
      count = omega (arith, count, is.count, ap length values, sum_by_push (λ l. length l.values) lines added);
    }

-- the lists of all tasks are given by the lines
pub lists-ext : (tasks : ℕ) (lines : List InputLine) (xs ys : List (List ℤ)) → AreListsOf tasks lines xs → AreListsOf tasks lines ys → xs ≡ ys
lists-ext tasks lines xs ys x y =
    ext_get_or [] xs ys (x.count ∙ sym y.count) (λ i lt. x.each i (omega (arith, lt, x.count)) ∙ sym (y.each i (omega (arith, lt, x.count))))

pub empty-more : (old new : List (List ℤ)) → AreEmpty old → new ≡ old ++ ([] ∷ []) → AreEmpty new
empty-more old new h e = subst AreEmpty (sym e) (empty-push old h)
