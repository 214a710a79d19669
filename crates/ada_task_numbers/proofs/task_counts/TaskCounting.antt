-- Tasks, entries and copies that are counted over the whole program, one after the other.
use Rattle.std.specs.Prelude.{◌≡◌, ℕ, ◌+◌, ◌*◌, ◌≤◌, Bool, true, false, if◌then◌else◌, List, [], ◌∷◌, length, map, drop, Option, refl}
use Rattle.std.proofs.Common.{sym, ap, ◌∙◌, arith}
use Rattle.ada_tree.specs.declared.declarations.EntryDecl.{EntryDecl}
use Rattle.ada_tree.specs.TypeTable.{TypeTable}
use Rattle.ada_tree.specs.PlainDecl.{PEntry, plain_entry}
use Rattle.syn_event.specs.declared.limits.What.TheVariants.{Tasks, Entries, Copies}
use Rattle.syn_event.specs.CheckRefusals.{CheckRefusal}
use Rattle.syn_event.specs.CheckScope.{CheckScope, counts, CheckSite}
use Rattle.syn_event.specs.NamedTasks.{NamedTasks, task_count}
use Rattle.syn_event.specs.CheckSites.{site, numbered, tasks_sites, entries_of_part, entries_sites, copies_sites}
use Rattle.ada_check_rules.specs.declared.rules.counting.Counted.{Counted}
use Rattle.ada_check_rules.specs.rules.Amounts.{capped}
use Rattle.ada_check_rules.specs.rules.inner.Counted.{IsCounted}
use Rattle.ada_check_rules.specs.rules.Sooner.{sooner}
use Rattle.ada_check_rules.specs.rules.RefusedFirst.{Standard, refused_first_at, refused_first}
use Rattle.ada_check_rules.proofs.rules.Capping.{capped_twice, capped_left_product}
use Rattle.ada_check_rules.proofs.rules.Meeting.{met_none, met_cons, met_one, met_append}
use Rattle.ada_check_rules.proofs.rules.CountLaws.{at_same, sum_same, right_same, from_same, count_more, count_end, numbered_same}

-- the entries of one task
module _ (by : Standard) (around : CheckScope) where
  spans_next : (n : ℕ) (x : PEntry) (xs : List PEntry) → refused_first by (numbered around Entries n (map (λ e. e.span) (x ∷ xs))) ≡ sooner (refused_first_at by around (counts Entries n 1 x.span)) (refused_first by (numbered around Entries (n + 1) (map (λ e. e.span) xs)))
  spans_next n x xs = met_cons by around (counts Entries n 1 x.span) (numbered around Entries (n + 1) (map (λ e. e.span) xs))

  spans_same : (b c : ℕ) (x : PEntry) → capped b ≡ capped c → refused_first_at by around (counts Entries b 1 x.span) ≡ refused_first_at by around (counts Entries c 1 x.span)
  spans_same b c x h = at_same by around Entries b c 1 1 x.span h refl

  pub entry_more : (xs : List EntryDecl) (i : ℕ) (x : EntryDecl) (b c : ℕ) (before after all : Option CheckRefusal) → drop i xs ≡ x ∷ drop (i + 1) xs
      → sooner before (refused_first by (numbered around Entries b (map (λ (e : PEntry). e.span) (map plain_entry (drop i xs))))) ≡ all
      → capped c ≡ capped (b + 1)
      → after ≡ sooner before (refused_first_at by around (counts Entries b 1 x.span))
      → sooner after (refused_first by (numbered around Entries c (map (λ (e : PEntry). e.span) (map plain_entry (drop (i + 1) xs))))) ≡ all
  entry_more = count_more by (λ n xs. numbered around Entries n (map (λ (e : PEntry). e.span) xs)) (λ n x. refused_first_at by around (counts Entries n 1 x.span)) (λ x. 1) (λ n. met_none by) spans_next spans_same plain_entry

  pub entry_end : (xs : List EntryDecl) (i : ℕ) (b : ℕ) (a all : Option CheckRefusal) → length xs ≤ i
      → sooner a (refused_first by (numbered around Entries b (map (λ (e : PEntry). e.span) (map plain_entry (drop i xs))))) ≡ all
      → a ≡ all
  entry_end = count_end by (λ n xs. numbered around Entries n (map (λ (e : PEntry). e.span) xs)) (λ n x. refused_first_at by around (counts Entries n 1 x.span)) (λ x. 1) (λ n. met_none by) spans_next spans_same plain_entry

-- ---- tasks

module _ (by : Standard) (around : CheckScope) where
  task_next : (n : ℕ) (x : NamedTasks) (xs : List NamedTasks) → refused_first by (tasks_sites around n (x ∷ xs)) ≡ sooner (refused_first_at by around (counts Tasks n (task_count around.types x) x.place)) (refused_first by (tasks_sites around (n + task_count around.types x) xs))
  task_next n x xs = met_cons by around (counts Tasks n (task_count around.types x) x.place) (tasks_sites around (n + task_count around.types x) xs)

  task_same : (b c : ℕ) (x : NamedTasks) → capped b ≡ capped c → refused_first_at by around (counts Tasks b (task_count around.types x) x.place) ≡ refused_first_at by around (counts Tasks c (task_count around.types x) x.place)
  task_same b c x h = at_same by around Tasks b c (task_count around.types x) (task_count around.types x) x.place h refl

  pub tasks_more : {A : Type 0} (see : A → NamedTasks) (xs : List A) (i : ℕ) (x : A) (b c : ℕ) (before after all : Option CheckRefusal) → drop i xs ≡ x ∷ drop (i + 1) xs
      → sooner before (refused_first by (tasks_sites around b (map see (drop i xs)))) ≡ all
      → capped c ≡ capped (b + task_count around.types (see x))
      → after ≡ sooner before (refused_first_at by around (counts Tasks b (task_count around.types (see x)) (see x).place))
      → sooner after (refused_first by (tasks_sites around c (map see (drop (i + 1) xs)))) ≡ all
  tasks_more = count_more by (tasks_sites around) (λ n x. refused_first_at by around (counts Tasks n (task_count around.types x) x.place)) (task_count around.types) (λ n. met_none by) task_next task_same

  pub tasks_end : {A : Type 0} (see : A → NamedTasks) (xs : List A) (i : ℕ) (b : ℕ) (a all : Option CheckRefusal) → length xs ≤ i
      → sooner a (refused_first by (tasks_sites around b (map see (drop i xs)))) ≡ all
      → a ≡ all
  tasks_end = count_end by (tasks_sites around) (λ n x. refused_first_at by around (counts Tasks n (task_count around.types x) x.place)) (task_count around.types) (λ n. met_none by) task_next task_same

  -- ---- entries

  entries_by : (of_kind : Bool) (b c : ℕ) (x : NamedTasks) → capped b ≡ capped c → x.unit.of_kind ≡ of_kind → refused_first by (entries_of_part around b x) ≡ refused_first by (entries_of_part around c x)
  entries_by of_kind b c x h e = by_kind x.unit.of_kind
    where
      by_kind : (k : Bool) → refused_first by (if k then site around (counts Entries b (task_count around.types x * length x.unit.entries) x.place) ∷ [] else numbered around Entries b (map (λ y. y.span) x.unit.entries)) ≡ refused_first by (if k then site around (counts Entries c (task_count around.types x * length x.unit.entries) x.place) ∷ [] else numbered around Entries c (map (λ y. y.span) x.unit.entries))
      by_kind true =
          met_one by around (counts Entries b (task_count around.types x * length x.unit.entries) x.place)
          ∙ at_same by around Entries b c (task_count around.types x * length x.unit.entries) (task_count around.types x * length x.unit.entries) x.place h refl
          ∙ sym (met_one by around (counts Entries c (task_count around.types x * length x.unit.entries) x.place))
      by_kind false = numbered_same by around Entries b c (map (λ y. y.span) x.unit.entries) h

  part_same : (b c : ℕ) (x : NamedTasks) → capped b ≡ capped c → refused_first by (entries_of_part around b x) ≡ refused_first by (entries_of_part around c x)
  part_same b c x h = entries_by x.unit.of_kind b c x h refl

  part_next : (n : ℕ) (x : NamedTasks) (xs : List NamedTasks) → refused_first by (entries_sites around n (x ∷ xs)) ≡ sooner (refused_first by (entries_of_part around n x)) (refused_first by (entries_sites around (n + task_count around.types x * length x.unit.entries) xs))
  part_next n x xs = met_append by (entries_of_part around n x) (entries_sites around (n + task_count around.types x * length x.unit.entries) xs)

  pub entries_more : {A : Type 0} (see : A → NamedTasks) (xs : List A) (i : ℕ) (x : A) (b c : ℕ) (before after all : Option CheckRefusal) → drop i xs ≡ x ∷ drop (i + 1) xs
      → sooner before (refused_first by (entries_sites around b (map see (drop i xs)))) ≡ all
      → capped c ≡ capped (b + task_count around.types (see x) * length (see x).unit.entries)
      → after ≡ sooner before (refused_first by (entries_of_part around b (see x)))
      → sooner after (refused_first by (entries_sites around c (map see (drop (i + 1) xs)))) ≡ all
  entries_more = count_more by (entries_sites around) (λ n x. refused_first by (entries_of_part around n x)) (λ x. task_count around.types x * length x.unit.entries) (λ n. met_none by) part_next part_same

  pub entries_end : {A : Type 0} (see : A → NamedTasks) (xs : List A) (i : ℕ) (b : ℕ) (a all : Option CheckRefusal) → length xs ≤ i
      → sooner a (refused_first by (entries_sites around b (map see (drop i xs)))) ≡ all
      → a ≡ all
  entries_end = count_end by (entries_sites around) (λ n x. refused_first by (entries_of_part around n x)) (λ x. task_count around.types x * length x.unit.entries) (λ n. met_none by) part_next part_same

  -- ---- copies

  module _ (share : NamedTasks → ℕ) where
    copy_next : (n : ℕ) (x : NamedTasks) (xs : List NamedTasks) → refused_first by (copies_sites around share n (x ∷ xs)) ≡ sooner (refused_first_at by around (counts Copies n (share x) x.name.span)) (refused_first by (copies_sites around share (n + share x) xs))
    copy_next n x xs = met_cons by around (counts Copies n (share x) x.name.span) (copies_sites around share (n + share x) xs)

    copy_same : (b c : ℕ) (x : NamedTasks) → capped b ≡ capped c → refused_first_at by around (counts Copies b (share x) x.name.span) ≡ refused_first_at by around (counts Copies c (share x) x.name.span)
    copy_same b c x h = at_same by around Copies b c (share x) (share x) x.name.span h refl

    copies_from : (b c : ℕ) (xs : List NamedTasks) → capped b ≡ capped c → refused_first by (copies_sites around share b xs) ≡ refused_first by (copies_sites around share c xs)
    copies_from = from_same by (copies_sites around share) (λ n x. refused_first_at by around (counts Copies n (share x) x.name.span)) share (λ n. met_none by) copy_next copy_same

    pub copies_more : {A : Type 0} (see : A → NamedTasks) (xs : List A) (i : ℕ) (x : A) (b c : ℕ) (before after all : Option CheckRefusal) → drop i xs ≡ x ∷ drop (i + 1) xs
        → sooner before (refused_first by (copies_sites around share b (map see (drop i xs)))) ≡ all
        → capped c ≡ capped (b + share (see x))
        → after ≡ sooner before (refused_first_at by around (counts Copies b (share (see x)) (see x).name.span))
        → sooner after (refused_first by (copies_sites around share c (map see (drop (i + 1) xs)))) ≡ all
    copies_more = count_more by (copies_sites around share) (λ n x. refused_first_at by around (counts Copies n (share x) x.name.span)) share (λ n. met_none by) copy_next copy_same

    pub copies_end : {A : Type 0} (see : A → NamedTasks) (xs : List A) (i : ℕ) (b : ℕ) (a all : Option CheckRefusal) → length xs ≤ i
        → sooner a (refused_first by (copies_sites around share b (map see (drop i xs)))) ≡ all
        → a ≡ all
    copies_end = count_end by (copies_sites around share) (λ n x. refused_first_at by around (counts Copies n (share x) x.name.span)) share (λ n. met_none by) copy_next copy_same

-- shares that are the same as far as limits go
pub shares_same : (by : Standard) (around : CheckScope) (f g : NamedTasks → ℕ) → ((x : NamedTasks) → capped (f x) ≡ capped (g x)) → (b c : ℕ) (xs : List NamedTasks) → capped b ≡ capped c → refused_first by (copies_sites around f b xs) ≡ refused_first by (copies_sites around g c xs)
shares_same by around f g e b c [] h = refl
shares_same by around f g e b c (x ∷ xs) h =
    met_cons by around (counts Copies b (f x) x.name.span) (copies_sites around f (b + f x) xs)
    ∙ ap (λ o. sooner o (refused_first by (copies_sites around f (b + f x) xs))) (at_same by around Copies b c (f x) (g x) x.name.span h (e x))
    ∙ ap (sooner (refused_first_at by around (counts Copies c (g x) x.name.span))) (shares_same by around f g e (b + f x) (c + g x) xs (both b c (f x) (g x) h (e x)))
    ∙ sym (met_cons by around (counts Copies c (g x) x.name.span) (copies_sites around g (c + g x) xs))
  where
    both : (k l v w : ℕ) → capped k ≡ capped l → capped v ≡ capped w → capped (k + v) ≡ capped (l + w)
    both k l v w p q = sum_same k l v p ∙ ap capped (swap l v) ∙ sum_same v w l q ∙ ap capped (swap w l)
      where
        swap : (r t : ℕ) → r + t ≡ t + r
        swap r t = omega arith

-- ---- turns of loops over the names that stand for tasks

module _ {A : Type 0} (by : Standard) (around : CheckScope) where
  pub task_turn : (types : TypeTable) (see : A → NamedTasks) (xs : List A) (i : ℕ) (x : A) (here b c : ℕ) (before after all : Option CheckRefusal) → around.types ≡ types → drop i xs ≡ x ∷ drop (i + 1) xs
      → sooner before (refused_first by (tasks_sites around b (map see (drop i xs)))) ≡ all
      → here ≡ capped (task_count types (see x))
      → capped c ≡ capped (b + here)
      → after ≡ sooner before (refused_first_at by around (counts Tasks b here (see x).place))
      → sooner after (refused_first by (tasks_sites around c (map see (drop (i + 1) xs)))) ≡ all
  task_turn types see xs i x here b c before after all same is_cut told is_here count is_after =
      let weight : capped here ≡ capped (task_count around.types (see x)) = ap capped is_here ∙ capped_twice (task_count types (see x)) ∙ ap (λ t. capped (task_count t (see x))) (sym same) in
      tasks_more by around see xs i x b c before after all is_cut told
      (count ∙ right_same b here (task_count around.types (see x)) weight)
      (is_after ∙ ap (sooner before) (at_same by around Tasks b b here (task_count around.types (see x)) (see x).place refl weight))

  pub copies_turn : (share : NamedTasks → ℕ) (see : A → NamedTasks) (xs : List A) (i : ℕ) (x : A) (here b c : ℕ) (before after all : Option CheckRefusal) → drop i xs ≡ x ∷ drop (i + 1) xs
      → sooner before (refused_first by (copies_sites around share b (map see (drop i xs)))) ≡ all
      → here ≡ share (see x)
      → capped c ≡ capped (b + here)
      → after ≡ sooner before (refused_first_at by around (counts Copies b here (see x).name.span))
      → sooner after (refused_first by (copies_sites around share c (map see (drop (i + 1) xs)))) ≡ all
  copies_turn share see xs i x here b c before after all is_cut told is_here count is_after =
      copies_more by around share see xs i x b c before after all is_cut told
      (count ∙ ap (λ k. capped (b + k)) is_here)
      (is_after ∙ ap (λ k. sooner before (refused_first_at by around (counts Copies b k (see x).name.span))) is_here)

  pub entries_turn : (types : TypeTable) (see : A → NamedTasks) (xs : List A) (i : ℕ) (x : A) (counted after : Counted) (all : Option CheckRefusal) → around.types ≡ types → drop i xs ≡ x ∷ drop (i + 1) xs
      → sooner counted.refusal (refused_first by (entries_sites around counted.count (map see (drop i xs)))) ≡ all
      → IsCounted by counted (entries_of_part around counted.count (see x)) (task_count types (see x) * length (see x).unit.entries) after
      → sooner after.refusal (refused_first by (entries_sites around after.count (map see (drop (i + 1) xs)))) ≡ all
  entries_turn types see xs i x counted after all same is_cut told here =
      entries_more by around see xs i x counted.count after.count counted.refusal after.refusal all is_cut told
      (here.count_is ∙ ap (λ t. capped (counted.count + task_count t (see x) * length (see x).unit.entries)) (sym same))
      here.refusal_is

-- ---- the entries of a name that stands for tasks

module _ (by : Standard) (around : CheckScope) (x : NamedTasks) (counted after : Counted) (here : ℕ) where
  here_is : (types : TypeTable) → around.types ≡ types → here ≡ capped (capped (task_count types x) * length x.unit.entries) → capped after.count ≡ capped (counted.count + here)
      → capped after.count ≡ capped (counted.count + task_count types x * length x.unit.entries)
  here_is types same is_here count = count ∙ right_same counted.count here (task_count types x * length x.unit.entries) (weight types is_here)
    where
      weight : (t : TypeTable) → here ≡ capped (capped (task_count t x) * length x.unit.entries) → capped here ≡ capped (task_count t x * length x.unit.entries)
      weight t h = ap capped h ∙ capped_twice (capped (task_count t x) * length x.unit.entries) ∙ capped_left_product (task_count t x) (length x.unit.entries)

  abbrev by_kind : Bool → List CheckSite
  by_kind b =
      if b
      then site around (counts Entries counted.count (task_count around.types x * length x.unit.entries) x.place) ∷ []
      else numbered around Entries counted.count (map (λ e. e.span) x.unit.entries)

  pub of_type : (types : TypeTable) → around.types ≡ types → x.unit.of_kind ≡ true → here ≡ capped (capped (task_count types x) * length x.unit.entries)
      → capped after.count ≡ capped (counted.count + here)
      → after.refusal ≡ sooner counted.refusal (refused_first_at by around (counts Entries counted.count here x.place))
      → IsCounted by counted (entries_of_part around counted.count x) (task_count types x * length x.unit.entries) after
  of_type types same kind is_here count refused =
      let weight : capped here ≡ capped (task_count around.types x * length x.unit.entries) =
      ap capped is_here ∙ capped_twice (capped (task_count types x) * length x.unit.entries) ∙ capped_left_product (task_count types x) (length x.unit.entries) ∙ ap (λ t. capped (task_count t x * length x.unit.entries)) (sym same) in
      record {
        count_is = here_is types same is_here count;
        refusal_is =
            refused
            ∙ ap (sooner counted.refusal)
            (at_same by around Entries counted.count counted.count here (task_count around.types x * length x.unit.entries) x.place refl weight
            ∙ sym (met_one by around (counts Entries counted.count (task_count around.types x * length x.unit.entries) x.place))
            ∙ ap (λ b. refused_first by (by_kind b)) (sym kind));
      }

  pub of_single : (types : TypeTable) (n : ℕ) (inner : Counted) → around.types ≡ types → x.unit.of_kind ≡ false → here ≡ capped (capped (task_count types x) * length x.unit.entries)
      → capped after.count ≡ capped (counted.count + here)
      → after.refusal ≡ inner.refusal
      → IsCounted by counted (numbered around Entries counted.count (map (λ (e : PEntry). e.span) x.unit.entries)) n inner
      → IsCounted by counted (entries_of_part around counted.count x) (task_count types x * length x.unit.entries) after
  of_single types n inner same kind is_here count refused told = record {
    count_is = here_is types same is_here count;
    refusal_is = refused ∙ told.refusal_is ∙ ap (λ b. sooner counted.refusal (refused_first by (by_kind b))) (sym kind);
  }
