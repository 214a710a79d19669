-- The members of a task, told apart one by one.
use Rattle.std.proofs.Common.{◌≡◌, ℕ, suc, ◌+◌, List, [], ◌∷◌, ◌++◌, length, map, refl, sym, ap, ◌∙◌, arith}
use Rattle.std.proofs.lemmas.List.{map-append}
use Rattle.ada_tree.specs.declared.declarations.EntryDecl.{EntryDecl}
use Rattle.ada_tree.specs.declared.declarations.Priority.{Priority}
use Rattle.ada_tree.specs.PlainDecl.{plain_entry, plain_priority}
use Rattle.ada_task_parser.specs.Tasks.{Member, MEntry, MPriority, entries_in, priorities_in}
use Rattle.ada_task_parser.specs.declared.task_items.Member.{Member as Part}
use Rattle.ada_task_parser.specs.inner.MemberViews.{plain_member}
use Rattle.common_lemmas.proofs.Lists.{mapped_length}

entries_both : (xs ys : List Member) → entries_in (xs ++ ys) ≡ entries_in xs ++ entries_in ys
entries_both [] ys = refl
entries_both (MEntry x ∷ xs) ys = ap (λ l. x ∷ l) (entries_both xs ys)
entries_both (MPriority e ∷ xs) ys = entries_both xs ys

priorities_both : (n : ℕ) (xs ys : List Member) → priorities_in n (xs ++ ys) ≡ priorities_in n xs ++ priorities_in (n + length (entries_in xs)) ys
priorities_both n [] ys = let e : n + 0 ≡ n = omega arith in ap (λ k. priorities_in k ys) (sym e)
priorities_both n (MEntry x ∷ xs) ys =
    let e : n + 1 + length (entries_in xs) ≡ n + suc (length (entries_in xs)) = omega arith in
    priorities_both (n + 1) xs ys ∙ ap (λ k. priorities_in (n + 1) xs ++ priorities_in k ys) e
priorities_both n (MPriority e ∷ xs) ys = ap (λ l. record { place = n; value = e } ∷ l) (priorities_both n xs ys)

module _ (done : List Part) (m : Part) (before new : List EntryDecl) (pragmas now : List Priority) where
  pub entries_grow : map plain_entry before ≡ entries_in (map plain_member done) → map plain_entry new ≡ map plain_entry before ++ entries_in (plain_member m ∷ []) → map plain_entry new ≡ entries_in (map plain_member (done ++ m ∷ []))
  entries_grow upto more = more ∙ ap (λ l. l ++ entries_in (plain_member m ∷ [])) upto ∙ sym (ap entries_in (map-append plain_member done (m ∷ [])) ∙ entries_both (map plain_member done) (plain_member m ∷ []))

  pub priorities_grow :
      map plain_entry before ≡ entries_in (map plain_member done) → map plain_priority pragmas ≡ priorities_in 0 (map plain_member done) →
      map plain_priority now ≡ map plain_priority pragmas ++ priorities_in (length before) (plain_member m ∷ []) → map plain_priority now ≡ priorities_in 0 (map plain_member (done ++ m ∷ []))
  priorities_grow entries upto more =
      let same : length before ≡ length (entries_in (map plain_member done)) = sym (mapped_length plain_entry before) ∙ ap length entries in
      let n : length before ≡ 0 + length (entries_in (map plain_member done)) = omega (arith, same) in
      more ∙ ap (λ l. l ++ priorities_in (length before) (plain_member m ∷ [])) upto
      ∙ ap (λ k. priorities_in 0 (map plain_member done) ++ priorities_in k (plain_member m ∷ [])) n
      ∙ sym (ap (priorities_in 0) (map-append plain_member done (m ∷ [])) ∙ priorities_both 0 (map plain_member done) (plain_member m ∷ []))
