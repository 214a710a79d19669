-- One turn of a loop that goes through a list in place: what was gone through is one more, and so is what it became.
use Rattle.std.proofs.Common.{◌≡◌, ℕ, zero, suc, ◌+◌, ◌<◌, ◌≤◌, List, [], ◌∷◌, ◌++◌, length, map, take, get_or, slice_set, refl, sym, ap, ◌∙◌, add-one, arith}
use Rattle.std.proofs.lemmas.List.{map-append, take_more}
use Rattle.ada_tree.specs.declared.statements.Alt.{Alt}
use Rattle.ada_tree.specs.declared.statements.Stmt.{Stmt}
use Rattle.ada_tree.specs.PlainStmt.{PStmts, stmts_of, alts_of, plain_stmt, plain_alt, seen}
use Rattle.task_model.specs.Frames.{in_front}
use Rattle.normal_model.specs.Walk.{Rewriter, after_parts, after_stmts, after_alts, alts_leads, rewritten, image_of}
use Rattle.tree_rewriting.proofs.walking.Rows.{after-more, rewritten-more, leads-more}
use Rattle.normal_model.proofs.WalkLemmas.{in_front-joined}

-- the list has its length, and what was not gone through is as it was
abbrev pub Left : {X : Type 0} → ℕ → List X → List X → Type 0
Left i ys xs = (length ys ≡ length xs) × ((k : ℕ) → (d : _) → i ≤ k → get_or ys k d ≡ get_or xs k d)

-- the front of a list behind a change in it
take-set : {X : Type 0} (ys : List X) (i : ℕ) (y : X) → i < length ys → take (suc i) (slice_set ys i y) ≡ take i ys ++ y ∷ []
take-set [] i y h = absurd (omega (arith, h))
take-set (x ∷ ys) zero y h = refl
take-set (x ∷ ys) (suc i) y h = ap (λ l. x ∷ l) (take-set ys i y (omega (arith, h)))

-- one more of a list, seen through a view
seen-more : {X P : Type 0} (f : X → P) (xs : List X) (i : ℕ) (d : X) → i < length xs → map f (take (i + 1) xs) ≡ map f (take i xs) ++ f (get_or xs i d) ∷ []
seen-more f xs i d h = ap (map f) (take_more xs i d h) ∙ map-append f (take i xs) (get_or xs i d ∷ [])

-- the same behind a change
set-more : {X P : Type 0} (f : X → P) (ys : List X) (i : ℕ) (y : X) → i < length ys → map f (take (i + 1) (slice_set ys i y)) ≡ map f (take i ys) ++ f y ∷ []
set-more f ys i y h = ap (λ n. map f (take n (slice_set ys i y))) (add-one i) ∙ ap (map f) (take-set ys i y h) ∙ map-append f (take i ys) (y ∷ [])

module _ {X P R S : Type 0} (f : X → P) (of : List P → R) (snoc : R → P → R) (of-snoc : (xs : List P) (y : P) → of (xs ++ y ∷ []) ≡ snoc (of xs) y) (inside : R → S → R) (after : R → S → S) (one : P → S → P) (behind : P → S → S) (more : (xs : List P) (x : P) (t : S) → inside (of (xs ++ x ∷ [])) t ≡ snoc (inside (of xs) t) (one x (after (of xs) t))) (then : (xs : List P) (x : P) (t : S) → after (of (xs ++ x ∷ [])) t ≡ behind x (after (of xs) t)) where
  pub row-turn :
      (xs ys : List X) (i : ℕ) (d y : X) (t u : S) →
      i < length ys →
      Left i ys xs →
      of (map f (take i ys)) ≡ inside (of (map f (take i xs))) t →
      u ≡ after (of (map f (take i xs))) t →
      f y ≡ one (f (get_or ys i d)) u →
      of (map f (take (i + 1) (slice_set ys i y))) ≡ inside (of (map f (take (i + 1) xs))) t
  row-turn xs ys i d y t u h left so_far state step =
      ap of (set-more f ys i y h)
      ∙ of-snoc (map f (take i ys)) (f y)
      ∙ ap (λ r. snoc r (f y)) so_far
      ∙ ap (snoc (inside (of (map f (take i xs))) t)) (step ∙ (λ j. one (f (left.1 i d (omega arith) j)) (state j)))
      ∙ sym (more (map f (take i xs)) (f (get_or xs i d)) t)
      ∙ sym (ap (λ l. inside (of l) t) (seen-more f xs i d (omega (arith, h, left.0))))

  pub row-state-turn :
      (xs ys : List X) (i : ℕ) (d : X) (t u v : S) →
      i < length ys →
      Left i ys xs →
      u ≡ after (of (map f (take i xs))) t →
      v ≡ behind (f (get_or ys i d)) u →
      v ≡ after (of (map f (take (i + 1) xs))) t
  row-state-turn xs ys i d t u v h left so_far step =
      step
      ∙ (λ j. behind (f (left.1 i d (omega arith) j)) (so_far j))
      ∙ sym (then (map f (take i xs)) (f (get_or xs i d)) t)
      ∙ sym (ap (λ l. after (of l) t) (seen-more f xs i d (omega (arith, h, left.0))))

module _ {S : Type 0} (w : Rewriter S) where
  pub stmts-state-turn :
      (xs ys : List Stmt) (i : ℕ) (d : Stmt) (t u v : S) →
      i < length ys →
      Left i ys xs →
      u ≡ after_stmts w (seen (take i xs)) t →
      v ≡ after_parts w (plain_stmt (get_or ys i d)) (w.entered_stmt u (plain_stmt (get_or ys i d))) →
      v ≡ after_stmts w (seen (take (i + 1) xs)) t
  stmts-state-turn xs ys i d t u v h left so_far step =
      step
      ∙ (λ j. after_parts w (plain_stmt (left.1 i d (omega arith) j)) (w.entered_stmt (so_far j) (plain_stmt (left.1 i d (omega arith) j))))
      ∙ sym (after-more w (map plain_stmt (take i xs)) (plain_stmt (get_or xs i d)) t)
      ∙ sym (ap (λ l. after_stmts w (stmts_of l) t) (seen-more plain_stmt xs i d (omega (arith, h, left.0))))

  pub stmts-tree-turn :
      (xs ys : List Stmt) (i : ℕ) (d : Stmt) (t u : S) (front before behind : PStmts) →
      i < length ys →
      Left i ys xs →
      before ≡ in_front front (rewritten w (seen (take i xs)) t) →
      u ≡ after_stmts w (seen (take i xs)) t →
      behind ≡ in_front before (image_of w (plain_stmt (get_or ys i d)) u) →
      behind ≡ in_front front (rewritten w (seen (take (i + 1) xs)) t)
  stmts-tree-turn xs ys i d t u front before behind h left so_far state step =
      step
      ∙ (λ j. in_front (so_far j) (image_of w (plain_stmt (left.1 i d (omega arith) j)) (state j)))
      ∙ in_front-joined front (rewritten w (seen (take i xs)) t) (image_of w (plain_stmt (get_or xs i d)) (after_stmts w (seen (take i xs)) t))
      ∙ sym (ap (in_front front) (rewritten-more w (map plain_stmt (take i xs)) (plain_stmt (get_or xs i d)) t))
      ∙ sym (ap (λ l. in_front front (rewritten w (stmts_of l) t)) (seen-more plain_stmt xs i d (omega (arith, h, left.0))))

  pub leads-turn :
      (xs ys : List Alt) (i : ℕ) (d : Alt) (t u : S) (front before behind : PStmts) →
      i < length ys →
      Left i ys xs →
      before ≡ in_front front (alts_leads w (alts_of (map plain_alt (take i xs))) t) →
      u ≡ after_alts w (alts_of (map plain_alt (take i xs))) t →
      behind ≡ in_front before (w.lead u (plain_alt (get_or ys i d))) →
      behind ≡ in_front front (alts_leads w (alts_of (map plain_alt (take (i + 1) xs))) t)
  leads-turn xs ys i d t u front before behind h left so_far state step =
      step
      ∙ (λ j. in_front (so_far j) (w.lead (state j) (plain_alt (left.1 i d (omega arith) j))))
      ∙ in_front-joined front (alts_leads w (alts_of (map plain_alt (take i xs))) t) (w.lead (after_alts w (alts_of (map plain_alt (take i xs))) t) (plain_alt (get_or xs i d)))
      ∙ sym (ap (in_front front) (leads-more w (map plain_alt (take i xs)) (plain_alt (get_or xs i d)) t))
      ∙ sym (ap (λ l. in_front front (alts_leads w (alts_of l) t)) (seen-more plain_alt xs i d (omega (arith, h, left.0))))
