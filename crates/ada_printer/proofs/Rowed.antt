-- The text of a row is the texts of its members, one behind the other; and how a list with a first member is put.
use Rattle.std.specs.Prelude.{◌≡◌, ◌-◌, ◌≤◌, ◌<◌, ℕ, List, [], ◌∷◌, codes, length, map, take, drop, refl}
use Rattle.std.proofs.Common.{sym, ap, ◌∙◌, subst, get_or}
use Rattle.std.proofs.lemmas.List.{append-nil}
use Rattle.ada_tree.specs.PlainStmt.{PStmt, PAlt, PArm, PCaseArm, PHandler, PFormal, stmts_of, alts_of, arms_of, case_arms_of, handlers_of}
use Rattle.ada_tree.specs.PlainDecl.{PDecl, decls_of}
use Rattle.ded_io.specs.Written.{◌⧺◌, each_text}
use Rattle.ded_io.proofs.Writes.{joined, joined_assoc}
use Rattle.ada_printer.specs.StmtText.{formal_text, formals_text, stmt_text, stmts_text, alt_text, alts_text, later_alt_text, more_alts_text, arm_text, arms_text, later_arm_text, more_arms_text, case_arm_text, case_arms_text, handler_text, handlers_text}
use Rattle.ada_printer.specs.Layout.{deeper, separated}
use Rattle.ada_printer.specs.DeclText.{decl_text, decls_text}
use Rattle.ded_io.specs.pages.Pages.{Drawing, Drew}
use Rattle.ded_io.proofs.pages.Drawn.{drew_none, drew_then}
use Rattle.ada_printer.proofs.Listed.{not_below_zero, not_below_one, rest_is}

module _ (names : List (List ℕ)) (level : ℕ) where
  pub stmts_row : (xs : List PStmt) → stmts_text names level (stmts_of xs) ≡ each_text (stmt_text names level) xs
  stmts_row [] = refl
  stmts_row (x ∷ xs) = ap (λ t. stmt_text names level x ⧺ t) (stmts_row xs)

  pub more_alts_row : (xs : List PAlt) → more_alts_text names level (alts_of xs) ≡ each_text (later_alt_text names level) xs
  more_alts_row [] = refl
  more_alts_row (x ∷ xs) = ap (λ t. later_alt_text names level x ⧺ t) (more_alts_row xs)

  pub more_arms_row : (xs : List PArm) → more_arms_text names level (arms_of xs) ≡ each_text (later_arm_text names level) xs
  more_arms_row [] = refl
  more_arms_row (x ∷ xs) = ap (λ t. later_arm_text names level x ⧺ t) (more_arms_row xs)

  pub case_arms_row : (xs : List PCaseArm) → case_arms_text names level (case_arms_of xs) ≡ each_text (case_arm_text names level) xs
  case_arms_row [] = refl
  case_arms_row (x ∷ xs) = ap (λ t. case_arm_text names level x ⧺ t) (case_arms_row xs)

  pub handlers_row : (xs : List PHandler) → handlers_text names level (handlers_of xs) ≡ each_text (handler_text names level) xs
  handlers_row [] = refl
  handlers_row (x ∷ xs) = ap (λ t. handler_text names level x ⧺ t) (handlers_row xs)

  pub decls_row : (xs : List PDecl) → decls_text names level (decls_of xs) ≡ each_text (decl_text names level) xs
  decls_row [] = refl
  decls_row (x ∷ xs) = ap (λ t. decl_text names level x ⧺ t) (decls_row xs)

-- the same text, said otherwise
pub drew_as : (a b : Drawing) (s t : List ℕ) → s ≡ t → Drew a b s → Drew a b t
drew_as a b s t e = subst (λ u. Drew a b u) e

-- a line of two parts, and then what stands behind it
pub drew_line : (a b c : Drawing) (s t u : List ℕ) → Drew a b (s ⧺ t) → Drew b c u → Drew a c (s ⧺ (t ⧺ u))
drew_line a b c s t u p q = drew_as a c _ _ (joined_assoc s t u) (drew_then a b c (s ⧺ t) u p q)

-- a text of three parts, and then what stands behind it
pub drew_three : (a b c : Drawing) (s t u v : List ℕ) → Drew a b (s ⧺ (t ⧺ u)) → Drew b c v → Drew a c (s ⧺ (t ⧺ (u ⧺ v)))
drew_three a b c s t u v p q =
    drew_as a c _ _ (joined_assoc s (t ⧺ u) v ∙ ap (λ w. s ⧺ w) (joined_assoc t u v)) (drew_then a b c (s ⧺ (t ⧺ u)) v p q)

-- a text of four parts, and then what stands behind it
pub drew_four : (a b c : Drawing) (s t u v w : List ℕ) → Drew a b (s ⧺ (t ⧺ (u ⧺ v))) → Drew b c w → Drew a c (s ⧺ (t ⧺ (u ⧺ (v ⧺ w))))
drew_four a b c s t u v w p q =
    drew_as a c _ _ (joined_assoc s (t ⧺ (u ⧺ v)) w ∙ ap (λ x. s ⧺ x) (joined_assoc t (u ⧺ v) w ∙ ap (λ x. t ⧺ x) (joined_assoc u v w))) (drew_then a b c (s ⧺ (t ⧺ (u ⧺ v))) w p q)

-- a list of one member at least is its first and the rest
pub first_and_rest : (X : Type 0) (xs rest : List X) (m : X) → 1 ≤ length xs → m ≡ get_or xs 0 m → rest ≡ take (length xs - 1) (drop 1 xs) → xs ≡ m ∷ rest
first_and_rest X [] rest m some is_m is_rest = absurd (not_below_zero some)
first_and_rest X (x ∷ xs) rest m some is_m is_rest = ap (λ y. y ∷ xs) (sym is_m) ∙ ap (λ ys. m ∷ ys) (sym (is_rest ∙ rest_is X x xs))

-- nothing stands behind
pub drew_nothing : (a b : Drawing) (s : List ℕ) → Drew a b s → Drew a b (s ⧺ [])
drew_nothing a b s = drew_as a b _ _ (sym (joined s [] ∙ append-nil s))

-- alternatives: the first, and then the others with `or` before each
pub alts_there : (A : Type 0) (f : A → PAlt) (names : List (List ℕ)) (level n : ℕ) (xs rest : List A) (m : A) (a b c : Drawing) → n ≡ deeper level → 1 ≤ length xs → m ≡ get_or xs 0 m → rest ≡ take (length xs - 1) (drop 1 xs) → Drew a b (alt_text names n (f m)) → Drew b c (each_text (later_alt_text names level) (map f rest)) → Drew a c (alts_text names level (alts_of (map f xs)))
alts_there A f names level n xs rest m a b c deep some is_m is_rest first others =
    subst (λ ys. Drew a c (alts_text names level (alts_of (map f ys)))) (sym (first_and_rest A xs rest m some is_m is_rest))
    (drew_then a b c _ _ (subst (λ k. Drew a b (alt_text names k (f m))) deep first) (drew_as b c _ _ (sym (more_alts_row names level (map f rest))) others))

pub alts_none : (A : Type 0) (f : A → PAlt) (names : List (List ℕ)) (level : ℕ) (xs : List A) (a : Drawing) → length xs < 1 → Drew a a (alts_text names level (alts_of (map f xs)))
alts_none A f names level [] a none = drew_none a
alts_none A f names level (x ∷ xs) a none = absurd (not_below_one (length xs) none)

-- the branches of an if statement: `if` and the first, and then the others with `elsif` before each
pub arms_there : (A : Type 0) (f : A → PArm) (names : List (List ℕ)) (level : ℕ) (xs rest : List A) (m : A) (a b c d : Drawing) → 1 ≤ length xs → m ≡ get_or xs 0 m → rest ≡ take (length xs - 1) (drop 1 xs) → Drew a b (codes "if ") → Drew b c (arm_text names level (f m)) → Drew c d (each_text (later_arm_text names level) (map f rest)) → Drew a d (arms_text names level (arms_of (map f xs)))
arms_there A f names level xs rest m a b c d some is_m is_rest word first others =
    subst (λ ys. Drew a d (arms_text names level (arms_of (map f ys)))) (sym (first_and_rest A xs rest m some is_m is_rest))
    (drew_then a c d _ _ (drew_then a b c _ _ word first) (drew_as c d _ _ (sym (more_arms_row names level (map f rest))) others))

pub arms_none : (A : Type 0) (f : A → PArm) (names : List (List ℕ)) (level : ℕ) (xs : List A) (a : Drawing) → length xs < 1 → Drew a a (arms_text names level (arms_of (map f xs)))
arms_none A f names level [] a none = drew_none a
arms_none A f names level (x ∷ xs) a none = absurd (not_below_one (length xs) none)

-- formals in parentheses, or nothing
pub formals_none : (A : Type 0) (f : A → PFormal) (names : List (List ℕ)) (xs : List A) (a : Drawing) → length xs < 1 → Drew a a (formals_text names (map f xs))
formals_none A f names [] a none = drew_none a
formals_none A f names (x ∷ xs) a none = absurd (not_below_one (length xs) none)

pub formals_some : (A : Type 0) (f : A → PFormal) (names : List (List ℕ)) (xs : List A) (a b c d : Drawing) → 1 ≤ length xs → Drew a b (codes "(") → Drew b c (separated (codes "; ") (formal_text names) (map f xs)) → Drew c d (codes ")") → Drew a d (formals_text names (map f xs))
formals_some A f names [] a b c d some open_it inside close_it = absurd (not_below_zero some)
formals_some A f names (x ∷ xs) a b c d some open_it inside close_it = drew_then a b d _ _ open_it (drew_then b c d _ _ inside close_it)
