-- Rows that are the same place by place, for the loops that compare lists of statements, alternatives, arms and handlers.
use Rattle.std.proofs.Common.{◌≡◌, ℕ, ◌+◌, ◌<◌, List, [], ◌∷◌, length, map, take, get_or}
use Rattle.std.specs.List.{AllZip}
use Rattle.ada_tree.specs.PlainStmt.{stmts_of, alts_of, arms_of, case_arms_of, handlers_of, plain_stmt, plain_alt, plain_arm, plain_case_arm, plain_handler}
use Rattle.ada_tree.specs.Same.{SameStmt, SameStmts, SameAlt, SameAlts, SameArm, SameArms, SameCaseArm, SameCaseArms, SameHandler, SameHandlers}
use Rattle.ada_tree_same.proofs.expressions.SameLemmas.{AllZip-more, AllZip-at, AllZip-length}

-- Of a relation of rows: whether it is a relation of their items place by place, and then what a loop over two lists asks of it.
module _ {X Row : Type 0} (R : X → X → Type 0) (row : List X → Row) (Rows : Row → Row → Type 0) where
  abbrev pub Zipped : Type 0
  Zipped = (xs ys : List X) → (Rows (row xs) (row ys) → AllZip R xs ys) × (AllZip R xs ys → Rows (row xs) (row ys))

  module _ {A : Type 0} (f : A → X) where
    -- so far the same and the same in this place: the same up to the next place
    abbrev pub More : Type 0
    More =
        (xs ys : List A) (i : ℕ) (x y : A) →
        i < length xs →
        i < length ys →
        x ≡ get_or xs i x →
        y ≡ get_or ys i y →
        Rows (row (map f (take i xs))) (row (map f (take i ys))) →
        R (f x) (f y) →
        Rows (row (map f (take (i + 1) xs))) (row (map f (take (i + 1) ys)))

    abbrev pub AtPlace : Type 0
    AtPlace =
        (xs ys : List A) (i : ℕ) (x y : A) →
        i < length xs →
        i < length ys →
        x ≡ get_or xs i x →
        y ≡ get_or ys i y →
        Rows (row (map f xs)) (row (map f ys)) →
        R (f x) (f y)

    abbrev pub AsLong : Type 0
    AsLong = (xs ys : List A) → Rows (row (map f xs)) (row (map f ys)) → length xs ≡ length ys

    pub more : Zipped → More
    more zipped xs ys i x y lx ly at_x at_y before here = (zipped _ _).1 (AllZip-more R f xs ys i x y lx ly at_x at_y ((zipped _ _).0 before) here)

    pub at_place : Zipped → AtPlace
    at_place zipped xs ys i x y lx ly at_x at_y whole = AllZip-at R f xs ys i x y lx ly at_x at_y ((zipped _ _).0 whole)

    pub as_long : Zipped → AsLong
    as_long zipped xs ys whole = AllZip-length R f xs ys ((zipped _ _).0 whole)

stmts_zipped : (n m : List (List ℕ)) → Zipped (SameStmt n m) stmts_of (SameStmts n m)
stmts_zipped n m [] [] = (λ h. h, λ h. h)
stmts_zipped n m [] (y ∷ ys) = (λ h. h, λ h. h)
stmts_zipped n m (x ∷ xs) [] = (λ h. h, λ h. h)
stmts_zipped n m (x ∷ xs) (y ∷ ys) = let rest = stmts_zipped n m xs ys in (λ h. (h.0, rest.0 h.1), λ h. (h.0, rest.1 h.1))

pub stmts_more : (n m : List (List ℕ)) → More (SameStmt n m) stmts_of (SameStmts n m) plain_stmt
stmts_more n m = more (SameStmt n m) stmts_of (SameStmts n m) plain_stmt (stmts_zipped n m)

pub stmts_at : (n m : List (List ℕ)) → AtPlace (SameStmt n m) stmts_of (SameStmts n m) plain_stmt
stmts_at n m = at_place (SameStmt n m) stmts_of (SameStmts n m) plain_stmt (stmts_zipped n m)

pub stmts_length : (n m : List (List ℕ)) → AsLong (SameStmt n m) stmts_of (SameStmts n m) plain_stmt
stmts_length n m = as_long (SameStmt n m) stmts_of (SameStmts n m) plain_stmt (stmts_zipped n m)

pub ruleset same_stmts = (stmts_more, stmts_at, stmts_length)

alts_zipped : (n m : List (List ℕ)) → Zipped (SameAlt n m) alts_of (SameAlts n m)
alts_zipped n m [] [] = (λ h. h, λ h. h)
alts_zipped n m [] (y ∷ ys) = (λ h. h, λ h. h)
alts_zipped n m (x ∷ xs) [] = (λ h. h, λ h. h)
alts_zipped n m (x ∷ xs) (y ∷ ys) = let rest = alts_zipped n m xs ys in (λ h. (h.0, rest.0 h.1), λ h. (h.0, rest.1 h.1))

pub alts_more : (n m : List (List ℕ)) → More (SameAlt n m) alts_of (SameAlts n m) plain_alt
alts_more n m = more (SameAlt n m) alts_of (SameAlts n m) plain_alt (alts_zipped n m)

pub alts_at : (n m : List (List ℕ)) → AtPlace (SameAlt n m) alts_of (SameAlts n m) plain_alt
alts_at n m = at_place (SameAlt n m) alts_of (SameAlts n m) plain_alt (alts_zipped n m)

pub alts_length : (n m : List (List ℕ)) → AsLong (SameAlt n m) alts_of (SameAlts n m) plain_alt
alts_length n m = as_long (SameAlt n m) alts_of (SameAlts n m) plain_alt (alts_zipped n m)

pub ruleset same_alts = (alts_more, alts_at, alts_length)

arms_zipped : (n m : List (List ℕ)) → Zipped (SameArm n m) arms_of (SameArms n m)
arms_zipped n m [] [] = (λ h. h, λ h. h)
arms_zipped n m [] (y ∷ ys) = (λ h. h, λ h. h)
arms_zipped n m (x ∷ xs) [] = (λ h. h, λ h. h)
arms_zipped n m (x ∷ xs) (y ∷ ys) = let rest = arms_zipped n m xs ys in (λ h. (h.0, rest.0 h.1), λ h. (h.0, rest.1 h.1))

pub arms_more : (n m : List (List ℕ)) → More (SameArm n m) arms_of (SameArms n m) plain_arm
arms_more n m = more (SameArm n m) arms_of (SameArms n m) plain_arm (arms_zipped n m)

pub arms_at : (n m : List (List ℕ)) → AtPlace (SameArm n m) arms_of (SameArms n m) plain_arm
arms_at n m = at_place (SameArm n m) arms_of (SameArms n m) plain_arm (arms_zipped n m)

pub arms_length : (n m : List (List ℕ)) → AsLong (SameArm n m) arms_of (SameArms n m) plain_arm
arms_length n m = as_long (SameArm n m) arms_of (SameArms n m) plain_arm (arms_zipped n m)

pub ruleset same_arms = (arms_more, arms_at, arms_length)

case_arms_zipped : (n m : List (List ℕ)) → Zipped (SameCaseArm n m) case_arms_of (SameCaseArms n m)
case_arms_zipped n m [] [] = (λ h. h, λ h. h)
case_arms_zipped n m [] (y ∷ ys) = (λ h. h, λ h. h)
case_arms_zipped n m (x ∷ xs) [] = (λ h. h, λ h. h)
case_arms_zipped n m (x ∷ xs) (y ∷ ys) = let rest = case_arms_zipped n m xs ys in (λ h. (h.0, rest.0 h.1), λ h. (h.0, rest.1 h.1))

pub case_arms_more : (n m : List (List ℕ)) → More (SameCaseArm n m) case_arms_of (SameCaseArms n m) plain_case_arm
case_arms_more n m = more (SameCaseArm n m) case_arms_of (SameCaseArms n m) plain_case_arm (case_arms_zipped n m)

pub case_arms_at : (n m : List (List ℕ)) → AtPlace (SameCaseArm n m) case_arms_of (SameCaseArms n m) plain_case_arm
case_arms_at n m = at_place (SameCaseArm n m) case_arms_of (SameCaseArms n m) plain_case_arm (case_arms_zipped n m)

pub case_arms_length : (n m : List (List ℕ)) → AsLong (SameCaseArm n m) case_arms_of (SameCaseArms n m) plain_case_arm
case_arms_length n m = as_long (SameCaseArm n m) case_arms_of (SameCaseArms n m) plain_case_arm (case_arms_zipped n m)

pub ruleset same_case_arms = (case_arms_more, case_arms_at, case_arms_length)

handlers_zipped : (n m : List (List ℕ)) → Zipped (SameHandler n m) handlers_of (SameHandlers n m)
handlers_zipped n m [] [] = (λ h. h, λ h. h)
handlers_zipped n m [] (y ∷ ys) = (λ h. h, λ h. h)
handlers_zipped n m (x ∷ xs) [] = (λ h. h, λ h. h)
handlers_zipped n m (x ∷ xs) (y ∷ ys) = let rest = handlers_zipped n m xs ys in (λ h. (h.0, rest.0 h.1), λ h. (h.0, rest.1 h.1))

pub handlers_more : (n m : List (List ℕ)) → More (SameHandler n m) handlers_of (SameHandlers n m) plain_handler
handlers_more n m = more (SameHandler n m) handlers_of (SameHandlers n m) plain_handler (handlers_zipped n m)

pub handlers_at : (n m : List (List ℕ)) → AtPlace (SameHandler n m) handlers_of (SameHandlers n m) plain_handler
handlers_at n m = at_place (SameHandler n m) handlers_of (SameHandlers n m) plain_handler (handlers_zipped n m)

pub handlers_length : (n m : List (List ℕ)) → AsLong (SameHandler n m) handlers_of (SameHandlers n m) plain_handler
handlers_length n m = as_long (SameHandler n m) handlers_of (SameHandlers n m) plain_handler (handlers_zipped n m)

pub ruleset same_handlers = (handlers_more, handlers_at, handlers_length)
