-- Rows of statements one in front of the other, and the rows of lists.
use Rattle.std.proofs.Common.{◌≡◌, ◌==◌, Bool, false, length, List, [], ◌∷◌, ◌++◌, Result, Ok, Err, OnOk, refl, ap, ◌∙◌}
use Rattle.ada_tree.specs.declared.naming.Span.{Span}
use Rattle.ada_tree.specs.declared.statements.Stmt.{Stmt}
use Rattle.ada_tree.specs.PlainStmt.{no_stmt, stmt_then, plain_stmt, seen}
use Rattle.ada_stmt_copy.specs.expressions.Parts.{OkWith}
use Rattle.task_model.specs.Frames.{in_front}
use Rattle.normal_model.specs.Making.{or_null}
use Rattle.normal_model.proofs.WalkLemmas.{in_front-joined, in_front-nil, seen-joined}

-- a statement that went behind others, where that went well
pub pushed :
    {A E F : Type 0} (r : Result A E) (part : Result Stmt F) (xs ys : List Stmt) →
    OnOk r (OkWith part (λ x. ys ≡ xs ++ x ∷ [])) →
    OnOk r (OkWith part (λ x. seen ys ≡ in_front (seen xs) (stmt_then (plain_stmt x) no_stmt)))
pushed (Ok a) (Ok x) xs ys h = ap seen h ∙ seen-joined xs (x ∷ [])
pushed (Ok a) (Err e) xs ys h = h
pushed (Err e) part xs ys h = tt

pub taken :
    {A E : Type 0} (r : Result A E) (xs ys : List Stmt) (x : Stmt) →
    OnOk r (ys ≡ xs ++ x ∷ []) →
    OnOk r (seen ys ≡ in_front (seen xs) (stmt_then (plain_stmt x) no_stmt))
taken (Ok a) xs ys x h = ap seen h ∙ seen-joined xs (x ∷ [])
taken (Err e) xs ys x h = tt

pub appended :
    {A B E F : Type 0} (r : Result A E) (done : Result B F) (xs ys zs : List Stmt) →
    OnOk r (OkWith done (λ _. zs ≡ xs ++ ys)) →
    OnOk r (OkWith done (λ _. seen zs ≡ in_front (seen xs) (seen ys)))
appended (Ok a) (Ok b) xs ys zs h = ap seen h ∙ seen-joined xs ys
appended (Ok a) (Err e) xs ys zs h = h
appended (Err e) done xs ys zs h = tt

-- a list that is not empty is its row
pub filled : (s : Span) (xs : List Stmt) (b : Bool) → b ≡ (length xs == 0) → b ≡ false → seen xs ≡ or_null s (seen xs)
filled s [] b is shut = absurd (cc)
filled s (x ∷ xs) b is shut = refl

pub ruleset fronts = (in_front-nil, in_front-joined, seen-joined, pushed, taken, appended)
