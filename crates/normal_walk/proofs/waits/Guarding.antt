-- The guards of alternatives, and the test that none holds.
use Rattle.std.proofs.Common.{◌≡◌, ◌==◌, ℕ, ◌+◌, ◌<◌, ◌≤◌, Bool, true, false, true≢false, List, [], ◌∷◌, length, map, drop, fold, get_or, Option, Some, None, is_some, option_map, Result, Ok, Err, IfOk, OnOk, refl, sym, ap, ◌∙◌, arith}
use Rattle.std.proofs.lemmas.List.{drop_all}
use Rattle.ada_tree.specs.declared.naming.Span.{Span}
use Rattle.ada_tree.specs.declared.expressions.BinaryOp.TheVariants.{And}
use Rattle.ada_tree.specs.declared.statements.Alt.{Alt}
use Rattle.ada_tree.specs.declared.statements.Stmt.{Stmt}
use Rattle.ada_tree.specs.declared.expressions.Expr.{Expr}
use Rattle.ada_tree.specs.declared.shortage.Memory.{Memory}
use Rattle.ada_stmt_copy.specs.expressions.Parts.{OkWith}
use Rattle.task_model.specs.Frames.{in_front}
use Rattle.ada_tree.specs.PlainExpr.{PExpr, EBinary, plain_expr}
use Rattle.ada_tree.specs.PlainStmt.{PStmts, SIf, SRaise, absent, alts_of, arm, arm_then, no_arm, PAlt, alternative, plain_alt, plain_stmt}
use Rattle.normal_model.specs.Making.{one}
use Rattle.normal_model.specs.Ranges.{word_at}
use Rattle.normal_model.specs.Waits.{all_guards, closed_test, guard_then, none_held, not_held}
use Rattle.normal_walk.specs.waits.inner.Closing.{closed_from, guard_or, guards_in}
use Rattle.common_lemmas.proofs.Lists.{rest_at}
use Rattle.normal_model.proofs.WalkLemmas.{in_front-nil}

-- ---- the guards

guards-step : (e : PExpr) (es gs : List PExpr) (o : Option (List PExpr)) → ((fs : List PExpr) → o ≡ Some fs → es ≡ fs) → guard_then (Some e) o ≡ Some gs → e ∷ es ≡ gs
guards-step e es gs None more is = absurd (cc)
guards-step e es gs (Some fs) more is = let tail : es ≡ fs = more fs refl in cc

-- where each alternative has a guard, these are all guards
guards-all : (alts : List PAlt) (gs : List PExpr) → all_guards (alts_of alts) ≡ Some gs → guards_in alts ≡ gs
guards-all [] gs h = cc
guards-all (alternative None what s ∷ rest) gs h = absurd (cc)
guards-all (alternative (Some e) what s ∷ rest) gs h = guards-step e (guards_in rest) gs (all_guards (alts_of rest)) (λ fs was. guards-all rest fs was) h

-- ---- whether each alternative has a guard

guarded-on : (e : PExpr) (o : Option (List PExpr)) → is_some (guard_then (Some e) o) ≡ is_some o
guarded-on e None = refl
guarded-on e (Some es) = refl

-- what is left of the alternatives from a place on
abbrev pub left_from : List Alt → ℕ → List PAlt
left_from alts i = map plain_alt (drop i alts)

pub guarded-turn :
    (alts : List Alt) (i : ℕ) (a d : Alt) (e : PExpr) (all : Bool) →
    i < length alts →
    a ≡ get_or alts i d →
    option_map plain_expr a.guard ≡ Some e →
    all ≡ is_some (all_guards (alts_of (left_from alts i))) →
    all ≡ is_some (all_guards (alts_of (left_from alts (i + 1))))
guarded-turn alts i a d e all h is guard so_far =
    so_far
    ∙ ap (λ l. is_some (all_guards (alts_of (map plain_alt l)))) (rest_at alts i a d h is)
    ∙ ap (λ g. is_some (guard_then g (all_guards (alts_of (left_from alts (i + 1)))))) guard
    ∙ guarded-on e (all_guards (alts_of (left_from alts (i + 1))))

pub guarded-stop :
    (alts : List Alt) (i : ℕ) (a d : Alt) (all : Bool) →
    i < length alts →
    a ≡ get_or alts i d →
    option_map plain_expr a.guard ≡ None →
    all ≡ is_some (all_guards (alts_of (left_from alts i))) →
    false ≡ all
guarded-stop alts i a d all h is guard so_far =
    sym
    (so_far
    ∙ ap (λ l. is_some (all_guards (alts_of (map plain_alt l)))) (rest_at alts i a d h is)
    ∙ ap (λ g. is_some (guard_then g (all_guards (alts_of (left_from alts (i + 1)))))) guard)

pub guarded-end : (alts : List Alt) (i : ℕ) (all : Bool) → length alts ≤ i → all ≡ is_some (all_guards (alts_of (left_from alts i))) → true ≡ all
guarded-end alts i all h so_far = sym (so_far ∙ ap (λ l. is_some (all_guards (alts_of (map plain_alt l)))) (drop_all i alts h))

-- ---- the test

guard-by-guard : (s : Span) (t g : Option PExpr) (rest : List PExpr) → closed_from s t (guard_or g rest) ≡ closed_from s (closed_from s t (guard_or g [])) rest
guard-by-guard s t None rest = refl
guard-by-guard s t (Some e) rest = refl

pub test-turn :
    (s : Span) (alts : List Alt) (i : ℕ) (a d : Alt) (before behind all : Option PExpr) →
    i < length alts →
    a ≡ get_or alts i d →
    behind ≡ closed_from s before (guard_or (option_map plain_expr a.guard) []) →
    closed_from s before (guards_in (left_from alts i)) ≡ all →
    closed_from s behind (guards_in (left_from alts (i + 1))) ≡ all
test-turn s alts i a d before behind all h is step so_far =
    ap (λ t. closed_from s t (guards_in (left_from alts (i + 1)))) step
    ∙ sym (guard-by-guard s before (option_map plain_expr a.guard) (guards_in (left_from alts (i + 1))))
    ∙ sym (ap (λ l. closed_from s before (guards_in (map plain_alt l))) (rest_at alts i a d h is))
    ∙ so_far

pub test-end : (s : Span) (alts : List Alt) (i : ℕ) (before all : Option PExpr) → length alts ≤ i → closed_from s before (guards_in (left_from alts i)) ≡ all → before ≡ all
test-end s alts i before all h so_far = sym (ap (λ l. closed_from s before (guards_in (map plain_alt l))) (drop_all i alts h)) ∙ so_far

-- ---- the statement

chain-fold : (s : Span) (t : PExpr) (es : List PExpr) → closed_from s (Some t) es ≡ Some (fold (λ test g. EBinary And test (not_held s g) s) t es)
chain-fold s t [] = refl
chain-fold s t (e ∷ es) = chain-fold s (EBinary And t (not_held s e) s) es

-- `if T then raise PROGRAM_ERROR; end if;`
abbrev pub raised_if : Span → PExpr → PStmts
raised_if s t = one (SIf (arm_then (arm t (one (SRaise (Some (word_at s record { 0 = 8 })) s))) no_arm) absent s)

raised-some : (s : Span) (t : PExpr) (gs : List PExpr) → Some t ≡ closed_from s None gs → raised_if s t ≡ closed_test s absent (Some gs)
raised-some s t [] is = absurd (cc)
raised-some s t (e ∷ es) is = ap (raised_if s) (inside (is ∙ chain-fold s (not_held s e) es))
  where
    inside : Some t ≡ Some (none_held s e es) → t ≡ none_held s e es
    inside p = cc

raised-all : (s : Span) (alts : List PAlt) (t : PExpr) (o : Option (List PExpr)) → all_guards (alts_of alts) ≡ o → true ≡ is_some o → Some t ≡ closed_from s None (guards_in alts) → raised_if s t ≡ closed_test s absent o
raised-all s alts t None was some is = absurd (cc)
raised-all s alts t (Some gs) was some is = raised-some s t gs (is ∙ ap (closed_from s None) (guards-all alts gs was))

-- what is raised is what the test of the wait says
pub raised-closed : (s : Span) (alts : List PAlt) (t : PExpr) → true ≡ is_some (all_guards (alts_of alts)) → Some t ≡ closed_from s None (guards_in alts) → raised_if s t ≡ closed_test s absent (all_guards (alts_of alts))
raised-closed s alts t some is = raised-all s alts t (all_guards (alts_of alts)) refl some is

-- where there is no alternative, there is no test
pub empty-placed : (s : Span) (alts : List Alt) (old : PStmts) → length alts ≡ 0 → old ≡ in_front old (closed_test s absent (all_guards (alts_of (map plain_alt alts))))
empty-placed s [] old h = sym (in_front-nil old)
empty-placed s (a ∷ alts) old h = absurd (omega (arith, h))

-- ---- that there is a test

test-some : (s : Span) (x : PAlt) (rest : List PAlt) → true ≡ is_some (all_guards (alts_of (x ∷ rest))) → is_some (closed_from s None (guards_in (x ∷ rest))) ≡ true
test-some s (alternative None what p) rest h = absurd (true≢false h)
test-some s (alternative (Some e) what p) rest h = ap is_some (chain-fold s (not_held s e) (guards_in rest))

seen-some : (test : Option Expr) → is_some test ≡ is_some (option_map plain_expr test)
seen-some None = refl
seen-some (Some e) = refl

-- where there is an alternative and each has a guard, the place is filled
pub test-there :
    {A : Type 0} (s : Span) (alts : List Alt) (test : Option Expr) (done : Result A Memory) →
    (length alts == 0) ≡ false →
    true ≡ is_some (all_guards (alts_of (map plain_alt alts))) →
    OnOk done (option_map plain_expr test ≡ closed_from s None (guards_in (map plain_alt alts))) →
    OnOk done (is_some test ≡ true)
test-there s alts test (Err e) some guarded h = tt
test-there s [] test (Ok a) some guarded h = absurd (true≢false some)
test-there s (x ∷ rest) test (Ok a) some guarded h = seen-some test ∙ ap is_some h ∙ test-some s (plain_alt x) (map plain_alt rest) guarded

-- ---- the statement goes behind others

pub test-placed :
    {A B : Type 0} (s : Span) (alts : List PAlt) (filled : Option Expr) (done : Result A Memory) (t : Result Expr Memory) (stmt : Result Stmt Memory) (r : Result B Memory) (old new : PStmts) →
    true ≡ is_some (all_guards (alts_of alts)) →
    OnOk done (option_map plain_expr filled ≡ closed_from s None (guards_in alts)) →
    IfOk t (λ e. OkWith done (λ _. filled ≡ Some e)) →
    IfOk stmt (λ x. OkWith t (λ e. plain_stmt x ≡ SIf (arm_then (arm (plain_expr e) (one (SRaise (Some (word_at s record { 0 = 8 })) s))) no_arm) absent s)) →
    OnOk r (OkWith stmt (λ x. new ≡ in_front old (one (plain_stmt x)))) →
    OnOk r (new ≡ in_front old (closed_test s absent (all_guards (alts_of alts))))
test-placed s alts filled done t stmt (Err e) old new some step kept made h = tt
test-placed s alts filled done t (Err e) (Ok b) old new some step kept made h = absurd h
test-placed s alts filled done (Err e) (Ok x) (Ok b) old new some step kept made h = absurd made
test-placed s alts filled (Err e) (Ok t) (Ok x) (Ok b) old new some step kept made h = absurd kept
test-placed s alts filled (Ok a) (Ok t) (Ok x) (Ok b) old new some step kept made h =
    h ∙ ap (in_front old) (ap one made ∙ raised-closed s alts (plain_expr t) some (sym (ap (option_map plain_expr) kept) ∙ step))
