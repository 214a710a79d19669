-- What stands in the place of a call, whatever the task that runs the unit.
use Rattle.std.proofs.Common.{◌≡◌, ℕ, Vec, Global, Result, Ok, Err, OnOk, sym, ap, ◌∙◌}
use Rattle.ada_tree.specs.declared.naming.Span.{Span}
use Rattle.ada_tree.specs.declared.statements.Call.{Call}
use Rattle.ada_tree.specs.declared.statements.Stmt.{Stmt}
use Rattle.ada_tree.specs.PlainStmt.{PStmt, SCall, SConditional, STimed, PStmts, plain_call, seen}
use Rattle.task_model.specs.Setting.{Setting}
use Rattle.task_model.specs.Frames.{in_front}
use Rattle.normal_model.specs.Calls.{conditional_image, plain_image, timed_image}
use Rattle.normal_model.specs.NormalStmts.{normal_image}

pub call-image :
    {A E : Type 0} (r : Result A E) (g : Setting) (n : ℕ) (x : PStmt) (s : Span) (k l : Call) (old new : PStmts) →
    l ≡ k →
    x ≡ SCall (plain_call k) s →
    OnOk r (new ≡ in_front old (plain_image g s (plain_call l) n)) →
    OnOk r ((t : ℕ) → new ≡ in_front old (normal_image (record { setting = g; task = t }) n x))
call-image (Err e) g n x s k l old new same is h = tt
call-image (Ok a) g n x s k l old new same is h =
    λ t. h ∙ ap (λ q. in_front old (plain_image g s (plain_call q) n)) same ∙ ap (λ y. in_front old (normal_image (record { setting = g; task = t }) n y)) (sym is)

pub conditional-image :
    {A E : Type 0} (r : Result A E) (g : Setting) (n : ℕ) (x : PStmt) (s : Span) (k l : Call) (b c o p : Vec Stmt Global) (old new : PStmts) →
    l ≡ k →
    c ≡ b →
    p ≡ o →
    x ≡ SConditional (plain_call k) (seen b.items) (seen o.items) s →
    OnOk r (new ≡ in_front old (conditional_image g s (plain_call l) n (seen c.items) (seen p.items))) →
    OnOk r ((t : ℕ) → new ≡ in_front old (normal_image (record { setting = g; task = t }) n x))
conditional-image (Err e) g n x s k l b c o p old new same behind other is h = tt
conditional-image (Ok a) g n x s k l b c o p old new same behind other is h =
    λ t.
    h
    ∙ (λ j. in_front old (conditional_image g s (plain_call (same j)) n (seen (behind j).items) (seen (other j).items)))
    ∙ ap (λ y. in_front old (normal_image (record { setting = g; task = t }) n y)) (sym is)

pub timed-image :
    {A E : Type 0} (r : Result A E) (g : Setting) (n : ℕ) (x : PStmt) (s : Span) (k l : Call) (b c o p : Vec Stmt Global) (d e : ℕ) (old new : PStmts) →
    l ≡ k →
    c ≡ b →
    e ≡ d →
    p ≡ o →
    x ≡ STimed (plain_call k) (seen b.items) d (seen o.items) s →
    OnOk r (new ≡ in_front old (timed_image g s (plain_call l) n (seen c.items) e (seen p.items))) →
    OnOk r ((t : ℕ) → new ≡ in_front old (normal_image (record { setting = g; task = t }) n x))
timed-image (Err f) g n x s k l b c o p d e old new same behind delay other is h = tt
timed-image (Ok a) g n x s k l b c o p d e old new same behind delay other is h =
    λ t.
    h
    ∙ (λ j. in_front old (timed_image g s (plain_call (same j)) n (seen (behind j).items) (delay j) (seen (other j).items)))
    ∙ ap (λ y. in_front old (normal_image (record { setting = g; task = t }) n y)) (sym is)
