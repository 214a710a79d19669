-- The rendezvous of an accept statement, from its parts.
use Rattle.std.proofs.Common.{◌≡◌, Result, IfOk, Vec, sym, ap, ◌∙◌}
use Rattle.std.specs.declared.alloc.Global.{Global}
use Rattle.std.proofs.lemmas.Result.{IfOk-weaker}
use Rattle.ada_tree.specs.declared.naming.Span.{Span}
use Rattle.ada_tree.specs.declared.shortage.Memory.{Memory}
use Rattle.ada_tree.specs.declared.statements.Stmt.{Stmt}
use Rattle.ada_tree.specs.PlainStmt.{PStmts, SAccept, stmt_then, PMaybe, absent, present, PAccept, accepting, plain_stmt, seen}
use Rattle.ada_stmt_copy.specs.expressions.Parts.{OkWith}
use Rattle.normal_model.specs.Making.{one}
use Rattle.normal_model.specs.Waits.{head_of}
use Rattle.replay_asking.specs.Voice.{Voice}
use Rattle.replay_asking.specs.Spoken.{done}
use Rattle.replay_asking.specs.Served.{accept_body, saying_so, serve}
use Rattle.replay_asking.proofs.Made.{made-of_one}

-- the statement, from its body
accept-made :
    (v : Voice) (s : Span) (left : PAccept) (o : PMaybe) (asked : Result Stmt Memory) (inner : Result (Vec Stmt Global) Memory) →
    IfOk asked (λ y. OkWith inner (λ k. plain_stmt y ≡ SAccept (accepting (head_of left) (present (seen k.items))) s)) →
    IfOk inner (λ k. seen k.items ≡ accept_body v s o) →
    IfOk asked (λ y. plain_stmt y ≡ SAccept (accepting (head_of left) (present (accept_body v s o))) s)
accept-made v s left o asked inner made is = made-of_one (λ k. seen k.items) plain_stmt (λ l. SAccept (accepting (head_of left) (present l)) s) asked inner (accept_body v s o) made is

pub serve-none :
    (v : Voice) (s : Span) (whole left : PAccept) (r : Result (Vec Stmt Global) Memory) (asked : Result Stmt Memory) (inner : Result (Vec Stmt Global) Memory) →
    IfOk r (λ m. OkWith asked (λ y. seen m.items ≡ stmt_then (plain_stmt y) (one (done v s)))) →
    IfOk asked (λ y. OkWith inner (λ k. plain_stmt y ≡ SAccept (accepting (head_of left) (present (seen k.items))) s)) →
    IfOk inner (λ k. seen k.items ≡ accept_body v s absent) →
    whole ≡ accepting (head_of left) absent →
    IfOk r (λ m. seen m.items ≡ serve v s whole)
serve-none v s whole left r asked inner made statement body is =
    IfOk-weaker r (λ m. seen m.items ≡ serve v s (accepting (head_of left) absent)) (λ m. seen m.items ≡ serve v s whole) (λ m e. e ∙ sym (ap (serve v s) is))
    (made-of_one plain_stmt (λ m. seen m.items) (λ y. stmt_then y (one (done v s))) r asked _ made (accept-made v s left absent asked inner statement body))

pub serve-some :
    (v : Voice) (s : Span) (whole left : PAccept) (l : PStmts) (r : Result (Vec Stmt Global) Memory) (asked : Result Stmt Memory) (inner : Result (Vec Stmt Global) Memory) →
    IfOk r (λ m. OkWith asked (λ y. seen m.items ≡ stmt_then (saying_so v s (plain_stmt y)) (one (done v s)))) →
    IfOk asked (λ y. OkWith inner (λ k. plain_stmt y ≡ SAccept (accepting (head_of left) (present (seen k.items))) s)) →
    IfOk inner (λ k. seen k.items ≡ accept_body v s (present l)) →
    whole ≡ accepting (head_of left) (present l) →
    IfOk r (λ m. seen m.items ≡ serve v s whole)
serve-some v s whole left l r asked inner made statement body is =
    IfOk-weaker r (λ m. seen m.items ≡ serve v s (accepting (head_of left) (present l))) (λ m. seen m.items ≡ serve v s whole) (λ m e. e ∙ sym (ap (serve v s) is))
    (made-of_one plain_stmt (λ m. seen m.items) (λ y. stmt_then (saying_so v s y) (one (done v s))) r asked _ made (accept-made v s left (present l) asked inner statement body))
