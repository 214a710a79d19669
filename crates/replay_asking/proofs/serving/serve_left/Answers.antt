use Rattle.std.proofs.Common.{ap}
use Rattle.ada_tree.specs.PlainStmt.{accepting, plain_accept, seen, seen_maybe}
use Rattle.normal_model.specs.Waits.{head_of}
use Rattle.replay_asking.specs.Looked.{voice_of}
use Rattle.replay_asking.proofs.Accepts.{serve-none, serve-some}
use Rattle.replay_asking.proofs.serving.serve_left.Goals as goal

pub returns-in-None : goal.returns-in-None
returns-in-None c =
    serve-none (voice_of c.args.x.now) c.args.s (accepting (head_of (plain_accept c.args.accept.now)) (seen_maybe c.args.stmts)) (plain_accept c.args.accept.now) c.unsaid.result c.accept_with-asked.result c.accept_body.result c.unsaid.ensures c.accept_with-asked.ensures c.accept_body.ensures (ap (λ o. accepting (head_of (plain_accept c.args.accept.now)) (seen_maybe o)) c.in-None.is)

pub returns-in-Some : goal.returns-in-Some
returns-in-Some c =
    serve-some (voice_of c.args.x.now) c.args.s (accepting (head_of (plain_accept c.args.accept.now)) (seen_maybe c.args.stmts)) (plain_accept c.args.accept.now) (seen c.in-Some.stmts.items) c.said.result c.accept_with-asked-in-Some.result c.accept_body-in-Some.result c.said.ensures c.accept_with-asked-in-Some.ensures c.accept_body-in-Some.ensures (ap (λ o. accepting (head_of (plain_accept c.args.accept.now)) (seen_maybe o)) c.in-Some.is)
