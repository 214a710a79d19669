use Rattle.std.proofs.Common.{◌≡◌, ◌-◌, map, drop, length}
use Rattle.ada_tree.specs.PlainDecl.{plain_decl, decls_of}
use Rattle.ada_task_numbers.specs.task_counts.inner.Shares.{body_shares}
use Rattle.ada_task_numbers.proofs.task_counts.shares.BodyShares.new.Given as goal

-- the shares of the bodies from behind
abbrev pub invariant-loop-done : goal.invariant-loop-done
invariant-loop-done l = l.shares ≡ body_shares l.rates (decls_of (map plain_decl (drop (length l.decls - l.done) l.decls)))
