use Rattle.std.proofs.Common.{◌≡◌, ◌-◌, map, drop, length}
use Rattle.ada_tree.specs.PlainDecl.{plain_decl, decls_of}
use Rattle.syn_event.specs.CheckSites.{body_names}
use Rattle.scoped_names.specs.name_sets.Numbers.{numbers_in}
use Rattle.ada_check.proofs.declarations.body_names.Given as goal

-- the names of the bodies from behind
abbrev pub invariant-loop-done : goal.invariant-loop-done
invariant-loop-done l = numbers_in l.names ≡ body_names (decls_of (map plain_decl (drop (length l.decls - l.done) l.decls)))
