use Rattle.std.proofs.Common.{◌≡◌, map, drop}
use Rattle.ada_tree.specs.PlainDecl.{plain_decl, decls_of}
use Rattle.syn_event.specs.CheckSites.{own_sites, after_own}
use Rattle.ada_check_rules.specs.rules.Sooner.{sooner}
use Rattle.ada_check_rules.specs.rules.RefusedFirst.{refused_first}
use Rattle.ada_check.proofs.declaration_places.declaration_rules.walk_own.Given as goal

-- what is refused so far, and of the objects that are left; what stands around behind them is what stands around behind all
abbrev pub invariant-loop-decl : goal.invariant-loop-decl
invariant-loop-decl l = record {
  told : sooner l.refusal (refused_first l.by (own_sites l.around (decls_of (map plain_decl (drop l.decl-index l.objects))))) ≡ refused_first l.by (own_sites l.fn.around (decls_of (map plain_decl l.objects)));
  after : after_own l.around (decls_of (map plain_decl (drop l.decl-index l.objects))) ≡ after_own l.fn.around (decls_of (map plain_decl l.objects));
}
