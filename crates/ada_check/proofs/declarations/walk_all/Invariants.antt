use Rattle.std.proofs.Common.{◌≡◌, map, drop, None}
use Rattle.ada_tree.specs.PlainDecl.{plain_decl, decls_of}
use Rattle.syn_event.specs.CheckSites.{decls_sites, after_decls}
use Rattle.ada_check_rules.specs.rules.Sooner.{sooner}
use Rattle.ada_check_rules.specs.rules.RefusedFirst.{refused_first}
use Rattle.scoped_names.specs.name_sets.Numbers.{numbers_in}
use Rattle.ada_check.proofs.declarations.walk_all.Given as goal

-- what is refused so far, and of the declarations that are left; what stands around behind them is what stands around behind all
abbrev pub invariant-loop-decl : goal.invariant-loop-decl
invariant-loop-decl l = record {
  told : sooner l.refusal (refused_first l.by (decls_sites l.around (numbers_in l.bodies) (decls_of (map plain_decl (drop l.decl-index l.decls))))) ≡ refused_first l.by (decls_sites l.fn.around (numbers_in l.bodies) (decls_of (map plain_decl l.decls)));
  after : after_decls l.around (decls_of (map plain_decl (drop l.decl-index l.decls))) ≡ after_decls l.fn.around (decls_of (map plain_decl l.decls));
  own : l.around.own ≡ None;
}
