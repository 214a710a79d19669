use Rattle.std.proofs.Common.{◌≡◌, ap, sym, ◌∙◌, map}
use Rattle.ada_tree.specs.PlainProgram.{plain_program}
use Rattle.ada_tree.specs.PlainDecl.{plain_decl, decls_of}
use Rattle.syn_event.specs.CheckScope.{CheckScope}
use Rattle.syn_event.specs.CheckSites.{body_names, decls_sites, after_decls}
use Rattle.ada_check_rules.specs.rules.RefusedFirst.{refused_first}
use Rattle.ada_check.proofs.Programs.{program_met, types_stay}
use Rattle.ada_check.proofs.checking.walk_program.Goals as goal

pub walk_decls-requires : goal.walk_decls-requires
walk_decls-requires c = ap (λ (s : CheckScope). s.own) c.requires

pub returns : goal.returns
returns c =
    let p = plain_program c.args.p.now in
    let behind : c.walk_decls.new.around ≡ after_decls c.args.around.now p.decls = c.in_ok-declared.ensures.after ∙ ap (λ l. after_decls c.args.around.now (decls_of (map plain_decl l))) c.deref.ensures.value in
    record {
      told =
          program_met c.args.by.now c.args.around.now c.walk_decls.new.around p _ _ _ _ _ _ _ c.requires
          (c.refuse_name-name.ensures c.args.around.now)
          (c.in_ok-declared.ensures.told ∙ ap (λ l. refused_first c.args.by.now (decls_sites c.args.around.now (body_names (decls_of (map plain_decl l))) (decls_of (map plain_decl l)))) c.deref.ensures.value)
          behind
          c.in_ok-inner.ensures.told
          (c.in_ok-counted.ensures c.args.around.now (sym c.types.ensures))
          c.first.ensures c.first-2.ensures c.first-3.ensures;
      types = types_stay c.args.around.now c.walk_decls.new.around c.walk_body.new.around p behind c.in_ok-inner.ensures.kept;
    }
