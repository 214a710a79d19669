-- Where rule Duplicate refuses nothing at the places of a program, it declares each name of main once.
use Rattle.std.proofs.Common.{List, [], ◌∷◌}
use Rattle.std.specs.List.{AllByRecursion}
use Rattle.common_lemmas.proofs.Lists.{all_front}
use Rattle.ada_tree.specs.PlainProgram.{PProgram}
use Rattle.ada_static_rules.specs.Demand.{Site}
use Rattle.ada_static_rules.specs.Sites.{decls_sites, body_sites, sites}
use Rattle.ada_static_rules.specs.Declaring.{first_scope, inner_scope, after_decls}
use Rattle.task_laws.specs.legal.rewritten_types.Rewriting.{NamesOnce}
use Rattle.task_laws.proofs.legal.rewritten_types.Refused.{IsOnce, decls-once, once-demand}
use Rattle.normal_laws.specs.structure.once.Once.{AllOnce}

each-once : (xs before : List Site) → AllOnce before xs → AllByRecursion IsOnce xs
each-once [] before e = tt
each-once (x ∷ xs) before e = (once-demand before x.scope x.demand e.0, each-once xs (x ∷ before) e.1)

pub places-once : (p : PProgram) → AllOnce [] (sites p) → NamesOnce p.name p.decls
places-once p e =
    let h : AllByRecursion IsOnce (sites p) = each-once (sites p) [] e in
    (h.0, decls-once p.decls (first_scope p.name) (all_front IsOnce (decls_sites (first_scope p.name) p.decls) (body_sites (inner_scope (after_decls (first_scope p.name) p.decls)) p.body) h.1))
