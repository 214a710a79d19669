-- The waits of main and of each body of the normal form of a legal program have accepts.
use Rattle.std.proofs.Common.{List, ◌++◌}
use Rattle.std.specs.List.{AllByRecursion}
use Rattle.common_lemmas.proofs.Lists.{all_front, all_back}
use Rattle.ada_tree.specs.PlainStmt.{PBody}
use Rattle.ada_tree.specs.PlainDecl.{PDecl, DNumber, DObject, DEnumeration, DArray, DSubtype, DException, DIntIo, DPragma, DTask, DTaskBody, PDecls, no_decl, decl_then}
use Rattle.ada_tree.specs.PlainProgram.{PProgram}
use Rattle.syn_event.specs.declared.numbering.Mode.TheVariants.{Any}
use Rattle.syn_event.specs.CheckRefusals.{MeetsCheckRules}
use Rattle.syn_event.specs.CheckScope.{CheckScope, CheckSite}
use Rattle.syn_event.specs.CheckSites as check
use Rattle.syn_event.specs.DeclaredTasks.{decl_list}
use Rattle.task_laws.specs.legal.sites.Met.{IsCheckMet}
use Rattle.task_laws.proofs.legal.sites.Meeting.{all_check_met}
use Rattle.task_laws.specs.legal.asked.Asked.{AskedBody}
use Rattle.task_laws.proofs.legal.asked.Checked.{checked_asked}
use Rattle.replay_structure.proofs.scopes.Asked.{wait_asks}
use Rattle.replay_structure.proofs.scopes.Waits.{waits-asked}

-- the waits of a body have accepts
abbrev pub HasWaits : PDecl → Type 0
HasWaits (DTaskBody w objects its s) = AskedBody wait_asks tt 1 its
HasWaits _ = Prim.Unit {0}

module _ (q : PProgram) (rules : MeetsCheckRules q Any) where
  abbrev M : CheckSite → Type 0
  M = IsCheckMet Any q.names

  body-waits : (c : CheckScope) (x : PBody) → AllByRecursion M (check.body_sites c 1 x) → AskedBody wait_asks tt 1 x
  body-waits c x h = waits-asked M (λ d y others s m. m.selects) c 1 x (checked_asked M c 1 x h)

  decls-wait : (ds : PDecls) (c : CheckScope) → AllByRecursion M (check.decls_sites c (check.body_names q.decls) ds) → AllByRecursion HasWaits (decl_list ds)
  decls-wait no_decl c h = tt
  decls-wait (decl_then d rest) c h =
      let n = check.body_names q.decls in
      (by_form d (all_front M (check.decl_sites c n d) (check.decls_sites (check.after_decl c d) n rest) h), decls-wait rest (check.after_decl c d) (all_back M (check.decl_sites c n d) (check.decls_sites (check.after_decl c d) n rest) h))
    where
      by_form : (d : PDecl) → AllByRecursion M (check.decl_sites c (check.body_names q.decls) d) → HasWaits d
      by_form (DTaskBody w objects its s) h =
          body-waits (check.after_own (check.in_body c w) objects) its (all_back M (check.own_sites (check.in_body c w) objects) (check.body_sites (check.after_own (check.in_body c w) objects) 1 its) h)
      by_form (DNumber w e s) h = tt
      by_form (DObject ws k x i s) h = tt
      by_form (DEnumeration w ws s) h = tt
      by_form (DArray w r x s) h = tt
      by_form (DSubtype w x s) h = tt
      by_form (DException ws s) h = tt
      by_form (DIntIo w s) h = tt
      by_form (DPragma e s) h = tt
      by_form (DTask t s) h = tt

  abbrev around : CheckScope
  around = check.around_program q

  abbrev decls : List CheckSite
  decls = check.decls_sites around (check.body_names q.decls) q.decls

  abbrev stmts : List CheckSite
  stmts = check.body_sites (check.after_decls around q.decls) 1 q.body

  checked : AllByRecursion M (decls ++ stmts)
  checked = all_front M (decls ++ stmts) (check.counted_sites around q) (all_check_met q Any rules).1

  -- The waits of its bodies have accepts, and so have those of main.
  pub bodies-wait : AllByRecursion HasWaits (decl_list q.decls)
  bodies-wait = decls-wait q.decls around (all_front M decls stmts checked)

  pub main-waits : AskedBody wait_asks tt 1 q.body
  main-waits = body-waits (check.after_decls around q.decls) q.body (all_back M decls stmts checked)
