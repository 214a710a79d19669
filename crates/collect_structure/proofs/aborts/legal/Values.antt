-- Expressions of kept names have the same static values by the types of the normal form of a legal program and by those of its collecting text, where abort statements can stand: these are the types behind the scopes of both.
use Rattle.std.proofs.Common.{Bool, List, None, Result, ap, ap₂, if◌then◌else◌, subst, sym, ℕ, ℤ, ◌++◌, ◌+◌, ◌∙◌, ◌≡◌}
use Rattle.std.specs.List.{filter}
use Rattle.ada_tree.specs.Every.{EveryExpr}
use Rattle.ada_tree.specs.PlainDecl.{PDecl, decls_of}
use Rattle.ada_tree.specs.PlainExpr.{EAttribute, EAttributeOf, EBinary, EIndex, EInteger, EName, EParen, EUnary, PExpr}
use Rattle.ada_tree.specs.PlainProgram.{PProgram}
use Rattle.ada_tree.specs.TypeTable.{TypeTable}
use Rattle.ada_tree.specs.declared.naming.Span.{Span}
use Rattle.ada_static_rules.proofs.found_twice.Declared.{decls_joined}
use Rattle.ada_static_rules.specs.Declaring.{after_decls, first_scope}
use Rattle.ada_static_rules.specs.Refusals.{types_in}
use Rattle.ada_static_rules.specs.Scope.{Scope}
use Rattle.syn_event.proofs.DeclLists.{list_again}
use Rattle.syn_event.specs.DeclaredTasks.{decl_list}
use Rattle.syn_event.specs.Extents.{fixed, unraised_value}
use Rattle.task_model.specs.Setting.{Setting}
use Rattle.task_laws.proofs.legal.alike_scopes.Exprs.{static-same, value-same}
use Rattle.task_laws.specs.legal.alike_scopes.Alike.{SameTypes}
use Rattle.task_laws.specs.legal.alike_scopes.Old.{IsOldExpr}
use Rattle.normal_model.specs.NormalTree.{main_unit}
use Rattle.replay_model.specs.ReplayTree.{is_body, is_task}
use Rattle.replay_structure.specs.checked.Checkable.{is_plain}
use Rattle.replay_structure.specs.scopes.Form.{last, plain_decls}
use Rattle.collect_model.specs.aborts.AbortTeller.{told_in}
use Rattle.collect_model.specs.aborts.AbortTree.{abort_decls, abort_of}
use Rattle.collect_structure.proofs.aborts.legal.Listed.{text-scope, text_decls}
use Rattle.collect_structure.proofs.aborts.scopes.Inner.{main-told-is}
use Rattle.collect_structure.specs.aborts.Names.{kept_name}
use Rattle.collect_structure.specs.aborts.checked.Around.{kept_names}
use Rattle.collect_structure.specs.aborts.scopes.Text.{at_last, main_told}

-- an expression of kept names
kept-expr : (q : PProgram) (k : ℕ) (e : PExpr) → EveryExpr (kept_names q) k e → IsOldExpr (kept_name q) e
kept-expr q k (EInteger z s) h = tt
kept-expr q k (EName id s) h = h.1
kept-expr q k (EIndex w e s) h = (h.1, kept-expr q (k + 1) e h.2)
kept-expr q k (EAttribute m w s) h = h.1
kept-expr q k (EAttributeOf m w e s) h = (h.1, kept-expr q (k + 1) e h.3)
kept-expr q k (EParen e s) h = kept-expr q (k + 1) e h.1
kept-expr q k (EUnary op e s) h = kept-expr q (k + 1) e h.2
kept-expr q k (EBinary op x y s) h = (kept-expr q (k + 1) x h.2, kept-expr q (k + 1) y h.3)

module _ (g : Setting) (before vars : List PDecl) where
  abbrev q : PProgram
  q = g.program

  abbrev all : List PDecl
  all = decl_list q.decls

  abbrev tasks : List PDecl
  tasks = filter is_task all

  abbrev bodies : List PDecl
  bodies = filter is_body all

  -- the scope behind the declarations of the normal form
  form-scope : all ≡ filter is_plain all ++ tasks ++ bodies → plain_decls q ≡ before ++ vars → after_decls (first_scope q.name) q.decls ≡ last q before vars
  form-scope sorted plain =
      ap (after_decls (first_scope q.name)) (sym (list_again q.decls) ∙ ap decls_of (sorted ∙ ap (λ l. l ++ tasks ++ bodies) plain))
      ∙ decls_joined (before ++ vars ++ tasks) bodies (first_scope q.name)
      ∙ ap (λ c. after_decls c (decls_of bodies))
      (decls_joined (before ++ vars) tasks (first_scope q.name) ∙ ap (λ c. after_decls c (decls_of tasks))
      (decls_joined before vars (first_scope q.name)))

  -- the types are those behind all declarations
  types-there : all ≡ filter is_plain all ++ tasks ++ bodies → plain_decls q ≡ before ++ vars → abort_decls (main_told g) q all ≡ text_decls g before vars →
      SameTypes (kept_name q) (last q before vars).types (at_last g before vars).types → SameTypes (kept_name q) (types_in q)
      (types_in (abort_of (told_in (main_unit g)) q))
  types-there sorted plain list same =
      subst (λ z. SameTypes (kept_name q) (types_in q) (types_in (abort_of z q))) (sym (main-told-is g))
      (subst (λ (c : Scope). SameTypes (kept_name q) c.types (types_in (abort_of (main_told g) q))) (sym (form-scope sorted plain))
      (subst (λ (d : Scope). SameTypes (kept_name q) (last q before vars).types d.types)
      (sym (ap (λ l. after_decls (first_scope q.name) (decls_of l)) list ∙ text-scope g before vars)) same))

  -- So expressions of these names have the same static values.
  pub same-values : all ≡ filter is_plain all ++ tasks ++ bodies → plain_decls q ≡ before ++ vars → abort_decls (main_told g) q all ≡ text_decls g before vars →
      SameTypes (kept_name q) (last q before vars).types (at_last g before vars).types → (k : ℕ) (e : PExpr) → EveryExpr (kept_names q) k e →
      fixed (types_in (abort_of (told_in (main_unit g)) q)) e ≡ fixed (types_in q) e
  same-values sorted plain list same k e h =
      let o : IsOldExpr (kept_name q) e = kept-expr q k e h in
      let t = types-there sorted plain list same in
      let U : TypeTable = types_in (abort_of (told_in (main_unit g)) q) in
      sym (ap₂ (λ (b : Bool) (v : Result ℤ Span). if b then unraised_value v else None) (static-same (kept_name q) (types_in q) U t e o)
      (value-same (kept_name q) (types_in q) U t e o))
