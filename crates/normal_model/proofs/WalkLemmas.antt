-- How the walk of a rewriter goes over statements that stand one behind the other.
use Rattle.std.proofs.Common.{◌≡◌, refl, sym, ap, ◌∙◌, List, [], ◌∷◌, ◌++◌}
use Rattle.ada_tree.specs.PlainStmt.{PStmts, no_stmt, stmt_then, plain_stmt, seen}
use Rattle.task_model.specs.Frames.{in_front}
use Rattle.normal_model.specs.Walk.{Rewriter, after_parts, after_stmts, rewritten, image_of}
use Rattle.ada_tree.specs.declared.statements.Stmt.{Stmt}
use Rattle.ada_tree.specs.PlainDecl.{PDecl, PDecls, no_decl, decl_then, decls_of}
use Rattle.syn_event.specs.DeclaredTasks.{decl_list}
use Rattle.normal_model.specs.NormalTree.{decls_front}

-- rows that are put in front one after the other
pub in_front-joined : (a b c : PStmts) → in_front (in_front a b) c ≡ in_front a (in_front b c)
in_front-joined no_stmt b c = refl
in_front-joined (stmt_then x l) b c = ap (stmt_then x) (in_front-joined l b c)

pub in_front-nil : (a : PStmts) → in_front a no_stmt ≡ a
in_front-nil no_stmt = refl
in_front-nil (stmt_then x l) = ap (stmt_then x) (in_front-nil l)

-- the statements of two lists, one behind the other
pub seen-joined : (xs ys : List Stmt) → seen (xs ++ ys) ≡ in_front (seen xs) (seen ys)
seen-joined [] ys = refl
seen-joined (x ∷ xs) ys = ap (stmt_then (plain_stmt x)) (seen-joined xs ys)

-- declarations in front of those of a list
pub listed-front : (front : PDecls) (ds : List PDecl) → decls_of (decl_list front ++ ds) ≡ decls_front front (decls_of ds)
listed-front no_decl ds = refl
listed-front (decl_then d front) ds = ap (decl_then d) (listed-front front ds)

module _ {S : Type 0} (r : Rewriter S) where
  -- the state behind two rows is that behind the second, begun behind the first
  pub after-joined : (a b : PStmts) (t : S) → after_stmts r (in_front a b) t ≡ after_stmts r b (after_stmts r a t)
  after-joined no_stmt b t = refl
  after-joined (stmt_then x l) b t = after-joined l b (after_parts r x (r.entered_stmt t x))

  -- two rows are rewritten as the first and then the second
  pub rewritten-joined : (a b : PStmts) (t : S) → rewritten r (in_front a b) t ≡ in_front (rewritten r a t) (rewritten r b (after_stmts r a t))
  rewritten-joined no_stmt b t = refl
  rewritten-joined (stmt_then x l) b t =
      ap (in_front (image_of r x t)) (rewritten-joined l b (after_parts r x (r.entered_stmt t x)))
      ∙ sym (in_front-joined (image_of r x t) (rewritten r l (after_parts r x (r.entered_stmt t x))) (rewritten r b (after_stmts r l (after_parts r x (r.entered_stmt t x)))))
