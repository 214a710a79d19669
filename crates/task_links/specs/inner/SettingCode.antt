-- The code of a setting, by which a struct whose contracts show one may have a model.
use Rattle.std.specs.Prelude.{◌≡◌, ℕ, Bool, List, [], Option, refl}
use Rattle.std.specs.Coded.{Coded, code_by, coded×}
use Rattle.ada_tree.specs.declared.naming.Span.{Span}
use Rattle.ada_tree.specs.declared.naming.Word.{Word}
use Rattle.ada_tree.specs.PlainExpr.{PExpr, PSubind, PDrange}
use Rattle.ada_tree.specs.PlainStmt.{PStmts, PHandlers, PBody, body}
use Rattle.ada_tree.specs.PlainDecl.{PShape, PInit, PTask, PDecl, DNumber, DObject, DEnumeration, DArray, DSubtype, DException, DIntIo, DPragma, DTask, DTaskBody, PDecls, no_decl, decl_then}
use Rattle.ada_tree.specs.TypeTable.{TypeTable}
use Rattle.syn_event.specs.Numbering.{Numbering}
use Rattle.task_model.specs.Setting.{Setting}
use Rattle.ada_tree.specs.inner.BinaryCode.{Binary, tip, node, coded_binary}

-- what a node holds beside its parts
pub data DeclHead : Type 0 where
  HBoth : DeclHead
  HNumber : Word → PExpr → Span → DeclHead
  HObject : List Word → Bool → PShape → Option PInit → Span → DeclHead
  HEnumeration : Word → List Word → Span → DeclHead
  HArray : Word → PDrange → PSubind → Span → DeclHead
  HSubtype : Word → PSubind → Span → DeclHead
  HException : List Word → Span → DeclHead
  HIntIo : Word → Span → DeclHead
  HPragma : PExpr → Span → DeclHead
  HTask : PTask → Span → DeclHead
  HBody : Word → PStmts → PHandlers → Span → DeclHead

abbrev mutual
  pub decl_to : PDecl → Binary DeclHead
  decl_to (DNumber w e s) = node (HNumber w e s) tip tip
  decl_to (DObject ws c x i s) = node (HObject ws c x i s) tip tip
  decl_to (DEnumeration w ws s) = node (HEnumeration w ws s) tip tip
  decl_to (DArray w r x s) = node (HArray w r x s) tip tip
  decl_to (DSubtype w x s) = node (HSubtype w x s) tip tip
  decl_to (DException ws s) = node (HException ws s) tip tip
  decl_to (DIntIo w s) = node (HIntIo w s) tip tip
  decl_to (DPragma e s) = node (HPragma e s) tip tip
  decl_to (DTask t s) = node (HTask t s) tip tip
  decl_to (DTaskBody w objects (body k hs) s) = node (HBody w k hs s) (decls_to objects) tip

  pub decls_to : PDecls → Binary DeclHead
  decls_to no_decl = tip
  decls_to (decl_then d rest) = node HBoth (decl_to d) (decls_to rest)

-- what a tree is stored for; the last clause is for trees that are stored for no declaration
abbrev mutual
  pub decl_from : Binary DeclHead → PDecl
  decl_from (node (HNumber w e s) a b) = DNumber w e s
  decl_from (node (HObject ws c x i s) a b) = DObject ws c x i s
  decl_from (node (HEnumeration w ws s) a b) = DEnumeration w ws s
  decl_from (node (HArray w r x s) a b) = DArray w r x s
  decl_from (node (HSubtype w x s) a b) = DSubtype w x s
  decl_from (node (HException ws s) a b) = DException ws s
  decl_from (node (HIntIo w s) a b) = DIntIo w s
  decl_from (node (HPragma e s) a b) = DPragma e s
  decl_from (node (HTask t s) a b) = DTask t s
  decl_from (node (HBody w k hs s) a b) = DTaskBody w (decls_from a) (body k hs) s
  decl_from _ = DException [] record { start = 0; end = 0 }

  pub decls_from : Binary DeclHead → PDecls
  decls_from tip = no_decl
  decls_from (node h a b) = decl_then (decl_from a) (decls_from b)

mutual
  pub decl_back : (d : PDecl) → decl_from (decl_to d) ≡ d
  decl_back (DNumber w e s) = refl
  decl_back (DObject ws c x i s) = refl
  decl_back (DEnumeration w ws s) = refl
  decl_back (DArray w r x s) = refl
  decl_back (DSubtype w x s) = refl
  decl_back (DException ws s) = refl
  decl_back (DIntIo w s) = refl
  decl_back (DPragma e s) = refl
  decl_back (DTask t s) = refl
  decl_back (DTaskBody w objects (body k hs) s) = λ i. DTaskBody w (decls_back objects i) (body k hs) s

  pub decls_back : (ds : PDecls) → decls_from (decls_to ds) ≡ ds
  decls_back no_decl = refl
  decls_back (decl_then d rest) = λ i. decl_then (decl_back d i) (decls_back rest i)

-- what a setting holds beside the declarations of its program
pub record SettingHead : Type 0 where
  pub names : List (List ℕ)
  pub text_io : Bool
  pub name : Word
  pub stmts : PStmts
  pub handlers : PHandlers
  pub types : TypeTable
  pub numbers : Numbering

abbrev pub stmts_part : PBody → PStmts
stmts_part (body k hs) = k

abbrev pub handlers_part : PBody → PHandlers
handlers_part (body k hs) = hs

pub body_back : (b : PBody) → body (stmts_part b) (handlers_part b) ≡ b
body_back (body k hs) = refl

abbrev pub setting_to : Setting → Binary DeclHead × SettingHead
setting_to g = (decls_to g.program.decls, record { names = g.program.names; text_io = g.program.text_io; name = g.program.name; stmts = stmts_part g.program.body; handlers = handlers_part g.program.body; types = g.types; numbers = g.numbers })

abbrev pub setting_from : Binary DeclHead × SettingHead → Setting
setting_from p = record { program = record { names = p.1.names; text_io = p.1.text_io; name = p.1.name; decls = decls_from p.0; body = body p.1.stmts p.1.handlers }; types = p.1.types; numbers = p.1.numbers }

pub setting_back : (g : Setting) → setting_from (setting_to g) ≡ g
setting_back g = λ i. record { program = record { names = g.program.names; text_io = g.program.text_io; name = g.program.name; decls = decls_back g.program.decls i; body = body_back g.program.body i }; types = g.types; numbers = g.numbers }

abbrev pub coded_setting : Coded DeclHead → Coded SettingHead → Coded Setting
coded_setting d h = code_by (Binary DeclHead × SettingHead) (coded× (coded_binary d) h) setting_to setting_from setting_back
