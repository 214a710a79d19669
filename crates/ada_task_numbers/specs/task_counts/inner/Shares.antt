-- What the rewriters would copy, as it is counted up to a number beyond every limit.
use Rattle.std.specs.Prelude.{ℕ, ◌*◌, if◌then◌else◌, List, [], ◌∷◌, map, Option, Some, None, unwrap_or}
use Rattle.scoped_names.specs.Meaning.{meaning_in}
use Rattle.ada_tree.specs.declared.naming.NameId.{NameId}
use Rattle.ada_tree.specs.TypeTable.{TypeTable}
use Rattle.ada_tree.specs.PlainExpr.{PExpr}
use Rattle.ada_tree.specs.PlainStmt.{PCallee}
use Rattle.ada_tree.specs.PlainDecl.{PDecl, DTaskBody, PDecls, no_decl, decl_then}
use Rattle.ada_static_rules.specs.StaticValue.{is_static}
use Rattle.syn_event.specs.NamedTasks.{NamedTasks, task_count}
use Rattle.syn_event.specs.Callees.{body_callees}
use Rattle.syn_event.specs.Copying.{source_length}
use Rattle.ada_check_rules.specs.rules.Amounts.{capped, plus}

-- the types, and how many tasks each name stands for
pub record Rates : Type 0 where
  pub types : TypeTable
  pub rows : List (ℕ × ℕ)

-- the names that stand for tasks, with how many they stand for
abbrev pub array_lengths : TypeTable → List NamedTasks → List (ℕ × ℕ)
array_lengths types parts = map (λ x. (x.name.name.0, capped (task_count types x))) parts

abbrev pub length_among : List (ℕ × ℕ) → NameId → ℕ
length_among rows id = unwrap_or (meaning_in rows id.0) 0

abbrev pub index_rate : Rates → NameId → Option PExpr → ℕ
index_rate rates id (Some e) = if is_static rates.types e then 0 else capped (100 * length_among rates.rows id)
index_rate rates id None = 0

-- what a callee copies
abbrev pub rate_of : Rates → PCallee → ℕ
rate_of rates c = index_rate rates c.name.name c.index

-- what callees copy together
unfoldable pub shared : Rates → List PCallee → ℕ
shared rates [] = 0
shared rates (c ∷ rest) = plus (rate_of rates c) (shared rates rest)

-- with what a declaration copies, where it is a body
abbrev pub with_share : Rates → PDecl → List (ℕ × ℕ) → List (ℕ × ℕ)
with_share rates (DTaskBody name objects its s) rows = (name.name.0, plus (source_length s) (shared rates (body_callees its))) ∷ rows
with_share rates d rows = rows

-- the names of bodies, with what each copies
abbrev pub body_shares : Rates → PDecls → List (ℕ × ℕ)
body_shares rates no_decl = []
body_shares rates (decl_then d rest) = with_share rates d (body_shares rates rest)

abbrev pub share_of : List (ℕ × ℕ) → NameId → ℕ
share_of shares id = unwrap_or (meaning_in shares id.0) 0
