-- Rule SameEntryTwice: two accept alternatives of one selective wait are for one plain entry, or for one family unless both indices are static and differ (this project's rule).
use Rattle.std.specs.Prelude.{ℤ, Bool, false, not, ◌&&◌, ◌==◌, if◌then◌else◌, List, [], ◌∷◌, ◌++◌, Option, Some}
use Rattle.std.specs.List.{list_any}
use Rattle.std.specs.Ordering.{int_eq}
use Rattle.ada_tree.specs.declared.naming.Span.{Span}
use Rattle.ada_tree.specs.TypeTable.{TypeTable}
use Rattle.ada_tree.specs.PlainExpr.{PExpr}
use Rattle.ada_tree.specs.PlainStmt.{PHead, PAltKind, AAccept, accepting}
use Rattle.syn_event.specs.Extents.{fixed}
use Rattle.syn_event.specs.RuleSelectForm.{alt_kinds}
use Rattle.syn_event.specs.CheckScope.{CheckScope, CheckDemand, waits}

-- the accepts among the alternatives
abbrev pub accept_heads : List PAltKind → List PHead
accept_heads [] = []
accept_heads (AAccept (accepting h o) l ∷ rest) = h ∷ accept_heads rest
accept_heads (_ ∷ rest) = accept_heads rest

-- both values are known, and they differ
abbrev pub are_other_values : Option ℤ → Option ℤ → Bool
are_other_values (Some a) (Some b) = not (int_eq a b)
are_other_values _ _ = false

-- both indices are there, static, and differ
abbrev pub differ : TypeTable → Option PExpr → Option PExpr → Bool
differ types (Some e) (Some f) = are_other_values (fixed types e) (fixed types f)
differ types _ _ = false

-- two accepts may take one caller
abbrev pub clash : TypeTable → PHead → PHead → Bool
clash types h g = (g.entry.name.0 == h.entry.name.0) && not (differ types g.index h.index)

-- the accepts behind one that they clash with; `before` are those before them
abbrev pub clashing : TypeTable → List PHead → List PHead → List Span
clashing types before [] = []
clashing types before (h ∷ rest) = (if list_any (clash types h) before then h.span ∷ [] else []) ++ clashing types (h ∷ before) rest

-- The accepts that clash with an earlier one of the same wait.
abbrev pub same_entry_twice : CheckScope → CheckDemand → List Span
same_entry_twice around (waits x has_else s) = clashing around.types [] (accept_heads (alt_kinds x))
same_entry_twice around _ = []
