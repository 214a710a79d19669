-- What marks tell of members is what the definitions tell of them.
use Rattle.std.proofs.Common.{◌≡◌, ℕ, zero, suc, ◌-◌, ◌==◌, cond, Bool, true, false, List, [], ◌∷◌, map, slice_get, unwrap_or, Option, Some, None, refl, ap, ◌∙◌}
use Rattle.ada_tree.specs.declared.naming.NameId.{NameId}
use Rattle.ada_tree.specs.declared.naming.Span.{Span}
use Rattle.ada_tree.specs.declared.static_types.Kind.{Kind}
use Rattle.ada_tree.specs.declared.static_types.Kind.TheVariants as kind
use Rattle.ada_tree.specs.TypeTable.{TypeTable}
use Rattle.ada_tree.specs.PlainExpr.{PExpr, PDrange}
use Rattle.syn_event.specs.declared.numbering.EntryInfo.{EntryInfo}
use Rattle.task_model.specs.Setting.{Setting}
use Rattle.normal_model.specs.Ranges.{kind_of_range, family_range, range_of_info}
use Rattle.replay_model.specs.Asking.{as_number, number_in, member_number}
use Rattle.replay_asking.specs.Looked.{number_by, member_by}
use Rattle.normal_parts.specs.Marking.{mark_of_kind, mark_of_range, mark_at, marks_of}

-- ---- numbers of members

number-kind : (types : TypeTable) (s : Span) (k : ℕ) (o : Option Kind) (e : PExpr) → number_by (mark_of_kind types k o) s e ≡ as_number types s k o e
number-kind types s k None e = refl
number-kind types s k (Some kind.Integer) e = refl
number-kind types s k (Some kind.Truth) e = refl
number-kind types s k (Some (kind.Enumeration names)) e = refl
number-kind types s k (Some (kind.Array index first last part)) e = refl

number-range : (types : TypeTable) (s : Span) (r : Option PDrange) (e : PExpr) → number_by (mark_of_range types r) s e ≡ number_in types s r e
number-range types s None e = refl
number-range types s (Some r) e = number-kind types s (kind_of_range types r) (slice_get types.kinds (kind_of_range types r)) e

pub member-is : (g : Setting) (m : Option NameId) (e : ℕ) → m ≡ mark_at g e → (s : Span) (index : Option PExpr) → member_by m s index ≡ member_number g s e index
member-is g m e is s None = refl
member-is g m e is s (Some i) = ap (λ n. number_by n s i) is ∙ number-range g.types s (family_range g e) i

-- ---- marks

-- what a list of marks gives is what the list from which they were made gives
marks-at : (g : Setting) (xs : List EntryInfo) (k : ℕ) → unwrap_or (slice_get (map (λ info. mark_of_range g.types (range_of_info g (Some info))) xs) k) None ≡ mark_of_range g.types (range_of_info g (slice_get xs k))
marks-at g [] k = refl
marks-at g (x ∷ xs) zero = refl
marks-at g (x ∷ xs) (suc k) = marks-at g xs k

-- the mark that a list gives an entry
pub marks-is : (g : Setting) (marks : List (Option NameId)) → marks ≡ marks_of g → (e : ℕ) → cond (e == 0) None (unwrap_or (slice_get marks (e - 1)) None) ≡ mark_at g e
marks-is g marks are e =
    ap (λ ms. cond (e == 0) None (unwrap_or (slice_get ms (e - 1)) None)) are ∙ by (e == 0)
  where
    by : (b : Bool) → cond b None (unwrap_or (slice_get (marks_of g) (e - 1)) None) ≡ mark_of_range g.types (range_of_info g (cond b None (slice_get g.numbers.entries (e - 1))))
    by true = refl
    by false = marks-at g g.numbers.entries (e - 1)
