-- What the accepts of a selective wait are for, and when two of them may take one caller.
use Rattle.std.specs.Prelude.{◌≡◌, ℕ, ℤ, Bool, false, not, ◌&&◌, ◌==◌, is_some, if◌then◌else◌, List, [], ◌∷◌, ◌++◌, map, Option, Some, None}
use Rattle.std.specs.List.{list_any}
use Rattle.std.specs.Ordering.{int_eq}
use Rattle.ada_tree.specs.TypeTable.{TypeTable}
use Rattle.ada_tree.specs.PlainExpr.{PExpr}
use Rattle.ada_tree.specs.PlainStmt.{PHead, PAltKind}
use Rattle.syn_event.specs.Extents.{fixed}
use Rattle.syn_event.specs.CheckRefusals.{CheckRefusal}
use Rattle.syn_event.specs.RuleAcceptPlace.{is_among}
use Rattle.syn_event.specs.RuleSameEntryTwice.{accept_heads, are_other_values, clash, clashing}
use Rattle.ada_check_rules.specs.rules.Sooner.{found}
use Rattle.scoped_names.specs.name_sets.Numbers.{id_of}
use Rattle.ada_check_places.specs.declared.parts.claims.Claim.{Claim}
use Rattle.ada_check_places.specs.declared.parts.claims.Claims.{Claims}
use Rattle.ada_check_places.specs.declared.parts.claims.Member.{Member}

-- the value of an index, where it is there and static
abbrev pub index_value : TypeTable → Option PExpr → Option ℤ
index_value types (Some e) = fixed types e
index_value types None = None

abbrev pub claim_of : TypeTable → PHead → Claim
claim_of types h = record { entry = h.entry.name; index = index_value types h.index }

-- two accepts may take one caller
abbrev pub meets : Claim → Claim → Bool
meets c d = (d.entry.0 == c.entry.0) && not (are_other_values d.index c.index)

abbrev pub is_for : ℕ → Claim → Bool
is_for name d = d.entry.0 == name

-- without a static index
abbrev pub is_whole : ℕ → Claim → Bool
is_whole name d = (d.entry.0 == name) && not (is_some d.index)

abbrev pub is_value : ℤ → Option ℤ → Bool
is_value z (Some y) = int_eq y z
is_value z None = false

abbrev pub is_member : Member → Claim → Bool
is_member m d = (d.entry.0 == m.entry) && is_value m.index d.index

abbrev pub same_member : Member → Member → Bool
same_member m n = (m.entry == n.entry) && int_eq m.index n.index

-- what is kept of some accepts
pub record AreClaims (before : List Claim) (claims : Claims) : Type 0 where
  pub entries_are : (name : ℕ) → is_among claims.entries (id_of name) ≡ list_any (is_for name) before
  pub whole_are : (name : ℕ) → is_among claims.whole (id_of name) ≡ list_any (is_whole name) before
  pub members_are : (m : Member) → list_any (same_member m) claims.members.keys ≡ list_any (is_member m) before

-- what is told of one accept more behind others, and what is kept then
pub record IsAccepted (types : TypeTable) (before : List PHead) (h : PHead) (claims : Claims) (refusal : Option CheckRefusal) : Type 0 where
  pub refusal_is : refusal ≡ found 16 (if list_any (clash types h) before then h.span ∷ [] else [])
  pub claims_are : AreClaims (claim_of types h ∷ map (claim_of types) before) claims

-- the same of one alternative more
pub record IsClaimed (types : TypeTable) (before : List PHead) (x : PAltKind) (claims : Claims) (refusal : Option CheckRefusal) : Type 0 where
  pub refusal_is : refusal ≡ found 16 (clashing types before (accept_heads (x ∷ [])))
  pub claims_are : AreClaims (map (claim_of types) (accept_heads (x ∷ []) ++ before)) claims
