-- What is refused first at ranges, subtype indications and discrete ranges, and what these make.
use Rattle.std.specs.Prelude.{◌≡◌, ℕ, Bool, true, false, [], ◌∷◌, ◌++◌, Option, Some, None, option_map, refl}
use Rattle.std.proofs.Common.{sym, ap, subst, ◌∙◌, append_assoc}
use Rattle.std.proofs.lemmas.Bool.{false≢true}
use Rattle.ada_tree.specs.declared.naming.Word.{Word}
use Rattle.ada_tree.specs.PlainExpr.{PExpr, PBounds, PSubind, PDrange, RGiven}
use Rattle.ada_static_rules.specs.Refusals.{Refusal}
use Rattle.ada_tree.specs.TypeTable.{TypeTable}
use Rattle.ada_static_rules.specs.Scope.{Scope, Marking, ScalarMark, ArrayMark, TaskMark, NoMark, UnknownMark, UnclearMark, marking, scalar_kind}
use Rattle.ada_static_rules.specs.ExprTypes.{kind_of}
use Rattle.ada_static_rules.specs.Demand.{MarkUse, stands_as_mark, must_be_of, must_be_alike, must_be_static, must_not_be_empty}
use Rattle.ada_static_rules.specs.Declaring.{made_range, subind_made, marked_range, given_range}
use Rattle.ada_static_rules.specs.Sites.{site, expr_sites, static_if, bounds_sites, constraint_sites, subind_sites, drange_sites}
use Rattle.ada_static_rules.specs.Sooner.{sooner}
use Rattle.ada_static_rules.specs.RefusedFirst.{refused_first_at, refused_first}
use Rattle.ada_scopes.specs.Entries.{plain_range}
use Rattle.ada_expr_rules.specs.Known.{IsKnown}
use Rattle.ada_expr_rules.specs.Ranges.{made_as, range_as, ranged, range_if, IsSubind, IsRange}
use Rattle.ada_expr_rules.specs.declared.known.Known.{Known}
use Rattle.ada_scopes.specs.declared.denotations.Range.{Range}
use Rattle.ada_expr_rules.specs.declared.ranges.WalkedSubind.{WalkedSubind}
use Rattle.ada_expr_rules.specs.declared.ranges.WalkedRange.{WalkedRange}
use Rattle.ada_static_rules.proofs.Meeting.{met_none, met_one, joined, before, behind}
use Rattle.ada_expr_rules.proofs.Knowing.{range_known}

-- a bound that must be static
pub fixed_met : (fixed : Bool) (scope : Scope) (e : PExpr) (a : Option Refusal) → fixed ≡ true → a ≡ refused_first_at scope (must_be_static e) → a ≡ refused_first (static_if fixed scope e)
fixed_met true scope e a h p = p ∙ sym (met_one scope (must_be_static e))
fixed_met false scope e a h p = absurd (false≢true h)

-- and one that need not be
pub moving_met : (fixed : Bool) (scope : Scope) (e : PExpr) → fixed ≡ false → None ≡ refused_first (static_if fixed scope e)
moving_met true scope e h = absurd (false≢true (sym h))
moving_met false scope e h = sym met_none

-- the two bounds, and the range between them
pub bounds_met : (fixed : Bool) (scope : Scope) (b : PBounds) (p q r : Option Refusal)
    → p ≡ refused_first (expr_sites scope b.first ++ static_if fixed scope b.first)
    → q ≡ refused_first (expr_sites scope b.last ++ static_if fixed scope b.last)
    → r ≡ refused_first_at scope (must_not_be_empty b.first b.last)
    → sooner (sooner p q) r ≡ refused_first (bounds_sites fixed scope b)
bounds_met fixed scope b p q r is_p is_q is_r =
    let low = expr_sites scope b.first ++ static_if fixed scope b.first in
    behind ((low ++ expr_sites scope b.last) ++ static_if fixed scope b.last) scope (must_not_be_empty b.first b.last) (sooner p q) r
    (joined low (expr_sites scope b.last ++ static_if fixed scope b.last) p q is_p is_q
    ∙ ap refused_first (sym (append_assoc low (expr_sites scope b.last) (static_if fixed scope b.last))))
    is_r

-- two bounds behind a mark
pub constraint_met : (fixed : Bool) (scope : Scope) (kind : Option ℕ) (b : PBounds) (p q r : Option Refusal)
    → p ≡ refused_first (bounds_sites fixed scope b)
    → q ≡ refused_first_at scope (must_be_of b.first kind)
    → r ≡ refused_first_at scope (must_be_of b.last kind)
    → sooner p (sooner q r) ≡ refused_first (constraint_sites fixed scope kind b)
constraint_met fixed scope kind b p q r is_p is_q is_r =
    joined (bounds_sites fixed scope b) (site scope (must_be_of b.first kind) ∷ site scope (must_be_of b.last kind) ∷ []) p (sooner q r) is_p
    (before scope (must_be_of b.first kind) (site scope (must_be_of b.last kind) ∷ []) q r is_q (is_r ∙ sym (met_one scope (must_be_of b.last kind))))

-- two bounds without a mark are of one kind
pub alike_met : (scope : Scope) (a b : PExpr) (kind : Option ℕ) (p : Option Refusal) → kind ≡ kind_of scope a → p ≡ refused_first_at scope (must_be_of b kind) → p ≡ refused_first_at scope (must_be_alike a b)
alike_met scope a b kind p h is_p = is_p ∙ ap (λ k. refused_first_at scope (must_be_of b k)) h

-- the range of two bounds, where their kind is known
pub given_known : (scope : Scope) (b : PBounds) (kind : Option ℕ) (low high : Known) → IsKnown scope b.first low → IsKnown scope b.last high → range_if kind low high ≡ given_range scope kind b
given_known scope b None low high g h = refl
given_known scope b (Some k) low high g h = range_known scope b k low high g h

made_ranged : (types : TypeTable) (range : Option Range) → made_as types (ranged range) ≡ made_range types (option_map plain_range range)
made_ranged types None = refl
made_ranged types (Some r) = refl

range_ranged : (types : TypeTable) (range : Option Range) → range_as types (ranged range) ≡ option_map plain_range range
range_ranged types None = refl
range_ranged types (Some r) = refl

made_given : (scope : Scope) (m : Marking) (b : PBounds) → made_range scope.types (given_range scope (scalar_kind m) b) ≡ subind_made scope m (Some b)
made_given scope (ScalarMark m k) b = refl
made_given scope (ArrayMark m r part) b = refl
made_given scope (TaskMark entries) b = refl
made_given scope NoMark b = refl
made_given scope UnknownMark b = refl
made_given scope UnclearMark b = refl

range_given : (scope : Scope) (m : Marking) (b : PBounds) → given_range scope (scalar_kind m) b ≡ marked_range scope m (Some b)
range_given scope (ScalarMark m k) b = refl
range_given scope (ArrayMark m r part) b = refl
range_given scope (TaskMark entries) b = refl
range_given scope NoMark b = refl
range_given scope UnknownMark b = refl
range_given scope UnclearMark b = refl

abbrev over : Word → Option PBounds → PSubind
over mark bounds = record { mark = mark; bounds = bounds }

-- a mark with bounds of its own
pub bounded_subind : (fixed : Bool) (allowed : MarkUse) (scope : Scope) (mark : Word) (o : Option PBounds) (b : PBounds) (range : Option Range) (low high : Known) (p q : Option Refusal) (w : WalkedSubind)
    → o ≡ Some b
    → w.kind ≡ scalar_kind (marking scope mark.name)
    → IsKnown scope b.first low → IsKnown scope b.last high
    → option_map plain_range range ≡ range_if w.kind low high
    → w.making ≡ ranged range
    → p ≡ refused_first_at scope (stands_as_mark allowed mark)
    → q ≡ refused_first (constraint_sites fixed scope w.kind b)
    → w.refusal ≡ sooner p q
    → IsSubind (subind_sites fixed allowed scope (over mark o)) scope (over mark o) w
bounded_subind fixed allowed scope mark o b range low high p q w is_o is_kind g h is_range is_making is_p is_q is_w =
    let kind = scalar_kind (marking scope mark.name) in
    let given : option_map plain_range range ≡ given_range scope kind b =
    is_range ∙ given_known scope b w.kind low high g h ∙ ap (λ k. given_range scope k b) is_kind in
    subst (λ (x : Option PBounds). IsSubind (subind_sites fixed allowed scope (over mark x)) scope (over mark x) w) (sym is_o)
    record {
      kind_is = is_kind;
      made_is = ap (made_as scope.types) is_making ∙ made_ranged scope.types range ∙ ap (made_range scope.types) given ∙ made_given scope (marking scope mark.name) b;
      range_is = ap (range_as scope.types) is_making ∙ range_ranged scope.types range ∙ given ∙ range_given scope (marking scope mark.name) b;
      refusal_is = is_w ∙ before scope (stands_as_mark allowed mark) (constraint_sites fixed scope kind b) p q is_p (is_q ∙ ap (λ k. refused_first (constraint_sites fixed scope k b)) is_kind);
    }

-- a mark alone
pub marked_subind : (fixed : Bool) (allowed : MarkUse) (scope : Scope) (mark : Word) (o : Option PBounds) (w : WalkedSubind)
    → o ≡ None
    → w.kind ≡ scalar_kind (marking scope mark.name)
    → made_as scope.types w.making ≡ subind_made scope (marking scope mark.name) None
    → range_as scope.types w.making ≡ marked_range scope (marking scope mark.name) None
    → w.refusal ≡ refused_first_at scope (stands_as_mark allowed mark)
    → IsSubind (subind_sites fixed allowed scope (over mark o)) scope (over mark o) w
marked_subind fixed allowed scope mark o w is_o is_kind is_made is_range is_w =
    subst (λ (x : Option PBounds). IsSubind (subind_sites fixed allowed scope (over mark x)) scope (over mark x) w) (sym is_o)
    record { kind_is = is_kind; made_is = is_made; range_is = is_range; refusal_is = is_w ∙ sym (met_one scope (stands_as_mark allowed mark)) }

-- two bounds without a mark
pub given_drange : (fixed : Bool) (scope : Scope) (r : PDrange) (b : PBounds) (low high : Known) (p q : Option Refusal) (w : WalkedRange)
    → r ≡ RGiven b
    → IsKnown scope b.first low → IsKnown scope b.last high
    → w.kind ≡ low.kind
    → option_map plain_range w.range ≡ range_if low.kind low high
    → p ≡ refused_first (bounds_sites fixed scope b)
    → q ≡ refused_first_at scope (must_be_of b.last low.kind)
    → w.refusal ≡ sooner p q
    → IsRange (drange_sites fixed scope r) scope r w
given_drange fixed scope r b low high p q w is_r g h is_kind is_range is_p is_q is_w =
    subst (λ (x : PDrange). IsRange (drange_sites fixed scope x) scope x w) (sym is_r)
    record {
      kind_is = is_kind ∙ g.kind_is;
      range_is = is_range ∙ given_known scope b low.kind low high g h ∙ ap (λ k. given_range scope k b) g.kind_is;
      refusal_is = is_w ∙ behind (bounds_sites fixed scope b) scope (must_be_alike b.first b.last) p q is_p (alike_met scope b.first b.last low.kind q g.kind_is is_q);
    }
