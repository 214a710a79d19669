-- How deep parts of an original stand: at most 40, and its waits have at most 32 alternatives. So a part of it may stand some deeper.
use Rattle.std.proofs.Common.{◌≡◌, ℕ, ◌+◌, ◌≤◌, Bool, true, false, ◌&&◌, nat_le, nat_lt, List, arith}
use Rattle.std.specs.List.{AllByRecursion}
use Rattle.std.proofs.lemmas.Bool.{ltb-false, le-leb}
use Rattle.ada_tree.specs.declared.naming.Span.{Span}
use Rattle.ada_tree.specs.PlainExpr.{PExpr, EInteger, EName, EIndex, EAttribute, EAttributeOf, EParen, EUnary, EBinary}
use Rattle.ada_tree.specs.PlainStmt.{PAlts, no_alt, alt_then, alternative}
use Rattle.ada_tree.specs.Every.{EveryExpr, alts_count}
use Rattle.ada_tree.specs.WellPlaced.{well_placed}
use Rattle.syn_event.specs.declared.numbering.Mode.TheVariants.{Original}
use Rattle.syn_event.specs.declared.limits.What.TheVariants.{Nesting, Alternatives}
use Rattle.syn_event.specs.CheckScope.{CheckScope, CheckSite, counts}
use Rattle.syn_event.specs.CheckSites.{site, expr_sites, numbered, alt_places}
use Rattle.syn_event.proofs.Nothing.{test_fails}
use Rattle.task_laws.specs.legal.sites.Met.{IsCheckMet}
use Rattle.common_lemmas.proofs.Lists.{all_back, all_front}

-- ---- limits

-- what keeps to a limit, and with one part more does not pass it
pub one-more : (limit n : ℕ) → n ≤ limit → (nat_le n limit && nat_lt limit (n + 1)) ≡ false → n + 1 ≤ limit
one-more limit n le e = ltb-false limit (n + 1) (right (nat_le n limit) (nat_lt limit (n + 1)) (le-leb n limit le) e)
  where
    right : (a b : Bool) → a ≡ true → (a && b) ≡ false → b ≡ false
    right true b f g = g
    right false b f g = cc

module _ (names : List (List ℕ)) where
  abbrev At : List CheckSite → Type 0
  At xs = AllByRecursion (IsCheckMet Original names) xs

  -- a part that stands so deep
  pub depth-of : (c : CheckScope) (k : ℕ) (s : Span) → IsCheckMet Original names (site c (counts Nesting 0 k s)) → k ≤ 40
  depth-of c k s m =
      let e : (nat_le 0 40 && nat_lt 40 (0 + k)) ≡ false = test_fails (nat_le 0 40 && nat_lt 40 (0 + k)) _ m.limits in
      let f : 0 + k ≤ 40 = ltb-false 40 (0 + k) e in
      omega (arith, f)

  pub expr-depth : (c : CheckScope) (k : ℕ) (e : PExpr) → At (expr_sites c k e) → k ≤ 40
  expr-depth c k (EInteger n s) m = depth-of c k s m.0
  expr-depth c k (EName id s) m = depth-of c k s m.0
  expr-depth c k (EIndex w e s) m = depth-of c k s m.0
  expr-depth c k (EAttribute x w s) m = depth-of c k s m.0
  expr-depth c k (EAttributeOf x w e s) m = depth-of c k s m.0
  expr-depth c k (EParen e s) m = depth-of c k s m.0
  expr-depth c k (EUnary op e s) m = depth-of c k s m.0
  expr-depth c k (EBinary op l r s) m = depth-of c k s m.0

  -- an expression that stands elsewhere, no more than five deeper
  module _ (names' : List (List ℕ)) where
    pub expr-moved : (c : CheckScope) (k n : ℕ) (e : PExpr) → n ≤ k + 5 → EveryExpr (well_placed names') k e → At (expr_sites c k e) → EveryExpr (well_placed names') n e
    expr-moved c k n (EInteger i s) le h m = let d : k ≤ 40 = depth-of c k s m.0 in (omega arith, h.1)
    expr-moved c k n (EName id s) le h m = let d : k ≤ 40 = depth-of c k s m.0 in (omega arith, h.1)
    expr-moved c k n (EIndex w e s) le h m = let d : k ≤ 40 = depth-of c k s m.0 in (omega arith, h.1, expr-moved c (k + 1) (n + 1) e (omega arith) h.2 m.1.1)
    expr-moved c k n (EAttribute x w s) le h m = let d : k ≤ 40 = depth-of c k s m.0 in (omega arith, h.1, h.2)
    expr-moved c k n (EAttributeOf x w e s) le h m = let d : k ≤ 40 = depth-of c k s m.0 in (omega arith, h.1, h.2, expr-moved c (k + 1) (n + 1) e (omega arith) h.3 m.1)
    expr-moved c k n (EParen e s) le h m = let d : k ≤ 40 = depth-of c k s m.0 in (omega arith, expr-moved c (k + 1) (n + 1) e (omega arith) h.1 m.1)
    expr-moved c k n (EUnary op e s) le h m = let d : k ≤ 40 = depth-of c k s m.0 in (omega arith, h.1, expr-moved c (k + 1) (n + 1) e (omega arith) h.2 m.1)
    expr-moved c k n (EBinary op l r s) le h m =
        let d : k ≤ 40 = depth-of c k s m.0 in (
          omega arith,
          h.1,
          expr-moved c (k + 1) (n + 1) l (omega arith) h.2 (all_front (IsCheckMet Original names) (expr_sites c (k + 1) l) (expr_sites c (k + 1) r) m.1),
          expr-moved c (k + 1) (n + 1) r (omega arith) h.3 (all_back (IsCheckMet Original names) (expr_sites c (k + 1) l) (expr_sites c (k + 1) r) m.1),
        )

  -- ---- alternatives

  pub few-alternatives : (c : CheckScope) (x : PAlts) (n : ℕ) → n ≤ 32 → At (numbered c Alternatives n (alt_places x)) → n + alts_count x ≤ 32
  few-alternatives c no_alt n le m = omega arith
  few-alternatives c (alt_then (alternative guard what s) l) n le m =
      let e : (nat_le n 32 && nat_lt 32 (n + 1)) ≡ false = test_fails (nat_le n 32 && nat_lt 32 (n + 1)) _ m.0.limits in
      let h : n + 1 + alts_count l ≤ 32 = few-alternatives c l (n + 1) (one-more 32 n le e) m.1 in
      omega (arith, h)
