-- What stays in the normal form meets the rules there, where it does in the program.
use Rattle.std.proofs.Common.{◌≡◌, ℕ, ◌+◌, Bool, true, false, ◌==◌, not, ◌||◌, if◌then◌else◌, List, [], ◌∷◌, ◌++◌, length, map, flat_map, Option, Some, None, is_some, IfSome, refl, subst}
use Rattle.std.specs.List.{AllByRecursion}
use Rattle.std.proofs.lemmas.List.Elements.{recursion_from_All}
use Rattle.common_lemmas.proofs.Lists.{all_back, all_front, all_joined}
use Rattle.ada_tree.specs.declared.naming.Span.{Span}
use Rattle.ada_tree.specs.declared.naming.Word.{Word}
use Rattle.ada_tree.specs.PlainExpr.{PExpr, EInteger, EName, EIndex, EAttribute, EAttributeOf, EParen, EUnary, EBinary, PBounds, PSubind, PDrange, RGiven, RMarked}
use Rattle.ada_tree.specs.PlainStmt.{PTarget, PFormal, PPart, PWords, PValue, PChoice, PScheme, LWhile, LFor, PHead, PStmt, SNull, SAssign, SDelay, SExit, SRaise, SAbort, SCall, SAccept, SWait, SConditional, STimed, SPut, SPutLine, SNewLine, SGet, SIf, SCase, SBlock, SLoop}
use Rattle.ada_tree.specs.Every.{Rules, EveryWord, EveryExpr, EveryBounds, EverySubind, EveryDrange, EveryTarget, EveryFormal, EveryPart, EveryChoice, EveryScheme, EveryHead, EveryStmt}
use Rattle.ada_static_rules.specs.Scope.{Scope, Range, Family, single, family, unclear, EntryPart, integer_kind, truth_kind, marking, scalar_kind, entry_named}
use Rattle.ada_static_rules.specs.ExprTypes.{nodes, kind_of}
use Rattle.ada_static_rules.specs.Declaring.{inner_scope}
use Rattle.ada_static_rules.specs.Demand.{MarkUse, scalar_only, Demand, labels, stands_as_mark, whole, node, must_be_of, must_be_alike, must_be_static, must_not_be_empty, must_lie_in, writes, gets, accepts, names_exception, handles, chooses, is_written, Site}
use Rattle.ada_static_rules.specs.Sites.{subind_sites, site, if_there, names_sites, expr_sites, part_nodes, expr_of, static_of, static_if, bounds_sites, constraint_sites, mark_sites, drange_sites, formal_mark_sites, all_names, formals_sites, accept_index_sites, head_sites, plain_part_sites, part_sites, target_sites, condition_sites, choice_sites, handler_names_sites, scheme_sites, stmt_sites}
use Rattle.ada_static_rules.specs.RuleTextUse.{is_image_of}
use Rattle.ada_static_rules.specs.RuleMismatch.{target_kind}
use Rattle.ada_static_rules.specs.RuleChoiceBad.{selected_range}
use Rattle.ada_static_rules.specs.RuleArrayUse.{array_in_node}
use Rattle.task_laws.specs.legal.sites.Met.{IsMet}
use Rattle.normal_laws.specs.structure.asked.Pieces.{IsPlain}
use Rattle.task_laws.specs.legal.rewritten_types.Rewriting.{is_no_task}
use Rattle.normal_laws.specs.structure.checked.Around.{own_rules}
use Rattle.task_laws.specs.legal.alike_scopes.Alike.{SameNames, Alike}
use Rattle.task_laws.specs.legal.alike_scopes.Old.{IsOldWord, IsOldExpr, IsOldBounds, IsOldSubind, IsOldDrange, IsOldTarget, IsOldChoice, AreOldFormals, allows_task}
use Rattle.task_laws.specs.legal.alike_scopes.Laws.{IsMetBut}
use Rattle.task_laws.proofs.legal.alike_scopes.Demands.{IsPlainDemand, names-refuse-same, alike_refuses_same}
use Rattle.task_laws.proofs.legal.alike_scopes.Exprs.{exprs_are_same, dranges_are_same}
use Rattle.task_laws.proofs.legal.alike_scopes.Selectors.{selectors_are_same, targets_are_same}
use Rattle.normal_laws.proofs.structure.typed.Places.{met-declares, met-labels}
use Rattle.normal_laws.proofs.structure.typed.Variables.{AllMetBut}
use Rattle.normal_laws.proofs.structure.typed.Calls.{as_family}

-- ---- old names

module _ (own : ℕ → Bool) where
  abbrev r : Rules
  r = own_rules own

  pub old-expr : (k : ℕ) (e : PExpr) → EveryExpr r k e → IsOldExpr own e
  old-expr k (EInteger n s) h = tt
  old-expr k (EName id s) h = h.1
  old-expr k (EIndex w e s) h = (h.1, old-expr (k + 1) e h.2)
  old-expr k (EAttribute m w s) h = h.1
  old-expr k (EAttributeOf m w e s) h = (h.1, old-expr (k + 1) e h.3)
  old-expr k (EParen e s) h = old-expr (k + 1) e h.1
  old-expr k (EUnary op e s) h = old-expr (k + 1) e h.2
  old-expr k (EBinary op x y s) h = (old-expr (k + 1) x h.2, old-expr (k + 1) y h.3)

  pub old-bounds : (k : ℕ) (b : PBounds) → EveryBounds r k b → IsOldBounds own b
  old-bounds k b h = (old-expr k b.first h.1, old-expr k b.last h.2)

  pub old-subind : (k : ℕ) (x : PSubind) → EverySubind r k x → IsOldSubind own x
  old-subind k x h = (h.0, go x.bounds h.1)
    where
      go : (o : Option PBounds) → IfSome o (EveryBounds r k) → IfSome o (IsOldBounds own)
      go None q = tt
      go (Some b) q = old-bounds k b q

  pub old-drange : (k : ℕ) (x : PDrange) → EveryDrange r k x → IsOldDrange own x
  old-drange k (RGiven b) h = old-bounds k b h
  old-drange k (RMarked x) h = old-subind k x h

  pub old-option : (k : ℕ) (o : Option PExpr) → IfSome o (EveryExpr r k) → IfSome o (IsOldExpr own)
  old-option k None h = tt
  old-option k (Some e) h = old-expr k e h

  pub old-choice : (k : ℕ) (x : PChoice) → EveryChoice r k x → IsOldChoice own x
  old-choice k x h = (old-expr k x.first h.0, go x.last h.1)
    where
      go : (o : Option PExpr) → IfSome o (λ l. r.bounds x.first l × EveryExpr r k l) → IfSome o (IsOldExpr own)
      go None q = tt
      go (Some e) q = old-expr k e q.1

  pub old-choices : (k : ℕ) (xs : List PChoice) → AllByRecursion (EveryChoice r k) xs → AllByRecursion (IsOldChoice own) xs
  old-choices k [] h = tt
  old-choices k (x ∷ xs) h = (old-choice k x h.0, old-choices k xs h.1)

  pub old-formals : (fs : List PFormal) → AllByRecursion (EveryFormal r) fs → AreOldFormals own fs
  old-formals [] h = tt
  old-formals (f ∷ fs) h = (h.0.1, old-formals fs h.1)

  old-nodes : (e : PExpr) → IsOldExpr own e → AllByRecursion (IsOldExpr own) (nodes e)
  old-nodes (EInteger n s) h = (h, tt)
  old-nodes (EName id s) h = (h, tt)
  old-nodes (EIndex w e s) h = (h, old-nodes e h.1)
  old-nodes (EAttribute m w s) h = (h, tt)
  old-nodes (EAttributeOf m w e s) h = (h, old-nodes e h.1)
  old-nodes (EParen e s) h = (h, old-nodes e h)
  old-nodes (EUnary op e s) h = (h, old-nodes e h)
  old-nodes (EBinary op x y s) h = (h, all_joined (IsOldExpr own) (nodes x) (nodes y) (old-nodes x h.0) (old-nodes y h.1))

pub met-but : (s : Site) → IsMet s → IsMetBut s
met-but s m = record {
  known = m.known;
  matched = m.matched;
  static = m.static;
  ranged = m.ranged;
  variable = m.variable;
  readable = m.readable;
  counted = m.counted;
  chosen = m.chosen;
  arrays = m.arrays;
  texts = m.texts;
  exceptions = m.exceptions;
}

-- the selector is no whole array, as nothing is refused there
pub no-array : (P : Site → Type 0) → ((s : Site) → P s → IsMetBut s) → (c : Scope) (e : PExpr) → AllByRecursion P (expr_sites c e) → array_in_node c e ≡ []
no-array P but c (EInteger n s) h = refl
no-array P but c (EName id s) h = (but (site c (node false (EName id s))) h.1.0).arrays
no-array P but c (EIndex w e s) h = refl
no-array P but c (EAttribute m w s) h = refl
no-array P but c (EAttributeOf m w e s) h = refl
no-array P but c (EParen e s) h = refl
no-array P but c (EUnary op e s) h = refl
no-array P but c (EBinary op x y s) h = refl

-- with whatever is known of each place, where it says that none of these rules refuses anything there
module _ (P : Site → Type 0) (but : (s : Site) → P s → IsMetBut s) (own : ℕ → Bool) (c d : Scope) (names : SameNames own c d) where
  abbrev r' : Rules
  r' = own_rules own

  abbrev At : List Site → Type 0
  At xs = AllByRecursion P xs

  pub stays-but : (x : Demand) → IsPlainDemand own c d names x → IsMetBut (site c x) → IsMetBut (site d x)
  stays-but x o m = names-refuse-same own c d names x o m

  pub stays : (x : Demand) → IsPlainDemand own c d names x → P (site c x) → IsMetBut (site d x)
  stays x o m = stays-but x o (but (site c x) m)

  -- ---- expressions

  nodes-stay : (ns : List PExpr) → AllByRecursion (IsOldExpr own) ns → At (map (λ n. site c (node false n)) ns) → AllMetBut (map (λ n. site d (node false n)) ns)
  nodes-stay [] o m = tt
  nodes-stay (n ∷ ns) o m = (stays (node false n) o.0 m.0, nodes-stay ns o.1 m.1)

  pub expr-stays : (e : PExpr) → IsOldExpr own e → At (expr_sites c e) → AllMetBut (expr_sites d e)
  expr-stays e o m = (stays (whole e) o m.0, nodes-stay (nodes e) (old-nodes own e o) m.1)

  pub kind-stays : (e : PExpr) → IsOldExpr own e → kind_of c e ≡ kind_of d e
  kind-stays e o = (exprs_are_same own c d names e o).kind

  pub of-stays : (k : Option ℕ) (e : PExpr) → IsOldExpr own e → At (expr_of c k e) → AllMetBut (expr_of d k e)
  of-stays k e o m =
      all_joined IsMetBut (expr_sites d e) _ (expr-stays e o (all_front P (expr_sites c e) _ m))
      (stays (must_be_of e k) o (all_back P (expr_sites c e) (site c (must_be_of e k) ∷ []) m).0, tt)

  pub static-stays : (k : Option ℕ) (e : PExpr) → IsOldExpr own e → At (static_of c k e) → AllMetBut (static_of d k e)
  static-stays k e o m =
      all_joined IsMetBut (expr_of d k e) _ (of-stays k e o (all_front P (expr_of c k e) _ m))
      (stays (must_be_static e) o (all_back P (expr_of c k e) (site c (must_be_static e) ∷ []) m).0, tt)

  pub condition-stays : (e : PExpr) → IsOldExpr own e → At (condition_sites c e) → AllMetBut (condition_sites d e)
  condition-stays e o m = of-stays (Some truth_kind) e o m

  if-stays : (o : Option PExpr) → IfSome o (IsOldExpr own) → At (if_there (expr_sites c) o) → AllMetBut (if_there (expr_sites d) o)
  if-stays None o m = tt
  if-stays (Some e) o m = expr-stays e o m

  -- ---- texts

  part-nodes-stay : (e : PExpr) → IsOldExpr own e → At (part_nodes c e) → AllMetBut (part_nodes d e)
  part-nodes-stay (EInteger n s) o m = (stays (node true (EInteger n s)) o m.0, tt)
  part-nodes-stay (EName id s) o m = (stays (node true (EName id s)) o m.0, tt)
  part-nodes-stay (EIndex w e s) o m = (stays (node true (EIndex w e s)) o m.0, nodes-stay (nodes e) (old-nodes own e o.1) m.1)
  part-nodes-stay (EAttribute x w s) o m = (stays (node true (EAttribute x w s)) o m.0, tt)
  part-nodes-stay (EAttributeOf x w e s) o m = (stays (node true (EAttributeOf x w e s)) o m.0, nodes-stay (nodes e) (old-nodes own e o.1) m.1)
  part-nodes-stay (EParen e s) o m = (stays (node true (EParen e s)) o m.0, nodes-stay (nodes e) (old-nodes own e o) m.1)
  part-nodes-stay (EUnary op e s) o m = (stays (node true (EUnary op e s)) o m.0, nodes-stay (nodes e) (old-nodes own e o) m.1)
  part-nodes-stay (EBinary op x y s) o m = (
    stays (node true (EBinary op x y s)) o m.0,
    nodes-stay (nodes x ++ nodes y) (all_joined (IsOldExpr own) (nodes x) (nodes y) (old-nodes own x o.0) (old-nodes own y o.1)) m.1,
  )

  plain-part-stays : (alone : Bool) (e : PExpr) → IsOldExpr own e → At (plain_part_sites c alone e) → AllMetBut (plain_part_sites d alone e)
  plain-part-stays false e o m = tt
  plain-part-stays true e o m = by_test (is_image_of e) m
    where
      by_test : (b : Bool) → At (if b then [] else site c (must_be_of e (Some integer_kind)) ∷ []) → AllMetBut (if b then [] else site d (must_be_of e (Some integer_kind)) ∷ [])
      by_test true q = tt
      by_test false q = (stays (must_be_of e (Some integer_kind)) o q.0, tt)

  part-stays : (alone : Bool) (k : ℕ) (x : PPart) → EveryPart r' k x → At (part_sites c alone x) → AllMetBut (part_sites d alone x)
  part-stays alone k (PWords t s) h m = tt
  part-stays alone k (PValue e) h m =
      let o = old-expr own k e h in
      let behind : At (site c (is_written alone e) ∷ plain_part_sites c alone e) = all_back P (part_nodes c e) (site c (is_written alone e) ∷ plain_part_sites c alone e) m.1 in (
        stays (whole e) o m.0,
        all_joined IsMetBut (part_nodes d e) _ (part-nodes-stay e o (all_front P (part_nodes c e) _ m.1))
            (stays (is_written alone e) tt behind.0, plain-part-stays alone e o behind.1),
      )

  parts-stay : (alone : Bool) (k : ℕ) (xs : List PPart) → AllByRecursion (EveryPart r' k) xs → At (flat_map (part_sites c alone) xs) → AllMetBut (flat_map (part_sites d alone) xs)
  parts-stay alone k [] h m = tt
  parts-stay alone k (x ∷ xs) h m =
      all_joined IsMetBut (part_sites d alone x) _ (part-stays alone k x h.0 (all_front P (part_sites c alone x) _ m))
      (parts-stay alone k xs h.1 (all_back P (part_sites c alone x) (flat_map (part_sites c alone) xs) m))

  -- ---- targets

  old-target : (k : ℕ) (t : PTarget) → EveryTarget r' k t → IsOldTarget own t
  old-target k t h = (h.0, old-option own k t.index h.1)

  target-stays : (k : ℕ) (t : PTarget) → EveryTarget r' k t → At (target_sites c t) → AllMetBut (target_sites d t)
  target-stays k t h m = let o = old-target k t h in (stays (writes t) o m.0, if-stays t.index o.1 m.1)

  -- ---- ranges

  mark-stays : (w : Word) → IsOldWord own w → At (mark_sites scalar_only c w) → AllMetBut (mark_sites scalar_only d w)
  mark-stays w o m = (stays (stands_as_mark scalar_only w) (o, refl) m.0, tt)

  -- where it is asked, static
  if-static : (q : Bool) (e : PExpr) → IsOldExpr own e → At (static_if q c e) → AllMetBut (static_if q d e)
  if-static true e o m = (stays (must_be_static e) o m.0, tt)
  if-static false e o m = tt

  bounds-stay : (q : Bool) (b : PBounds) → IsOldBounds own b → At (bounds_sites q c b) → AllMetBut (bounds_sites q d b)
  bounds-stay q b o m =
      let f = expr_sites c b.first in
      let i = static_if q c b.first in
      let l = expr_sites c b.last in
      let j = static_if q c b.last in
      let order : List Site = site c (must_not_be_empty b.first b.last) ∷ [] in
      let h4 : At (f ++ i ++ l ++ j) = all_front P (f ++ i ++ l ++ j) order m in
      let h3 : At (f ++ i ++ l) = all_front P (f ++ i ++ l) j h4 in
      let h2 : At (f ++ i) = all_front P (f ++ i) l h3 in
      let f' = expr_sites d b.first in
      let i' = static_if q d b.first in
      let l' = expr_sites d b.last in
      let j' = static_if q d b.last in
      all_joined IsMetBut (f' ++ i' ++ l' ++ j') _
      (all_joined IsMetBut (f' ++ i' ++ l') j'
      (all_joined IsMetBut (f' ++ i') l' (all_joined IsMetBut f' i' (expr-stays b.first o.0 (all_front P f i h2)) (if-static q b.first o.0 (all_back P f i h2))) (expr-stays b.last o.1 (all_back P (f ++ i) l h3)))
      (if-static q b.last o.1 (all_back P (f ++ i ++ l) j h4)))
      (stays (must_not_be_empty b.first b.last) o (all_back P (f ++ i ++ l ++ j) order m).0, tt)

  pub constraint-stays : (q : Bool) (k : Option ℕ) (b : PBounds) → IsOldBounds own b → At (constraint_sites q c k b) → AllMetBut (constraint_sites q d k b)
  constraint-stays q k b o m =
      let behind : List Site = site c (must_be_of b.first k) ∷ site c (must_be_of b.last k) ∷ [] in
      let h = all_back P (bounds_sites q c b) behind m in
      all_joined IsMetBut (bounds_sites q d b) _ (bounds-stay q b o (all_front P (bounds_sites q c b) behind m)) (stays (must_be_of b.first k) o.0 h.0, (stays (must_be_of b.last k) o.1 h.1.0, tt))

  -- the kind of a mark
  mark-kind : (w : Word) → IsOldWord own w → scalar_kind (marking c w.name) ≡ scalar_kind (marking d w.name)
  mark-kind w o = (dranges_are_same own c d names (RMarked record { mark = w; bounds = None }) (o, tt)).kind

  -- the marks that are allowed there include no task type, or the mark is none
  abbrev pub IsNoTaskThere : MarkUse → Word → Type 0
  IsNoTaskThere allowed w = (not (allows_task allowed) || is_no_task (marking c w.name)) ≡ true

  pub subind-stays : (q : Bool) (allowed : MarkUse) (x : PSubind) → IsOldSubind own x → IsNoTaskThere allowed x.mark → At (subind_sites q allowed c x) → AllMetBut (subind_sites q allowed d x)
  subind-stays q allowed x o n m = (stays (stands_as_mark allowed x.mark) (o.0, n) m.0, by_bounds x.bounds o.1 m.1)
    where
      by_bounds : (b : Option PBounds) → IfSome b (IsOldBounds own) → At (if_there (constraint_sites q c (scalar_kind (marking c x.mark.name))) b) → AllMetBut (if_there (constraint_sites q d (scalar_kind (marking d x.mark.name))) b)
      by_bounds None p h = tt
      by_bounds (Some b) p h = subst (λ k. AllMetBut (constraint_sites q d k b)) (mark-kind x.mark o.0) (constraint-stays q (scalar_kind (marking c x.mark.name)) b p h)

  pub drange-stays : (q : Bool) (x : PDrange) → IsOldDrange own x → At (drange_sites q c x) → AllMetBut (drange_sites q d x)
  drange-stays q (RGiven b) o m =
      all_joined IsMetBut (bounds_sites q d b) _ (bounds-stay q b o (all_front P (bounds_sites q c b) _ m))
      (stays (must_be_alike b.first b.last) o (all_back P (bounds_sites q c b) (site c (must_be_alike b.first b.last) ∷ []) m).0, tt)
  drange-stays q (RMarked x) o m = subind-stays q scalar_only x o refl m

  -- ---- names that are declared

  words-stay : (ws : List Word) (s t : Scope) → AllMetBut (names_sites false t ws)
  words-stay [] s t = tt
  words-stay (w ∷ ws) s t = (met-declares t false w, words-stay ws s _)

  marks-stay : (fs : List PFormal) → AreOldFormals own fs → At (formal_mark_sites c fs) → AllMetBut (formal_mark_sites d fs)
  marks-stay [] o m = tt
  marks-stay (f ∷ fs) o m = (stays (stands_as_mark scalar_only f.mark) (o.0, refl) m.0, marks-stay fs o.1 m.1)

  pub formals-stay : (fs : List PFormal) → AreOldFormals own fs → At (formals_sites c fs) → AllMetBut (formals_sites d fs)
  formals-stay fs o m =
      all_joined IsMetBut (names_sites false (inner_scope d) (all_names fs)) _ (words-stay (all_names fs) c (inner_scope d)) (marks-stay fs o (all_back P (names_sites false (inner_scope c) (all_names fs)) _ m))

  -- ---- loops

  scheme-stays : (k : ℕ) (o : Option PScheme) → IfSome o (EveryScheme r' k) → At (if_there (scheme_sites c) o) → AllMetBut (if_there (scheme_sites d) o)
  scheme-stays k None h m = tt
  scheme-stays k (Some (LWhile e)) h m = condition-stays e (old-expr own k e h) m
  scheme-stays k (Some (LFor w backwards x)) h m = (met-declares (inner_scope d) false w, drange-stays false x (old-drange own k x h.1) m.1)

  label-stays : (o : Option Word) → AllMetBut (if_there (λ y. site d (labels y) ∷ []) o)
  label-stays None = tt
  label-stays (Some w) = (met-labels d w, tt)

  pub loop-stays : (k : ℕ) (w : Option Word) (x : Option PScheme) → IfSome x (EveryScheme r' k) → At (if_there (λ y. site c (labels y) ∷ []) w ++ if_there (scheme_sites c) x) →
      AllMetBut (if_there (λ y. site d (labels y) ∷ []) w ++ if_there (scheme_sites d) x)
  loop-stays k w x h m =
      all_joined IsMetBut (if_there (λ y. site d (labels y) ∷ []) w) _ (label-stays w) (scheme-stays k x h (all_back P (if_there (λ y. site c (labels y) ∷ []) w) _ m))

  -- ---- cases

  last-stays : (k : Option ℕ) (range : Option Range) (first : PExpr) (o : Option PExpr) → IsOldExpr own first → IfSome o (IsOldExpr own) →
      At (if_there (λ e. static_of c k e ++ site c (must_lie_in e range) ∷ site c (must_not_be_empty first e) ∷ []) o) →
      AllMetBut (if_there (λ e. static_of d k e ++ site d (must_lie_in e range) ∷ site d (must_not_be_empty first e) ∷ []) o)
  last-stays k range first None p o m = tt
  last-stays k range first (Some e) p o m =
      let q = all_back P (static_of c k e) (site c (must_lie_in e range) ∷ site c (must_not_be_empty first e) ∷ []) m in
      all_joined IsMetBut (static_of d k e) _ (static-stays k e o (all_front P (static_of c k e) _ m)) (stays (must_lie_in e range) o q.0, (stays (must_not_be_empty first e) (p, o) q.1.0, tt))

  choice-stays : (k : Option ℕ) (range : Option Range) (x : PChoice) → IsOldChoice own x → At (choice_sites c k range x) → AllMetBut (choice_sites d k range x)
  choice-stays k range x o m =
      let q = all_back P (static_of c k x.first) (site c (must_lie_in x.first range) ∷ if_there (λ e. static_of c k e ++ site c (must_lie_in e range) ∷ site c (must_not_be_empty x.first e) ∷ []) x.last) m in
      all_joined IsMetBut (static_of d k x.first) _ (static-stays k x.first o.0 (all_front P (static_of c k x.first) _ m)) (stays (must_lie_in x.first range) o.0 q.0, last-stays k range x.first x.last o.0 o.1 q.1)

  choices-same : (k : Option ℕ) (range : Option Range) (xs : List PChoice) → AllByRecursion (IsOldChoice own) xs → At (flat_map (choice_sites c k range) xs) → AllMetBut (flat_map (choice_sites d k range) xs)
  choices-same k range [] o m = tt
  choices-same k range (x ∷ xs) o m =
      all_joined IsMetBut (choice_sites d k range x) _ (choice-stays k range x o.0 (all_front P (choice_sites c k range x) _ m)) (choices-same k range xs o.1 (all_back P (choice_sites c k range x) _ m))

  -- the choices for a selector that is no whole array
  pub choices-stay : (e : PExpr) (xs : List PChoice) → IsOldExpr own e → array_in_node c e ≡ [] → AllByRecursion (IsOldChoice own) xs →
      At (flat_map (choice_sites c (kind_of c e) (selected_range c e)) xs) → AllMetBut (flat_map (choice_sites d (kind_of d e) (selected_range d e)) xs)
  choices-stay e xs o q os m =
      subst (λ k. AllMetBut (flat_map (choice_sites d k (selected_range d e)) xs)) (kind-stays e o)
      (subst (λ range. AllMetBut (flat_map (choice_sites d (kind_of c e) range) xs)) (selectors_are_same own c d names e o q) (choices-same (kind_of c e) (selected_range c e) xs os m))

  pub selector-stays : (e : PExpr) (xs : List PChoice) (others : Bool) (s : Span) → IsOldExpr own e → AllByRecursion (IsOldChoice own) xs → At (site c (chooses e xs others s) ∷ expr_sites c e) → AllMetBut (site d (chooses e xs others s) ∷ expr_sites d e)
  selector-stays e xs others s o os m = (stays (chooses e xs others s) (o, os) m.0, expr-stays e o m.1)

  -- ---- handlers

  pub handler-stays : (names : List ℕ) (ws : List Word) → AllByRecursion (IsOldWord own) ws → At (handler_names_sites c names ws) → AllMetBut (handler_names_sites d names ws)
  handler-stays names [] o m = tt
  handler-stays names (w ∷ ws) o m = (stays (names_exception w) o.0 m.0, (stays (handles names w) tt m.1.0, handler-stays (w.name.0 ∷ names) ws o.1 m.1.1))

  -- ---- accepts

  family-stays : (entry : EntryPart) (fam : Family) (e : PExpr) → IsOldExpr own e → At (accept_index_sites c (Some (as_family entry fam)) e) → AllMetBut (accept_index_sites d (Some (as_family entry fam)) e)
  family-stays entry single e o m = expr-stays e o m
  family-stays entry unclear e o m = expr-stays e o m
  family-stays entry (family range) e o m =
      all_joined IsMetBut (expr_of d (Some range.kind) e) _ (of-stays (Some range.kind) e o (all_front P (expr_of c (Some range.kind) e) _ m))
      (stays (must_lie_in e (Some range)) o (all_back P (expr_of c (Some range.kind) e) (site c (must_lie_in e (Some range)) ∷ []) m).0, tt)

  pub index-stays : (entry : Option EntryPart) (e : PExpr) → IsOldExpr own e → At (accept_index_sites c entry e) → AllMetBut (accept_index_sites d entry e)
  index-stays None e o m = expr-stays e o m
  index-stays (Some entry) e o m = family-stays entry entry.family e o m

  -- ---- statements

  exception-stays : (o : Option Word) → IfSome o (EveryWord r') → At (if_there (λ x. site c (names_exception x) ∷ []) o) → AllMetBut (if_there (λ x. site d (names_exception x) ∷ []) o)
  exception-stays None h m = tt
  exception-stays (Some w) h m = (stays (names_exception w) h m.0, tt)

  when-stays : (o : Option PExpr) → IfSome o (IsOldExpr own) → At (if_there (condition_sites c) o) → AllMetBut (if_there (condition_sites d) o)
  when-stays None h m = tt
  when-stays (Some e) h m = condition-stays e h m

  pub plain-stays : (k : ℕ) (x : PStmt) → IsPlain x → EveryStmt r' k x → At (stmt_sites c x) → AllMetBut (stmt_sites d x)
  plain-stays k (SNull s) p h m = tt
  plain-stays k (SAssign t e s) p h m =
      let o = old-expr own (k + 1) e h.2 in
      all_joined IsMetBut (target_sites d t) _ (target-stays (k + 1) t h.1 (all_front P (target_sites c t) _ m))
      (subst (λ q. AllMetBut (expr_of d q e)) (targets_are_same own c d names t (old-target (k + 1) t h.1)) (of-stays (target_kind c t) e o (all_back P (target_sites c t) (expr_of c (target_kind c t) e) m)))
  plain-stays k (SDelay n s) p h m = tt
  plain-stays k (SExit w e s) p h m = when-stays e (old-option own (k + 1) e h.2) m
  plain-stays k (SRaise w s) p h m = exception-stays w h.1 m
  plain-stays k (SPut xs s) p h m = parts-stay (length xs == 1) (k + 1) xs (recursion_from_All (EveryPart r' (k + 1)) xs h.1.1) m
  plain-stays k (SPutLine xs s) p h m = parts-stay false (k + 1) xs (recursion_from_All (EveryPart r' (k + 1)) xs h.1.1) m
  plain-stays k (SNewLine s) p h m = tt
  plain-stays k (SGet t s) p h m =
      all_joined IsMetBut (target_sites d t) _ (target-stays (k + 1) t h.1 (all_front P (target_sites c t) _ m))
      (stays (gets t) (old-target (k + 1) t h.1) (all_back P (target_sites c t) (site c (gets t) ∷ []) m).0, tt)
  plain-stays k (SAbort xs s) p h m = absurd p
  plain-stays k (SCall x s) p h m = absurd p
  plain-stays k (SAccept x s) p h m = absurd p
  plain-stays k (SWait x o s) p h m = absurd p
  plain-stays k (SConditional x l o s) p h m = absurd p
  plain-stays k (STimed x l n o s) p h m = absurd p
  plain-stays k (SIf x o s) p h m = absurd p
  plain-stays k (SCase e x o s) p h m = absurd p
  plain-stays k (SBlock x s) p h m = absurd p
  plain-stays k (SLoop w x l s) p h m = absurd p

-- ---- heads of accepts

module _ (P : Site → Type 0) (but : (s : Site) → P s → IsMetBut s) (own : ℕ → Bool) (c d : Scope) (alike : Alike own c d) where
  pub head-stays : (k : ℕ) (h : PHead) → EveryHead (own_rules own) k h → is_some (entry_named c.own h.entry.name) ≡ true → AllByRecursion P (head_sites c h) → AllMetBut (head_sites d h)
  head-stays k h i mine m =
      let entry = entry_named c.own h.entry.name in
      let same : entry ≡ entry_named d.own h.entry.name = alike.own h.entry.name i.0 in (
        alike_refuses_same own c d alike (accepts h) (i.0, mine) (but (site c (accepts h)) m.0),
        all_joined IsMetBut (if_there (accept_index_sites d (entry_named d.own h.entry.name)) h.index) _
            (subst (λ q. AllMetBut (if_there (accept_index_sites d q) h.index)) same (by_index h.index (old-option own (k + 1) h.index i.1) (all_front P (if_there (accept_index_sites c entry) h.index) _ m.1)))
            (formals-stay P but own c d alike.names h.formals (old-formals own h.formals (recursion_from_All (EveryFormal (own_rules own)) h.formals i.2)) (all_back P (if_there (accept_index_sites c entry) h.index) _ m.1)),
      )
    where
      by_index : (o : Option PExpr) → IfSome o (IsOldExpr own) → AllByRecursion P (if_there (accept_index_sites c (entry_named c.own h.entry.name)) o) → AllMetBut (if_there (accept_index_sites d (entry_named c.own h.entry.name)) o)
      by_index None p q = tt
      by_index (Some e) p q = index-stays P but own c d alike.names (entry_named c.own h.entry.name) e p q
