-- A selective wait in the normal form: both go alike through what its alternatives put in front of it, and find the same ones open.
use Rattle.std.proofs.Common.{◌≡◌, ℕ, ◌+◌, ◌<◌, ◌≤◌, ◌==◌, Bool, true, false, if◌then◌else◌, List, [], ◌∷◌, ◌++◌, length, Option, Some, None, option_map, Result, Ok, Err, refl, sym, ap, subst, ◌∙◌, arith, length-append}
use Rattle.std.specs.List.{AllByRecursion, fold}
use Rattle.ada_tree.specs.declared.naming.Span.{Span}
use Rattle.ada_tree.specs.declared.expressions.UnaryOp.TheVariants as unary
use Rattle.ada_tree.specs.declared.expressions.BinaryOp.TheVariants as binary
use Rattle.ada_tree.specs.PlainExpr.{PExpr, EBinary, PSubind}
use Rattle.ada_tree.specs.PlainStmt.{SWait, PStmts, no_stmt, PMaybe, absent, present, accepting, alternative, PAltKind, AAccept, ADelay, ATerminate, PAlts, no_alt, alt_then}
use Rattle.ada_tree.specs.PlainDecl.{PDecl}
use Rattle.ada_tree.specs.TypeTable.{TypeTable}
use Rattle.syn_event.specs.Numbering.{entry_at}
use Rattle.ada_value.specs.declared.values.Raised.{Raised}
use Rattle.ada_value.specs.declared.values.Raised.TheVariants as raised
use Rattle.ada_value.specs.declared.values.Value.{Value}
use Rattle.ada_value.specs.Values.{and_then, position_of, is_true_value, lies_in, truth_limits}
use Rattle.ada_value.specs.Variables.{Variables, object_named}
use Rattle.ada_value.specs.Evaluating.{name_value, evaluated, operated, signed_value}
use Rattle.task_model.specs.Setting.{Setting, entry_of, family_limits, index_in, member_index}
use Rattle.task_model.specs.Tasks.{stmts_or_none}
use Rattle.task_model.specs.Waits.{Open, Accepts, guard_holds, kind_opened, opened_if, delays_with, alternatives_open}
use Rattle.normal_model.specs.Names.{variable_name}
use Rattle.normal_model.specs.Ranges.{truth_subtype, subtype_of_range, family_range}
use Rattle.normal_model.specs.Making.{Kept, one, variable, kept_before, kept_subtypes, kept_if, moving, index_left}
use Rattle.normal_model.specs.Waits.{kind_left, under_guard, guarded_before, behind_guard, guard_subtypes, alternative_before, alternative_subtypes, guard_then, all_guards, not_held, closed_test, wait_image}
use Rattle.normal_model.specs.Walk.{Rewriter, after_alts, after_kind, after_accept, alts_leads, rewritten, inside_alts, inside_kind, inside_maybe, image_of}
use Rattle.normal_model.specs.NormalStmts.{normal_rewriter}
use Rattle.normal_model.proofs.Declared.{declared_length}
use Rattle.normal_model.proofs.VariablesLemmas.{Begins, OnlyAdds, maybe-begins, alts-begin, kind-begins, normal-adds}
use Rattle.task_laws.specs.translation.Translations.{Programs}
use Rattle.task_laws.specs.translation.OldNames.{OldOption, old_none, old_some}
use Rattle.task_laws.specs.translation.OldTexts.{OldKind, old_accepts, old_delays, old_terminates, OldAlts, old_no_alt, old_alt}
use Rattle.normal_laws.specs.runs.floors.Suited.{AreMade, Rewritten, rewritten_unit, asked_of}
use Rattle.normal_laws.specs.runs.floors.NormalLists.{Begin, behind_stmt}
use Rattle.normal_laws.specs.runs.floors.Preludes.{Added}
use Rattle.normal_laws.specs.runs.floors.Declared.{AreDeclared}
use Rattle.normal_laws.proofs.runs.floors.Cells.{named-set_other}
use Rattle.normal_laws.proofs.runs.floors.Declared.{begun-subtypes, subtypes-fit}
use Rattle.normal_laws.proofs.runs.floors.Rows.{part-begins}
use Rattle.normal_laws.proofs.runs.floors.Static.{moving-is}
use Rattle.collect_runs.specs.aborts.likeness.Likeness.{Ground, Goal, Beside, form, with_these, Near, Always, Skipped, Passes, PassesAlts, PassesMaybe}
use Rattle.collect_runs.proofs.aborts.likeness.Frames.{joined}
use Rattle.collect_runs.proofs.aborts.likeness.Near.{Agree, agree-stays}
use Rattle.collect_runs.proofs.aborts.likeness.Values.{worth, always-skips}
use Rattle.collect_runs.proofs.aborts.likeness.Preludes.{StableAt, assigns, assigns-skip}
use Rattle.collect_runs.proofs.aborts.likeness.Callees.{bool-is}

not-both : {c : Bool} → c ≡ true → c ≡ false → ⊥
not-both e f = cc

below-differs : (n k : ℕ) → n < k → (k == n) ≡ false
below-differs n k l = grind (arith, l)

module _ (w : Rewritten) (added : Added w.programs w.programs.original) (declared : AreDeclared w added) (made : AreMade w.programs) where
  abbrev x : Ground
  x = record { programs = w.programs; number = w.number; added = added }

  abbrev b : Programs
  b = w.programs

  abbrev g : Setting
  g = w.programs.original

  abbrev T : TypeTable
  T = (form x).types

  abbrev R : Rewriter (List PDecl)
  R = normal_rewriter (rewritten_unit w)

  adds : OnlyAdds R
  adds = normal-adds (rewritten_unit w)

  -- ---- what is known of an alternative behind what it puts in front

  -- the truth of the variable of this number
  abbrev truth_at : Variables → ℕ → Bool
  truth_at V n = is_true_value (name_value T (object_named V (variable_name g n)) (variable_name g n))

  abbrev AgreeIf : Option PExpr → ℕ → Goal
  AgreeIf None n V W = Unit {0}
  AgreeIf (Some d) n V W = Agree x V W (variable_name g n)

  -- the guard's variable is the same in both, and where it holds that of the index
  abbrev Ready : Option PExpr → Option PExpr → ℕ → Goal
  Ready None q n V W = AgreeIf q n V W
  Ready (Some e) q n V W = Agree x V W (variable_name g n) × (truth_at V n ≡ true → AgreeIf q (n + 1) V W)

  agree-if : (q : Option PExpr) (n k : ℕ) → StableAt x k (AgreeIf q n)
  agree-if None n k V W v near fits a = tt
  agree-if (Some d) n k V W v near fits a = agree-stays x (variable_name g k) v V W near (variable_name g n) a

  ready-stable : (guard q : Option PExpr) (n k : ℕ) → ((e : PExpr) → guard ≡ Some e → ((variable_name g k).0 == (variable_name g n).0) ≡ false) → StableAt x k (Ready guard q n)
  ready-stable None q n k away V W v near fits r = agree-if q n k V W v near fits r
  ready-stable (Some e) q n k away V W v near fits r = (
    agree-stays x (variable_name g k) v V W near (variable_name g n) r.0,
    λ t. agree-if q (n + 1) k V W v near fits
        (r.1 (ap (λ o. is_true_value (name_value T o (variable_name g n))) (sym (named-set_other V (variable_name g k) 0 v (variable_name g n) (away e refl))) ∙ t)),
  )

  -- how many variables it has
  abbrev has : Option PExpr → ℕ
  has None = 0
  has (Some e) = 1

  width-is : (s : Span) (guard : Option PExpr) (sub : PSubind) (q : Option PExpr) → length (guard_subtypes s guard ++ kept_subtypes (kept_if sub q)) ≡ has guard + has q
  width-is s None sub None = refl
  width-is s None sub (Some d) = refl
  width-is s (Some e) sub None = refl
  width-is s (Some e) sub (Some d) = refl

  -- ---- what may be left out

  kept-skip : (s : Span) (xs : List Kept) (n : ℕ) (K : Goal) → Skipped x K → Skipped x (Passes x (kept_before g s xs n) K)
  kept-skip s [] n K skip = skip
  kept-skip s (y ∷ ys) n K skip = assigns-skip x s n y.value (kept_before g s ys (n + 1)) K (kept-skip s ys (n + 1) K skip)

  under-skip : (s : Span) (xs : List Kept) (n : ℕ) (K : Goal) → Skipped x K → Skipped x (Passes x (under_guard (rewritten_unit w) s n xs) K)
  under-skip s [] n K skip = skip
  under-skip s (y ∷ ys) n K skip = λ U u. ((λ cells. record { same = λ c. refl; into = λ c q. kept-skip s (y ∷ ys) (n + 1) K skip U u; beyond = λ c q. skip U u }), skip)

  guarded-skip : (s : Span) (guard : Option PExpr) (xs : List Kept) (n : ℕ) (K : Goal) → Skipped x K → Skipped x (Passes x (guarded_before (rewritten_unit w) s guard xs n) K)
  guarded-skip s None xs n K skip = kept-skip s xs n K skip
  guarded-skip s (Some e) xs n K skip = assigns-skip x s n e (under_guard (rewritten_unit w) s n xs) K (under-skip s xs n K skip)

  leads-skip : (alts : PAlts) (t : List PDecl) (K : Goal) → Skipped x K → Skipped x (Passes x (alts_leads R alts t) K)
  leads-skip no_alt t K skip = skip
  leads-skip (alt_then (alternative guard what s) rest) t K skip = λ U u.
      joined x (alternative_before (rewritten_unit w) (alternative guard what s) (length t)) (alts_leads R rest (after_kind R what (R.entered_alternative t (alternative guard what s)))) K U U
      (guarded-skip s guard _ (length t) (Passes x (alts_leads R rest (after_kind R what (R.entered_alternative t (alternative guard what s)))) K) (leads-skip rest _ K skip) U u)

  -- ---- one alternative

  abbrev Ahead : ℕ → Goal → Type 0
  Ahead n F = (k : ℕ) → n ≤ k → k < added.count → StableAt x k F

  guarded-pass : (s : Span) {guard q : Option PExpr} (sub : PSubind) → OldOption b guard → OldOption b q → (n : ℕ) → n + (has guard + has q) ≤ added.count → (K F : Goal) → Ahead n F → Skipped x K →
      ((V W : Variables) → Near x V W → F V W → Ready guard q n V W → K V W) → (V W : Variables) → Near x V W → F V W → Passes x (guarded_before (rewritten_unit w) s guard (kept_if sub q) n) K V W
  guarded-pass s sub old_none old_none n fits K F ahead skip go V W near f = go V W near f tt
  guarded-pass s sub old_none (old_some d k) n fits K F ahead skip go V W near f =
      assigns x s n d no_stmt K F (ahead n (omega arith) (omega (arith, fits))) skip V W near (worth x V W near k) f (λ cells v q r n1 f1 a. go _ _ n1 f1 a)
  guarded-pass s sub (old_some e h) old_none n fits K F ahead skip go V W near f =
      assigns x s n e no_stmt K F (ahead n (omega arith) (omega (arith, fits))) skip V W near (worth x V W near h) f (λ cells v q r n1 f1 a. go _ _ n1 f1 (a, λ t. tt))
  guarded-pass s sub (old_some e h) (old_some d k) n fits K F ahead skip go V W near f =
      assigns x s n e (under_guard (rewritten_unit w) s n (kept_if sub (Some d))) K F (ahead n (omega arith) (omega (arith, fits))) (under-skip s (kept_if sub (Some d)) n K skip) V W near (worth x V W near h) f
      (λ cells v q r n1 f1 a. (
        (λ more. record {
          same = λ c. ap (λ o. Ok (is_true_value (name_value T o (variable_name g n)))) a;
          into = λ c t.
              assigns x s (n + 1) d no_stmt K (λ V1 W1. F V1 W1 × Agree x V1 W1 (variable_name g n))
              (λ V1 W1 u m z fa. (ahead (n + 1) (omega arith) (omega (arith, fits)) V1 W1 u m z fa.0, agree-stays x (variable_name g (n + 1)) u V1 W1 m (variable_name g n) fa.1))
              skip _ _ n1 (worth x _ _ n1 k) (f1, a) (λ cells2 v2 q2 r2 n2 fa a2. go _ _ n2 fa.0 (fa.1, λ t2. a2));
          beyond = λ c t. go _ _ n1 f1 (a, λ t2. absurd (not-both t2 (bool-is _ _ t)));
        }),
        skip,
      ))

  -- ---- indices

  abbrev index_of : PAltKind → Option PExpr
  index_of (AAccept (accepting head o) l) = moving g.types head.index
  index_of (ADelay d l) = None
  index_of ATerminate = None

  moving-old : (o : Option PExpr) → OldOption b o → OldOption b (moving g.types o)
  moving-old o h = go (moving g.types o) refl
    where
      go : (q : Option PExpr) → moving g.types o ≡ q → OldOption b q
      go None m = old_none
      go (Some e) m = subst (OldOption b) (moving-is b made o e m) h

  -- where the variables of an alternative are
  fit-there : (s : Span) (guard : Option PExpr) (what : PAltKind) (t : List PDecl) → Begin (after_kind R what (R.entered_alternative t (alternative guard what s))) w.vars →
      length t + length (alternative_subtypes (rewritten_unit w) (alternative guard what s)) ≤ added.count
  fit-there s guard what t bg =
      subtypes-fit b added (begun-subtypes w added declared s (alternative_subtypes (rewritten_unit w) (alternative guard what s)) t (part-begins w (kind-begins R adds what _) bg))

  width-there : (s : Span) (guard : Option PExpr) (what : PAltKind) → length (alternative_subtypes (rewritten_unit w) (alternative guard what s)) ≡ has guard + has (index_of what)
  width-there s guard (AAccept (accepting head o) l) =
      width-is s guard (subtype_of_range g.types s (family_range g (entry_of g.numbers w.first head.entry.name))) (moving g.types head.index)
  width-there s guard (ADelay d l) = width-is s guard (truth_subtype s) None
  width-there s guard ATerminate = width-is s guard (truth_subtype s) None

  begins-length : {xs ys : List PDecl} → Begins xs ys → length xs ≤ length ys
  begins-length {xs} {ys} h = let e : length ys ≡ length xs + length h.more = ap length h.joined ∙ length-append xs h.more in omega (arith, e)

  behind-there : (s : Span) (guard : Option PExpr) (what : PAltKind) (t : List PDecl) → length t + (has guard + has (index_of what)) ≤ length (after_kind R what (R.entered_alternative t (alternative guard what s)))
  behind-there s guard what t =
      let c = begins-length (kind-begins R adds what (R.entered_alternative t (alternative guard what s))) in
      let d : length (R.entered_alternative t (alternative guard what s)) ≡ length t + (has guard + has (index_of what)) =
      length-append t _ ∙ ap (λ k. length t + k) (declared_length g s (alternative_subtypes (rewritten_unit w) (alternative guard what s)) (length t) ∙ width-there s guard what) in
      subst (λ k. k ≤ length (after_kind R what (R.entered_alternative t (alternative guard what s)))) d c

  alt-pass : (s : Span) {guard : Option PExpr} {what : PAltKind} → OldOption b guard → OldKind (asked_of w) what → (n : ℕ) → n + (has guard + has (index_of what)) ≤ added.count → (K F : Goal) → Ahead n F → Skipped x K →
      ((V W : Variables) → Near x V W → F V W → Ready guard (index_of what) n V W → K V W) → (V W : Variables) → Near x V W → F V W →
      Passes x (alternative_before (rewritten_unit w) (alternative guard what s) n) K V W
  alt-pass s h (old_accepts head o l i a m j) n fits = guarded-pass s (subtype_of_range g.types s (family_range g (entry_of g.numbers w.first head.entry.name))) h (moving-old head.index i.index) n fits
  alt-pass s h (old_delays d l j) n fits = guarded-pass s (truth_subtype s) h old_none n fits
  alt-pass s h old_terminates n fits = guarded-pass s (truth_subtype s) h old_none n fits

  -- ---- all alternatives

  abbrev AltsReady : PAlts → List PDecl → Goal
  AltsReady no_alt t V W = Unit {0}
  AltsReady (alt_then (alternative guard what s) rest) t V W =
      Ready guard (index_of what) (length t) V W × AltsReady rest (after_kind R what (R.entered_alternative t (alternative guard what s))) V W

  has-some : (guard : Option PExpr) (e : PExpr) → guard ≡ Some e → has guard ≡ 1
  has-some guard e h = ap has h

  abbrev behind_one : Option PExpr → PAltKind → Span → List PDecl → List PDecl
  behind_one guard what s t = after_kind R what (R.entered_alternative t (alternative guard what s))

  leads-pass : {alts : PAlts} → OldAlts (asked_of w) alts → (t : List PDecl) → Begin (after_alts R alts t) w.vars → (K F : Goal) → Ahead (length t) F → Skipped x K →
      ((V W : Variables) → Near x V W → F V W → AltsReady alts t V W → K V W) → (V W : Variables) → Near x V W → F V W → Passes x (alts_leads R alts t) K V W
  leads-pass old_no_alt t bg K F ahead skip go V W near f = go V W near f tt
  leads-pass (old_alt guard what s rest h kind more) t bg K F ahead skip go V W near f =
      joined x (alternative_before (rewritten_unit w) (alternative guard what s) (length t)) (alts_leads R rest (behind_one guard what s t)) K V W
      (alt-pass s h kind (length t) fits (Passes x (alts_leads R rest (behind_one guard what s t)) K) F ahead (leads-skip rest (behind_one guard what s t) K skip)
      (λ V1 W1 n1 f1 r. leads-pass more (behind_one guard what s t) bg K (λ V2 W2. F V2 W2 × Ready guard (index_of what) (length t) V2 W2)
      (λ k le lt V2 W2 v n2 z fr. (ahead k (omega (arith, le, long)) lt V2 W2 v n2 z fr.0, ready-stable guard (index_of what) (length t) k (away k le lt) V2 W2 v n2 z fr.1)) skip
      (λ V2 W2 n2 fr a. go V2 W2 n2 fr.0 (fr.1, a)) V1 W1 n1 (f1, r)) V W near f)
    where
      fits : length t + (has guard + has (index_of what)) ≤ added.count
      fits = subst (λ k. length t + k ≤ added.count) (width-there s guard what) (fit-there s guard what t (part-begins w (alts-begin R adds rest (behind_one guard what s t)) bg))

      long : length t + (has guard + has (index_of what)) ≤ length (behind_one guard what s t)
      long = behind-there s guard what t

      away : (k : ℕ) → length (behind_one guard what s t) ≤ k → k < added.count → (e : PExpr) → guard ≡ Some e → ((variable_name g k).0 == (variable_name g (length t)).0) ≡ false
      away k le lt e q =
          let one : has guard ≡ 1 = has-some guard e q in
          added.apart k (length t) lt (omega (arith, one, fits)) (below-differs (length t) k (omega (arith, one, long, le)))

  -- ---- what is open

  module _ (V W : Variables) (near : Near x V W) where
    old-index : (e : ℕ) {o : Option PExpr} → OldOption b o → member_index (form x) W e o ≡ member_index (form x) V e o
    old-index e old_none = refl
    old-index e (old_some d k) = ap (λ r. and_then r (λ v. index_in (family_limits (entry_at (form x).numbers e)) (position_of v))) (worth x V W near k)

    index-same : (s : Span) (e m : ℕ) {o : Option PExpr} → OldOption b o → (q : Option PExpr) → AgreeIf q m V W → member_index (form x) W e (index_left g s m q o) ≡ member_index (form x) V e (index_left g s m q o)
    index-same s e m h None a = old-index e h
    index-same s e m h (Some d) a = ap (λ o1. index_in (family_limits (entry_at (form x).numbers e)) (position_of (name_value (form x).types o1 (variable_name g m)))) a

    kind-same : (c : Beside) (s : Span) (m j : ℕ) (t : List PDecl) {what : PAltKind} → OldKind (asked_of w) what → AgreeIf (index_of what) m V W →
        kind_opened (with_these x c W) (kind_left (rewritten_unit w) s (inside_kind R what t) m) j ≡ kind_opened (with_these x c V) (kind_left (rewritten_unit w) s (inside_kind R what t) m) j
    kind-same c s m j t (old_accepts head o l i a z y) r =
        ap (λ q. and_then q (λ k. Ok (Accepts (entry_of (form x).numbers w.number head.entry.name) k
        (record { entry = head.entry; index = index_left g s m (moving g.types head.index) head.index; formals = head.formals; span = head.span }) (stmts_or_none (inside_maybe R o t)) (rewritten R l (after_accept R (accepting head o) t)))))
        (index-same s (entry_of (form x).numbers w.number head.entry.name) m i.index (moving g.types head.index) r)
    kind-same c s m j t (old_delays d l y) r = refl
    kind-same c s m j t old_terminates r = refl

    module _ (a a' : Result Open Raised) (rs rs' : Result (List Open) Raised) (rest : rs' ≡ rs) where
      if-same : (d : Bool) → (d ≡ true → a' ≡ a) → opened_if d a' rs' ≡ opened_if d a rs
      if-same true h = ap (λ q. opened_if true q rs') (h refl) ∙ ap (λ q. opened_if true a q) rest
      if-same false h = rest

      held-same : (v : Value) (m : Bool) → (is_true_value v ≡ true → a' ≡ a) →
          and_then {A = Bool} {B = List Open} (and_then {A = Value} {B = Bool} (if m then Ok v else Err raised.Constraint) (λ z. Ok (is_true_value z))) (λ d. opened_if d a' rs')
          ≡ and_then (and_then (if m then Ok v else Err raised.Constraint) (λ z. Ok (is_true_value z))) (λ d. opened_if d a rs)
      held-same v true h = if-same (is_true_value v) h
      held-same v false h = refl

      guard-same : (c : Beside) (s : Span) (n : ℕ) (guard q : Option PExpr) → Ready guard q n V W → (AgreeIf q (behind_guard guard n) V W → a' ≡ a) →
          and_then (guard_holds (with_these x c W) (option_map (λ e. variable g s n) guard)) (λ d. opened_if d a' rs') ≡ and_then (guard_holds (with_these x c V) (option_map (λ e. variable g s n) guard)) (λ d. opened_if d a rs)
      guard-same c s n None q r h = if-same true (λ t. h r)
      guard-same c s n (Some e) q r h =
          ap (λ o. and_then (and_then (if lies_in truth_limits (position_of (name_value T o (variable_name g n))) then Ok (name_value T o (variable_name g n)) else Err raised.Constraint) (λ z. Ok (is_true_value z))) (λ d. opened_if d a' rs')) r.0
          ∙ held-same (name_value T (object_named V (variable_name g n)) (variable_name g n)) (lies_in truth_limits (position_of (name_value T (object_named V (variable_name g n)) (variable_name g n)))) (λ t. h (r.1 t))

    opens-same : {alts : PAlts} → OldAlts (asked_of w) alts → (t : List PDecl) → AltsReady alts t V W → (c : Beside) (j : ℕ) →
        alternatives_open (with_these x c W) (inside_alts R alts t) j ≡ alternatives_open (with_these x c V) (inside_alts R alts t) j
    opens-same old_no_alt t r c j = refl
    opens-same (old_alt guard what s rest h kind more) t r c j =
        guard-same _ _ _ _ (opens-same more _ r.1 c (delays_with (kind_left (rewritten_unit w) s (inside_kind R what (R.entered_alternative t (alternative guard what s))) (behind_guard guard (length t))) j))
        c s (length t) guard (index_of what) r.0 (λ a. kind-same c s (behind_guard guard (length t)) j (R.entered_alternative t (alternative guard what s)) kind a)

    -- ---- the test whether all are closed

    abbrev SameWorth : PExpr → Type 0
    SameWorth e = evaluated T W e ≡ evaluated T V e

    abbrev AllSame : Option (List PExpr) → Type 0
    AllSame None = Unit {0}
    AllSame (Some es) = AllByRecursion SameWorth es

    abbrev SameIf : Option PExpr → Type 0
    SameIf None = Unit {0}
    SameIf (Some e) = SameWorth e

    then-same : (e : Option PExpr) (r : Option (List PExpr)) → SameIf e → AllSame r → AllSame (guard_then e r)
    then-same None None h k = tt
    then-same None (Some es) h k = tt
    then-same (Some e) None h k = tt
    then-same (Some e) (Some es) h k = (h, k)

    guard-worth : (s : Span) (n : ℕ) (guard q : Option PExpr) → Ready guard q n V W → SameIf (option_map (λ e. variable g s n) guard)
    guard-worth s n None q r = tt
    guard-worth s n (Some e) q r = ap (λ o. Ok (name_value T o (variable_name g n))) r.0

    guards-same : (alts : PAlts) (t : List PDecl) → AltsReady alts t V W → AllSame (all_guards (inside_alts R alts t))
    guards-same no_alt t r = tt
    guards-same (alt_then (alternative guard what s) rest) t r = then-same _ _ (guard-worth s (length t) guard (index_of what) r.0) (guards-same rest _ r.1)

    none-same : (s : Span) (es : List PExpr) (e : PExpr) → SameWorth e → AllByRecursion SameWorth es → SameWorth (fold (λ test d. EBinary binary.And test (not_held s d) s) e es)
    none-same s [] e h k = h
    none-same s (d ∷ ds) e h k =
        none-same s ds (EBinary binary.And e (not_held s d) s)
        (ap (λ a. operated binary.And a (evaluated T W (not_held s d))) h ∙ ap (λ a. operated binary.And (evaluated T V e) (and_then a (λ v. signed_value unary.Not v))) k.0) k.1

    closed-pass : (s : Span) (o : PMaybe) (gs : Option (List PExpr)) → AllSame gs → (K : Goal) → Skipped x K → K V W → Passes x (closed_test s o gs) K V W
    closed-pass s (present l) gs h K skip k = k
    closed-pass s absent None h K skip k = k
    closed-pass s absent (Some []) h K skip k = k
    closed-pass s absent (Some (e ∷ es)) h K skip k = (
      (λ cells. record {
        same = λ c. ap (λ r. and_then r (λ v. Ok (is_true_value v))) (none-same s es (not_held s e) (ap (λ r. and_then r (λ v. signed_value unary.Not v)) h.0) h.1);
        into = λ c q. ((λ more. tt), skip);
        beyond = λ c q. k;
      }),
      skip,
    )

  -- ---- the wait

  all-self : (U : Variables) (u : Near x U U) (es : List PExpr) → AllByRecursion (SameWorth U U u) es
  all-self U u [] = tt
  all-self U u (e ∷ es) = (refl, all-self U u es)

  self-same : (U : Variables) (u : Near x U U) (gs : Option (List PExpr)) → AllSame U U u gs
  self-same U u None = tt
  self-same U u (Some es) = all-self U u es

  module _ (alts : PAlts) (o : PMaybe) (s : Span) (old : OldAlts (asked_of w) alts) (t : List PDecl) (bg : Begin (behind_stmt w (SWait alts o s) t) w.vars) (K : Goal) (all : Always x K)
      (inside : (V W : Variables) → Near x V W → PassesAlts x (inside_alts R alts t) K V W) (otherwise : (V W : Variables) → Near x V W → PassesMaybe x (inside_maybe R o (after_alts R alts t)) K V W) where
    abbrev alts1 : PAlts
    alts1 = inside_alts R alts t

    abbrev o1 : PMaybe
    o1 = inside_maybe R o (after_alts R alts t)

    abbrev image : PStmts
    image = wait_image s alts1 o1

    itself : (V1 W1 : Variables) → Near x V1 W1 → ((c : Beside) → alternatives_open (with_these x c W1) alts1 0 ≡ alternatives_open (with_these x c V1) alts1 0) → Passes x (one (SWait alts1 o1 s)) K V1 W1
    itself V1 W1 n1 found = ((λ cells. (found, (inside V1 W1 n1, (otherwise V1 W1 n1, all)))), always-skips x K all)

    behind : (V1 W1 : Variables) (n1 : Near x V1 W1) → AllSame V1 W1 n1 (all_guards alts1) → ((c : Beside) → alternatives_open (with_these x c W1) alts1 0 ≡ alternatives_open (with_these x c V1) alts1 0) → Passes x image K V1 W1
    behind V1 W1 n1 same found =
        joined x (closed_test s o1 (all_guards alts1)) (one (SWait alts1 o1 s)) K V1 W1
        (closed-pass V1 W1 n1 s o1 (all_guards alts1) same (Passes x (one (SWait alts1 o1 s)) K) (λ U u. itself U U u (λ c. refl)) (itself V1 W1 n1 found))

    pub waits : Always x (Passes x (image_of R (SWait alts o s) t) K)
    waits V W near =
        joined x (alts_leads R alts t) image K V W
        (leads-pass old t (part-begins w (maybe-begins R adds o _) bg) (Passes x image K) (λ V1 W1. Unit {0}) (λ k le lt V1 W1 v m z f. tt) (λ U u. behind U U u (self-same U u (all_guards alts1)) (λ c. refl))
        (λ V1 W1 n1 f r. behind V1 W1 n1 (guards-same V1 W1 n1 alts t r) (λ c. opens-same V1 W1 n1 old t r c 0)) V W near tt)
