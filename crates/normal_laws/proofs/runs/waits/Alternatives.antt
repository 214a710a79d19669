-- The alternatives of a selective wait, one and then all of them: guards and indexes go to their variables, alternative by alternative, and the same
-- alternatives are open.
use Rattle.std.proofs.Common.{◌≡◌, ℕ, ◌+◌, ◌≤◌, ℤ, Bool, true, false, if◌then◌else◌, List, [], ◌∷◌, length, Option, Some, None, option_map, Result, Ok, Err, refl, sym, ap, subst, ◌∙◌, arith, ◌++◌, length-append}
use Rattle.std.specs.Prelude.{is_some}
use Rattle.std.proofs.lemmas.List.{length-map}
use Rattle.ada_tree.specs.declared.naming.Span.{Span}
use Rattle.ada_tree.specs.PlainExpr.{PExpr, PSubind}
use Rattle.ada_tree.specs.PlainDecl.{PDecl}
use Rattle.ada_tree.specs.PlainStmt.{PHead, PStmts, no_stmt, stmt_then, PMaybe, absent, present, accepting, alternative, PAltKind, AAccept, ADelay, ATerminate, PAlts, alt_then}
use Rattle.syn_event.specs.Numbering.{entry_at}
use Rattle.ada_value.specs.declared.values.Value.{Value}
use Rattle.ada_value.specs.declared.values.Raised.{Raised}
use Rattle.ada_value.specs.declared.values.Raised.TheVariants as raised
use Rattle.ada_value.specs.Values.{and_then, checked, truth_limits, lies_in, position_of, is_true_value}
use Rattle.ada_value.specs.Variables.{Variables}
use Rattle.ada_value.specs.Evaluating.{evaluated}
use Rattle.task_model.specs.Setting.{Setting, entry_of, family_limits, member_index}
use Rattle.task_model.specs.Frames.{Around, PFrame, control, in_front}
use Rattle.task_model.specs.Tasks.{Task, gone_to, entered, stmts_or_none, or_raised}
use Rattle.task_model.specs.Waits.{Open, Accepts, Delays, Terminates, guard_holds, kind_opened, opened_if, delays_with, alternatives_open}
use Rattle.normal_model.specs.Names.{variable_name}
use Rattle.normal_model.specs.Ranges.{truth_subtype, subtype_of_range, family_range}
use Rattle.normal_model.specs.Making.{Kept, kept_before, kept_subtypes, kept_if, moving, variable}
use Rattle.normal_model.specs.Waits.{accept_kept, head_left, kind_kept, kind_left, under_guard, alternative_before, behind_guard, alternative_subtypes, guard_then, all_guards}
use Rattle.normal_model.specs.Walk.{after_kind, after_maybe, after_accept, rewritten, inside_maybe, inside_kind, Rewriter, after_alts, alts_leads, inside_alts}
use Rattle.normal_model.specs.NormalStmts.{normal_rewriter}
use Rattle.normal_model.proofs.VariablesLemmas.{normal-adds, stmts-begin, Begins, kind-begins, alts-begin}
use Rattle.task_laws.specs.translation.Translations.{Programs, Translation, types_after}
use Rattle.task_laws.specs.translation.OldNames.{OldExpr, OldOption, old_none, old_some}
use Rattle.task_laws.specs.translation.OldTexts.{OldFormals, OldHead, OldMaybe, old_absent, old_present, OldKind, old_accepts, old_delays, old_terminates, OldAlts, old_no_alt, old_alt}
use Rattle.task_laws.specs.translation.Images.{IsSomething, something_there}
use Rattle.task_laws.specs.translation.Controls.{task_in, Under}
use Rattle.task_laws.specs.translation.Floors.{IsTranslation}
use Rattle.normal_laws.specs.runs.floors.Suited.{SameRange, declared_limits, AreMade, IsHead, Rewritten, rewritten_unit, asked_of}
use Rattle.normal_laws.specs.runs.floors.NormalLists.{Begin, Normal, normal_none, normal_lists}
use Rattle.normal_laws.specs.runs.floors.NormalFloors.{normal}
use Rattle.normal_laws.specs.runs.floors.Preludes.{Reaches, reaches_here, IsCell, Added, AreThere, due_before, due_worth, old_due, old_no_due, Hold, hold_value, Prelude, given, stopped}
use Rattle.normal_laws.specs.runs.floors.Declared.{AreDeclared, HaveSubtypes, subtype_then, dues_of}
use Rattle.normal_laws.proofs.runs.floors.Rows.{part-begins, walked, normal-images}
use Rattle.normal_laws.proofs.runs.floors.Floors.{normal-translates}
use Rattle.normal_laws.proofs.runs.floors.Actuals.{held-value}
use Rattle.normal_laws.proofs.runs.floors.Cells.{cell-kept}
use Rattle.normal_laws.proofs.runs.floors.Preludes.{reaches_to}
use Rattle.normal_laws.proofs.runs.floors.Declared.{subtypes-fit, subtypes-second, kept-length, begun-subtypes}
use Rattle.normal_laws.proofs.runs.floors.Static.{moving-is, entry-named}
use Rattle.normal_laws.proofs.runs.callees.Choosing.{one-due, reaches-behind}
use Rattle.normal_laws.proofs.runs.waits.Indexes.{SameBelow, RaisesAt, MeetsIndex, index_made, index_raises, index-comes, values-made}
use Rattle.normal_model.specs.Variables.{variables_declared}
use Rattle.normal_model.proofs.WalkLemmas.{in_front-joined}
use Rattle.normal_model.proofs.Declared.{declared_length}

-- open alternatives that go together: they accept the same member with the same formals, or are the same delay or terminate, with images of the statements
pub data OpenAlike (w : Rewritten) : Open → Open → Type 0 where
  accepts_alike : (e : ℕ) (z : ℤ) (h h' : PHead) (l l' d d' : PStmts) → h.formals ≡ h'.formals → OldFormals w.programs h.formals → Normal w l l' → Normal w d d' → OpenAlike w (Accepts e z h l d) (Accepts e z h' l' d')
  delays_alike : (k d : ℕ) (l l' : PStmts) → Normal w l l' → OpenAlike w (Delays k d l) (Delays k d l')
  terminate_alike : OpenAlike w Terminates Terminates

pub data MaybeOpen (w : Rewritten) : Option Open → Option Open → Type 0 where
  none_open : MaybeOpen w None None
  some_open : (o o' : Open) → OpenAlike w o o' → MaybeOpen w (Some o) (Some o')

pub data OpensAlike (w : Rewritten) : List Open → List Open → Type 0 where
  no_opens : OpensAlike w [] []
  open_more : (o o' : Open) (os os' : List Open) → OpenAlike w o o' → OpensAlike w os os' → OpensAlike w (o ∷ os) (o' ∷ os')

-- ---- one alternative in front of others

abbrev pub open_if : Bool → Result Open Raised → Result (Option Open) Raised
open_if true r = and_then r (λ o. Ok (Some o))
open_if false r = Ok None

abbrev pub alt_open : Task → Option PExpr → PAltKind → ℕ → Result (Option Open) Raised
alt_open t guard what k = and_then (guard_holds t guard) (λ q. open_if q (kind_opened t what k))

abbrev pub open_then : Option Open → List Open → List Open
open_then None os = os
open_then (Some o) os = o ∷ os

pub open-split : (gr : Result Bool Raised) (kr : Result Open Raised) (rest : Result (List Open) Raised) →
    and_then gr (λ q. opened_if q kr rest) ≡ and_then (and_then gr (λ q. open_if q kr)) (λ ro. and_then rest (λ os. Ok (open_then ro os)))
open-split (Err a) kr rest = refl
open-split (Ok true) (Err a) rest = refl
open-split (Ok true) (Ok o) rest = refl
open-split (Ok false) kr (Ok os) = refl
open-split (Ok false) kr (Err a) = refl

-- ---- all alternatives

-- the guards tell which alternatives are open: those whose variable holds TRUE
pub data AreTold (h : Setting) (W : Variables) : List PExpr → List Open → Type 0 where
  none_told : AreTold h W [] []
  open_told : (e : PExpr) (v : Value) (op : Open) (es : List PExpr) (ops : List Open) → evaluated h.types W e ≡ Ok v → is_true_value v ≡ true → AreTold h W es ops → AreTold h W (e ∷ es) (op ∷ ops)
  closed_told : (e : PExpr) (v : Value) (es : List PExpr) (ops : List Open) → evaluated h.types W e ≡ Ok v → is_true_value v ≡ false → AreTold h W es ops → AreTold h W (e ∷ es) ops

begins-length : {A : Type 0} {xs ys : List A} → Begins xs ys → length xs ≤ length ys
begins-length {xs = xs} {ys = ys} c =
    let e : length ys ≡ length (xs ++ c.more) = ap length c.joined in
    let f : length (xs ++ c.more) ≡ length xs + length c.more = length-append xs c.more in
    omega arith

some-list : (a c : List PExpr) → Some a ≡ Some c → a ≡ c
some-list a c e = cc

module _ (w : Rewritten) (made : AreMade w.programs) (added : Added w.programs w.programs.original) (declared : AreDeclared w added) (m : ℕ) (number : m ≡ w.number) (i : List ℤ) (out : List ℕ)
    (p p' : Around) (o o' : List PFrame) (V : Variables) (here there : PStmts) where
  abbrev x : Translation
  x = normal (normal_lists w) added

  abbrev laws : IsTranslation x
  laws = normal-translates (normal_lists w) (normal-images w) made.types added

  abbrev b : Programs
  b = w.programs

  abbrev g : Setting
  g = w.programs.original

  abbrev h : Setting
  h = w.programs.made

  abbrev left : Task
  left = task_in g m i out (control here p o V)

  abbrev right : PStmts → Variables → Task
  right r W = task_in h m i out (control r p' o' W)

  abbrev In : Variables → Type 0
  In W = Under x p o V p' o' W

  abbrev Same : ℕ → Variables → Variables → Type 0
  Same = SameBelow x laws made added m i out p p' o o' V

  abbrev Raising : Task → Raised → Type 0
  Raising from a = RaisesAt x laws made added m i out p p' o o' V from a

  -- ---- accepts, delays and terminates

  pub maybe-image : {a : PMaybe} → OldMaybe (asked_of w) a → (t : List PDecl) → Begin (after_maybe (normal_rewriter (rewritten_unit w)) a t) w.vars →
      Normal w (stmts_or_none a) (stmts_or_none (inside_maybe (normal_rewriter (rewritten_unit w)) a t))
  maybe-image old_absent t begins = normal_none
  maybe-image (old_present l old) t begins = walked w old t begins

  pub data MeetsKind (from : Task) (goal : PStmts) (what what' : PAltKind) (k n later : ℕ) (W : Variables) : Type 0 where
    kind_made : (op op' : Open) (W1 : Variables) → kind_opened left what k ≡ Ok op → ((W2 : Variables) → In W2 → Same later W1 W2 → kind_opened (right there W2) what' k ≡ Ok op') → OpenAlike w op op' →
        In W1 → AreThere added W1 → Reaches from (right goal W1) → Same n W W1 → MeetsKind from goal what what' k n later W
    kind_raises : (a : Raised) → kind_opened left what k ≡ Err a → Raising from a → MeetsKind from goal what what' k n later W

  -- the entry of a head, by the numbers of both
  entry-here : (q : PHead) → entry_of h.numbers m q.entry.name ≡ entry_of g.numbers m q.entry.name
  entry-here q = entry-named b made m q.entry.name

  -- what an accept opens, by what its index comes to
  abbrev opened_with : ℕ → PHead → PStmts → PStmts → Result ℤ Raised → Result Open Raised
  opened_with e q body behind r = and_then r (λ z. Ok (Accepts e z q body behind))

  -- the range of the variable of an accept's index
  index-range : (s : Span) (q : PHead) → IsHead b w.first w.number q → (k : ℕ) → HaveSubtypes b added (kept_subtypes (accept_kept (rewritten_unit w) s q)) k → (d : PExpr) → moving g.types q.index ≡ Some d →
      SameRange (family_limits (entry_at g.numbers (entry_of g.numbers m q.entry.name))) (added.bounds k)
  index-range s q head k subtypes d mv z =
      let e : entry_of g.numbers m q.entry.name ≡ entry_of g.numbers w.number q.entry.name = ap (λ t. entry_of g.numbers t q.entry.name) number in
      ap (λ t. lies_in (family_limits (entry_at g.numbers t)) z) e
      ∙ made.families (entry_of g.numbers w.number q.entry.name) (head.family d (moving-is b made q.index d mv)) s z
      ∙ ap (λ r. lies_in (declared_limits (types_after b) (subtype_of_range g.types s r)) z) (sym head.range)
      ∙ ap (λ l. lies_in l z) (sym (bound (moving g.types q.index) subtypes d mv))
    where
      bound : (mv : Option PExpr) → HaveSubtypes b added (kept_subtypes (kept_if (subtype_of_range g.types s (family_range g (entry_of g.numbers w.first q.entry.name))) mv)) k → (d : PExpr) → mv ≡ Some d →
          added.bounds k ≡ declared_limits (types_after b) (subtype_of_range g.types s (family_range g (entry_of g.numbers w.first q.entry.name)))
      bound None h1 d f = cc
      bound (Some c) (subtype_then y ys k1 l1 eq more) d f = eq

  kept-one : (s : Span) (y : PSubind) (mv : Option PExpr) (k : ℕ) → kept_before g s (kept_if y mv) k ≡ due_before g s (dues_of mv) k
  kept-one s y None k = refl
  kept-one s y (Some d) k = refl

  -- the index of an accept's head
  pub head-comes : (s : Span) {goal : PStmts} → IsSomething goal → (q : PHead) → OldHead b q → IsHead b w.first w.number q → (k : ℕ) → HaveSubtypes b added (kept_subtypes (accept_kept (rewritten_unit w) s q)) k →
      (W : Variables) → In W → AreThere added W →
      MeetsIndex x laws made added m i out p p' o o' V (right (in_front (kept_before g s (accept_kept (rewritten_unit w) s q) k) goal) W) goal (entry_of g.numbers m q.entry.name) q.index
      (head_left (rewritten_unit w) s q k).index k (k + length (dues_of (moving g.types q.index))) W
  head-comes s {goal} row q old head k subtypes W u still =
      let y : PSubind = subtype_of_range g.types s (family_range g (entry_of g.numbers w.first q.entry.name)) in
      let e : entry_of g.numbers w.number q.entry.name ≡ entry_of g.numbers m q.entry.name = ap (λ t. entry_of g.numbers t q.entry.name) (sym number) in
      let l1 : k + length (kept_subtypes (accept_kept (rewritten_unit w) s q)) ≤ added.count = subtypes-fit b added subtypes in
      let l2 : length (kept_subtypes (accept_kept (rewritten_unit w) s q)) ≡ length (accept_kept (rewritten_unit w) s q) = length-map (accept_kept (rewritten_unit w) s q) (λ a. a.subtype) in
      let l3 : length (accept_kept (rewritten_unit w) s q) ≡ length (dues_of (moving g.types q.index)) = kept-length y (moving g.types q.index) in
      subst (λ r. MeetsIndex x laws made added m i out p p' o o' V (right (in_front r goal) W) goal (entry_of g.numbers m q.entry.name) q.index (head_left (rewritten_unit w) s q k).index k
      (k + length (dues_of (moving g.types q.index))) W) (sym (kept-one s y (moving g.types q.index) k))
      (index-comes x laws made added m i out p p' o o' V s row (entry_of g.numbers m q.entry.name) q.index old.index (moving g.types q.index) refl
      (λ f. let z = head.known f in (z.0, ap (λ t. member_index g [] t q.index) (sym e) ∙ z.1)) k (λ d f. index-range s q head k subtypes d f) (omega arith) W u still)

  abbrev walk-image : PStmts → List PDecl → PStmts
  walk-image l t = rewritten (normal_rewriter (rewritten_unit w)) l t

  pub same-less : (k n : ℕ) → k ≤ n → (W W1 : Variables) → Same n W W1 → Same k W W1
  same-less k n l W W1 same j m1 = same j (omega (arith, l, m1))

  pub same-then : (k n : ℕ) → k ≤ n → (W W1 W2 : Variables) → Same k W W1 → Same n W1 W2 → Same k W W2
  same-then k n l W W1 W2 a c j m1 = c j (omega (arith, l, m1)) ∙ a j m1

  kind-comes : (s : Span) {goal : PStmts} → IsSomething goal → {what : PAltKind} → OldKind (asked_of w) what → (t : List PDecl) → Begin (after_kind (normal_rewriter (rewritten_unit w)) what t) w.vars → (k n : ℕ) →
      HaveSubtypes b added (kept_subtypes (kind_kept (rewritten_unit w) s what)) n → (W : Variables) → In W → AreThere added W →
      MeetsKind (right (in_front (kept_before g s (kind_kept (rewritten_unit w) s what) n) goal) W) goal what (kind_left (rewritten_unit w) s (inside_kind (normal_rewriter (rewritten_unit w)) what t) n) k n
      (n + length (kind_kept (rewritten_unit w) s what)) W
  kind-comes s {goal} row (old_accepts q a l hd ask ma ls) t begins k n subtypes W u still = go (head-comes s row q hd ask n subtypes W u still)
    where
      e : ℕ
      e = entry_of g.numbers m q.entry.name

      q' : PHead
      q' = head_left (rewritten_unit w) s q n

      body' : PStmts
      body' = stmts_or_none (inside_maybe (normal_rewriter (rewritten_unit w)) a t)

      behind' : PStmts
      behind' = walk-image l (after_accept (normal_rewriter (rewritten_unit w)) (accepting q a) t)

      y : PSubind
      y = subtype_of_range g.types s (family_range g (entry_of g.numbers w.first q.entry.name))

      later : n + length (accept_kept (rewritten_unit w) s q) ≡ n + length (dues_of (moving g.types q.index))
      later = ap (λ j. n + j) (kept-length y (moving g.types q.index))

      images : (z : ℤ) → OpenAlike w (Accepts e z q (stmts_or_none a) l) (Accepts e z q' body' behind')
      images z = accepts_alike e z q q' (stmts_or_none a) body' l behind' refl hd.formals
          (maybe-image ma t (part-begins w (stmts-begin (normal_rewriter (rewritten_unit w)) (normal-adds (rewritten_unit w)) l _) begins)) (walked w ls _ begins)

      go : MeetsIndex x laws made added m i out p p' o o' V (right (in_front (kept_before g s (accept_kept (rewritten_unit w) s q) n) goal) W) goal e q.index q'.index n (n + length (dues_of (moving g.types q.index))) W →
          MeetsKind (right (in_front (kept_before g s (accept_kept (rewritten_unit w) s q) n) goal) W) goal (AAccept (accepting q a) l)
          (kind_left (rewritten_unit w) s (inside_kind (normal_rewriter (rewritten_unit w)) (AAccept (accepting q a) l) t) n) k n (n + length (accept_kept (rewritten_unit w) s q)) W
      go (index_made z W1 res again u1 still1 reach same) =
          kind_made (Accepts e z q (stmts_or_none a) l) (Accepts e z q' body' behind') W1 (ap (opened_with e q (stmts_or_none a) l) res)
          (λ W2 u2 below. ap (λ e1. opened_with e1 q' body' behind' (member_index h W2 e1 q'.index)) (entry-here q)
          ∙ ap (opened_with e q' body' behind') (again W2 u2 (subst (λ j. Same j W1 W2) later below)))
          (images z) u1 still1 reach same
      go (index_raises r res stop) = kind_raises r (ap (opened_with e q (stmts_or_none a) l) res) stop
  kind-comes s {goal} row (old_delays d l ls) t begins k n subtypes W u still =
      kind_made (Delays (k + 1) d l) (Delays (k + 1) d (walk-image l t)) W refl (λ W2 u2 below. refl) (delays_alike (k + 1) d l (walk-image l t) (walked w ls t begins)) u still (reaches_here (right goal W)) (λ j m1. refl)
  kind-comes s {goal} row old_terminates t begins k n subtypes W u still =
      kind_made Terminates Terminates W refl (λ W2 u2 below. refl) terminate_alike u still (reaches_here (right goal W)) (λ j m1. refl)

  -- ---- one alternative

  -- a guard's variable tells whether the alternative is open
  abbrev pub GuardTold : Option PExpr → Span → ℕ → ℕ → Variables → Option Open → Type 0
  GuardTold guard s n later W1 ro = (e : PExpr) → guard ≡ Some e → (W2 : Variables) → Same later W1 W2 → (v : Value) × (evaluated h.types W2 (variable g s n) ≡ Ok v) × (is_true_value v ≡ is_some ro)

  pub data MeetsAlt (from : Task) (goal : PStmts) (guard guard' : Option PExpr) (what what' : PAltKind) (s : Span) (k n later : ℕ) (W : Variables) : Type 0 where
    alt_made : (ro ro' : Option Open) (W1 : Variables) → alt_open left guard what k ≡ Ok ro → ((W2 : Variables) → In W2 → Same later W1 W2 → alt_open (right there W2) guard' what' k ≡ Ok ro') → MaybeOpen w ro ro' →
        GuardTold guard s n later W1 ro → In W1 → AreThere added W1 → Reaches from (right goal W1) → Same n W W1 → MeetsAlt from goal guard guard' what what' s k n later W
    alt_raises : (a : Raised) → alt_open left guard what k ≡ Err a → Raising from a → MeetsAlt from goal guard guard' what what' s k n later W

  pub row-behind : (a : PStmts) {r : PStmts} → IsSomething r → IsSomething (in_front a r)
  row-behind no_stmt q = q
  row-behind (stmt_then c l) q = something_there c _

  -- ---- under a guard

  abbrev guard_if : Span → ℕ → List Kept → PStmts → Variables → Task
  guard_if s n kept goal W = right (in_front (under_guard (rewritten_unit w) s n kept) goal) W

  -- the index is made where the guard holds
  guard-true : (s : Span) (n : ℕ) (kept : List Kept) {goal : PStmts} → IsSomething goal → (W : Variables) (v : Value) → evaluated h.types W (variable g s n) ≡ Ok v → is_true_value v ≡ true →
      Reaches (guard_if s n kept goal W) (right (in_front (kept_before g s kept (n + 1)) goal) W)
  guard-true s n [] row W v e t = reaches_here _
  guard-true s n (y ∷ ys) {goal} row W v e t =
      reaches_to refl
      (ap (λ r. or_raised (λ branch. entered (stmts_or_none branch) goal (guard_if s n (y ∷ ys) goal W)) (guard_if s n (y ∷ ys) goal W)
      (and_then (and_then r (λ a. Ok (is_true_value a))) (λ q. if q then Ok (present (kept_before g s (y ∷ ys) (n + 1))) else Ok absent))) e
      ∙ ap (λ q. or_raised (λ branch. entered (stmts_or_none branch) goal (guard_if s n (y ∷ ys) goal W)) (guard_if s n (y ∷ ys) goal W)
      (if q then Ok (present (kept_before g s (y ∷ ys) (n + 1))) else Ok absent)) t) refl (reaches_here _)

  gone-row : {goal : PStmts} → IsSomething goal → (first : PStmts) (W : Variables) → gone_to goal (right first W) ≡ right goal W
  gone-row (something_there c l) first W = refl

  guard-false : (s : Span) (n : ℕ) (kept : List Kept) {goal : PStmts} → IsSomething goal → (W : Variables) (v : Value) → evaluated h.types W (variable g s n) ≡ Ok v → is_true_value v ≡ false →
      Reaches (guard_if s n kept goal W) (right goal W)
  guard-false s n [] row W v e t = reaches_here _
  guard-false s n (y ∷ ys) {goal} row W v e t =
      reaches_to refl
      (ap (λ r. or_raised (λ branch. entered (stmts_or_none branch) goal (guard_if s n (y ∷ ys) goal W)) (guard_if s n (y ∷ ys) goal W)
      (and_then (and_then r (λ a. Ok (is_true_value a))) (λ q. if q then Ok (present (kept_before g s (y ∷ ys) (n + 1))) else Ok absent))) e
      ∙ ap (λ q. or_raised (λ branch. entered (stmts_or_none branch) goal (guard_if s n (y ∷ ys) goal W)) (guard_if s n (y ∷ ys) goal W)
      (if q then Ok (present (kept_before g s (y ∷ ys) (n + 1))) else Ok absent)) t
      ∙ gone-row row (in_front (under_guard (rewritten_unit w) s n (y ∷ ys)) goal) W) refl (reaches_here _)

  -- ---- the whole alternative

  -- what is made of a kind behind its guard
  alt-of_kind : (s : Span) {goal : PStmts} (guard guard' : Option PExpr) (what what' : PAltKind) (k n n1 later : ℕ) (from : Task) (W W0 : Variables) → n ≤ n1 → n1 ≤ later →
      guard_holds left guard ≡ Ok true → ((W2 : Variables) → In W2 → Same n1 W0 W2 → guard_holds (right there W2) guard' ≡ Ok true) →
      ((op : Open) (W1 : Variables) → Same n1 W0 W1 → GuardTold guard s n later W1 (Some op)) → Same n W W0 → (mid : Task) → Reaches from mid →
      MeetsKind mid goal what what' k n1 later W0 → MeetsAlt from goal guard guard' what what' s k n later W
  alt-of_kind s guard guard' what what' k n n1 later from W W0 l1 l2 holds holds' told same0 mid first (kind_made op op' W1 res again alike u still reach same) =
      alt_made (Some op) (Some op') W1 (ap (λ r. and_then r (λ q. open_if q (kind_opened left what k))) holds ∙ ap (λ r. and_then r (λ c. Ok (Some c))) res)
      (λ W2 u2 below. ap (λ r. and_then r (λ q. open_if q (kind_opened (right there W2) what' k))) (holds' W2 u2 (same-then n1 later l2 W0 W1 W2 same below))
      ∙ ap (λ r. and_then r (λ c. Ok (Some c))) (again W2 u2 below))
      (some_open op op' alike) (told op W1 same) u still (reaches-behind first reach) (same-then n n1 l1 W W0 W1 same0 same)
  alt-of_kind s guard guard' what what' k n n1 later from W W0 l1 l2 holds holds' told same0 mid first (kind_raises a res stop) =
      alt_raises a (ap (λ r. and_then r (λ q. open_if q (kind_opened left what k))) holds ∙ ap (λ r. and_then r (λ c. Ok (Some c))) res)
      (record { rest = stop.rest; vars = stop.vars; under = stop.under; reach = reaches-behind first stop.reach; stands = stop.stands; stop = stop.stop })

  -- a guard's value, checked as its variable checks it
  guard-value : (v : Value) → lies_in truth_limits (position_of v) ≡ true → (r : Result Value Raised) → r ≡ Ok v → and_then r (λ a. and_then (checked truth_limits a) (λ c. Ok (is_true_value c))) ≡ Ok (is_true_value v)
  guard-value v lies r e =
      ap (λ q. and_then q (λ a. and_then (checked truth_limits a) (λ c. Ok (is_true_value c)))) e
      ∙ ap (λ t. and_then (if t then Ok v else Err raised.Constraint) (λ c. Ok (is_true_value c))) lies

  -- the truth of the first value
  abbrev first_truth : List (Option Value) → Bool
  first_truth [] = false
  first_truth (None ∷ vs) = false
  first_truth (Some v ∷ vs) = is_true_value v

  module _ (s : Span) (goal : PStmts) (row : IsSomething goal) (what : PAltKind) (old : OldKind (asked_of w) what) (t : List PDecl) (begins : Begin (after_kind (normal_rewriter (rewritten_unit w)) what t) w.vars) (k n : ℕ) where
    abbrev kept : List Kept
    kept = kind_kept (rewritten_unit w) s what

    abbrev what_left : ℕ → PAltKind
    what_left j = kind_left (rewritten_unit w) s (inside_kind (normal_rewriter (rewritten_unit w)) what t) j

    no-guard : HaveSubtypes b added (alternative_subtypes (rewritten_unit w) (alternative None what s)) n → (W : Variables) → In W → AreThere added W →
        MeetsAlt (right (in_front (alternative_before (rewritten_unit w) (alternative None what s) n) goal) W) goal None None what (what_left n) s k n (n + length kept) W
    no-guard subtypes W u still =
        alt-of_kind s None None what (what_left n) k n n (n + length kept) (right (in_front (kept_before g s kept n) goal) W) W W (omega arith) (omega arith) refl (λ W2 u2 below. refl) (λ op W1 below e f. absurd (let none : ⊥ = cc in none))
        (λ j m1. refl) (right (in_front (kept_before g s kept n) goal) W) (reaches_here _) (kind-comes s row old t begins k n subtypes W u still)

    guarded : (e : PExpr) → OldExpr b e → HaveSubtypes b added (alternative_subtypes (rewritten_unit w) (alternative (Some e) what s)) n → (W : Variables) → In W → AreThere added W →
        MeetsAlt (right (in_front (alternative_before (rewritten_unit w) (alternative (Some e) what s) n) goal) W) goal (Some e) (Some (variable g s n)) what (what_left (n + 1)) s k n ((n + 1) + length kept) W
    guarded e olde subtypes W u still = go (values-made x laws made added m i out p p' o o' V s (row-behind (under_guard (rewritten_unit w) s n kept) row) W (old_due e [] olde old_no_due) n below u still)
      where
        all : HaveSubtypes b added (truth_subtype s ∷ kept_subtypes kept) n
        all = subtypes

        below : n + length (Some e ∷ []) ≤ added.count
        below = let l : n + length (truth_subtype s ∷ kept_subtypes kept) ≤ added.count = subtypes-fit b added all in omega arith

        bound : SameRange truth_limits (added.bounds n)
        bound z = first all
          where
            first : HaveSubtypes b added (truth_subtype s ∷ kept_subtypes kept) n → lies_in truth_limits z ≡ lies_in (added.bounds n) z
            first (subtype_then y ys k1 l1 eq more) = made.truths s z ∙ ap (λ l. lies_in l z) (sym eq)

        behind : HaveSubtypes b added (kept_subtypes kept) (n + 1)
        behind = subtypes-second b added (truth_subtype s ∷ []) (kept_subtypes kept) n all

        -- the guard, by what goes to its variable
        guard-due : guard_holds left (Some e) ≡ and_then (due_worth g.types V added.bounds (Some e ∷ []) n) (λ ws. Ok (first_truth ws))
        guard-due = one-due (added.bounds n) (evaluated g.types V e) (λ v. and_then (checked truth_limits v) (λ c. Ok (is_true_value c))) (Ok []) first_truth
            (λ v lies. ap (λ q. and_then (if q then Ok v else Err raised.Constraint) (λ c. Ok (is_true_value c))) (bound (position_of v) ∙ lies))
            (λ v lies. ap (λ q. and_then (if q then Ok v else Err raised.Constraint) (λ c. Ok (is_true_value c))) (bound (position_of v) ∙ lies))

        at-row : Task
        at-row = right (in_front (alternative_before (rewritten_unit w) (alternative (Some e) what s) n) goal) W

        by-truth : (W1 : Variables) (v : Value) → guard_holds left (Some e) ≡ Ok (is_true_value v) → In W1 → AreThere added W1 → Reaches at-row (guard_if s n kept goal W1) → Same n W W1 →
            IsCell W1 (variable_name g n) (added.bounds n) v → lies_in (added.bounds n) (position_of v) ≡ true → (q : Bool) → is_true_value v ≡ q →
            MeetsAlt at-row goal (Some e) (Some (variable g s n)) what (what_left (n + 1)) s k n ((n + 1) + length kept) W
        by-truth W1 v holds u1 still1 reach same cell lies q f = truth q f
          where
            value-at : (W2 : Variables) → Same (n + 1) W1 W2 → evaluated h.types W2 (variable g s n) ≡ Ok v
            value-at W2 later = held-value b made.types g added s n W2 v (cell-kept W1 W2 (variable_name g n) (added.bounds n) v (later n (omega arith)) cell)

            holds-at : (W2 : Variables) → Same (n + 1) W1 W2 → guard_holds (right there W2) (Some (variable g s n)) ≡ Ok (is_true_value v)
            holds-at W2 later = guard-value v (bound (position_of v) ∙ lies) (evaluated h.types W2 (variable g s n)) (value-at W2 later)

            truth : (q : Bool) → is_true_value v ≡ q → MeetsAlt at-row goal (Some e) (Some (variable g s n)) what (what_left (n + 1)) s k n ((n + 1) + length kept) W
            truth true f =
                alt-of_kind s (Some e) (Some (variable g s n)) what (what_left (n + 1)) k n (n + 1) ((n + 1) + length kept) at-row W W1 (omega arith) (omega arith) (holds ∙ ap (λ y. Ok y) f)
                (λ W2 u2 later. holds-at W2 later ∙ ap (λ y. Ok y) f)
                (λ op W3 mid e1 e2 W2 later. (v, value-at W2 (same-then (n + 1) ((n + 1) + length kept) (omega arith) W1 W3 W2 mid later), f)) same
                (right (in_front (kept_before g s kept (n + 1)) goal) W1) (reaches-behind reach (guard-true s n kept row W1 v (value-at W1 (λ j m1. refl)) f))
                (kind-comes s row old t begins k (n + 1) behind W1 u1 still1)
            truth false f =
                alt_made None None W1 (ap (λ r. and_then r (λ y. open_if y (kind_opened left what k))) (holds ∙ ap (λ y. Ok y) f))
                (λ W2 u2 later. ap (λ r. and_then r (λ y. open_if y (kind_opened (right there W2) (what_left (n + 1)) k))) (holds-at W2 (same-less (n + 1) ((n + 1) + length kept) (omega arith) W1 W2 later) ∙ ap (λ y. Ok y) f))
                none_open (λ e1 e2 W2 later. (v, value-at W2 (same-less (n + 1) ((n + 1) + length kept) (omega arith) W1 W2 later), f)) u1 still1
                (reaches-behind reach (guard-false s n kept row W1 v (value-at W1 (λ j m1. refl)) f)) same

        held : (W1 : Variables) (ws : List (Option Value)) → Hold added W1 n (Some e ∷ []) ws → guard_holds left (Some e) ≡ Ok (first_truth ws) → In W1 → AreThere added W1 → Reaches at-row (guard_if s n kept goal W1) → Same n W W1 →
            MeetsAlt at-row goal (Some e) (Some (variable g s n)) what (what_left (n + 1)) s k n ((n + 1) + length kept) W
        held W1 ws (hold_value k1 e1 v ds vs cell lies more) holds u1 still1 reach same = by-truth W1 v holds u1 still1 reach same cell lies (is_true_value v) refl

        go : Prelude x added m i out p o V p' o' at-row (in_front (under_guard (rewritten_unit w) s n kept) goal) n W (Some e ∷ []) →
            MeetsAlt at-row goal (Some e) (Some (variable g s n)) what (what_left (n + 1)) s k n ((n + 1) + length kept) W
        go (given vs W1 res v reach still1 hold same) = held W1 vs hold (guard-due ∙ ap (λ r. and_then r (λ ws. Ok (first_truth ws))) res) v still1 reach same
        go (stopped a r W1 res v reach steps stop still1) =
            alt_raises a (ap (λ c. and_then c (λ y. open_if y (kind_opened left what k))) (guard-due ∙ ap (λ c. and_then c (λ ws. Ok (first_truth ws))) res))
            (record { rest = r; vars = W1; under = v; reach = reach; stands = steps; stop = stop })

    -- by whether it has a guard
    pub alternative-comes : {guard : Option PExpr} → OldOption b guard → HaveSubtypes b added (alternative_subtypes (rewritten_unit w) (alternative guard what s)) n → (W : Variables) → In W → AreThere added W →
        MeetsAlt (right (in_front (alternative_before (rewritten_unit w) (alternative guard what s) n) goal) W) goal guard (option_map (λ e. variable g s n) guard) what (what_left (behind_guard guard n)) s k n
        (behind_guard guard n + length kept) W
    alternative-comes old_none subtypes W u still = no-guard subtypes W u still
    alternative-comes (old_some e olde) subtypes W u still = guarded e olde subtypes W u still

  -- ---- all alternatives, one after the other

  abbrev r : Rewriter (List PDecl)
  r = normal_rewriter (rewritten_unit w)

  pub data MeetsAlts (from : Task) (goal : PStmts) (alts alts' : PAlts) (k n later : ℕ) (W : Variables) : Type 0 where
    alts_made : (os os' : List Open) (W1 : Variables) → alternatives_open left alts k ≡ Ok os → ((W2 : Variables) → In W2 → Same later W1 W2 → alternatives_open (right there W2) alts' k ≡ Ok os') → OpensAlike w os os' →
        ((gs : List PExpr) → all_guards alts' ≡ Some gs → (W2 : Variables) → Same later W1 W2 → AreTold h W2 gs os) → In W1 → AreThere added W1 → Reaches from (right goal W1) → Same n W W1 →
        MeetsAlts from goal alts alts' k n later W
    alts_raise : (a : Raised) → alternatives_open left alts k ≡ Err a → RaisesAt x laws made added m i out p p' o o' V from a → MeetsAlts from goal alts alts' k n later W

  opens-then : {ro ro' : Option Open} → MaybeOpen w ro ro' → {os os' : List Open} → OpensAlike w os os' → OpensAlike w (open_then ro os) (open_then ro' os')
  opens-then none_open q = q
  opens-then (some_open op op' a) q = open_more op op' _ _ a q

  delays-same : (s : Span) (what : PAltKind) (t : List PDecl) (n k : ℕ) → delays_with (kind_left (rewritten_unit w) s (inside_kind r what t) n) k ≡ delays_with what k
  delays-same s (AAccept (accepting q a) l) t n k = refl
  delays-same s (ADelay d l) t n k = refl
  delays-same s ATerminate t n k = refl

  -- what is told of a guard and of those behind it
  told-then : (guard : Option PExpr) (s : Span) (n : ℕ) (rest : PAlts) (what : PAltKind) (ro : Option Open) (os : List Open) (W2 : Variables) →
      ((e : PExpr) → guard ≡ Some e → (v : Value) × (evaluated h.types W2 (variable g s n) ≡ Ok v) × (is_true_value v ≡ is_some ro)) → ((gs : List PExpr) → all_guards rest ≡ Some gs → AreTold h W2 gs os) →
      (gs : List PExpr) → all_guards (alt_then (alternative (option_map (λ e. variable g s n) guard) what s) rest) ≡ Some gs → AreTold h W2 gs (open_then ro os)
  told-then None s n rest what ro os W2 one more gs e = absurd (let none : ⊥ = cc in none)
  told-then (Some d) s n rest what ro os W2 one more gs e = go (all_guards rest) refl e
    where
      told : (ro : Option Open) (v : Value) → evaluated h.types W2 (variable g s n) ≡ Ok v → is_true_value v ≡ is_some ro → (es : List PExpr) → AreTold h W2 es os → AreTold h W2 (variable g s n ∷ es) (open_then ro os)
      told None v e1 e2 es q = closed_told (variable g s n) v es os e1 e2 q
      told (Some op) v e1 e2 es q = open_told (variable g s n) v op es os e1 e2 q

      go : (q : Option (List PExpr)) → all_guards rest ≡ q → guard_then (Some (variable g s n)) q ≡ Some gs → AreTold h W2 gs (open_then ro os)
      go None f c = absurd (let none : ⊥ = cc in none)
      go (Some es) f c =
          let v = one d refl in
          subst (λ l. AreTold h W2 l (open_then ro os)) (some-list (variable g s n ∷ es) gs c) (told ro v.0 v.1 v.2 es (more es f))

  later-is : (guard : Option PExpr) (what : PAltKind) (s : Span) (t : List PDecl) → length (r.entered_alternative t (alternative guard what s)) ≡ behind_guard guard (length t) + length (kind_kept (rewritten_unit w) s what)
  later-is guard what s t =
      length-append t (variables_declared g s (alternative_subtypes (rewritten_unit w) (alternative guard what s)) (length t))
      ∙ ap (λ k. length t + k) (declared_length g s (alternative_subtypes (rewritten_unit w) (alternative guard what s)) (length t)) ∙ by guard
    where
      kept : length (kept_subtypes (kind_kept (rewritten_unit w) s what)) ≡ length (kind_kept (rewritten_unit w) s what)
      kept = length-map (kind_kept (rewritten_unit w) s what) (λ a. a.subtype)

      by : (guard : Option PExpr) → length t + length (alternative_subtypes (rewritten_unit w) (alternative guard what s)) ≡ behind_guard guard (length t) + length (kind_kept (rewritten_unit w) s what)
      by None = ap (λ k. length t + k) kept
      by (Some e) = let c : length (kept_subtypes (kind_kept (rewritten_unit w) s what)) ≡ length (kind_kept (rewritten_unit w) s what) = kept in omega arith

  -- the first alternative, and what comes of the others behind it
  alts-then : (guard : Option PExpr) (what : PAltKind) (s : Span) (rest : PAlts) (t : List PDecl) (goal : PStmts) (k : ℕ) (W : Variables) →
      MeetsAlt
      (right (in_front (alternative_before (rewritten_unit w) (alternative guard what s) (length t)) (in_front (alts_leads r rest (after_kind r what (r.entered_alternative t (alternative guard what s)))) goal)) W)
      (in_front (alts_leads r rest (after_kind r what (r.entered_alternative t (alternative guard what s)))) goal) guard (option_map (λ e. variable g s (length t)) guard) what
      (kind_left (rewritten_unit w) s (inside_kind r what (r.entered_alternative t (alternative guard what s))) (behind_guard guard (length t))) s k (length t) (behind_guard guard (length t) + length (kind_kept (rewritten_unit w) s what)) W →
      ((W1 : Variables) → In W1 → AreThere added W1 →
      MeetsAlts (right (in_front (alts_leads r rest (after_kind r what (r.entered_alternative t (alternative guard what s)))) goal) W1) goal rest (inside_alts r rest (after_kind r what (r.entered_alternative t (alternative guard what s))))
      (delays_with what k) (length (after_kind r what (r.entered_alternative t (alternative guard what s)))) (length (after_alts r rest (after_kind r what (r.entered_alternative t (alternative guard what s))))) W1) →
      MeetsAlts (right (in_front (alts_leads r (alt_then (alternative guard what s) rest) t) goal) W) goal (alt_then (alternative guard what s) rest) (inside_alts r (alt_then (alternative guard what s) rest) t) k
      (length t) (length (after_alts r (alt_then (alternative guard what s) rest) t)) W
  alts-then guard what s rest t goal k W first more =
      subst (λ a. MeetsAlts (right a W) goal (alt_then (alternative guard what s) rest) (inside_alts r (alt_then (alternative guard what s) rest) t) k (length t) (length (after_alts r (alt_then (alternative guard what s) rest) t)) W)
      (sym (in_front-joined (alternative_before (rewritten_unit w) (alternative guard what s) (length t)) (alts_leads r rest t2) goal)) (go first)
    where
      t1 : List PDecl
      t1 = r.entered_alternative t (alternative guard what s)

      t2 : List PDecl
      t2 = after_kind r what t1

      later : ℕ
      later = behind_guard guard (length t) + length (kind_kept (rewritten_unit w) s what)

      last : ℕ
      last = length (after_alts r rest t2)

      l0 : length t ≤ length t2
      l0 =
          let a : length t ≤ length t1 = begins-length ((normal-adds (rewritten_unit w)).entered_alternative t (alternative guard what s)) in
          let c : length t1 ≤ length t2 = begins-length (kind-begins r (normal-adds (rewritten_unit w)) what t1) in
          omega arith

      l1 : later ≤ length t2
      l1 =
          let a : length t1 ≡ later = later-is guard what s t in
          let c : length t1 ≤ length t2 = begins-length (kind-begins r (normal-adds (rewritten_unit w)) what t1) in
          omega arith

      l2 : length t2 ≤ last
      l2 = begins-length (alts-begin r (normal-adds (rewritten_unit w)) rest t2)

      what' : PAltKind
      what' = kind_left (rewritten_unit w) s (inside_kind r what t1) (behind_guard guard (length t))

      guard' : Option PExpr
      guard' = option_map (λ e. variable g s (length t)) guard

      from : Task
      from = right (in_front (alternative_before (rewritten_unit w) (alternative guard what s) (length t)) (in_front (alts_leads r rest t2) goal)) W

      abbrev-alts : PAlts
      abbrev-alts = inside_alts r (alt_then (alternative guard what s) rest) t

      split : (c : Task) (gd : Option PExpr) (wh : PAltKind) (rs : PAlts) (j : ℕ) → delays_with wh k ≡ j →
          alternatives_open c (alt_then (alternative gd wh s) rs) k ≡ and_then (alt_open c gd wh k) (λ ro. and_then (alternatives_open c rs j) (λ os. Ok (open_then ro os)))
      split c gd wh rs j e = ap (λ y. and_then (guard_holds c gd) (λ q. opened_if q (kind_opened c wh k) (alternatives_open c rs y))) e ∙ open-split (guard_holds c gd) (kind_opened c wh k) (alternatives_open c rs j)

      both : (ro ro' : Option Open) (W1 : Variables) → alt_open left guard what k ≡ Ok ro → ((W2 : Variables) → In W2 → Same later W1 W2 → alt_open (right there W2) guard' what' k ≡ Ok ro') → MaybeOpen w ro ro' →
          GuardTold guard s (length t) later W1 ro → Reaches from (right (in_front (alts_leads r rest t2) goal) W1) → Same (length t) W W1 →
          MeetsAlts (right (in_front (alts_leads r rest t2) goal) W1) goal rest (inside_alts r rest t2) (delays_with what k) (length t2) last W1 →
          MeetsAlts from goal (alt_then (alternative guard what s) rest) (inside_alts r (alt_then (alternative guard what s) rest) t) k (length t) last W
      both ro ro' W1 res again alike told reach same (alts_made os os' W2 res2 again2 alike2 told2 u2 still2 reach2 same2) =
          alts_made (open_then ro os) (open_then ro' os') W2
          (split left guard what rest (delays_with what k) refl ∙ ap (λ c. and_then c (λ y. and_then (alternatives_open left rest (delays_with what k)) (λ ys. Ok (open_then y ys)))) res
          ∙ ap (λ c. and_then c (λ ys. Ok (open_then ro ys))) res2)
          (λ W3 u3 below. split (right there W3) guard' what' (inside_alts r rest t2) (delays_with what k) (delays-same s what t1 (behind_guard guard (length t)) k)
          ∙ ap (λ c. and_then c (λ y. and_then (alternatives_open (right there W3) (inside_alts r rest t2) (delays_with what k)) (λ ys. Ok (open_then y ys)))) (again W3 u3 (between W3 below))
          ∙ ap (λ c. and_then c (λ ys. Ok (open_then ro' ys))) (again2 W3 u3 below))
          (opens-then alike alike2)
          (λ gs e W3 below. told-then guard s (length t) (inside_alts r rest t2) what' ro os W3 (λ d f. told d f W3 (between W3 below)) (λ hs f. told2 hs f W3 below) gs e)
          u2 still2 (reaches-behind reach reach2) (λ j m1. same2 j (omega (arith, m1, l0)) ∙ same j m1)
        where
          between : (W3 : Variables) → Same last W2 W3 → Same later W1 W3
          between W3 below j m1 = below j (omega (arith, m1, l1, l2)) ∙ same2 j (omega (arith, m1, l1))
      both ro ro' W1 res again alike told reach same (alts_raise a res2 stop) =
          alts_raise a (split left guard what rest (delays_with what k) refl ∙ ap (λ c. and_then c (λ y. and_then (alternatives_open left rest (delays_with what k)) (λ ys. Ok (open_then y ys)))) res
          ∙ ap (λ c. and_then c (λ ys. Ok (open_then ro ys))) res2)
          (record { rest = stop.rest; vars = stop.vars; under = stop.under; reach = reaches-behind reach stop.reach; stands = stop.stands; stop = stop.stop })

      go : MeetsAlt from (in_front (alts_leads r rest t2) goal) guard guard' what what' s k (length t) later W →
          MeetsAlts from goal (alt_then (alternative guard what s) rest) (inside_alts r (alt_then (alternative guard what s) rest) t) k (length t) last W
      go (alt_made ro ro' W1 res again alike told u1 still1 reach same) = both ro ro' W1 res again alike told reach same (more W1 u1 still1)
      go (alt_raises a res stop) =
          alts_raise a (split left guard what rest (delays_with what k) refl ∙ ap (λ c. and_then c (λ y. and_then (alternatives_open left rest (delays_with what k)) (λ ys. Ok (open_then y ys)))) res) stop

  pub alts-comes : {alts : PAlts} → OldAlts (asked_of w) alts → (t : List PDecl) → Begin (after_alts r alts t) w.vars → (k : ℕ) {goal : PStmts} → IsSomething goal → (W : Variables) → In W → AreThere added W →
      MeetsAlts (right (in_front (alts_leads r alts t) goal) W) goal alts (inside_alts r alts t) k (length t) (length (after_alts r alts t)) W
  alts-comes old_no_alt t begins k {goal} row W u still =
      alts_made [] [] W refl (λ W2 u2 below. refl) no_opens (λ gs e W2 below. subst (λ l. AreTold h W2 l []) (some-list [] gs e) none_told) u still (reaches_here (right goal W)) (λ j m1. refl)
  alts-comes (old_alt guard what s rest og okind orest) t begins k {goal} row W u still =
      let t1 : List PDecl = r.entered_alternative t (alternative guard what s) in
      let t2 : List PDecl = after_kind r what t1 in
      let begins2 : Begin t2 w.vars = part-begins w (alts-begin r (normal-adds (rewritten_unit w)) rest t2) begins in
      let begins1 : Begin t1 w.vars = part-begins w (kind-begins r (normal-adds (rewritten_unit w)) what t1) begins2 in
      alts-then guard what s rest t goal k W
      (alternative-comes s (in_front (alts_leads r rest t2) goal)
      (row-behind (alts_leads r rest t2) row) what okind t1 begins2 k (length t) og
      (begun-subtypes w added declared s (alternative_subtypes (rewritten_unit w) (alternative guard what s)) t begins1) W u still)
      (λ W1 u1 still1. alts-comes orest t2 begins (delays_with what k) row W1 u1 still1)
