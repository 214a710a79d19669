-- The alternatives of a selective wait: what their guards and indices are worth in a normal form and in its text, and what the tests in front of the
-- branches say.
use Rattle.std.proofs.Common.{◌≡◌, ℕ, ◌+◌, ◌≤◌, ℤ, Bool, true, false, not, ◌&&◌, ◌||◌, if◌then◌else◌, List, [], ◌∷◌, Option, Some, None, Result, Ok, Err, fold, refl, sym, ap, ap₂, ◌∙◌, subst, true≢false, arith}
use Rattle.std.specs.Prelude.{nat_lt, unwrap_or}
use Rattle.std.specs.List.{list_any}
use Rattle.common_lemmas.proofs.Truth.{and_false, and_true}
use Rattle.event_machine.specs.declared.Event.{Event}
use Rattle.ada_tree.specs.declared.naming.Span.{Span}
use Rattle.ada_tree.specs.declared.expressions.UnaryOp.TheVariants.{Not}
use Rattle.ada_tree.specs.declared.expressions.BinaryOp.TheVariants.{And}
use Rattle.ada_tree.specs.Every.{alts_count}
use Rattle.ada_tree.specs.TypeTable.{TypeTable}
use Rattle.ada_tree.specs.PlainExpr.{PExpr, EUnary}
use Rattle.ada_tree.specs.PlainStmt.{PHead, PStmts, PMaybe, alternative, PAltKind, AAccept, ADelay, ATerminate, PAlts, no_alt, alt_then, accepting}
use Rattle.ada_tree.specs.PlainProgram.{PProgram}
use Rattle.ada_static_rules.specs.Refusals.{types_in}
use Rattle.ada_value.specs.declared.values.Limits.{Limits}
use Rattle.ada_value.specs.declared.values.Raised.{Raised}
use Rattle.ada_value.specs.declared.values.Raised.TheVariants as raised
use Rattle.ada_value.specs.declared.values.Value.{Value}
use Rattle.ada_value.specs.declared.values.Value.TheVariants.{Truth}
use Rattle.ada_value.specs.Values.{and_then, is_true_value, checked, truth_limits, position_of, lies_in}
use Rattle.ada_value.specs.Variables.{Variables}
use Rattle.ada_value.specs.Evaluating.{evaluated, combined, signed_value}
use Rattle.syn_event.specs.Numbering.{entry_at}
use Rattle.task_model.specs.Setting.{entry_of, family_limits, member_index}
use Rattle.task_model.specs.Frames.{Around, PFrame, control}
use Rattle.task_model.specs.Tasks.{Task, stmts_or_none, vars_of}
use Rattle.task_model.specs.Waits.{Open, Accepts, Delays, Terminates, guard_holds, kind_opened, opened_if, alternatives_open, is_shorter}
use Rattle.task_laws.specs.translation.Translations.{Programs, types_before}
use Rattle.task_laws.specs.translation.Scopes.{SeeAlike}
use Rattle.task_laws.specs.translation.OldNames.{OldOption, old_none, old_some}
use Rattle.task_laws.specs.translation.OldTexts.{only_names, OldFormals, OldAlts, old_no_alt, old_alt, old_accepts, old_delays, old_terminates}
use Rattle.task_laws.specs.translation.Images.{ImageMaybe}
use Rattle.task_laws.specs.translation.Controls.{task_in}
use Rattle.task_laws.proofs.translation.Evaluating.{worth-same}
use Rattle.normal_model.specs.RewrittenUnit.{RewrittenUnit}
use Rattle.normal_model.specs.Walk.{rewritten, inside_maybe, inside_kind, inside_alts}
use Rattle.normal_laws.proofs.runs.waits.Choices.{truth-of}
use Rattle.normal_laws.specs.existence.Laws.{IsLegalOriginal}
use Rattle.run_laws.specs.replaying.Copies.{Spots}
use Rattle.replay_model.specs.Asking.{both}
use Rattle.replay_model.specs.Waiting.{never_so, and_guard, is_shut, pauses_of, and_later}
use Rattle.replay_model.specs.ReplayTree.{last_task}
use Rattle.replay_model.specs.ReplayStmts.{replay_rewriter}
use Rattle.replay_structure.proofs.asked.Kept.{still_maybe, still_kind}
use Rattle.replay_structure.specs.spots.Places.{text_spots}
use Rattle.replay_runs.specs.starts.Laws.{form_in, text_in}
use Rattle.replay_runs.specs.starts.Formals.{form_setting, text_setting}
use Rattle.replay_runs.specs.translation.Rows.{Replayed, replayed_rows}
use Rattle.replay_runs.proofs.translation.Rows.{rows, maybe-rows}
use Rattle.replay_runs.specs.controls.Asking.{unit_of_task}
use Rattle.replay_runs.specs.controls.formed.Laws.{IsHeadFormed, AreHeadsFormed}
use Rattle.replay_runs.specs.controls.indices.Laws.{KeepsUnit}
use Rattle.replay_runs.specs.controls.permits.Laws.{FitsInteger, EvaluatesTo, IndexIs}
use Rattle.replay_runs.specs.controls.translated.Laws.{form_and_text}
use Rattle.replay_runs.proofs.controls.translated.Tables.{legal_types_agree}
use Rattle.replay_runs.proofs.controls.meanings.Indices.{checked_index, by-checked, member_checked}
use Rattle.replay_runs.proofs.controls.meanings.Accepting.{named-there, limits-there, index-of, index-after}

-- ---- results

-- what comes to something came to something before
pub then-ok : {A B : Type 0} (r : Result A Raised) (f : A → Result B Raised) (y : B) → and_then r f ≡ Ok y → (x : A) × (r ≡ Ok x) × (f x ≡ Ok y)
then-ok (Ok x) f y e = (x, refl, e)
then-ok (Err x) f y e = absurd (let none : ⊥ = cc in none)

pub same-ok : {A : Type 0} {x y : A} {r : Result A Raised} → r ≡ Ok x → r ≡ Ok y → x ≡ y
same-ok a b = cc

pub ok-no-err : {A : Type 0} {x : A} {e : Raised} {r : Result A Raised} → r ≡ Ok x → r ≡ Err e → ⊥
ok-no-err a b = cc

-- what is open in front of what else is open
open-first : (here : Result Open Raised) (rest : Result (List Open) Raised) (os : List Open) → opened_if true here rest ≡ Ok os →
    (op : Open) × (here ≡ Ok op) × (xs : List Open) × (rest ≡ Ok xs) × ((op ∷ xs) ≡ os)
open-first here rest os e =
    let a = then-ok here (λ op. and_then rest (λ xs. Ok (op ∷ xs))) os e in
    let r = then-ok rest (λ xs. Ok (a.0 ∷ xs)) os a.2 in
    (a.0, a.1, r.0, r.1, same-ok refl r.2)

-- what is checked is what was there
checked-same : (limits : Limits) (v w : Value) → checked limits v ≡ Ok w → v ≡ w
checked-same limits v w = go (lies_in limits (position_of v))
  where
    go : (c : Bool) → (if c then Ok v else Err raised.Constraint) ≡ Ok w → v ≡ w
    go true e = cc
    go false e = absurd (let none : ⊥ = cc in none)

-- ---- the open ones

-- one that is open where its guard holds, in front of others
pub any-if : (f : Open → Bool) (g : Bool) (op : Open) (os : List Open) → list_any f (if g then op ∷ os else os) ≡ ((f op && g) || list_any f os)
any-if f true op os = ap (λ c. c || list_any f os) (sym (and_true (f op)))
any-if f false op os = ap (λ c. c || list_any f os) (sym (and_false (f op)))

-- ---- guards

module _ (T : TypeTable) (W : Variables) where
  -- what a guard says in the text
  pub data GuardSays : Option PExpr → Bool → Type 0 where
    no_guard : GuardSays None true
    guard_says : (e : PExpr) (v : Value) → evaluated T W e ≡ Ok v → GuardSays (Some e) (is_true_value v)

  -- A test and an expression joined by `and` evaluate to TRUE exactly where the test does and the expression is worth TRUE.
  pub both-worth : (s : Span) (d e : PExpr) (b : Bool) (v : Value) → EvaluatesTo T W d b → evaluated T W e ≡ Ok v → EvaluatesTo T W (both s d e) (b && is_true_value v)
  both-worth s d e b v k l =
      ap (λ r. and_then r (λ x. and_then (evaluated T W e) (λ y. combined And x y))) k ∙ ap (λ r. and_then r (λ y. combined And (Truth b) y)) l ∙ ap (λ c. Ok (Truth (c && is_true_value v))) (truth-of b)

  pub guarded : (s : Span) (d : PExpr) (b : Bool) {guard : Option PExpr} {g : Bool} → EvaluatesTo T W d b → GuardSays guard g → EvaluatesTo T W (and_guard s d guard) (b && g)
  guarded s d b k no_guard = k ∙ ap (λ c. Ok (Truth c)) (sym (and_true b))
  guarded s d b k (guard_says e v worth) = both-worth s d e b v k worth

  -- `not G`, where FALSE is worth FALSE
  module _ (falsehood : (s : Span) → EvaluatesTo T W (never_so s) false) where
    shut-worth : (s : Span) (d : PExpr) (b : Bool) {guard : Option PExpr} {g : Bool} → EvaluatesTo T W d b → GuardSays guard g → EvaluatesTo T W (both s d (is_shut s guard)) (b && not g)
    shut-worth s d b k no_guard = both-worth s d (never_so s) b (Truth false) k (falsehood s)
    shut-worth s d b k (guard_says e v worth) =
        both-worth s d (EUnary Not e s) b (Truth (not (is_true_value v))) k (ap (λ r. and_then r (λ y. signed_value Not y)) worth) ∙ ap (λ c. Ok (Truth (b && c))) (truth-of (not (is_true_value v)))

-- ---- images

-- an alternative with its statements rewritten, and so all alternatives
abbrev pub kind_image : RewrittenUnit → PAltKind → PAltKind
kind_image u (AAccept (accepting head m) l) = AAccept (accepting head (inside_maybe replay_rewriter m u)) (rewritten replay_rewriter l u)
kind_image u (ADelay d l) = ADelay d (rewritten replay_rewriter l u)
kind_image u ATerminate = ATerminate

abbrev pub alts_image : RewrittenUnit → PAlts → PAlts
alts_image u no_alt = no_alt
alts_image u (alt_then (alternative guard k s) rest) = alt_then (alternative guard (kind_image u k) s) (alts_image u rest)

kind-is : (u : RewrittenUnit) (k : PAltKind) → inside_kind replay_rewriter k u ≡ kind_image u k
kind-is u (AAccept (accepting head m) l) = ap (λ v. AAccept (accepting head (inside_maybe replay_rewriter m u)) (rewritten replay_rewriter l v)) (still_maybe m u)
kind-is u (ADelay d l) = refl
kind-is u ATerminate = refl

-- The walk gives these.
pub alts_are : (u : RewrittenUnit) (alts : PAlts) → inside_alts replay_rewriter alts u ≡ alts_image u alts
alts_are u no_alt = refl
alts_are u (alt_then (alternative guard k s) rest) =
    ap (λ v. alt_then (alternative guard (inside_kind replay_rewriter k u) s) (inside_alts replay_rewriter rest v)) (still_kind k u)
    ∙ ap (λ x. alt_then (alternative guard (inside_kind replay_rewriter k u) s) x) (alts_are u rest) ∙ ap (λ x. alt_then (alternative guard x s) (alts_image u rest)) (kind-is u k)

-- ---- alternatives

module _ (far : Spots) (p : PProgram) (events : List Event) (h : IsLegalOriginal p) (t : ℕ) where
  abbrev u : RewrittenUnit
  u = unit_of_task p t

  abbrev b : Programs
  b = form_and_text p events

  abbrev T : TypeTable
  T = types_in (text_in p events)

  -- An accept of this member, whose entry and index are found in the text; where its guard holds the index lies in the family's range.
  pub record AcceptSays (W : Variables) (head : PHead) (m : PMaybe) (e : ℕ) (z : ℤ) (g : Bool) : Type 0 where
    pub fits : FitsInteger e
    pub named : entry_of (form_in p).numbers t head.entry.name ≡ e
    pub named_there : entry_of (text_setting p events).numbers t head.entry.name ≡ (text_spots far (form_in p)).original e
    pub worth : IndexIs T W head.index z
    pub member : g ≡ true → member_index (text_setting p events) W (entry_of (text_setting p events).numbers t head.entry.name) head.index ≡ Ok z
    pub formals : OldFormals b head.formals
    pub images : ImageMaybe (replayed_rows (only_names b) u) m (inside_maybe replay_rewriter m u)

  -- Alternatives with k delays before them, each with what its guard says.
  pub data Judged (W : Variables) : PAlts → ℕ → Type 0 where
    judged_none : (k : ℕ) → Judged W no_alt k
    judged_accept : (guard : Option PExpr) (g : Bool) (head : PHead) (m : PMaybe) (l : PStmts) (s : Span) (rest : PAlts) (k e : ℕ) (z : ℤ) → GuardSays T W guard g → AcceptSays W head m e z g →
        Replayed (only_names b) u l (rewritten replay_rewriter l u) → Judged W rest k → Judged W (alt_then (alternative guard (AAccept (accepting head m) l) s) rest) k
    judged_delay : (guard : Option PExpr) (g : Bool) (d : ℕ) (l : PStmts) (s : Span) (rest : PAlts) (k : ℕ) → GuardSays T W guard g → FitsInteger (k + 1) →
        Replayed (only_names b) u l (rewritten replay_rewriter l u) → Judged W rest (k + 1) → Judged W (alt_then (alternative guard (ADelay d l) s) rest) k
    judged_terminate : (guard : Option PExpr) (g : Bool) (s : Span) (rest : PAlts) (k : ℕ) → GuardSays T W guard g → Judged W rest k → Judged W (alt_then (alternative guard ATerminate s) rest) k

  -- those whose guards hold
  abbrev pub opened : {W : Variables} {alts : PAlts} {k : ℕ} → Judged W alts k → List Open
  opened (judged_none k) = []
  opened (judged_accept guard g head m l s rest k e z says accept im j) = if g then Accepts e z head (stmts_or_none m) l ∷ opened j else opened j
  opened (judged_delay guard g d l s rest k says fits im j) = if g then Delays (k + 1) d l ∷ opened j else opened j
  opened (judged_terminate guard g s rest k says j) = if g then Terminates ∷ opened j else opened j

  -- ---- the alternatives of a task

  module _ (i : List ℤ) (w : List ℕ) (row : PStmts) (q : Around) (o : List PFrame) (V : Variables) (there : t ≤ last_task (form_in p).numbers) {W : Variables} (see : SeeAlike b V W) where
    abbrev σ : Task
    σ = task_in (form_setting p) t i w (control row q o V)

    guard-judged : {guard : Option PExpr} → OldOption b guard → (g : Bool) → guard_holds σ guard ≡ Ok g → GuardSays T W guard g
    guard-judged old_none g e = subst (GuardSays T W None) (same-ok refl e) (no_guard)
    guard-judged (old_some x old) g e =
        let v = then-ok (evaluated (types_before b) V x) (λ a. and_then (checked truth_limits a) (λ c. Ok (is_true_value c))) g e in
        let c = then-ok (checked truth_limits v.0) (λ a. Ok (is_true_value a)) g v.2 in
        subst (GuardSays T W (Some x)) (ap is_true_value (checked-same truth_limits v.0 c.0 c.1) ∙ same-ok refl c.2)
        (guard_says x v.0 (sym (worth-same b (legal_types_agree p events h) see old) ∙ v.1))

    module _ (head : PHead) (m : PMaybe) (l : PStmts) (k : ℕ) (formed : IsHeadFormed p t head) where
      abbrev own-entry : ℕ
      own-entry = formed.entry.entry

      named : entry_of (form_in p).numbers t head.entry.name ≡ own-entry
      named = ap (λ n. unwrap_or n 0) formed.entry.found

      abbrev here : Result Open Raised
      here = kind_opened σ (AAccept (accepting head m) l) k

      abbrev limits : Limits
      limits = family_limits (entry_at (form_in p).numbers own-entry)

      -- the member of an accept that is open
      accept-judged : (z : ℤ) → IndexIs (types_before b) V head.index z → (op : Open) → here ≡ Ok op → (checked_index limits head.index z ≡ Ok z) × (op ≡ Accepts own-entry z head (stmts_or_none m) l)
      accept-judged z worth op f =
          by-checked limits head.index z
          (λ good. (good, same-ok f (ap (λ r. and_then r (λ j. Ok (Accepts (entry_of (form_in p).numbers t head.entry.name) j head (stmts_or_none m) l))) (member ∙ good) ∙ ap (λ n. Ok (Accepts n z head (stmts_or_none m) l)) named)))
          (λ bad. absurd (ok-no-err f (ap (λ r. and_then r (λ j. Ok (Accepts (entry_of (form_in p).numbers t head.entry.name) j head (stmts_or_none m) l))) (member ∙ bad))))
        where
          member : member_index (form_setting p) V (entry_of (form_in p).numbers t head.entry.name) head.index ≡ checked_index limits head.index z
          member = ap (λ n. member_index (form_setting p) V n head.index) named ∙ member_checked (form_setting p) V own-entry head.index z worth

      -- an accept alternative in front of others
      accept-step : (guard : Option PExpr) (s : Span) (rest : PAlts) (os : List Open) → OldOption b head.index → OldFormals b head.formals → ImageMaybe (replayed_rows (only_names b) u) m (inside_maybe replay_rewriter m u) →
          Replayed (only_names b) u l (rewritten replay_rewriter l u) → (z : ℤ) → IndexIs (types_before b) V head.index z →
          ((os' : List Open) → alternatives_open σ rest k ≡ Ok os' → (j : Judged W rest k) × (opened j ≡ os')) → (g : Bool) → GuardSays T W guard g → opened_if g here (alternatives_open σ rest k) ≡ Ok os →
          (j : Judged W (alt_then (alternative guard (AAccept (accepting head m) l) s) rest) k) × (opened j ≡ os)
      accept-step guard s rest os old formals images im z worth again true says f =
          let a = open-first here (alternatives_open σ rest k) os f in
          let is = accept-judged z worth a.0 a.1 in
          let r = again a.2 a.3 in (
            judged_accept guard true head m l s rest k own-entry z says (record {
              fits = formed.entry.fits;
              named = named;
              named_there = named-there far p events h t head.entry.name own-entry formed.entry.found;
              worth = index-after far p events h t see old worth;
              member = λ c. there-member (is.0);
              formals = formals;
              images = images;
            }) im r.0,
            ap₂ (λ x xs. x ∷ xs) (sym is.1) r.1 ∙ a.4,
          )
        where
          there-member : checked_index limits head.index z ≡ Ok z → member_index (text_setting p events) W (entry_of (text_setting p events).numbers t head.entry.name) head.index ≡ Ok z
          there-member good =
              ap (λ n. member_index (text_setting p events) W n head.index) (named-there far p events h t head.entry.name own-entry formed.entry.found)
              ∙ member_checked (text_setting p events) W ((text_spots far (form_in p)).original own-entry) head.index z (index-after far p events h t see old worth)
              ∙ ap (λ c. checked_index c head.index z) (limits-there far p events h t head.entry.name own-entry formed.entry.found) ∙ good
      accept-step guard s rest os old formals images im z worth again false says f =
          let r = again os f in (
            judged_accept guard false head m l s rest k own-entry z says (record {
              fits = formed.entry.fits;
              named = named;
              named_there = named-there far p events h t head.entry.name own-entry formed.entry.found;
              worth = index-after far p events h t see old worth;
              member = λ c. absurd (true≢false (sym c));
              formals = formals;
              images = images;
            }) im r.0,
            r.1,
          )

    delay-step : (guard : Option PExpr) (d : ℕ) (l : PStmts) (s : Span) (rest : PAlts) (k : ℕ) (os : List Open) → FitsInteger (k + 1) → Replayed (only_names b) u l (rewritten replay_rewriter l u) →
        ((os' : List Open) → alternatives_open σ rest (k + 1) ≡ Ok os' → (j : Judged W rest (k + 1)) × (opened j ≡ os')) → (g : Bool) → GuardSays T W guard g →
        opened_if g (Ok (Delays (k + 1) d l)) (alternatives_open σ rest (k + 1)) ≡ Ok os → (j : Judged W (alt_then (alternative guard (ADelay d l) s) rest) k) × (opened j ≡ os)
    delay-step guard d l s rest k os few im again true says f =
        let a = open-first (Ok (Delays (k + 1) d l)) (alternatives_open σ rest (k + 1)) os f in
        let r = again a.2 a.3 in
        (judged_delay guard true d l s rest k says few im r.0, ap₂ (λ x xs. x ∷ xs) (same-ok refl a.1) r.1 ∙ a.4)
    delay-step guard d l s rest k os few im again false says f = let r = again os f in (judged_delay guard false d l s rest k says few im r.0, r.1)

    terminate-step : (guard : Option PExpr) (s : Span) (rest : PAlts) (k : ℕ) (os : List Open) → ((os' : List Open) → alternatives_open σ rest k ≡ Ok os' → (j : Judged W rest k) × (opened j ≡ os')) → (g : Bool) → GuardSays T W guard g →
        opened_if g (Ok Terminates) (alternatives_open σ rest k) ≡ Ok os → (j : Judged W (alt_then (alternative guard ATerminate s) rest) k) × (opened j ≡ os)
    terminate-step guard s rest k os again true says f =
        let a = open-first (Ok Terminates) (alternatives_open σ rest k) os f in
        let r = again a.2 a.3 in
        (judged_terminate guard true s rest k says r.0, ap₂ (λ x xs. x ∷ xs) (same-ok refl a.1) r.1 ∙ a.4)
    terminate-step guard s rest k os again false says f = let r = again os f in (judged_terminate guard false s rest k says r.0, r.1)

    -- The alternatives of a wait whose guards and open indices evaluate.
    pub judge : KeepsUnit p t σ → SeeAlike b (vars_of σ) W → {alts : PAlts} → OldAlts (only_names b) alts → AreHeadsFormed p t alts → (k : ℕ) → FitsInteger (k + alts_count alts) → (os : List Open) → alternatives_open σ alts k ≡ Ok os →
        (j : Judged W alts k) × (opened j ≡ os)
    judge keeps sees old_no_alt formed k few os e = (judged_none k, same-ok refl e)
    judge keeps sees (old_alt guard _ s rest old (old_accepts head m l oh ah om ol) more) formed k few os e =
        let g = then-ok (guard_holds σ guard) (λ c. opened_if c (kind_opened σ (AAccept (accepting head m) l) k) (alternatives_open σ rest k)) os e in
        let index = index-of far p events h t there σ keeps sees formed.0.entry.entry oh.index formed.0.index in
        accept-step head m l k formed.0 guard s rest os oh.index oh.formals (maybe-rows (only_names b) u om) (rows (only_names b) u ol) index.0 index.1 (judge keeps sees more formed.1 k (omega (arith, few))) g.0
        (guard-judged old g.0 g.1) g.2
    judge keeps sees (old_alt guard _ s rest old (old_delays d l ol) more) formed k few os e =
        let g = then-ok (guard_holds σ guard) (λ c. opened_if c (Ok (Delays (k + 1) d l)) (alternatives_open σ rest (k + 1))) os e in
        delay-step guard d l s rest k os (omega (arith, few)) (rows (only_names b) u ol) (judge keeps sees more formed (k + 1) (omega (arith, few))) g.0 (guard-judged old g.0 g.1) g.2
    judge keeps sees (old_alt guard _ s rest old old_terminates more) formed k few os e =
        let g = then-ok (guard_holds σ guard) (λ c. opened_if c (Ok Terminates) (alternatives_open σ rest k)) os e in
        terminate-step guard s rest k os (judge keeps sees more formed k (omega (arith, few))) g.0 (guard-judged old g.0 g.1) g.2

  -- ---- shorter delays

  grouped : (a c e : Bool) → ((a && not c) && not e) ≡ (a && not (c || e))
  grouped true true e = refl
  grouped true false e = refl
  grouped false c e = refl

  delay-later : {W : Variables} → ((s : Span) → EvaluatesTo T W (never_so s) false) → (s : Span) (x : Bool) (test : PExpr) (c : Bool) → EvaluatesTo T W test c → {guard : Option PExpr} {g : Bool} → GuardSays T W guard g →
      EvaluatesTo T W (if x then both s test (is_shut s guard) else test) (c && not (x && g))
  delay-later {W} falsehood s true test c worth says = shut-worth T W falsehood s test c worth says
  delay-later falsehood s false test c worth says = worth ∙ ap (λ x. Ok (Truth x)) (sym (and_true c))

  -- The test of a delay says that no open delay is shorter.
  pub later_says : {W : Variables} → ((s : Span) → EvaluatesTo T W (never_so s) false) → (s : Span) (d : ℕ) {alts : PAlts} {k : ℕ} (j : Judged W alts k) (test : PExpr) (c : Bool) → EvaluatesTo T W test c →
      EvaluatesTo T W (fold (and_later s d) test (pauses_of (alts_image u alts))) (c && not (list_any (is_shorter d) (opened j)))
  later_says falsehood s d (judged_none k) test c worth = worth ∙ ap (λ x. Ok (Truth x)) (sym (and_true c))
  later_says falsehood s d (judged_accept guard g head m l _ rest k e z says accept im j) test c worth =
      later_says falsehood s d j test c worth ∙ ap (λ x. Ok (Truth (c && not x))) (sym (any-if (is_shorter d) g (Accepts e z head (stmts_or_none m) l) (opened j)))
  later_says {W} falsehood s d (judged_delay guard g d1 l _ rest k says fits im j) test c worth =
      later_says falsehood s d j (if nat_lt d1 d then both s test (is_shut s guard) else test) (c && not (nat_lt d1 d && g)) (delay-later falsehood s (nat_lt d1 d) test c worth says)
      ∙ ap (λ x. Ok (Truth x)) (grouped c (nat_lt d1 d && g) (list_any (is_shorter d) (opened j)))
      ∙ ap (λ x. Ok (Truth (c && not x))) (sym (any-if (is_shorter d) g (Delays (k + 1) d1 l) (opened j)))
  later_says falsehood s d (judged_terminate guard g _ rest k says j) test c worth =
      later_says falsehood s d j test c worth ∙ ap (λ x. Ok (Truth (c && not x))) (sym (any-if (is_shorter d) g Terminates (opened j)))
