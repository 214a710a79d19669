-- Rendezvous as one side sees them: an accept body opens, and ends, alike on both sides.
use Rattle.std.proofs.Common.{◌≡◌, ℕ, zero, suc, ℤ, Bool, true, false, List, [], ◌∷◌, ◌++◌, drop, length, map, Option, Some, None, refl, sym, ap, subst, ◌∙◌}
use Rattle.ada_tree.specs.declared.naming.Word.{Word}
use Rattle.ada_tree.specs.declared.statements.ParMode.{ParMode}
use Rattle.ada_tree.specs.PlainStmt.{PFormal, PHead, PStmt, PStmts, stmt_then}
use Rattle.ada_value.specs.declared.values.Value.{Value}
use Rattle.ada_value.specs.declared.values.Raised.{Raised}
use Rattle.ada_value.specs.declared.values.Limits.{Limits}
use Rattle.ada_value.specs.Values.{lower_bound, limits_named}
use Rattle.ada_value.specs.Variables.{Object, Variables}
use Rattle.task_model.specs.declared.parameters.FormalParameter.{FormalParameter}
use Rattle.task_model.specs.Setting.{parameters_in, parameters_of}
use Rattle.task_model.specs.Frames.{Around, Opened, PFrame, control, in_front}
use Rattle.task_model.specs.Tasks.{Task, place_of, entered}
use Rattle.task_model.specs.Calls.{opened_object, opened_objects, finals_in, finals_if, comes_back}
use Rattle.task_model.specs.Rendezvous.{body_opened, alternative_opened, going_on, behind_of}
use Rattle.task_model.specs.Waits.{Accepts}
use Rattle.task_laws.specs.translation.Translations.{Rewriting, types_before, types_after}
use Rattle.task_laws.specs.translation.OldTexts.{OldWords, old_no_word, old_word, OldFormals, old_no_formal, old_formal}
use Rattle.task_laws.specs.translation.Scopes.{AgreeOnTypes}
use Rattle.task_laws.specs.translation.Images.{AreImages}
use Rattle.task_laws.specs.translation.Controls.{frame, task_in, Under, on_floor, in_block, in_handler, in_endless, in_while, in_count, Alike, AreInside, are_inside}
use Rattle.task_laws.specs.translation.Itself.{Nowhere}
use Rattle.task_laws.proofs.translation.Evaluating.{single-known}
use Rattle.task_laws.proofs.translation.Locals.{go-there, raise-there}
use Rattle.task_laws.proofs.translation.Mapping.{under-map}
use Rattle.normal_laws.specs.runs.floors.NormalFloors.{AreOpen, none_open, open_then, accept_body, on_floors, floor_at, normal_floor, normal}
use Rattle.normal_laws.specs.runs.floors.Meetings.{AreNamed, none_named, named_then, AreValues, no_value, value_then, IsOpened, is_opened, EndAlike, AreBefore, are_before}
use Rattle.normal_laws.proofs.runs.floors.Floors.{normal-translates}
use Rattle.task_model.specs.Setting.{Setting}
use Rattle.normal_laws.specs.runs.floors.Preludes.{Added}

module _ (x : Rewriting) (images : AreImages x) (types : AgreeOnTypes x.programs) {g : Setting} (added : Added x.programs g) where
  -- ---- how many accept bodies are open

  lowered : {p p' : Around} {o o' : List PFrame} {V V' : Variables} → Under (normal x added) p o V p' o' V' → (k : ℕ) × Under (on_floors x (floor_at x added k)) p o V p' o' V'
  lowered (on_floor f) = (f.0, on_floor f.1)
  lowered (in_block hs hs' r r' h im u) = let l = lowered u in (l.0, in_block hs hs' r r' h im l.1)
  lowered (in_handler e r r' im u) = let l = lowered u in (l.0, in_handler e r r' im l.1)
  lowered (in_endless name l l' r r' h im u) = let m = lowered u in (m.0, in_endless name l l' r r' h im m.1)
  lowered (in_while name e l l' r r' old h im u) = let m = lowered u in (m.0, in_while name e l l' r r' old h im m.1)
  lowered (in_count name backwards last l l' r r' b old known h im u) = let m = lowered u in (m.0, in_count name backwards last l l' r r' b old known h im m.1)

  lifted : (k : ℕ) {p p' : Around} {o o' : List PFrame} {V V' : Variables} → Under (on_floors x (floor_at x added k)) p o V p' o' V' → Under (normal x added) p o V p' o' V'
  lifted k u = under-map x (floor_at x added k) (normal_floor x added) Nowhere Nowhere (λ p p' o o' V V' f. (k, f)) (λ c d b. b) u

  -- ---- formals

  words-named : (mode : ParMode) (limits : Limits) {ws : List Word} → OldWords x.programs ws → AreNamed x.programs (map (λ w. record { name = w.name; mode = mode; limits = limits }) ws)
  words-named mode limits old_no_word = none_named
  words-named mode limits (old_word w rest old free h) = named_then (record { name = w.name; mode = mode; limits = limits }) _ old free (words-named mode limits h)

  named-append : {fs gs : List FormalParameter} → AreNamed x.programs fs → AreNamed x.programs gs → AreNamed x.programs (fs ++ gs)
  named-append none_named k = k
  named-append (named_then f fs old free h) k = named_then f _ old free (named-append h k)

  pub formals-named : {fs : List PFormal} → OldFormals x.programs fs → AreNamed x.programs (parameters_of (types_before x.programs) fs)
  formals-named old_no_formal = none_named
  formals-named (old_formal f rest h old k) = named-append (words-named f.mode (limits_named (types_before x.programs) f.mark.name) h) (formals-named k)

  pub formals-same : {fs : List PFormal} → OldFormals x.programs fs → parameters_of (types_before x.programs) fs ≡ parameters_of (types_after x.programs) fs
  formals-same old_no_formal = refl
  formals-same (old_formal f rest h old k) =
      ap (λ l. map (λ w. record { name = w.name; mode = f.mode; limits = l }) f.names ++ parameters_of (types_before x.programs) rest) (types.marks f.mark.name old)
      ∙ ap (λ fs. parameters_in (types_after x.programs) f ++ fs) (formals-same k)

  opened-known : {fs : List FormalParameter} → AreNamed x.programs fs → {vs : List Value} → AreValues x.programs vs → AreOpen x.programs fs (opened_objects (types_before x.programs) fs vs)
  opened-known none_named h = none_open
  opened-known (named_then f fs old free k) no_value =
      open_then f _ fs _ old (single-known x.programs types f.name f.limits None (lower_bound (types_before x.programs) f.limits) free (types.values_known f.limits.kind f.limits.first)) (opened-known k no_value)
  opened-known (named_then f fs old free k) (value_then v vs known h) = open_then f _ fs _ old (single-known x.programs types f.name f.limits None v free known) (opened-known k h)

  opened-same : (fs : List FormalParameter) (vs : List Value) → opened_objects (types_before x.programs) fs vs ≡ opened_objects (types_after x.programs) fs vs
  opened-same [] vs = refl
  opened-same (f ∷ fs) [] =
      ap (λ v. opened_object f v ∷ opened_objects (types_before x.programs) fs []) (types.values f.limits.kind f.limits.first)
      ∙ ap (λ os. opened_object f (lower_bound (types_after x.programs) f.limits) ∷ os) (opened-same fs [])
  opened-same (f ∷ fs) (v ∷ vs) = ap (λ os. opened_object f v ∷ os) (opened-same fs vs)

  -- ---- an accept body opens

  pub body-opens : (n : ℕ) (i : List ℤ) (w : List ℕ) (s s' : PStmt) (q q' l l' d d' : PStmts) {p p' : Around} {o o' : List PFrame} {V V' : Variables} (caller : ℕ) {fs : List FormalParameter} {vs : List Value} →
      AreNamed x.programs fs → AreValues x.programs vs → x.image l l' → x.image d d' → x.image q q' → Under (normal x added) p o V p' o' V' →
      AreInside (normal x added) (body_opened caller fs l d vs (task_in x.programs.original n i w (control (stmt_then s q) p o V)))
      (body_opened caller fs l' d' vs (task_in x.programs.made n i w (control (stmt_then s' q') p' o' V')))
  body-opens n i w s s' q q' l l' d d' {p} {p'} {o} {o'} {V} {V'} caller {fs} {vs} named known iml imd imq u =
      let m = lowered u in
      subst (λ bs. AreInside (normal x added) (body_opened caller fs l d vs (task_in x.programs.original n i w (control (stmt_then s q) p o V)))
      (task_in x.programs.made n i w (control l' (Opened caller fs None) (frame (in_front d' q') p' ∷ o') (bs ++ V'))))
      (opened-same fs vs)
      (are_inside n i w l l' iml (on_floor (
        suc m.0,
        accept_body p p' o o' V V' caller fs None (in_front d q) (in_front d' q') (opened_objects (types_before x.programs) fs vs)
            (opened-known named known) (images.joined d d' q q' imd imq) m.1,
      )))

  -- an accept or an alternative with the same formals
  opened-at : (n : ℕ) (i : List ℤ) (w : List ℕ) (s s' : PStmt) (q q' l l' d d' : PStmts) {p p' : Around} {o o' : List PFrame} {V V' : Variables} (caller e : ℕ) (z : ℤ) (h h' : PHead) →
      h.formals ≡ h'.formals → OldFormals x.programs h.formals → {vs : List Value} → AreValues x.programs vs → x.image l l' → x.image d d' → x.image q q' → Under (normal x added) p o V p' o' V' →
      AreInside (normal x added) (alternative_opened caller (Some (Accepts e z h l d)) vs (task_in x.programs.original n i w (control (stmt_then s q) p o V)))
      (alternative_opened caller (Some (Accepts e z h' l' d')) vs (task_in x.programs.made n i w (control (stmt_then s' q') p' o' V')))
  opened-at n i w s s' q q' l l' d d' {p} {p'} {o} {o'} {V} {V'} caller e z h h' same old {vs} known iml imd imq u =
      subst (λ fs. AreInside (normal x added) (alternative_opened caller (Some (Accepts e z h l d)) vs (task_in x.programs.original n i w (control (stmt_then s q) p o V)))
      (body_opened caller fs l' d' vs (task_in x.programs.made n i w (control (stmt_then s' q') p' o' V'))))
      (formals-same old ∙ ap (parameters_of (types_after x.programs)) same)
      (body-opens n i w s s' q q' l l' d d' caller (formals-named old) known iml imd imq u)

  pub accept-opens : (σ κ : Task) → AreBefore (normal x added) σ κ → (caller e : ℕ) (z : ℤ) (h h' : PHead) → h.formals ≡ h'.formals → OldFormals x.programs h.formals →
      (vs : List Value) → AreValues x.programs vs → (l l' d d' : PStmts) → x.image l l' → x.image d d' →
      AreInside (normal x added) (alternative_opened caller (Some (Accepts e z h l d)) vs σ) (alternative_opened caller (Some (Accepts e z h' l' d')) vs κ)
  accept-opens σ κ (are_before n i w s s' q q' im u) caller e z h h' same old vs known l l' d d' iml imd = opened-at n i w s s' q q' l l' d d' caller e z h h' same old known iml imd im u

  -- another part of a statement is entered
  pub part-entered : (σ κ : Task) → AreBefore (normal x added) σ κ → (l l' : PStmts) → x.image l l' → Alike (normal x added) (entered l (behind_of σ) σ) (entered l' (behind_of κ) κ)
  part-entered σ κ (are_before n i w s s' q q' im u) l l' iml =
      go-there (normal x added) (normal-translates x images types added) n i w (stmt_then s q) (stmt_then s' q') (in_front l q) (in_front l' q') (images.joined l l' q q' iml im) u

  -- ---- an accept body ends

  drop-open : {fs : List FormalParameter} {bs : List Object} → AreOpen x.programs fs bs → (V : Variables) → drop (length fs) (bs ++ V) ≡ V
  drop-open none_open V = refl
  drop-open (open_then f o fs os old known h) V = drop-open h V

  finals-one : (b : Bool) (o : Object) (vs ws : List Value) → vs ≡ ws → finals_if b o vs ≡ finals_if b o ws
  finals-one true o vs ws e = ap (λ us. finals_if true o us) e
  finals-one false o vs ws e = e

  finals-open : {fs : List FormalParameter} {bs : List Object} → AreOpen x.programs fs bs → (V V' : Variables) → finals_in fs (bs ++ V) ≡ finals_in fs (bs ++ V')
  finals-open none_open V V' = refl
  finals-open (open_then f o fs os old known h) V V' = finals-one (comes_back f.mode) o (finals_in fs (os ++ V)) (finals_in fs (os ++ V')) (finals-open h V V')

  going-on : (n : ℕ) (i : List ℤ) (w : List ℕ) (r r' : PStmts) {p p' : Around} {o o' : List PFrame} {V V' : Variables} → x.image r r' → Under (normal x added) p o V p' o' V' → (pending : Option Raised) →
      Alike (normal x added) (going_on pending (task_in x.programs.original n i w (control r p o V))) (going_on pending (task_in x.programs.made n i w (control r' p' o' V')))
  going-on n i w r r' im u None = go-there (normal x added) (normal-translates x images types added) n i w r r' r r' im u
  going-on n i w r r' im u (Some e) = raise-there (normal x added) (normal-translates x images types added) n i w r r' u e

  ended : (n : ℕ) (i : List ℤ) (w : List ℕ) (q q' r r' : PStmts) {p p' : Around} {o o' : List PFrame} (V V' : Variables) (caller : ℕ) (fs : List FormalParameter) (pending : Option Raised) (bs : List Object) →
      AreOpen x.programs fs bs → x.image r r' → Under (normal x added) p o V p' o' V' →
      EndAlike (normal x added) (task_in x.programs.original n i w (control q (Opened caller fs pending) (frame r p ∷ o) (bs ++ V)))
      (task_in x.programs.made n i w (control q' (Opened caller fs pending) (frame r' p' ∷ o') (bs ++ V')))
  ended n i w q q' r r' {p} {p'} {o} {o'} V V' caller fs pending bs own im u = record {
    after = subst (λ W. Alike (normal x added) (going_on pending (task_in x.programs.original n i w (control r p o W)))
        (going_on pending (task_in x.programs.made n i w (control r' p' o' (drop (length fs) (bs ++ V')))))) (sym (drop-open own V))
        (subst (λ W'. Alike (normal x added) (going_on pending (task_in x.programs.original n i w (control r p o V))) (going_on pending (task_in x.programs.made n i w (control r' p' o' W'))))
        (sym (drop-open own V')) (going-on n i w r r' im u pending));
    finals = finals-open own V V';
    pending = refl;
  }

  at-floor : (n : ℕ) (i : List ℤ) (w : List ℕ) (q q' : PStmts) {p p' : Around} {o o' : List PFrame} {V V' : Variables} → IsOpened p → (k : ℕ) → floor_at x added k p o V p' o' V' →
      EndAlike (normal x added) (task_in x.programs.original n i w (control q p o V)) (task_in x.programs.made n i w (control q' p' o' V'))
  at-floor n i w q q' (is_opened c f e) zero (accept_body p p' o o' V V' caller fs pending r r' bs own im below) = absurd below
  at-floor n i w q q' (is_opened c f e) (suc k) (accept_body p p' o o' V V' caller fs pending r r' bs own im below) = ended n i w q q' r r' V V' caller fs pending bs own im (lifted k below)

  at-end : (n : ℕ) (i : List ℤ) (w : List ℕ) (q q' : PStmts) {p p' : Around} {o o' : List PFrame} {V V' : Variables} → IsOpened p → Under (normal x added) p o V p' o' V' →
      EndAlike (normal x added) (task_in x.programs.original n i w (control q p o V)) (task_in x.programs.made n i w (control q' p' o' V'))
  at-end n i w q q' (is_opened c f e) (on_floor g) = at-floor n i w q q' (is_opened c f e) g.0 g.1

  pub body-ends : (σ κ : Task) → AreInside (normal x added) σ κ → IsOpened (place_of σ) → EndAlike (normal x added) σ κ
  body-ends σ κ (are_inside n i w q q' im u) h = at-end n i w q q' h u
