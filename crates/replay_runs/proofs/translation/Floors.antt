-- The floors of a replay text: ends, exceptions and names in the unit's own body and in accept bodies.
use Rattle.std.proofs.Common.{subst, true≢false, ◌≡◌, ℕ, zero, suc, Bool, true, false, ◌==◌, List, [], ◌∷◌, ◌++◌, Option, Some, None, refl, sym, ap, ◌∙◌}
use Rattle.std.proofs.lemmas.Bool.{eqb-true}
use Rattle.ada_tree.specs.declared.naming.NameId.{NameId}
use Rattle.ada_tree.specs.declared.naming.Span.{Span}
use Rattle.ada_tree.specs.declared.naming.Word.{Word}
use Rattle.ada_tree.specs.PlainStmt.{PStmt, PStmts, no_stmt, stmt_then, PHandlers, no_handler, handler_then}
use Rattle.ada_value.specs.declared.values.Value.{Value}
use Rattle.ada_value.specs.declared.values.Raised.{Raised}
use Rattle.ada_value.specs.Values.{integer_limits}
use Rattle.ada_value.specs.Variables.{Object, Variables, set_value}
use Rattle.task_model.specs.declared.parameters.FormalParameter.{FormalParameter}
use Rattle.task_model.specs.Frames.{Turns, Around, Block, Loop, Opened, PFrame, Control, control, unit_with, block_with, raised_in}
use Rattle.task_laws.specs.translation.Translations.{Standing, Rewriting, Translation, IsOld, IsKnown}
use Rattle.task_laws.specs.translation.Scopes.{AgreeOnTypes, SeeAlike}
use Rattle.task_laws.specs.translation.Images.{IsEmpty, nothing_there, IsSomething, something_there, AreImages}
use Rattle.task_laws.specs.translation.Controls.{frame, Under, on_floor, in_block, in_handler, in_endless, in_while, in_count, LeavesLoop, inside, behind, Settle}
use Rattle.task_laws.specs.translation.Floors.{handled_around, AreScopes, AreFloors, AreClosed, IsTranslation}
use Rattle.task_laws.proofs.translation.Handlers.{Taken, not_taken, taken, handler-alike}
use Rattle.task_laws.proofs.translation.Frames.{sees-alike, set-alike, add-alike, handled-alike}
use Rattle.task_laws.proofs.translation.Mapping.{settle-map}
use Rattle.normal_model.specs.RewrittenUnit.{RewrittenUnit}
use Rattle.normal_laws.specs.runs.floors.NormalFloors.{Extends, AreOpen, none_open, open_then, no_floor, on_floors}
use Rattle.normal_laws.proofs.runs.floors.Cells.{cell-any, cell-behind}
use Rattle.normal_laws.proofs.runs.floors.Extending.{Fronts, fronts, extends-sees, extends-set, extends-add, own-sees, own-set, own-add}
use Rattle.replay_runs.specs.translation.Floors.{HasPermit, IsPermitAdded, ends_unit, ends_body, unit_frame, unit_block, body_frame, frames_outside, OpenAccept, ReplayFloor, plain_body, handled_body, taken_handler, accept_body, AtAsking, unit_over, unit_left, body_over, body_left, over_floors, below_at, into_replay}

-- ---- the variables of a permit

pub permit-any : (u : RewrittenUnit) (V : Variables) (id : NameId) (k : ℕ) (v : Value) → HasPermit u V → HasPermit u (set_value V id k v)
permit-any u V id k v h = record { kind = cell-any V id k v _ integer_limits h.kind; argument = cell-any V id k v _ integer_limits h.argument; index = cell-any V id k v _ integer_limits h.index }

-- ---- exits

module _ (x : Rewriting) (u : RewrittenUnit) where
  floor-shut : (B : Standing) (w : Option Word) {p p' : Around} {o o' : List PFrame} {V V' : Variables} → ReplayFloor x u B p o V p' o' V' → LeavesLoop w p o → ⊥
  floor-shut B w (plain_body s V V' ext per) at = elim at [ ]
  floor-shut B w (handled_body s h h' hs hs' V V' im ext per) at = elim at [ ]
  floor-shut B w (taken_handler s hs e V V' ext per) at = elim at [ ]
  floor-shut B w (accept_body a) at = elim at [ ]

  pub is-closed : AreClosed (into_replay x u)
  is-closed = record { closed = λ w p p' o o' V V' f at. floor-shut (below_at x u f.0) w f.1 at }

module _ (x : Rewriting) (images : AreImages x) (types : AgreeOnTypes x.programs) (u : RewrittenUnit) where
  -- ---- floors over what may stand below

  module _ (B : Standing) where
    floor-over : {p p' : Around} {o o' : List PFrame} {V V' : Variables} → ReplayFloor x u B p o V p' o' V' → Settle (over_floors x u B) (control no_stmt p o V) (control no_stmt p' o' V')
    floor-over (plain_body s V V' ext per) = record { follows = behind _ _ (unit_over s no_handler None V V' ext per) }
    floor-over (handled_body s h h' hs hs' V V' im ext per) = record { follows = behind _ _ (unit_over s (handler_then h hs) None V V' ext per) }
    floor-over (taken_handler s hs e V V' ext per) = record { follows = behind _ _ (unit_over s hs (Some e) V V' ext per) }
    floor-over (accept_body a) = record { follows = behind _ _ (body_over a) }

    floor-empty : {r' : PStmts} → IsEmpty r' → {p p' : Around} {o o' : List PFrame} {V V' : Variables} → ReplayFloor x u B p o V p' o' V' →
        Settle (over_floors x u B) (control no_stmt p o V) (control r' p' o' V')
    floor-empty nothing_there f = floor-over f

    floor-some : (s : PStmt) (l : PStmts) {r' : PStmts} → x.image (stmt_then s l) r' → IsSomething r' → {p p' : Around} {o o' : List PFrame} {V V' : Variables} → ReplayFloor x u B p o V p' o' V' →
        Settle (over_floors x u B) (control (stmt_then s l) p o V) (control r' p' o' V')
    floor-some s l im (something_there s' l') f = record { follows = inside (stmt_then s l) (stmt_then s' l') im (on_floor f) }

    -- a row on a floor and its image
    pub floor-row : (r r' : PStmts) → x.image r r' → {p p' : Around} {o o' : List PFrame} {V V' : Variables} → ReplayFloor x u B p o V p' o' V' → Settle (over_floors x u B) (control r p o V) (control r' p' o' V')
    floor-row no_stmt r' im f = floor-empty (images.nothing r' im) f
    floor-row (stmt_then s l) r' im f = floor-some s l im (images.something s l r' im) f

    handler-taken : (s : Span) (e : Raised) (hs : PHandlers) (V V' : Variables) {t t' : Option PStmts} → Taken x t t' → Extends x.programs V V' → HasPermit u V' →
        Settle (over_floors x u B) (unit_with t e hs [] V) (block_with t' e (unit_block s ∷ unit_frame u s ∷ []) V' (raised_in e (unit_frame u s ∷ []) (Block (ends_unit s)) V'))
    handler-taken s e hs V V' not_taken ext per = record { follows = behind _ _ (unit_left s hs None e V V' ext per) }
    handler-taken s e hs V V' (taken l l' im) ext per = floor-row l l' im (taken_handler s hs e V V' ext per)

    floor-raised : (e : Raised) {p p' : Around} {o o' : List PFrame} {V V' : Variables} → ReplayFloor x u B p o V p' o' V' → Settle (over_floors x u B) (raised_in e o p V) (raised_in e o' p' V')
    floor-raised e (plain_body s V V' ext per) = record { follows = behind _ _ (unit_left s no_handler None e V V' ext per) }
    floor-raised e (handled_body s h h' hs hs' V V' im ext per) = handler-taken s e (handler_then h hs) V V' (handler-alike x e im) ext per
    floor-raised e (taken_handler s hs y V V' ext per) = record { follows = behind _ _ (unit_left s hs (Some y) e V V' ext per) }
    floor-raised e (accept_body a) = record { follows = behind _ _ (body_left e a) }

    floor-apart : {name : Option Word} {turns : Turns} {l : PStmts} {p' : Around} {o o' : List PFrame} {V V' : Variables} → ReplayFloor x u B (Loop name turns l) o V p' o' V' → ⊥
    floor-apart f = elim f [ ]

    floor-floors : AreFloors (over_floors x u B)
    floor-floors = record {
      apart = λ name turns l p' o o' V V' f. floor-apart f;
      over = λ p p' o o' V V' f. floor-over f;
      raised = λ e p p' o o' V V' f. floor-raised e f;
    }

    module _ (below : AreScopes (on_floors x B)) where
      floor-sees : {p p' : Around} {o o' : List PFrame} {V V' : Variables} → ReplayFloor x u B p o V p' o' V' → SeeAlike x.programs V V'
      floor-sees (plain_body s V V' ext per) = extends-sees x.programs types ext
      floor-sees (handled_body s h h' hs hs' V V' im ext per) = extends-sees x.programs types ext
      floor-sees (taken_handler s hs e V V' ext per) = extends-sees x.programs types ext
      floor-sees (accept_body a) = own-sees x.programs types a.are_open (below.sees a.place a.place' a.outer a.outer' a.vars a.vars' a.below)

      from-fronts : (a : OpenAccept x B) {W W' : Variables} → Fronts x.programs (λ V V'. B a.place a.outer V a.place' a.outer' V') a.formals W W' →
          ReplayFloor x u B (Opened a.caller a.formals None) (frame a.row a.place ∷ a.outer) W (Block (ends_body u a.span)) (body_frame u a.span a.caller a.formals ∷ frames_outside u a) W'
      from-fronts a (fronts bs W W' own f) = accept_body (record a { vars = W; vars' = W'; below = f; objects = bs; are_open = own })

      floor-set : (id : NameId) (k : ℕ) (v : Value) → IsOld x.programs id → IsKnown x.programs v → {p p' : Around} {o o' : List PFrame} {V V' : Variables} → ReplayFloor x u B p o V p' o' V' →
          ReplayFloor x u B p o (set_value V id k v) p' o' (set_value V' id k v)
      floor-set id k v old known (plain_body s V V' ext per) = plain_body s _ _ (extends-set x.programs types id k v old known ext) (permit-any u V' id k v per)
      floor-set id k v old known (handled_body s h h' hs hs' V V' im ext per) = handled_body s h h' hs hs' _ _ im (extends-set x.programs types id k v old known ext) (permit-any u V' id k v per)
      floor-set id k v old known (taken_handler s hs e V V' ext per) = taken_handler s hs e _ _ (extends-set x.programs types id k v old known ext) (permit-any u V' id k v per)
      floor-set id k v old known (accept_body a) =
          from-fronts a (own-set x.programs types {B = λ W W'. B a.place a.outer W a.place' a.outer' W'} id k v known a.are_open a.vars a.vars' a.below (below.set a.place a.place' a.outer a.outer' a.vars a.vars' id k v old known a.below))

      floor-add : (id : NameId) (k : ℕ) (v : Value) → x.programs.is_old id.0 ≡ false → {p p' : Around} {o o' : List PFrame} {V V' : Variables} → ReplayFloor x u B p o V p' o' V' →
          ReplayFloor x u B p o V p' o' (set_value V' id k v)
      floor-add id k v fresh (plain_body s V V' ext per) = plain_body s _ _ (extends-add x.programs types id k v fresh ext) (permit-any u V' id k v per)
      floor-add id k v fresh (handled_body s h h' hs hs' V V' im ext per) = handled_body s h h' hs hs' _ _ im (extends-add x.programs types id k v fresh ext) (permit-any u V' id k v per)
      floor-add id k v fresh (taken_handler s hs e V V' ext per) = taken_handler s hs e _ _ (extends-add x.programs types id k v fresh ext) (permit-any u V' id k v per)
      floor-add id k v fresh (accept_body a) =
          from-fronts a (own-add x.programs types {B = λ W W'. B a.place a.outer W a.place' a.outer' W'} id k v fresh a.are_open a.vars a.vars' (below.add a.place a.place' a.outer a.outer' a.vars a.vars' id k v fresh a.below))

      floor-handled : {p p' : Around} {o o' : List PFrame} {V V' : Variables} → ReplayFloor x u B p o V p' o' V' → handled_around p o ≡ handled_around p' o'
      floor-handled (plain_body s V V' ext per) = refl
      floor-handled (handled_body s h h' hs hs' V V' im ext per) = refl
      floor-handled (taken_handler s hs e V V' ext per) = refl
      floor-handled (accept_body a) = below.handled a.place a.place' a.outer a.outer' a.vars a.vars' a.below

      floor-scopes : AreScopes (over_floors x u B)
      floor-scopes = record {
        sees = λ p p' o o' V V' f. floor-sees f;
        set = λ p p' o o' V V' id k v old known f. floor-set id k v old known f;
        add = λ p p' o o' V V' id k v fresh f. floor-add id k v fresh f;
        handled = λ p p' o o' V V' f. floor-handled f;
      }

  -- ---- any number of open accept bodies

  -- on no floor nothing has to hold
  none-scopes : AreScopes (on_floors x no_floor)
  none-scopes = record { sees = λ p q o r V W f. absurd f; set = λ p q o r V W name k v old known f. absurd f; add = λ p q o r V W name k v new f. absurd f; handled = λ p q o r V W f. absurd f }

  under-scopes : (B : Standing) → IsTranslation (over_floors x u B) → AreScopes (on_floors x (Under (over_floors x u B)))
  under-scopes B laws = record {
    sees = λ p p' o o' V V' f. sees-alike (over_floors x u B) laws f;
    set = λ p p' o o' V V' id k v old known f. set-alike (over_floors x u B) laws id k v old known f;
    add = λ p p' o o' V V' id k v fresh f. add-alike (over_floors x u B) laws id k v fresh f;
    handled = λ p p' o o' V V' f. handled-alike (over_floors x u B) laws f;
  }

  pub levels : (k : ℕ) → IsTranslation (over_floors x u (below_at x u k))
  levels zero = record { types = types; images = images; scopes = floor-scopes no_floor none-scopes; floors = floor-floors no_floor }
  levels (suc k) = record {
    types = types;
    images = images;
    scopes = floor-scopes (Under (over_floors x u (below_at x u k))) (under-scopes (below_at x u k) (levels k));
    floors = floor-floors (Under (over_floors x u (below_at x u k)));
  }

  pub up : (k : ℕ) {c d : Control} → Settle (over_floors x u (below_at x u k)) c d → Settle (into_replay x u) c d
  up k h = settle-map x (ReplayFloor x u (below_at x u k)) (into_replay x u).floor (AtAsking x u (below_at x u k)) (into_replay x u).beyond (λ p p' o o' V V' f. (k, f)) (λ c d b. (k, b)) h

  -- what holds on each of the floors holds on all
  all-scopes : AreScopes (into_replay x u)
  all-scopes = record {
    sees = λ p q o r V W f. scopes-at f.0 p q o r V W f.1;
    set = λ p q o r V W name k v old known f. (f.0, (levels f.0).scopes.set p q o r V W name k v old known f.1);
    add = λ p q o r V W name k v new f. (f.0, (levels f.0).scopes.add p q o r V W name k v new f.1);
    handled = λ p q o r V W f. (levels f.0).scopes.handled p q o r V W f.1;
  }
    where
      scopes-at : (k : ℕ) (p q : Around) (o r : List PFrame) (V W : Variables) → ReplayFloor x u (below_at x u k) p o V q r W → SeeAlike x.programs V W
      scopes-at k = (levels k).scopes.sees

  all-floors : AreFloors (into_replay x u)
  all-floors = record {
    apart = λ name turns l q o r V W f. (levels f.0).floors.apart name turns l q o r V W f.1;
    over = λ p q o r V W f. up f.0 ((levels f.0).floors.over p q o r V W f.1);
    raised = λ e p q o r V W f. up f.0 ((levels f.0).floors.raised e p q o r V W f.1);
  }

  pub is-translation : IsTranslation (into_replay x u)
  is-translation = record { types = types; images = images; scopes = all-scopes; floors = all-floors }

-- ---- the permit is there

module _ (x : Rewriting) (u : RewrittenUnit) (new : IsPermitAdded x.programs u) where
  -- an old name is none of the permit's
  old-apart : (o : Object) → IsOld x.programs o.name → (name : NameId) → x.programs.is_old name.0 ≡ false → (o.name.0 == name.0) ≡ false
  old-apart o old name fresh = by_test (o.name.0 == name.0) refl
    where
      by_test : (c : Bool) → (o.name.0 == name.0) ≡ c → c ≡ false
      by_test false e = refl
      by_test true e = absurd (true≢false (sym old ∙ ap x.programs.is_old (eqb-true o.name.0 name.0 e) ∙ fresh))

  permit-behind : (o : Object) → IsOld x.programs o.name → (W : Variables) → HasPermit u W → HasPermit u (o ∷ W)
  permit-behind o old W h = record {
    kind = cell-behind o W _ integer_limits (old-apart o old _ new.kind) h.kind;
    argument = cell-behind o W _ integer_limits (old-apart o old _ new.argument) h.argument;
    index = cell-behind o W _ integer_limits (old-apart o old _ new.index) h.index;
  }

  permit-formals : {fs : List FormalParameter} {bs : List Object} → AreOpen x.programs fs bs → (W : Variables) → HasPermit u W → HasPermit u (bs ++ W)
  permit-formals none_open W h = h
  permit-formals (open_then f o fs rest old known k) W h = permit-behind o old (rest ++ W) (permit-formals k W h)

  permit-on : (B : Standing) → ((p p' : Around) (o o' : List PFrame) (V W : Variables) → B p o V p' o' W → HasPermit u W) → {p p' : Around} {o o' : List PFrame} {V W : Variables} → ReplayFloor x u B p o V p' o' W → HasPermit u W
  permit-on B h (plain_body s V W ext per) = per
  permit-on B h (handled_body s hd hd' hs hs' V W im ext per) = per
  permit-on B h (taken_handler s hs e V W ext per) = per
  permit-on B h (accept_body a) = permit-formals a.are_open a.vars' (h a.place a.place' a.outer a.outer' a.vars a.vars' a.below)

  permit-under : (y : Translation) → y.text ≡ x → ((p p' : Around) (o o' : List PFrame) (V W : Variables) → y.floor p o V p' o' W → HasPermit u W) → {p p' : Around} {o o' : List PFrame} {V W : Variables} → Under y p o V p' o' W → HasPermit u W
  permit-under y e h (on_floor f) = h _ _ _ _ _ _ f
  permit-under y e h (in_block hs hs' r r' k im v) = permit-under y e h v
  permit-under y e h (in_handler z r r' im v) = permit-under y e h v
  permit-under y e h (in_endless name l l' r r' k im v) = permit-under y e h v
  permit-under y e h (in_while name z l l' r r' old k im v) = permit-under y e h v
  permit-under y e h (in_count {V' = V'} name backwards last l l' r r' b old known k im v) = permit-behind b (subst (λ t. IsOld t.programs b.name) e old) V' (permit-under y e h v)

  permit-at : (k : ℕ) (p p' : Around) (o o' : List PFrame) (V W : Variables) → below_at x u k p o V p' o' W → HasPermit u W
  permit-at zero p p' o o' V W f = absurd f
  permit-at (suc k) p p' o o' V W f = permit-under (over_floors x u (below_at x u k)) refl (λ q q' a a' V1 W1 g. permit-on (below_at x u k) (permit-at k) g) f

  -- the image has its permit wherever it stands
  pub permit-there : {p p' : Around} {o o' : List PFrame} {V W : Variables} → Under (into_replay x u) p o V p' o' W → HasPermit u W
  permit-there f = permit-under (into_replay x u) refl (λ q q' a a' V W g. permit-on (below_at x u g.0) (permit-at g.0) g.1) f
