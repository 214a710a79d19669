-- The floors of the normal form: ends, exceptions and names in the unit's own body and in accept bodies.
use Rattle.std.proofs.Common.{◌≡◌, ℕ, zero, suc, false, cond, List, [], ◌∷◌, ◌++◌, Option, Some, None, refl, ap, ◌∙◌}
use Rattle.ada_tree.specs.declared.naming.NameId.{NameId}
use Rattle.ada_tree.specs.declared.naming.Word.{Word}
use Rattle.ada_tree.specs.PlainStmt.{PStmt, PStmts, no_stmt, stmt_then, PHandlers}
use Rattle.ada_value.specs.declared.values.Value.{Value}
use Rattle.ada_value.specs.declared.values.Raised.{Raised}
use Rattle.ada_value.specs.Variables.{Object, Variables, object_named, set_value}
use Rattle.task_model.specs.declared.parameters.FormalParameter.{FormalParameter}
use Rattle.task_model.specs.Frames.{Turns, Around, Loop, Opened, PFrame, Control, control, unit_with, raised_in, exited_in}
use Rattle.task_laws.specs.translation.Translations.{Standing, Rewriting, IsOld, IsKnown}
use Rattle.task_laws.specs.translation.Scopes.{AgreeOnTypes, SeeAlike}
use Rattle.task_laws.specs.translation.Images.{ImageHandlers, IsEmpty, nothing_there, IsSomething, something_there, AreImages}
use Rattle.task_laws.specs.translation.Controls.{frame, Under, on_floor, in_block, in_handler, in_endless, in_while, in_count, inside, Settle}
use Rattle.task_laws.specs.translation.Floors.{handled_around, AreScopes, AreFloors, AreExits, IsTranslation}
use Rattle.task_laws.specs.translation.Itself.{Nowhere}
use Rattle.task_laws.proofs.translation.Handlers.{Taken, not_taken, taken, handler-alike}
use Rattle.task_laws.proofs.translation.Frames.{sees-alike, set-alike, add-alike, handled-alike}
use Rattle.task_laws.proofs.translation.Mapping.{settle-map}
use Rattle.normal_laws.specs.runs.floors.NormalFloors.{Extends, AreOpen, none_open, open_then, NormalFloor, own_body, accept_body, no_floor, on_floors, floor_at, normal_floor, normal}
use Rattle.task_model.specs.Setting.{Setting}
use Rattle.normal_model.specs.Names.{variable_name}
use Rattle.normal_laws.specs.runs.floors.Preludes.{Added, AreThere}
use Rattle.normal_laws.proofs.runs.floors.Cells.{there-any, apart-old}
use Rattle.normal_laws.proofs.runs.floors.Extending.{extends-sees, extends-set, extends-add, own-sees, own-set, own-add, Fronts, fronts}

module _ (x : Rewriting) (images : AreImages x) (types : AgreeOnTypes x.programs) {g : Setting} (added : Added x.programs g) where
  -- ---- floors over what may stand below

  module _ (B : Standing) where
    floor-over : {p p' : Around} {o o' : List PFrame} {V V' : Variables} → NormalFloor x added B p o V p' o' V' → Settle (on_floors x (NormalFloor x added B)) (control no_stmt p o V) (control no_stmt p' o' V')
    floor-over (own_body hs hs' handling V V' h e c) = record { follows = inside no_stmt no_stmt images.empty (on_floor (own_body hs hs' handling V V' h e c)) }
    floor-over (accept_body p p' o o' V V' caller formals pending r r' bs own im below) =
        record { follows = inside no_stmt no_stmt images.empty (on_floor (accept_body p p' o o' V V' caller formals pending r r' bs own im below)) }

    floor-empty : {r' : PStmts} → IsEmpty r' → {p p' : Around} {o o' : List PFrame} {V V' : Variables} → NormalFloor x added B p o V p' o' V' →
        Settle (on_floors x (NormalFloor x added B)) (control no_stmt p o V) (control r' p' o' V')
    floor-empty nothing_there f = floor-over f

    floor-some : (s : PStmt) (l : PStmts) {r' : PStmts} → x.image (stmt_then s l) r' → IsSomething r' → {p p' : Around} {o o' : List PFrame} {V V' : Variables} → NormalFloor x added B p o V p' o' V' →
        Settle (on_floors x (NormalFloor x added B)) (control (stmt_then s l) p o V) (control r' p' o' V')
    floor-some s l im (something_there s' l') f = record { follows = inside (stmt_then s l) (stmt_then s' l') im (on_floor f) }

    floor-row : (r r' : PStmts) → x.image r r' → {p p' : Around} {o o' : List PFrame} {V V' : Variables} → NormalFloor x added B p o V p' o' V' →
        Settle (on_floors x (NormalFloor x added B)) (control r p o V) (control r' p' o' V')
    floor-row no_stmt r' im f = floor-empty (images.nothing r' im) f
    floor-row (stmt_then s l) r' im f = floor-some s l im (images.something s l r' im) f

    unit-taken : (e : Raised) (hs hs' : PHandlers) (V V' : Variables) {t t' : Option PStmts} → Taken x t t' → ImageHandlers x hs hs' → Extends x.programs V V' → AreThere added V' →
        Settle (on_floors x (NormalFloor x added B)) (unit_with t e hs [] V) (unit_with t' e hs' [] V')
    unit-taken e hs hs' V V' not_taken h ext c = floor-over (own_body hs hs' None V V' h ext c)
    unit-taken e hs hs' V V' (taken l l' im) h ext c = floor-row l l' im (own_body hs hs' (Some e) V V' h ext c)

    floor-raised : (e : Raised) {p p' : Around} {o o' : List PFrame} {V V' : Variables} → NormalFloor x added B p o V p' o' V' → Settle (on_floors x (NormalFloor x added B)) (raised_in e o p V) (raised_in e o' p' V')
    floor-raised e (own_body hs hs' None V V' h ext c) = unit-taken e hs hs' V V' (handler-alike x e h) h ext c
    floor-raised e (own_body hs hs' (Some y) V V' h ext c) = floor-over (own_body hs hs' (Some y) V V' h ext c)
    floor-raised e (accept_body p p' o o' V V' caller formals pending r r' bs own im below) = floor-over (accept_body p p' o o' V V' caller formals (Some e) r r' bs own im below)

    floor-exited : (w : Option Word) {p p' : Around} {o o' : List PFrame} {V V' : Variables} → NormalFloor x added B p o V p' o' V' → Settle (on_floors x (NormalFloor x added B)) (exited_in w o p V) (exited_in w o' p' V')
    floor-exited w (own_body hs hs' handling V V' h ext c) = floor-over (own_body hs hs' handling V V' h ext c)
    floor-exited w (accept_body p p' o o' V V' caller formals pending r r' bs own im below) = floor-over (accept_body p p' o o' V V' caller formals pending r r' bs own im below)

    floor-apart : {name : Option Word} {turns : Turns} {l : PStmts} {p' : Around} {o o' : List PFrame} {V V' : Variables} → NormalFloor x added B (Loop name turns l) o V p' o' V' → ⊥
    floor-apart f = elim f [ ]

    floor-floors : AreFloors (on_floors x (NormalFloor x added B))
    floor-floors = record {
      apart = λ name turns l p' o o' V V' f. floor-apart f;
      over = λ p p' o o' V V' f. floor-over f;
      raised = λ e p p' o o' V V' f. floor-raised e f;
    }

    floor-exits : AreExits (on_floors x (NormalFloor x added B))
    floor-exits = record { exited = λ w p p' o o' V V' f. floor-exited w f }

    module _ (below : AreScopes (on_floors x B)) where
      floor-sees : {p p' : Around} {o o' : List PFrame} {V V' : Variables} → NormalFloor x added B p o V p' o' V' → SeeAlike x.programs V V'
      floor-sees (own_body hs hs' handling V V' h ext c) = extends-sees x.programs types ext
      floor-sees (accept_body p p' o o' V V' caller formals pending r r' bs own im u) = own-sees x.programs types own (below.sees p p' o o' V V' u)

      from-fronts : {p p' : Around} {o o' : List PFrame} (caller : ℕ) (formals : List FormalParameter) (pending : Option Raised) (r r' : PStmts) → x.image r r' → {W W' : Variables} →
          Fronts x.programs (λ V V'. B p o V p' o' V') formals W W' → NormalFloor x added B (Opened caller formals pending) (frame r p ∷ o) W (Opened caller formals pending) (frame r' p' ∷ o') W'
      from-fronts {p} {p'} {o} {o'} caller formals pending r r' im (fronts bs W W' own u) = accept_body p p' o o' W W' caller formals pending r r' bs own im u

      floor-set : (id : NameId) (k : ℕ) (v : Value) → IsOld x.programs id → IsKnown x.programs v → {p p' : Around} {o o' : List PFrame} {V V' : Variables} → NormalFloor x added B p o V p' o' V' →
          NormalFloor x added B p o (set_value V id k v) p' o' (set_value V' id k v)
      floor-set id k v old known (own_body hs hs' handling V V' h ext c) = own_body hs hs' handling _ _ h (extends-set x.programs types id k v old known ext) (there-any added V' id k v c)
      floor-set id k v old known (accept_body p p' o o' V V' caller formals pending r r' bs own im u) =
          from-fronts caller formals pending r r' im (own-set x.programs types {B = λ W W'. B p o W p' o' W'} id k v known own V V' u (below.set p p' o o' V V' id k v old known u))

      floor-add : (id : NameId) (k : ℕ) (v : Value) → x.programs.is_old id.0 ≡ false → {p p' : Around} {o o' : List PFrame} {V V' : Variables} → NormalFloor x added B p o V p' o' V' →
          NormalFloor x added B p o V p' o' (set_value V' id k v)
      floor-add id k v fresh (own_body hs hs' handling V V' h ext c) = own_body hs hs' handling _ _ h (extends-add x.programs types id k v fresh ext) (there-any added V' id k v c)
      floor-add id k v fresh (accept_body p p' o o' V V' caller formals pending r r' bs own im u) =
          from-fronts caller formals pending r r' im (own-add x.programs types {B = λ W W'. B p o W p' o' W'} id k v fresh own V V' (below.add p p' o o' V V' id k v fresh u))

      floor-handled : {p p' : Around} {o o' : List PFrame} {V V' : Variables} → NormalFloor x added B p o V p' o' V' → handled_around p o ≡ handled_around p' o'
      floor-handled (own_body hs hs' handling V V' h ext c) = refl
      floor-handled (accept_body p p' o o' V V' caller formals pending r r' bs own im u) = below.handled p p' o o' V V' u

      floor-scopes : AreScopes (on_floors x (NormalFloor x added B))
      floor-scopes = record {
        sees = λ p p' o o' V V' f. floor-sees f;
        set = λ p p' o o' V V' id k v old known f. floor-set id k v old known f;
        add = λ p p' o o' V V' id k v fresh f. floor-add id k v fresh f;
        handled = λ p p' o o' V V' f. floor-handled f;
      }

  -- ---- any number of open accept bodies

  none-scopes : AreScopes (on_floors x no_floor)
  none-scopes = record {
    sees = λ p p' o o' V V' f. absurd f;
    set = λ p p' o o' V V' id k v old known f. absurd f;
    add = λ p p' o o' V V' id k v fresh f. absurd f;
    handled = λ p p' o o' V V' f. absurd f;
  }

  under-scopes : (F : Standing) → IsTranslation (on_floors x F) → AreScopes (on_floors x (Under (on_floors x F)))
  under-scopes F laws = record {
    sees = λ p p' o o' V V' u. sees-alike (on_floors x F) laws u;
    set = λ p p' o o' V V' id k v old known u. set-alike (on_floors x F) laws id k v old known u;
    add = λ p p' o o' V V' id k v fresh u. add-alike (on_floors x F) laws id k v fresh u;
    handled = λ p p' o o' V V' u. handled-alike (on_floors x F) laws u;
  }

  pub levels : (k : ℕ) → IsTranslation (on_floors x (floor_at x added k))
  levels zero = record { types = types; images = images; scopes = floor-scopes no_floor none-scopes; floors = floor-floors no_floor }
  levels (suc k) = record {
    types = types;
    images = images;
    scopes = floor-scopes (Under (on_floors x (floor_at x added k))) (under-scopes (floor_at x added k) (levels k));
    floors = floor-floors (Under (on_floors x (floor_at x added k)));
  }

  up : (k : ℕ) {c d : Control} → Settle (on_floors x (floor_at x added k)) c d → Settle (normal x added) c d
  up k h = settle-map x (floor_at x added k) (normal_floor x added) Nowhere Nowhere (λ p p' o o' V V' f. (k, f)) (λ c d b. b) h

  pub normal-translates : IsTranslation (normal x added)
  normal-translates = record {
    types = types;
    images = images;
    scopes = record {
      sees = λ p p' o o' V V' f. (levels f.0).scopes.sees p p' o o' V V' f.1;
      set = λ p p' o o' V V' id k v old known f. (f.0, (levels f.0).scopes.set p p' o o' V V' id k v old known f.1);
      add = λ p p' o o' V V' id k v fresh f. (f.0, (levels f.0).scopes.add p p' o o' V V' id k v fresh f.1);
      handled = λ p p' o o' V V' f. (levels f.0).scopes.handled p p' o o' V V' f.1;
    };
    floors = record {
      apart = λ name turns l p' o o' V V' f. (levels f.0).floors.apart name turns l p' o o' V V' f.1;
      over = λ p p' o o' V V' f. up f.0 ((levels f.0).floors.over p p' o o' V V' f.1);
      raised = λ e p p' o o' V V' f. up f.0 ((levels f.0).floors.raised e p p' o o' V V' f.1);
    };
  }

  exits-at : (k : ℕ) → AreExits (on_floors x (floor_at x added k))
  exits-at zero = floor-exits no_floor
  exits-at (suc k) = floor-exits (Under (on_floors x (floor_at x added k)))

  pub normal-exits : AreExits (normal x added)
  normal-exits = record { exited = λ w p p' o o' V V' f. up f.0 ((exits-at f.0).exited w p p' o o' V V' f.1) }

  -- ---- the added variables are there

  there-front : (o : Object) → IsOld x.programs o.name → (W : Variables) → AreThere added W → AreThere added (o ∷ W)
  there-front o old W there j l = let h = there j l in (h.0, record { name = h.1.name; found = ap (λ t. cond t (Some o) (object_named W (variable_name g j))) (apart-old added o.name old j l) ∙ h.1.found })

  there-formals : {fs : List FormalParameter} {bs : List Object} → AreOpen x.programs fs bs → (W : Variables) → AreThere added W → AreThere added (bs ++ W)
  there-formals none_open W there = there
  there-formals (open_then f o fs rest old known h) W there = there-front o old (rest ++ W) (there-formals h W there)

  there-under : (F : Standing) → ((p p' : Around) (o o' : List PFrame) (V W : Variables) → F p o V p' o' W → AreThere added W) → {p p' : Around} {o o' : List PFrame} {V W : Variables} →
      Under (on_floors x F) p o V p' o' W → AreThere added W
  there-under F h (on_floor f) = h _ _ _ _ _ _ f
  there-under F h (in_block hs hs' r r' k im u) = there-under F h u
  there-under F h (in_handler e r r' im u) = there-under F h u
  there-under F h (in_endless name l l' r r' k im u) = there-under F h u
  there-under F h (in_while name e l l' r r' old k im u) = there-under F h u
  there-under F h (in_count {V' = V'} name backwards last l l' r r' b old known k im u) = there-front b old V' (there-under F h u)

  there-at : (k : ℕ) (p p' : Around) (o o' : List PFrame) (V W : Variables) → floor_at x added k p o V p' o' W → AreThere added W
  there-at zero p p' o o' V W (own_body hs hs' handling V1 V1' h ext c) = c
  there-at zero p p' o o' V W (accept_body q q' a a' V1 V1' caller formals pending r r' bs own im below) = absurd below
  there-at (suc k) p p' o o' V W (own_body hs hs' handling V1 V1' h ext c) = c
  there-at (suc k) p p' o o' V W (accept_body q q' a a' V1 V1' caller formals pending r r' bs own im u) = there-formals own V1' (there-under (floor_at x added k) (there-at k) u)

  pub are-there : {p p' : Around} {o o' : List PFrame} {V W : Variables} → Under (normal x added) p o V p' o' W → AreThere added W
  are-there u = there-under (normal_floor x added) (λ p p' o o' V W f. there-at f.0 p p' o o' V W f.1) u
