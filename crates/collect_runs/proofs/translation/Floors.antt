-- The floors of a collecting text: ends, exceptions and names in the unit's own body and in accept bodies.
use Rattle.std.proofs.Common.{subst, true≢false, ◌≡◌, ℕ, zero, suc, Bool, true, false, ◌==◌, cond, if◌then◌else◌, List, [], ◌∷◌, ◌++◌, Option, Some, None, refl, sym, ap, ◌∙◌}
use Rattle.std.proofs.lemmas.Bool.{eqb-true}
use Rattle.ada_tree.specs.declared.naming.NameId.{NameId}
use Rattle.ada_tree.specs.declared.naming.Span.{Span}
use Rattle.ada_tree.specs.declared.naming.Word.{Word}
use Rattle.ada_tree.specs.PlainStmt.{PStmt, PStmts, no_stmt, stmt_then, PHandlers, no_handler, handler_then}
use Rattle.ada_value.specs.declared.values.Value.{Value}
use Rattle.ada_value.specs.declared.values.Raised.{Raised}
use Rattle.ada_value.specs.Values.{integer_limits, truth_limits}
use Rattle.ada_value.specs.Variables.{Object, Variables, object_named, with_value, set_value}
use Rattle.task_model.specs.declared.parameters.FormalParameter.{FormalParameter}
use Rattle.task_model.specs.Frames.{Turns, Around, Block, Loop, Opened, PFrame, Control, control, unit_with, block_with, raised_in}
use Rattle.task_laws.specs.translation.Translations.{Standing, Programs, Rewriting, Translation, IsOld, IsKnown}
use Rattle.task_laws.specs.translation.Scopes.{AgreeOnTypes, SameObject, SeeAlike}
use Rattle.task_laws.specs.translation.Images.{ImageHandlers, IsEmpty, nothing_there, IsSomething, something_there, AreImages}
use Rattle.task_laws.specs.translation.Controls.{frame, Under, on_floor, in_block, in_handler, in_endless, in_while, in_count, LeavesLoop, inside, behind, Settle}
use Rattle.task_laws.specs.translation.Floors.{handled_around, AreScopes, AreFloors, AreClosed, IsTranslation}
use Rattle.task_laws.proofs.translation.Handlers.{Taken, not_taken, taken, handler-alike}
use Rattle.task_laws.proofs.translation.Frames.{sees-alike, set-alike, add-alike, handled-alike}
use Rattle.task_laws.proofs.translation.Mapping.{settle-map}
use Rattle.normal_laws.specs.runs.floors.NormalFloors.{Extends, AreOpen, none_open, open_then, no_floor, on_floors}
use Rattle.normal_laws.proofs.runs.floors.Cells.{cell-any, cell-behind}
use Rattle.normal_laws.proofs.runs.floors.Extending.{Fronts, fronts, extends-sees, extends-set, extends-add, own-sees, own-set, own-add}
use Rattle.collect_model.specs.declared.AddedNames.{AddedNames}
use Rattle.collect_model.specs.Teller.{Teller}
use Rattle.collect_runs.specs.translation.Floors.{HasVariables, AreNamesAdded, ends_unit, ends_body, unit_frame, unit_block, body_frame, formals_there, frames_outside, OpenAccept, CollectFloor, main_body, plain_body, handled_body, taken_handler, accept_body, AtTelling, unit_over, unit_left, body_over, body_left, over_floors, below_at, into_collecting}

-- ---- the variables of a unit

pub variables-any : (n : AddedNames) (V : Variables) (id : NameId) (k : ℕ) (v : Value) → HasVariables n V → HasVariables n (set_value V id k v)
variables-any n V id k v h = record { answer = cell-any V id k v _ truth_limits h.answer; part = cell-any V id k v _ integer_limits h.part }

-- ---- a variable of an added name in front of those of the image

module _ (b : Programs) (o : Object) (new : b.is_old o.name.0 ≡ false) where
  -- an old name is another one
  new-apart : (id : NameId) → IsOld b id → (o.name.0 == id.0) ≡ false
  new-apart id old = go (o.name.0 == id.0) refl
    where
      go : (t : Bool) → (o.name.0 == id.0) ≡ t → t ≡ false
      go false e = refl
      go true e = absurd (true≢false (sym old ∙ ap b.is_old (sym (eqb-true o.name.0 id.0 e)) ∙ new))

  pub new-sees : {V V' : Variables} → SeeAlike b V V' → SeeAlike b V (o ∷ V')
  new-sees {V} {V'} see = record { named = λ id old. subst (λ t. SameObject b (object_named V id) (cond t (Some o) (object_named V' id))) (sym (new-apart id old)) (see.named id old) }

  -- an assignment to an old name passes it
  new-set : (W : Variables) (id : NameId) (k : ℕ) (v : Value) → IsOld b id → set_value (o ∷ W) id k v ≡ o ∷ set_value W id k v
  new-set W id k v old = ap (λ t. if t then with_value o k v ∷ W else o ∷ set_value W id k v) (new-apart id old)

-- ---- exits

module _ (y : Rewriting) (x : Teller) where
  floor-shut : (B : Standing) (w : Option Word) {p p' : Around} {o o' : List PFrame} {V V' : Variables} → CollectFloor y x B p o V p' o' V' → LeavesLoop w p o → ⊥
  floor-shut B w (main_body hs hs' handling V V' main im ext there) at = elim at [ ]
  floor-shut B w (plain_body s V V' task ext there) at = elim at [ ]
  floor-shut B w (handled_body s h h' hs hs' V V' task im ext there) at = elim at [ ]
  floor-shut B w (taken_handler s hs e V V' task ext there) at = elim at [ ]
  floor-shut B w (accept_body a) at = elim at [ ]

  pub is-closed : AreClosed (into_collecting y x)
  is-closed = record { closed = λ w p p' o o' V V' f at. floor-shut (below_at y x f.0) w f.1 at }

module _ (y : Rewriting) (images : AreImages y) (types : AgreeOnTypes y.programs) (x : Teller) where
  -- ---- floors over what may stand below

  module _ (B : Standing) where
    floor-over : {p p' : Around} {o o' : List PFrame} {V V' : Variables} → CollectFloor y x B p o V p' o' V' → Settle (over_floors y x B) (control no_stmt p o V) (control no_stmt p' o' V')
    floor-over (main_body hs hs' handling V V' main im ext there) = record { follows = inside no_stmt no_stmt images.empty (on_floor (main_body hs hs' handling V V' main im ext there)) }
    floor-over (plain_body s V V' task ext there) = record { follows = behind _ _ (unit_over s no_handler None V V' task ext there) }
    floor-over (handled_body s h h' hs hs' V V' task im ext there) = record { follows = behind _ _ (unit_over s (handler_then h hs) None V V' task ext there) }
    floor-over (taken_handler s hs e V V' task ext there) = record { follows = behind _ _ (unit_over s hs (Some e) V V' task ext there) }
    floor-over (accept_body a) = record { follows = behind _ _ (body_over a) }

    floor-empty : {r' : PStmts} → IsEmpty r' → {p p' : Around} {o o' : List PFrame} {V V' : Variables} → CollectFloor y x B p o V p' o' V' →
        Settle (over_floors y x B) (control no_stmt p o V) (control r' p' o' V')
    floor-empty nothing_there f = floor-over f

    floor-some : (s : PStmt) (l : PStmts) {r' : PStmts} → y.image (stmt_then s l) r' → IsSomething r' → {p p' : Around} {o o' : List PFrame} {V V' : Variables} → CollectFloor y x B p o V p' o' V' →
        Settle (over_floors y x B) (control (stmt_then s l) p o V) (control r' p' o' V')
    floor-some s l im (something_there s' l') f = record { follows = inside (stmt_then s l) (stmt_then s' l') im (on_floor f) }

    -- a row on a floor and its image
    pub floor-row : (r r' : PStmts) → y.image r r' → {p p' : Around} {o o' : List PFrame} {V V' : Variables} → CollectFloor y x B p o V p' o' V' → Settle (over_floors y x B) (control r p o V) (control r' p' o' V')
    floor-row no_stmt r' im f = floor-empty (images.nothing r' im) f
    floor-row (stmt_then s l) r' im f = floor-some s l im (images.something s l r' im) f

    main-taken : (e : Raised) (hs hs' : PHandlers) (V V' : Variables) {t t' : Option PStmts} → Taken y t t' → (x.task == 0) ≡ true → ImageHandlers y hs hs' → Extends y.programs V V' → HasVariables x.added V' →
        Settle (over_floors y x B) (unit_with t e hs [] V) (unit_with t' e hs' [] V')
    main-taken e hs hs' V V' not_taken main im ext there = floor-over (main_body hs hs' None V V' main im ext there)
    main-taken e hs hs' V V' (taken l l' row) main im ext there = floor-row l l' row (main_body hs hs' (Some e) V V' main im ext there)

    handler-taken : (s : Span) (e : Raised) (hs : PHandlers) (V V' : Variables) {t t' : Option PStmts} → Taken y t t' → (x.task == 0) ≡ false → Extends y.programs V V' → HasVariables x.added V' →
        Settle (over_floors y x B) (unit_with t e hs [] V) (block_with t' e (unit_block s ∷ unit_frame x s ∷ []) V' (raised_in e (unit_frame x s ∷ []) (Block (ends_unit s)) V'))
    handler-taken s e hs V V' not_taken task ext there = record { follows = behind _ _ (unit_left s hs None e V V' task ext there) }
    handler-taken s e hs V V' (taken l l' im) task ext there = floor-row l l' im (taken_handler s hs e V V' task ext there)

    floor-raised : (e : Raised) {p p' : Around} {o o' : List PFrame} {V V' : Variables} → CollectFloor y x B p o V p' o' V' → Settle (over_floors y x B) (raised_in e o p V) (raised_in e o' p' V')
    floor-raised e (main_body hs hs' None V V' main im ext there) = main-taken e hs hs' V V' (handler-alike y e im) main im ext there
    floor-raised e (main_body hs hs' (Some z) V V' main im ext there) = floor-over (main_body hs hs' (Some z) V V' main im ext there)
    floor-raised e (plain_body s V V' task ext there) = record { follows = behind _ _ (unit_left s no_handler None e V V' task ext there) }
    floor-raised e (handled_body s h h' hs hs' V V' task im ext there) = handler-taken s e (handler_then h hs) V V' (handler-alike y e im) task ext there
    floor-raised e (taken_handler s hs z V V' task ext there) = record { follows = behind _ _ (unit_left s hs (Some z) e V V' task ext there) }
    floor-raised e (accept_body a) = record { follows = behind _ _ (body_left e a) }

    floor-apart : {name : Option Word} {turns : Turns} {l : PStmts} {p' : Around} {o o' : List PFrame} {V V' : Variables} → CollectFloor y x B (Loop name turns l) o V p' o' V' → ⊥
    floor-apart f = elim f [ ]

    floor-floors : AreFloors (over_floors y x B)
    floor-floors = record {
      apart = λ name turns l p' o o' V V' f. floor-apart f;
      over = λ p p' o o' V V' f. floor-over f;
      raised = λ e p p' o o' V V' f. floor-raised e f;
    }

    module _ (new : AreNamesAdded y.programs x.added) (below : AreScopes (on_floors y B)) where
      -- the variable of an accept body's caller has no old name
      own-new : (a : OpenAccept y x.added B) → y.programs.is_old a.own.name.0 ≡ false
      own-new a = subst (λ id. y.programs.is_old id.0 ≡ false) (sym a.named) new.caller

      floor-sees : {p p' : Around} {o o' : List PFrame} {V V' : Variables} → CollectFloor y x B p o V p' o' V' → SeeAlike y.programs V V'
      floor-sees (main_body hs hs' handling V V' main im ext there) = extends-sees y.programs types ext
      floor-sees (plain_body s V V' task ext there) = extends-sees y.programs types ext
      floor-sees (handled_body s h h' hs hs' V V' task im ext there) = extends-sees y.programs types ext
      floor-sees (taken_handler s hs e V V' task ext there) = extends-sees y.programs types ext
      floor-sees (accept_body a) = new-sees y.programs a.own (own-new a) (own-sees y.programs types a.are_open (below.sees a.place a.place' a.outer a.outer' a.vars a.vars' a.below))

      from-fronts : (a : OpenAccept y x.added B) (own : Object) → own.name ≡ x.added.caller → {W W' : Variables} → Fronts y.programs (λ V V'. B a.place a.outer V a.place' a.outer' V') a.formals W W' →
          CollectFloor y x B (Opened a.caller a.formals None) (frame a.row a.place ∷ a.outer) W
          (Block (ends_body x a.span)) (body_frame x a.span a.caller (formals_there a) ∷ frames_outside a) (own ∷ W')
      from-fronts a own named (fronts bs W W' opened f) = accept_body (record a { vars = W; vars' = W'; below = f; objects = bs; are_open = opened; own = own; named = named })

      floor-set : (id : NameId) (k : ℕ) (v : Value) → IsOld y.programs id → IsKnown y.programs v → {p p' : Around} {o o' : List PFrame} {V V' : Variables} → CollectFloor y x B p o V p' o' V' →
          CollectFloor y x B p o (set_value V id k v) p' o' (set_value V' id k v)
      floor-set id k v old known (main_body hs hs' handling V V' main im ext there) = main_body hs hs' handling _ _ main im (extends-set y.programs types id k v old known ext) (variables-any x.added V' id k v there)
      floor-set id k v old known (plain_body s V V' task ext there) = plain_body s _ _ task (extends-set y.programs types id k v old known ext) (variables-any x.added V' id k v there)
      floor-set id k v old known (handled_body s h h' hs hs' V V' task im ext there) = handled_body s h h' hs hs' _ _ task im (extends-set y.programs types id k v old known ext) (variables-any x.added V' id k v there)
      floor-set id k v old known (taken_handler s hs e V V' task ext there) = taken_handler s hs e _ _ task (extends-set y.programs types id k v old known ext) (variables-any x.added V' id k v there)
      floor-set id k v old known (accept_body a) =
          subst (λ W. CollectFloor y x B (Opened a.caller a.formals None) (frame a.row a.place ∷ a.outer) (set_value (a.objects ++ a.vars) id k v)
          (Block (ends_body x a.span)) (body_frame x a.span a.caller (formals_there a) ∷ frames_outside a) W) (sym (new-set y.programs a.own (own-new a) (a.objects ++ a.vars') id k v old))
          (from-fronts a a.own a.named
          (own-set y.programs types {B = λ W W'. B a.place a.outer W a.place' a.outer' W'} id k v known a.are_open a.vars a.vars' a.below (below.set a.place a.place' a.outer a.outer' a.vars a.vars' id k v old known a.below)))

      floor-add : (id : NameId) (k : ℕ) (v : Value) → y.programs.is_old id.0 ≡ false → {p p' : Around} {o o' : List PFrame} {V V' : Variables} → CollectFloor y x B p o V p' o' V' →
          CollectFloor y x B p o V p' o' (set_value V' id k v)
      floor-add id k v fresh (main_body hs hs' handling V V' main im ext there) = main_body hs hs' handling _ _ main im (extends-add y.programs types id k v fresh ext) (variables-any x.added V' id k v there)
      floor-add id k v fresh (plain_body s V V' task ext there) = plain_body s _ _ task (extends-add y.programs types id k v fresh ext) (variables-any x.added V' id k v there)
      floor-add id k v fresh (handled_body s h h' hs hs' V V' task im ext there) = handled_body s h h' hs hs' _ _ task im (extends-add y.programs types id k v fresh ext) (variables-any x.added V' id k v there)
      floor-add id k v fresh (taken_handler s hs e V V' task ext there) = taken_handler s hs e _ _ task (extends-add y.programs types id k v fresh ext) (variables-any x.added V' id k v there)
      floor-add id k v fresh (accept_body a) = go (a.own.name.0 == id.0)
        where
          go : (t : Bool) →
              CollectFloor y x B (Opened a.caller a.formals None) (frame a.row a.place ∷ a.outer) (a.objects ++ a.vars)
              (Block (ends_body x a.span)) (body_frame x a.span a.caller (formals_there a) ∷ frames_outside a)
              (if t then with_value a.own k v ∷ (a.objects ++ a.vars') else a.own ∷ set_value (a.objects ++ a.vars') id k v)
          go true = accept_body (record a { own = with_value a.own k v; named = a.named })
          go false = from-fronts a a.own a.named (own-add y.programs types {B = λ W W'. B a.place a.outer W a.place' a.outer' W'} id k v fresh a.are_open a.vars a.vars' (below.add a.place a.place' a.outer a.outer' a.vars a.vars' id k v fresh a.below))

      floor-handled : {p p' : Around} {o o' : List PFrame} {V V' : Variables} → CollectFloor y x B p o V p' o' V' → handled_around p o ≡ handled_around p' o'
      floor-handled (main_body hs hs' handling V V' main im ext there) = refl
      floor-handled (plain_body s V V' task ext there) = refl
      floor-handled (handled_body s h h' hs hs' V V' task im ext there) = refl
      floor-handled (taken_handler s hs e V V' task ext there) = refl
      floor-handled (accept_body a) = below.handled a.place a.place' a.outer a.outer' a.vars a.vars' a.below

      floor-scopes : AreScopes (over_floors y x B)
      floor-scopes = record {
        sees = λ p p' o o' V V' f. floor-sees f;
        set = λ p p' o o' V V' id k v old known f. floor-set id k v old known f;
        add = λ p p' o o' V V' id k v fresh f. floor-add id k v fresh f;
        handled = λ p p' o o' V V' f. floor-handled f;
      }

  -- ---- any number of open accept bodies

  -- on no floor nothing has to hold
  none-scopes : AreScopes (on_floors y no_floor)
  none-scopes = record { sees = λ p q o r V W f. absurd f; set = λ p q o r V W name k v old known f. absurd f; add = λ p q o r V W name k v new f. absurd f; handled = λ p q o r V W f. absurd f }

  under-scopes : (B : Standing) → IsTranslation (over_floors y x B) → AreScopes (on_floors y (Under (over_floors y x B)))
  under-scopes B laws = record {
    sees = λ p p' o o' V V' f. sees-alike (over_floors y x B) laws f;
    set = λ p p' o o' V V' id k v old known f. set-alike (over_floors y x B) laws id k v old known f;
    add = λ p p' o o' V V' id k v fresh f. add-alike (over_floors y x B) laws id k v fresh f;
    handled = λ p p' o o' V V' f. handled-alike (over_floors y x B) laws f;
  }

  pub up : (k : ℕ) {c d : Control} → Settle (over_floors y x (below_at y x k)) c d → Settle (into_collecting y x) c d
  up k h = settle-map y (CollectFloor y x (below_at y x k)) (into_collecting y x).floor (AtTelling y x (below_at y x k)) (into_collecting y x).beyond (λ p p' o o' V V' f. (k, f)) (λ c d b. (k, b)) h

  module _ (new : AreNamesAdded y.programs x.added) where
    pub levels : (k : ℕ) → IsTranslation (over_floors y x (below_at y x k))
    levels zero = record { types = types; images = images; scopes = floor-scopes no_floor new none-scopes; floors = floor-floors no_floor }
    levels (suc k) = record {
      types = types;
      images = images;
      scopes = floor-scopes (Under (over_floors y x (below_at y x k))) new (under-scopes (below_at y x k) (levels k));
      floors = floor-floors (Under (over_floors y x (below_at y x k)));
    }

    -- what holds on each of the floors holds on all
    all-scopes : AreScopes (into_collecting y x)
    all-scopes = record {
      sees = λ p q o r V W f. scopes-at f.0 p q o r V W f.1;
      set = λ p q o r V W name k v old known f. (f.0, (levels f.0).scopes.set p q o r V W name k v old known f.1);
      add = λ p q o r V W name k v fresh f. (f.0, (levels f.0).scopes.add p q o r V W name k v fresh f.1);
      handled = λ p q o r V W f. (levels f.0).scopes.handled p q o r V W f.1;
    }
      where
        scopes-at : (k : ℕ) (p q : Around) (o r : List PFrame) (V W : Variables) → CollectFloor y x (below_at y x k) p o V q r W → SeeAlike y.programs V W
        scopes-at k = (levels k).scopes.sees

    all-floors : AreFloors (into_collecting y x)
    all-floors = record {
      apart = λ name turns l q o r V W f. (levels f.0).floors.apart name turns l q o r V W f.1;
      over = λ p q o r V W f. up f.0 ((levels f.0).floors.over p q o r V W f.1);
      raised = λ e p q o r V W f. up f.0 ((levels f.0).floors.raised e p q o r V W f.1);
    }

    pub is-translation : IsTranslation (into_collecting y x)
    is-translation = record { types = types; images = images; scopes = all-scopes; floors = all-floors }

-- ---- the variables are there

module _ (y : Rewriting) (x : Teller) (new : AreNamesAdded y.programs x.added) where
  -- an old name is none of theirs
  old-apart : (o : Object) → IsOld y.programs o.name → (name : NameId) → y.programs.is_old name.0 ≡ false → (o.name.0 == name.0) ≡ false
  old-apart o old name fresh = by_test (o.name.0 == name.0) refl
    where
      by_test : (c : Bool) → (o.name.0 == name.0) ≡ c → c ≡ false
      by_test false e = refl
      by_test true e = absurd (true≢false (sym old ∙ ap y.programs.is_old (eqb-true o.name.0 name.0 e) ∙ fresh))

  variables-behind : (o : Object) → IsOld y.programs o.name → (W : Variables) → HasVariables x.added W → HasVariables x.added (o ∷ W)
  variables-behind o old W h = record {
    answer = cell-behind o W _ truth_limits (old-apart o old _ new.answer) h.answer;
    part = cell-behind o W _ integer_limits (old-apart o old _ new.part) h.part;
  }

  variables-formals : {fs : List FormalParameter} {bs : List Object} → AreOpen y.programs fs bs → (W : Variables) → HasVariables x.added W → HasVariables x.added (bs ++ W)
  variables-formals none_open W h = h
  variables-formals (open_then f o fs rest old known k) W h = variables-behind o old (rest ++ W) (variables-formals k W h)

  variables-own : (o : Object) → o.name ≡ x.added.caller → (W : Variables) → HasVariables x.added W → HasVariables x.added (o ∷ W)
  variables-own o named W h = record {
    answer = cell-behind o W _ truth_limits (ap (λ id. id.0 == x.added.answer.0) named ∙ new.caller_answer) h.answer;
    part = cell-behind o W _ integer_limits (ap (λ id. id.0 == x.added.part.0) named ∙ new.caller_part) h.part;
  }

  -- and so within an accept body
  pub variables-open : {B : Standing} (a : OpenAccept y x.added B) → HasVariables x.added a.vars' → HasVariables x.added (a.own ∷ (a.objects ++ a.vars'))
  variables-open a h = variables-own a.own a.named (a.objects ++ a.vars') (variables-formals a.are_open a.vars' h)

  variables-on : (B : Standing) → ((p p' : Around) (o o' : List PFrame) (V W : Variables) → B p o V p' o' W → HasVariables x.added W) → {p p' : Around} {o o' : List PFrame} {V W : Variables} →
      CollectFloor y x B p o V p' o' W → HasVariables x.added W
  variables-on B h (main_body hs hs' handling V W main im ext there) = there
  variables-on B h (plain_body s V W task ext there) = there
  variables-on B h (handled_body s hd hd' hs hs' V W task im ext there) = there
  variables-on B h (taken_handler s hs e V W task ext there) = there
  variables-on B h (accept_body a) = variables-open a (h a.place a.place' a.outer a.outer' a.vars a.vars' a.below)

  variables-under : (z : Translation) → z.text ≡ y → ((p p' : Around) (o o' : List PFrame) (V W : Variables) → z.floor p o V p' o' W → HasVariables x.added W) → {p p' : Around} {o o' : List PFrame} {V W : Variables} →
      Under z p o V p' o' W → HasVariables x.added W
  variables-under z e h (on_floor f) = h _ _ _ _ _ _ f
  variables-under z e h (in_block hs hs' r r' k im v) = variables-under z e h v
  variables-under z e h (in_handler w r r' im v) = variables-under z e h v
  variables-under z e h (in_endless name l l' r r' k im v) = variables-under z e h v
  variables-under z e h (in_while name w l l' r r' old k im v) = variables-under z e h v
  variables-under z e h (in_count {V' = V'} name backwards last l l' r r' b old known k im v) = variables-behind b (subst (λ t. IsOld t.programs b.name) e old) V' (variables-under z e h v)

  pub variables-at : (k : ℕ) (p p' : Around) (o o' : List PFrame) (V W : Variables) → below_at y x k p o V p' o' W → HasVariables x.added W
  variables-at zero p p' o o' V W f = absurd f
  variables-at (suc k) p p' o o' V W f = variables-under (over_floors y x (below_at y x k)) refl (λ q q' a a' V1 W1 g. variables-on (below_at y x k) (variables-at k) g) f

  -- the image has its variables wherever it stands
  pub variables-there : {p p' : Around} {o o' : List PFrame} {V W : Variables} → Under (into_collecting y x) p o V p' o' W → HasVariables x.added W
  variables-there f = variables-under (into_collecting y x) refl (λ q q' a a' V W g. variables-on (below_at y x g.0) (variables-at g.0) g.1) f
