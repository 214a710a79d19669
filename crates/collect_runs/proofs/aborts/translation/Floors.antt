-- The floors of a collecting text with abort statements: ends, exceptions and names in accept bodies. In the unit's own body it is as without aborts.
use Rattle.std.proofs.Common.{subst, true≢false, ◌≡◌, ℕ, zero, Bool, true, false, ◌==◌, if◌then◌else◌, List, [], ◌∷◌, ◌++◌, Option, Some, refl, sym, ap, ◌∙◌}
use Rattle.std.proofs.lemmas.Bool.{eqb-true}
use Rattle.ada_tree.specs.declared.naming.NameId.{NameId}
use Rattle.ada_tree.specs.declared.naming.Word.{Word}
use Rattle.ada_tree.specs.PlainStmt.{PStmts, no_stmt}
use Rattle.ada_value.specs.declared.values.Value.{Value}
use Rattle.ada_value.specs.declared.values.Raised.{Raised}
use Rattle.ada_value.specs.Values.{integer_limits, truth_limits}
use Rattle.ada_value.specs.Variables.{Object, Variables, with_value, set_value}
use Rattle.task_model.specs.declared.parameters.FormalParameter.{FormalParameter}
use Rattle.task_model.specs.Frames.{Turns, Around, Loop, Opened, PFrame, control, raised_in}
use Rattle.task_laws.specs.translation.Translations.{Programs, Rewriting, Translation, IsOld, IsKnown}
use Rattle.task_laws.specs.translation.Scopes.{AgreeOnTypes, SeeAlike}
use Rattle.task_laws.specs.translation.OldTexts.{Asked}
use Rattle.task_laws.specs.translation.Itself.{Nowhere}
use Rattle.task_laws.specs.translation.Images.{AreImages}
use Rattle.task_laws.specs.translation.Controls.{frame, Under, on_floor, in_block, in_handler, in_endless, in_while, in_count, LeavesLoop, inside, Settle}
use Rattle.task_laws.specs.translation.Floors.{handled_around, AreClosed, IsTranslation}
use Rattle.task_laws.proofs.translation.Frames.{sees-alike, set-alike, add-alike, handled-alike}
use Rattle.normal_laws.specs.runs.floors.NormalFloors.{AreOpen, none_open, open_then, no_floor}
use Rattle.normal_laws.proofs.runs.floors.Cells.{cell-behind}
use Rattle.normal_laws.proofs.runs.floors.Extending.{Fronts, fronts, own-sees, own-set, own-add}
use Rattle.collect_runs.specs.translation.Floors.{HasVariables, AreNamesAdded, CollectFloor, main_body, plain_body, handled_body, taken_handler, accept_body as collect_body}
use Rattle.collect_runs.proofs.translation.Floors.{new-sees, levels}
use Rattle.collect_model.specs.aborts.AbortTeller.{AbortTeller}
use Rattle.collect_runs.specs.aborts.translation.Rows.{telling_rows}
use Rattle.collect_runs.specs.aborts.translation.Floors.{OpenPlace, OpenAccept, formals_there, frames_outside, BodyFloor, accept_body, floor_at, into_aborting}
use Rattle.collect_runs.proofs.aborts.translation.Rows.{are-images}

-- an assignment to an old name passes a variable of an added one in front
new-set : (b : Programs) (o : Object) → b.is_old o.name.0 ≡ false → (W : Variables) (id : NameId) (k : ℕ) (v : Value) → IsOld b id → set_value (o ∷ W) id k v ≡ o ∷ set_value W id k v
new-set b o new W id k v old = ap (λ t. if t then with_value o k v ∷ W else o ∷ set_value W id k v) (go (o.name.0 == id.0) refl)
  where
    go : (t : Bool) → (o.name.0 == id.0) ≡ t → t ≡ false
    go false e = refl
    go true e = absurd (true≢false (sym old ∙ ap b.is_old (sym (eqb-true o.name.0 id.0 e)) ∙ new))

-- ---- an accept body

module _ (z : Translation) (laws : IsTranslation z) (image : PStmts → PStmts → Type 0) (x : AbortTeller) (p : OpenPlace) where
  -- the rows in the accept body, and their translation
  abbrev y : Rewriting
  y = record { programs = z.text.programs; image = image }

  abbrev inner : Translation
  inner = record { text = y; floor = BodyFloor z x p; beyond = Nowhere }

  abbrev b : Programs
  b = z.text.programs

  module _ (images : AreImages y) (new : AreNamesAdded b x.teller.added) where
    body-over : {q q' : Around} {o o' : List PFrame} {V V' : Variables} → BodyFloor z x p q o V q' o' V' → Settle inner (control no_stmt q o V) (control no_stmt q' o' V')
    body-over (accept_body a pending) = record { follows = inside no_stmt no_stmt images.empty (on_floor (accept_body a pending)) }

    body-raised : (e : Raised) {q q' : Around} {o o' : List PFrame} {V V' : Variables} → BodyFloor z x p q o V q' o' V' → Settle inner (raised_in e o q V) (raised_in e o' q' V')
    body-raised e (accept_body a pending) = record { follows = inside no_stmt no_stmt images.empty (on_floor (accept_body a (Some e))) }

    body-apart : {name : Option Word} {turns : Turns} {l : PStmts} {q' : Around} {o o' : List PFrame} {V V' : Variables} → BodyFloor z x p (Loop name turns l) o V q' o' V' → ⊥
    body-apart f = elim f [ ]

    -- the variable of the caller has no old name
    own-new : (a : OpenAccept z x p) → b.is_old a.own.name.0 ≡ false
    own-new a = subst (λ id. b.is_old id.0 ≡ false) (sym a.named) new.caller

    body-sees : {q q' : Around} {o o' : List PFrame} {V V' : Variables} → BodyFloor z x p q o V q' o' V' → SeeAlike b V V'
    body-sees (accept_body a pending) = new-sees b a.own (own-new a) (own-sees b laws.types a.are_open (sees-alike z laws a.below))

    from-fronts : (a : OpenAccept z x p) (pending : Option Raised) (own : Object) → own.name ≡ x.teller.added.caller →
        {W W' : Variables} → Fronts b (λ V V'. Under z a.place a.outer V a.place' a.outer' V') a.formals W W' →
        BodyFloor z x p (Opened p.caller a.formals pending) (frame a.row a.place ∷ a.outer) W (Opened p.caller (formals_there a) pending) (frames_outside a) (own ∷ W')
    from-fronts a pending own named (fronts bs W W' opened f) = accept_body (record a { vars = W; vars' = W'; below = f; objects = bs; are_open = opened; own = own; named = named }) pending

    body-set : (id : NameId) (k : ℕ) (v : Value) → IsOld b id → IsKnown b v → {q q' : Around} {o o' : List PFrame} {V V' : Variables} → BodyFloor z x p q o V q' o' V' →
        BodyFloor z x p q o (set_value V id k v) q' o' (set_value V' id k v)
    body-set id k v old known (accept_body a pending) =
        subst (λ W. BodyFloor z x p (Opened p.caller a.formals pending) (frame a.row a.place ∷ a.outer) (set_value (a.objects ++ a.vars) id k v)
        (Opened p.caller (formals_there a) pending) (frames_outside a) W) (sym (new-set b a.own (own-new a) (a.objects ++ a.vars') id k v old))
        (from-fronts a pending a.own a.named
        (own-set b laws.types {B = λ W W'. Under z a.place a.outer W a.place' a.outer' W'} id k v known a.are_open a.vars a.vars' a.below (set-alike z laws id k v old known a.below)))

    body-add : (id : NameId) (k : ℕ) (v : Value) → b.is_old id.0 ≡ false → {q q' : Around} {o o' : List PFrame} {V V' : Variables} → BodyFloor z x p q o V q' o' V' →
        BodyFloor z x p q o V q' o' (set_value V' id k v)
    body-add id k v fresh (accept_body a pending) = go (a.own.name.0 == id.0)
      where
        go : (t : Bool) →
            BodyFloor z x p (Opened p.caller a.formals pending) (frame a.row a.place ∷ a.outer) (a.objects ++ a.vars)
            (Opened p.caller (formals_there a) pending) (frames_outside a)
            (if t then with_value a.own k v ∷ (a.objects ++ a.vars') else a.own ∷ set_value (a.objects ++ a.vars') id k v)
        go true = accept_body (record a { own = with_value a.own k v; named = a.named }) pending
        go false =
            from-fronts a pending a.own a.named
            (own-add b laws.types {B = λ W W'. Under z a.place a.outer W a.place' a.outer' W'} id k v fresh a.are_open a.vars a.vars' (add-alike z laws id k v fresh a.below))

    body-handled : {q q' : Around} {o o' : List PFrame} {V V' : Variables} → BodyFloor z x p q o V q' o' V' → handled_around q o ≡ handled_around q' o'
    body-handled (accept_body a pending) = handled-alike z laws a.below

    -- so what may stand below it has a translation too
    pub body-translates : IsTranslation inner
    body-translates = record {
      types = laws.types;
      images = images;
      scopes = record {
        sees = λ q q' o o' V V' f. body-sees f;
        set = λ q q' o o' V V' id k v old known f. body-set id k v old known f;
        add = λ q q' o o' V V' id k v fresh f. body-add id k v fresh f;
        handled = λ q q' o o' V V' f. body-handled f;
      };
      floors = record {
        apart = λ name turns l q' o o' V V' f. body-apart f;
        over = λ q q' o o' V V' f. body-over f;
        raised = λ e q q' o o' V V' f. body-raised e f;
      };
    }

-- ---- whatever accept bodies are open

module _ (a : Asked) (x : AbortTeller) (last : ℕ) where
  pub is-translation : AreNamesAdded a.programs x.teller.added → AgreeOnTypes a.programs → (ps : List OpenPlace) → IsTranslation (into_aborting a x last ps)
  is-translation new types [] = levels (telling_rows a x 0 last) (are-images a x 0 last) types x.teller new zero
  is-translation new types (p ∷ ps) = body-translates (into_aborting a x last ps) (is-translation new types ps) _ x p (are-images a x p.place last) new

  body-shut : (z : Translation) (w : Option Word) (p : OpenPlace) {q q' : Around} {o o' : List PFrame} {V V' : Variables} → BodyFloor z x p q o V q' o' V' → LeavesLoop w q o → ⊥
  body-shut z w p (accept_body b pending) at = elim at [ ]

  unit-shut : (w : Option Word) {q q' : Around} {o o' : List PFrame} {V V' : Variables} → CollectFloor (telling_rows a x 0 last) x.teller no_floor q o V q' o' V' → LeavesLoop w q o → ⊥
  unit-shut w (main_body hs hs' handling V V' main im ext there) at = elim at [ ]
  unit-shut w (plain_body s V V' task ext there) at = elim at [ ]
  unit-shut w (handled_body s h h' hs hs' V V' task im ext there) at = elim at [ ]
  unit-shut w (taken_handler s hs e V V' task ext there) at = elim at [ ]
  unit-shut w (collect_body b) at = elim at [ ]

  floor-shut : (ps : List OpenPlace) (w : Option Word) (q q' : Around) (o o' : List PFrame) (V V' : Variables) → floor_at a x last ps q o V q' o' V' → LeavesLoop w q o → ⊥
  floor-shut [] w q q' o o' V V' f at = unit-shut w f at
  floor-shut (p ∷ ps) w q q' o o' V V' f at = body-shut (into_aborting a x last ps) w p f at

  pub is-closed : (ps : List OpenPlace) → AreClosed (into_aborting a x last ps)
  is-closed ps = record { closed = λ w q q' o o' V V' f at. floor-shut ps w q q' o o' V V' f at }

-- ---- the unit's variables are there

module _ (b : Programs) (x : AbortTeller) (new : AreNamesAdded b x.teller.added) where
  -- an old name is none of theirs
  old-apart : (o : Object) → IsOld b o.name → (name : NameId) → b.is_old name.0 ≡ false → (o.name.0 == name.0) ≡ false
  old-apart o old name fresh = by_test (o.name.0 == name.0) refl
    where
      by_test : (c : Bool) → (o.name.0 == name.0) ≡ c → c ≡ false
      by_test false e = refl
      by_test true e = absurd (true≢false (sym old ∙ ap b.is_old (eqb-true o.name.0 name.0 e) ∙ fresh))

  variables-behind : (o : Object) → IsOld b o.name → (W : Variables) → HasVariables x.teller.added W → HasVariables x.teller.added (o ∷ W)
  variables-behind o old W h = record {
    answer = cell-behind o W _ truth_limits (old-apart o old _ new.answer) h.answer;
    part = cell-behind o W _ integer_limits (old-apart o old _ new.part) h.part;
  }

  variables-formals : {fs : List FormalParameter} {bs : List Object} → AreOpen b fs bs → (W : Variables) → HasVariables x.teller.added W → HasVariables x.teller.added (bs ++ W)
  variables-formals none_open W h = h
  variables-formals (open_then f o fs rest old known k) W h = variables-behind o old (rest ++ W) (variables-formals k W h)

  variables-own : (o : Object) → o.name ≡ x.teller.added.caller → (W : Variables) → HasVariables x.teller.added W → HasVariables x.teller.added (o ∷ W)
  variables-own o named W h = record {
    answer = cell-behind o W _ truth_limits (ap (λ id. id.0 == x.teller.added.answer.0) named ∙ new.caller_answer) h.answer;
    part = cell-behind o W _ integer_limits (ap (λ id. id.0 == x.teller.added.part.0) named ∙ new.caller_part) h.part;
  }

  -- within an accept body
  pub variables-open : {fs : List FormalParameter} {bs : List Object} (own : Object) → own.name ≡ x.teller.added.caller → AreOpen b fs bs → (W : Variables) → HasVariables x.teller.added W →
      HasVariables x.teller.added (own ∷ (bs ++ W))
  variables-open {bs = bs} own named opened W h = variables-own own named (bs ++ W) (variables-formals opened W h)

module _ (a : Asked) (x : AbortTeller) (last : ℕ) (new : AreNamesAdded a.programs x.teller.added) where
  unit-variables : {q q' : Around} {o o' : List PFrame} {V W : Variables} → CollectFloor (telling_rows a x 0 last) x.teller no_floor q o V q' o' W → HasVariables x.teller.added W
  unit-variables (main_body hs hs' handling V W main im ext there) = there
  unit-variables (plain_body s V W task ext there) = there
  unit-variables (handled_body s hd hd' hs hs' V W task im ext there) = there
  unit-variables (taken_handler s hs e V W task ext there) = there
  unit-variables (collect_body c) = absurd c.below

  variables-under : (ps : List OpenPlace) → ((q q' : Around) (o o' : List PFrame) (V W : Variables) → floor_at a x last ps q o V q' o' W → HasVariables x.teller.added W) →
      {q q' : Around} {o o' : List PFrame} {V W : Variables} → Under (into_aborting a x last ps) q o V q' o' W → HasVariables x.teller.added W
  variables-under ps h (on_floor f) = h _ _ _ _ _ _ f
  variables-under ps h (in_block hs hs' r r' k im v) = variables-under ps h v
  variables-under ps h (in_handler w r r' im v) = variables-under ps h v
  variables-under ps h (in_endless name l l' r r' k im v) = variables-under ps h v
  variables-under ps h (in_while name w l l' r r' old k im v) = variables-under ps h v
  variables-under ps h (in_count {V' = V'} name backwards last' l l' r r' o old known k im v) = variables-behind a.programs x new o old V' (variables-under ps h v)

  body-variables : (p : OpenPlace) (ps : List OpenPlace) → ((q q' : Around) (o o' : List PFrame) (V W : Variables) → floor_at a x last ps q o V q' o' W → HasVariables x.teller.added W) →
      {q q' : Around} {o o' : List PFrame} {V W : Variables} → BodyFloor (into_aborting a x last ps) x p q o V q' o' W → HasVariables x.teller.added W
  body-variables p ps h (accept_body c pending) = variables-open a.programs x new c.own c.named c.are_open c.vars' (variables-under ps h c.below)

  floor-variables : (ps : List OpenPlace) (q q' : Around) (o o' : List PFrame) (V W : Variables) → floor_at a x last ps q o V q' o' W → HasVariables x.teller.added W
  floor-variables [] q q' o o' V W f = unit-variables f
  floor-variables (p ∷ ps) q q' o o' V W f = body-variables p ps (floor-variables ps) f

  -- the image has its variables wherever it stands
  pub variables-there : (ps : List OpenPlace) {q q' : Around} {o o' : List PFrame} {V W : Variables} → Under (into_aborting a x last ps) q o V q' o' W → HasVariables x.teller.added W
  variables-there ps u = variables-under ps (floor-variables ps) u
