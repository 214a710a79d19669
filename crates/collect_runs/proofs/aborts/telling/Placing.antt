-- The variables of places: what is said of them stays where they mean the same, whatever goes to variables of other names, and behind the formals of an
-- accept body as in front of them.
use Rattle.std.proofs.Common.{true≢false, arith, ◌≡◌, ℕ, ◌<◌, ◌≤◌, Bool, true, false, ◌==◌, if◌then◌else◌, List, [], ◌∷◌, ◌++◌, refl, sym, ap, ◌∙◌}
use Rattle.std.proofs.lemmas.Bool.{eqb-true}
use Rattle.common_lemmas.proofs.Numbers.{unequal_above, unequal_turned}
use Rattle.ada_tree.specs.declared.naming.NameId.{NameId}
use Rattle.ada_value.specs.declared.values.Value.{Value}
use Rattle.ada_value.specs.Values.{integer_limits, truth_limits}
use Rattle.ada_value.specs.Variables.{Object, Variables, object_named, with_value, set_value}
use Rattle.task_model.specs.declared.parameters.FormalParameter.{FormalParameter}
use Rattle.task_laws.specs.translation.Translations.{Programs, IsOld}
use Rattle.normal_laws.specs.runs.floors.NormalFloors.{AreOpen, none_open, open_then}
use Rattle.normal_laws.proofs.runs.floors.Cells.{named-set_other, cell-any, cell-kept}
use Rattle.collect_model.specs.aborts.AbortTeller.{AbortTeller}
use Rattle.collect_runs.specs.aborts.translation.Floors.{IsPlace, ArePlacesAdded, OpenPlace, innermost, HasPlaces, KeepCallers, keep_none, keep_then}
use Rattle.table_law.proofs.Found.{later-named as passed-one}

-- ---- formals in front

-- an old name is no added one
pub old-apart : (b : Programs) (o : Object) → IsOld b o.name → (id : NameId) → b.is_old id.0 ≡ false → (o.name.0 == id.0) ≡ false
old-apart b o old id fresh = go (o.name.0 == id.0) refl
  where
    go : (t : Bool) → (o.name.0 == id.0) ≡ t → t ≡ false
    go false e = refl
    go true e = absurd (true≢false (sym old ∙ ap b.is_old (eqb-true o.name.0 id.0 e) ∙ fresh))

pub set-one : (o : Object) (W : Variables) (id : NameId) (k : ℕ) (v : Value) → (o.name.0 == id.0) ≡ false → set_value (o ∷ W) id k v ≡ o ∷ set_value W id k v
set-one o W id k v apart = ap (λ t. if t then with_value o k v ∷ W else o ∷ set_value W id k v) apart

-- the formals of an accept body in front
pub passed-formals : (b : Programs) {fs : List FormalParameter} {bs : List Object} → AreOpen b fs bs → (W : Variables) (id : NameId) → b.is_old id.0 ≡ false →
    object_named (bs ++ W) id ≡ object_named W id
passed-formals b none_open W id fresh = refl
passed-formals b (open_then f o fs os old known h) W id fresh = passed-one o (os ++ W) id (old-apart b o old id fresh) ∙ passed-formals b h W id fresh

pub set-formals : (b : Programs) {fs : List FormalParameter} {bs : List Object} → AreOpen b fs bs → (W : Variables) (id : NameId) (k : ℕ) (v : Value) → b.is_old id.0 ≡ false →
    set_value (bs ++ W) id k v ≡ bs ++ set_value W id k v
set-formals b none_open W id k v fresh = refl
set-formals b (open_then f o fs os old known h) W id k v fresh =
    set-one o (os ++ W) id k v (old-apart b o old id fresh) ∙ ap (λ (U : Variables). o ∷ U) (set-formals b h W id k v fresh)

module _ (b : Programs) (x : AbortTeller) (last : ℕ) where
  -- ---- variables that mean the same

  -- The variables of the first places, up to this number, mean the same in both.
  pub record MeanSame (upto : ℕ) (V W : Variables) : Type 0 where
    pub taken : (n : ℕ) → IsPlace last n → n ≤ upto → object_named W (x.taken n) ≡ object_named V (x.taken n)
    pub refused : (n : ℕ) → IsPlace last n → n ≤ upto → object_named W (x.refused n) ≡ object_named V (x.refused n)

  pub mean-turned : {upto : ℕ} {V W : Variables} → MeanSame upto V W → MeanSame upto W V
  mean-turned m = record { taken = λ n is l. sym (m.taken n is l); refused = λ n is l. sym (m.refused n is l) }

  pub mean-through : {upto : ℕ} {U V W : Variables} → MeanSame upto U V → MeanSame upto V W → MeanSame upto U W
  mean-through m k = record { taken = λ n is l. k.taken n is l ∙ m.taken n is l; refused = λ n is l. k.refused n is l ∙ m.refused n is l }

  pub callers-kept : (ps : List OpenPlace) (upto : ℕ) → innermost ps ≤ upto → {V W : Variables} → MeanSame upto V W → KeepCallers x last V ps → KeepCallers x last W ps
  callers-kept [] upto le m keep_none = keep_none
  callers-kept (p ∷ ps) upto le {V} {W} m (keep_then p1 ps1 above fits taken refused more) =
      let is : IsPlace last p.place = (omega (arith, above), fits) in
      keep_then p ps above fits (cell-kept V W _ _ _ (m.taken p.place is le) taken) (cell-kept V W _ _ _ (m.refused p.place is le) refused)
      (callers-kept ps upto (omega (arith, above, le)) m more)

  pub places-kept : {V W : Variables} → MeanSame last V W → HasPlaces x last V → HasPlaces x last W
  places-kept {V} {W} m h = record {
    taken = λ n is. ((h.taken n is).0, cell-kept V W _ _ _ (m.taken n is is.1) (h.taken n is).1);
    refused = λ n is. ((h.refused n is).0, cell-kept V W _ _ _ (m.refused n is is.1) (h.refused n is).1);
  }

  -- whatever is assigned to, the variables of places are there
  pub places-set : (W : Variables) (id : NameId) (k : ℕ) (v : Value) → HasPlaces x last W → HasPlaces x last (set_value W id k v)
  places-set W id k v h = record {
    taken = λ n is. cell-any W id k v (x.taken n) integer_limits (h.taken n is);
    refused = λ n is. cell-any W id k v (x.refused n) truth_limits (h.refused n is);
  }

  -- an assignment to another name
  mean-set : (upto : ℕ) (W : Variables) (id : NameId) (k : ℕ) (v : Value) → ((n : ℕ) → IsPlace last n → n ≤ upto → (id.0 == (x.taken n).0) ≡ false) →
      ((n : ℕ) → IsPlace last n → n ≤ upto → (id.0 == (x.refused n).0) ≡ false) → MeanSame upto W (set_value W id k v)
  mean-set upto W id k v taken refused = record {
    taken = λ n is l. named-set_other W id k v (x.taken n) (taken n is l);
    refused = λ n is l. named-set_other W id k v (x.refused n) (refused n is l);
  }

  module _ (added : ArePlacesAdded b x last) where
    -- every added name means the same
    pub mean-all : (upto : ℕ) (V W : Variables) → ((id : NameId) → b.is_old id.0 ≡ false → object_named W id ≡ object_named V id) → MeanSame upto V W
    mean-all upto V W h = record { taken = λ n is l. h (x.taken n) (added.taken n is); refused = λ n is l. h (x.refused n) (added.refused n is) }

    pub answer-set : (upto : ℕ) (W : Variables) (k : ℕ) (v : Value) → MeanSame upto W (set_value W x.teller.added.answer k v)
    answer-set upto W k v = mean-set upto W x.teller.added.answer k v (λ n is l. added.answer_taken n is) (λ n is l. added.answer_refused n is)

    pub part-set : (upto : ℕ) (W : Variables) (k : ℕ) (v : Value) → MeanSame upto W (set_value W x.teller.added.part k v)
    part-set upto W k v = mean-set upto W x.teller.added.part k v (λ n is l. added.part_taken n is) (λ n is l. added.part_refused n is)

    -- an assignment to the variables of a place passes those of the places before it
    pub taken-set : (n upto : ℕ) → IsPlace last n → upto < n → (W : Variables) (k : ℕ) (v : Value) → MeanSame upto W (set_value W (x.taken n) k v)
    taken-set n upto at before W k v =
        mean-set upto W (x.taken n) k v (λ m is l. added.taken_apart n m at is (unequal_above n m (omega (arith, before, l)))) (λ m is l. added.taken_refused n m at is)

    pub refused-set : (n upto : ℕ) → IsPlace last n → upto < n → (W : Variables) (k : ℕ) (v : Value) → MeanSame upto W (set_value W (x.refused n) k v)
    refused-set n upto at before W k v =
        mean-set upto W (x.refused n) k v (λ m is l. unequal_turned (x.taken m).0 (x.refused n).0 (added.taken_refused m n is at))
        (λ m is l. added.refused_apart n m at is (unequal_above n m (omega (arith, before, l))))

    -- ---- in an accept body

    module _ {fs : List FormalParameter} {bs : List Object} (own : Object) (named : own.name ≡ x.teller.added.caller) (opened : AreOpen b fs bs) where
      own-apart : (id : NameId) → (x.teller.added.caller.0 == id.0) ≡ false → (own.name.0 == id.0) ≡ false
      own-apart id apart = ap (λ (n : NameId). n.0 == id.0) named ∙ apart

      -- the caller's variable and the formals hide no added name but the caller's
      pub passed-front : (W : Variables) (id : NameId) → b.is_old id.0 ≡ false → (x.teller.added.caller.0 == id.0) ≡ false → object_named (own ∷ (bs ++ W)) id ≡ object_named W id
      passed-front W id fresh apart = passed-one own (bs ++ W) id (own-apart id apart) ∙ passed-formals b opened W id fresh

      pub set-front : (W : Variables) (id : NameId) (k : ℕ) (v : Value) → b.is_old id.0 ≡ false → (x.teller.added.caller.0 == id.0) ≡ false →
          set_value (own ∷ (bs ++ W)) id k v ≡ own ∷ (bs ++ set_value W id k v)
      set-front W id k v fresh apart = set-one own (bs ++ W) id k v (own-apart id apart) ∙ ap (λ (U : Variables). own ∷ U) (set-formals b opened W id k v fresh)

      pub mean-front : (upto : ℕ) (W : Variables) → MeanSame upto W (own ∷ (bs ++ W))
      mean-front upto W = record {
        taken = λ n is l. passed-front W (x.taken n) (added.taken n is) (added.caller_taken n is);
        refused = λ n is l. passed-front W (x.refused n) (added.refused n is) (added.caller_refused n is);
      }
