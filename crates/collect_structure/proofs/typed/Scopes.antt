-- What can be used at a place of a unit in a collecting text stays so in accepts and loops.
use Rattle.std.proofs.Common.{◌≡◌, ℕ, ◌==◌, Bool, true, false, if◌then◌else◌, List, [], ◌∷◌, Some, ◌⊎◌, inl, inr, refl, sym, ap, subst, ◌∙◌, true≢false, eqb-true}
use Rattle.std.specs.List.{AllByRecursion}
use Rattle.common_lemmas.proofs.Lists.{all_back, all_front}
use Rattle.ada_tree.specs.declared.naming.NameId.{NameId}
use Rattle.ada_tree.specs.declared.naming.Word.{Word}
use Rattle.ada_tree.specs.PlainExpr.{PDrange}
use Rattle.ada_tree.specs.PlainStmt.{PFormal}
use Rattle.ada_static_rules.specs.Scope.{Scope, Thing, meaning, marking, and_then}
use Rattle.ada_static_rules.specs.Declaring.{with_name, with_names, inner_scope, formal_thing, with_formals, first_mark_of, drange_kind, loop_thing, with_loop_parameter}
use Rattle.ada_static_rules.specs.Sites.{all_names}
use Rattle.task_laws.specs.legal.alike_scopes.Alike.{SameThing, SameNames, Alike}
use Rattle.task_laws.specs.legal.alike_scopes.Old.{IsOldDrange, AreOldFormals}
use Rattle.task_laws.proofs.legal.alike_scopes.Inner.{formals_are_alike, loop_is_alike}
use Rattle.task_laws.proofs.legal.alike_scopes.Exprs.{dranges_are_same}
use Rattle.normal_laws.proofs.structure.typed.Scopes.{IsNoTask, meaning-more, formal-no-task}

-- ---- entries of the own task do not matter for names

-- a place with no own entries
abbrev pub alone : Scope → Scope
alone s = record s { own = [] }

names-alone : (thing : Thing) (ws : List Word) (s : Scope) → with_names thing (alone s) ws ≡ alone (with_names thing s ws)
names-alone thing [] s = refl
names-alone thing (w ∷ ws) s = names-alone thing ws (with_name thing s w)

formals-alone : (fs : List PFormal) (s : Scope) → with_formals (alone s) fs ≡ alone (with_formals s fs)
formals-alone [] s = refl
formals-alone (f ∷ fs) s =
    ap (λ t. with_formals t fs) (names-alone (formal_thing f.mode (marking s f.mark.name)) f.names s) ∙ formals-alone fs (with_names (formal_thing f.mode (marking s f.mark.name)) s f.names)

module _ (old : ℕ → Bool) where
  -- old names mean the same whatever entries the own task has
  from-alone : (s t : Scope) → SameNames old (alone s) (alone t) → SameNames old s t
  from-alone s t n = record { types = n.types; things = n.things }

  to-alone : (s t : Scope) → SameNames old s t → s.in_main ≡ t.in_main → Alike old (alone s) (alone t)
  to-alone s t n e = record { names = record { types = n.types; things = n.things }; own = λ id o. refl; main = e }

  pub inside-names : (s t : Scope) → SameNames old s t → SameNames old (inner_scope s) (inner_scope t)
  inside-names s t n = record { types = n.types; things = n.things }

  pub formals-names : (s t : Scope) → SameNames old s t → s.in_main ≡ t.in_main → (fs : List PFormal) → AreOldFormals old fs → SameNames old (with_formals s fs) (with_formals t fs)
  formals-names s t n e fs o =
      from-alone (with_formals s fs) (with_formals t fs)
      (subst (λ a. SameNames old a (alone (with_formals t fs))) (formals-alone fs s)
      (subst (λ b. SameNames old (with_formals (alone s) fs) b) (formals-alone fs t) (formals_are_alike old (alone s) (alone t) (to-alone s t n e) fs o).names))

  -- the kind of a range does not hang on own entries either
  kind-alone : (s t : Scope) → SameNames old s t → (x : PDrange) → IsOldDrange old x → drange_kind (alone s) x ≡ drange_kind s x
  kind-alone s t n x o = (dranges_are_same old (alone s) t (record { types = n.types; things = n.things }) x o).kind ∙ sym (dranges_are_same old s t n x o).kind

  kind-alone-there : (s t : Scope) → SameNames old s t → (x : PDrange) → IsOldDrange old x → drange_kind (alone t) x ≡ drange_kind t x
  kind-alone-there s t n x o = sym (dranges_are_same old s (alone t) (record { types = n.types; things = n.things }) x o).kind ∙ (dranges_are_same old s t n x o).kind

  pub loop-names : (s t : Scope) → SameNames old s t → s.in_main ≡ t.in_main → (w : Word) (x : PDrange) → IsOldDrange old x → SameNames old (with_loop_parameter s w x) (with_loop_parameter t w x)
  loop-names s t n e w x o =
      from-alone (with_loop_parameter s w x) (with_loop_parameter t w x)
      (subst (λ a. SameNames old a (alone (with_loop_parameter t w x))) (parameter-alone s (kind-alone s t n x o))
      (subst (λ b. SameNames old (with_loop_parameter (alone s) w x) b) (parameter-alone t (kind-alone-there s t n x o)) (loop_is_alike old (alone s) (alone t) (to-alone s t n e) w x o).names))
    where
      parameter-alone : (c : Scope) → drange_kind (alone c) x ≡ drange_kind c x → with_loop_parameter (alone c) w x ≡ alone (with_loop_parameter c w x)
      parameter-alone c k = ap (λ j. with_name (loop_thing (and_then (first_mark_of c.types) j)) (inner_scope (alone c)) w) k

  -- a name more in the text that is no old one
  pub name-more : (s t : Scope) → SameNames old s t → (thing : Thing) (w : Word) → old w.name.0 ≡ false → SameNames old s (with_name thing t w)
  name-more s t n thing w new = record {
    types = n.types;
    things = λ id o. subst (SameThing s.types t.types (meaning s id)) (sym (meaning-more thing t w id ∙ ap (λ b. if b then Some thing else meaning t id) (other id o))) (n.things id o);
  }
    where
      other : (id : NameId) → old id.0 ≡ true → (w.name.0 == id.0) ≡ false
      other id o = by_test (w.name.0 == id.0) refl
        where
          by_test : (b : Bool) → (w.name.0 == id.0) ≡ b → b ≡ false
          by_test false e = refl
          by_test true e = absurd (true≢false (sym (ap old (eqb-true w.name.0 id.0 e) ∙ o) ∙ new))

-- ---- what scopes become where names are declared in both

module _ (old inner : ℕ → Bool) where
  -- old names mean what they did, or no task in the normal form; and what no inner name means stays in the text
  pub record IsStep (c d c' d' : Scope) : Type 0 where
    pub means : (id : NameId) → old id.0 ≡ true → ((meaning c' id ≡ meaning c id) × (meaning d' id ≡ meaning d id)) ⊎ IsNoTask (meaning c' id)
    pub here : (id : NameId) → (meaning c' id ≡ meaning c id) ⊎ IsNoTask (meaning c' id)
    pub outer : (id : NameId) → inner id.0 ≡ false → meaning d' id ≡ meaning d id
    pub types : d'.types ≡ d.types

  abbrev pub AreInnerWords : List Word → Type 0
  AreInnerWords ws = AllByRecursion (λ (w : Word). inner w.name.0 ≡ true) ws

  no-step : (c d : Scope) → IsStep c d c d
  no-step c d = record { means = λ id o. inl (refl, refl); here = λ id. inl refl; outer = λ id o. refl; types = refl }

  pub two-steps : (c d c' d' c'' d'' : Scope) → IsStep c d c' d' → IsStep c' d' c'' d'' → IsStep c d c'' d''
  two-steps c d c' d' c'' d'' h i = record {
    means = λ id o. second id o (i.means id o);
    here = λ id. next id (i.here id);
    outer = λ id o. i.outer id o ∙ h.outer id o;
    types = i.types ∙ h.types;
  }
    where
      first : (id : NameId) → (meaning c'' id ≡ meaning c' id) × (meaning d'' id ≡ meaning d' id) → ((meaning c' id ≡ meaning c id) × (meaning d' id ≡ meaning d id)) ⊎ IsNoTask (meaning c' id) →
          ((meaning c'' id ≡ meaning c id) × (meaning d'' id ≡ meaning d id)) ⊎ IsNoTask (meaning c'' id)
      first id e (inl f) = inl (e.0 ∙ f.0, e.1 ∙ f.1)
      first id e (inr n) = inr (subst IsNoTask (sym e.0) n)

      second : (id : NameId) → old id.0 ≡ true → ((meaning c'' id ≡ meaning c' id) × (meaning d'' id ≡ meaning d' id)) ⊎ IsNoTask (meaning c'' id) →
          ((meaning c'' id ≡ meaning c id) × (meaning d'' id ≡ meaning d id)) ⊎ IsNoTask (meaning c'' id)
      second id o (inl e) = first id e (h.means id o)
      second id o (inr n) = inr n

      before : (id : NameId) → meaning c'' id ≡ meaning c' id → (meaning c' id ≡ meaning c id) ⊎ IsNoTask (meaning c' id) → (meaning c'' id ≡ meaning c id) ⊎ IsNoTask (meaning c'' id)
      before id e (inl f) = inl (e ∙ f)
      before id e (inr n) = inr (subst IsNoTask (sym e) n)

      next : (id : NameId) → (meaning c'' id ≡ meaning c' id) ⊎ IsNoTask (meaning c'' id) → (meaning c'' id ≡ meaning c id) ⊎ IsNoTask (meaning c'' id)
      next id (inl e) = before id e (h.here id)
      next id (inr n) = inr n

  differ : (a b : ℕ) → inner a ≡ true → inner b ≡ false → (a == b) ≡ false
  differ a b h k = by_test (a == b) refl
    where
      by_test : (t : Bool) → (a == b) ≡ t → t ≡ false
      by_test false e = refl
      by_test true e = absurd (true≢false (sym h ∙ ap inner (eqb-true a b e) ∙ k))

  pub one-step : (thing thing' : Thing) → IsNoTask (Some thing) → (w : Word) → inner w.name.0 ≡ true → (c d : Scope) → IsStep c d (with_name thing c w) (with_name thing' d w)
  one-step thing thing' free w i c d = record {
    means = λ id o. by_test id (w.name.0 == id.0) (meaning-more thing c w id) (meaning-more thing' d w id);
    here = λ id. by_one id (w.name.0 == id.0) (meaning-more thing c w id);
    outer = λ id o. meaning-more thing' d w id ∙ ap (λ b. if b then Some thing' else meaning d id) (differ w.name.0 id.0 i o);
    types = refl;
  }
    where
      by_test : (id : NameId) (b : Bool) → meaning (with_name thing c w) id ≡ (if b then Some thing else meaning c id) → meaning (with_name thing' d w) id ≡ (if b then Some thing' else meaning d id) →
          ((meaning (with_name thing c w) id ≡ meaning c id) × (meaning (with_name thing' d w) id ≡ meaning d id)) ⊎ IsNoTask (meaning (with_name thing c w) id)
      by_test id true e f = inr (subst IsNoTask (sym e) free)
      by_test id false e f = inl (e, f)

      by_one : (id : NameId) (b : Bool) → meaning (with_name thing c w) id ≡ (if b then Some thing else meaning c id) → (meaning (with_name thing c w) id ≡ meaning c id) ⊎ IsNoTask (meaning (with_name thing c w) id)
      by_one id true e = inr (subst IsNoTask (sym e) free)
      by_one id false e = inl e

  names-step : (thing thing' : Thing) → IsNoTask (Some thing) → (ws : List Word) → AreInnerWords ws → (c d : Scope) → IsStep c d (with_names thing c ws) (with_names thing' d ws)
  names-step thing thing' free [] h c d = no-step c d
  names-step thing thing' free (w ∷ ws) h c d =
      two-steps c d (with_name thing c w) (with_name thing' d w) _ _ (one-step thing thing' free w h.0 c d) (names-step thing thing' free ws h.1 (with_name thing c w) (with_name thing' d w))

  pub formals-step : (fs : List PFormal) → AreInnerWords (all_names fs) → (c d : Scope) → IsStep c d (with_formals c fs) (with_formals d fs)
  formals-step [] h c d = no-step c d
  formals-step (f ∷ fs) h c d =
      let thing = formal_thing f.mode (marking c f.mark.name) in
      let thing' = formal_thing f.mode (marking d f.mark.name) in
      two-steps c d (with_names thing c f.names) (with_names thing' d f.names) _ _
      (names-step thing thing' (formal-no-task f.mode (marking c f.mark.name)) f.names (all_front (λ (w : Word). inner w.name.0 ≡ true) f.names (all_names fs) h) c d)
      (formals-step fs (all_back (λ (w : Word). inner w.name.0 ≡ true) f.names (all_names fs) h) (with_names thing c f.names) (with_names thing' d f.names))
