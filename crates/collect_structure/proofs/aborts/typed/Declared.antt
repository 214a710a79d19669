-- The declarations of the variables of a unit's places meet the static rules 1 and 3 to 12, in main and in a body, and behind them the variables are seen.
use Rattle.std.proofs.Common.{Bool, List, None, [], ap, arith, eq-eqb, eqb-true, false, refl, subst, sym, true, true≢false, zero, suc, ℕ, ◌==◌, ◌∙◌, ◌∷◌, ◌≡◌, ◌≤◌}
use Rattle.std.specs.List.{AllByRecursion}
use Rattle.common_lemmas.proofs.Lists.{all_joined}
use Rattle.ada_tree.specs.PlainDecl.{PDecl, decls_of}
use Rattle.ada_tree.specs.TypeTable.{TypeTable}
use Rattle.ada_tree.specs.declared.naming.NameId.{NameId}
use Rattle.ada_tree.specs.declared.naming.Span.{Span}
use Rattle.ada_tree.specs.declared.naming.Word.{Word}
use Rattle.ada_static_rules.proofs.found_twice.Declared.{decls_joined}
use Rattle.ada_static_rules.specs.Declaring.{after_decl, after_decls, after_objects, after_own_object, with_name}
use Rattle.ada_static_rules.specs.Scope.{Scope, Thing, Variable}
use Rattle.ada_static_rules.specs.Sites.{decl_sites, own_object_sites, own_sites}
use Rattle.ada_static_rules.specs.StaticValue.{value_named}
use Rattle.task_laws.proofs.legal.rewritten_types.Keeping.{keeps-self}
use Rattle.task_laws.specs.legal.alike_scopes.Laws.{IsMetBut}
use Rattle.normal_model.specs.Ranges.{word_at}
use Rattle.normal_laws.proofs.structure.typed.Variables.{AllMetBut}
use Rattle.replay_structure.proofs.scopes.Main.{along-join}
use Rattle.replay_structure.proofs.scopes.Permit.{number-step}
use Rattle.replay_structure.specs.scopes.Form.{AllAlong}
use Rattle.replay_structure.specs.typed.ScopeOf.{IsNumber}
use Rattle.collect_model.specs.declared.AddedNames.{AddedNames}
use Rattle.collect_structure.proofs.scopes.Language.{language-decl, language-decls, name-kept, predefined-known}
use Rattle.collect_structure.proofs.scopes.Unit.{truth-step}
use Rattle.collect_structure.proofs.typed.Added.{answer-behind, answer-truth, part-behind, part-number}
use Rattle.collect_structure.proofs.typed.Language.{unit-is-met}
use Rattle.collect_structure.specs.scopes.Form.{DeclaresNew}
use Rattle.collect_structure.specs.scopes.Language.{KnowsLanguage}
use Rattle.collect_structure.specs.typed.Recording.{ArePredefined}
use Rattle.collect_structure.specs.typed.Told.{IsTruth}
use Rattle.collect_model.specs.aborts.AbortTeller.{AbortTeller}
use Rattle.collect_model.specs.aborts.AbortTree.{places_declared, refused_declared, taken_declared}
use Rattle.collect_structure.proofs.aborts.texts.Listed.{all-places}
use Rattle.collect_structure.specs.aborts.asked.Pieces.{IsPlace}
use Rattle.collect_structure.specs.aborts.typed.Told.{AreNewPlaces, SeesPlaces}

-- ---- objects in main and in a body

-- the declaration of an object does the same in both
abbrev pub IsObject : PDecl → Type 0
IsObject y = (d : Scope) → (after_own_object d y ≡ after_decl d y) × (AllMetBut (decl_sites d y) → AllMetBut (own_object_sites d y))

pub objects-behind : (ys : List PDecl) → AllByRecursion IsObject ys → (d : Scope) → after_objects d (decls_of ys) ≡ after_decls d (decls_of ys)
objects-behind [] h d = refl
objects-behind (y ∷ ys) h d = ap (λ e. after_objects e (decls_of ys)) (h.0 d).0 ∙ objects-behind ys h.1 (after_decl d y)

pub objects-met : (ys : List PDecl) → AllByRecursion IsObject ys → (d : Scope) → AllAlong d ys → AllMetBut (own_sites d (decls_of ys))
objects-met [] h d m = tt
objects-met (y ∷ ys) h d m =
    all_joined IsMetBut (own_object_sites d y) (own_sites (after_own_object d y) (decls_of ys)) ((h.0 d).1 m.0)
    (subst (λ e. AllMetBut (own_sites e (decls_of ys))) (sym (h.0 d).0) (objects-met ys h.1 (after_decl d y) m.1))

-- ---- one variable

-- one name for all that a text adds
abbrev named_so : NameId → AddedNames
named_so name = record {
  int_io = name;
  flags = name;
  caller = name;
  answer = name;
  part = name;
  recorder = name;
  note = name;
  kind = name;
  subject = name;
  argument = name;
  index = name;
  owner = name;
  reply = name;
  gone = name;
  met = name;
}

taken-met : (d : Scope) → KnowsLanguage d → (s : Span) (name : NameId) → AllMetBut (own_object_sites d (taken_declared s name))
taken-met d k s name = (unit-is-met (named_so name) d s k).1

refused-met : (d : Scope) → KnowsLanguage d → (s : Span) (name : NameId) → AllMetBut (own_object_sites d (refused_declared s name))
refused-met d k s name = (unit-is-met (named_so name) d s k).0

-- a number is below the next one, or it is it
below-or-same : (p n : ℕ) → p ≤ suc n → (P : ℕ → Type 0) → P (suc n) → (p ≤ n → P p) → P p
below-or-same p n le P here below = by_test (p == suc n) refl
  where
    by_test : (b : Bool) → (p == suc n) ≡ b → P p
    by_test true e = subst P (sym (eqb-true p (suc n) e)) here
    by_test false e =
        let other : p ≡ suc n → ⊥ = λ same. true≢false (sym (eq-eqb p (suc n) same) ∙ e) in
        below (omega (arith, le, other))

-- ---- all variables

module _ (x : AbortTeller) (most : ℕ) (s : Span) (d : Scope) (language : KnowsLanguage d) (new : AreNewPlaces x most d.types) where
  pub all-new : (n : ℕ) → n ≤ most → AllByRecursion DeclaresNew (places_declared x s n)
  all-new n le = all-places DeclaresNew x s most n le (λ p i j. (((new.taken p (i, j)).0, tt), ((new.refused p (i, j)).0, tt)))

  pub all-objects : (n : ℕ) → n ≤ most → AllByRecursion IsObject (places_declared x s n)
  all-objects n le = all-places IsObject x s most n le (λ p i j. (λ e. (refl, λ m. m), λ e. (refl, λ m. m)))

  -- the scope behind the variables of the first places
  abbrev pub behind : ℕ → Scope
  behind n = after_decls d (decls_of (places_declared x s n))

  pub behind-language : (n : ℕ) → n ≤ most → KnowsLanguage (behind n)
  behind-language n le = language-decls (places_declared x s n) d (all-new n le) language

  module _ (n : ℕ) (le : suc n ≤ most) where
    abbrev m : ℕ
    m = suc n

    before : n ≤ most
    before = omega (arith, le)

    mine : IsPlace most m
    mine = (omega arith, le)

    abbrev w : Word
    w = word_at s (x.taken m)

    abbrev v : Word
    v = word_at s (x.refused m)

    known : ArePredefined (behind n)
    known = predefined-known (behind n) (behind-language n before)

    abbrev number : Thing
    number = Variable known.integer.its.place

    -- behind the number
    abbrev middle : Scope
    middle = with_name number (behind n) w

    middle-is : after_own_object (behind n) (taken_declared s (x.taken m)) ≡ middle
    middle-is = part-behind (named_so (x.taken m)) (behind n) known s

    middle-language : KnowsLanguage middle
    middle-language = subst KnowsLanguage middle-is (language-decl (taken_declared s (x.taken m)) (behind n) ((new.taken m mine).0, tt) (behind-language n before))

    known-there : ArePredefined middle
    known-there = predefined-known middle middle-language

    abbrev truth : Thing
    truth = Variable known-there.truth.place

    -- and behind the truth value
    abbrev next : Scope
    next = with_name truth middle v

    next-is : behind m ≡ next
    next-is =
        decls_joined (places_declared x s n) (taken_declared s (x.taken m) ∷ refused_declared s (x.refused m) ∷ []) d
        ∙ ap (λ (e : Scope). after_own_object e (refused_declared s (x.refused m))) middle-is
        ∙ answer-behind (named_so (x.refused m)) middle known-there s

    two-along : AllAlong (behind n) (taken_declared s (x.taken m) ∷ refused_declared s (x.refused m) ∷ [])
    two-along = (
      taken-met (behind n) (behind-language n before) s (x.taken m),
      (subst (λ (e : Scope). AllMetBut (own_object_sites e (refused_declared s (x.refused m)))) (sym middle-is) (refused-met middle middle-language s (x.refused m)), tt),
    )

    next-types : (behind n).types ≡ d.types → (behind m).types ≡ d.types
    next-types e = ap (λ (c : Scope). c.types) next-is ∙ e

    -- the variables of the places before are seen, and so are these two
    next-sees : (behind n).types ≡ d.types → SeesPlaces x n (behind n) → SeesPlaces x m (behind m)
    next-sees types seen = subst (λ (c : Scope). SeesPlaces x m c) (sym next-is) record {
      taken = λ p i. below-or-same p n i.1 (λ r. IsNumber next (x.taken r)) new-taken (λ l. old-taken p i.0 l);
      refused = λ p i. below-or-same p n i.1 (λ r. IsTruth next (x.refused r)) new-refused (λ l. old-refused p i.0 l);
    }
      where
        valueless : (id : NameId) → value_named d.types id ≡ None → value_named (behind n).types id ≡ None
        valueless id e = subst (λ (T : TypeTable). value_named T id ≡ None) (sym types) e

        new-taken : IsNumber next (x.taken m)
        new-taken =
            number-step middle next (x.taken m) (name-kept truth middle v (x.taken m) (new.refused_apart m m mine mine)) (keeps-self (behind n).types)
            (part-number (named_so (x.taken m)) (behind n) known s (valueless (x.taken m) (new.taken m mine).1))

        new-refused : IsTruth next (x.refused m)
        new-refused = answer-truth (named_so (x.refused m)) middle known-there s (valueless (x.refused m) (new.refused m mine).1)

        place-of : (p : ℕ) → 1 ≤ p → p ≤ n → IsPlace most p
        place-of p i l = (i, omega (arith, l, before))

        other : (p : ℕ) → p ≤ n → m ≡ p → ⊥
        other p l e = omega (arith, l, e)

        old-taken : (p : ℕ) → 1 ≤ p → p ≤ n → IsNumber next (x.taken p)
        old-taken p i l =
            number-step (behind n) next (x.taken p)
            (name-kept truth middle v (x.taken p) (new.refused_apart m p mine (place-of p i l)) ∙ name-kept number (behind n) w (x.taken p) (new.two_taken m p mine (place-of p i l) (other p l)))
            (keeps-self (behind n).types) (seen.taken p (i, l))

        old-refused : (p : ℕ) → 1 ≤ p → p ≤ n → IsTruth next (x.refused p)
        old-refused p i l =
            truth-step (behind n) next (x.refused p)
            (name-kept truth middle v (x.refused p) (new.two_refused m p mine (place-of p i l) (other p l)) ∙ name-kept number (behind n) w (x.refused p) (new.taken_apart m p mine (place-of p i l)))
            (keeps-self (behind n).types) (seen.refused p (i, l))

  -- In main: nothing is refused at the declarations, the table stays, and behind them the variables are seen.
  pub places-along : (n : ℕ) → n ≤ most → AllAlong d (places_declared x s n)
  places-along zero le = tt
  places-along (suc n) le =
      along-join (places_declared x s n) (taken_declared s (x.taken (suc n)) ∷ refused_declared s (x.refused (suc n)) ∷ []) d (places-along n (omega (arith, le))) (two-along n le)

  pub places-types : (n : ℕ) → n ≤ most → (behind n).types ≡ d.types
  places-types zero le = refl
  places-types (suc n) le = next-types n le (places-types n (omega (arith, le)))

  pub places-seen : (n : ℕ) → n ≤ most → SeesPlaces x n (behind n)
  places-seen zero le = record {
    taken = λ p i. let never : ⊥ = omega (arith, i.0, i.1) in absurd never;
    refused = λ p i. let never : ⊥ = omega (arith, i.0, i.1) in absurd never;
  }
  places-seen (suc n) le = next-sees n le (places-types n (omega (arith, le))) (places-seen n (omega (arith, le)))

  -- So it is in a body.
  pub own-places-behind : (n : ℕ) → n ≤ most → after_objects d (decls_of (places_declared x s n)) ≡ behind n
  own-places-behind n le = objects-behind (places_declared x s n) (all-objects n le) d

  pub own-places-met : (n : ℕ) → n ≤ most → AllMetBut (own_sites d (decls_of (places_declared x s n)))
  own-places-met n le = objects-met (places_declared x s n) (all-objects n le) d (places-along n le)
