-- The names of a collecting text of a program with abort statements: those of the normal form stand in front, and those that the text adds are there.
use Rattle.std.proofs.Common.{◌≡◌, ℕ, zero, suc, ◌≤◌, max, Bool, true, false, List, [], ◌∷◌, nat_lt, map, refl, sym, subst, arith}
use Rattle.std.specs.List.{AllByRecursion}
use Rattle.std.proofs.lemmas.Bool.{ltb-true}
use Rattle.std.proofs.lemmas.Bool.Decides.{nat_tests}
use Rattle.common_lemmas.proofs.Lists.{all_weaker}
use Rattle.ada_tree.specs.NameList.{interned}
use Rattle.ada_tree.specs.TypeTable.{TypeTable}
use Rattle.ada_tree.specs.PlainDecl.{PDecl}
use Rattle.ada_tree.specs.PlainProgram.{PProgram}
use Rattle.syn_event.specs.Numbering.{Numbering}
use Rattle.syn_event.specs.DeclaredTasks.{decl_list}
use Rattle.normal_model.specs.NormalTree.{greatest, normal_tree}
use Rattle.normal_model.proofs.VariablesLemmas.{Begins, begins-refl, begins-trans}
use Rattle.normal_laws.specs.structure.types.Own.{own_name}
use Rattle.normal_laws.proofs.structure.types.Names.{fold-begins, interned-has}
use Rattle.normal_laws.proofs.structure.numbers.Named.{Has, has-longer, has-folded, IsReserved, reserved-new}
use Rattle.normal_laws.proofs.structure.numbers.TaskNames.{normal-begins}
use Rattle.collect_model.specs.Names.{added_texts, collect_names}
use Rattle.collect_structure.proofs.texts.Rooted.{collect-begins, collect-has}
use Rattle.collect_model.specs.aborts.Names.{acceptors_text, each_text, taken_text, refused_text, with_places, with_recorded}
use Rattle.collect_model.specs.aborts.Places.{places_in, places_of, most_places}
use Rattle.collect_model.specs.aborts.AbortTeller.{names_told}
use Rattle.collect_structure.specs.aborts.Names.{added_id}

-- ---- what each step adds

recorded-begins : (q : PProgram) → Begins (collect_names q) (with_recorded q.names)
unfolding with_recorded
recorded-begins q = fold-begins (acceptors_text ∷ each_text ∷ []) (collect_names q)

recorded-has : (q : PProgram) (t : List ℕ) → Has (acceptors_text ∷ each_text ∷ []) t → Has (with_recorded q.names) t
unfolding with_recorded
recorded-has q t h = has-folded (acceptors_text ∷ each_text ∷ []) (collect_names q) t h

place-begins : (names : List (List ℕ)) (n : ℕ) → Begins (with_places names n) (with_places names (suc n))
place-begins names n = fold-begins (taken_text (suc n) ∷ refused_text (suc n) ∷ []) (with_places names n)

pub places-begin : (names : List (List ℕ)) (n : ℕ) → Begins names (with_places names n)
places-begin names zero = begins-refl names
places-begin names (suc n) = begins-trans (places-begin names n) (place-begins names n)

-- the variables of each place
abbrev HasPlace : List (List ℕ) → ℕ → Type 0
HasPlace names p = Has names (taken_text p) × Has names (refused_text p)

places-have : (names : List (List ℕ)) (n p : ℕ) → 1 ≤ p → p ≤ n → HasPlace (with_places names n) p
places-have names zero p low high = let never : ⊥ = omega (arith, low, high) in absurd never
places-have names (suc n) p low high = by_test (nat_lt n p) refl (λ w. places-have names n p low w)
  where
    last : (m : ℕ) → m ≡ suc n → HasPlace (with_places names (suc n)) m
    last m e =
        subst (HasPlace (with_places names (suc n))) (sym e) (
          has-longer (interned (with_places names n) (taken_text (suc n))) _ (taken_text (suc n))
              (fold-begins (refused_text (suc n) ∷ []) (interned (with_places names n) (taken_text (suc n)))) (interned-has (with_places names n) (taken_text (suc n))),
          interned-has (interned (with_places names n) (taken_text (suc n))) (refused_text (suc n)),
        )

    by_test : (b : Bool) → nat_lt n p ≡ b → (p ≤ n → HasPlace (with_places names n) p) → HasPlace (with_places names (suc n)) p
    by_test true e earlier = let l = ltb-true n p e in last p (omega (arith, l, high))
    by_test false e earlier =
        let within : p ≤ n = grind (arith, nat_tests, e) in
        let k = earlier within in
        (has-longer (with_places names n) _ (taken_text p) (place-begins names n) k.0, has-longer (with_places names n) _ (refused_text p) (place-begins names n) k.1)

-- ---- the names of the text

-- those of the normal form stand in front
pub abort-begins : (q : PProgram) → Begins q.names (names_told q)
abort-begins q = begins-trans (collect-begins q) (begins-trans (recorded-begins q) (places-begin (with_recorded q.names) (most_places q)))

-- so do those of the collecting text without aborts
pub collect-begins-told : (q : PProgram) → Begins (collect_names q) (names_told q)
collect-begins-told q = begins-trans (recorded-begins q) (places-begin (with_recorded q.names) (most_places q))

-- those that every collecting text adds are there, and the recorder's further ones
pub abort-has : (q : PProgram) (t : List ℕ) → Has added_texts t → Has (names_told q) t
abort-has q t h = has-longer (collect_names q) _ t (begins-trans (recorded-begins q) (places-begin (with_recorded q.names) (most_places q))) (collect-has q t h)

pub abort-has-recorded : (q : PProgram) (t : List ℕ) → Has (acceptors_text ∷ each_text ∷ []) t → Has (names_told q) t
abort-has-recorded q t h = has-longer (with_recorded q.names) _ t (places-begin (with_recorded q.names) (most_places q)) (recorded-has q t h)

-- and those of the variables of each place
pub abort-has-places : (q : PProgram) (p : ℕ) → 1 ≤ p → p ≤ most_places q → Has (names_told q) (taken_text p) × Has (names_told q) (refused_text p)
abort-has-places q p low high = places-have (with_recorded q.names) (most_places q) p low high

-- ---- no unit has more places

max-left : (a b : ℕ) → a ≤ max a b
max-left a b = grind (arith, nat_tests)

max-right : (a b c : ℕ) → a ≤ c → a ≤ max b c
max-right a b c h = grind (arith, nat_tests, h)

pub main-few : (q : PProgram) → places_in q.body ≤ most_places q
main-few q = max-left (places_in q.body) (greatest (map places_of (decl_list q.decls)))

listed-few : (ds : List PDecl) → AllByRecursion (λ d. places_of d ≤ greatest (map places_of ds)) ds
listed-few [] = tt
listed-few (d ∷ ds) = (
  max-left (places_of d) (greatest (map places_of ds)),
  all_weaker (λ x. places_of x ≤ greatest (map places_of ds)) _ ds (λ x h. max-right (places_of x) (places_of d) (greatest (map places_of ds)) h) (listed-few ds),
)

pub bodies-few : (q : PProgram) → AllByRecursion (λ d. places_of d ≤ most_places q) (decl_list q.decls)
bodies-few q =
    all_weaker (λ x. places_of x ≤ greatest (map places_of (decl_list q.decls))) _ (decl_list q.decls)
    (λ x h. max-right (places_of x) (places_in q.body) (greatest (map places_of (decl_list q.decls))) h) (listed-few (decl_list q.decls))

-- ---- apart from the program's own

module _ (p : PProgram) (types : TypeTable) (numbers : Numbering) where
  -- the names of the program stand in front
  pub text-begins : Begins p.names (names_told (normal_tree p types numbers))
  text-begins = begins-trans (normal-begins p types numbers) (abort-begins (normal_tree p types numbers))

  -- a text that is there and begins with DED_ is no own name
  pub added-is-new : (t : List ℕ) → Has (names_told (normal_tree p types numbers)) t → IsReserved t → own_name p (added_id (normal_tree p types numbers) t).0 ≡ false
  added-is-new t h r = reserved-new p (names_told (normal_tree p types numbers)) t text-begins h r
