-- Declarations that go behind others, and the objects of a unit.
use Rattle.std.proofs.Common.{◌≡◌, ℕ, Bool, List, [], ◌∷◌, ◌++◌, map, Result, Ok, Err, IfOk, OnOk, refl, sym, ap, ◌∙◌, append_assoc}
use Rattle.std.specs.Prelude.{◌||◌}
use Rattle.std.specs.List.{list_any}
use Rattle.ada_tree.specs.declared.declarations.Decl.{Decl}
use Rattle.ada_tree.specs.declared.shortage.Memory.{Memory}
use Rattle.ada_tree.specs.PlainDecl.{PDecl, decls_of, plain_decl}
use Rattle.syn_event.specs.DeclaredTasks.{decl_list}
use Rattle.syn_event.proofs.DeclLists.{listed_back}
use Rattle.collect_model.specs.CollectTree.{behind_own}

-- three lists, each behind those before
pub three-put :
    {X : Type 0} (old one two three a b c : List X) (done : Result (Unit {0}) Memory) →
    one ≡ old ++ a →
    two ≡ one ++ b →
    OnOk done (three ≡ two ++ c) →
    OnOk done (three ≡ old ++ (a ++ (b ++ c)))
three-put old one two three a b c (Err e) is_one is_two last = tt
three-put old one two three a b c (Ok u) is_one is_two last =
    last ∙ ap (λ l. l ++ c) (is_two ∙ ap (λ l. l ++ b) is_one) ∙ append_assoc (old ++ a) b c ∙ append_assoc old a (b ++ c)

-- further declarations of which the list began empty, behind a unit's own ones
pub objects-put :
    (names : List (List ℕ)) (ds old new : List PDecl) (none more : List Decl) (done : Result (Unit {0}) Memory) →
    none ≡ [] →
    map plain_decl more ≡ map plain_decl none ++ ds →
    OnOk done (new ≡ behind_own names (map plain_decl more) old) →
    OnOk done (new ≡ behind_own names ds old)
objects-put names ds old new none more (Err e) empty are put = tt
objects-put names ds old new none more (Ok u) empty are put = put ∙ ap (λ l. behind_own names l old) (are ∙ ap (λ l. map plain_decl l ++ ds) empty)

-- the objects of a unit, seen as they stand in a body
pub listed-put :
    (names : List (List ℕ)) (ds : List PDecl) (old new : List Decl) (done : Result (Unit {0}) Memory) →
    OnOk done (map plain_decl new ≡ behind_own names ds (map plain_decl old)) →
    OnOk done (decls_of (map plain_decl new) ≡ decls_of (behind_own names ds (decl_list (decls_of (map plain_decl old)))))
listed-put names ds old new (Err e) put = tt
listed-put names ds old new (Ok u) put = ap decls_of (put ∙ ap (behind_own names ds) (sym (listed_back (map plain_decl old))))

-- a declaration that is made is another where both are the same
pub made-as : (r : Result Decl Memory) (p q : PDecl) → p ≡ q → IfOk r (λ d. plain_decl d ≡ p) → IfOk r (λ d. plain_decl d ≡ q)
made-as (Err e) p q same h = tt
made-as (Ok d) p q same h = h ∙ same

-- one of the declarations, as they are seen, passes a test
pub any-seen : (p : PDecl → Bool) (xs : List Decl) → list_any (λ d. p (plain_decl d)) xs ≡ list_any p (map plain_decl xs)
any-seen p [] = refl
any-seen p (x ∷ xs) = ap (λ b. p (plain_decl x) || b) (any-seen p xs)
