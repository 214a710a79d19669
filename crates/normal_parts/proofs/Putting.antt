-- Declarations that go behind others, one after the other.
use Rattle.std.proofs.Common.{◌≡◌, List, [], ◌∷◌, ◌++◌, map, Result, Ok, Err, IfOk, OnOk, ap, ◌∙◌}
use Rattle.std.proofs.lemmas.List.{map-append}
use Rattle.ada_tree.specs.declared.declarations.Decl.{Decl}
use Rattle.ada_tree.specs.declared.shortage.Memory.{Memory}
use Rattle.ada_tree.specs.PlainDecl.{PDecl, plain_decl}
use Rattle.ada_stmt_copy.specs.expressions.Parts.{OkWith}

-- a declaration that comes as a result
pub decl-put :
    (xs ys : List Decl) (p : PDecl) (done : Result (Unit {0}) Memory) (r : Result Decl Memory) →
    OnOk done (OkWith r (λ d. ys ≡ xs ++ d ∷ [])) →
    IfOk r (λ d. plain_decl d ≡ p) →
    OnOk done (map plain_decl ys ≡ map plain_decl xs ++ p ∷ [])
decl-put xs ys p (Err e) r put made = tt
decl-put xs ys p (Ok u) (Err e) put made = absurd put
decl-put xs ys p (Ok u) (Ok d) put made = ap (map plain_decl) put ∙ map-append plain_decl xs (d ∷ []) ∙ ap (λ q. map plain_decl xs ++ q ∷ []) made

-- declarations that are moved, where they became others
pub moved-put :
    (xs ys zs : List Decl) (ps : List PDecl) (done : Result (Unit {0}) Memory) →
    map plain_decl ys ≡ ps →
    OnOk done (zs ≡ xs ++ ys) →
    OnOk done (map plain_decl zs ≡ map plain_decl xs ++ ps)
moved-put xs ys zs ps (Err e) are put = tt
moved-put xs ys zs ps (Ok u) are put = ap (map plain_decl) put ∙ map-append plain_decl xs ys ∙ ap (λ l. map plain_decl xs ++ l) are

-- five lists, each behind those before
pub five-put :
    {X : Type 0} (one two three four five a b c d e : List X) (done : Result (Unit {0}) Memory) →
    one ≡ a →
    two ≡ one ++ b →
    three ≡ two ++ c →
    four ≡ three ++ d →
    OnOk done (five ≡ four ++ e) →
    OnOk done (five ≡ a ++ b ++ c ++ d ++ e)
five-put one two three four five a b c d e (Err err) is_one is_two is_three is_four last = tt
five-put one two three four five a b c d e (Ok u) is_one is_two is_three is_four last =
    last ∙ ap (λ l. l ++ e) (is_four ∙ ap (λ l. l ++ d) (is_three ∙ ap (λ l. l ++ c) (is_two ∙ ap (λ l. l ++ b) is_one)))
