-- Declarations that go behind others, one after the other.
use Rattle.std.proofs.Common.{◌≡◌, ℕ, List, [], ◌∷◌, ◌++◌, map, Result, Ok, Err, IfOk, OnOk, sym, ap, ◌∙◌, append_assoc}
use Rattle.std.proofs.lemmas.List.{map-append}
use Rattle.ada_tree.specs.declared.declarations.Decl.{Decl}
use Rattle.ada_tree.specs.declared.shortage.Memory.{Memory}
use Rattle.ada_tree.specs.declared.naming.Span.{Span}
use Rattle.ada_tree.specs.PlainStmt.{PBody}
use Rattle.ada_tree.specs.PlainDecl.{PDecl, decls_of, plain_decl}
use Rattle.ada_stmt_copy.specs.expressions.Parts.{OkWith}
use Rattle.syn_event.specs.DeclaredTasks.{decl_list}
use Rattle.replay_model.specs.ReplayTree.{behind_own}
use Rattle.replay_asking.specs.Voice.{Voice}
use Rattle.replay_statements.specs.rules.Replayed.{body_image}
use Rattle.replay_declarations.specs.ids.Arranged.{voice_at}
use Rattle.syn_event.proofs.DeclLists.{listed_back}

-- a declaration that comes as a result
pub decl-put :
    (xs ys : List Decl) (p : PDecl) (done : Result (Unit {0}) Memory) (r : Result Decl Memory) →
    OnOk done (OkWith r (λ d. ys ≡ xs ++ d ∷ [])) →
    IfOk r (λ d. plain_decl d ≡ p) →
    OnOk done (map plain_decl ys ≡ map plain_decl xs ++ p ∷ [])
decl-put xs ys p (Err e) r put made = tt
decl-put xs ys p (Ok u) (Err e) put made = absurd put
decl-put xs ys p (Ok u) (Ok d) put made = ap (map plain_decl) put ∙ map-append plain_decl xs (d ∷ []) ∙ ap (λ q. map plain_decl xs ++ q ∷ []) made

-- one behind the other
pub both-put :
    {X : Type 0} (old mid new : List X) (a b : X) (done : Result (Unit {0}) Memory) →
    mid ≡ old ++ a ∷ [] →
    OnOk done (new ≡ mid ++ b ∷ []) →
    OnOk done (new ≡ old ++ a ∷ b ∷ [])
both-put old mid new a b (Err e) first last = tt
both-put old mid new a b (Ok u) first last = last ∙ ap (λ l. l ++ b ∷ []) first ∙ append_assoc old (a ∷ []) (b ∷ [])

-- declarations that are moved, where they became others
pub moved-put :
    (xs ys zs : List Decl) (ps : List PDecl) (done : Result (Unit {0}) Memory) →
    map plain_decl ys ≡ ps →
    OnOk done (zs ≡ xs ++ ys) →
    OnOk done (map plain_decl zs ≡ map plain_decl xs ++ ps)
moved-put xs ys zs ps (Err e) are put = tt
moved-put xs ys zs ps (Ok u) are put = ap (map plain_decl) put ∙ map-append plain_decl xs ys ∙ ap (λ l. map plain_decl xs ++ l) are

-- five lists, each behind those before
pub five-put :
    {X : Type 0} (one two three four five a b c d e : List X) (done : Result (Unit {0}) Memory) →
    one ≡ a →
    two ≡ one ++ b →
    three ≡ two ++ c →
    four ≡ three ++ d →
    OnOk done (five ≡ four ++ e) →
    OnOk done (five ≡ a ++ b ++ c ++ d ++ e)
five-put one two three four five a b c d e (Err err) is_one is_two is_three is_four last = tt
five-put one two three four five a b c d e (Ok u) is_one is_two is_three is_four last =
    last ∙ ap (λ l. l ++ e) (is_four ∙ ap (λ l. l ++ d) (is_three ∙ ap (λ l. l ++ c) (is_two ∙ ap (λ l. l ++ b) is_one)))

-- ---- units

-- the objects of a unit, seen as they stand in a body
pub objects-put :
    (names : List (List ℕ)) (d : PDecl) (old new : List Decl) (done : Result (Unit {0}) Memory) →
    OnOk done (map plain_decl new ≡ behind_own names d (map plain_decl old)) →
    OnOk done (decls_of (map plain_decl new) ≡ decls_of (behind_own names d (decl_list (decls_of (map plain_decl old)))))
objects-put names d old new (Err e) put = tt
objects-put names d old new (Ok u) put = ap decls_of (put ∙ ap (behind_own names d) (sym (listed_back (map plain_decl old))))

-- the body of a unit, by the number of a task that runs it
pub body-put :
    (v : Voice) (t u : ℕ) (s : Span) (old new : PBody) (done : Result (Unit {0}) Memory) →
    t ≡ u →
    OnOk done (new ≡ body_image (voice_at v t) s old) →
    OnOk done (new ≡ body_image (voice_at v u) s old)
body-put v t u s old new (Err e) is put = tt
body-put v t u s old new (Ok ok) is put = put ∙ ap (λ n. body_image (voice_at v n) s old) is
