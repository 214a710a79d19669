-- Rows of declarations that are the same place by place, for the loop that compares lists of them.
use Rattle.std.proofs.Common.{ℕ, List, [], ◌∷◌}
use Rattle.ada_tree.specs.PlainDecl.{decls_of, plain_decl}
use Rattle.ada_tree.specs.Same.{SameDecl, SameDecls}
use Rattle.ada_tree_same.proofs.statements.SameRows.{Zipped, More, AtPlace, AsLong, more, at_place, as_long}

decls_zipped : (n m : List (List ℕ)) → Zipped (SameDecl n m) decls_of (SameDecls n m)
decls_zipped n m [] [] = (λ h. h, λ h. h)
decls_zipped n m [] (y ∷ ys) = (λ h. h, λ h. h)
decls_zipped n m (x ∷ xs) [] = (λ h. h, λ h. h)
decls_zipped n m (x ∷ xs) (y ∷ ys) = let rest = decls_zipped n m xs ys in (λ h. (h.0, rest.0 h.1), λ h. (h.0, rest.1 h.1))

pub decls_more : (n m : List (List ℕ)) → More (SameDecl n m) decls_of (SameDecls n m) plain_decl
decls_more n m = more (SameDecl n m) decls_of (SameDecls n m) plain_decl (decls_zipped n m)

pub decls_at : (n m : List (List ℕ)) → AtPlace (SameDecl n m) decls_of (SameDecls n m) plain_decl
decls_at n m = at_place (SameDecl n m) decls_of (SameDecls n m) plain_decl (decls_zipped n m)

pub decls_length : (n m : List (List ℕ)) → AsLong (SameDecl n m) decls_of (SameDecls n m) plain_decl
decls_length n m = as_long (SameDecl n m) decls_of (SameDecls n m) plain_decl (decls_zipped n m)

pub ruleset same_decls = (decls_more, decls_at, decls_length)
