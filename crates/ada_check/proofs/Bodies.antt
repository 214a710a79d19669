-- The bodies among declarations, and the places of a declaration with those of a body.
use Rattle.std.specs.Prelude.{◌≡◌, ℕ, ◌+◌, ◌-◌, ◌<◌, List, [], length, map, drop, get_or, Option, refl}
use Rattle.std.proofs.Common.{sym, ap, ◌∙◌}
use Rattle.std.proofs.lemmas.List.{append-nil}
use Rattle.ada_tree.specs.declared.declarations.Decl.{Decl}
use Rattle.ada_tree.specs.PlainDecl.{PDecl, DNumber, DObject, DEnumeration, DArray, DSubtype, DException, DIntIo, DPragma, DTask, DTaskBody, PDecls, decl_then, decls_of, plain_decl}
use Rattle.syn_event.specs.CheckRefusals.{CheckRefusal}
use Rattle.syn_event.specs.CheckScope.{CheckScope}
use Rattle.syn_event.specs.CheckSites.{body_names, after_decl, decl_sites}
use Rattle.ada_check_rules.specs.rules.Sooner.{sooner}
use Rattle.ada_check_rules.specs.rules.RefusedFirst.{Standard, refused_first}
use Rattle.ada_check.specs.declaration_places.Places.{places_of}
use Rattle.ada_check.specs.inner.TaskBodies.{body_part, with_body}
use Rattle.ada_check_rules.proofs.rules.Meeting.{joined}
use Rattle.ada_check_rules.proofs.rules.FromBehind.{back_cut}

body_next : (d : PDecl) (rest : PDecls) → body_names (decl_then d rest) ≡ with_body d (body_names rest)
body_next (DNumber w e p) rest = refl
body_next (DObject ws c x i p) rest = refl
body_next (DEnumeration w ws p) rest = refl
body_next (DArray w r x p) rest = refl
body_next (DSubtype w x p) rest = refl
body_next (DException ws p) rest = refl
body_next (DIntIo w p) rest = refl
body_next (DPragma e p) rest = refl
body_next (DTask t p) rest = refl
body_next (DTaskBody w objects its p) rest = refl

pub bodies_back : (xs : List Decl) (k : ℕ) (x : Decl) (names more : List ℕ) → k < length xs → x ≡ get_or xs (length xs - 1 - k) x
    → names ≡ body_names (decls_of (map plain_decl (drop (length xs - k) xs))) → more ≡ with_body (plain_decl x) names
    → more ≡ body_names (decls_of (map plain_decl (drop (length xs - (k + 1)) xs)))
bodies_back xs k x names more h is_x told is_more =
    is_more
    ∙ ap (with_body (plain_decl x)) told
    ∙ sym (body_next (plain_decl x) (decls_of (map plain_decl (drop (length xs - k) xs))))
    ∙ ap (λ (ys : List Decl). body_names (decls_of (map plain_decl ys))) (sym (back_cut xs k x h is_x))

pub parted : (by : Standard) (s : CheckScope) (bodies : List ℕ) (d : PDecl) (a b : Option CheckRefusal) → a ≡ refused_first by (places_of s bodies d) → b ≡ refused_first by (body_part (after_decl s d) d) → sooner a b ≡ refused_first by (decl_sites s bodies d)
parted by s bodies (DNumber w e p) a b h g = joined by (places_of s bodies (DNumber w e p)) [] a b h g ∙ ap (refused_first by) (append-nil (places_of s bodies (DNumber w e p)))
parted by s bodies (DObject ws c x i p) a b h g = joined by (places_of s bodies (DObject ws c x i p)) [] a b h g ∙ ap (refused_first by) (append-nil (places_of s bodies (DObject ws c x i p)))
parted by s bodies (DEnumeration w ws p) a b h g = joined by (places_of s bodies (DEnumeration w ws p)) [] a b h g ∙ ap (refused_first by) (append-nil (places_of s bodies (DEnumeration w ws p)))
parted by s bodies (DArray w r x p) a b h g = joined by (places_of s bodies (DArray w r x p)) [] a b h g ∙ ap (refused_first by) (append-nil (places_of s bodies (DArray w r x p)))
parted by s bodies (DSubtype w x p) a b h g = joined by (places_of s bodies (DSubtype w x p)) [] a b h g ∙ ap (refused_first by) (append-nil (places_of s bodies (DSubtype w x p)))
parted by s bodies (DException ws p) a b h g = joined by (places_of s bodies (DException ws p)) [] a b h g ∙ ap (refused_first by) (append-nil (places_of s bodies (DException ws p)))
parted by s bodies (DIntIo w p) a b h g = joined by (places_of s bodies (DIntIo w p)) [] a b h g ∙ ap (refused_first by) (append-nil (places_of s bodies (DIntIo w p)))
parted by s bodies (DPragma e p) a b h g = joined by (places_of s bodies (DPragma e p)) [] a b h g ∙ ap (refused_first by) (append-nil (places_of s bodies (DPragma e p)))
parted by s bodies (DTask t p) a b h g = joined by (places_of s bodies (DTask t p)) [] a b h g ∙ ap (refused_first by) (append-nil (places_of s bodies (DTask t p)))
parted by s bodies (DTaskBody w objects its p) a b h g = joined by [] (body_part s (DTaskBody w objects its p)) a b h g
