-- The doubles of the entries of declared tasks, one declaration after the other.
use Rattle.std.proofs.Common.{◌≡◌, ℕ, ◌+◌, ◌<◌, List, [], ◌∷◌, ◌++◌, length, map, flat_map, fold, take, get_or, sym, ap, ◌∙◌}
use Rattle.std.proofs.lemmas.List.{take_more, map-append}
use Rattle.std.proofs.lemmas.List.Concat.{flat_map-append}
use Rattle.std.proofs.lemmas.List.Sums.{fold-append}
use Rattle.ada_tree.specs.declared.declarations.Decl.{Decl}
use Rattle.ada_tree.specs.NameList.{interned}
use Rattle.ada_tree.specs.PlainDecl.{PTask, plain_decl}
use Rattle.syn_event.specs.DeclaredTasks.{tasks_in}
use Rattle.syn_event.proofs.DeclLists.{tasks_joined}

-- one declaration more
pub doubles_more :
    (texts : PTask → List (List ℕ)) (zs : List (List ℕ)) (xs : List Decl) (i : ℕ) (x : Decl) (ts us : List (List ℕ)) →
    i < length xs →
    x ≡ get_or xs i x →
    ts ≡ fold interned zs (flat_map texts (tasks_in (map plain_decl (take i xs)))) →
    us ≡ fold interned ts (flat_map texts (tasks_in (plain_decl x ∷ []))) →
    us ≡ fold interned zs (flat_map texts (tasks_in (map plain_decl (take (i + 1) xs))))
doubles_more texts zs xs i x ts us within at so_far step =
    step
    ∙ ap (λ vs. fold interned vs (flat_map texts (tasks_in (plain_decl x ∷ [])))) so_far
    ∙ sym (fold-append interned zs (flat_map texts (tasks_in (map plain_decl (take i xs)))) (flat_map texts (tasks_in (plain_decl x ∷ []))))
    ∙ ap (fold interned zs) (sym (flat_map-append texts (tasks_in (map plain_decl (take i xs))) (tasks_in (plain_decl x ∷ []))))
    ∙ ap (λ ts. fold interned zs (flat_map texts ts)) (sym (tasks_joined (map plain_decl (take i xs)) (plain_decl x ∷ [])))
    ∙ ap (λ ds. fold interned zs (flat_map texts (tasks_in ds))) (sym (map-append plain_decl (take i xs) (x ∷ [])))
    ∙ ap (λ y. fold interned zs (flat_map texts (tasks_in (map plain_decl (take i xs ++ y ∷ []))))) at
    ∙ ap (λ ds. fold interned zs (flat_map texts (tasks_in (map plain_decl ds)))) (sym (take_more xs i x within))
