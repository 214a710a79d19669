-- Lists that grow by one more, and rows of declarations as lists.
use Rattle.std.proofs.Common.{◌≡◌, ◌<◌, ◌+◌, ℕ, Bool, true, false, cond, List, [], ◌∷◌, ◌++◌, map, flat_map, take, drop, length, get_or, slice_get, Some, refl, sym, ap, ◌∙◌, append_assoc, arith, add-one}
use Rattle.std.specs.List.{filter}
use Rattle.std.proofs.lemmas.List.{take_more, map_more, map-append, append-nil}
use Rattle.std.proofs.lemmas.Grind.{flat_map-append}
use Rattle.std.proofs.lemmas.List.Elements.{filter_more}
use Rattle.std.proofs.lemmas.Option.{slice_get-get_or}
use Rattle.ada_tree.specs.PlainDecl.{PDecl, decl_then, decls_of}
use Rattle.ada_tree.specs.PlainProgram.{PProgram}
use Rattle.syn_event.specs.DeclaredTasks.{decl_list}
use Rattle.task_model.specs.Setting.{Setting}
use Rattle.normal_model.specs.NormalTree.{decls_front}
use Rattle.syn_event.proofs.DeclLists.{listed_back}

-- ---- rows

-- the declarations of a program as a list
pub rows_of : (g : Setting) (p : PProgram) (ds : List PDecl) → p ≡ g.program → p.decls ≡ decls_of ds → ds ≡ decl_list g.program.decls
rows_of g p ds same row = sym (listed_back ds) ∙ ap decl_list (sym row ∙ ap (λ q. q.decls) same)

-- rows in front of rows
pub front_rows : (xs ys : List PDecl) → decls_front (decls_of xs) (decls_of ys) ≡ decls_of (xs ++ ys)
front_rows [] ys = refl
front_rows (x ∷ xs) ys = ap (decl_then x) (front_rows xs ys)

-- ---- one more

-- what is made of each element so far, behind what was there
pub flat_more : {X Y : Type 0} (f : X → List Y) (xs : List X) (i : ℕ) (x : X) (start so_far grown : List Y) → i < length xs → x ≡ get_or xs i x →
    so_far ≡ start ++ flat_map f (take i xs) → grown ≡ so_far ++ f x → grown ≡ start ++ flat_map f (take (i + 1) xs)
flat_more f xs i x start so_far grown lt is before grows =
    grows
    ∙ ap (λ l. l ++ f x) before
    ∙ append_assoc start (flat_map f (take i xs)) (f x)
    ∙ ap (λ l. start ++ l) (ap (λ l. flat_map f (take i xs) ++ l) (sym (append-nil (f x))) ∙ sym (ap (flat_map f) (take_more xs i x lt ∙ ap (λ y. take i xs ++ y ∷ []) (sym is)) ∙ flat_map-append f (take i xs) (x ∷ [])))

-- the same, where the elements are seen in another way
pub flat_seen_more : {X Y Z : Type 0} (f : X → List Y) (see : Z → X) (xs : List Z) (i : ℕ) (x : Z) (start so_far grown : List Y) → i < length xs → x ≡ get_or xs i x →
    so_far ≡ start ++ flat_map f (map see (take i xs)) → grown ≡ so_far ++ f (see x) → grown ≡ start ++ flat_map f (map see (take (i + 1) xs))
flat_seen_more f see xs i x start so_far grown lt is before grows =
    grows
    ∙ ap (λ l. l ++ f (see x)) before
    ∙ append_assoc start (flat_map f (map see (take i xs))) (f (see x))
    ∙ ap (λ l. start ++ l) (ap (λ l. flat_map f (map see (take i xs)) ++ l) (sym (append-nil (f (see x)))) ∙ sym (ap (flat_map f) (map_more see xs i x lt ∙ ap (λ y. map see (take i xs) ++ see y ∷ []) (sym is)) ∙ flat_map-append f (map see (take i xs)) (see x ∷ [])))

-- the same of what passes a test
pub passed_more : {X Y : Type 0} (p : X → Bool) (f : X → Y) (xs : List X) (i : ℕ) (x : X) (y : Y) (start so_far grown : List Y) → i < length xs → x ≡ get_or xs i x → y ≡ f x →
    so_far ≡ start ++ map f (filter p (take i xs)) → grown ≡ so_far ++ cond (p x) (y ∷ []) [] → grown ≡ start ++ map f (filter p (take (i + 1) xs))
passed_more p f xs i x y start so_far grown lt is same before grows =
    grows
    ∙ ap (λ l. l ++ cond (p x) (y ∷ []) []) before
    ∙ append_assoc start (map f (filter p (take i xs))) (cond (p x) (y ∷ []) [])
    ∙ ap (λ l. start ++ l)
    (ap (λ l. map f (filter p (take i xs)) ++ l) (by (p x))
    ∙ sym (ap (map f) (filter_more p xs i x lt ∙ ap (λ z. filter p (take i xs) ++ cond (p z) (z ∷ []) []) (sym is)) ∙ map-append f (filter p (take i xs)) (cond (p x) (x ∷ []) [])))
  where
    by : (b : Bool) → cond b (y ∷ []) [] ≡ map f (cond b (x ∷ []) [])
    by true = ap (λ z. z ∷ []) same
    by false = refl

-- what stands behind the first of a list
pub behind_first : {X : Type 0} (xs ys : List X) (i : ℕ) (x : X) → ys ≡ drop 1 xs → i < length ys → x ≡ get_or ys i x → slice_get xs (i + 1) ≡ Some x
behind_first {X} xs ys i x same lt is = by xs same
  where
    by : (l : List X) → ys ≡ drop 1 l → slice_get l (i + 1) ≡ Some x
    by [] e = absurd (omega (arith, lt, ap length e))
    by (z ∷ l) e = ap (slice_get (z ∷ l)) (add-one i) ∙ ap (λ r. slice_get r i) (sym e) ∙ slice_get-get_or ys i x lt ∙ ap Some (sym is)
