-- Declarations: the entries of a task one by one, each behind the pragmas that stand before it, and the parts of task bodies.
use Rattle.std.specs.Prelude.{◌≡◌, ◌+◌, ◌<◌, ◌≤◌, ℕ, nat_le, Bool, true, false, List, [], ◌∷◌, length, map, take, drop, codes, refl}
use Rattle.std.proofs.Common.{sym, ap, ◌∙◌, subst, get_or, arith}
use Rattle.std.proofs.lemmas.List.{take-map, drop-map, drop_more, drop_all}
use Rattle.std.proofs.lemmas.List.{length-map, get_or-map}
use Rattle.std.proofs.lemmas.List.Sums.{prefix_len-drop_yes, prefix_len-drop_no, prefix_len-drop_all}
use Rattle.ada_tree.specs.declared.naming.Span.{Span}
use Rattle.ada_tree.specs.declared.naming.Word.{Word}
use Rattle.ada_tree.specs.declared.declarations.Decl.{Decl}
use Rattle.ada_tree.specs.declared.declarations.EntryDecl.{EntryDecl}
use Rattle.ada_tree.specs.declared.declarations.Priority.{Priority}
use Rattle.ada_tree.specs.PlainStmt.{PBody}
use Rattle.ada_tree.specs.PlainDecl.{PEntry, PPriority, PTask, PDecl, PDecls, DTaskBody, decls_of, plain_decl, plain_entry, plain_priority}
use Rattle.ded_io.specs.Written.{◌⧺◌}
use Rattle.ded_io.proofs.Writes.{joined_nil, joined_assoc}
use Rattle.ada_printer.specs.Layout.{deeper, indent, word_text}
use Rattle.ada_printer.specs.DeclText.{standing, entry_text, priorities_text, items_text, task_rest, unit_text, decl_form_text as decl_form, decl_text, decls_text}
use Rattle.ada_printer.specs.ProgramText.{context_text}
use Rattle.ded_io.specs.pages.Pages.{Drawing, Drew}
use Rattle.ded_io.proofs.pages.Drawn.{drew_none, drew_then}
use Rattle.ada_printer.proofs.Listed.{not_below_zero}
use Rattle.ada_printer.proofs.Rowed.{drew_as, drew_three}

-- so much of a text was put, and the rest is what is left to come
abbrev pub Front : Drawing → Drawing → List ℕ → List ℕ → Type 0
Front a b whole rest = (front : List ℕ) × Drew a b front × (whole ≡ front ⧺ rest)

-- nothing was put yet
pub front_none : (a : Drawing) (whole : List ℕ) → Front a a whole whole
front_none a whole = ([], drew_none a, sym (joined_nil whole))

-- one text more
pub front_more : (a b c : Drawing) (whole rest s t : List ℕ) → Front a b whole rest → rest ≡ s ⧺ t → Drew b c s → Front a c whole t
front_more a b c whole rest s t (front, drew, is) e more =
    (front ⧺ s, drew_then a b c front s drew more, is ∙ ap (λ u. front ⧺ u) e ∙ sym (joined_assoc front s t))

-- all that was left
pub front_all : (a b c : Drawing) (whole rest s : List ℕ) → Front a b whole rest → rest ≡ s → Drew b c s → Drew a c whole
front_all a b c whole rest s (front, drew, is) e more =
    drew_as a c _ _ (sym (is ∙ ap (λ u. front ⧺ u) e)) (drew_then a b c front s drew more)

module _ {A B : Type 0} (f : A → PEntry) (g : B → PPriority) (names : List (List ℕ)) (level : ℕ) where
  -- one entry, and the pragmas before it
  pub items_more : (es : List A) (i : ℕ) (m : A) (ps : List B) (n : ℕ) → i < length es → m ≡ get_or es i m → n ≡ standing i (map g ps) → items_text names level i (map f (drop i es)) (map g ps) ≡ (priorities_text names level (map g (take n ps)) ⧺ entry_text names level (f m)) ⧺ items_text names level (i + 1) (map f (drop (i + 1) es)) (map g (drop n ps))
  items_more es i m ps n within is_m is_n =
      ap (λ ys. items_text names level i (map f ys) (map g ps)) (drop_more es i m within ∙ ap (λ y. y ∷ drop (i + 1) es) (sym is_m))
      ∙ ap (λ k. priorities_text names level (take k (map g ps)) ⧺ (entry_text names level (f m) ⧺ items_text names level (i + 1) (map f (drop (i + 1) es)) (drop k (map g ps)))) (sym is_n)
      ∙ ap (λ qs. priorities_text names level qs ⧺ (entry_text names level (f m) ⧺ items_text names level (i + 1) (map f (drop (i + 1) es)) (drop n (map g ps)))) (take-map g n ps)
      ∙ ap (λ qs. priorities_text names level (map g (take n ps)) ⧺ (entry_text names level (f m) ⧺ items_text names level (i + 1) (map f (drop (i + 1) es)) qs)) (drop-map g n ps)
      ∙ sym (joined_assoc _ _ _)

  -- the same where the pragmas were parted at that place
  pub items_parted :
      (es : List A) (i : ℕ) (m : A) (ps ahead behind : List B) (n : ℕ) → i < length es → m ≡ get_or es i m → n ≡ standing i (map g ps) → ahead ≡ take n ps → behind ≡ drop n ps →
      items_text names level i (map f (drop i es)) (map g ps) ≡ (priorities_text names level (map g ahead) ⧺ entry_text names level (f m)) ⧺ items_text names level (i + 1) (map f (drop (i + 1) es)) (map g behind)
  items_parted es i m ps ahead behind n within is_m is_n is_ahead is_behind =
      items_more es i m ps n within is_m is_n
      ∙ ap (λ qs. (priorities_text names level (map g qs) ⧺ entry_text names level (f m)) ⧺ items_text names level (i + 1) (map f (drop (i + 1) es)) (map g (drop n ps))) (sym is_ahead)
      ∙ ap (λ qs. (priorities_text names level (map g ahead) ⧺ entry_text names level (f m)) ⧺ items_text names level (i + 1) (map f (drop (i + 1) es)) (map g qs)) (sym is_behind)

  -- behind the last entry the other pragmas come
  pub items_end : (es : List A) (i : ℕ) (ps : List B) → length es ≤ i → items_text names level i (map f (drop i es)) (map g ps) ≡ priorities_text names level (map g ps)
  items_end es i ps all = ap (λ ys. items_text names level i (map f ys) (map g ps)) (drop_all i es all)

-- how many pragmas stand before an entry, one by one
module _ {A : Type 0} (g : A → PPriority) (before : ℕ) where
  pub stands_yes : (ps : List A) (i : ℕ) (m : A) (n : ℕ) → i < length ps → m ≡ get_or ps i m → nat_le (g m).place before ≡ true → n ≡ i + standing before (drop i (map g ps)) → n ≡ (i + 1) + standing before (drop (i + 1) (map g ps))
  stands_yes ps i m n within is_m passes so_far =
      let inside : i < length (map g ps) = subst (λ k. i < k) (sym (length-map ps g)) within in
      let e : standing before (drop i (map g ps)) ≡ 1 + standing before (drop (i + 1) (map g ps))
      = prefix_len-drop_yes (λ p. nat_le p.place before) (map g ps) i (g m) inside (ap (λ p. nat_le p.place before) (get_or-map g ps i m (g m) within ∙ ap g (sym is_m)) ∙ passes)
      in
      grind (arith, e, so_far)

  pub stands_no : (ps : List A) (i : ℕ) (m : A) (n : ℕ) → i < length ps → m ≡ get_or ps i m → nat_le (g m).place before ≡ false → n ≡ i + standing before (drop i (map g ps)) → i ≡ n
  stands_no ps i m n within is_m fails so_far =
      let inside : i < length (map g ps) = subst (λ k. i < k) (sym (length-map ps g)) within in
      let e : standing before (drop i (map g ps)) ≡ 0
      = prefix_len-drop_no (λ p. nat_le p.place before) (map g ps) i (g m) inside (ap (λ p. nat_le p.place before) (get_or-map g ps i m (g m) within ∙ ap g (sym is_m)) ∙ fails)
      in
      grind (arith, e, so_far)

  pub stands_all : (ps : List A) (i : ℕ) (n : ℕ) → length ps ≤ i → i ≤ length ps → n ≡ i + standing before (drop i (map g ps)) → length ps ≡ n
  stands_all ps i n all within so_far =
      let past : length (map g ps) ≤ i = subst (λ k. k ≤ i) (sym (length-map ps g)) all in
      let e : standing before (drop i (map g ps)) ≡ 0 = prefix_len-drop_all (λ p. nat_le p.place before) (map g ps) i past in
      grind (arith, e, so_far)

-- what stands behind the name of a task that has entries or pragmas
pub rest_some : (names : List (List ℕ)) (level : ℕ) (x : PTask) (es : List PEntry) (ps : List PPriority) → 1 ≤ length es + length ps → task_rest names level x es ps ≡ codes " is\n" ⧺ (items_text names (deeper level) 0 es ps ⧺ (indent level ⧺ (codes "end " ⧺ (word_text names x.name ⧺ codes ";\n"))))
rest_some names level x [] [] some = absurd (not_below_zero some)
rest_some names level x [] (p ∷ ps) some = refl
rest_some names level x (e ∷ es) ps some = refl

pub rest_there :
    (names : List (List ℕ)) (level n : ℕ) (x : PTask) (es es1 es2 : List EntryDecl) (ps ps1 ps2 : List Priority) (a b c d : Drawing) →
    1 ≤ length es1 + length ps1 → es1 ≡ es → ps1 ≡ ps → es2 ≡ es → ps2 ≡ ps → n ≡ deeper level →
    Drew a b (codes " is\n") → Drew b c (items_text names n 0 (map plain_entry es2) (map plain_priority ps2)) → Drew c d (indent level ⧺ (codes "end " ⧺ (word_text names x.name ⧺ codes ";\n"))) →
    Drew a d (task_rest names level x (map plain_entry es) (map plain_priority ps))
rest_there names level n x es es1 es2 ps ps1 ps2 a b c d some first_es first_ps same_es same_ps deep head items end =
    let e : length es1 ≡ length es = ap length first_es in
    let p : length ps1 ≡ length ps = ap length first_ps in
    let me : length (map plain_entry es) ≡ length es = length-map es plain_entry in
    let mp : length (map plain_priority ps) ≡ length ps = length-map ps plain_priority in
    let there : 1 ≤ length (map plain_entry es) + length (map plain_priority ps) = omega (arith, some, e, p, me, mp) in
    let is : items_text names n 0 (map plain_entry es2) (map plain_priority ps2) ≡ items_text names (deeper level) 0 (map plain_entry es) (map plain_priority ps) =
    ap (λ k. items_text names k 0 (map plain_entry es2) (map plain_priority ps2)) deep
    ∙ ap (λ ys. items_text names (deeper level) 0 (map plain_entry ys) (map plain_priority ps2)) same_es
    ∙ ap (λ qs. items_text names (deeper level) 0 (map plain_entry es) (map plain_priority qs)) same_ps in
    drew_as a d _ _ (sym (rest_some names level x (map plain_entry es) (map plain_priority ps) there)) (drew_then a b d _ _ head (drew_then b c d _ _ (drew_as b c _ _ is items) end))

-- behind the name of a task without them its line ends
pub rest_none : (names : List (List ℕ)) (level : ℕ) (x : PTask) (es : List PEntry) (ps : List PPriority) → length es + length ps ≡ 0 → task_rest names level x es ps ≡ codes ";\n"
rest_none names level x [] [] none = refl
rest_none names level x [] (p ∷ ps) none = absurd (omega (arith, none))
rest_none names level x (e ∷ es) ps none = absurd (omega (arith, none))

-- a declaration from its indentation and its form
pub decl_there : (names : List (List ℕ)) (level : ℕ) (p q : PDecl) (a b c : Drawing) → p ≡ q → Drew a b (indent level) → Drew b c (decl_form names level q) → Drew a c (decl_text names level p)
decl_there names level p q a b c is front form = subst (λ r. Drew a c (decl_text names level r)) (sym is) (drew_then a b c _ _ front form)

-- a task body: its first line, its objects, and its body with its last line
pub task_body_there : (names : List (List ℕ)) (level n : ℕ) (p : PDecl) (w : Word) (ds : PDecls) (x : PBody) (s : Span) (a b c d e : Drawing) → n ≡ deeper level → p ≡ DTaskBody w ds x s → Drew a b (indent level) → Drew b c (codes "task body " ⧺ (word_text names w ⧺ codes " is\n")) → Drew c d (decls_text names n ds) → Drew d e (unit_text names level x w) → Drew a e (decl_text names level p)
task_body_there names level n p w ds x s a b c d e deep is front head objects end =
    decl_there names level p (DTaskBody w ds x s) a b e is front
    (drew_three b c e _ _ _ _ head (drew_then c d e _ _ (subst (λ m. Drew c d (decls_text names m ds)) deep objects) end))

-- declarations of a list of the code
pub decls_as : (names : List (List ℕ)) (level : ℕ) (xs ys : List Decl) (a b : Drawing) → xs ≡ ys → Drew a b (decls_text names level (decls_of (map plain_decl xs))) → Drew a b (decls_text names level (decls_of (map plain_decl ys)))
decls_as names level xs ys a b e = subst (λ ds. Drew a b (decls_text names level (decls_of (map plain_decl ds)))) e

-- the context clauses, or none
pub context_there : (x : Bool) (a b c : Drawing) → x ≡ true → Drew a b (codes "with TEXT_IO;\n") → Drew b c (codes "use TEXT_IO;\n") → Drew a c (context_text x)
context_there x a b c is first second = subst (λ y. Drew a c (context_text y)) (sym is) (drew_then a b c _ _ first second)

pub context_none : (x : Bool) (a : Drawing) → x ≡ false → Drew a a (context_text x)
context_none x a is = subst (λ y. Drew a a (context_text y)) (sym is) (drew_none a)
