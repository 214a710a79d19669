-- The text of well placed declarations is those declarations, at the places where they stand (chapters 3, 9 and 11).
use Rattle.std.proofs.Common.{◌≡◌, ℕ, suc, ◌+◌, ◌≤◌, Bool, true, false, List, [], ◌∷◌, length, codes, Option, None, Some, IfSome, refl, ap, arith, inl}
use Rattle.std.specs.List.{AllZip}
use Rattle.ada_tree.specs.declared.naming.Span.{Span}
use Rattle.ada_tree.specs.declared.naming.Word.{Word}
use Rattle.ada_tree.specs.PlainExpr.{PExpr, PSubind, PDrange}
use Rattle.ada_tree.specs.PlainStmt.{PBody}
use Rattle.ada_tree.specs.PlainDecl.{PShape, OPlain, OArray, PInit, IOne, IList, IOthers, PTask, PDecl, DNumber, DObject, DEnumeration, DArray, DSubtype, DException, DIntIo, DPragma, DTask, DTaskBody, PDecls, no_decl, decl_then}
use Rattle.ada_tree.specs.WellPlaced.{IsGiven, AreObjects, IsLater, AreLater, BodiesLast, well_placed}
use Rattle.ada_tree.specs.Every.{EveryWord, EveryExpr, EveryNames, EveryDrange, EverySubind, EveryShape, EveryInit, EveryTask, EveryBody, EveryDecl, EveryDecls}
use Rattle.ada_tree.specs.Same.{SameOption, SameExpr, SameDrange, SameSubind, SameShape, SameInit, SameDecl, SameDecls, SameBody}
use Rattle.ada_lexer.specs.declared.symbols.Symbol.TheVariants as key
use Rattle.ada_expr_parser.specs.Grammar.{AreEnclosed}
use Rattle.ada_phrase_parser.specs.Spelling.{Source, ◌▷◌, IfThere, Key}
use Rattle.ada_parser.specs.Declarations.{ArrayOf, IsShape, IsList, IsInit, UnitEnd, IsDecl, Decls}
use Rattle.ded_io.specs.Written.{◌⧺◌}
use Rattle.ada_printer.specs.Layout.{deeper, indent, word_text, words_text}
use Rattle.ada_printer.specs.ExprText.{drange_text, array_text}
use Rattle.ada_printer.specs.DeclText.{shape_text, init_text, value_text, unit_text, decl_form_text, decls_text}
use Rattle.read_back.proofs.Classes.{Anything, Plain, Stop}
use Rattle.read_back.proofs.Told.{Setting, names_of, source_of, Told, Blank, Line, Sign, Fixed, Filled, told_as, told_same, told_any, told_nothing, told_then, told_text, told_indent, told_bits, told_closed, told_placed, filled_key, filled_then, filled_named}
use Rattle.read_back.proofs.NamesAndLiterals.{new_word, told_word}
use Rattle.read_back.proofs.Phrases.{group, group3, under_first, over_first, Found, read_names, is_expression, read_exprs, read_subind, read_drange}
use Rattle.read_back.proofs.Productions.{filled_behind}
use Rattle.read_back.proofs.Compounds.{read_end}
use Rattle.read_back.proofs.Statements.{read_body}
use Rattle.read_back.proofs.Tasks.{empty_shut, read_pragma, filled_task, read_task}

-- ---- what is the same stands where the other may

objects_same : (n m : List (List ℕ)) (x y : PDecls) → SameDecls n m x y → AreObjects x → AreObjects y
objects_same n m no_decl no_decl same are = tt
objects_same n m no_decl (decl_then y l) same are = absurd same
objects_same n m (decl_then x k) no_decl same are = absurd same
objects_same n m (decl_then (DObject ws c x i s) k) (decl_then (DObject vs d y j t) l) same are = objects_same n m k l same.1 are
objects_same n m (decl_then (DObject ws c x i s) k) (decl_then y l) same are = absurd same.0
objects_same n m (decl_then x k) (decl_then y l) same are = absurd are

later_same : (n m : List (List ℕ)) (x y : PDecl) → SameDecl n m x y → IsLater x → IsLater y
later_same n m (DTaskBody w ds b s) (DTaskBody v es c t) same is = tt
later_same n m (DTask x s) (DTask y t) same is = tt
later_same n m (DIntIo w s) (DIntIo v t) same is = tt
later_same n m (DTaskBody w ds b s) y same is = absurd same
later_same n m (DTask x s) y same is = absurd same
later_same n m (DIntIo w s) y same is = absurd same
later_same n m x y same is = absurd is

are_later_same : (n m : List (List ℕ)) (x y : PDecls) → SameDecls n m x y → AreLater x → AreLater y
are_later_same n m no_decl no_decl same are = tt
are_later_same n m no_decl (decl_then y l) same are = absurd same
are_later_same n m (decl_then x k) no_decl same are = absurd same
are_later_same n m (decl_then x k) (decl_then y l) same are = (later_same n m x y same.0 are.0, are_later_same n m k l same.1 are.1)

pub bodies_same : (n m : List (List ℕ)) (x y : PDecls) → SameDecls n m x y → BodiesLast x → BodiesLast y
bodies_same n m no_decl no_decl same last = tt
bodies_same n m no_decl (decl_then y l) same last = absurd same
bodies_same n m (decl_then x k) no_decl same last = absurd same
bodies_same n m (decl_then (DTaskBody w ds b s) k) (decl_then (DTaskBody v es c t) l) same last = are_later_same n m k l same.1 last
bodies_same n m (decl_then (DTaskBody w ds b s) k) (decl_then y l) same last = absurd same.0
bodies_same n m (decl_then (DNumber v e s) k) (decl_then (DNumber u f t) l) same last = bodies_same n m k l same.1 last
bodies_same n m (decl_then (DObject ws c x i s) k) (decl_then (DObject vs d y j t) l) same last = bodies_same n m k l same.1 last
bodies_same n m (decl_then (DEnumeration v ws s) k) (decl_then (DEnumeration u vs t) l) same last = bodies_same n m k l same.1 last
bodies_same n m (decl_then (DArray v r x s) k) (decl_then (DArray u q y t) l) same last = bodies_same n m k l same.1 last
bodies_same n m (decl_then (DSubtype v x s) k) (decl_then (DSubtype u y t) l) same last = bodies_same n m k l same.1 last
bodies_same n m (decl_then (DException ws s) k) (decl_then (DException vs t) l) same last = bodies_same n m k l same.1 last
bodies_same n m (decl_then (DIntIo v s) k) (decl_then (DIntIo u t) l) same last = bodies_same n m k l same.1 last
bodies_same n m (decl_then (DPragma e s) k) (decl_then (DPragma f t) l) same last = bodies_same n m k l same.1 last
bodies_same n m (decl_then (DTask x s) k) (decl_then (DTask y t) l) same last = bodies_same n m k l same.1 last
bodies_same n m (decl_then x k) (decl_then y l) same last = absurd same.0

same_length : {A : Type 0} (R : A → A → Type 0) (xs ys : List A) → AllZip R xs ys → length ys ≡ length xs
same_length R [] [] same = refl
same_length R [] (y ∷ ys) same = absurd same
same_length R (x ∷ xs) [] same = absurd same
same_length R (x ∷ xs) (y ∷ ys) same = ap (λ k. suc k) (same_length R xs ys same.1)

module _ (w : Setting) (n : List (List ℕ)) where
  abbrev m : List (List ℕ)
  m = names_of w

  abbrev src : Source
  src = source_of w

  -- ---- shapes and values

  read_array : (d : ℕ) (r : PDrange) (x : PSubind) (at : ℕ) → 300 ≤ 2 + d → EveryDrange (well_placed n) 2 r → EverySubind (well_placed n) 2 x →
      (q : PDrange) × (y : PSubind) × Told w (SameDrange n m r q × SameSubind n m x y) Plain Stop (ArrayOf d q y) at (array_text n r x)
  read_array d r x at deep good fine =
      let q = read_drange w n 2 d r (at + 7) deep good in
      let y = read_subind w n 2 d x ((((at + 7) + length (drange_text n r))) + 5) deep fine in
      (q.0, y.0, told_bits w (Sign key.Array ∷ Blank ∷ Sign key.LeftParen ∷ []) (told_then w q.1 (told_bits w (Sign key.RightParen ∷ Blank ∷ Sign key.Of ∷ Blank ∷ []) y.1 refl) refl) refl)

  read_shape : (d : ℕ) (x : PShape) (at : ℕ) → 300 ≤ 2 + d → EveryShape (well_placed n) x → Found w n (SameShape n m x) Plain Stop (IsShape d) at (shape_text n x)
  read_shape d (OPlain x) at deep good = let y = read_subind w n 2 d x at deep good in (OPlain y.0, y.1)
  read_shape d (OArray r x) at deep good = let y = read_array d r x at deep good.0 good.1 in (OArray y.0 y.1, y.2)

  filled_list : (d : ℕ) (es : List PExpr) → Filled (IsList d es)
  filled_list d [] said = said.1
  filled_list d (e ∷ es) said = empty said.1
    where
      empty : AreEnclosed (suc d) (e ∷ es) [] → ⊥
      empty (lead, front, back, close, spells, low, more, is) = cc

  read_init : (d : ℕ) (x : PInit) (at : ℕ) → 300 ≤ 2 + d → EveryInit (well_placed n) x → Found w n (SameInit n m x) Anything Stop (IsInit d) at (init_text n x)
  read_init d (IOne e) at deep good = let y = is_expression w n 2 d e at deep good in (IOne y.0, y.1)
  read_init d (IList es s) at deep good =
      let ys = read_exprs w n 1 (suc d) es at (omega (arith, deep)) (omega (arith, good.0), good.1) in
      let p = told_placed w (filled_list d ys.0) (told_as w ys.1 (λ items said same. ((omega (arith, good.0, same_length (SameExpr n m) es ys.0 same), said), same))) in
      (IList ys.0 p.0, told_any w p.1)
  read_init d (IOthers e s) at deep good =
      let y = is_expression w n 2 d e (at + 11) deep good in
      let p = told_placed w (filled_then filled_key) (told_bits w (Sign key.LeftParen ∷ Sign key.Others ∷ Blank ∷ Sign key.Arrow ∷ Blank ∷ []) (told_closed w (Sign key.RightParen ∷ []) y.1 refl refl) refl) in
      (IOthers y.0 p.0, told_any w p.1)

  read_value : (d : ℕ) (x : Option PInit) (at : ℕ) → 300 ≤ 2 + d → IfSome x (EveryInit (well_placed n)) → Found w n (SameOption (SameInit n m) x) Stop Stop (λ i. IfThere i (λ y. Key key.Becomes ▷ IsInit d y)) at (value_text n x)
  read_value d None at deep good = (None, told_nothing w)
  read_value d (Some x) at deep good =
      let y = read_init d x (at + 4) deep good in
      (Some y.0, told_bits w (Blank ∷ Sign key.Becomes ∷ Blank ∷ []) y.1 refl)

  -- ---- declarations

  number_from : (d level : ℕ) (v : Word) (e : PExpr) (s : Span) (at : ℕ) → 300 ≤ 2 + d → EveryWord (well_placed n) v → EveryExpr (well_placed n) 2 e → Found w n (SameDecl n m (DNumber v e s)) Anything Anything (IsDecl src d) at (decl_form_text n level (DNumber v e s))
  number_from d level v e s at deep good fine =
      let y = is_expression w n 2 d e ((at + length (word_text n v)) + 15) deep fine in
      let p = told_placed w (filled_then filled_named) (told_any w (told_then w (told_word w n v good) (told_bits w (Blank ∷ Sign key.Colon ∷ Blank ∷ Sign key.Constant ∷ Blank ∷ Sign key.Becomes ∷ Blank ∷ []) (told_closed w (Sign key.Semicolon ∷ Line ∷ []) y.1 refl refl) refl) refl)) in
      (DNumber (new_word w n at v) y.0 p.0, p.1)

  object_from : (d level : ℕ) (ws : List Word) (c : Bool) (x : PShape) (i : Option PInit) (s : Span) (at : ℕ) → 300 ≤ 2 + d → EveryNames (well_placed n) ws → EveryShape (well_placed n) x → IsGiven c i → IfSome i (EveryInit (well_placed n)) →
      Found w n (SameDecl n m (DObject ws c x i s)) Anything Anything (IsDecl src d) at (decl_form_text n level (DObject ws c x i s))
  object_from d level ws true x None s at deep good fine given init = absurd given
  object_from d level ws true x (Some i) s at deep good fine given init =
      let names = read_names w n ws at good in
      let start = ((at + length (words_text n ws)) + 3) + 9 in
      let shape = read_shape d x start deep fine in
      let value = read_init d i ((start + length (shape_text n x)) + 4) deep init in
      let told = told_then w names.1 (told_bits w (Blank ∷ Sign key.Colon ∷ Blank ∷ []) (told_bits w (Sign key.Constant ∷ Blank ∷ []) (told_then w shape.1 (told_closed w (Sign key.Semicolon ∷ Line ∷ []) (told_bits w (Blank ∷ Sign key.Becomes ∷ Blank ∷ []) value.1 refl) refl refl) refl) refl) refl) refl in
      let p = told_placed w (filled_behind (filled_then filled_key)) (told_any w (told_as w told (λ items said same. (under_first (λ m1. under_first (λ m2 q. group3 q)) said, (same.0, refl, same.1.0, same.1.1))))) in
      (DObject names.0 true shape.0 (Some value.0) p.0, p.1)
  object_from d level ws false x i s at deep good fine given init =
      let names = read_names w n ws at good in
      let start = (at + length (words_text n ws)) + 3 in
      let shape = read_shape d x start deep fine in
      let value = read_value d i (start + length (shape_text n x)) deep init in
      let behind = told_then w shape.1 (told_closed w (Sign key.Semicolon ∷ Line ∷ []) value.1 refl refl) refl in
      let told = told_then w names.1 (told_bits w (Blank ∷ Sign key.Colon ∷ Blank ∷ []) (told_text w _ _ (empty_shut _) behind) refl) refl in
      let p = told_placed w (filled_behind (filled_then filled_key)) (told_any w (told_as w told (λ items said same. (under_first (λ m1. under_first (λ m2 q. group q)) said, (same.0, refl, same.1.0, same.1.1))))) in
      (DObject names.0 false shape.0 value.0 p.0, p.1)

  enumeration_from : (d level : ℕ) (v : Word) (ws : List Word) (s : Span) (at : ℕ) → EveryWord (well_placed n) v → EveryNames (well_placed n) ws → Found w n (SameDecl n m (DEnumeration v ws s)) Anything Anything (IsDecl src d) at (decl_form_text n level (DEnumeration v ws s))
  enumeration_from d level v ws s at good fine =
      let names = read_names w n ws (((at + 5) + length (word_text n v)) + 5) fine in
      let p = told_placed w (filled_then filled_key) (told_any w (told_bits w (Sign key.Type ∷ Blank ∷ []) (told_then w (told_word w n v good) (told_bits w (Blank ∷ Sign key.Is ∷ Blank ∷ Sign key.LeftParen ∷ []) (told_closed w (Sign key.RightParen ∷ Sign key.Semicolon ∷ Line ∷ []) names.1 refl refl) refl) refl) refl)) in
      (DEnumeration (new_word w n (at + 5) v) names.0 p.0, p.1)

  array_from : (d level : ℕ) (v : Word) (r : PDrange) (x : PSubind) (s : Span) (at : ℕ) → 300 ≤ 2 + d → EveryWord (well_placed n) v → EveryDrange (well_placed n) 2 r → EverySubind (well_placed n) 2 x → Found w n (SameDecl n m (DArray v r x s)) Anything Anything (IsDecl src d) at (decl_form_text n level (DArray v r x s))
  array_from d level v r x s at deep good fine well =
      let y = read_array d r x (((at + 5) + length (word_text n v)) + 4) deep fine well in
      let p = told_placed w (filled_then filled_key) (told_any w (told_bits w (Sign key.Type ∷ Blank ∷ []) (told_then w (told_word w n v good) (told_bits w (Blank ∷ Sign key.Is ∷ Blank ∷ []) (told_closed w (Sign key.Semicolon ∷ Line ∷ []) y.2 refl refl) refl) refl) refl)) in
      (DArray (new_word w n (at + 5) v) y.0 y.1 p.0, told_same w p.1 (λ same. (same.0, same.1.0, same.1.1)))

  subtype_from : (d level : ℕ) (v : Word) (x : PSubind) (s : Span) (at : ℕ) → 300 ≤ 2 + d → EveryWord (well_placed n) v → EverySubind (well_placed n) 2 x → Found w n (SameDecl n m (DSubtype v x s)) Anything Anything (IsDecl src d) at (decl_form_text n level (DSubtype v x s))
  subtype_from d level v x s at deep good fine =
      let y = read_subind w n 2 d x (((at + 8) + length (word_text n v)) + 4) deep fine in
      let p = told_placed w (filled_then filled_key) (told_any w (told_bits w (Sign key.Subtype ∷ Blank ∷ []) (told_then w (told_word w n v good) (told_bits w (Blank ∷ Sign key.Is ∷ Blank ∷ []) (told_closed w (Sign key.Semicolon ∷ Line ∷ []) y.1 refl refl) refl) refl) refl)) in
      (DSubtype (new_word w n (at + 8) v) y.0 p.0, p.1)

  exception_decl_from : (d level : ℕ) (ws : List Word) (s : Span) (at : ℕ) → EveryNames (well_placed n) ws → Found w n (SameDecl n m (DException ws s)) Anything Anything (IsDecl src d) at (decl_form_text n level (DException ws s))
  exception_decl_from d level ws s at good =
      let names = read_names w n ws at good in
      let p = told_placed w (filled_behind (filled_then filled_key)) (told_any w (told_closed w (Blank ∷ Sign key.Colon ∷ Blank ∷ Sign key.Exception ∷ Sign key.Semicolon ∷ Line ∷ []) names.1 refl refl)) in
      (DException names.0 p.0, p.1)

  instance_from : (d level : ℕ) (v : Word) (s : Span) (at : ℕ) → EveryWord (well_placed n) v → Found w n (SameDecl n m (DIntIo v s)) Anything Anything (IsDecl src d) at (decl_form_text n level (DIntIo v s))
  instance_from d level v s at good =
      let use_again = told_indent w level (told_bits w (Sign key.Use ∷ Blank ∷ []) (told_closed w (Sign key.Semicolon ∷ Line ∷ []) (told_word w n v good) refl refl) refl) in
      let told = told_bits w (Sign key.Package ∷ Blank ∷ []) (told_then w (told_word w n v good) (told_bits w (Blank ∷ Sign key.Is ∷ Blank ∷ Sign key.New ∷ Blank ∷ Fixed (codes "INTEGER_IO") ∷ Sign key.LeftParen ∷ Fixed (codes "INTEGER") ∷ Sign key.RightParen ∷ Sign key.Semicolon ∷ Line ∷ []) use_again refl) refl) refl in
      let p = told_placed w (filled_then filled_key) (told_any w (told_as w told (λ items said same. (under_first (λ m1. under_first (λ m2. under_first (λ m3. under_first (λ m4 q. ([], m4, refl, inl refl, under_first (λ m5. under_first (λ m6. under_first (λ m7. under_first (λ m8. under_first (λ m9. under_first (λ m10. over_first (λ front named. (_, named)))))))) q))))) said, same.0)))) in
      (DIntIo (new_word w n (at + 8) v) p.0, p.1)

  pragma_from : (d level : ℕ) (e : PExpr) (s : Span) (at : ℕ) → 300 ≤ 2 + d → EveryExpr (well_placed n) 2 e → Found w n (SameDecl n m (DPragma e s)) Anything Anything (IsDecl src d) at (decl_form_text n level (DPragma e s))
  pragma_from d level e s at deep good =
      let y = read_pragma w n d e at deep good in
      let p = told_placed w (filled_then filled_key) (told_any w y.1) in
      (DPragma y.0 p.0, p.1)

  task_from : (d level : ℕ) (x : PTask) (s : Span) (at : ℕ) → 300 ≤ 2 + d → EveryTask (well_placed n) x → Found w n (SameDecl n m (DTask x s)) Anything Anything (IsDecl src d) at (decl_form_text n level (DTask x s))
  task_from d level x s at deep good =
      let y = read_task w n d level x at deep good in
      let p = told_placed w (filled_task w n d y.0) (told_any w y.1) in
      (DTask y.0 p.0, p.1)

  -- the end of a unit
  pub read_unit_end : (d level : ℕ) (b : PBody) (v : Word) (from at : ℕ) → 300 ≤ 1 + d → EveryBody (well_placed n) 1 b → EveryWord (well_placed n) v → (c : PBody) × Told w (SameBody n m b c) Anything Anything (UnitEnd src d (new_word w n from v) c) at (unit_text n level b v)
  read_unit_end d level b v from at deep good fine =
      let c = read_body w n 1 d level b (at + length (indent level)) deep good in
      (c.0, told_same w (told_indent w level (told_then w c.1 (told_indent w level (read_end w n v _ from fine)) refl)) (λ same. same.0))

  task_body_from : (d level : ℕ) (v : Word) (ds : PDecls) (b : PBody) (s : Span) (at : ℕ) → 300 ≤ 2 + d → EveryWord (well_placed n) v → AreObjects ds → EveryBody (well_placed n) 1 b →
      Found w n (SameDecls n m ds) Anything Anything (Decls src d) (((at + 10) + length (word_text n v)) + 4) (decls_text n (deeper level) ds) → Found w n (SameDecl n m (DTaskBody v ds b s)) Anything Anything (IsDecl src d) at (decl_form_text n level (DTaskBody v ds b s))
  task_body_from d level v ds b s at deep good are fine inside =
      let end = read_unit_end (suc d) level b v (at + 10) ((((at + 10) + length (word_text n v)) + 4) + length (decls_text n (deeper level) ds)) (omega (arith, deep)) fine good in
      let within = told_as w inside.1 (λ items said same. ((objects_same n m ds inside.0 same are, said), same)) in
      let told = told_bits w (Sign key.Task ∷ Blank ∷ Sign key.Body ∷ Blank ∷ []) (told_then w (told_word w n v good) (told_bits w (Blank ∷ Sign key.Is ∷ Line ∷ []) (told_then w within end.1 refl) refl) refl) refl in
      let p = told_placed w (filled_then filled_key) (told_any w told) in
      (DTaskBody (new_word w n (at + 10) v) inside.0 end.0 p.0, told_same w p.1 (λ same. (same.0, same.1.0, same.1.1)))

  mutual
    read_decl : (d level : ℕ) (x : PDecl) (at : ℕ) → 300 ≤ 2 + d → EveryDecl (well_placed n) x → Found w n (SameDecl n m x) Anything Anything (IsDecl src d) at (decl_form_text n level x)
    read_decl d level (DNumber v e s) at deep every = number_from d level v e s at deep every.1 every.2
    read_decl d level (DObject ws c x i s) at deep every = object_from d level ws c x i s at deep every.1 every.2 every.3 every.4
    read_decl d level (DEnumeration v ws s) at deep every = enumeration_from d level v ws s at every.1 every.2
    read_decl d level (DArray v r x s) at deep every = array_from d level v r x s at deep every.1 every.2 every.3
    read_decl d level (DSubtype v x s) at deep every = subtype_from d level v x s at deep every.1 every.2
    read_decl d level (DException ws s) at deep every = exception_decl_from d level ws s at every.1
    read_decl d level (DIntIo v s) at deep every = instance_from d level v s at every.1
    read_decl d level (DPragma e s) at deep every = pragma_from d level e s at deep every.1
    read_decl d level (DTask x s) at deep every = task_from d level x s at deep every.1
    read_decl d level (DTaskBody v ds b s) at deep every = task_body_from d level v ds b s at deep every.1 every.2 every.4 (read_decls d (deeper level) ds _ deep every.3)

    pub read_decls : (d level : ℕ) (x : PDecls) (at : ℕ) → 300 ≤ 2 + d → EveryDecls (well_placed n) x → Found w n (SameDecls n m x) Anything Anything (Decls src d) at (decls_text n level x)
    read_decls d level no_decl at deep every = (no_decl, told_nothing w)
    read_decls d level (decl_then x l) at deep every =
        let one = read_decl d level x (at + length (indent level)) deep every.0 in
        let more = read_decls d level l (at + length (indent level ⧺ decl_form_text n level x)) deep every.1 in
        (decl_then one.0 more.0, told_then w (told_indent w level one.1) more.1 refl)
