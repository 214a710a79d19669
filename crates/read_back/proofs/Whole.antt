-- A whole text: its pieces, its tokens, its names and its items, and so what is read of it.
use Rattle.std.proofs.Common.{◌≡◌, ℕ, suc, ◌+◌, ◌-◌, ◌<◌, true, false, ◌||◌, List, [], ◌∷◌, ◌++◌, length, map, take, drop, fold, slice_get, slice_range, refl, ap, ◌∙◌, sym, subst, arith, append_assoc, append-nil, inl, inr}
use Rattle.std.proofs.lemmas.Bool.{or_left, or_right, cond-true, cond-false, false≢true, cases_Bool}
use Rattle.std.proofs.lemmas.List.{drop-drop}
use Rattle.std.proofs.lemmas.Option.{slice_get_within}
use Rattle.std.proofs.lemmas.Slice.Eq.{bytes_eq-Decides}
use Rattle.std.specs.List.{list_any, AllZip, AllByRecursion}
use Rattle.std.specs.Str.{bytes_eq}
use Rattle.std.specs.Char.{to_ascii_uppercase}
use Rattle.ada_lexer.specs.declared.kinds.Token.{Token}
use Rattle.ada_lexer.specs.declared.kinds.TokenKind.{TokenKind}
use Rattle.ada_lexer.specs.declared.kinds.TokenKind.TheVariants as kinds
use Rattle.ada_lexer.specs.declared.verdicts.Verdict.{Verdict}
use Rattle.ada_lexer.specs.declared.verdicts.Verdict.TheVariants.{Gap, Kind, Fault}
use Rattle.ada_lexer.specs.Verdicts.{verdict}
use Rattle.ada_lexer.specs.Split.{FallsInto, onto_tokens, tokens_of, IsSound, AreSound, Splits}
use Rattle.ada_lexer.proofs.Unique.{splits-unique}
use Rattle.ada_tree.specs.NameList.{predefined, interned}
use Rattle.ada_tree.specs.PlainProgram.{PProgram}
use Rattle.ada_tree.specs.WellPlaced.{IsWellPlaced}
use Rattle.ada_tree.specs.Same.{Same}
use Rattle.ada_expr_parser.specs.declared.items.ItemKind.{ItemKind}
use Rattle.ada_expr_parser.specs.declared.items.ItemKind.TheVariants as item
use Rattle.ada_expr_parser.specs.declared.items.Item.{Item}
use Rattle.ada_expr_parser.specs.Items.{name_text, Says, IsItemOf, end_item, interned_if, with_token, names_after}
use Rattle.ada_phrase_parser.specs.Spelling.{id_of}
use Rattle.ada_parser.specs.Reads.{Reads}
use Rattle.ada_printer.specs.ProgramText.{program_text}
use Rattle.read_back.proofs.Lexed.{Tells, ToldBy, AreTold, Lexed}
use Rattle.read_back.proofs.Told.{Setting, names_of, AreKnown, differ_back, id_found}
use Rattle.read_back.proofs.Units.{read_unit}

-- ---- pieces that say items have no fault

sound_by : (names : List (List ℕ)) (v : Verdict) (at : ℕ) (p : List ℕ) (More : List Item → Type 0) (items : List Item) → ToldBy names v at p More items → IsSound v × ((more : List Item) × More more)
sound_by names Gap at p More items told = (tt, (items, told))
sound_by names (Kind k) at p More items (x, more, is, said, rest) = (tt, (more, rest))
sound_by names (Fault e) at p More items told = absurd told

are_sound : (names : List (List ℕ)) (ps : List (List ℕ)) (at : ℕ) (items : List Item) → AreTold names at ps items → AreSound at ps
are_sound names [] at items told = tt
are_sound names (p ∷ ps) at items told =
    let one = sound_by names (verdict at p) at p (AreTold names (at + length p) ps) items told in
    (one.0, are_sound names ps (at + length p) one.1.0 one.1.1)

-- ---- the names of a text hold the text of each name

module _ (src : List ℕ) where
  list_any-append : (t : List ℕ) (xs ys : List (List ℕ)) → list_any (bytes_eq t) xs ≡ true → list_any (bytes_eq t) (xs ++ ys) ≡ true
  list_any-append t [] ys h = absurd (false≢true h)
  list_any-append t (x ∷ xs) ys h = elim (cases_Bool (bytes_eq t x)) [
    | inl e ↦ or_left (bytes_eq t x) _ e
    | inr e ↦ or_right (bytes_eq t x) _ (list_any-append t xs ys (sym (ap (λ b. b || list_any (bytes_eq t) xs) e) ∙ h))
  ]

  list_any-last : (t : List ℕ) (xs : List (List ℕ)) → list_any (bytes_eq t) (xs ++ t ∷ []) ≡ true
  list_any-last t [] = or_left (bytes_eq t t) _ ((bytes_eq-Decides t t).1 refl)
  list_any-last t (x ∷ xs) = or_right (bytes_eq t x) _ (list_any-last t xs)

  -- interning adds a text at the end, or nothing
  grown : (k : TokenKind) (ns : List (List ℕ)) (u : List ℕ) → (more : List (List ℕ)) × (interned_if k ns u ≡ ns ++ more)
  grown kinds.Name ns u = elim (cases_Bool (list_any (bytes_eq u) ns)) [
    | inl e ↦ ([], cond-true (list_any (bytes_eq u) ns) _ _ e ∙ sym (append-nil ns))
    | inr e ↦ (u ∷ [], cond-false (list_any (bytes_eq u) ns) _ _ e)
  ]
  grown k ns u = ([], sym (append-nil ns))

  interned_there : (ns : List (List ℕ)) (u : List ℕ) → list_any (bytes_eq u) (interned ns u) ≡ true
  interned_there ns u = elim (cases_Bool (list_any (bytes_eq u) ns)) [
    | inl e ↦ ap (list_any (bytes_eq u)) (cond-true (list_any (bytes_eq u) ns) _ _ e) ∙ e
    | inr e ↦ ap (list_any (bytes_eq u)) (cond-false (list_any (bytes_eq u) ns) _ _ e) ∙ list_any-last u ns
  ]

  pub names_grow : (tokens : List Token) (ns : List (List ℕ)) → (more : List (List ℕ)) × (fold (with_token src) ns tokens ≡ ns ++ more)
  names_grow [] ns = ([], sym (append-nil ns))
  names_grow (t ∷ tokens) ns =
      let one = grown t.kind ns (name_text src t) in
      let rest = names_grow tokens (with_token src ns t) in
      (one.0 ++ rest.0, rest.1 ∙ ap (λ l. l ++ rest.0) one.1 ∙ append_assoc ns one.0 rest.0)

  -- a token that is a name has its text among the names
  abbrev IsInterned : List (List ℕ) → Token → Type 0
  IsInterned names t = t.kind ≡ kinds.Name → list_any (bytes_eq (name_text src t)) names ≡ true

  all_interned : (tokens : List Token) (ns : List (List ℕ)) → AllByRecursion (IsInterned (fold (with_token src) ns tokens)) tokens
  all_interned [] ns = tt
  all_interned (t ∷ tokens) ns =
      let grow = names_grow tokens (with_token src ns t) in (
        λ is.
            let first : list_any (bytes_eq (name_text src t)) (with_token src ns t) ≡ true = ap (λ k. list_any (bytes_eq (name_text src t)) (interned_if k ns (name_text src t))) is ∙ interned_there ns (name_text src t) in
            ap (list_any (bytes_eq (name_text src t))) grow.1 ∙ list_any-append (name_text src t) (with_token src ns t) grow.0 first,
        all_interned tokens (with_token src ns t),
      )

  -- ---- items

  id_low : (names : List (List ℕ)) (t : List ℕ) → list_any (bytes_eq t) names ≡ true → id_of names t < length names
  id_low [] t h = absurd (false≢true h)
  id_low (x ∷ names) t h = elim (cases_Bool (bytes_eq x t)) [
    | inl e ↦ (let is : id_of (x ∷ names) t ≡ 0 = cond-true (bytes_eq x t) _ _ e in omega (arith, is))
    | inr e ↦
        (let is : id_of (x ∷ names) t ≡ suc (id_of names t) = cond-false (bytes_eq x t) _ _ e in
        let other : bytes_eq t x ≡ false = differ_back x t e in
        let more = id_low names t (sym (ap (λ b. b || list_any (bytes_eq t) names) other) ∙ h) in
        omega (arith, is, more))
  ]

  says_so : (names : List (List ℕ)) (token : Token) (p : List ℕ) (said : ItemKind) → IsInterned names token → slice_range src token.start token.end ≡ p → Tells names token.kind p said → Says src names token said
  says_so names token p (item.Name id) held slice tells =
      let text : name_text src token ≡ map to_ascii_uppercase p = ap (map to_ascii_uppercase) slice in
      let there = held tells.0 in
      let is : id.0 ≡ id_of names (name_text src token) = tells.1 ∙ ap (id_of names) (sym text) in
      (tells.0, ap (slice_get names) is ∙ id_found names (name_text src token) (id_low names (name_text src token) there))
  says_so names token p (item.Symbol s) held slice tells = tells
  says_so names token p (item.Integer v) held slice tells = tells
  says_so names token p (item.Duration v) held slice tells = tells
  says_so names token p item.Text held slice tells = tells
  says_so names token p item.End held slice tells = tells

  item_by : (names : List (List ℕ)) (v : Verdict) (at : ℕ) (p : List ℕ) (tokens : List Token) (More : List Item → Type 0) → slice_range src at (at + length p) ≡ p →
      ((items : List Item) → More items → AllByRecursion (IsInterned names) tokens → AllZip (IsItemOf src names) tokens items) →
      (items : List Item) → ToldBy names v at p More items → AllByRecursion (IsInterned names) (onto_tokens v at (at + length p) tokens) → AllZip (IsItemOf src names) (onto_tokens v at (at + length p) tokens) items
  item_by names Gap at p tokens More slice rest items told held = rest items told held
  item_by names (Kind k) at p tokens More slice rest items (x, more, is, said, others) held =
      let token : Token = record { kind = k; start = at; end = at + length p } in
      let one : IsItemOf src names token x = record { says = says_so names token p x.kind held.0 slice said.tells; start = said.start; end = said.end } in
      subst (λ l. AllZip (IsItemOf src names) (token ∷ tokens) l) (sym is) (one, rest more others held.1)
  item_by names (Fault e) at p tokens More slice rest items told held = absurd told

  are_items : (names : List (List ℕ)) (ps : List (List ℕ)) (at : ℕ) (items : List Item) → FallsInto ps [] (drop at src) → AreTold names at ps items → AllByRecursion (IsInterned names) (tokens_of at ps) → AllZip (IsItemOf src names) (tokens_of at ps) items
  are_items names [] at items falls told held = subst (λ l. AllZip (IsItemOf src names) [] l) (sym told) tt
  are_items names (p ∷ ps) at items falls told held =
      let len : (at + length p) - at ≡ length p = omega arith in
      let slice : slice_range src at (at + length p) ≡ p = ap (λ k. take k (drop at src)) len ∙ sym falls.0.stands in
      let later = subst (FallsInto ps []) (drop-drop (length p) at src) falls.1 in
      item_by names (verdict at p) at p (tokens_of (at + length p) ps) (AreTold names (at + length p) ps) slice (λ more others rest. are_items names ps (at + length p) more later others rest) items told held

-- items of a text are known
known_by : (w : Setting) (src : List ℕ) (t : Token) (x : Item) → IsItemOf src (names_of w) t x → AreKnown w (x ∷ [])
known_by w src t x is = by x.kind is.says
  where
    by : (kind : ItemKind) → Says src (names_of w) t kind → AreKnown w (record { kind = kind; span = x.span } ∷ [])
    by (item.Name id) says = (slice_get_within (names_of w) id.0 _ says.1, tt)
    by (item.Symbol s) says = (tt, tt)
    by (item.Integer v) says = (tt, tt)
    by (item.Duration v) says = (tt, tt)
    by item.Text says = (tt, tt)
    by item.End says = (tt, tt)

are_known : (w : Setting) (src : List ℕ) (tokens : List Token) (items : List Item) → AllZip (IsItemOf src (names_of w)) tokens items → AreKnown w items
are_known w src [] [] zip = tt
are_known w src [] (x ∷ items) zip = absurd zip
are_known w src (t ∷ tokens) [] zip = absurd zip
are_known w src (t ∷ tokens) (x ∷ items) zip = ((known_by w src t x zip.0).0, are_known w src tokens items zip.1)

-- ---- what is read

-- the text of a program says items, by whatever names
pub record SaysItems (w : Setting) (p : PProgram) (items : List Item) : Type 0 where
  pub pieces : List (List ℕ)
  pub falls : FallsInto pieces [] (program_text p)
  pub told : AreTold (names_of w) 0 pieces items

splits : (w : Setting) (p : PProgram) (items : List Item) → (h : SaysItems w p items) → Splits (program_text p) (tokens_of 0 h.pieces)
splits w p items h = (h.pieces, h.falls, are_sound (names_of w) h.pieces 0 items h.told, refl)

says_items : (w : Setting) (p : PProgram) (well : IsWellPlaced p) → SaysItems w p (read_unit w p well).1.items
says_items w p well =
    let told = (read_unit w p well).1 in
    let lexed : Lexed (names_of w) 0 (program_text p ++ []) (told.items ++ []) = told.chunk [] [] tt ([], refl, refl) in
    let plain : Lexed (names_of w) 0 (program_text p) told.items = rw (append-nil (program_text p), append-nil told.items) at lexed in
    record { pieces = plain.0; falls = plain.1; told = plain.2 }

pub read_back : (p : PProgram) → IsWellPlaced p → (q : PProgram) × Reads (program_text p) q × Same p q
read_back p well =
    let text : List ℕ = program_text p in
    let first : Setting = record { bytes = text; more = [] } in
    let tokens : List Token = tokens_of 0 (says_items first p well).pieces in
    let grow = names_grow text tokens predefined in
    let w : Setting = record { bytes = text; more = grow.0 } in
    let told = (read_unit w p well).1 in
    let said = says_items w p well in
    let same : tokens_of 0 said.pieces ≡ tokens = splits-unique text _ _ (splits w p told.items said) (splits first p _ (says_items first p well)) in
    let names : names_of w ≡ names_after text (tokens_of 0 said.pieces) = sym grow.1 ∙ ap (names_after text) (sym same) in
    let held : AllByRecursion (IsInterned text (names_of w)) (tokens_of 0 said.pieces) = rw names (all_interned text (tokens_of 0 said.pieces) predefined) in
    let zip = are_items text (names_of w) said.pieces 0 told.items said.falls said.told held in
    let spelled = told.says ([], sym (append-nil text)) (are_known w text (tokens_of 0 said.pieces) told.items zip) in
    let y = (read_unit w p well).0 in (
      record { names = names_of w; text_io = y.text_io; name = y.name; decls = y.decls; body = y.body },
      record {
        items = told.items ++ end_item text ∷ [];
        are_items = record { tokens = tokens_of 0 said.pieces; splits = splits w p told.items said; source_is = ap (λ l. record { bytes = text; names = l }) names; items_are = (told.items, zip, refl) };
        spelled = (told.items, end_item text, refl, refl, spelled.0);
      },
      (spelled.1.text_io, spelled.1.name, spelled.1.decls, spelled.1.body),
    )
