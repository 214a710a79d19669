-- What is read as a declaration is one in the grammar's words, and each that the grammar has is read (3.9).
use Rattle.std.proofs.Common.{◌≡◌, ℕ, suc, Bool, true, false, inl, inr, List, [], ◌∷◌, ◌++◌, refl, sym, ap, ◌∙◌, subst}
use Rattle.ada_expr_parser.specs.readers.Grammars.{Texts, One, Then}
use Rattle.ada_expr_parser.specs.readers.Lawful.{Lawful}
use Rattle.ada_expr_parser.proofs.readers.Fitting.{law_fit}
use Rattle.ada_tree.specs.declared.naming.Span.{Span}
use Rattle.ada_tree.specs.declared.naming.Word.{Word}
use Rattle.ada_tree.specs.PlainDecl.{PEntry, PPriority, PDecl, DNumber, DObject, DEnumeration, DArray, DSubtype, DException, DIntIo, DPragma, DTask, DTaskBody}
use Rattle.ada_lexer.specs.declared.symbols.Symbol.{Symbol}
use Rattle.ada_lexer.specs.declared.symbols.Symbol.TheVariants as key
use Rattle.ada_expr_parser.specs.declared.items.Item.{Item}
use Rattle.ada_expr_parser.specs.Tests.{symbol, word}
use Rattle.ada_expr_parser.specs.Trees.{from_to}
use Rattle.ada_expr_parser.specs.Grammar.{symbol_item, word_item}
use Rattle.ada_parser.proofs.expression_laws.Plainly.{after_symbol, symbol_then, after_word, word_then}
use Rattle.ada_phrase_parser.specs.Spelling.{Source, Spelling, ◌▷◌, Key, Named, Placed, IsPlaceOf}
use Rattle.ada_task_parser.specs.Tasks.{Member, entries_in, priorities_in, TaskWord, TaskRest}
use Rattle.ada_parser.specs.Declarations.{IsDecl}
use Rattle.ada_stmt_parser.specs.inner.ReadingStatements.{readers}
use Rattle.ada_parser.specs.inner.ReadingDeclarativeParts as declarative
use Rattle.ada_task_parser.specs.inner.ReadingTasks as tasks
use Rattle.ada_parser.proofs.KitPieces.{Closing, closing_then, same_grouped, after_key, placed_key, key_placed}
use Rattle.ada_parser.proofs.KitReading.{key_taken, taken_key}
use Rattle.ada_parser.proofs.StmtLevels.{LevelLaws}
use Rattle.ada_parser.proofs.DeclNames.{WordDecls, object_name}
use Rattle.ada_parser.proofs.DeclTypes.{NameIs, EnumerationTexts, ArrayTexts, TypeTexts, enumeration_closing, array_closing, SubtypeTexts, subtype_closing, InstanceTexts, instance_closing, priority_closing}
use Rattle.ada_parser.proofs.DeclTasks.{RestTexts, RestShut, rest_closing}
use Rattle.ada_parser.proofs.DeclLaws.{BodyDecls, body_closing, TaskTexts, PragmaTexts, DeclTexts, law_either_decl}

module _ (source : Source) where
  abbrev pub Decl : Texts Item PDecl
  Decl d a text = IsDecl source d a text

  -- a declaration that begins with this symbol
  led : (s : Symbol) (d : ℕ) (a b : PDecl) (lead : Span) (back text : List Item) → text ≡ symbol_item s lead ∷ back → a ≡ b → Decl d b (symbol_item s lead ∷ back) → Decl d a text
  led s d a b lead back text from same is = subst (Decl d a) (sym from) (subst (λ x. Decl d x (symbol_item s lead ∷ back)) (sym same) is)

  -- ---- read, and so a declaration

  type_is : (d : ℕ) (a : PDecl) (lead : Span) (back text : List Item) → text ≡ symbol_item key.«Type» lead ∷ back → NameIs (TypeTexts lead) d a back → Decl d a text
  type_is d a lead back text from (w, f, b, split, named, (f2, b2, split2, is, inl taken)) =
      let (f3, b3, split3, mark, ((ws, close), same, rest)) = key_taken key.LeftParen (EnumerationTexts lead w) d a b2 taken in
      led key.«Type» d a (DEnumeration w ws (from_to lead close)) lead back text from same
      (placed_key key.«Type» (enumeration_closing w ws) lead close back (f, b, split, named, (f2, b2, split2, is, (f3, b3, split3, mark, rest))))
  type_is d a lead back text from (w, f, b, split, named, (f2, b2, split2, is, inr (inl taken))) =
      let (f3, b3, split3, mark, ((r, (x, close)), same, rest)) = key_taken key.Array (ArrayTexts lead w) d a b2 taken in
      led key.«Type» d a (DArray w r x (from_to lead close)) lead back text from same
      (placed_key key.«Type» (array_closing d w r x) lead close back (f, b, split, named, (f2, b2, split2, is, (f3, b3, split3, mark, rest))))
  type_is d a lead back text from (w, f, b, split, named, (f2, b2, split2, is, inr (inr never))) = absurd never

  subtype_is : (d : ℕ) (a : PDecl) (lead : Span) (back text : List Item) → text ≡ symbol_item key.Subtype lead ∷ back → NameIs (SubtypeTexts lead) d a back → Decl d a text
  subtype_is d a lead back text from (w, f, b, split, named, (f2, b2, split2, is, ((x, close), same, rest))) =
      led key.Subtype d a (DSubtype w x (from_to lead close)) lead back text from same
      (placed_key key.Subtype (subtype_closing d w x) lead close back (f, b, split, named, (f2, b2, split2, is, rest)))

  instance_is : (d : ℕ) (a : PDecl) (lead : Span) (back text : List Item) → text ≡ symbol_item key.Package lead ∷ back → NameIs (InstanceTexts lead) d a back → Decl d a text
  instance_is d a lead back text from (w, f, b, split, named, (f2, b2, split2, is, (close, same, rest))) =
      led key.Package d a (DIntIo w (from_to lead close)) lead back text from same
      (placed_key key.Package (instance_closing w) lead close back (f, b, split, named, (f2, b2, split2, is, rest)))

  pragma_is : (d : ℕ) (a : PDecl) (lead : Span) (back text : List Item) → text ≡ symbol_item key.Pragma lead ∷ back → PragmaTexts source lead d a back → Decl d a text
  pragma_is d a lead back text from ((e, close), same, rest) =
      led key.Pragma d a (DPragma e (from_to lead close)) lead back text from same (placed_key key.Pragma (priority_closing source d e) lead close back rest)

  -- a task with these members
  kind_closing : (d : ℕ) (w : Word) (ms : List Member) → Closing (λ close. Key key.«Type» ▷ Named w ▷ RestShut source d w ms close) (Key key.«Type» ▷ Named w ▷ TaskRest source d w ms)
  kind_closing d w ms = closing_then (Key key.«Type») (closing_then (Named w) (rest_closing source d w ms))

  one_closing : (d : ℕ) (w : Word) (ms : List Member) → Closing (λ close. Named w ▷ RestShut source d w ms close) (Named w ▷ TaskRest source d w ms)
  one_closing d w ms = closing_then (Named w) (rest_closing source d w ms)

  a_kind : (d : ℕ) (w : Word) (ms : List Member) (lead close : Span) (back : List Item) → (Key key.«Type» ▷ Named w ▷ RestShut source d w ms close) back →
      Decl d (DTask (tasks.task_of true w ms) (from_to lead close)) (symbol_item key.Task lead ∷ back)
  a_kind d w ms lead close back is =
      let (spelled, place) = placed_key key.Task (kind_closing d w ms) lead close back is in
      ((ms, record { entries = refl; priorities = refl }, (same_grouped (Key key.Task) (Key key.«Type») (Named w ▷ TaskRest source d w ms)).to (symbol_item key.Task lead ∷ back) spelled), place)

  a_task : (d : ℕ) (w : Word) (ms : List Member) (lead close : Span) (back : List Item) → (Named w ▷ RestShut source d w ms close) back →
      Decl d (DTask (tasks.task_of false w ms) (from_to lead close)) (symbol_item key.Task lead ∷ back)
  a_task d w ms lead close back is =
      let (spelled, place) = placed_key key.Task (one_closing d w ms) lead close back is in
      ((ms, record { entries = refl; priorities = refl }, spelled), place)

  task_is : (d : ℕ) (a : PDecl) (lead : Span) (back text : List Item) → text ≡ symbol_item key.Task lead ∷ back → TaskTexts source lead d a back → Decl d a text
  task_is d a lead back text from (inl taken) =
      let (f, b, split, mark, ((w, (ds, (content, close))), same, rest)) = key_taken key.Body (BodyDecls source lead) d a back taken in
      led key.Task d a (DTaskBody w ds content (from_to lead close)) lead back text from same (placed_key key.Task (body_closing source d w ds content) lead close back (f, b, split, mark, rest))
  task_is d a lead back text from (inr (inl taken)) =
      let (f, b, split, mark, (w, f2, b2, split2, named, ((ms, close), same, rest))) = key_taken key.«Type» (Then (λ d w. Named w) (RestTexts source lead true)) d a back taken in
      led key.Task d a (DTask (tasks.task_of true w ms) (from_to lead close)) lead back text from same (a_kind d w ms lead close back (f, b, split, mark, (f2, b2, split2, named, rest)))
  task_is d a lead back text from (inr (inr (inl taken))) =
      let (w, b, split, ((ms, close), same, rest)) = after_word (RestTexts source lead false) d a back taken in
      led key.Task d a (DTask (tasks.task_of false w ms) (from_to lead close)) lead back text from same (a_task d w ms lead close back (word_item w ∷ [], b, split, refl, rest))
  task_is d a lead back text from (inr (inr (inr never))) = absurd never

  decl_is : (d : ℕ) (a : PDecl) (text : List Item) → DeclTexts source d a text → Decl d a text
  decl_is d a text (inl taken) = let (w, back, from, is) = after_word (WordDecls source) d a text taken in subst (Decl d a) (sym from) is
  decl_is d a text (inr (inl taken)) = let (lead, back, from, is) = after_symbol key.«Type» (λ lead. NameIs (TypeTexts lead)) d a text taken in type_is d a lead back text from is
  decl_is d a text (inr (inr (inl taken))) = let (lead, back, from, is) = after_symbol key.Subtype (λ lead. NameIs (SubtypeTexts lead)) d a text taken in subtype_is d a lead back text from is
  decl_is d a text (inr (inr (inr (inl taken)))) = let (lead, back, from, is) = after_symbol key.Package (λ lead. NameIs (InstanceTexts lead)) d a text taken in instance_is d a lead back text from is
  decl_is d a text (inr (inr (inr (inr (inl taken))))) = let (lead, back, from, is) = after_symbol key.Pragma (PragmaTexts source) d a text taken in pragma_is d a lead back text from is
  decl_is d a text (inr (inr (inr (inr (inr (inl taken)))))) = let (lead, back, from, is) = after_symbol key.Task (TaskTexts source) d a text taken in task_is d a lead back text from is
  decl_is d a text (inr (inr (inr (inr (inr (inr never)))))) = absurd never

  -- ---- a declaration, and so read

  named_decl : (d : ℕ) (a : PDecl) (w : Word) (back text : List Item) → text ≡ word_item w ∷ back → Decl d a text → DeclTexts source d a text
  named_decl d a w back text from is = inl (subst (Then (One word) (WordDecls source) d a) (sym from) (word_then (WordDecls source) d a w back (subst (Decl d a) from is)))

  -- the symbol that the items begin with
  opened : (s : Symbol) (P : Spelling) (at : Span) (text : List Item) → Placed at (Key s ▷ P) text → (lead : Span) × (back : List Item) × (text ≡ symbol_item s lead ∷ back) × Placed at (Key s ▷ P) (symbol_item s lead ∷ back)
  opened s P at text is = let (lead, back, from, rest) = after_key s P text is.0 in (lead, back, from, subst (Placed at (Key s ▷ P)) from is)

  is_type : (d : ℕ) (a : PDecl) (lead : Span) (back text : List Item) → text ≡ symbol_item key.«Type» lead ∷ back → NameIs (TypeTexts lead) d a back → DeclTexts source d a text
  is_type d a lead back text from is = inr (inl (subst (Then (One (symbol key.«Type»)) (λ lead. NameIs (TypeTexts lead)) d a) (sym from) (symbol_then key.«Type» (λ lead. NameIs (TypeTexts lead)) d a lead back is)))

  is_task : (d : ℕ) (a : PDecl) (lead : Span) (back text : List Item) → text ≡ symbol_item key.Task lead ∷ back → TaskTexts source lead d a back → DeclTexts source d a text
  is_task d a lead back text from is = inr (inr (inr (inr (inr (inl (subst (Then (One (symbol key.Task)) (TaskTexts source) d a) (sym from) (symbol_then key.Task (TaskTexts source) d a lead back is)))))))

  task_made : (w : Word) (k : Bool) (entries : List PEntry) (priorities : List PPriority) (ms : List Member) (s s' : Span) → entries ≡ entries_in ms → priorities ≡ priorities_in 0 ms → s ≡ s' →
      DTask (record { name = w; of_kind = k; entries = entries; priorities = priorities }) s ≡ DTask (tasks.task_of k w ms) s'
  task_made w k entries priorities ms s s' same also place = rw same (rw also (rw place refl))

  task_decl : (d : ℕ) (w : Word) (k : Bool) (entries : List PEntry) (priorities : List PPriority) (s : Span) (ms : List Member) (text : List Item) → entries ≡ entries_in ms → priorities ≡ priorities_in 0 ms →
      (TaskWord k ▷ Named w ▷ TaskRest source d w ms) text → IsPlaceOf s text → DeclTexts source d (DTask (record { name = w; of_kind = k; entries = entries; priorities = priorities }) s) text
  task_decl d w false entries priorities s ms text same also spelled place =
      let (lead, back, from, is) = opened key.Task (Named w ▷ TaskRest source d w ms) s text (spelled, place) in
      let (close, there, (f, b, split, named, rest)) = key_placed key.Task (one_closing d w ms) s lead back is in
      let a : PDecl = DTask (record { name = w; of_kind = false; entries = entries; priorities = priorities }) s in
      is_task d a lead back text from (inr (inr (inl (subst (Then (One word) (RestTexts source lead false) d a) (sym (split ∙ ap (λ l. l ++ b) named))
      (word_then (RestTexts source lead false) d a w b ((ms, close), task_made w false entries priorities ms s (from_to lead close) same also there, rest))))))
  task_decl d w true entries priorities s ms text same also spelled place =
      let (lead, back, from, is) = opened key.Task (Key key.«Type» ▷ Named w ▷ TaskRest source d w ms) s text ((same_grouped (Key key.Task) (Key key.«Type») (Named w ▷ TaskRest source d w ms)).back text spelled, place) in
      let (close, there, (f, b, split, mark, (f2, b2, split2, named, rest))) = key_placed key.Task (kind_closing d w ms) s lead back is in
      let a : PDecl = DTask (record { name = w; of_kind = true; entries = entries; priorities = priorities }) s in
      is_task d a lead back text from (inr (inl (taken_key key.«Type» (Then (λ d w. Named w) (RestTexts source lead true)) d a back
      (f, b, split, mark, (w, f2, b2, split2, named, ((ms, close), task_made w true entries priorities ms s (from_to lead close) same also there, rest))))))

  is_decl : (d : ℕ) (a : PDecl) (text : List Item) → Decl d a text → DeclTexts source d a text
  is_decl d (DNumber w e s) text is = let (front, back, from, one, rest) = is.0 in named_decl d (DNumber w e s) w back text (from ∙ ap (λ l. l ++ back) one) is
  is_decl d (DObject ws c x i s) text is = let (w, back, from) = object_name source d ws c x i s text is in named_decl d (DObject ws c x i s) w back text from is
  is_decl d (DException [] s) text ((front, back, from, never, rest), place) = absurd never
  is_decl d (DException (w ∷ ws) s) text is =
      let (front, back, from, (f, b, split, one, behind), rest) = is.0 in named_decl d (DException (w ∷ ws) s) w (b ++ back) text (from ∙ ap (λ l. l ++ back) (split ∙ ap (λ l. l ++ b) one)) is
  is_decl d (DEnumeration w ws s) text is =
      let (lead, back, from, there) = opened key.«Type» _ s text is in
      let (close, place, (f, b, split, named, (f2, b2, split2, mark, (f3, b3, split3, paren, rest)))) = key_placed key.«Type» (enumeration_closing w ws) s lead back there in
      is_type d (DEnumeration w ws s) lead back text from
      (w, f, b, split, named, (f2, b2, split2, mark, inl (taken_key key.LeftParen (EnumerationTexts lead w) d (DEnumeration w ws s) b2 (f3, b3, split3, paren, ((ws, close), ap (DEnumeration w ws) place, rest)))))
  is_decl d (DArray w r x s) text is =
      let (lead, back, from, there) = opened key.«Type» _ s text is in
      let (close, place, (f, b, split, named, (f2, b2, split2, mark, (f3, b3, split3, row, rest)))) = key_placed key.«Type» (array_closing d w r x) s lead back there in
      is_type d (DArray w r x s) lead back text from
      (w, f, b, split, named, (f2, b2, split2, mark, inr (inl (taken_key key.Array (ArrayTexts lead w) d (DArray w r x s) b2 (f3, b3, split3, row, ((r, (x, close)), ap (DArray w r x) place, rest))))))
  is_decl d (DSubtype w x s) text is =
      let (lead, back, from, there) = opened key.Subtype _ s text is in
      let (close, place, (f, b, split, named, (f2, b2, split2, mark, rest))) = key_placed key.Subtype (subtype_closing d w x) s lead back there in
      inr (inr (inl (subst (Then (One (symbol key.Subtype)) (λ lead. NameIs (SubtypeTexts lead)) d (DSubtype w x s)) (sym from)
      (symbol_then key.Subtype (λ lead. NameIs (SubtypeTexts lead)) d (DSubtype w x s) lead back (w, f, b, split, named, (f2, b2, split2, mark, ((x, close), ap (DSubtype w x) place, rest)))))))
  is_decl d (DIntIo w s) text is =
      let (lead, back, from, there) = opened key.Package _ s text is in
      let (close, place, (f, b, split, named, (f2, b2, split2, mark, rest))) = key_placed key.Package (instance_closing w) s lead back there in
      inr (inr (inr (inl (subst (Then (One (symbol key.Package)) (λ lead. NameIs (InstanceTexts lead)) d (DIntIo w s)) (sym from)
      (symbol_then key.Package (λ lead. NameIs (InstanceTexts lead)) d (DIntIo w s) lead back (w, f, b, split, named, (f2, b2, split2, mark, (close, ap (DIntIo w) place, rest))))))))
  is_decl d (DPragma e s) text is =
      let (lead, back, from, there) = opened key.Pragma _ s text is in
      let (close, place, rest) = key_placed key.Pragma (priority_closing source d e) s lead back there in
      inr (inr (inr (inr (inl (subst (Then (One (symbol key.Pragma)) (PragmaTexts source) d (DPragma e s)) (sym from)
      (symbol_then key.Pragma (PragmaTexts source) d (DPragma e s) lead back ((e, close), ap (DPragma e) place, rest)))))))
  is_decl d (DTask t s) text ((ms, are, spelled), place) = task_decl d t.name t.of_kind t.entries t.priorities s ms text are.entries are.priorities spelled place
  is_decl d (DTaskBody w ds content s) text is =
      let (lead, back, from, there) = opened key.Task _ s text is in
      let (close, place, (f, b, split, mark, rest)) = key_placed key.Task (body_closing source d w ds content) s lead back there in
      is_task d (DTaskBody w ds content s) lead back text from (inl (taken_key key.Body (BodyDecls source lead) d (DTaskBody w ds content s) back (f, b, split, mark, ((w, (ds, (content, close))), ap (DTaskBody w ds content) place, rest))))

  -- A declaration is read by the laws, if statements are.
  pub law_decl : ((d : ℕ) → LevelLaws source d (readers source d) (readers source (suc d))) → (d : ℕ) (S : Item → Type 0) → Lawful d (declarative.decl source d) (declarative.decl source (suc d)) Decl S
  law_decl laws d S = law_fit (λ e deep a text is. decl_is e a text is) (is_decl d) (law_either_decl source laws d S)
