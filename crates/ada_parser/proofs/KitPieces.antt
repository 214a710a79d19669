-- Pieces of texts: first and last items, places, and what is spelled alike.
use Rattle.std.proofs.Common.{◌≡◌, ℕ, zero, suc, List, [], ◌∷◌, ◌++◌, refl, sym, ap, ◌∙◌, subst}
use Rattle.std.proofs.lemmas.List.{append_assoc, append-nil}
use Rattle.ada_tree.specs.declared.naming.Span.{Span}
use Rattle.ada_tree.specs.declared.naming.Word.{Word}
use Rattle.ada_lexer.specs.declared.symbols.Symbol.{Symbol}
use Rattle.ada_expr_parser.specs.declared.items.Item.{Item}
use Rattle.ada_expr_parser.specs.Grammar.{symbol_item, word_item}
use Rattle.ada_expr_parser.specs.Trees.{from_to}
use Rattle.ada_phrase_parser.specs.Spelling.{Spelling, Nothing, ◌▷◌, Key, Named, Inside, last_place, IsPlaceOf, Placed}
use Rattle.ada_expr_parser.specs.readers.Grammars.{Below}

abbrev pub tail_of : List Item → List Item
tail_of [] = []
tail_of (x ∷ list) = list

abbrev place_in : Span → List Item → Span
place_in at [] = at
place_in at (x ∷ list) = x.span

-- ---- a symbol or a name first

pub key_then : (s : Symbol) (Q : Spelling) (at : Span) (back : List Item) → Q back → (Key s ▷ Q) (symbol_item s at ∷ back)
key_then s Q at back is = (symbol_item s at ∷ [], back, refl, (at, refl), is)

pub after_key : (s : Symbol) (Q : Spelling) (text : List Item) → (Key s ▷ Q) text → (at : Span) × (back : List Item) × (text ≡ symbol_item s at ∷ back) × Q back
after_key s Q text (front, back, from, (at, one), is) = (at, back, from ∙ ap (λ l. l ++ back) one, is)

-- behind an item that is known
pub behind_key : (s : Symbol) (Q : Spelling) (k : Item) (back : List Item) → (Key s ▷ Q) (k ∷ back) → Q back
behind_key s Q k back is = let (at, more, from, rest) = after_key s Q (k ∷ back) is in subst Q (sym (ap tail_of from)) rest

pub word_then : (w : Word) (Q : Spelling) (back : List Item) → Q back → (Named w ▷ Q) (word_item w ∷ back)
word_then w Q back is = (word_item w ∷ [], back, refl, refl, is)

pub after_word : (w : Word) (Q : Spelling) (text : List Item) → (Named w ▷ Q) text → (back : List Item) × (text ≡ word_item w ∷ back) × Q back
after_word w Q text (front, back, from, one, is) = (back, from ∙ ap (λ l. l ++ back) one, is)

pub behind_word : (w : Word) (Q : Spelling) (k : Item) (back : List Item) → (Named w ▷ Q) (k ∷ back) → Q back
behind_word w Q k back is = let (more, from, rest) = after_word w Q (k ∷ back) is in subst Q (sym (ap tail_of from)) rest

-- ---- the same pieces in other words

pub record Same (P Q : Spelling) : Type 0 where
  pub to : (text : List Item) → P text → Q text
  pub back : (text : List Item) → Q text → P text

pub same_self : (P : Spelling) → Same P P
same_self P = record { to = λ text is. is; back = λ text is. is }

pub same_turn : {P Q : Spelling} → Same P Q → Same Q P
same_turn same = record { to = same.back; back = same.to }

pub same_through : {P Q R : Spelling} → Same P Q → Same Q R → Same P R
same_through one other = record { to = λ text is. other.to text (one.to text is); back = λ text is. one.back text (other.back text is) }

pub same_then : {P P' Q Q' : Spelling} → Same P P' → Same Q Q' → Same (P ▷ Q) (P' ▷ Q')
same_then one other = record {
  to = λ text (front, back, from, left, right). (front, back, from, one.to front left, other.to back right);
  back = λ text (front, back, from, left, right). (front, back, from, one.back front left, other.back back right);
}

pub same_behind : (P : Spelling) {Q Q' : Spelling} → Same Q Q' → Same (P ▷ Q) (P ▷ Q')
same_behind P other = same_then (same_self P) other

-- the one, the other and a third
pub same_grouped : (P Q R : Spelling) → Same (P ▷ Q ▷ R) ((P ▷ Q) ▷ R)
same_grouped P Q R = record {
  to = λ text (front, rest, from, left, (middle, back, split, next, last)).
      (front ++ middle, back, from ∙ ap (λ l. front ++ l) split ∙ sym (append_assoc front middle back), (front, middle, refl, left, next), last);
  back = λ text (whole, back, from, (front, middle, split, left, next), last).
      (front, middle ++ back, from ∙ ap (λ l. l ++ back) split ∙ append_assoc front middle back, left, (middle, back, refl, next, last));
}

-- nothing behind it
pub same_ended : (P : Spelling) → Same P (P ▷ Nothing)
same_ended P = record {
  to = λ text is. (text, [], sym (append-nil text), is, refl);
  back = λ text (front, back, from, is, none). subst P (sym (from ∙ ap (λ l. front ++ l) none ∙ append-nil front)) is;
}

-- nothing before it
pub same_begun : (P : Spelling) → Same P (Nothing ▷ P)
same_begun P = record {
  to = λ text is. ([], text, refl, refl, is);
  back = λ text (front, back, from, none, is). subst P (sym (from ∙ ap (λ l. l ++ back) none)) is;
}

-- ---- places

pub last_append : (at : Span) (f g : List Item) → last_place at (f ++ g) ≡ last_place (last_place at f) g
last_append at [] g = refl
last_append at (x ∷ f) g = last_append x.span f g

-- the last item has the last place
pub last_is : (at : Span) (f : List Item) (x : Item) → last_place at (f ++ (x ∷ [])) ≡ x.span
last_is at [] x = refl
last_is at (y ∷ f) x = last_is y.span f x

-- the place of a node whose last item has a known place
pub stands_to : (k : Item) (back : List Item) (close : Span) → last_place k.span back ≡ close → IsPlaceOf (from_to k.span close) (k ∷ back)
stands_to k back close is = ap (from_to k.span) (sym is)

pub stands_is : (s : Span) (k : Item) (back : List Item) (close : Span) → last_place k.span back ≡ close → IsPlaceOf s (k ∷ back) → s ≡ from_to k.span close
stands_is s k back close is place = place ∙ ap (from_to k.span) is

-- a symbol at this place
abbrev pub KeyAt : Symbol → Span → Spelling
KeyAt s at text = text ≡ symbol_item s at ∷ []

-- A piece by the place of its last item: whatever stands before, that is the last place.
pub record Closing (Shut : Span → Spelling) (P : Spelling) : Type 0 where
  pub plain : (close : Span) (text : List Item) → Shut close text → P text
  pub some_place : (text : List Item) → P text → (close : Span) × Shut close text
  pub last : (close : Span) (text : List Item) → Shut close text → (at : Span) → last_place at text ≡ close

pub closing_key : (s : Symbol) → Closing (KeyAt s) (Key s)
closing_key s = record {
  plain = λ close text is. (close, is);
  some_place = λ text is. is;
  last = λ close text is at. rw is refl;
}

pub closing_then : (Q : Spelling) {Shut : Span → Spelling} {P : Spelling} → Closing Shut P → Closing (λ close. Q ▷ Shut close) (Q ▷ P)
closing_then Q law = record {
  plain = λ close text (front, back, from, left, right). (front, back, from, left, law.plain close back right);
  some_place = λ text (front, back, from, left, right). let (close, is) = law.some_place back right in (close, (front, back, from, left, is));
  last = λ close text (front, back, from, left, right) at. rw from (last_append at front back ∙ law.last close back right (last_place at front));
}

-- of a piece in other words
pub closing_same : {Shut Shut' : Span → Spelling} {P P' : Spelling} → ((close : Span) → Same (Shut' close) (Shut close)) → Same P P' → Closing Shut P → Closing Shut' P'
closing_same shut same law = record {
  plain = λ close text is. same.to text (law.plain close text ((shut close).to text is));
  some_place = λ text is. let (close, at) = law.some_place text (same.back text is) in (close, (shut close).back text at);
  last = λ close text is at. law.last close text ((shut close).to text is) at;
}

-- A node that begins with a symbol or a name, from there to the last item.
pub placed_key : (s : Symbol) {Shut : Span → Spelling} {P : Spelling} → Closing Shut P → (lead close : Span) (back : List Item) → Shut close back → Placed (from_to lead close) (Key s ▷ P) (symbol_item s lead ∷ back)
placed_key s {P = P} law lead close back is =
    (key_then s P lead back (law.plain close back is), stands_to (symbol_item s lead) back close (law.last close back is lead))

pub key_placed : (s : Symbol) {Shut : Span → Spelling} {P : Spelling} → Closing Shut P → (at lead : Span) (back : List Item) → Placed at (Key s ▷ P) (symbol_item s lead ∷ back) →
    (close : Span) × (at ≡ from_to lead close) × Shut close back
key_placed s {P = P} law at lead back (is, place) =
    let (close, rest) = law.some_place back (behind_key s P (symbol_item s lead) back is) in
    (close, stands_is at (symbol_item s lead) back close (law.last close back rest lead) place, rest)

pub placed_word : (w : Word) {Shut : Span → Spelling} {P : Spelling} → Closing Shut P → (close : Span) (back : List Item) → Shut close back → Placed (from_to w.span close) (Named w ▷ P) (word_item w ∷ back)
placed_word w {P = P} law close back is = (word_then w P back (law.plain close back is), stands_to (word_item w) back close (law.last close back is w.span))

pub word_placed : (w : Word) {Shut : Span → Spelling} {P : Spelling} → Closing Shut P → (at : Span) (back : List Item) → Placed at (Named w ▷ P) (word_item w ∷ back) →
    (close : Span) × (at ≡ from_to w.span close) × Shut close back
word_placed w {P = P} law at back (is, place) =
    let (close, rest) = law.some_place back (behind_word w P (word_item w) back is) in
    (close, stands_is at (word_item w) back close (law.last close back rest w.span) place, rest)

-- ---- depths

-- what stands inside is what is a text one level deeper
pub below_inside : {A : Type 0} (P : A → ℕ → Spelling) (d : ℕ) (a : A) (text : List Item) → Below (λ e b. P b e) d a text → Inside d (P a) text
below_inside P zero a text never = never
below_inside P (suc d) a text is = is

pub inside_below : {A : Type 0} (P : A → ℕ → Spelling) (d : ℕ) (a : A) (text : List Item) → Inside d (P a) text → Below (λ e b. P b e) d a text
inside_below P zero a text never = never
inside_below P (suc d) a text is = is

pub inside_same : {P Q : ℕ → Spelling} → ((e : ℕ) → Same (P e) (Q e)) → (d : ℕ) → Same (Inside d P) (Inside d Q)
inside_same same zero = same_self (λ text. ⊥)
inside_same same (suc d) = same d
