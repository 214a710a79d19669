-- Lemmas on items: names are ASCII, and items stay those of their tokens as the names grow.
use Rattle.std.proofs.Common.{◌≡◌, ℕ, zero, suc, ◌+◌, ◌<◌, Bool, true, false, cond, List, [], ◌∷◌, ◌++◌, length, take, get_or, Some, slice_get, fold, sym, ap, ◌∙◌}
use Rattle.std.specs.List.{AllZip, list_any}
use Rattle.std.specs.Str.{bytes_eq}
use Rattle.std.proofs.lemmas.List.{take_more}
use Rattle.std.proofs.lemmas.List.Sums.{fold-append}
use Rattle.ada_lexer.specs.declared.kinds.Token.{Token}
use Rattle.ada_lexer.specs.declared.kinds.TokenKind.{TokenKind}
use Rattle.ada_lexer.specs.declared.kinds.TokenKind.TheVariants as kinds
use Rattle.ada_tree.specs.NameList.{interned}
use Rattle.ada_expr_parser.specs.declared.items.ItemKind.{ItemKind}
use Rattle.ada_expr_parser.specs.declared.items.ItemKind.TheVariants as item
use Rattle.ada_expr_parser.specs.declared.items.Item.{Item}
use Rattle.ada_expr_parser.specs.Items.{Says, IsItemOf, name_text, interned_if, with_token}

-- each text keeps its number
abbrev pub Keeps : List (List ℕ) → List (List ℕ) → Type 0
Keeps old new = (k : ℕ) (text : List ℕ) → slice_get old k ≡ Some text → slice_get new k ≡ Some text

-- what is at a place of a list is there in a longer one
get_append : (xs ys : List (List ℕ)) (k : ℕ) (t : List ℕ) → slice_get xs k ≡ Some t → slice_get (xs ++ ys) k ≡ Some t
get_append [] ys k t at = cc
get_append (x ∷ xs) ys zero t at = at
get_append (x ∷ xs) ys (suc k) t at = get_append xs ys k t at

interned-keeps : (old : List (List ℕ)) (text : List ℕ) → Keeps old (interned old text)
interned-keeps old text k t at = pick (list_any (bytes_eq text) old)
  where
    pick : (b : Bool) → slice_get (cond b old (old ++ text ∷ [])) k ≡ Some t
    pick true = at
    pick false = get_append old (text ∷ []) k t at

interned_if-keeps : (kind : TokenKind) (old : List (List ℕ)) (text : List ℕ) → Keeps old (interned_if kind old text)
interned_if-keeps kinds.Name old text k t at = interned-keeps old text k t at
interned_if-keeps _ old text k t at = at

-- one more token changes no number
pub with_token-keeps : (src : List ℕ) (old new : List (List ℕ)) (token : Token) → new ≡ with_token src old token → Keeps old new
with_token-keeps src old new token e k t at = ap (λ names. slice_get names k) e ∙ interned_if-keeps token.kind old (name_text src token) k t at

says_still : (src : List ℕ) (old new : List (List ℕ)) → Keeps old new → (token : Token) (kind : ItemKind) → Says src old token kind → Says src new token kind
says_still src old new keeps token (item.Symbol s) says = says
says_still src old new keeps token (item.Name id) says = (says.0, keeps id.0 _ says.1)
says_still src old new keeps token (item.Integer n) says = says
says_still src old new keeps token (item.Duration n) says = says
says_still src old new keeps token item.Text says = says
says_still src old new keeps token item.End says = says

items_still : (src : List ℕ) (old new : List (List ℕ)) → Keeps old new → (tokens : List Token) (items : List Item) → AllZip (IsItemOf src old) tokens items → AllZip (IsItemOf src new) tokens items
items_still src old new keeps [] [] h = h
items_still src old new keeps [] (x ∷ items) h = h
items_still src old new keeps (token ∷ tokens) [] h = h
items_still src old new keeps (token ∷ tokens) (x ∷ items) h =
    (record { says = says_still src old new keeps token x.kind h.0.says; start = h.0.start; end = h.0.end }, items_still src old new keeps tokens items h.1)

zip_push : {A B : Type 0} (R : A → B → Type 0) (xs : List A) (ys : List B) (x : A) (y : B) → AllZip R xs ys → R x y → AllZip R (xs ++ x ∷ []) (ys ++ y ∷ [])
zip_push R [] [] x y h one = (one, tt)
zip_push R [] (z ∷ ys) x y h one = absurd h
zip_push R (z ∷ xs) [] x y h one = absurd h
zip_push R (z ∷ xs) (w ∷ ys) x y h one = (h.0, zip_push R xs ys x y h.1 one)

-- one more item behind those so far
pub one_more :
    (src : List ℕ) (old new : List (List ℕ)) → Keeps old new → (tokens : List Token) (i : ℕ) (d : Token) (items : List Item) (x : Item) →
    i < length tokens → AllZip (IsItemOf src old) (take i tokens) items → IsItemOf src new (get_or tokens i d) x →
    AllZip (IsItemOf src new) (take (i + 1) tokens) (items ++ x ∷ [])
one_more src old new keeps tokens i d items x within before one =
    rw (take_more tokens i d within) (zip_push (IsItemOf src new) (take i tokens) items (get_or tokens i d) x (items_still src old new keeps (take i tokens) items before) one)

-- the names behind one token more
pub names_on :
    (src : List ℕ) (first : List (List ℕ)) (tokens : List Token) (i : ℕ) (d : Token) (names : List (List ℕ)) → i < length tokens →
    names ≡ fold (with_token src) first (take i tokens) → with_token src names (get_or tokens i d) ≡ fold (with_token src) first (take (i + 1) tokens)
names_on src first tokens i d names within before =
    rw (take_more tokens i d within) (ap (λ n. with_token src n (get_or tokens i d)) before ∙ sym (fold-append (with_token src) first (take i tokens) (get_or tokens i d ∷ [])))
