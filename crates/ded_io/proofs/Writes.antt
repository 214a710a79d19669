-- Writes one after another: what was written by all of them, and that each text is the earlier ones and then the rest.
use Rattle.std.specs.Prelude.{◌≡◌, ◌++◌, ◌+◌, [], ℕ, List, Option, Some, None, Result, Ok, Err, length, refl}
use Rattle.std.proofs.Common.{sym, ap, ◌∙◌}
use Rattle.std.proofs.lemmas.List.{append_assoc, append-nil, length-append}
use Rattle.ded_io.specs.Written.{◌⧺◌, appended, Began, Wrote}

-- `⧺` is `++`
pub joined : (a b : List ℕ) → a ⧺ b ≡ a ++ b
unfolding ◌⧺◌
joined a b = refl

pub joined_nil : (a : List ℕ) → [] ⧺ a ≡ a
unfolding ◌⧺◌
joined_nil a = refl

pub joined_assoc : (a b c : List ℕ) → (a ⧺ b) ⧺ c ≡ a ⧺ (b ⧺ c)
unfolding ◌⧺◌
joined_assoc a b c = append_assoc a b c

pub length-joined : (a b : List ℕ) → length (a ⧺ b) ≡ length a + length b
unfolding ◌⧺◌
length-joined a b = length-append a b

-- appending two texts one after the other appends both
pub appended-appended : (old : Option (List ℕ)) (a b : List ℕ) → appended (appended old a) b ≡ appended old (a ++ b)
appended-appended None a b = refl
appended-appended (Some old) a b = ap Some (append_assoc old a b)

pub appended-nil : (old : Option (List ℕ)) → appended old [] ≡ old
appended-nil None = refl
appended-nil (Some old) = ap Some (append-nil old)

-- a front of what comes behind a written text is a front of both
pub began_then : (old mid new : Option (List ℕ)) (a b : List ℕ) → mid ≡ appended old a → Began mid new b → Began old new (a ++ b)
began_then old mid new a b e (front, rest, is_front, is_new) = (
  a ++ front,
  rest,
  ap (λ t. a ++ t) is_front ∙ sym (append_assoc a front rest),
  is_new ∙ ap (λ t. appended t front) e ∙ appended-appended old a front,
)

-- a write that went well, and then another: the answer of the second is that of both
pub wrote_then : (A B E F : Type 0) (x : A) (r : Result B F) (old mid new : Option (List ℕ)) (a b : List ℕ) → Wrote {E = E} (Ok x) old mid a → Wrote r mid new b → Wrote r old new (a ⧺ b)
unfolding Wrote ◌⧺◌
wrote_then A B E F x (Ok y) old mid new a b e f = f ∙ ap (λ t. appended t b) e ∙ appended-appended old a b
wrote_then A B E F x (Err y) old mid new a b e f = began_then old mid new a b e f

-- a write that failed: what was to come behind it is not written
pub wrote_stop : (A B E F : Type 0) (x : E) (y : F) (old new : Option (List ℕ)) (a b : List ℕ) → Wrote {A = A} (Err x) old new a → Wrote {A = B} (Err y) old new (a ⧺ b)
unfolding Wrote ◌⧺◌
wrote_stop A B E F x y old new a b (front, rest, is_front, is_new) =
    (front, rest ++ b, ap (λ t. t ++ b) is_front ∙ append_assoc front rest b, is_new)

-- what a success holds does not matter
pub wrote_all : (A B E F : Type 0) (x : A) (y : B) (old new : Option (List ℕ)) (a : List ℕ) → Wrote {E = E} (Ok x) old new a → Wrote {E = F} (Ok y) old new a
unfolding Wrote
wrote_all A B E F x y old new a e = e

-- nor what an error holds
pub wrote_part : (A B E F : Type 0) (x : E) (y : F) (old new : Option (List ℕ)) (a : List ℕ) → Wrote {A = A} (Err x) old new a → Wrote {A = B} (Err y) old new a
unfolding Wrote
wrote_part A B E F x y old new a e = e

-- nothing written is the empty text
pub wrote_none : (A E : Type 0) (x : A) (old : Option (List ℕ)) → Wrote {E = E} (Ok x) old old []
unfolding Wrote
wrote_none A E x old = sym (appended-nil old)

pub ruleset writes = (wrote_then, wrote_stop, wrote_all, wrote_part, wrote_none)
