-- Names that the source can hold have the text of an identifier.
use Rattle.std.proofs.Common.{ℕ, List, [], slice_get, unwrap_or, Option, Some, None, IsTrue}
use Rattle.std.specs.Option.{IsSomeAnd}
use Rattle.ada_tree.specs.declared.naming.NameId.{NameId}
use Rattle.ada_tree.specs.Lexical.{IsIdentifier, is_word}
use Rattle.syn_event.specs.DeclaredTasks.{text_of}

pub word_there : (names : List (List ℕ)) (id : NameId) → IsSomeAnd (slice_get names id.0) IsIdentifier → IsTrue (is_word (text_of names id))
word_there names id h = split (slice_get names id.0) h
  where
    split : (o : Option (List ℕ)) → IsSomeAnd o IsIdentifier → IsTrue (is_word (unwrap_or o []))
    split (Some text) h = h.0
    split None h = absurd h
