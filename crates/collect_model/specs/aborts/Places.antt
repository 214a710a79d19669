-- The places of a unit where calls are accepted (9.5, 9.7.1; this project's rule): its selective waits, and its accept statements that are no alternative of one, numbered together from 1 in the order of the text. A wait comes before what stands in its alternatives, and an accept before what stands in it.
use Rattle.std.specs.Prelude.{ℕ, ◌+◌, map, ◌∷◌}
use Rattle.ada_tree.specs.PlainStmt.{PStmt, SAccept, SWait, no_stmt, PBody}
use Rattle.ada_tree.specs.PlainDecl.{PDecl, DTaskBody}
use Rattle.ada_tree.specs.PlainProgram.{PProgram}
use Rattle.syn_event.specs.DeclaredTasks.{decl_list}
use Rattle.task_model.specs.Frames.{in_front}
use Rattle.normal_model.specs.Walk.{Rewriter, after_body}
use Rattle.normal_model.specs.Making.{one}
use Rattle.normal_model.specs.NormalTree.{greatest}

-- how many places there are with a statement, without its parts
abbrev pub with_place : ℕ → PStmt → ℕ
with_place n (SAccept a s) = n + 1
with_place n (SWait alts otherwise s) = n + 1
with_place n y = n

-- a rewriter that changes nothing, and whose state is how many places it has come by
abbrev pub place_counter : Rewriter ℕ
place_counter = record {
  entered_stmt = with_place;
  entered_alternative = λ n y. n;
  lead = λ n y. no_stmt;
  left_alternative = λ n y. y;
  replaced_stmt = λ n before y. in_front before (one y);
}

-- how many places a unit has
abbrev pub places_in : PBody → ℕ
places_in b = after_body place_counter b 0

-- those of a declaration: only a body has statements
abbrev pub places_of : PDecl → ℕ
places_of (DTaskBody w objects its s) = places_in its
places_of d = 0

-- The greatest number of places that a unit of a program has.
abbrev pub most_places : PProgram → ℕ
most_places q = greatest (places_in q.body ∷ map places_of (decl_list q.decls))
