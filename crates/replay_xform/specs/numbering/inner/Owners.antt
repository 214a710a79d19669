-- Lists of entries by their owners, and one entry more.
use Rattle.std.specs.Prelude.{ℕ, zero, suc, ◌+◌, ◌==◌, List, [], ◌∷◌, ◌++◌, if◌then◌else◌}
use Rattle.syn_event.specs.declared.numbering.EntryInfo.{EntryInfo}

-- the entry behind those of the list at a place
abbrev pub put_at : ℕ → EntryInfo → List (List EntryInfo) → List (List EntryInfo)
put_at k x [] = []
put_at zero x (l ∷ ls) = (l ++ x ∷ []) ∷ ls
put_at (suc k) x (l ∷ ls) = l ∷ put_at k x ls

-- the entry behind those of its owner, where the first list is that of the task t
abbrev pub put_for : EntryInfo → List (List EntryInfo) → ℕ → List (List EntryInfo)
put_for x [] t = []
put_for x (l ∷ ls) t = (if x.owner == t then l ++ x ∷ [] else l) ∷ put_for x ls (t + 1)
