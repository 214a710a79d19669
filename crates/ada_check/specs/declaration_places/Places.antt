-- The places of one declaration, as they are gone through.
use Rattle.std.specs.Prelude.{ℕ, List, []}
use Rattle.ada_tree.specs.PlainDecl.{PDecl, DTaskBody}
use Rattle.syn_event.specs.CheckScope.{CheckScope, CheckSite}
use Rattle.syn_event.specs.CheckSites.{decl_sites}

-- those of a declaration that is no body
abbrev pub places_of : CheckScope → List ℕ → PDecl → List CheckSite
places_of around bodies (DTaskBody w objects its s) = []
places_of around bodies d = decl_sites around bodies d
