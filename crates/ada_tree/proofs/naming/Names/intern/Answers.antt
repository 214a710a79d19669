use Rattle.std.proofs.Common.{◌≡◌, ◌<◌, ◌^◌, ◌++◌, ◌∷◌, [], false, length, map, string_bytes, sym, ◌∙◌, arith}
use Rattle.std.proofs.lemmas.List.{length-map}
use Rattle.std.specs.List.{list_any}
use Rattle.std.specs.Str.{bytes_eq}
use Rattle.ada_tree.specs.NameList.{AreNames, interned}
use Rattle.ada_tree.proofs.Interning.{found_text, list_any-map, interned-there, interned-new, map-insert_key, AreNames-added, seam}
use Rattle.ada_tree.proofs.naming.Names.intern.Goals as goal

pub returns-in-Some-clause-named : goal.returns-in-Some-clause-named
returns-in-Some-clause-named c = rw (← c.self.view_is) (found_text string_bytes _ c.self.inside.texts.keys _ (sym c.in-Some.ensures.index))

pub returns-in-Some-clause-texts : goal.returns-in-Some-clause-texts
returns-in-Some-clause-texts c =
    rw (← c.self.view_is) (sym (interned-there _ _ (list_any-map _ string_bytes c.self.inside.texts.keys ∙ sym c.in-Some.ensures.found)))

-- the text was not there
absent : (c : goal.In_ok-insert) → list_any (bytes_eq c.args.upper.now) (map string_bytes c.self.inside.texts.keys) ≡ false
absent c = list_any-map _ string_bytes c.self.inside.texts.keys ∙ sym c.in_default.ensures.found

-- the texts after the insertion
inserted : (c : goal.In_ok-insert) → map string_bytes c.insert.new.self.keys ≡ interned (map string_bytes c.self.inside.texts.keys) c.args.upper.now
inserted c = map-insert_key string_bytes _ _ _ _ c.in_ok-text.ensures.ok c.in_ok-insert.ensures.keys

added : (c : goal.In_ok-insert) → map string_bytes c.insert.new.self.keys ≡ map string_bytes c.self.inside.texts.keys ++ c.args.upper.now ∷ []
added c = inserted c ∙ interned-new _ _ (absent c)

named : (c : goal.In_ok-insert) → AreNames (map string_bytes c.insert.new.self.keys)
named c =
    let room : length (map string_bytes c.self.inside.texts.keys) < 2 ^ 32 = omega (arith, length-map c.self.inside.texts.keys string_bytes) in
    rw (added c) (AreNames-added _ _ c.self.invariant (absent c) room)

pub invariant_of-self-2 : goal.invariant_of-self-2
invariant_of-self-2 c = named c

pub returns-clause-named : goal.returns-clause-named
returns-clause-named c =
    let place : c.len-place.result ≡ length (map string_bytes c.self.inside.texts.keys) = c.len-place.ensures.len ∙ sym (length-map c.self.inside.texts.keys string_bytes) in
    rw (added c, place) (seam (map string_bytes c.self.inside.texts.keys) [] _)

pub returns-clause-texts : goal.returns-clause-texts
returns-clause-texts c = rw (← c.self.view_is) (inserted c)

pub returns-clause-names : goal.returns-clause-names
returns-clause-names c = named c
