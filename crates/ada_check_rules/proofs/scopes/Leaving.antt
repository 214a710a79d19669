-- Names are declared around the statements of an accept or a loop, and what stood around it is there again behind it.
use Rattle.std.specs.Prelude.{◌≡◌, ℕ, ◌+◌, ◌<◌, ◌≤◌, Bool, true, List, [], ◌∷◌, ◌++◌, length, map, take, drop, Option, Some, None, refl}
use Rattle.std.proofs.Common.{sym, ap, ◌∙◌, get_or, length-append}
use Rattle.std.proofs.lemmas.List.{map_more, append-nil}
use Rattle.std.proofs.lemmas.Grind.{take_at_read, flat_map-append}
use Rattle.ada_tree.specs.declared.naming.NameId.{NameId}
use Rattle.ada_tree.specs.declared.naming.Word.{Word}
use Rattle.ada_tree.specs.declared.statements.Formal.{Formal}
use Rattle.ada_tree.specs.PlainStmt.{PFormal, PScheme, LWhile, LFor, plain_formal}
use Rattle.syn_event.specs.declared.meanings.Meant.{Meant}
use Rattle.syn_event.specs.declared.meanings.Meant.TheVariants.{Inner}
use Rattle.syn_event.specs.CheckScope.{CheckScope}
use Rattle.syn_event.specs.CheckSites.{with_meant, formal_names, with_parameter}
use Rattle.ada_check_rules.specs.scopes.Nested.{IsWithin, IsOutside}
use Rattle.ada_check_rules.specs.declared.scopes.check_scopes.OutsideAccept.{OutsideAccept}
use Rattle.common_lemmas.proofs.Numbers.{within_sum}
use Rattle.syn_event.proofs.CheckScopes.{meant_joined}

abbrev known : Meant → Word → ℕ × Meant
known m w = (w.name.0, m)

-- ---- names one after the other

-- one name more
pub name_more : (m : Meant) (s now new : CheckScope) (ws : List Word) (i : ℕ) (d : Word) → i < length ws → now ≡ with_meant m s (take i ws) → new ≡ with_meant m now (get_or ws i d ∷ []) → new ≡ with_meant m s (take (i + 1) ws)
name_more m s now new ws i d inside before is =
    is
    ∙ ap (λ x. with_meant m x (get_or ws i d ∷ [])) before
    ∙ sym (meant_joined m s (take i ws) (get_or ws i d ∷ []))
    ∙ ap (with_meant m s) (sym (take_at_read ws i d inside).1)

-- one formal more
grown : (fs : List Formal) (i : ℕ) (f : Formal) → i < length fs → f ≡ get_or fs i f → formal_names (map plain_formal (take (i + 1) fs)) ≡ formal_names (map plain_formal (take i fs)) ++ f.names.items
grown fs i f inside at =
    ap formal_names (map_more plain_formal fs i f inside)
    ∙ flat_map-append (λ (x : PFormal). x.names) (map plain_formal (take i fs)) (plain_formal (get_or fs i f) ∷ [])
    ∙ ap (λ x. formal_names (map plain_formal (take i fs)) ++ (formal_names (plain_formal x ∷ []))) (sym at)
    ∙ ap (λ l. formal_names (map plain_formal (take i fs)) ++ l) (append-nil f.names.items)

pub formal_more : (s now new : CheckScope) (fs : List Formal) (i : ℕ) (f : Formal) (names : List Word) → i < length fs → f ≡ get_or fs i f
    → now ≡ with_meant Inner s (formal_names (map plain_formal (take i fs))) → new ≡ with_meant Inner now names → names ≡ f.names.items
    → new ≡ with_meant Inner s (formal_names (map plain_formal (take (i + 1) fs)))
formal_more s now new fs i f names inside at before is named =
    is
    ∙ ap (with_meant Inner now) named
    ∙ ap (λ x. with_meant Inner x f.names.items) before
    ∙ sym (meant_joined Inner s (formal_names (map plain_formal (take i fs))) f.names.items)
    ∙ ap (with_meant Inner s) (sym (grown fs i f inside at))

-- ---- what is within

pub within_meant : (m : Meant) (i s : CheckScope) (ws : List Word) → IsWithin i s → IsWithin (with_meant m i ws) s
within_meant m i s [] h = h
within_meant m i s (w ∷ ws) h = within_meant m (record i { names = known m w ∷ i.names }) s ws (known m w ∷ h.0, ap (λ l. known m w ∷ l) h.1)

-- names are declared, and nothing else changes
abbrev with_names : List (ℕ × Meant) → CheckScope → CheckScope
with_names names x = record x { names = names }

declared_only : (m : Meant) (s : CheckScope) (ws : List Word) (names : List (ℕ × Meant)) → with_names names (with_meant m s ws) ≡ with_names names s
declared_only m s [] names = refl
declared_only m s (w ∷ ws) names = declared_only m (record s { names = known m w ∷ s.names }) ws names

pub room : (s now : CheckScope) (count : ℕ) → count ≡ length s.names → IsWithin now s → count ≤ length now.names
room s now count h within = within_sum count (length now.names) (length within.0) (length s.names) h (ap length within.1 ∙ length-append within.0 s.names)

-- ---- an accept

abbrev pub accepting_in : CheckScope → NameId → CheckScope
accepting_in s e = record s { accepting = e ∷ s.accepting; loops = [] }

pub within_accept : (s now : CheckScope) (e : NameId) (ws : List Word) → now ≡ with_meant Inner (accepting_in s e) ws → IsWithin now s
within_accept s now e ws same =
    let h = within_meant Inner (accepting_in s e) s ws ([], refl) in
    (h.0, ap (λ x. x.names) same ∙ h.1)

abbrev left_as : CheckScope → CheckScope → CheckScope
left_as s x = record x { names = s.names; accepting = drop 1 x.accepting; loops = s.loops }

abbrev then_left_as : CheckScope → CheckScope → CheckScope
then_left_as s x = record x { accepting = drop 1 x.accepting; loops = s.loops }

pub left_accept : (s now new : CheckScope) (e : NameId) (ws : List Word) (outside : OutsideAccept) → IsOutside s outside → now ≡ with_meant Inner (accepting_in s e) ws
    → ((x : CheckScope) → IsOutside x outside → IsWithin now x → new ≡ record now { names = x.names; accepting = drop 1 now.accepting; loops = x.loops }) → new ≡ s
left_accept s now new e ws outside is same gone =
    gone s is (within_accept s now e ws same)
    ∙ ap (left_as s) same
    ∙ ap (then_left_as s) (declared_only Inner (accepting_in s e) ws s.names)

-- ---- a loop

abbrev looping : CheckScope → Option NameId → CheckScope
looping s n = record s { loops = n ∷ s.loops }

abbrev parameter_of : Option PScheme → List Word
parameter_of (Some (LFor w r x)) = w ∷ []
parameter_of _ = []

parameter_is : (s : CheckScope) (c : Option PScheme) → with_parameter s c ≡ with_meant Inner s (parameter_of c)
parameter_is s None = refl
parameter_is s (Some (LWhile e)) = refl
parameter_is s (Some (LFor w r x)) = refl

pub within_loop : (s now : CheckScope) (n : Option NameId) (c : Option PScheme) → now ≡ with_parameter (looping s n) c → IsWithin now s
within_loop s now n c same =
    let h = within_meant Inner (looping s n) s (parameter_of c) ([], refl) in
    (h.0, ap (λ x. x.names) (same ∙ parameter_is (looping s n) c) ∙ h.1)

abbrev loop_left_as : CheckScope → CheckScope → CheckScope
loop_left_as s x = record x { names = s.names; loops = drop 1 x.loops }

abbrev then_loop_left_as : CheckScope → CheckScope
then_loop_left_as x = record x { loops = drop 1 x.loops }

pub left_loop : (s now new : CheckScope) (n : Option NameId) (c : Option PScheme) (count : ℕ) → count ≡ length s.names → now ≡ with_parameter (looping s n) c
    → ((x : CheckScope) → count ≡ length x.names → IsWithin now x → new ≡ record now { names = x.names; loops = drop 1 now.loops }) → new ≡ s
left_loop s now new n c count is same gone =
    gone s is (within_loop s now n c same)
    ∙ ap (loop_left_as s) (same ∙ parameter_is (looping s n) c)
    ∙ ap then_loop_left_as (declared_only Inner (looping s n) (parameter_of c) s.names)

-- ---- a handler

pub left_handler : (s now new : CheckScope) (before : Bool) → now ≡ record s { in_handler = true } → before ≡ s.in_handler → new ≡ record now { in_handler = before } → new ≡ s
left_handler s now new before same was is =
    let with : Bool → CheckScope → CheckScope = λ b x. record x { in_handler = b } in
    is ∙ ap (with before) same ∙ ap (λ b. with b s) was
