-- The program in which a variable chooses a member of an array of tasks is as the laws ask.
use Rattle.std.proofs.Common.{ℕ, [], ◌∷◌, ◌++◌, All, codes, refl, arith, lit≤, lit<}
use Rattle.std.specs.List.{AllByRecursion}
use Rattle.std.specs.Fmt.{digits}
use Rattle.std.proofs.lemmas.List.Elements.{All-nil, All-cons}
use Rattle.ada_tree.specs.declared.static_types.Kind.{Kind}
use Rattle.ada_tree.specs.declared.static_types.Kind.TheVariants.{Integer, Truth, Enumeration, Array}
use Rattle.ada_tree.specs.Every.{Rules, EveryWord, EveryFormal, EveryEntry, EveryPriority, EveryCallee, EveryDecls, EveryBody}
use Rattle.ada_tree.specs.NameList.{predefined, AreNames}
use Rattle.ada_tree.proofs.Interning.{AreNames-added, AreNames-predefined}
use Rattle.ada_static_rules.specs.Refusals.{types_in}
use Rattle.ada_tree.specs.WellPlaced.{well_placed, IsWellPlaced}
use Rattle.syn_event.specs.declared.numbering.Mode.TheVariants.{Original}
use Rattle.syn_event.specs.Legal.{Legal}
use Rattle.task_laws.proofs.legal.rewritten_types.Lookups.{place-all}
use Rattle.normal_laws.specs.runs.runs.Example.{word}
use Rattle.normal_laws.specs.runs.forms.Choosing.{entry, member, main_body, choosing}
use Rattle.normal_laws.specs.runs.forms.Normalisable.{numbers_of}
use Rattle.normal_laws.proofs.runs.forms.Choosing.{Named, n0, n25, n26, n27, n28, n29}
use Rattle.task_laws.specs.legal.types.Typed.{IsSmall, IsSmallKind}
use Rattle.normal_laws.specs.existence.units.Weights.{IsLight}
use Rattle.normal_laws.specs.existence.Laws.{IsLegalOriginal}

legal : Legal choosing (types_in choosing) (numbers_of choosing) Original
unfolding digits
legal = record { type_rules = refl; check_rules = refl; its_types = refl; its_numbers = refl }

-- ---- names

pub with_p : AreNames (predefined ++ codes "P" ∷ [])
with_p = AreNames-added predefined (codes "P") AreNames-predefined refl (lit< tt)

with_w : AreNames (predefined ++ codes "P" ∷ codes "W" ∷ [])
with_w = AreNames-added (predefined ++ codes "P" ∷ []) (codes "W") with_p refl (lit< tt)

with_e : AreNames (predefined ++ codes "P" ∷ codes "W" ∷ codes "E" ∷ [])
with_e = AreNames-added (predefined ++ codes "P" ∷ codes "W" ∷ []) (codes "E") with_w refl (lit< tt)

with_a : AreNames (predefined ++ codes "P" ∷ codes "W" ∷ codes "E" ∷ codes "A" ∷ [])
with_a = AreNames-added (predefined ++ codes "P" ∷ codes "W" ∷ codes "E" ∷ []) (codes "A") with_e refl (lit< tt)

names : AreNames choosing.names
names = AreNames-added (predefined ++ codes "P" ∷ codes "W" ∷ codes "E" ∷ codes "A" ∷ []) (codes "I") with_a refl (lit< tt)

-- ---- sizes

-- a kind that is no enumeration
abbrev pub IsOther : Kind → Type 0
IsOther (Enumeration ids) = ⊥
IsOther _ = Unit {0}

pub small-other : (k : ℕ) (x : Kind) → IsOther x → IsSmallKind k x
small-other k (Enumeration ids) h = absurd h
small-other k Integer h = tt
small-other k Truth h = tt
small-other k (Array index first last part) h = tt

others : AllByRecursion IsOther (types_in choosing).kinds
others = (tt, (tt, tt))

small : IsSmall (types_in choosing)
small = record { kinds = λ k x e. small-other k x (place-all IsOther (types_in choosing).kinds k x others e) }

light : IsLight choosing
light = (lit< tt, (lit< tt, tt))

-- ---- places

abbrev rules : Rules
rules = well_placed choosing.names

one-name : (k : ℕ) → Named k → All (EveryWord rules) (word k ∷ [])
one-name k h = All-cons (EveryWord rules) (word k) [] h (All-nil (EveryWord rules))

in-decls : EveryDecls rules choosing.decls
in-decls = (
  (lit≤ tt, (n26, All-cons (EveryEntry rules) entry [] (lit≤ tt, n27, tt, All-nil (EveryFormal rules)) (All-nil (EveryEntry rules)), All-nil (EveryPriority rules), tt)),
  (
    (lit≤ tt, (lit≤ tt, one-name 28 n28), (((lit≤ tt, lit≤ tt), (lit≤ tt, omega arith), (lit≤ tt, omega arith)), (n26, tt)), tt, tt),
    (
      (lit≤ tt, (lit≤ tt, one-name 29 n29), (n0, tt), tt, (lit≤ tt, omega arith)),
      ((lit≤ tt, n26, tt, tt, ((lit≤ tt, (lit≤ tt, (n27, tt, All-nil (EveryFormal rules)), tt), tt), tt, tt)), tt),
    ),
  ),
)

in-body : EveryBody rules 1 main_body
in-body = (
  (lit≤ tt, (lit≤ tt, ((n28, (lit≤ tt, n29)), n27, tt)), ((lit≤ tt, lit≤ tt, All-cons (EveryCallee rules 2) member [] (n28, (lit≤ tt, n29)) (All-nil (EveryCallee rules 2))), tt)),
  tt,
  tt,
)

placed : IsWellPlaced choosing
placed = (n25, tt, in-decls, in-body)

-- So it is as the laws ask.
pub choosing-is-legal : IsLegalOriginal choosing
choosing-is-legal = record { legal = legal; placed = placed; names = names; small = small; light = light }
