-- Binary trees with something at each node, and their code: what the mirrors of expressions and statements are stored as.
use Rattle.std.specs.Prelude.{◌≡◌, refl}
use mathlib.Core.Path.{ap, sym, subst}
use base.Stored.{Coded, Gv, gnil, gnum, gcons}

pub data Binary (H : Type 0) : Type 0 where
  tip : Binary H
  node : H → Binary H → Binary H → Binary H

abbrev first : Gv → Gv
first gnil = gnil
first (gnum n) = gnil
first (gcons a b) = a

abbrev rest : Gv → Gv
rest gnil = gnil
rest (gnum n) = gnil
rest (gcons a b) = b

abbrev IsPair : Gv → Type 0
IsPair gnil = ⊥
IsPair (gnum n) = ⊥
IsPair (gcons a b) = Unit {0}

module _ {H : Type 0} (h : Coded H) where
  abbrev pub code_binary : Binary H → Gv
  code_binary tip = gnil
  code_binary (node x a b) = gcons (h.code x) (gcons (code_binary a) (code_binary b))

  pub inj_binary : (s t : Binary H) → code_binary s ≡ code_binary t → s ≡ t
  inj_binary tip tip p = refl
  inj_binary tip (node y c d) p = absurd (subst IsPair (sym p) tt)
  inj_binary (node x a b) tip p = absurd (subst IsPair p tt)
  inj_binary (node x a b) (node y c d) p = λ i.
      node (h.inj x y (ap first p) i) (inj_binary a c (ap (λ g. first (rest g)) p) i) (inj_binary b d (ap (λ g. rest (rest g)) p) i)

  abbrev pub coded_binary : Coded (Binary H)
  coded_binary = record { code = code_binary; inj = inj_binary }
