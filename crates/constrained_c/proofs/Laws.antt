-- What the functions of this crate lean on. Assumes nothing.
use Prim.Native.Nat.{ℕ, zero, suc}
use mathlib.Core.Path.{◌≡◌, refl, ap, ◌∙◌}
use mathlib.Core.Bool.{Bool, true, false, not, ◌&&◌, ◌||◌, and-true}
use mathlib.Core.Option.{Option, none, some}
use Rattle.laws.specs.Optional.{if_there}
use Rattle.laws.proofs.Tests.{or_then, or_stop}
use Rattle.patterns.specs.Patterns.{valid_name_constraint}
use Rattle.model.specs.Model.{Bytes, Name, Nc, Cert}
use Rattle.model.specs.Decode.{general_of}
use Rattle.sans.specs.Sans.{is_kind}
use Rattle.sans.specs.declared.Kind.TheVariants.{Dns}
use Rattle.covering_dns.specs.declared.Covering.{Covering}
use Rattle.constraints.specs.Keeps.{check_subject, check_san_constraints, check_name_constraints_helper, keeps_constraints}
use Rattle.constrained_c.specs.Rule16.{valid_if_dns}

-- ---- where nobody is exempt and no common name is asked, only a subject and a SAN are
module _ (v : Covering) (i j : Cert) where
  abbrev names_pass : Nc → Bool
  names_pass c = check_subject c.permitted c.excluded j.subject && if_there (check_san_constraints v c.permitted c.excluded) j.san

  pub names_only : keeps_constraints v false false i j ≡ if_there names_pass i.nc
  unfolding keeps_constraints check_name_constraints_helper
  names_only = go i.nc where
    go : (o : Option Nc) → if_there (λ (c : Nc). check_subject c.permitted c.excluded j.subject && (if_there (check_san_constraints v c.permitted c.excluded) j.san && true)) o ≡ if_there names_pass o
    go none = refl
    go (some c) = rw (and-true (if_there (check_san_constraints v c.permitted c.excluded) j.san)) refl

-- ---- a name by its kind: r is whether it is a DNS name
module _ (t : Bytes) (m : Name) where
  if_dns : (g : ℕ) → (not (is_kind Dns (general_of g t m)) || valid_name_constraint t) ≡ valid_if_dns (general_of g t m)
  unfolding is_kind general_of valid_if_dns
  if_dns zero = refl
  if_dns (suc zero) = refl
  if_dns (suc (suc zero)) = refl
  if_dns (suc (suc (suc zero))) = refl
  if_dns (suc (suc (suc (suc g)))) = refl

  module _ (g : ℕ) {r : Bool} (e : r ≡ is_kind Dns (general_of g t m)) where
    pub valid_dns : {s : Bool} → r ≡ true → s ≡ valid_name_constraint t → s ≡ valid_if_dns (general_of g t m)
    valid_dns h q = or_then (ap not e) (ap not h) q ∙ if_dns g

    pub valid_other : r ≡ false → true ≡ valid_if_dns (general_of g t m)
    valid_other h = or_stop (ap not e) _ (ap not h) ∙ if_dns g
