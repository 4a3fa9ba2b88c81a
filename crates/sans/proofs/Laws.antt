-- A name decoded by the number of its kind, and what is asked of one kind only. Assumes nothing.
use Prim.Native.Nat.{ℕ, zero, suc, ◌<◌}
use native.Mathlib.Omega.{arith}
use mathlib.Core.Path.{◌≡◌, refl, sym, ◌∙◌}
use mathlib.Core.Bool.{Bool, true, false, ◌&&◌}
use lib.Dec.{eqb}
use borrow.Author.Tests.{ne_eqb}
use Rattle.laws.proofs.Tests.{and_then, and_stop}
use Rattle.model.specs.Model.{Bytes, Name, GeneralName}
use Rattle.model.specs.Decode.{general_of}
use Rattle.sans.specs.declared.Kind.{Kind}
use Rattle.sans.specs.declared.Kind.TheVariants.{Dns, Directory, Ip}
use Rattle.sans.specs.Sans.{number_of, is_kind, dns_and, directory_and, ip_and}

pub number_low : (k : Kind) → number_of k < 3
number_low Dns = omega arith
number_low Directory = omega arith
number_low Ip = omega arith

module _ (t : Bytes) (m : Name) where
  -- a kind above 4 is an unsupported one
  kind_same : (k : Kind) (g : ℕ) → eqb g (number_of k) ≡ is_kind k (general_of g t m)
  unfolding is_kind general_of
  kind_same k zero = refl
  kind_same k (suc zero) = refl
  kind_same k (suc (suc zero)) = refl
  kind_same k (suc (suc (suc zero))) = refl
  kind_same k (suc (suc (suc (suc g)))) = let h = number_low k in ne_eqb (suc (suc (suc (suc g)))) (number_of k) (omega arith) ∙ sym (ne_eqb 4 (number_of k) (omega arith))

  pub kind_is : (k : Kind) (g : ℕ) {q n : ℕ} → q ≡ g → n ≡ number_of k → eqb q n ≡ is_kind k (general_of g t m)
  kind_is k g e f = rw (e, f) (kind_same k g)

-- ---- a test f of a name n that asks names of kind k alone, and y of these
pub record Asks (k : Kind) (n : GeneralName) (y f : Bool) : Type 0 where
  pub is : (is_kind k n && y) ≡ f

module _ (t : Bytes) (m : Name) where
  pub dns_and_law : (p : Bytes → Bool) (g : ℕ) → Asks Dns (general_of g t m) (p t) (dns_and p (general_of g t m))
  unfolding is_kind dns_and general_of
  dns_and_law p zero = record { is = refl }
  dns_and_law p (suc zero) = record { is = refl }
  dns_and_law p (suc (suc zero)) = record { is = refl }
  dns_and_law p (suc (suc (suc zero))) = record { is = refl }
  dns_and_law p (suc (suc (suc (suc g)))) = record { is = refl }

  pub directory_and_law : (p : Name → Bool) (g : ℕ) → Asks Directory (general_of g t m) (p m) (directory_and p (general_of g t m))
  unfolding is_kind directory_and general_of
  directory_and_law p zero = record { is = refl }
  directory_and_law p (suc zero) = record { is = refl }
  directory_and_law p (suc (suc zero)) = record { is = refl }
  directory_and_law p (suc (suc (suc zero))) = record { is = refl }
  directory_and_law p (suc (suc (suc (suc g)))) = record { is = refl }

  pub ip_and_law : (p : Bytes → Bool) (g : ℕ) → Asks Ip (general_of g t m) (p t) (ip_and p (general_of g t m))
  unfolding is_kind ip_and general_of
  ip_and_law p zero = record { is = refl }
  ip_and_law p (suc zero) = record { is = refl }
  ip_and_law p (suc (suc zero)) = record { is = refl }
  ip_and_law p (suc (suc (suc zero))) = record { is = refl }
  ip_and_law p (suc (suc (suc (suc g)))) = record { is = refl }

-- its answer, by whether the name is of the kind, and by what is asked of it then
module _ {k : Kind} {n : GeneralName} {y f : Bool} (a : Asks k n y f) {r : Bool} (e : r ≡ is_kind k n) where
  pub kind_then : {s : Bool} → r ≡ true → s ≡ y → s ≡ f
  kind_then h q = and_then e h q ∙ a.is

  pub kind_other : r ≡ false → false ≡ f
  kind_other h = and_stop e y h ∙ a.is
