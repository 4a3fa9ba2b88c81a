-- What holds of the rules of every policy. Assumes nothing.
use Prim.Native.Nat.{ℕ}
use mathlib.Core.Path.{◌≡◌, refl, ap}
use mathlib.Core.Bool.{Bool, true, false, not, ◌&&◌, false≢true}
use mathlib.Core.List.{List}
use mathlib.Core.Option.{Option, none, some}
use lib.Dec.{eqb}
use borrow.Author.Tests.{eqb-true}
use Rattle.laws.specs.Optional.{is_there}
use Rattle.laws.proofs.Tests.{and_left, and_right}
use Rattle.model.specs.Model.{Cert, Chain, Lists}
use Rattle.model.specs.Decode.{unless_zero, cert_word, nc_at, chain_of}
use Rattle.model.proofs.Optional.{there_is}
use Rattle.constraints.specs.Keeps.{keeps_constraints}
use Rattle.constrained_o.specs.Rule14.{check_name_constraints as check_name_constraints_o}
use Rattle.constrained_c.specs.Rule14.{check_name_constraints as check_name_constraints_c}
use Rattle.faults.specs.Report.{pair}
use Rattle.faults.specs.Places.{when}
use Rattle.rules.specs.Rules.{constraints_hold, holds_between, broken_between, broken, asks_nothing}
use Rattle.policies.specs.declared.Policy.{Policy}
use Rattle.policies.specs.declared.Policy.TheVariants.{OpenSsl, Chrome}

-- ---- where rule 14 asks nothing
twice : (t : Bool) → t ≡ not (not t)
twice true = refl
twice false = refl

-- a part is absent if its word is 0
absent_is : {A : Type 0} (c : ℕ) (x : A) → eqb c 0 ≡ not (is_there (unless_zero c x))
absent_is c x = rw (← there_is c x) (twice (eqb c 0))

pub nothing_asked : (w b : List ℕ) (r i : ℕ) {c : ℕ} → c ≡ cert_word w i 33 → (eqb r 14 && eqb c 0) ≡ asks_nothing (chain_of w b) r i
unfolding asks_nothing
nothing_asked w b r i e = rw e (ap (λ (t : Bool). eqb r 14 && t) (absent_is (cert_word w i 33) (nc_at w b i)))

none_if : {A : Type 0} (x : Option A) → not (is_there x) ≡ true → x ≡ none
none_if none h = refl
none_if (some x) h = absurd (false≢true h)

unconstrained : (p : Policy) (leaf : Bool) (c d : Cert) → c.nc ≡ none → constraints_hold p leaf c d ≡ true
unfolding check_name_constraints_o check_name_constraints_c keeps_constraints
unconstrained OpenSsl leaf c d e = rw e refl
unconstrained Chrome leaf c d e = rw e refl

-- no pair of i breaks it
pub asks_nothing_law : (p : Policy) (c : Chain) (l : Lists) (r i j : ℕ) → asks_nothing c r i ≡ true → broken p c l r (pair i j) ≡ false
unfolding asks_nothing broken broken_between holds_between when
asks_nothing_law p c l r i j h =
    let is : r ≡ 14 = eqb-true r 14 (and_left (eqb r 14) _ h) in
    rw (is, unconstrained p (eqb j 0) (c.cert i) (c.cert j) (none_if (c.cert i).nc (and_right (eqb r 14) _ h))) refl
