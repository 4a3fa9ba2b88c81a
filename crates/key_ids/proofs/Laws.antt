-- What the functions of rule 7 lean on. Assumes nothing.
use Prim.Native.Nat.{ℕ, ◌≤◌, ◌<◌}
use mathlib.Core.Path.{◌≡◌, refl}
use mathlib.Core.Bool.{Bool, true, false, not, ◌&&◌, ◌||◌}
use lib.Dec.{eqb, leb}
use borrow.Author.Tests.{le-leb, lt-leb}
use Rattle.laws.specs.Lists.{pick}
use Rattle.model.specs.Model.{no_extensions, some_extensions}
use Rattle.model.specs.Decode.{extensions_of}
use Rattle.key_ids.specs.KeyIds.{any_extensions}

-- no extensions
pub no_extensions_law : (w : ℕ) {c : ℕ} → c ≡ w → eqb c 0 ≡ not (any_extensions (extensions_of w))
unfolding any_extensions extensions_of
no_extensions_law w e = rw e (go (eqb w 0)) where
  go : (t : Bool) → t ≡ not (any_extensions (pick t no_extensions some_extensions))
  go true = refl
  go false = refl

-- each is asked unless its position lets it off
pub unless_both : (s t : Bool) {p q r o : Bool} → p ≡ r → q ≡ o → ((s || p) && (t || q)) ≡ ((s || r) && (t || o))
unless_both s t e f = rw (e, f) refl

-- what is asked by the version v
module _ (v : ℕ) (a b : Bool) {u : ℕ} (e : u ≡ v) {r : Bool} where
  pub from_two : 2 ≤ u → r ≡ a → r ≡ pick (leb 2 v) a b
  from_two l h = rw (← e, le-leb 2 u l) h

  pub below_two : u < 2 → r ≡ b → r ≡ pick (leb 2 v) a b
  below_two l h = rw (← e, lt-leb 2 u l) h
