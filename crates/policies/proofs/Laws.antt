-- What holds of the tables of every policy. Assumes nothing.
use Prim.Native.Nat.{◌≤◌}
use native.Mathlib.Omega.{arith}
use mathlib.Core.Path.{◌≡◌}
use mathlib.Core.Logic.{inl, inr}
use Rattle.faults.specs.Order.{NoneFrom}
use Rattle.faults.specs.Places.{when}
use Rattle.faults.specs.Count.{sum, is_single, is_pairs, single_rules, pair_rules}
use Rattle.faults.specs.declared.Places.TheVariants.{Nowhere}
use Rattle.policies.specs.Tables.{open_ssl_places, chrome_places, places_of, rules}
use Rattle.policies.specs.declared.Policy.{Policy}
use Rattle.policies.specs.declared.Policy.TheVariants.{OpenSsl, Chrome}
use Rattle.policies.proofs.Besides.{not_openssl, not_chrome}

-- No table has a rule from 21 on, so the loop to 20 misses none.
pub no_more : (p : Policy) → NoneFrom (places_of p) rules
unfolding places_of
no_more OpenSsl r h = not_openssl r (inr (omega arith))
no_more Chrome r h = not_chrome r (inr (inl (omega arith)))

-- There is no rule 0.
pub no_rule_0 : (p : Policy) → places_of p 0 ≡ Nowhere
unfolding places_of
no_rule_0 OpenSsl = not_openssl 0 (inl (omega arith))
no_rule_0 Chrome = not_chrome 0 (inl (omega arith))

-- At most 19 rules of a policy are asked of single places, and one of pairs.
pub few_singles : (p : Policy) → single_rules (places_of p) rules ≤ 19
unfolding single_rules sum is_single places_of open_ssl_places chrome_places when
few_singles OpenSsl = omega arith
few_singles Chrome = omega arith

pub one_of_pairs : (p : Policy) → pair_rules (places_of p) rules ≤ 1
unfolding pair_rules sum is_pairs places_of open_ssl_places chrome_places when
one_of_pairs OpenSsl = omega arith
one_of_pairs Chrome = omega arith
