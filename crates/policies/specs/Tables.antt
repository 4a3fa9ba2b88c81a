-- Where each policy asks a rule: a line a rule (document 01, "The rules"). Assumes nothing.
use Rattle.std.specs.Prelude.{ℕ}
use Rattle.faults.specs.Places.{when}
use Rattle.faults.specs.declared.Places.{Places}
use Rattle.faults.specs.declared.Places.TheVariants.{Nowhere, Leaf, Root, LeafAndRoot, Each, Neighbours, Pairs}
use Rattle.policies.specs.declared.Policy.{Policy}
use Rattle.policies.specs.declared.Policy.TheVariants.{OpenSsl, Chrome}

-- ---- where each rule is asked; a rule that a policy doesn't have is asked nowhere
-- every certificate; every one but the leaf; every one but the root; every one but these two
abbrev pub everywhere : Places
everywhere = Each (record { 0 = 0 }) 0

abbrev pub above_leaf : Places
above_leaf = Each (record { 0 = 1 }) 0

abbrev pub below_root : Places
below_root = Each (record { 0 = 0 }) 1

abbrev pub in_between : Places
in_between = Each (record { 0 = 1 }) 1

-- every pair of a certificate above the leaf with one below it; the same without the root
abbrev pub pairs_above_leaf : Places
pairs_above_leaf = Pairs (record { 0 = 1 }) 0

abbrev pub pairs_in_between : Places
pairs_in_between = Pairs (record { 0 = 1 }) 1

unfoldable pub open_ssl_places : ℕ → Places
open_ssl_places r =
    when r 2 everywhere (
    when r 3 everywhere (
    when r 4 everywhere (
    when r 5 everywhere (
    when r 6 everywhere (
    when r 7 everywhere (
    when r 8 everywhere (
    when r 9 above_leaf (
    when r 10 everywhere (
    when r 11 everywhere (
    when r 12 Leaf (
    when r 13 Neighbours (
    when r 14 pairs_above_leaf (
    when r 15 Leaf (
    Nowhere))))))))))))))

unfoldable pub chrome_places : ℕ → Places
chrome_places r =
    when r 2 everywhere (
    when r 3 everywhere (
    when r 4 everywhere (
    when r 5 everywhere (
    when r 6 everywhere (
    when r 8 below_root (
    when r 9 above_leaf (
    when r 10 everywhere (
    when r 11 everywhere (
    when r 12 Leaf (
    when r 13 Neighbours (
    when r 14 pairs_in_between (
    when r 15 Leaf (
    when r 16 in_between (
    when r 17 LeafAndRoot (
    when r 18 everywhere (
    when r 19 Root (
    when r 20 Root (
    Nowhere))))))))))))))))))

unfoldable pub places_of : Policy → ℕ → Places
places_of OpenSsl r = open_ssl_places r
places_of Chrome r = chrome_places r

-- the numbers of all rules are below it
abbrev pub rules : ℕ
rules = 21

-- the rule that a chain is long enough
abbrev pub short : ℕ
short = 1
