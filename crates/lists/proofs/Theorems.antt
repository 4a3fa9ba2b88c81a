-- What the definitions of this crate mean: the same said with "for some". Assumes nothing.
use native.Mathlib.Omega.{arith}
use mathlib.Core.Path.{◌≡◌}
use mathlib.Core.Logic.{◌↔◌}
use mathlib.Core.List.{List, []}
use mathlib.Core.Bool.{true}
use Rattle.laws.specs.Lists.{eq_list}
use Rattle.laws.proofs.Equal.{equal_list, list_equal}
use Rattle.laws.proofs.Meaning.{any_index, index_any}
use Rattle.patterns.specs.Patterns.{match_name}
use Rattle.model.specs.Model.{Bytes}
use Rattle.lists.specs.Listed.{listed, matched}
use Rattle.lists.specs.Stated.{Listed, Matched}

pub listed_means : (l : List Bytes) (s : Bytes) → (listed l s ≡ true) ↔ Listed l s
unfolding listed
listed_means l s = (to, from) where
  to : listed l s ≡ true → Listed l s
  to h = let (k, a, m, e) = any_index [] (λ x. eq_list x s) l h in (k, m, equal_list _ _ e)

  from : Listed l s → listed l s ≡ true
  from (k, m, e) = index_any [] (λ x. eq_list x s) l (k, omega arith, m, list_equal _ _ e)

pub matched_means : (l : List Bytes) (n : Bytes) → (matched l n ≡ true) ↔ Matched l n
unfolding matched
matched_means l n = (to, from) where
  to : matched l n ≡ true → Matched l n
  to h = let (k, a, m, e) = any_index [] (λ x. match_name x n) l h in (k, m, e)

  from : Matched l n → matched l n ≡ true
  from (k, m, e) = index_any [] (λ x. match_name x n) l (k, omega arith, m, e)
