-- What a reader hands back of a part that may be absent. Assumes nothing.
use Rattle.std.specs.Prelude.{ℕ, ◌≡◌, List}
use Rattle.std.specs.Option.{MatchOption}
use Rattle.std.specs.declared.option.Option.{Option}
use Rattle.std.proofs.Math.Option as decoded
use denote.Ref.{Bor}
use Rattle.model.specs.Model.{Bytes}

-- nothing where the part is absent, and else its bytes
abbrev pub Shows : Option (Bor (List ℕ)) → decoded.Option Bytes → Type 0
Shows shown part = MatchOption shown (part ≡ decoded.none) (λ s. part ≡ decoded.some s.now)

-- nothing where the word is 0, and else x
abbrev pub ShowsPart : {A : Type 0} → Option A → ℕ → A → Type 0
ShowsPart shown word x = MatchOption shown (word ≡ 0) (λ y. (word ≡ 0 → ⊥) × (y ≡ x))
