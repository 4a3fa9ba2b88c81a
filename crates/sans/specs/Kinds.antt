-- A word as a kind. Assumes nothing.
use Rattle.std.specs.Prelude.{ℕ, ◌≡◌, ◌<◌}
use Rattle.std.specs.declared.result.Result.{Result}
use Rattle.std.specs.Result.{MatchResult}
use Rattle.sans.specs.declared.Kind.{Kind}
use Rattle.sans.specs.declared.OtherKind.{OtherKind}
use Rattle.sans.specs.Sans.{number_of}

-- the kind whose number the word is, or the word itself where no kind has it
abbrev pub Decodes : ℕ → Result Kind OtherKind → Type 0
Decodes word r = MatchResult r (λ k. word ≡ number_of k) (λ o. (o.0 ≡ word) × (2 < word))
