-- What a caller outside finds in the words that it lends for the answer. Assumes nothing.
use Rattle.std.specs.Prelude.{ℕ, ◌≡◌, List}
use Rattle.judge.specs.Judged.{answer_words, OpenSslJudged, ChromeJudged}
use Rattle.judge.specs.declared.Answer.{Answer}

-- the eight words are those of an answer that a judge may give
pub record Answered (Says : List ℕ → List ℕ → Answer → Type 0) (old new answer : List ℕ) : Type 0 where
  pub given : Answer
  pub judged : Says old new given
  pub words_are : answer ≡ answer_words given

-- OpenSSL's judge
abbrev pub OpenSslAnswered : List ℕ → List ℕ → List ℕ → List ℕ → List ℕ → Type 0
OpenSslAnswered w b = Answered (OpenSslJudged w b)

-- Chrome's judge
abbrev pub ChromeAnswered : List ℕ → List ℕ → List ℕ → List ℕ → List ℕ → List ℕ → List ℕ → Type 0
ChromeAnswered w b pw pb = Answered (ChromeJudged w b pw pb)
