-- What a caller outside can rely on. Assumes nothing.
use Prim.Native.Nat.{ℕ}
use mathlib.Core.Path.{◌≡◌, sym, ap, ◌∙◌}
use mathlib.Core.List.{List}
use Rattle.judge.specs.Judged.{answer_words, OpenSslJudged, ChromeJudged}
use Rattle.judge.specs.declared.Answer.{Answer}
use Rattle.judge.proofs.Demands.{openssl_once, chrome_once}
use Rattle.udrasmil.specs.Boundary.{Answered, OpenSslAnswered, ChromeAnswered}

-- of a judge whose answers and reports are one
module _ (Says : List ℕ → List ℕ → Answer → Type 0) (old : List ℕ) (once : (new new' : List ℕ) (a a' : Answer) → Says old new a → Says old new' a' → (a ≡ a') × (new ≡ new')) where
  same_words : {new new' answer answer' : List ℕ} → Answered Says old new answer → Answered Says old new' answer' → (answer ≡ answer') × (new ≡ new')
  same_words x y = let (e, n) = once _ _ _ _ x.judged y.judged in (x.words_are ∙ ap answer_words e ∙ sym y.words_are, n)

-- Any two answers to the same words are equal, all eight words, and so are the reports.
pub openssl_answered_once : (w b : List ℕ) {old new new' answer answer' : List ℕ} → OpenSslAnswered w b old new answer → OpenSslAnswered w b old new' answer' → (answer ≡ answer') × (new ≡ new')
openssl_answered_once w b {old = old} = same_words (OpenSslJudged w b) old (λ n n' a a'. openssl_once w b)

pub chrome_answered_once : (w b pw pb : List ℕ) {old new new' answer answer' : List ℕ} → ChromeAnswered w b pw pb old new answer → ChromeAnswered w b pw pb old new' answer' → (answer ≡ answer') × (new ≡ new')
chrome_answered_once w b pw pb {old = old} = same_words (ChromeJudged w b pw pb) old (λ n n' a a'. chrome_once w b pw pb)
