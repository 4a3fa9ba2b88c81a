-- Equal decoded certificates of sound bundles have equal read words. Assumes nothing.
use Prim.Native.Nat.{ℕ, ◌^◌, ◌<◌}
use mathlib.Core.Path.{◌≡◌, refl, sym, ap, ap₂, ◌∙◌}
use mathlib.Core.List.{List, ◌∷◌}
use Rattle.table.specs.Table.{count_of}
use Rattle.model.specs.Sections.{certs}
use Rattle.model.specs.Decode.{optional_string, cert_word, cert_at}
use Rattle.sound.specs.Answer.{SoundChain}
use Rattle.sound.specs.ChainFault.{aki, ski, eku, bc, ku, san, nc, policies, aia}
use Rattle.decoded.specs.Words.{read_words, words_of}
use Rattle.decoded.proofs.Fields.{key_in, mark_in, ca_in, has_length_in, ku_bits_in, extensions_in}
use Rattle.decoded.proofs.Codes.{part_word, part_mark, string_there, flag_word_law, flag_there, key_word_law, key_bits_law, extensions_word_law, signed_word_law, bits_word_law}
use Rattle.decoded.proofs.Whole.{issuer_whole, subject_whole, usages_whole, names_whole, permitted_whole, excluded_whole}

-- ---- a certificate of a sound chain bundle, whose words have 64 bits
module _ (w b : List ℕ) (sound : SoundChain w b) (n : ℕ) (h : n < count_of w certs) (wide : cert_word w n 27 < 2 ^ 64) where
  -- word j of its row
  abbrev v : ℕ → ℕ
  v j = cert_word w n j

  also : {x y : ℕ} {xs ys : List ℕ} → x ≡ y → xs ≡ ys → (x ∷ xs) ≡ (y ∷ ys)
  also e f = ap₂ ◌∷◌ e f

  -- the read words of its row are those of the decoded certificate
  pub words_are : read_words v ≡ words_of (cert_at w b n)
  unfolding optional_string cert_word
  words_are =
      also refl (
      also refl (
      also refl (
      also (sym (issuer_whole w b sound n h)) (
      also (sym (subject_whole w b sound n h)) (
      also (key_word_law (v 11) (v 12) (key_in w b sound n h)) (
      also (key_bits_law (v 11) (v 12) (key_in w b sound n h)) (
      also (string_there _ (v 13)) (
      also (string_there _ (v 14)) (
      also (part_mark _ _ (v 15) (mark_in w b sound n h 15 (aki refl)) refl) (
      also (part_word _ _ (v 15) _ (λ e. string_there _ (v 16))) (
      also (part_word _ _ (v 15) _ (λ e. string_there _ (v 17))) (
      also (part_word _ _ (v 15) _ (λ e. string_there _ (v 18))) (
      also (part_mark _ _ (v 19) (mark_in w b sound n h 19 (ski refl)) refl) (
      also (part_mark _ _ (v 21) (mark_in w b sound n h 21 (eku refl)) refl) (
      also (part_word _ _ (v 21) _ (λ e. sym (usages_whole w b sound n h e))) (
      also (part_mark _ _ (v 24) (mark_in w b sound n h 24 (bc refl)) refl) (
      also (part_word _ _ (v 24) _ (λ e. flag_word_law (v 25) (ca_in w b sound n h e))) (
      also (part_word _ _ (v 24) _ (λ e. flag_there _ (v 26) (has_length_in w b sound n h e))) (
      also (part_word _ _ (v 24) _ (λ e. part_word _ _ (v 26) _ (λ f. signed_word_law (v 27) wide))) (
      also (part_mark _ _ (v 28) (mark_in w b sound n h 28 (ku refl)) refl) (
      also (part_word _ _ (v 28) _ (λ e. bits_word_law w b n (ku_bits_in w b sound n h e))) (
      also (part_mark _ _ (v 30) (mark_in w b sound n h 30 (san refl)) refl) (
      also (part_word _ _ (v 30) _ (λ e. sym (names_whole w b sound n h e))) (
      also (part_mark _ _ (v 33) (mark_in w b sound n h 33 (nc refl)) refl) (
      also (part_word _ _ (v 33) _ (λ e. sym (permitted_whole w b sound n h e))) (
      also (part_word _ _ (v 33) _ (λ e. sym (excluded_whole w b sound n h e))) (
      also (part_mark _ _ (v 38) (mark_in w b sound n h 38 (policies refl)) refl) (
      also (part_mark _ _ (v 39) (mark_in w b sound n h 39 (aia refl)) refl) (
      also (extensions_word_law (v 40) (extensions_in w b sound n h)) (
      refl))))))))))))))))))))))))))))))

-- equal decoded certificates, of one sound bundle or of two, have equal read words
pub same_words : (w b : List ℕ) (sound : SoundChain w b) (n : ℕ) → n < count_of w certs → cert_word w n 27 < 2 ^ 64 → (x d : List ℕ) (sound' : SoundChain x d) (m : ℕ) → m < count_of x certs → cert_word x m 27 < 2 ^ 64 → cert_at w b n ≡ cert_at x d m → read_words (cert_word w n) ≡ read_words (cert_word x m)
same_words w b sound n h l x d sound' m k r e = words_are w b sound n h l ∙ ap words_of e ∙ sym (words_are x d sound' m k r)
