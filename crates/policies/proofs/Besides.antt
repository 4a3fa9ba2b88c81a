-- Which rules a policy asks nowhere. Written by tools/obeying.py. Assumes nothing.
use Prim.Native.Nat.{ℕ, ◌<◌}
use native.Mathlib.Omega.{arith}
use mathlib.Core.Path.{◌≡◌, refl, sym}
use mathlib.Core.Logic.{◌⊎◌, ⊎_elim}
use Rattle.faults.specs.declared.Places.TheVariants.{Nowhere}
use Rattle.faults.proofs.Laws.{other}
use Rattle.policies.specs.Tables.{open_ssl_places, chrome_places}

-- OpenSSL asks the rules from 2 to 15 and no others.
pub not_openssl : (r : ℕ) → (r < 2) ⊎ (15 < r) → open_ssl_places r ≡ Nowhere
unfolding open_ssl_places
not_openssl r h =
    sym (
    other _ _ (λ e. ⊎_elim (λ b. omega (arith, b, e)) (λ b. omega (arith, b, e)) h) (
    other _ _ (λ e. ⊎_elim (λ b. omega (arith, b, e)) (λ b. omega (arith, b, e)) h) (
    other _ _ (λ e. ⊎_elim (λ b. omega (arith, b, e)) (λ b. omega (arith, b, e)) h) (
    other _ _ (λ e. ⊎_elim (λ b. omega (arith, b, e)) (λ b. omega (arith, b, e)) h) (
    other _ _ (λ e. ⊎_elim (λ b. omega (arith, b, e)) (λ b. omega (arith, b, e)) h) (
    other _ _ (λ e. ⊎_elim (λ b. omega (arith, b, e)) (λ b. omega (arith, b, e)) h) (
    other _ _ (λ e. ⊎_elim (λ b. omega (arith, b, e)) (λ b. omega (arith, b, e)) h) (
    other _ _ (λ e. ⊎_elim (λ b. omega (arith, b, e)) (λ b. omega (arith, b, e)) h) (
    other _ _ (λ e. ⊎_elim (λ b. omega (arith, b, e)) (λ b. omega (arith, b, e)) h) (
    other _ _ (λ e. ⊎_elim (λ b. omega (arith, b, e)) (λ b. omega (arith, b, e)) h) (
    other _ _ (λ e. ⊎_elim (λ b. omega (arith, b, e)) (λ b. omega (arith, b, e)) h) (
    other _ _ (λ e. ⊎_elim (λ b. omega (arith, b, e)) (λ b. omega (arith, b, e)) h) (
    other _ _ (λ e. ⊎_elim (λ b. omega (arith, b, e)) (λ b. omega (arith, b, e)) h) (
    other _ _ (λ e. ⊎_elim (λ b. omega (arith, b, e)) (λ b. omega (arith, b, e)) h) (
    refl)))))))))))))))

-- Chrome asks the rules from 2 to 20, without 7, and no others.
pub not_chrome : (r : ℕ) → (r < 2) ⊎ ((20 < r) ⊎ (r ≡ 7)) → chrome_places r ≡ Nowhere
unfolding chrome_places
not_chrome r h =
    sym (
    other _ _ (λ e. ⊎_elim (λ b. omega (arith, b, e)) (⊎_elim (λ b. omega (arith, b, e)) (λ b. omega (arith, b, e))) h) (
    other _ _ (λ e. ⊎_elim (λ b. omega (arith, b, e)) (⊎_elim (λ b. omega (arith, b, e)) (λ b. omega (arith, b, e))) h) (
    other _ _ (λ e. ⊎_elim (λ b. omega (arith, b, e)) (⊎_elim (λ b. omega (arith, b, e)) (λ b. omega (arith, b, e))) h) (
    other _ _ (λ e. ⊎_elim (λ b. omega (arith, b, e)) (⊎_elim (λ b. omega (arith, b, e)) (λ b. omega (arith, b, e))) h) (
    other _ _ (λ e. ⊎_elim (λ b. omega (arith, b, e)) (⊎_elim (λ b. omega (arith, b, e)) (λ b. omega (arith, b, e))) h) (
    other _ _ (λ e. ⊎_elim (λ b. omega (arith, b, e)) (⊎_elim (λ b. omega (arith, b, e)) (λ b. omega (arith, b, e))) h) (
    other _ _ (λ e. ⊎_elim (λ b. omega (arith, b, e)) (⊎_elim (λ b. omega (arith, b, e)) (λ b. omega (arith, b, e))) h) (
    other _ _ (λ e. ⊎_elim (λ b. omega (arith, b, e)) (⊎_elim (λ b. omega (arith, b, e)) (λ b. omega (arith, b, e))) h) (
    other _ _ (λ e. ⊎_elim (λ b. omega (arith, b, e)) (⊎_elim (λ b. omega (arith, b, e)) (λ b. omega (arith, b, e))) h) (
    other _ _ (λ e. ⊎_elim (λ b. omega (arith, b, e)) (⊎_elim (λ b. omega (arith, b, e)) (λ b. omega (arith, b, e))) h) (
    other _ _ (λ e. ⊎_elim (λ b. omega (arith, b, e)) (⊎_elim (λ b. omega (arith, b, e)) (λ b. omega (arith, b, e))) h) (
    other _ _ (λ e. ⊎_elim (λ b. omega (arith, b, e)) (⊎_elim (λ b. omega (arith, b, e)) (λ b. omega (arith, b, e))) h) (
    other _ _ (λ e. ⊎_elim (λ b. omega (arith, b, e)) (⊎_elim (λ b. omega (arith, b, e)) (λ b. omega (arith, b, e))) h) (
    other _ _ (λ e. ⊎_elim (λ b. omega (arith, b, e)) (⊎_elim (λ b. omega (arith, b, e)) (λ b. omega (arith, b, e))) h) (
    other _ _ (λ e. ⊎_elim (λ b. omega (arith, b, e)) (⊎_elim (λ b. omega (arith, b, e)) (λ b. omega (arith, b, e))) h) (
    other _ _ (λ e. ⊎_elim (λ b. omega (arith, b, e)) (⊎_elim (λ b. omega (arith, b, e)) (λ b. omega (arith, b, e))) h) (
    other _ _ (λ e. ⊎_elim (λ b. omega (arith, b, e)) (⊎_elim (λ b. omega (arith, b, e)) (λ b. omega (arith, b, e))) h) (
    other _ _ (λ e. ⊎_elim (λ b. omega (arith, b, e)) (⊎_elim (λ b. omega (arith, b, e)) (λ b. omega (arith, b, e))) h) (
    refl)))))))))))))))))))
