-- What rules 9 to 12 mean: the same said another way, document 01's easy slips, and its specimens of path lengths. Assumes nothing.
use Prim.Native.Nat.{ℕ, zero, suc, ◌-◌, ◌≤◌, ◌<◌}
use native.Mathlib.Omega.{arith}
use mathlib.Core.Path.{◌≡◌, refl}
use mathlib.Core.Logic.{◌↔◌}
use mathlib.Core.List.{List, [], ◌∷◌}
use mathlib.Core.Bool.{Bool, true, false, not, ◌||◌, false≢true}
use lib.Dec.{T, eqb}
use lib.IntN.{ℤ, pos, negsuc}
use lib.ListN.{length}
use lib.Signed.{le_z, ◌≤ℤ◌}
use borrow.Author.Tests.{ne_eqb}
use Rattle.laws.specs.Lists.{is_empty}
use Rattle.laws.specs.Optional.{there_and}
use Rattle.laws.proofs.Optional.{if_there_means, there_and_means}
use Rattle.laws.proofs.Tests.{and_left, and_right, and_means}
use Rattle.model.specs.Model.{Mark, no_mark, not_critical, critical, Name, Cert, Bc, Ku, San}
use Rattle.parts.specs.Ca.{check_ca}
use Rattle.parts.specs.EmptySubject.{empty_subject_implies_critical_san}
use Rattle.model.specs.Marks.{is_critical}
use Rattle.parts.specs.PathLength.{long_enough, path_length_holds}
use Rattle.parts.specs.SanNames.{check_san}
use Rattle.parts.specs.Stated.{CheckCa, PathLengthHolds, CheckSan, EmptySubjectImpliesCriticalSan}

-- ---- rule 9
pub check_ca_means : (c : Cert) → (check_ca c ≡ true) ↔ CheckCa c
unfolding check_ca
check_ca_means c = and_means (there_and_means (λ (b : Bc). b.ca) c.bc) (if_there_means (λ (k : Ku). k.key_cert_sign) c.ku)

-- ---- rule 10
truth : (t : Bool) → t ≡ true → T t
truth true e = tt
truth false e = absurd (false≢true e)

held : (t : Bool) → T t → t ≡ true
held true e = refl
held false e = absurd e

long_enough_means : (i : ℕ) (l : ℤ) → (long_enough i l ≡ true) ↔ ((pos 0 ≤ℤ l) × (1 ≤ i → pos (i - 1) ≤ℤ l))
unfolding long_enough
long_enough_means i l = (to, from) where
  above : (1 ≤ i) → (eqb i 0 || le_z (pos (i - 1)) l) ≡ true → le_z (pos (i - 1)) l ≡ true
  above m h = rw (ne_eqb i 0 (λ e. omega arith)) at h

  to : long_enough i l ≡ true → (pos 0 ≤ℤ l) × (1 ≤ i → pos (i - 1) ≤ℤ l)
  to h = (record { le = truth (le_z (pos 0) l) (and_left _ _ h) }, λ m. record { le = truth (le_z (pos (i - 1)) l) (above m (and_right (le_z (pos 0) l) _ h)) })

  from : (pos 0 ≤ℤ l) × (1 ≤ i → pos (i - 1) ≤ℤ l) → long_enough i l ≡ true
  from (z, f) = rw (held (le_z (pos 0) l) z.le) (position i f) where
    position : (i : ℕ) → (1 ≤ i → pos (i - 1) ≤ℤ l) → (eqb i 0 || le_z (pos (i - 1)) l) ≡ true
    position zero f = refl
    position (suc i) f = rw (ne_eqb (suc i) 0 (λ e. omega arith)) (held _ (f (omega arith)).le)

pub path_length_holds_means : (i : ℕ) (c : Cert) → (path_length_holds i c ≡ true) ↔ PathLengthHolds i c
unfolding path_length_holds
path_length_holds_means i c = (to, from) where
  to : path_length_holds i c ≡ true → PathLengthHolds i c
  to h b e l f = (long_enough_means i l).0 ((if_there_means _ b.path_length).0 ((if_there_means _ c.bc).0 h b e) l f)

  from : PathLengthHolds i c → path_length_holds i c ≡ true
  from g = (if_there_means _ c.bc).1 (λ b e. (if_there_means _ b.path_length).1 (λ l f. (long_enough_means i l).1 (g b e l f)))

-- a path length below zero breaks it everywhere
pub below_zero : (i n : ℕ) → long_enough i (negsuc n) ≡ false
unfolding long_enough
below_zero i n = refl

-- position 2: path length 1 passes, 0 fails
pub one_at_two : long_enough 2 (pos 1) ≡ true
unfolding long_enough
one_at_two = refl

pub zero_at_two : long_enough 2 (pos 0) ≡ false
unfolding long_enough
zero_at_two = refl

-- ---- rule 11
some_name : {A : Type 0} (l : List A) → (not (is_empty l) ≡ true) ↔ (0 < length l)
some_name [] = (λ h. absurd (false≢true h), λ h. absurd (omega arith))
some_name (x ∷ l) = (λ h. omega arith, λ h. refl)

pub check_san_means : (c : Cert) → (check_san c ≡ true) ↔ CheckSan c
unfolding check_san
check_san_means c = (to, from) where
  to : check_san c ≡ true → CheckSan c
  to h s e = (some_name s.names).0 ((if_there_means _ c.san).0 h s e)

  from : CheckSan c → check_san c ≡ true
  from f = (if_there_means _ c.san).1 (λ s e. (some_name s.names).1 (f s e))

-- ---- rule 12
critical_means : (m : Mark) → (is_critical m ≡ true) ↔ (m ≡ critical)
unfolding is_critical
critical_means no_mark = (λ h. absurd (false≢true h), λ e. cc)
critical_means not_critical = (λ h. absurd (false≢true h), λ e. cc)
critical_means critical = (λ h. refl, λ e. refl)

pub empty_subject_means : (c : Cert) → (empty_subject_implies_critical_san c ≡ true) ↔ EmptySubjectImpliesCriticalSan c
unfolding empty_subject_implies_critical_san
empty_subject_means c = (to, from) where
  marked : Bool
  marked = there_and (λ (s : San). is_critical s.mark) c.san

  to : empty_subject_implies_critical_san c ≡ true → EmptySubjectImpliesCriticalSan c
  to h e = let (s, i, m) = (there_and_means _ c.san).0 (rw e at h) in (s, i, (critical_means s.mark).0 m)

  from : EmptySubjectImpliesCriticalSan c → empty_subject_implies_critical_san c ≡ true
  from f = asked c.subject (λ e. let (s, i, m) = f e in (there_and_means _ c.san).1 (s, i, (critical_means s.mark).1 m)) where
    asked : (n : Name) → (n ≡ [] → marked ≡ true) → (not (is_empty n) || marked) ≡ true
    asked [] g = g refl
    asked (r ∷ n) g = refl
