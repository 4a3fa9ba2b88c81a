-- Document 01's easy slips with rule 7. Assumes nothing.
use Prim.Native.Nat.{◌<◌}
use mathlib.Core.Path.{◌≡◌, refl}
use mathlib.Core.Bool.{Bool, true, false}
use mathlib.Core.Option.{some}
use borrow.Author.Tests.{lt-leb}
use Rattle.model.specs.Model.{critical, Cert, Aki}
use Rattle.model.specs.Marks.{is_critical}
use Rattle.key_ids.specs.KeyIds.{ids_not_critical, has_no_parts, check_auth_subject_key_id}

-- below version 2 a certificate without parts passes, at the leaf without AKI too
pub old_passes : (root leaf : Bool) (c : Cert) → c.version < 2 → ids_not_critical c ≡ true → has_no_parts c ≡ true → check_auth_subject_key_id root leaf c ≡ true
unfolding check_auth_subject_key_id
old_passes root leaf c l h n = rw (h, lt-leb 2 c.version l) n

-- a critical AKI breaks it at any version
pub critical_breaks : (root leaf : Bool) (c : Cert) (a : Aki) → c.aki ≡ some a → a.mark ≡ critical → check_auth_subject_key_id root leaf c ≡ false
unfolding check_auth_subject_key_id ids_not_critical is_critical
critical_breaks root leaf c a e m = rw (e, m) refl
