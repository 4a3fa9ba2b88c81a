-- The search for a misplaced section, step by step, as the code makes it. Assumes nothing.
use Prim.Native.Nat.{ℕ, ◌+◌, ◌-◌, ◌*◌, ◌/◌, ◌≤◌, ◌<◌}
use native.Mathlib.Omega.{arith}
use native.Mathlib.Decide.{dec_lt}
use native.Mathlib.Nat.{zero-mul, add-zero}
use mathlib.Core.Path.{◌≡◌, refl, sym, ◌∙◌}
use mathlib.Core.List.{List}
use mathlib.Core.Bool.{Bool, true, false}
use lib.Dec.{ltb}
use lib.ListN.{length}
use borrow.Author.Tests.{lt-ltb, le-ltb}
use Rattle.table.specs.Table.{count_of, offset_of}
use Rattle.table.specs.declared.Section.{Section}
use Rattle.table.proofs.Laws.{ends_past, ends_inside}
use Rattle.std.specs.declared.option.Option.{Option}
use Rattle.std.specs.declared.option.Option.TheVariants.{Some, None}
use Rattle.sections.specs.declared.Fault.{Fault}
use Rattle.sections.specs.Found.{earlier_of}
use Rattle.sections.specs.Placed.{misplaced, found_section}

-- ---- the earlier of two faults
pub earlier_none : (f : Option Fault) → f ≡ earlier_of f None
earlier_none None = refl
earlier_none (Some f) = refl

-- ---- a section
module _ (header : ℕ) (w : List ℕ) (s : Section) {at : ℕ} (e : at ≡ offset_of w s) where
  pub in_header : at < header → true ≡ misplaced header w s
  unfolding misplaced
  in_header h = rw (← e, lt-ltb at header h) refl

  module _ (k : header ≤ at) where
    pub past_words : length w < at → true ≡ misplaced header w s
    unfolding misplaced
    past_words h = rw (← e, le-ltb at header k, lt-ltb (length w) (at + s.size * count_of w s) (omega arith)) refl

    module _ (l : at ≤ length w) where
      pub no_words : s.size ≡ 0 → false ≡ misplaced header w s
      unfolding misplaced
      no_words z = rw (← e, le-ltb at header k, z, zero-mul, add-zero, le-ltb (length w) at l) refl

      pub by_division : {n : ℕ} → (s.size ≡ 0 → ⊥) → n ≡ count_of w s → ltb ((length w - at) / s.size) n ≡ misplaced header w s
      unfolding misplaced
      by_division {n} z f = rw (← e, ← f, le-ltb at header k) (elim (dec_lt ((length w - at) / s.size) n) [
        | yes h ↦ lt-ltb _ n h ∙ sym (lt-ltb (length w) (at + s.size * n) (ends_past s.size at n (length w) z l h))
        | no h ↦ le-ltb ((length w - at) / s.size) n (omega arith) ∙ sym (le-ltb (length w) (at + s.size * n) (ends_inside s.size at n (length w) z l (omega arith)))
      ])

module _ (header : ℕ) (w : List ℕ) (s : Section) (f : Option Fault) {m : Bool} (t : m ≡ misplaced header w s) where
  pub section_bad : {r : Option Fault} → m ≡ true → r ≡ earlier_of f (Some (record { number = 4; word = s.count })) → r ≡ earlier_of f (found_section header w s)
  unfolding found_section
  section_bad y h = h ∙ rw (← t, y) refl

  pub section_good : m ≡ false → f ≡ earlier_of f (found_section header w s)
  unfolding found_section
  section_good y = earlier_none f ∙ rw (← t, y) refl
