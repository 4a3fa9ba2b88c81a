-- How the code walks through a normal form, byte by byte. Only private contracts cite this; that it is the normal form is proved in proofs/Forms.antt. Assumes nothing.
use Rattle.std.specs.Prelude.{◌<◌, ◌≡◌, [], ◌∷◌, Bool, true, false, length, MatchOption}
use Rattle.std.specs.declared.option.Option.{Option}
use Rattle.laws.specs.Lists.{pick}
use Rattle.ascii.specs.Bytes.{is_space, lower_byte}
use Rattle.text.specs.Texts.{Text}
use Rattle.normal.specs.declared.Step.{Step}

-- what is left of a normal form; a space that was passed is owed until a byte follows it
unfoldable pub form : Bool → Text → Text
form owed [] = []
form owed (x ∷ s) = pick (is_space x) (form true s) (pick owed (32 ∷ lower_byte x ∷ form false s) (lower_byte x ∷ form false s))

-- r is one step through the normal form of s: nothing at its end, else a byte of it and the rest
abbrev pub Advanced : Text → Option Step → Type 0
Advanced s r = MatchOption r (form false s ≡ []) (λ t. (form false s ≡ t.byte ∷ form false t.rest.now) × (length t.rest.now < length s))
