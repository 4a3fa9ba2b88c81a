-- IP addresses and ranges (the body of `ip_addr_in_range` in common.rs; RFC 5280, 4.2.1.10). Assumes nothing.
use Rattle.std.specs.Prelude.{ℕ, ◌+◌, List, Bool, ◌&&◌, ◌||◌, eqb, length, get_or}
use Rattle.std.specs.Int.Bits.{bit_and}
use Rattle.laws.specs.Lists.{all, numbers}

-- the network's and the address's byte agree where the mask's byte has ones
unfoldable pub masked_equal : ℕ → ℕ → ℕ → Bool
masked_equal network mask address = eqb (bit_and network mask) (bit_and address mask)

-- byte i of the address agrees with byte i of the range, whose mask begins after n bytes
unfoldable pub agrees_at : ℕ → List ℕ → List ℕ → ℕ → Bool
agrees_at n range address i = masked_equal (get_or range i 0) (get_or range (i + n) 0) (get_or address i 0)

-- the range is n bytes of network and n bytes of mask, and the address n bytes that agree with it
unfoldable pub in_range : ℕ → List ℕ → List ℕ → Bool
in_range n range address =
    eqb (length range) (n + n) && eqb (length address) n && all (agrees_at n range address) (numbers 0 n)

-- the same for addresses of 4 bytes and of 16
unfoldable pub ip_addr_in_range : List ℕ → List ℕ → Bool
ip_addr_in_range range address = in_range 4 range address || in_range 16 range address
