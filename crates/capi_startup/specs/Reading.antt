-- A reading as a number: the sum of its bits' weights, and back.
-- Assumes nothing.
use Rattle.std.specs.Prelude.{ℕ, ◌+◌, ◌*◌, ◌/◌, ◌%◌, ◌<◌, ◌≡◌, Bool, true, false, eqb}
use Rattle.std.proofs.Common.{arith, lit<}
use Rattle.startup.specs.declared.Reading.{Reading}
use Rattle.startup.specs.Owed.{bit_of}
use Rattle.capi_startup.specs.Calls.{reading_of}

-- HSIRDY 1, HSERDY 2, PLLRDY 4, USBHS_PLLRDY 8, ETH_PLLRDY 16, SWS times 32, SCKMOD times 128
abbrev pub number_of : Reading → ℕ
number_of r =
    bit_of r.seen.hsirdy + 2 * bit_of r.seen.hserdy + 4 * bit_of r.seen.pllrdy + 8 * bit_of r.seen.usbhs_pllrdy
    + 16 * bit_of r.seen.eth_pllrdy + 32 * r.seen.sws + 128 * r.sckmod

bit_is : (b : Bool) (n : ℕ) → n ≡ bit_of b → eqb n 1 ≡ b
bit_is true n e = rw e
bit_is false n e = rw e

bit_lt : (b : Bool) → bit_of b < 2
bit_lt true = lit< tt
bit_lt false = lit< tt

-- the digits of such a sum
module _ (a b c d e s m : ℕ) (ha : a < 2) (hb : b < 2) (hc : c < 2) (hd : d < 2) (he : e < 2) (hs : s < 4) (hm : m < 4) where
  abbrev sum : ℕ
  sum = a + 2 * b + 4 * c + 8 * d + 16 * e + 32 * s + 128 * m

  digits : (sum / 1 % 2 ≡ a) × (sum / 2 % 2 ≡ b) × (sum / 4 % 2 ≡ c) × (sum / 8 % 2 ≡ d) × (sum / 16 % 2 ≡ e) × (sum / 32 % 4 ≡ s) × (sum / 128 % 4 ≡ m)
  digits = (omega arith, omega arith, omega arith, omega arith, omega arith, omega arith, omega arith)

-- What a host adds up is what a call reads.
pub read_back : (r : Reading) → r.seen.sws < 4 → r.sckmod < 4 → reading_of (number_of r) ≡ r
unfolding reading_of
read_back r hs hm =
    let s = r.seen in
    let d = digits (bit_of s.hsirdy) (bit_of s.hserdy) (bit_of s.pllrdy) (bit_of s.usbhs_pllrdy) (bit_of s.eth_pllrdy) s.sws r.sckmod
    (bit_lt s.hsirdy) (bit_lt s.hserdy) (bit_lt s.pllrdy) (bit_lt s.usbhs_pllrdy) (bit_lt s.eth_pllrdy) hs hm in
    rw (
      bit_is s.hsirdy _ d.0,
      bit_is s.hserdy _ d.1,
      bit_is s.pllrdy _ d.2,
      bit_is s.usbhs_pllrdy _ d.3,
      bit_is s.eth_pllrdy _ d.4,
      d.5,
      d.6,
    )
