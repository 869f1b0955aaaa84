-- What the calls of CH32V1, CH32L1 and CH32V30x share: bytes that say yes or no, HSE, and what a check gives.
-- Assumes nothing.
use Rattle.std.specs.Prelude.{ℕ, Bool, cond, not, ◌&&◌, ◌||◌, Option, None, Some, List, eqb, leb, get_or}
use Rattle.answer.specs.Answer.{Answer, gives, refuse, ◌>>=◌, ◌>>◌}
use Rattle.layout.specs.Bits.{bits_at}
use Rattle.tree.specs.declared.Clocks.{Clocks}
use Rattle.tree.specs.declared.Hse.{Hse}
use Rattle.pll32.specs.declared.ClockRecord.{ClockRecord}

-- a byte of a record, and one that says yes or no: 1 or 0
abbrev pub at : List ℕ → ℕ → ℕ
at l k = get_or l k 0

abbrev pub yes : ℕ → Bool
yes b = eqb b 1

abbrev pub yes_or_no : ℕ → Bool
yes_or_no b = leb b 1

-- what is read of bytes that are a record; others are refused by 28
abbrev pub record_in : {A : Type 0} → Bool → A → Answer A
record_in is value = do
  refuse 28 (not is)
  gives value

-- HSE's frequency stands in bytes 2 to 5 of a configuration, most significant first
abbrev pub hse_hz_in : List ℕ → ℕ
hse_hz_in l = bits_at l 16 32

abbrev pub config_hse : Bool → Bool → ℕ → Option Hse
config_hse present bypass hz = cond present (Some (record { bypass = bypass; freq = hz })) None

-- Whether HSE has bytes that a configuration may have: an absent part's are zero
abbrev pub hse_allowed : ℕ → ℕ → ℕ → Bool
hse_allowed present bypass hz = yes_or_no present && yes_or_no bypass && (yes present || eqb bypass 0 && eqb hz 0)

-- what a check gives, seven words: the six clocks and twice the USB divisor
abbrev pub seven_of : Answer ClockRecord → Answer (Clocks × ℕ)
seven_of m = do
  x ← m
  gives (x.clocks, x.usb)
