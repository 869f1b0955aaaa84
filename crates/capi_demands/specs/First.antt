-- The user's first demand, of the calls for C and Rust: what each returns is the number of the first test of its list that holds, and 0 where none
-- does. The lists are those of `Demand1`, put together: 32 where memory with a length is lent, then the tests of what reads the bytes handed in,
-- then those of the call behind it, over what was read. That a refusal leaves what was lent is `Demand1`'s `call` and `call_one`, and of two lent numbers
-- `ThroughTwo`; that two results of a call are equal, `given_settled`, `given_one_settled` and `given_serial_settled`.
-- Assumes nothing.
use Rattle.std.specs.Prelude.{ℕ, ◌*◌, ◌≡◌, Bool, true, false, not, List, [], ◌∷◌, ◌++◌, ltb, ℤ, length, take, drop}
use Rattle.answer.specs.Answer.{Answer, gives, refuses}
use Rattle.answer.specs.Order.{Test, first_of, behind}
use Rattle.divider.specs.declared.Family.TheVariants.{H4}
use Rattle.divider.specs.Divide.{by_ahb_of, fpre_divisor}
use Rattle.divider.specs.Frequency.{whole, over}
use Rattle.layout.specs.Layout.{fitting, packed}
use Rattle.v4x7.specs.Order.{check_tests}
use Rattle.profile.specs.Profile as profile
use Rattle.profile.specs.Order as profileOrder
use Rattle.image.specs.Image as image
use Rattle.image.specs.Order as imageOrder
use Rattle.decoder.specs.Order.{decode_tests, query_tests}
use Rattle.startup.specs.Order.{owed_tests}
use Rattle.h4.specs.H4.{doubled_of}
use Rattle.h4.specs.Order as order4
use Rattle.serial.specs.Serial.{divisor_of}
use Rattle.serial.specs.Order.{divisor_tests}
use Rattle.boards.specs.Tray.{boards_in, tray_of}
use Rattle.boards.specs.Order.{length_tests}
use Rattle.capi_give.specs.Given.{decoder_hse, Given, GivenOne, number_in, two_words, six_words, seven_words}
use Rattle.demands.specs.First.{wide}
use Rattle.capi.specs.Calls as capi
use Rattle.capi.specs.Owed.{key_read, waits_read, calls_read}
use Rattle.capi_codec.specs.Codec.{profile_fields, profile_from, image_fields, image_from}
use Rattle.capi_startup.specs.Calls.{start_bytes, step_bytes, Leaves}
use Rattle.capi_startup.specs.Order.{start_read_tests, step_read_tests}
use Rattle.capi_pll32.specs.Bytes.{seven_of}
use Rattle.capi_v1.specs.Calls as v1
use Rattle.capi_v1.specs.Order as order1
use Rattle.capi_v30x.specs.Calls as v30x
use Rattle.capi_v30x.specs.Order as order30
use Rattle.capi_h4.specs.Calls.{clocks_ahb_of, bus_words_of, in_hertz}
use Rattle.capi_serial.specs.Calls.{GivenSerial}

-- a call that gives a record m of n words or bytes through lent ones: 32 first
abbrev pub Through : ℕ → Answer (List ℕ) → List Test → Type 0
Through n m tests = (l l' : List ℕ) (r : ℕ) → Given n m l l' r → r ≡ number_in (first_of ((32, ltb (length l) n) ∷ tests))

-- one that gives a number through one lent word
abbrev pub ThroughOne : Answer ℕ → List Test → Type 0
ThroughOne m tests = (x x' r : ℕ) → GivenOne m x x' r → r ≡ number_in (first_of tests)

-- one that gives BRR and its error through two lent numbers: with a refusal number returned, both are as they were
abbrev pub ThroughTwo : Answer (ℕ × ℤ) → List Test → Type 0
ThroughTwo m tests = (b b' : ℕ) (e e' : ℤ) (r : ℕ) → GivenSerial m b b' e e' r →
    (r ≡ number_in (first_of tests)) × ((r ≡ 0 → ⊥) → (b' ≡ b) × (e' ≡ e))

abbrev pub refusing : {A : Type 0} → Answer A → Bool
refusing (gives x) = false
refusing (refuses n) = true

-- one that leaves a number and 72 bytes: with a number that is neither 0 nor 21 nor 22, all bytes are as they were
abbrev pub ThroughPlace : (List ℕ → ℕ → ℕ → Answer (ℕ × List ℕ)) → (List ℕ → ℕ → List Test) → Type 0
ThroughPlace call tests = (l : List ℕ) (w tick : ℕ) (l' : List ℕ) (r : ℕ) → Leaves 72 (call l w tick) l l' r →
    (r ≡ number_in (first_of ((32, ltb (length l) 72) ∷ tests l w))) × ((r ≡ 0 → ⊥) → (r ≡ 21 → ⊥) → (r ≡ 22 → ⊥) → l' ≡ l)

-- the serial divisor of a PCLK and a rate
abbrev pub SerialGoes : Type 0
SerialGoes = (pclk rate : ℕ) → ThroughTwo (divisor_of pclk rate) (divisor_tests pclk rate)

-- a tray of boards: 32 bytes for each whole ten of the profiles, then 29
abbrev pub TrayGoes : Type 0
TrayGoes = (s : List ℕ) → Through (32 * boards_in s) (tray_of s) (length_tests s)

pub record Demand1InC : Type 0 where
  -- V4x7: the check, the decoder, the queries, behind the readers of profile and image
  pub check : (p : List ℕ) → Through 7 (seven_words (capi.seven_of (profile.check_profile p))) (profileOrder.check_profile_tests p)
  pub decode : (i : List ℕ) (hz : ℕ) →
      Through 6 (six_words (capi.decode_read i hz)) (imageOrder.read_tests i ++ behind (image.read_image i) (λ f. decode_tests f (decoder_hse hz)))
  pub adc : (i : List ℕ) (sys : ℕ) →
      Through 2 (two_words (capi.pair_of (capi.adc_read i sys))) (imageOrder.read_tests i ++ behind (image.read_image i) query_tests)
  pub rng : (i : List ℕ) (sys : ℕ) →
      Through 2 (two_words (capi.pair_of (capi.rng_read i sys))) (imageOrder.read_tests i ++ behind (image.read_image i) query_tests)
  -- profiles and images, and their fields: fields that don't fit, or a record that its reader refuses
  pub read_profile_lem : (p : List ℕ) → Through 24 (profile_fields p) (profileOrder.read_tests p)
  pub write_profile : (xs : List ℕ) →
      Through 10 (profile_from xs)
      ((30, not (fitting profile.widths xs)) ∷ (30, refusing (profile.read_profile (packed 10 profile.widths xs))) ∷ [])
  pub read_image_lem : (i : List ℕ) → Through 34 (image_fields i) (imageOrder.read_tests i)
  pub write_image : (xs : List ℕ) →
      Through 8 (image_from xs) ((28, not (fitting image.widths xs)) ∷ (28, refusing (image.read_image (packed 8 image.widths xs))) ∷ [])
  -- the startup: starting, a call on a place; the keys, the waits, the calls
  pub start : (p i : List ℕ) →
      Through 72 (start_bytes p i) (start_read_tests check_tests (profileOrder.read_tests p) (imageOrder.read_tests i) p i)
  pub step : ThroughPlace step_bytes
      (λ l w. step_read_tests (profileOrder.read_tests (take 10 l)) (imageOrder.read_tests (take 8 (drop 10 l))) l w)
  pub key : (position : ℕ) → Through 2 (two_words (key_read position)) (wide 4 position)
  pub waits : (p : List ℕ) → ThroughOne (waits_read p) (profileOrder.read_tests p ++ behind (profile.read_profile p) owed_tests)
  pub calls : (p : List ℕ) → ThroughOne (calls_read p) (profileOrder.read_tests p ++ behind (profile.read_profile p) owed_tests)
  -- V1 and L1
  pub check1 : (part : ℕ) (c l l' : List ℕ) (r : ℕ) → Given 7 (seven_words (seven_of (v1.check_read part c))) l l' r →
      r ≡ number_in (first_of (order1.check_call_tests part c l))
  pub decode1 : (part : ℕ) (f : List ℕ) (hz : ℕ) (l l' : List ℕ) (r : ℕ) → Given 6 (six_words (v1.decode_read part f hz)) l l' r →
      r ≡ number_in (first_of (order1.decode_call_tests part f hz l))
  pub fields1 : (part : ℕ) (c f l l' : List ℕ) (r : ℕ) → Given 8 (v1.field_bytes (v1.init_read part c f)) l l' r →
      r ≡ number_in (first_of (order1.fields_call_tests part c f l))
  -- V30x
  pub check30 : (c l l' : List ℕ) (r : ℕ) → Given 7 (seven_words (seven_of (v30x.check_read c))) l l' r → r ≡ number_in (first_of (order30.check_call_tests c l))
  pub decode30 : (f : List ℕ) (hz : ℕ) (l l' : List ℕ) (r : ℕ) → Given 6 (six_words (v30x.decode_read f hz)) l l' r →
      r ≡ number_in (first_of (order30.decode_call_tests f hz l))
  pub fields30 : (c f l l' : List ℕ) (r : ℕ) → Given 9 (v30x.field_bytes (v30x.init_read c f)) l l' r →
      r ≡ number_in (first_of (order30.fields_call_tests c f l))
  -- H4; HCLK is never refused
  pub clocks4 : (sys hpre fpre ppre1 ppre2 : ℕ) →
      Through 7 (seven_words (clocks_ahb_of sys hpre fpre ppre1 ppre2))
      (order4.prescaled_tests (record { hpre = hpre; fpre = fpre; ppre1 = ppre1; ppre2 = ppre2 }))
  pub ahb4 : (sys hpre : ℕ) → ThroughOne (in_hertz (by_ahb_of H4 (whole sys) hpre)) (wide 16 hpre)
  pub hclk4 : (ahb fpre : ℕ) → ThroughOne (gives (over (whole ahb) (fpre_divisor fpre)).hz) []
  pub pclk4 : (hclk ppre : ℕ) → Through 2 (two_words (bus_words_of hclk ppre)) (order4.pclk_tests ppre)
  pub doubled4 : (position : ℕ) → ThroughOne (doubled_of position) (wide 32 position)
  -- the serial divisor, and a tray
  pub serial : SerialGoes
  pub tray : TrayGoes
