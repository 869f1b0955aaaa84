-- The user's first demand: every public call answers for every input; what can't be served gets the numbered refusal that document 01 fixes, the
-- first in its order; the answer then carries no frequency, and lent memory keeps its bytes.
-- Each call equals its definition and demands nothing: that is its own contract (docs/PROMISES.md). Of these definitions, `Demand1` says: to each
-- input there is one answer (`settled`), a refusal is its number and nothing else (`alone`), and it is the first in document 01's order
-- (`in_order`): each call goes by a flat list of tests, which stands beside its definition in `specs/Order.antt` of its crate.
-- Of lent memory: a refused write, a call for C and Rust that returns a number, and a startup answered 28 leave what was handed in.
-- `Demand1Exact`: the families' calls give every number of their lists, 16 apart.
-- Assumes nothing.
use Rattle.std.specs.Prelude.{Option, None, Result, Err}
use Rattle.std.specs.Prelude.{ℕ, ◌*◌, ◌<◌, ◌≡◌, Bool, not, List, [], ◌∷◌, ◌++◌, leb}
use Rattle.answer.specs.Answer.{Answer, gives, refuses, ◌>>◌}
use Rattle.answer.specs.Order.{Test, first_of, bare}
use Rattle.answer.specs.declared.Refusal.{Refusal}
use Rattle.answer.specs.Said.{number_of, says}
use Rattle.divider.specs.declared.Family.{Family}
use Rattle.divider.specs.declared.Family.TheVariants.{H4}
use Rattle.divider.specs.declared.Frequency.{Frequency}
use Rattle.divider.specs.Divide.{ahb_of, apb_of, by_ahb_of, by_apb_of, apb_quotient_of}
use Rattle.layout.specs.Lent.{Wrote, written}
use Rattle.tree.specs.declared.Clocks.{Clocks}
use Rattle.tree.specs.Tree.{below_of, clocks_of}
use Rattle.tree.specs.Order.{clocks_tests}
use Rattle.v4x7_rules.specs.Rules.{hse_in_range, used_hse_of, main_pll_of, eth_pll_of, reference_code_of, sys_pll_of, buses_of, adc_from_hclk_of, adc_from_usb_hs_of}
use Rattle.v4x7_rules.specs.Plain.{outside, allowed}
use Rattle.v4x7_rules.specs.Order as rules
use Rattle.v4x7.specs.declared.Config.{Config}
use Rattle.v4x7.specs.declared.ClockRecord.{ClockRecord}
use Rattle.v4x7.specs.Check.{check_of}
use Rattle.v4x7.specs.Order.{check_tests}
use Rattle.profile.specs.Profile.{read_profile, check_profile, profile_bytes}
use Rattle.profile.specs.Order as profileOrder
use Rattle.image.specs.declared.Fields.{Fields}
use Rattle.image.specs.Image.{read_image, image_bytes}
use Rattle.image.specs.Order as imageOrder
use Rattle.decoder.specs.Decode.{decode_of}
use Rattle.decoder.specs.Queries.{adc_query_of, rng_query_of}
use Rattle.decoder.specs.Order.{decode_tests, query_tests}
use Rattle.startup.specs.declared.Reading.{Reading}
use Rattle.startup.specs.declared.Report.TheVariants as report
use Rattle.startup.specs.declared.Startup.{Startup}
use Rattle.startup.specs.Call.{start_of, step_of, handed_back, waits_owed_of, call_bound_of}
use Rattle.startup.specs.Order.{start_tests, step_tests, told_by, owed_tests}
use Rattle.pll32.specs.declared.Part.{Part}
use Rattle.pll32.specs.declared.Source.{Source}
use Rattle.pll32.specs.declared.Setting.{Setting}
use Rattle.pll32.specs.Pll as pll32
use Rattle.pll32.specs.Order as order32
use Rattle.v1.specs.declared.Chip.{Chip}
use Rattle.v1.specs.declared.Config as config1
use Rattle.v1.specs.declared.Fields as in1
use Rattle.v1.specs.V1 as v1
use Rattle.v1.specs.Order as order1
use Rattle.v30x.specs.declared.Config as config30
use Rattle.v30x.specs.declared.Fields as in30
use Rattle.v30x.specs.V30x as v30x
use Rattle.v30x.specs.Order as order30
use Rattle.h4.specs.declared.Prescale.{Prescale}
use Rattle.h4.specs.H4.{pclk_of, doubled_of, prescaled_of}
use Rattle.h4.specs.Order.{pclk_tests, prescaled_tests}
use Rattle.serial.specs.Serial.{divisor_of, port_of}
use Rattle.serial.specs.Order.{divisor_tests, port_tests}
use Rattle.boards.specs.Tray.{boards_in, tray_of}
use Rattle.boards.specs.Order.{tray_tests}
use Rattle.report.specs.Report.{reported_of}
use Rattle.report.specs.Order.{report_tests}
use Rattle.capi_give.specs.Given.{Given, GivenOne}

-- A call: its definition, and its tests in document 01's order. Its answer is a `Result`, which says its values or the number of its refusal.
pub record Answers {I A : Type 0} (of : I → Answer A) (tests : I → List Test) : Type 0 where
  -- one answer to each input
  pub settled : (i : I) (r s : Result A Refusal) → says r ≡ of i → says s ≡ of i → r ≡ s
  -- a refusal is its number and nothing else: no frequency
  pub alone : (i : I) (r : Result A Refusal) (n : ℕ) → says r ≡ of i → of i ≡ refuses n → (e : Refusal) × (r ≡ Err e) × (number_of e ≡ n)
  -- it refuses by the first test that holds, and gives exactly where none does
  pub in_order : (i : I) → bare (of i) ≡ first_of (tests i)

-- a code too wide: one of `width` values or more
abbrev pub wide : ℕ → ℕ → List Test
wide width c = (28, leb width c) ∷ []

-- what a write of a record m of n bytes into lent ones answers (`Wrote`)
abbrev pub write_of : ℕ → Answer (List ℕ) → List ℕ → Answer (Unit {0})
write_of n m l = do
  written n m l
  gives tt

-- The calls that the families' calls are made of.
pub record Parts : Type 0 where
  -- the dividers, and the clocks below them
  pub ahb : Answers (λ (x : Family × ℕ). ahb_of x.0 x.1) (λ x. wide 16 x.1)
  pub apb : Answers apb_of (wide 8)
  pub by_ahb : Answers (λ (x : Family × Frequency × ℕ). by_ahb_of x.0 x.1 x.2) (λ x. wide 16 x.2)
  pub by_apb : Answers (λ (x : Frequency × ℕ). by_apb_of x.0 x.1) (λ x. wide 8 x.1)
  pub apb_quotient : Answers (λ (x : Frequency × ℕ). apb_quotient_of x.0 x.1) (λ x. wide 8 x.1)
  pub below :
      Answers (λ (x : Family × Frequency × Frequency × ℕ × ℕ). below_of x.0 x.1 x.2 x.3 x.4)
      (λ x. wide 8 x.3 ++ wide 8 x.4)
  pub clocks :
      Answers (λ (x : Family × Frequency × ℕ × ℕ × ℕ). clocks_of x.0 x.1 x.2 x.3 x.4)
      (λ x. clocks_tests x.2 x.3 x.4)
  -- the rules of V4x7
  pub hse_in_range_lem : Answers hse_in_range (λ hz. (4, outside 5000000 32000000 hz) ∷ [])
  pub used_hse : Answers used_hse_of rules.used_hse_tests
  pub main_pll_lem :
      Answers (λ (x : Option ℕ × Bool × ℕ). main_pll_of x.0 x.1 x.2) (λ x. rules.main_pll_tests x.0 x.1 x.2)
  pub eth_pll_lem : Answers eth_pll_of rules.eth_pll_tests
  pub reference_code_lem : Answers reference_code_of (λ hz. (8, not (allowed hz)) ∷ [])
  pub syspll : Answers (λ (x : ℕ × Option Frequency). sys_pll_of x.0 x.1) (λ x. rules.sys_pll_tests x.0 x.1)
  pub buses_of_lem :
      Answers (λ (x : Frequency × ℕ × ℕ × ℕ). buses_of x.0 x.1 x.2 x.3)
      (λ x. rules.buses_tests x.0 x.1 x.2 x.3)
  pub adc_from_hclk :
      Answers (λ (x : ℕ × ℕ × ℕ × ℕ). adc_from_hclk_of x.0 x.1 x.2 x.3) (λ x. wide 16 x.1 ++ wide 4 x.3 ++ wide 8 x.2)
  pub adc_from_usbhs :
      Answers (λ (x : ℕ × ℕ × ℕ). adc_from_usb_hs_of x.0 x.1 x.2) (λ x. rules.adc_from_usb_hs_tests x.0 x.1 x.2)
  -- what V1, L1 and V30x share
  pub source : Answers (λ (x : Source × Option ℕ). pll32.source_frequency_of x.0 x.1) (λ x. order32.source_tests x.0 x.1)
  pub output :
      Answers (λ (x : Part × Option ℕ × Setting). pll32.pll_output_of x.0 x.1 x.2)
      (λ x. order32.pll_output_tests x.0 x.1 x.2)
  pub configured :
      Answers
      (λ (x : Part × Option ℕ × Option Frequency × ℕ × ℕ × ℕ × ℕ). pll32.configured_clocks_of x.0 x.1 x.2 x.3 x.4 x.5 x.6)
      (λ x. order32.configured_tests x.1 x.2 x.3 x.4 x.5 x.6)
  pub decoded :
      Answers
      (λ (x : Part × Option ℕ × Setting × ℕ × ℕ × ℕ × ℕ). pll32.decoded_clocks_of x.0 x.1 x.2 x.3 x.4 x.5 x.6)
      (λ x. order32.decoded_tests x.0 x.1 x.2 x.3 x.4 x.5 x.6)

pub record Demand1 : Type 1 where
  -- V4x7: the check, both readers and writers, the decoder, the queries, the start
  pub check : Answers check_of check_tests
  pub check_profile_lem : Answers check_profile profileOrder.check_profile_tests
  -- its refusal is never 0, and is one byte: by its first number a board's record says whether the board is accepted
  pub numbered : (p : List ℕ) {n : ℕ} → check_profile p ≡ refuses n → (0 < n) × (n < 256)
  pub read_profile_lem : Answers read_profile profileOrder.read_tests
  pub read_image_lem : Answers read_image imageOrder.read_tests
  pub write_profile :
      Answers (λ (x : Config × List ℕ). write_of 10 (profile_bytes x.0) x.1) (λ x. profileOrder.write_tests x.0 x.1)
  pub write_image : Answers (λ (x : Fields × List ℕ). write_of 8 (image_bytes x.0) x.1) (λ x. imageOrder.write_tests x.0 x.1)
  pub decode : Answers (λ (x : Fields × Option ℕ). decode_of x.0 x.1) (λ x. decode_tests x.0 x.1)
  pub adc_query : Answers (λ (x : Fields × ℕ). adc_query_of x.0 x.1) (λ x. query_tests x.0)
  pub rng_query : Answers (λ (x : Fields × ℕ). rng_query_of x.0 x.1) (λ x. query_tests x.0)
  pub start : Answers (λ (x : Config × Fields). start_of x.0 x.1) (λ x. start_tests (check_tests x.0) x.1)
  -- what a startup owes its host: the waits, the calls
  pub waits : Answers waits_owed_of owed_tests
  pub calls : Answers call_bound_of owed_tests
  -- one call of a startup that is not over: 28 where its configuration is not accepted, else by its list; one that is over repeats its last answer
  pub step : (s : Startup) (r : Reading) {x : ClockRecord} → s.over ≡ None → check_of s.config ≡ gives x →
      told_by (step_of s r).report ≡ first_of (step_tests x.clocks s r)
  pub unaccepted : (s : Startup) (r : Reading) {n : ℕ} → s.over ≡ None → check_of s.config ≡ refuses n → step_of s r ≡ handed_back s
  -- V1 and L1: the check, the fields, the decoder
  pub check1 :
      Answers (λ (x : Chip × config1.Config). v1.check_of x.0 x.1) (λ x. order1.check_tests x.0 x.1)
  pub fields1 :
      Answers (λ (x : Chip × config1.Config × in1.Fields). v1.fields_of x.0 x.1 x.2)
      (λ x. order1.fields_tests x.0 x.1 x.2)
  pub decode1 :
      Answers (λ (x : Chip × in1.Fields × Option ℕ). v1.decode_of x.0 x.1 x.2)
      (λ x. order1.decode_tests x.0 x.1 x.2)
  -- V30x
  pub check30 : Answers v30x.check_of order30.check_tests
  pub fields30 :
      Answers (λ (x : config30.Config × in30.Fields). v30x.fields_of x.0 x.1) (λ x. order30.fields_tests x.0 x.1)
  pub decode30 : Answers (λ (x : in30.Fields × Option ℕ). v30x.decode_of x.0 x.1) (λ x. order30.decode_tests x.0 x.1)
  -- H4: the clocks, a bus, the AHB clock, the multipliers
  pub clocks4 : Answers (λ (x : Frequency × Prescale). prescaled_of x.0 x.1) (λ x. prescaled_tests x.1)
  pub pclk4 : Answers (λ (x : Frequency × ℕ). pclk_of x.0 x.1) (λ x. pclk_tests x.1)
  pub ahb4 : Answers (λ (x : Frequency × ℕ). by_ahb_of H4 x.0 x.1) (λ x. wide 16 x.1)
  pub doubled4 : Answers doubled_of (wide 32)
  -- serial divisors, of a bus's clock and of a port: document 02, K1
  pub divisor : Answers (λ (x : ℕ × ℕ). divisor_of x.0 x.1) (λ x. divisor_tests x.0 x.1)
  pub port : Answers (λ (x : Clocks × ℕ × ℕ). port_of x.0 x.1 x.2) (λ x. port_tests x.0 x.1 x.2)
  -- a tray of boards: document 02, K2
  pub tray :
      Answers (λ (x : List ℕ × List ℕ). write_of (32 * boards_in x.0) (tray_of x.0) x.1) (λ x. tray_tests x.0 x.1)
  -- the report, which refuses by 32 alone
  pub reported : (s l : List ℕ) → bare (reported_of s l) ≡ first_of (report_tests s l)
  -- and the calls that these are made of
  pub parts : Parts
  -- lent memory keeps its bytes: of a writer that refuses, of a call for C and Rust that returns a number, through many words or one
  pub write : (n : ℕ) (m : Answer (List ℕ)) (l l' : List ℕ) (e : Refusal) → Wrote n m l l' (Err e) → l' ≡ l
  pub call : (n : ℕ) (m : Answer (List ℕ)) (l l' : List ℕ) (r : ℕ) → Given n m l l' r → (r ≡ 0 → ⊥) → l' ≡ l
  pub call_one : (m : Answer ℕ) (x x' r : ℕ) → GivenOne m x x' r → (r ≡ 0 → ⊥) → x' ≡ x
  -- and a startup answered 28 is handed back as it was
  pub handed_back_lem : (s : Startup) (r : Reading) → (step_of s r).report ≡ report.Refused 28 → (step_of s r).startup ≡ s

-- The families' calls give every number of their lists: for each there is an input. 16 is left out (docs/DECISIONS.md): document 01 lists it, and
-- nothing here says that it is given, or that it isn't.

pub record Refusing {I A : Type 0} (of : I → Answer A) (n : ℕ) : Type 0 where
  pub input : I
  pub number : of input ≡ refuses n

abbrev pub EachGiven : {I A : Type 0} → (I → Answer A) → List ℕ → Type 0
EachGiven of [] = Unit {0}
EachGiven of (n ∷ l) = Refusing of n × EachGiven of l

-- V4x7 check: 28 before anything else; RNG, HSE, main PLL, ETH PLL, USBHS PLL, SYSCLK, HCLK, ADC, without 16
abbrev pub check_given : List ℕ
check_given = 28 ∷ 1 ∷ 2 ∷ 4 ∷ 3 ∷ 5 ∷ 6 ∷ 7 ∷ 8 ∷ 9 ∷ 10 ∷ 11 ∷ 12 ∷ 13 ∷ 14 ∷ 15 ∷ []

-- V4x7 check of a profile: the reader's two, then the check's; a profile that is read has no code that 28 refuses
abbrev pub check_profile_given : List ℕ
check_profile_given = 29 ∷ 30 ∷ 1 ∷ 2 ∷ 3 ∷ 4 ∷ 5 ∷ 6 ∷ 7 ∷ 8 ∷ 9 ∷ 10 ∷ 11 ∷ 12 ∷ 13 ∷ 14 ∷ 15 ∷ []

-- V4x7 decoder: 28; HSE, SWS, USBHS and ETH PLL, main PLL, SYSPLL source, HCLK
abbrev pub decode_given : List ℕ
decode_given = 28 ∷ 3 ∷ 4 ∷ 20 ∷ 6 ∷ 17 ∷ 8 ∷ 18 ∷ 5 ∷ 19 ∷ 12 ∷ []

-- V1 and L1 check: 28; PLL, SYSCLK
abbrev pub check_given1 : List ℕ
check_given1 = 28 ∷ 3 ∷ 24 ∷ 20 ∷ 26 ∷ []

-- V30x check: 28; PLL, USBHS, SYSCLK
abbrev pub check_given30 : List ℕ
check_given30 = 28 ∷ 27 ∷ 3 ∷ 24 ∷ 25 ∷ 8 ∷ 20 ∷ 26 ∷ []

-- a tray of boards
abbrev pub tray_given : List ℕ
tray_given = 32 ∷ 29 ∷ []

pub record Demand1Exact : Type 0 where
  pub check : EachGiven check_of check_given
  pub check_profile_lem : EachGiven check_profile check_profile_given
  pub read_profile_lem : EachGiven read_profile (29 ∷ 30 ∷ [])
  pub read_image_lem : EachGiven read_image (31 ∷ [])
  pub write_profile : EachGiven (λ (x : Config × List ℕ). write_of 10 (profile_bytes x.0) x.1) (32 ∷ 30 ∷ [])
  pub write_image : EachGiven (λ (x : Fields × List ℕ). write_of 8 (image_bytes x.0) x.1) (32 ∷ 28 ∷ [])
  pub decode : EachGiven (λ (x : Fields × Option ℕ). decode_of x.0 x.1) decode_given
  pub adc_query : EachGiven (λ (x : Fields × ℕ). adc_query_of x.0 x.1) (28 ∷ [])
  pub rng_query : EachGiven (λ (x : Fields × ℕ). rng_query_of x.0 x.1) (28 ∷ [])
  pub start : EachGiven (λ (x : Config × Fields). start_of x.0 x.1) check_given
  pub check1 : EachGiven (λ (x : Chip × config1.Config). v1.check_of x.0 x.1) check_given1
  pub fields1 : EachGiven (λ (x : Chip × config1.Config × in1.Fields). v1.fields_of x.0 x.1 x.2) check_given1
  pub decode1 : EachGiven (λ (x : Chip × in1.Fields × Option ℕ). v1.decode_of x.0 x.1 x.2) (28 ∷ 3 ∷ 24 ∷ [])
  pub check30 : EachGiven v30x.check_of check_given30
  pub fields30 : EachGiven (λ (x : config30.Config × in30.Fields). v30x.fields_of x.0 x.1) check_given30
  pub decode30 : EachGiven (λ (x : in30.Fields × Option ℕ). v30x.decode_of x.0 x.1) (28 ∷ 27 ∷ 3 ∷ 24 ∷ [])
  pub clocks4 : EachGiven (λ (x : Frequency × Prescale). prescaled_of x.0 x.1) (28 ∷ [])
  pub pclk4 : EachGiven (λ (x : Frequency × ℕ). pclk_of x.0 x.1) (28 ∷ [])
  pub ahb4 : EachGiven (λ (x : Frequency × ℕ). by_ahb_of H4 x.0 x.1) (28 ∷ [])
  pub doubled4 : EachGiven doubled_of (28 ∷ [])
  pub divisor : EachGiven (λ (x : ℕ × ℕ). divisor_of x.0 x.1) (33 ∷ 34 ∷ [])
  pub port : EachGiven (λ (x : Clocks × ℕ × ℕ). port_of x.0 x.1 x.2) (28 ∷ 33 ∷ 34 ∷ [])
  pub tray : EachGiven (λ (x : List ℕ × List ℕ). write_of (32 * boards_in x.0) (tray_of x.0) x.1) tray_given
