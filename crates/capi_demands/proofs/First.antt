-- The numbers that the calls for C and Rust return: each is the first of its list. Assumes nothing.
use Prim.Native.Nat.{ℕ, zero, suc}
use mathlib.Core.Path.{◌≡◌, ◌∙◌, refl, ap}
use mathlib.Core.Bool.{Bool, true, false, not}
use mathlib.Core.List.{List, [], ◌∷◌}
use native.Mathlib.Omega.{arith}
use borrow.Author.Tests.{le-leb}
use lib.Dec.{leb, ltb}
use lib.IntN.{ℤ}
use lib.ListN.{length, take, drop}
use Rattle.answer.specs.Answer.{Answer, gives, refuses, refuse, ◌>>◌}
use Rattle.answer.specs.Order.{Test, first_of, bare, InOrder, order_gives, order_then, order_behind, else_order}
use Rattle.answer.specs.Lists.{order_map}
use Rattle.divider.specs.declared.Family.TheVariants.{H4}
use Rattle.divider.specs.Frequency.{whole}
use Rattle.divider.specs.Divide.{by_ahb_of}
use Rattle.divider.specs.Laws.{by_ahb_else}
use Rattle.layout.specs.Layout.{fitting, packed}
use Rattle.layout.specs.Lent.{written}
use Rattle.layout.specs.Order.{written_in_order}
use Rattle.v4x7.proofs.Order.{check_in_order}
use Rattle.profile.specs.Profile as profile
use Rattle.profile.specs.Order as profileOrder
use Rattle.image.specs.Image as image
use Rattle.image.specs.Order as imageOrder
use Rattle.decoder.proofs.Order.{decode_in_order, adc_in_order, rng_in_order}
use Rattle.startup.specs.Call.{key_of}
use Rattle.startup.proofs.Order.{append_none, owed_goes, calls_goes}
use Rattle.h4.specs.Order as order4
use Rattle.serial.specs.Order.{divisor_tests}
use Rattle.serial.proofs.Order.{divisor_in_order}
use Rattle.boards.specs.Order.{tray_tests, tray_in_order}
use Rattle.capi_give.specs.Given.{decoder_hse, Given, number_in}
use Rattle.demands.specs.First.{wide}
use Rattle.demands.proofs.First.{demand1}
use Rattle.capi.specs.Calls as capi
use Rattle.capi.specs.Owed.{key_read, waits_read, calls_read}
use Rattle.capi_codec.specs.Codec.{fields_by, refused_by, profile_fields, profile_from, image_fields, image_from}
use Rattle.capi_startup.specs.Calls.{start_read, start_bytes}
use Rattle.capi_startup.specs.Order as orderStartup
use Rattle.capi_v1.specs.Order as order1
use Rattle.capi_v30x.specs.Order as order30
use Rattle.capi_h4.specs.Order.{clocks_call_in_order, pclk_call_in_order}
use Rattle.capi_serial.specs.Calls.{GivenSerial}
use Rattle.capi_demands.specs.First.{Through, ThroughOne, ThroughTwo, refusing, SerialGoes, TrayGoes, Demand1InC}
use Rattle.capi_demands.proofs.Called.{number_bare, through_place}

-- ---- from an answer to the number returned

returned : {n : ℕ} {m : Answer (List ℕ)} (tests : List ℕ → List Test) → ((l : List ℕ) → bare (written n m l) ≡ first_of (tests l)) →
    (l l' : List ℕ) (r : ℕ) → Given n m l l' r → r ≡ number_in (first_of (tests l))
returned {n} {m} tests h l l' r g = g.number ∙ number_bare (written n m l) ∙ ap number_in (h l)

through : {n : ℕ} {m : Answer (List ℕ)} {tests : List Test} → InOrder tests m → Through n m tests
through {n} {m} {tests} h l l' r g =
    g.number ∙ number_bare (written n m l) ∙ ap number_in (written_in_order n m l tests h.goes)

through_one : {m : Answer ℕ} {tests : List Test} → InOrder tests m → ThroughOne m tests
through_one {m} h x x' r g = g.number ∙ number_bare m ∙ ap number_in h.goes

-- a refusal leaves two lent numbers as they were
left_two : (m : Answer (ℕ × ℤ)) (b b' : ℕ) (e e' : ℤ) (r : ℕ) → GivenSerial m b b' e e' r → (r ≡ 0 → ⊥) → (b' ≡ b) × (e' ≡ e)
left_two (gives x) b b' e e' r g h = absurd (h g.number)
left_two (refuses n) b b' e e' r g h = (g.brr, g.error)

through_two : {m : Answer (ℕ × ℤ)} {tests : List Test} → InOrder tests m → ThroughTwo m tests
through_two {m} h b b' e e' r g = (g.number ∙ number_bare m ∙ ap number_in h.goes, left_two m b b' e e' r g)

-- ---- the readers

profiles : (p : List ℕ) → InOrder (profileOrder.read_tests p) (profile.read_profile p)
profiles p = record { goes = profileOrder.read_in_order p }

images : (i : List ℕ) → InOrder (imageOrder.read_tests i) (image.read_image i)
images i = record { goes = imageOrder.read_in_order i }

-- a profile's check
checks : (p : List ℕ) → InOrder (profileOrder.check_profile_tests p) (profile.check_profile p)
checks p = record { goes = demand1.check_profile_lem.in_order p }

-- ---- a record taken apart, or made

taken_apart : {A : Type 0} {tests : List Test} (reader : List ℕ → Answer A) (ws s : List ℕ) → InOrder tests (reader s) → InOrder tests (fields_by reader ws s)
taken_apart {tests = tests} reader ws s h = record { goes = (order_then (reader s) h (λ a e. order_gives)).goes ∙ append_none tests }

made : {A : Type 0} (k : ℕ) (fits : Bool) (m : Answer A) (b : List ℕ) →
    InOrder ((k, not fits) ∷ (k, refusing m) ∷ []) (◌>>◌ (refuse k (not fits)) (◌>>◌ (refused_by k m) (gives b)))
made k false m b = record { goes = refl }
made k true (gives a) b = record { goes = refl }
made k true (refuses n) b = record { goes = refl }

-- ---- the keys

keys : (position : ℕ) → InOrder ((28, leb 4 position) ∷ []) (key_read position)
unfolding key_of
keys zero = record { goes = refl }
keys (suc zero) = record { goes = refl }
keys (suc (suc zero)) = record { goes = refl }
keys (suc (suc (suc zero))) = record { goes = refl }
keys (suc (suc (suc (suc position)))) = rw (le-leb 4 (suc (suc (suc (suc position)))) (omega arith)) (record { goes = refl })

-- ---- the serial divisor, and a tray

serial_goes : SerialGoes
serial_goes pclk rate = through_two {tests = divisor_tests pclk rate} (record { goes = divisor_in_order pclk rate })

tray_goes : TrayGoes
tray_goes s = returned (tray_tests s) (tray_in_order s)

pub demand1_in_c : Demand1InC
unfolding capi.decode_read capi.adc_read capi.rng_read profile_fields profile_from image_fields image_from waits_read calls_read
    start_bytes
demand1_in_c = record {
  check = λ p. through (order_map _ (capi.seven_of (profile.check_profile p)) (order_map _ (profile.check_profile p) (checks p)));
  decode = λ i hz.
      through (order_map _ (capi.decode_read i hz) (order_behind (image.read_image i) (images i) (λ f. record { goes = decode_in_order f (decoder_hse hz) })));
  adc = λ i sys.
      through (order_map _ (capi.pair_of (capi.adc_read i sys)) (order_map _ (capi.adc_read i sys)
      (order_behind (image.read_image i) (images i) (λ f. record { goes = adc_in_order f sys }))));
  rng = λ i sys.
      through (order_map _ (capi.pair_of (capi.rng_read i sys)) (order_map _ (capi.rng_read i sys)
      (order_behind (image.read_image i) (images i) (λ f. record { goes = rng_in_order f sys }))));
  read_profile_lem = λ p. through (taken_apart profile.read_profile profile.widths p (profiles p));
  write_profile = λ xs.
      through (made 30 (fitting profile.widths xs) (profile.read_profile (packed 10 profile.widths xs)) (packed 10 profile.widths xs));
  read_image_lem = λ i. through (taken_apart image.read_image image.widths i (images i));
  write_image = λ xs. through (made 28 (fitting image.widths xs) (image.read_image (packed 8 image.widths xs)) (packed 8 image.widths xs));
  start = λ p i.
      through (order_map _ (start_read p i)
      (orderStartup.start_in_order _ _ _ p i (λ c. record { goes = check_in_order c }) (profiles p) (images i)));
  step = λ l w tick l' r.
      through_place l w tick l' r _ (orderStartup.startup_in_order _ _ l (profiles (take 10 l)) (images (take 8 (drop 10 l))));
  key = λ position. through (order_map _ (key_read position) (keys position));
  waits = λ p. through_one (order_behind (profile.read_profile p) (profiles p) owed_goes);
  calls = λ p. through_one (order_behind (profile.read_profile p) (profiles p) calls_goes);
  check1 = λ part c. returned (order1.check_call_tests part c) (order1.check_call_in_order part c);
  decode1 = λ part f hz. returned (order1.decode_call_tests part f hz) (order1.decode_call_in_order part f hz);
  fields1 = λ part c f. returned (order1.fields_call_tests part c f) (order1.fields_call_in_order part c f);
  check30 = λ c. returned (order30.check_call_tests c) (order30.check_call_in_order c);
  decode30 = λ f hz. returned (order30.decode_call_tests f hz) (order30.decode_call_in_order f hz);
  fields30 = λ c f. returned (order30.fields_call_tests c f) (order30.fields_call_in_order c f);
  clocks4 = λ sys hpre fpre ppre1 ppre2.
      returned (λ l. (32, ltb (length l) 7) ∷ order4.prescaled_tests (record { hpre = hpre; fpre = fpre; ppre1 = ppre1; ppre2 = ppre2 }))
      (clocks_call_in_order sys hpre fpre ppre1 ppre2);
  ahb4 = λ sys hpre. through_one (order_map _ (by_ahb_of H4 (whole sys) hpre) (else_order (by_ahb_else H4 (whole sys) hpre)));
  hclk4 = λ ahb fpre. through_one order_gives;
  pclk4 = λ hclk ppre. returned (λ l. (32, ltb (length l) 2) ∷ order4.pclk_tests ppre) (pclk_call_in_order hclk ppre);
  doubled4 = λ position. through_one {tests = wide 32 position} (record { goes = order4.doubled_in_order position });
  serial = serial_goes;
  tray = tray_goes;
}
