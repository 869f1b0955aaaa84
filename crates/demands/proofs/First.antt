-- The first demand holds. Assumes nothing.
use Rattle.std.specs.Prelude.{Result, Ok, Err}
use Prim.Native.Nat.{ℕ, ◌*◌, ◌<◌}
use mathlib.Core.Path.{◌≡◌, refl, sym, ap, ◌∙◌}
use mathlib.Core.Bool.{Bool, true, false, ◌&&◌}
use native.Mathlib.Omega.{arith}
use borrow.Author.Tests.{ltb-true}
use lib.Dec.{ltb}
use mathlib.Core.List.{List, [], ◌∷◌, ◌++◌}
use Rattle.answer.specs.Answer.{Answer, gives, refuses, ◌>>◌, refuses_gives, gives_refuses, same_refusal}
use Rattle.answer.specs.Tools.{and_left, and_right}
use Rattle.answer.specs.declared.Refusal.{Refusal}
use Rattle.answer.specs.Said.{number_of, says, settled}
use Rattle.answer.specs.Order.{Test, first_of, bare, behind, order_behind, OrElse, else_order, else_refuse}
use Rattle.divider.specs.Laws.{ahb_else, apb_else, by_ahb_else, by_apb_else, apb_quotient_else}
use Rattle.layout.specs.Lent.{written, after}
use Rattle.tree.specs.Order.{below_else, clocks_else}
use Rattle.v4x7_rules.specs.Rules.{hse_in_range}
use Rattle.v4x7_rules.specs.Plain.{outside}
use Rattle.v4x7_rules.proofs.Order as rules
use Rattle.v4x7.specs.declared.Config.{Config}
use Rattle.v4x7.specs.Order.{check_tests}
use Rattle.v4x7.proofs.Order.{check_in_order}
use Rattle.profile.specs.Profile.{profile_bytes}
use Rattle.profile.specs.Profile as profile
use Rattle.profile.specs.Order as profileOrder
use Rattle.image.specs.Image.{image_bytes}
use Rattle.image.specs.Order as imageOrder
use Rattle.decoder.proofs.Order.{decode_in_order, adc_in_order, rng_in_order}
use Rattle.startup.proofs.Order.{step_in_order, unaccepted_28, start_goes, waits_in_order, calls_in_order}
use Rattle.pll32.proofs.Order as order32
use Rattle.v1.proofs.Order as order1
use Rattle.v30x.proofs.Order as order30
use Rattle.h4.specs.Order as order4
use Rattle.serial.proofs.Order.{divisor_in_order, port_in_order}
use Rattle.boards.specs.Tray.{boards_in, tray_of}
use Rattle.boards.specs.Order.{tray_in_order}
use Rattle.report.specs.Order.{report_in_order}
use Rattle.capi_give.specs.Given.{number_in, GivenOne}
use Rattle.demands.specs.First.{Answers, write_of, Parts, Demand1}
use Rattle.demands.proofs.Kept.{handed_back_lem}

-- an answer that says a refusal is the one of that number
refused : {A : Type 0} (r : Result A Refusal) (n : ℕ) → says r ≡ refuses n → (e : Refusal) × (r ≡ Err e) × (number_of e ≡ n)
refused (Ok x) n e = gives_refuses e
refused (Err e) n q = (e, refl, same_refusal q)

-- a call whose refusals go by a list: what it says decides its answer
answers : {I A : Type 0} {of : I → Answer A} {tests : I → List Test} → ((i : I) → bare (of i) ≡ first_of (tests i)) → Answers of tests
answers order = record {
  settled = λ i r s e g. settled r s (e ∙ sym g);
  alone = λ i r n e q. refused r n (e ∙ q);
  in_order = order;
}

-- the list of an answer that is known where no test holds
goes : {A : Type 0} {l : List Test} {v : A} {m : Answer A} → OrElse l v m → bare m ≡ first_of l
goes h = (else_order h).goes

-- a write answers as its record is written
forgotten : (w : Answer (List ℕ)) → bare (◌>>◌ {B = Unit {0}} w (gives tt)) ≡ bare w
forgotten (gives b) = refl
forgotten (refuses k) = refl

writes : (n : ℕ) (m : Answer (List ℕ)) (l : List ℕ) → bare (write_of n m l) ≡ bare (written n m l)
writes n m l = forgotten (written n m l)

-- what a refused write answers, it left
left : (l l' : List ℕ) (k : ℕ) (w : Answer (List ℕ)) → ◌≡◌ {A = Answer (Unit {0})} (refuses k) (◌>>◌ w (gives tt)) → l' ≡ after l w → l' ≡ l
left l l' k (gives b) e q = refuses_gives e
left l l' k (refuses n) e q = q

untouched : (l l' : List ℕ) (r : ℕ) (w : Answer (List ℕ)) → r ≡ number_in w → l' ≡ after l w → (r ≡ 0 → ⊥) → l' ≡ l
untouched l l' r (gives b) e q h = absurd (h e)
untouched l l' r (refuses n) e q h = q

untouched_one : (m : Answer ℕ) (x x' r : ℕ) → GivenOne m x x' r → (r ≡ 0 → ⊥) → x' ≡ x
untouched_one (gives b) x x' r g h = absurd (h g.number)
untouched_one (refuses n) x x' r g h = g.lent

in_range : (hz : ℕ) → bare (hse_in_range hz) ≡ first_of ((4, outside 5000000 32000000 hz) ∷ [])
unfolding hse_in_range
in_range hz = goes (else_refuse 4 (outside 5000000 32000000 hz))

check_profile_in_order : (p : List ℕ) → bare (profile.check_profile p) ≡ first_of (profileOrder.check_profile_tests p)
unfolding profile.check_profile
check_profile_in_order p =
    (order_behind {l = profileOrder.read_tests p} {k = check_tests} (profile.read_profile p) (record { goes = profileOrder.read_in_order p })
    (λ c. record { goes = check_in_order c })).goes

-- each number of a list is 1 to 255
abbrev named : List Test → Bool
named [] = true
named (t ∷ l) = ltb 0 t.0 && ltb t.0 256 && named l

first_named : (l : List Test) {n : ℕ} → named l ≡ true → first_of l ≡ refuses n → (0 < n) × (n < 256)
first_named [] t e = gives_refuses e
first_named ((k, true) ∷ l) t e =
    let s = same_refusal e in
    let both = and_left (ltb 0 k && ltb k 256) (named l) t in
    let low = ltb-true 0 k (and_left (ltb 0 k) (ltb k 256) both) in
    let high = ltb-true k 256 (and_right (ltb 0 k) (ltb k 256) both) in
    (omega arith, omega arith)
first_named ((k, false) ∷ l) t e = first_named l (and_right (ltb 0 k && ltb k 256) (named l) t) e

numbered : (p : List ℕ) {n : ℕ} → profile.check_profile p ≡ refuses n → (0 < n) × (n < 256)
unfolding profileOrder.read_tests
numbered p e = first_named (profileOrder.check_profile_tests p) (all_named (profile.read_profile p)) (sym (check_profile_in_order p) ∙ ap bare e)
  where
    all_named : (m : Answer Config) → named (profileOrder.read_tests p ++ behind m check_tests) ≡ true
    all_named (gives c) = refl
    all_named (refuses n) = refl

parts : Parts
parts = record {
  ahb = answers (λ x. goes (ahb_else x.0 x.1));
  apb = answers (λ c. goes (apb_else c));
  by_ahb = answers (λ x. goes (by_ahb_else x.0 x.1 x.2));
  by_apb = answers (λ x. goes (by_apb_else x.0 x.1));
  apb_quotient = answers (λ x. goes (apb_quotient_else x.0 x.1));
  below = answers (λ x. goes (below_else x.0 x.1 x.2 x.3 x.4));
  clocks = answers (λ x. goes (clocks_else x.0 x.1 x.2 x.3 x.4));
  hse_in_range_lem = answers in_range;
  used_hse = answers rules.used_hse_in_order;
  main_pll_lem = answers (λ x. rules.main_pll_in_order x.0 x.1 x.2);
  eth_pll_lem = answers rules.eth_pll_in_order;
  reference_code_lem = answers (λ hz. goes (rules.reference_code_else hz));
  syspll = answers (λ x. rules.sys_pll_in_order x.0 x.1);
  buses_of_lem = answers (λ x. rules.buses_in_order x.0 x.1 x.2 x.3);
  adc_from_hclk = answers (λ x. goes (rules.adc_from_hclk_else x.0 x.1 x.2 x.3));
  adc_from_usbhs = answers (λ x. rules.adc_from_usbhs_in_order x.0 x.1 x.2);
  source = answers (λ x. order32.source_in_order x.0 x.1);
  output = answers (λ x. order32.pll_output_in_order x.0 x.1 x.2);
  configured =
      answers
      (λ x. order32.configured_clocks_in_order x.0 x.1 x.2 x.3 x.4 x.5 x.6);
  decoded =
      answers
      (λ x. order32.decoded_clocks_in_order x.0 x.1 x.2 x.3 x.4 x.5 x.6);
}

pub demand1 : Demand1
demand1 = record {
  check = answers check_in_order;
  check_profile_lem = answers check_profile_in_order;
  numbered = numbered;
  read_profile_lem = answers profileOrder.read_in_order;
  read_image_lem = answers imageOrder.read_in_order;
  write_profile =
      answers (λ x. writes 10 (profile_bytes x.0) x.1 ∙ profileOrder.write_in_order x.0 x.1);
  write_image = answers (λ x. writes 8 (image_bytes x.0) x.1 ∙ imageOrder.write_in_order x.0 x.1);
  decode = answers (λ x. decode_in_order x.0 x.1);
  adc_query = answers (λ x. adc_in_order x.0 x.1);
  rng_query = answers (λ x. rng_in_order x.0 x.1);
  start =
      answers
      (λ x. (start_goes x.0 x.1 {check = check_tests x.0} (record { goes = check_in_order x.0 })).goes);
  waits = answers waits_in_order;
  calls = answers calls_in_order;
  step = step_in_order;
  unaccepted = unaccepted_28;
  check1 = answers (λ x. order1.check_in_order x.0 x.1);
  fields1 = answers (λ x. order1.fields_in_order x.0 x.1 x.2);
  decode1 = answers (λ x. order1.decode_in_order x.0 x.1 x.2);
  check30 = answers order30.check_in_order;
  fields30 = answers (λ x. order30.fields_in_order x.0 x.1);
  decode30 = answers (λ x. order30.decode_in_order x.0 x.1);
  clocks4 = answers (λ x. order4.prescaled_in_order x.0 x.1);
  pclk4 = answers (λ x. order4.pclk_in_order x.0 x.1);
  ahb4 = answers (λ x. order4.ahb_in_order x.0 x.1);
  doubled4 = answers order4.doubled_in_order;
  divisor = answers (λ x. divisor_in_order x.0 x.1);
  port = answers (λ x. port_in_order x.0 x.1 x.2);
  tray =
      answers
      (λ x. writes (32 * boards_in x.0) (tray_of x.0) x.1 ∙ tray_in_order x.0 x.1);
  reported = report_in_order;
  parts = parts;
  write = λ n m l l' e w. left l l' (number_of e) (written n m l) w.answer w.bytes;
  call = λ n m l l' r g h. untouched l l' r (written n m l) g.number g.lent h;
  call_one = untouched_one;
  handed_back_lem = handed_back_lem;
}
