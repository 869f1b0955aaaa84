-- The theorems on what specs/Order.antt defines. Assumes nothing.
use Rattle.std.specs.Prelude.{◌≡◌, refl, Bool, true, false, cond, not, ◌&&◌, ◌||◌, Option, None, Some, [], ◌∷◌, ℕ, zero, suc, ◌+◌, ◌*◌, ◌/◌, ltb, leb, eqb}
use Rattle.std.proofs.Common.{ap, arith, le-leb}
use Rattle.answer.specs.Answer.{Answer, gives, refuses}
use Rattle.answer.specs.Order.{first_of, bare, OrElse, else_gives, else_known, else_not, else_past, else_refuse, else_bind, else_order}
use Rattle.divider.specs.declared.Family.TheVariants.{V4x7}
use Rattle.divider.specs.declared.Frequency.{Frequency}
use Rattle.divider.specs.Divide.{ahb_divisor}
use Rattle.divider.specs.Frequency.{whole, over}
use Rattle.divider.specs.Laws.{ahb_else, apb_else}
use Rattle.tree.specs.Order.{no_hse, hse_hz, output_hz, clocks_at, clocks_else}
use Rattle.v4x7_rules.specs.Rules.{hse_in_range, used_hse_of, main_pll_input, main_pll_of, eth_pll_of, reference_code_of, two_thirds, sys_pll_of, buses_of, total_of, adc_from_hclk_of, adc_from_usb_hs_of}
use Rattle.v4x7_rules.specs.Plain.{outside, main_pll_hz, allowed, reference_code, sys_pll_hz}
use Rattle.v4x7_rules.specs.Order.{adc_from_usb_hs_tests, buses_tests, eth_pll_tests, main_pll_tests, sys_pll_tests, total_divisor, used_hse_tests}

pub used_hse_else : (h : Option ℕ) → OrElse (used_hse_tests h) (whole (hse_hz h)) (used_hse_of h)
unfolding used_hse_of hse_in_range
used_hse_else None = record { is = refl }
used_hse_else (Some hz) = else_not (else_past 4 (outside 5000000 32000000 hz) (λ e. else_gives))

pub used_hse_in_order : (h : Option ℕ) → bare (used_hse_of h) ≡ first_of (used_hse_tests h)
used_hse_in_order h = (else_order (used_hse_else h)).goes

input_else : (h : Option ℕ) (source : Bool) →
    OrElse ((3, source && no_hse h) ∷ (4, source && outside 5000000 32000000 (hse_hz h)) ∷ []) (whole (cond source (hse_hz h) 20000000)) (main_pll_input h source)
unfolding main_pll_input
input_else h true = used_hse_else h
input_else h false = else_not (else_not else_gives)

pub main_pll_else : (h : Option ℕ) (source : Bool) (mul : ℕ) → OrElse (main_pll_tests h source mul) (whole (main_pll_hz h source mul)) (main_pll_of h source mul)
unfolding main_pll_of over
main_pll_else h source mul =
    else_past 28 (leb 32 mul) (λ e. else_bind (input_else h source) (λ x e. rw e (else_past 5 (outside 100000000 400000000 (main_pll_hz h source mul)) (λ e. else_gives))))

pub main_pll_in_order : (h : Option ℕ) (source : Bool) (mul : ℕ) → bare (main_pll_of h source mul) ≡ first_of (main_pll_tests h source mul)
main_pll_in_order h source mul = (else_order (main_pll_else h source mul)).goes

pub eth_pll_else : (h : Option ℕ) → OrElse (eth_pll_tests h) tt (eth_pll_of h)
unfolding eth_pll_of
eth_pll_else h = else_bind (used_hse_else h) (λ x e. rw e (else_refuse 6 (not (eqb (hse_hz h) 25000000))))

pub eth_pll_in_order : (h : Option ℕ) → bare (eth_pll_of h) ≡ first_of (eth_pll_tests h)
eth_pll_in_order h = (else_order (eth_pll_else h)).goes

-- the code of a reference: 8
pub reference_code_else : (hz : ℕ) → OrElse ((8, not (allowed hz)) ∷ []) (reference_code hz) (reference_code_of hz)
unfolding reference_code_of
reference_code_else hz = cases (eqb hz 25000000) (eqb hz 20000000) (eqb hz 24000000) (eqb hz 32000000)
  where
    cases : (a b c d : Bool) → OrElse ((8, not (a || b || c || d)) ∷ []) (cond a 0 (cond b 1 (cond c 2 3)))
        (cond {A = Answer ℕ} a (gives 0) (cond b (gives 1) (cond c (gives 2) (cond d (gives 3) (refuses 8)))))
    cases true b c d = else_not else_gives
    cases false true c d = else_not else_gives
    cases false false true d = else_not else_gives
    cases false false false true = else_not else_gives
    cases false false false false = record { is = refl }

pub sys_pll_else : (source : ℕ) (main : Option Frequency) → OrElse (sys_pll_tests source main) (whole (sys_pll_hz source (output_hz main))) (sys_pll_of source main)
unfolding sys_pll_of two_thirds over
sys_pll_else zero main = record { is = refl }
sys_pll_else (suc zero) main = record { is = refl }
sys_pll_else (suc (suc zero)) main = record { is = refl }
sys_pll_else (suc (suc (suc zero))) main = record { is = refl }
sys_pll_else (suc (suc (suc (suc zero)))) main = record { is = refl }
sys_pll_else (suc (suc (suc (suc (suc zero))))) main = record { is = refl }
sys_pll_else (suc (suc (suc (suc (suc (suc zero)))))) None = record { is = refl }
sys_pll_else (suc (suc (suc (suc (suc (suc zero)))))) (Some main) = record { is = refl }
sys_pll_else (suc (suc (suc (suc (suc (suc (suc zero))))))) main = record { is = refl }
sys_pll_else (suc (suc (suc (suc (suc (suc (suc (suc n)))))))) main =
    rw (le-leb 8 (suc (suc (suc (suc (suc (suc (suc (suc n)))))))) (omega arith)) (record { is = refl })

pub sys_pll_in_order : (source : ℕ) (main : Option Frequency) → bare (sys_pll_of source main) ≡ first_of (sys_pll_tests source main)
sys_pll_in_order source main = (else_order (sys_pll_else source main)).goes

pub buses_else : (sys : Frequency) (ahb apb1 apb2 : ℕ) →
    OrElse (buses_tests sys ahb apb1 apb2) (clocks_at V4x7 sys ahb apb1 apb2) (buses_of sys ahb apb1 apb2)
unfolding buses_of over
buses_else sys ahb apb1 apb2 =
    else_bind (clocks_else V4x7 sys ahb apb1 apb2) (λ k e. rw e (else_past 12 (ltb 200000000 (sys.hz / ahb_divisor V4x7 ahb)) (λ e. else_gives)))

pub buses_in_order : (sys : Frequency) (ahb apb1 apb2 : ℕ) → bare (buses_of sys ahb apb1 apb2) ≡ first_of (buses_tests sys ahb apb1 apb2)
buses_in_order sys ahb apb1 apb2 = (else_order (buses_else sys ahb apb1 apb2)).goes

total_else : (first ppre2 adcpre : ℕ) → OrElse ((28, leb 4 adcpre) ∷ (28, leb 8 ppre2) ∷ []) (total_divisor first ppre2 adcpre) (total_of first ppre2 adcpre)
unfolding total_of
total_else first ppre2 adcpre =
    else_past 28 (leb 4 adcpre) (λ e. else_bind (apb_else ppre2) (λ p e. else_known (ap (λ (n : ℕ). first * n * (2 * (adcpre + 1))) e)))

pub adc_from_hclk_else : (sys hpre ppre2 adcpre : ℕ) →
    OrElse ((28, leb 16 hpre) ∷ (28, leb 4 adcpre) ∷ (28, leb 8 ppre2) ∷ []) (sys, total_divisor (ahb_divisor V4x7 hpre) ppre2 adcpre)
    (adc_from_hclk_of sys hpre ppre2 adcpre)
unfolding adc_from_hclk_of
adc_from_hclk_else sys hpre ppre2 adcpre =
    else_bind (ahb_else V4x7 hpre) (λ a e. rw e (else_bind (total_else (ahb_divisor V4x7 hpre) ppre2 adcpre) (λ t e. else_known (ap (λ (n : ℕ). (sys, n)) e))))

pub adc_from_usbhs_else : (d ppre2 adcpre : ℕ) →
    OrElse (adc_from_usb_hs_tests d ppre2 adcpre) (480000000, total_divisor d ppre2 adcpre) (adc_from_usb_hs_of d ppre2 adcpre)
unfolding adc_from_usb_hs_of
adc_from_usbhs_else d ppre2 adcpre =
    else_bind (total_else d ppre2 adcpre) (λ t e. rw e (else_past 14 (outside 1 32 d) (λ e. else_gives)))

pub adc_from_usbhs_in_order : (d ppre2 adcpre : ℕ) → bare (adc_from_usb_hs_of d ppre2 adcpre) ≡ first_of (adc_from_usb_hs_tests d ppre2 adcpre)
adc_from_usbhs_in_order d ppre2 adcpre = (else_order (adc_from_usbhs_else d ppre2 adcpre)).goes
