-- The decoder refuses by the first refusal in document 01's order, and gives clocks exactly where none applies; the queries likewise.
-- Assumes nothing.
use mathlib.Core.Path.{◌≡◌, refl, ap}
use mathlib.Core.Bool.{Bool, true, false, cond, not, ◌&&◌, ◌||◌}
use mathlib.Core.List.{List, [], ◌∷◌, ◌++◌}
use Rattle.std.specs.Prelude.{Option}
use Prim.Native.Nat.{ℕ, zero, suc, ◌+◌, ◌/◌, ◌<◌}
use native.Mathlib.Omega.{arith}
use borrow.Author.Tests.{lt-leb, le-ltb, ltb-true, not-false}
use lib.Dec.{ltb, eqb}
use lib.ListN.{take, drop}
use Rattle.answer.specs.Answer.{Answer, gives, refuse, ◌>>=◌}
use Rattle.answer.specs.Tests.{every_at}
use Rattle.answer.specs.Order.{Test, first_of, bare, InOrder, order_gives, order_past, order_bind, OrElse, else_gives, else_known, else_skip, else_past, else_refuse, else_bind, else_then, else_order}
use Rattle.divider.specs.declared.Family.TheVariants.{V4x7}
use Rattle.divider.specs.declared.Frequency.{Frequency}
use Rattle.divider.specs.Divide.{ahb_divisor}
use Rattle.divider.specs.Frequency.{whole, over}
use Rattle.tree.specs.Order.{no_hse, hse_hz, clocks_at}
use Rattle.image.specs.declared.Fields.{Fields}
use Rattle.image.specs.Image.{in_widths, in_width}
use Rattle.v4x7_rules.specs.Rules.{reference_code_of, two_thirds, sys_pll_of, buses_of}
use Rattle.v4x7_rules.specs.Plain.{outside, allowed, reference_code}
use Rattle.v4x7_rules.proofs.Order.{used_hse_else, main_pll_else, eth_pll_else, reference_code_else, buses_else, adc_from_hclk_else, adc_from_usbhs_else}
use Rattle.decoder.specs.Decode.{usb_hs_reference_of, usb_hs_pll_of, sys_pll_input_of, in_use_of, decode_of}
use Rattle.decoder.specs.Queries.{adc_ratio_of, adc_query_of, rng_query_of}
use Rattle.decoder.specs.Order.{reference_hz, sysclk_hz, decode_tests, query_tests}

reference : (source : ℕ) (h : Option ℕ) → source < 4 →
    OrElse ((3, (eqb source 0 || eqb source 2) && no_hse h) ∷ (4, (eqb source 0 || eqb source 2) && outside 5000000 32000000 (hse_hz h))
    ∷ (6, eqb source 2 && not (eqb (hse_hz h) 25000000)) ∷ (17, eqb source 3) ∷ []) (whole (reference_hz source h)) (usb_hs_reference_of source h)
unfolding usb_hs_reference_of
reference zero h small = record { is = (used_hse_else h).is }
reference (suc zero) h small = record { is = refl }
reference (suc (suc zero)) h small = record { is = (else_then (eth_pll_else h) (λ e. else_gives)).is }
reference (suc (suc (suc zero))) h small = record { is = refl }
reference (suc (suc (suc (suc n)))) h small = absurd (omega arith)

usbhs_pll : (source right : ℕ) (h : Option ℕ) → source < 4 →
    OrElse ((3, (eqb source 0 || eqb source 2) && no_hse h) ∷ (4, (eqb source 0 || eqb source 2) && outside 5000000 32000000 (hse_hz h))
    ∷ (6, eqb source 2 && not (eqb (hse_hz h) 25000000)) ∷ (17, eqb source 3) ∷ (8, not (allowed (reference_hz source h)))
    ∷ (18, not (eqb (reference_code (reference_hz source h)) right)) ∷ []) tt (usb_hs_pll_of source right h)
unfolding usb_hs_pll_of
usbhs_pll source right h small = else_bind (reference source h small) (λ x e. rw e (known (reference_hz source h)))
  where
    known : (hz : ℕ) → OrElse ((8, not (allowed hz)) ∷ (18, not (eqb (reference_code hz) right)) ∷ []) tt (do
      is ← reference_code_of hz
      refuse 18 (not (eqb is right)))
    known hz = else_bind (reference_code_else hz) (λ is e. rw e (else_refuse 18 (not (eqb (reference_code hz) right))))

-- a code of two bits, and one of three, by its cases
four : {P : Type 0} (s : ℕ) → s < 4 → (s ≡ 0 → P) → (s ≡ 1 → P) → (s ≡ 2 → P) → (s ≡ 3 → P) → P
four zero h a b c d = a refl
four (suc zero) h a b c d = b refl
four (suc (suc zero)) h a b c d = c refl
four (suc (suc (suc zero))) h a b c d = d refl
four (suc (suc (suc (suc n)))) h a b c d = absurd (omega arith)

eight : {P : Type 0} (s : ℕ) → s < 8 → (s ≡ 0 → P) → (s ≡ 1 → P) → (s ≡ 2 → P) → (s ≡ 3 → P) → (s ≡ 4 → P) → (s ≡ 5 → P) → (s ≡ 6 → P) → (s ≡ 7 → P) → P
eight zero h a b c d e f g i = a refl
eight (suc zero) h a b c d e f g i = b refl
eight (suc (suc zero)) h a b c d e f g i = c refl
eight (suc (suc (suc zero))) h a b c d e f g i = d refl
eight (suc (suc (suc (suc s)))) h a b c d e f g i =
    four s (omega arith) (λ is. e (ap (λ n. suc (suc (suc (suc n)))) is)) (λ is. f (ap (λ n. suc (suc (suc (suc n)))) is))
    (λ is. g (ap (λ n. suc (suc (suc (suc n)))) is)) (λ is. i (ap (λ n. suc (suc (suc (suc n)))) is))

-- divided by 1..8, nothing more is refused
divided : {l : List Test} {x : Frequency} {m : Answer Frequency} (n : ℕ) → OrElse l x m →
    OrElse (l ++ []) (over x (n + 1)) (◌>>=◌ m (λ y. gives (over y (n + 1))))
divided n h = else_bind h (λ y e. else_known (ap (λ (z : Frequency). over z (n + 1)) e))

system : (f : Fields) (h : Option ℕ) → in_width f ≡ true → OrElse (take 16 (drop 1 (decode_tests f h))) (whole (sysclk_hz f h)) (in_use_of f h)
unfolding in_use_of sys_pll_input_of sys_pll_of two_thirds over in_widths
system f h wide =
    let at = every_at (in_widths f) wide in
    let div : ℕ = f.cfgr2.sysplldiv in
    let usbhs = usbhs_pll f.cfgr2.usbhspllsrc f.cfgr2.usbhspllclk h (ltb-true _ 4 (at 8)) in
    let main = else_skip (main_pll_else h f.cfgr0.pllsrc f.cfgr0.pllmul) (lt-leb 32 f.cfgr0.pllmul (ltb-true _ 32 (at 2))) in
    four f.seen.sws (ltb-true _ 4 (at 0))
    (λ is. rw is (record { is = refl }))
    (λ is. rw is (record { is = (used_hse_else h).is }))
    (λ is. rw is (eight f.cfgr2.syspllsrc (ltb-true _ 8 (at 10))
    (λ is. rw is (record { is = (divided div (else_then usbhs (λ e. else_gives))).is }))
    (λ is. rw is (record { is = (divided div (else_then (eth_pll_else h) (λ e. else_gives))).is }))
    (λ is. rw is (record { is = (divided div (else_then usbhs (λ e. else_gives))).is }))
    (λ is. rw is (record { is = (divided div (else_then (eth_pll_else h) (λ e. else_gives))).is }))
    (λ is. rw is (record { is = refl }))
    (λ is. rw is (record { is = refl }))
    (λ is. rw is (record { is = (divided div (else_bind main (λ x e. else_known e))).is }))
    (λ is. rw is (record { is = refl }))))
    (λ is. rw is (record { is = refl }))

buses : (sys : Frequency) (hpre ppre1 ppre2 : ℕ) {hz : ℕ} → sys ≡ whole hz → hpre < 16 → ppre1 < 8 → ppre2 < 8 →
    OrElse ((12, ltb 200000000 (hz / ahb_divisor V4x7 hpre)) ∷ []) (clocks_at V4x7 (whole hz) hpre ppre1 ppre2) (buses_of sys hpre ppre1 ppre2)
buses sys hpre ppre1 ppre2 {hz} is h k l =
    rw is (else_skip (else_skip (else_skip (buses_else (whole hz) hpre ppre1 ppre2) (lt-leb 16 hpre h)) (lt-leb 8 ppre1 k)) (lt-leb 8 ppre2 l))

-- the whole decoder: refused by the first of the list, or else the plain numbers
pub decode_else : (f : Fields) (h : Option ℕ) →
    OrElse (decode_tests f h) (clocks_at V4x7 (whole (sysclk_hz f h)) f.cfgr0.hpre f.cfgr0.ppre1 f.cfgr0.ppre2) (decode_of f h)
unfolding decode_of in_widths
decode_else f h =
    else_past 28 (not (in_width f)) (λ e.
    let at = every_at (in_widths f) (not-false (in_width f) e) in
    else_bind (system f h (not-false (in_width f) e)) (λ sys e.
    buses sys f.cfgr0.hpre f.cfgr0.ppre1 f.cfgr0.ppre2 e (ltb-true _ 16 (at 3)) (ltb-true _ 8 (at 4)) (ltb-true _ 8 (at 5))))

pub decode_in_order : (f : Fields) (h : Option ℕ) → bare (decode_of f h) ≡ first_of (decode_tests f h)
decode_in_order f h = (else_order (decode_else f h)).goes

-- a query gives, once 28 is out of the way
either : {A : Type 0} {m p : Answer A} (b : Bool) → InOrder [] m → InOrder [] p → InOrder [] (cond b m p)
either true h k = h
either false h k = k

ratio : (f : Fields) (sys : ℕ) → in_width f ≡ true → InOrder [] (adc_ratio_of f sys)
unfolding adc_ratio_of in_widths
ratio f sys wide =
    let at = every_at (in_widths f) wide in
    let clkdiv = f.cfgr3.adc_clkdiv in
    let small = ltb-true clkdiv 32 (at 12) in
    let ppre2 = lt-leb 8 f.cfgr0.ppre2 (ltb-true _ 8 (at 5)) in
    let adcpre = lt-leb 4 f.cfgr0.adcpre (ltb-true _ 4 (at 6)) in
    either f.cfgr0.adcsrc
    (rw (lt-leb 32 clkdiv small)
    (else_order (else_skip (else_skip (else_skip (adc_from_usbhs_else (clkdiv + 1) f.cfgr0.ppre2 f.cfgr0.adcpre) adcpre) ppre2) (inside clkdiv small))))
    (else_order (else_skip (else_skip (else_skip (adc_from_hclk_else sys f.cfgr0.hpre f.cfgr0.ppre2 f.cfgr0.adcpre)
    (lt-leb 16 f.cfgr0.hpre (ltb-true _ 16 (at 3)))) adcpre) ppre2))
  where
    inside : (n : ℕ) → n < 32 → outside 1 32 (n + 1) ≡ false
    inside n h = simp (le-ltb (n + 1) 1 (omega arith), le-ltb 32 (n + 1) (omega arith))

pub adc_in_order : (f : Fields) (sys : ℕ) → bare (adc_query_of f sys) ≡ first_of (query_tests f)
unfolding adc_query_of
adc_in_order f sys =
    (order_past 28 (not (in_width f)) (λ e.
    either (f.cfgr0.adcsrc && not f.seen.usbhs_pllrdy) order_gives
    (order_bind _ (ratio f sys (not-false (in_width f) e)) (λ x q. order_gives)))).goes

pub rng_in_order : (f : Fields) (sys : ℕ) → bare (rng_query_of f sys) ≡ first_of (query_tests f)
unfolding rng_query_of
rng_in_order f sys =
    (order_past 28 (not (in_width f)) (λ e. either f.cfgr2.rngsrc (either f.cfgr2.i2spllsrc order_gives order_gives) order_gives)).goes
