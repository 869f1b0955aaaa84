-- The startup of document 01, "Startup steps", as data: its 28 steps, what each does, and which of them a configuration has.
-- Assumes nothing.
use Rattle.std.specs.Prelude.{ℕ, zero, suc, Bool, true, false, not, ◌&&◌, Option, None, Some, List, [], ◌∷◌, eqb, drop}
use Rattle.answer.specs.Answer.{Answer, gives, refuses}
use Rattle.tree.specs.declared.Clocks.{Clocks}
use Rattle.tree.specs.Tree.{hse_frequency_of}
use Rattle.v4x7.specs.declared.Config.{Config}
use Rattle.image.specs.declared.Seen.{Seen}
use Rattle.image.specs.declared.Fields.{Fields}
use Rattle.decoder.specs.Decode.{decode_of}
use Rattle.v4x7.specs.Check.{has_hse, has_usb_hs, has_main}
use Rattle.startup.specs.declared.steps.Work.{Work}
use Rattle.startup.specs.declared.steps.Work.TheVariants.{Wrote, Waits, Reads, Compares}
use Rattle.startup.specs.Writes.{hsi_on, switch, gate, all_off, bypass, hse_on, eth_on, usb_hs_source, usb_hs_on, main_source, main_on, mode_of, flash_mode, sys_pll, buses, from_usb_hs, adc_divisor}

-- What a step does: it writes fields, waits for a reading, reads SCKMOD back once, or compares the clocks.
pub data Op : Type 0 where
  write : (Fields → Fields) → Op
  wait : (Seen → Bool) → Op
  flash : ℕ → Op
  compare : (Fields → Bool) → Op

-- A step of the list: is its part present? and what it does.
pub data Entry : Type 0 where
  entry : Bool → Op → Entry

-- all ready bits but HSIRDY clear
abbrev pub all_clear : Seen → Bool
all_clear s = not s.pllrdy && not s.usbhs_pllrdy && not s.eth_pllrdy && not s.hserdy

-- the six clocks, one by one
abbrev pub same_clocks : Clocks → Clocks → Bool
same_clocks a b =
    eqb a.sysclk b.sysclk && eqb a.hclk b.hclk && eqb a.pclk1 b.pclk1 && eqb a.pclk2 b.pclk2
    && eqb a.pclk1_tim b.pclk1_tim && eqb a.pclk2_tim b.pclk2_tim

abbrev pub is_clocks : Answer Clocks → Clocks → Bool
is_clocks (gives k) promised = same_clocks k promised
is_clocks (refuses n) promised = false

-- the fields, decoded with the same HSE, are the clocks that the check promised
unfoldable pub agrees_of : Config → Clocks → Fields → Bool
agrees_of c promised f = is_clocks (decode_of f (hse_frequency_of c.hse)) promised

-- Document 01's list: what each of the 28 steps does.
abbrev pub ops : Config → Clocks → List Op
ops c promised =
    write hsi_on ∷  -- 1 HSION
    wait (λ s. s.hsirdy) ∷  -- 2 wait HSIRDY
    write (switch 0) ∷  -- 3 SW=0
    wait (λ s. eqb s.sws 0) ∷  -- 4 wait SWS=0
    write (gate false) ∷  -- 5 gate off
    write all_off ∷  -- 6 CSSON, three PLLs, HSEON off
    wait all_clear ∷  -- 7 wait all ready bits but HSIRDY clear
    write (bypass c.hse) ∷  -- HSE: 8 HSEBYP
    write hse_on ∷  -- 9 HSEON
    wait (λ s. s.hserdy) ∷  -- 10 wait
    write eth_on ∷  -- ETH: 11 on
    wait (λ s. s.eth_pllrdy) ∷  -- 12 wait
    write (usb_hs_source c.hse c.hspll) ∷  -- USBHS: 13 source and code
    write usb_hs_on ∷  -- 14 on
    wait (λ s. s.usbhs_pllrdy) ∷  -- 15 wait
    write (main_source c.pll_src c.pll) ∷  -- Main: 16 source and multiplier
    write main_on ∷  -- 17 on
    wait (λ s. s.pllrdy) ∷  -- 18 wait
    write (λ f. f) ∷  -- 19 keys: the host writes them
    write (flash_mode (mode_of promised.hclk)) ∷  -- 20 SCKMOD; LOCK, FLOCK
    flash (mode_of promised.hclk) ∷  -- 21 one reading of SCKMOD (22)
    write (sys_pll c) ∷  -- 22 SYSPLL source, divisor, RNGSRC, I2SPLLSRC
    write (buses c) ∷  -- 23 HPRE, PPRE1, PPRE2, ADCPRE, ADCSRC, duty
    write (adc_divisor c.adc_src) ∷  -- 24 ADC_CLKDIV, if USBHS feeds the ADC
    write (gate true) ∷  -- 25 gate on, if the system clock is PLL
    write (switch c.sys) ∷  -- 26 SW
    wait (λ s. eqb s.sws c.sys) ∷  -- 27 wait SWS
    compare (agrees_of c promised) ∷  -- 28 decode and compare (23)
    []

-- Which of them a configuration has: steps of absent parts are skipped.
abbrev pub parts : Config → List Bool
parts c =
    true ∷ true ∷ true ∷ true ∷ true ∷ true ∷ true ∷  -- 1 to 7
    has_hse c.hse ∷ has_hse c.hse ∷ has_hse c.hse ∷  -- 8 to 10 HSE
    c.ethpll ∷ c.ethpll ∷  -- 11 and 12 ETH
    has_usb_hs c.hspll ∷ has_usb_hs c.hspll ∷ has_usb_hs c.hspll ∷  -- 13 to 15 USBHS
    has_main c.pll ∷ has_main c.pll ∷ has_main c.pll ∷  -- 16 to 18 Main
    true ∷ true ∷ true ∷ true ∷ true ∷  -- 19 to 23
    from_usb_hs c.adc_src ∷  -- 24, if USBHS feeds the ADC
    eqb c.sys 2 ∷  -- 25, if the system clock is PLL
    true ∷ true ∷ true ∷  -- 26 to 28
    []

-- Both in one list, and its parts again.
abbrev pub entries : List Bool → List Op → List Entry
entries [] os = []
entries (b ∷ bs) [] = []
entries (b ∷ bs) (o ∷ os) = entry b o ∷ entries bs os

abbrev pub present : List Entry → List Bool
present [] = []
present (entry b o ∷ l) = b ∷ present l

abbrev pub steps : Config → Clocks → List Entry
steps c promised = entries (parts c) (ops c promised)

-- What is left of a list from step k on, counted from 1.
abbrev pub from : {A : Type 0} → ℕ → List A → List A
from zero l = []
from (suc k) l = drop k l

-- A step is listed, and its part present.
abbrev pub on_in : List Bool → Bool
on_in [] = false
on_in (b ∷ l) = b

unfoldable pub listed_of : Config → ℕ → Bool
listed_of c k = on_in (from k (parts c))

-- The next step after k whose part is present, the list being that of the steps behind k; after the last there is none.
abbrev pub step_after : ℕ → List Bool → ℕ
step_after k [] = k
step_after k (true ∷ l) = suc k
step_after k (false ∷ l) = step_after (suc k) l

unfoldable pub next_of : Config → ℕ → ℕ
next_of c k = step_after k (drop k (parts c))

-- What comes of a step, by the fields and a reading; of a number that no step has, nothing.
abbrev pub done_of : Op → Fields → Seen → Work
done_of (write w) f s = Wrote (w f)
done_of (wait p) f s = Waits (p s)
done_of (flash m) f s = Reads m
done_of (compare t) f s = Compares (t f)

abbrev pub work_in : List Entry → Fields → Seen → Option Work
work_in [] f s = None
work_in (entry b o ∷ l) f s = Some (done_of o f s)

unfoldable pub work_of : Config → Clocks → ℕ → Fields → Seen → Option Work
work_of c promised k f s = work_in (from k (steps c promised)) f s
