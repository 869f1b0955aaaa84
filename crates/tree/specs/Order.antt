-- For the lists of refusals: HSE, a PLL's output and the six clocks as plain numbers, 0 for what is not there; and the order of the tree's own
-- refusals, 28 for each code.
-- Assumes nothing.
use Rattle.std.specs.Prelude.{refl, Bool, true, false, Option, None, Some, List, [], ◌∷◌, ℕ, leb}
use Rattle.std.proofs.Common.{ap}
use Rattle.answer.specs.Order.{Test, OrElse, else_known, else_bind}
use Rattle.divider.specs.declared.Family.{Family}
use Rattle.divider.specs.declared.Frequency.{Frequency}
use Rattle.divider.specs.Divide.{ahb_divisor, apb_divisor}
use Rattle.divider.specs.Frequency.{over}
use Rattle.divider.specs.Laws.{by_ahb_else, apb_quotient_else}
use Rattle.tree.specs.declared.Clocks.{Clocks}
use Rattle.tree.specs.Tree.{timer_clock, bus_of, below_of, clocks_of}

abbrev pub no_hse : Option ℕ → Bool
no_hse None = true
no_hse (Some hz) = false

abbrev pub hse_hz : Option ℕ → ℕ
hse_hz None = 0
hse_hz (Some hz) = hz

abbrev pub no_output : Option Frequency → Bool
no_output None = true
no_output (Some x) = false

abbrev pub output_hz : Option Frequency → ℕ
output_hz None = 0
output_hz (Some x) = x.hz

-- a bus: PCLK, and its timers' clock
abbrev pub bus_at : Family → Frequency → ℕ → Frequency × ℕ
bus_at f hclk c = (over hclk (apb_divisor c), timer_clock f (apb_divisor c) (over hclk (apb_divisor c)).hz)

abbrev pub below_at : Family → Frequency → Frequency → ℕ → ℕ → Clocks
below_at f sys hclk apb1 apb2 = record {
  sysclk = sys.hz;
  hclk = hclk.hz;
  pclk1 = (bus_at f hclk apb1).0.hz;
  pclk2 = (bus_at f hclk apb2).0.hz;
  pclk1_tim = (bus_at f hclk apb1).1;
  pclk2_tim = (bus_at f hclk apb2).1;
}

abbrev pub clocks_tests : ℕ → ℕ → ℕ → List Test
clocks_tests ahb apb1 apb2 = (28, leb 16 ahb) ∷ (28, leb 8 apb1) ∷ (28, leb 8 apb2) ∷ []

abbrev pub clocks_at : Family → Frequency → ℕ → ℕ → ℕ → Clocks
clocks_at f sys ahb apb1 apb2 = below_at f sys (over sys (ahb_divisor f ahb)) apb1 apb2

bus_else : (f : Family) (hclk : Frequency) (c : ℕ) → OrElse ((28, leb 8 c) ∷ []) (bus_at f hclk c) (bus_of f hclk c)
unfolding bus_of
bus_else f hclk c = else_bind (apb_quotient_else hclk c) (λ q e. else_known (ap (λ (x : ℕ × Frequency). (x.1, timer_clock f x.0 x.1.hz)) e))

pub below_else : (f : Family) (sys hclk : Frequency) (apb1 apb2 : ℕ) →
    OrElse ((28, leb 8 apb1) ∷ (28, leb 8 apb2) ∷ []) (below_at f sys hclk apb1 apb2) (below_of f sys hclk apb1 apb2)
unfolding below_of
below_else f sys hclk apb1 apb2 =
    else_bind (bus_else f hclk apb1) (λ one e. rw e (else_bind (bus_else f hclk apb2) (λ two e. rw e (else_known refl))))

pub clocks_else : (f : Family) (sys : Frequency) (ahb apb1 apb2 : ℕ) →
    OrElse (clocks_tests ahb apb1 apb2) (clocks_at f sys ahb apb1 apb2) (clocks_of f sys ahb apb1 apb2)
unfolding clocks_of
clocks_else f sys ahb apb1 apb2 = else_bind (by_ahb_else f sys ahb) (λ hclk e. rw e (below_else f sys (over sys (ahb_divisor f ahb)) apb1 apb2))
