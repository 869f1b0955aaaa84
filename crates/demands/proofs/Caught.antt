-- What the steps before 23 write leaves HPRE clear, and so decodes to an HCLK that is SYSCLK, where a configuration that divides AHB was promised
-- another.
-- Assumes nothing.
use Rattle.std.specs.Prelude.{Option}
use Prim.Native.Nat.{ℕ, ◌/◌, ◌<◌}
use mathlib.Core.Path.{◌≡◌, sym, ap, ◌∙◌}
use mathlib.Core.List.{List}
use native.Mathlib.Omega.{arith}
use lib.Dec.{eqb, eqb→eq}
use lib.ListN.{take, replicate}
use Rattle.answer.specs.Answer.{Answer, gives, refuses, ◌>>◌, same_given, refuses_gives}
use Rattle.answer.specs.Order.{Test, first_of, OrElse}
use Rattle.divider.specs.Frequency.{over}
use Rattle.divider.specs.Divide.{ahb_divisor, ahb_divisors}
use Rattle.divider.specs.Table.{at}
use Rattle.tree.specs.declared.Clocks.{Clocks}
use Rattle.image.specs.declared.Fields.{Fields}
use Rattle.decoder.specs.Decode.{decode_of}
use Rattle.decoder.specs.Order.{sysclk_hz}
use Rattle.decoder.proofs.Order.{decode_else}
use Rattle.startup.specs.Writes.{with_seen}
use Rattle.demands.specs.Runs.{written}
use Rattle.demands.specs.Third.{hpre_step, Caught}
use Rattle.demands.proofs.Reached.{busiest, promised, accepted, clear, clear_width, P}

-- what an answer that goes by a list gives
given : {A : Type 0} {l : List Test} {v x : A} {m : Answer A} → OrElse l v m → m ≡ gives x → v ≡ x
given {l = l} {v = v} {x = x} h e = at (first_of l) (sym h.is ∙ e)
  where
    at : (p : Answer (Unit {0})) → ◌>>◌ p (gives v) ≡ gives x → v ≡ x
    at (gives u) q = same_given q
    at (refuses n) q = refuses_gives q

decoded : (f : Fields) (h : Option ℕ) {k : Clocks} → f.cfgr0.hpre ≡ 0 → decode_of f h ≡ gives k → k.hclk ≡ k.sysclk
unfolding over ahb_divisor ahb_divisors
decoded f h e q =
    let is = rw e at (given (decode_else f h) q) in
    let same : sysclk_hz f h / 1 ≡ sysclk_hz f h = omega arith in
    sym (ap (λ (k : Clocks). k.hclk) is) ∙ same ∙ ap (λ (k : Clocks). k.sysclk) is

hpre_clear : (n : ℕ) → n < hpre_step → (written (take n P) clear).cfgr0.hpre ≡ 0
hpre_clear n h =
    eqb→eq (written (take n P) clear).cfgr0.hpre 0 (at (λ k x. eqb (written (take k P) clear).cfgr0.hpre 0) (replicate hpre_step 0) tt n h)

pub caught : Caught
caught = (
  busiest,
  promised,
  accepted,
  clear,
  clear_width,
  λ n h seen q.
      let same : ◌≡◌ {A = ℕ} 100000000 200000000 = decoded (with_seen (written (take n P) clear) seen) _ (hpre_clear n h) q in
      omega (arith, same),
)
