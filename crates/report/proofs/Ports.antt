-- The lines of ports, one after another. Assumes nothing.
use mathlib.Core.Path.{◌≡◌, refl, sym, ap, ◌∙◌}
use mathlib.Core.List.{List, [], ◌∷◌, ◌++◌, append-nil, append_assoc}
use Prim.Native.Nat.{ℕ, ◌+◌, ◌*◌, ◌<◌, ◌≤◌}
use native.Mathlib.Omega.{arith}
use lib.ListN.{length, get_or, length-append}
use Rattle.std.specs.Prelude.{Option}
use Rattle.layout.specs.Layout.{num}
use Rattle.serial.specs.Serial.{port_of}
use Rattle.tree.specs.declared.Clocks.{Clocks}
use Rattle.text.specs.Pieces.{Joined, no_piece, join}
use Rattle.report.specs.Report.{port_line, port_lines}

-- The lines of the ports up to `rest` are put: these and the lines of the rest are all of them, in at most 33 bytes for each five.
pub record Lining (k : Clocks) (ports : List ℕ) (place : Option ℕ) (out₀ out : List ℕ) (next : Option ℕ) (rest : List ℕ) : Type 0 where
  pub done : List ℕ
  pub put : Joined place done out₀ out next
  pub all : port_lines k ports ≡ done ++ port_lines k rest
  pub short : 5 * length done + 33 * length rest ≤ 33 * length ports

pub begun : (k : Clocks) (ports : List ℕ) (place : Option ℕ) (out : List ℕ) → Lining k ports place out out place ports
begun k ports place out = record { done = []; put = no_piece; all = refl; short = omega arith }

-- the line of the port that five bytes are
abbrev pub line : Clocks → List ℕ → List ℕ
line k port = port_line (port_of k (get_or port 0 0) (num (get_or port 1 0 ∷ get_or port 2 0 ∷ get_or port 3 0 ∷ get_or port 4 0 ∷ [])))

first_line : (k : Clocks) (port rest : List ℕ) → length port ≡ 5 → port_lines k (port ++ rest) ≡ line k port ++ port_lines k rest
unfolding port_lines
first_line k [] rest h = absurd (omega arith)
first_line k (a ∷ []) rest h = absurd (omega arith)
first_line k (a ∷ b ∷ []) rest h = absurd (omega arith)
first_line k (a ∷ b ∷ c ∷ []) rest h = absurd (omega arith)
first_line k (a ∷ b ∷ c ∷ d ∷ []) rest h = absurd (omega arith)
first_line k (a ∷ b ∷ c ∷ d ∷ e ∷ []) rest h = refl
first_line k (a ∷ b ∷ c ∷ d ∷ e ∷ f ∷ l) rest h = absurd (omega arith)

-- one line more
pub lined : {k : Clocks} {ports : List ℕ} {place next q : Option ℕ} {out₀ out l s rest : List ℕ} (port : List ℕ) → Lining k ports place out₀ out next s →
    s ≡ port ++ rest → length port ≡ 5 → Joined next (line k port) out l q → length (line k port) ≤ 33 → Lining k ports place out₀ l q rest
lined {k} {rest = rest} port s e h j g =
    let size = ap length e ∙ length-append port rest in
    record {
      done = s.done ++ line k port;
      put = join s.put j;
      all = s.all ∙ ap (λ (l : List ℕ). s.done ++ port_lines k l) e ∙ ap (λ (l : List ℕ). s.done ++ l) (first_line k port rest h)
          ∙ sym (append_assoc s.done (line k port) (port_lines k rest));
      short = rw length-append (omega (arith, s.short));
    }

-- fewer than five bytes are no port
few : (k : Clocks) (l : List ℕ) → length l < 5 → port_lines k l ≡ []
unfolding port_lines
few k [] h = refl
few k (a ∷ []) h = refl
few k (a ∷ b ∷ []) h = refl
few k (a ∷ b ∷ c ∷ []) h = refl
few k (a ∷ b ∷ c ∷ d ∷ []) h = refl
few k (a ∷ b ∷ c ∷ d ∷ e ∷ l) h = absurd (omega arith)

pub ended : {k : Clocks} {ports : List ℕ} {place next : Option ℕ} {out₀ out rest : List ℕ} → Lining k ports place out₀ out next rest → length rest < 5 →
    Joined place (port_lines k ports) out₀ out next × (5 * length (port_lines k ports) ≤ 33 * length ports)
ended {k} {ports} {rest = rest} s h =
    let whole : port_lines k ports ≡ s.done = s.all ∙ rw (few k rest h, append-nil) in
    (rw whole s.put, rw whole (omega (arith, s.short)))
