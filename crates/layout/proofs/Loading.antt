-- The fields of a layout loaded one after another. Assumes nothing.
use Prim.Native.Nat.{ℕ, zero, suc, ◌+◌, ◌*◌, ◌≤◌, ◌<◌}
use mathlib.Core.Path.{◌≡◌, refl, sym, ap, ap₂, ◌∙◌}
use mathlib.Core.List.{List, [], ◌∷◌, ◌++◌}
use native.Mathlib.Numerals.{add-one}
use native.Mathlib.Omega.{arith}
use lib.ListN.{length, take, drop, get_or, set, length-set, take-append-drop}
use lib.Seq.{take-suc, take-suc-set, drop-set-lt, drop-drop}
use Rattle.layout.specs.Layout.{total}
use Rattle.layout.specs.Bits.{bits_at, cut, up_to, narrowed, loading}
use Rattle.layout.proofs.Laws.{total_append}

-- a layout with one width more
narrowed_snoc : (ws : List ℕ) (w : ℕ) → narrowed (ws ++ w ∷ []) ≡ narrowed ws ++ up_to 8 w ∷ []
narrowed_snoc [] w = refl
narrowed_snoc (v ∷ ws) w = ap (λ (l : List ℕ). up_to 8 v ∷ l) (narrowed_snoc ws w)

cut_snoc : (ws s : List ℕ) (a w : ℕ) → cut (ws ++ w ∷ []) s a ≡ cut ws s a ++ bits_at s (a + total ws) w ∷ []
cut_snoc [] s a w = ap (λ (p : ℕ). bits_at s p w ∷ []) (omega arith)
cut_snoc (v ∷ ws) s a w =
    ap (λ (l : List ℕ). bits_at s a v ∷ l)
    (cut_snoc ws s (a + v) w ∙ ap (λ (p : ℕ). cut ws s (a + v) ++ bits_at s p w ∷ []) (omega arith))

narrowed_next : (ws : List ℕ) (i : ℕ) → i < length ws → narrowed (take (suc i) ws) ≡ narrowed (take i ws) ++ up_to 8 (get_or ws i 0) ∷ []
narrowed_next ws i h = ap narrowed (take-suc ws i 0 h) ∙ narrowed_snoc (take i ws) (get_or ws i 0)

pub total_on : (ws : List ℕ) (i : ℕ) → i < length ws → total (narrowed (take (suc i) ws)) ≡ total (narrowed (take i ws)) + up_to 8 (get_or ws i 0)
total_on ws i h = ap total (narrowed_next ws i h) ∙ total_append (narrowed (take i ws)) (up_to 8 (get_or ws i 0) ∷ []) ∙ omega arith

-- the field k of the first n, where there is one
pub field_there : (n : ℕ) (ws s : List ℕ) (a k : ℕ) → k < n → k < length ws
    → get_or (cut (narrowed (take n ws)) s a) k 0 ≡ bits_at s (a + total (narrowed (take k ws))) (up_to 8 (get_or ws k 0))
field_there zero ws s a k h l = absurd (omega arith)
field_there (suc n) [] s a k h l = absurd (omega arith)
field_there (suc n) (w ∷ ws) s a zero h l = ap (λ (p : ℕ). bits_at s p (up_to 8 w)) (omega arith)
field_there (suc n) (w ∷ ws) s a (suc k) h l =
    field_there n ws s (a + up_to 8 w) k (omega arith) (omega arith) ∙ ap (λ (p : ℕ). bits_at s p (up_to 8 (get_or ws k 0))) (omega arith)

pub field_past : (n : ℕ) (ws s : List ℕ) (a k : ℕ) → (k < n → length ws ≤ k) → get_or (cut (narrowed (take n ws)) s a) k 0 ≡ 0
field_past zero ws s a k h = refl
field_past (suc n) [] s a k h = refl
field_past (suc n) (w ∷ ws) s a zero h = let l : suc (length ws) ≤ 0 = h (omega arith) in absurd (omega arith)
field_past (suc n) (w ∷ ws) s a (suc k) h =
    field_past n ws s (a + up_to 8 w) k (λ l. let m : suc (length ws) ≤ suc k = h (omega arith) in omega arith)

-- i of n fields are loaded, and the next begins at `at`; `was` is the lent memory where it began
pub record Loading (ws s was out : List ℕ) (n at i : ℕ) : Type 0 where
  pub within : i ≤ n
  pub long : length out ≡ length was
  pub front : take i out ≡ cut (narrowed (take i ws)) s 0
  pub beyond : drop i out ≡ drop i was
  pub place : at ≡ total (narrowed (take i ws))
  pub near : at ≤ 8 * i

module _ (ws s was out : List ℕ) (n at i x : ℕ) (c : Loading ws s was out n at i) (h : i < n) (k : i < length ws) (o : i < length out)
    (e : x ≡ bits_at s at (up_to 8 (get_or ws i 0))) (u : up_to 8 (get_or ws i 0) ≤ 8) where
  begins : at ≡ 0 + total (narrowed (take i ws))
  begins = omega (arith, c.place)

  pub next_loaded : Loading ws s was (set out i x) n (at + up_to 8 (get_or ws i 0)) (i + 1)
  next_loaded = rw add-one (record {
    within = omega arith;
    long = length-set out i x ∙ c.long;
    front =
        take-suc-set out i x o ∙ ap₂ (λ (l : List ℕ) (y : ℕ). l ++ y ∷ []) c.front (e ∙ ap (λ (p : ℕ). bits_at s p (up_to 8 (get_or ws i 0))) begins)
        ∙ sym (cut_snoc (narrowed (take i ws)) s 0 (up_to 8 (get_or ws i 0))) ∙ ap (λ (l : List ℕ). cut l s 0) (sym (narrowed_next ws i k));
    beyond =
        drop-set-lt (suc i) out i x (omega arith) ∙ ap (λ (j : ℕ). drop j out) (sym (add-one i)) ∙ sym (drop-drop 1 i out)
        ∙ ap (drop 1) c.beyond ∙ drop-drop 1 i was ∙ ap (λ (j : ℕ). drop j was) (add-one i);
    place =
        ap (λ (p : ℕ). p + up_to 8 (get_or ws i 0)) c.place ∙ sym (total_on ws i k);
    near = omega (arith, c.near, u);
  })

pub all_loaded : (ws s was out : List ℕ) (n at i : ℕ) → Loading ws s was out n at i → n ≤ i → out ≡ loading n ws s was
all_loaded ws s was out n at i c h =
    let e : i ≡ n = omega (arith, c.within) in
    sym (take-append-drop i out) ∙ ap₂ (λ (a b : List ℕ). a ++ b) c.front c.beyond ∙ ap (λ (j : ℕ). loading j ws s was) e
