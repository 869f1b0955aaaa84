-- A record under way: the bits that are stored, and those that don't make a byte yet.
-- Assumes nothing.
use Rattle.std.specs.Prelude.{ℕ, ◌+◌, ◌*◌, ◌^◌, ◌≤◌, ◌<◌, ◌≡◌, List, length, take, drop}
use Rattle.layout.specs.declared.Pending.{Pending}
use Rattle.layout.specs.Layout.{num, Bytes}

-- n bits that spell v are gathered, in the first bytes of l and in the pending ones; beyond them l is as it was
pub record Gathered (was : List ℕ) (n v : ℕ) (l : List ℕ) (p : Pending) : Type 0 where
  pub bits : 8 * p.at + p.count ≡ n
  pub few : p.count < 8
  pub small : p.value < 2 ^ p.count
  pub spells : num (take p.at l) * 2 ^ p.count + p.value ≡ v
  pub low : Bytes (take p.at l)
  pub long : length l ≡ length was
  pub beyond : drop p.at l ≡ drop p.at was

-- a field that goes after the pending bits, into `room` bytes
pub record Fits (room : ℕ) (p : Pending) (w x : ℕ) : Type 0 where
  pub few : p.count < 8
  pub small : p.value < 2 ^ p.count
  pub narrow : w ≤ 8
  pub below : x < 2 ^ w
  pub place : 8 * p.at + p.count + w ≤ 8 * room

-- the field is gathered after whatever was
pub record Gathers (l : List ℕ) (p : Pending) (w x : ℕ) (l' : List ℕ) (p' : Pending) : Type 0 where
  pub same_length : length l' ≡ length l
  pub more : (was : List ℕ) (n v : ℕ) → Gathered was n v l p → Gathered was (n + w) (v * 2 ^ w + x) l' p'
