-- A call's number and place, by the way that it took: the place stays, or three of its parts are laid over. Assumes nothing.
use Prim.Native.Nat.{ℕ, ◌≤◌, ◌<◌}
use mathlib.Core.Path.{◌≡◌, sym, ap, ◌∙◌}
use mathlib.Core.Bool.{Bool, true, false, ◌||◌}
use mathlib.Core.List.{List, ◌++◌, append_assoc}
use native.Mathlib.Omega.{arith}
use borrow.Author.Tests.{lt-ltb, le-ltb}
use borrow.Rule.Slice.PartMut.{mid_of, put_mid, mid_len, put_same}
use lib.ListN.{length, take, drop, take-append-drop}
use Rattle.answer.specs.Answer.{Answer, gives, refuses}
use Rattle.std.specs.Prelude.{Result, Ok, Err}
use Rattle.answer.specs.Said.{number_of as refusal_of}
use Rattle.answer.specs.declared.Refusal.{Refusal}
use Rattle.layout.specs.Lent.{Wrote}
use Rattle.image.specs.Image.{image_bytes}
use Rattle.image.proofs.RoundTrip as image
use Rattle.startup.specs.declared.Reading.{Reading}
use Rattle.startup.specs.declared.Startup.{Startup}
use Rattle.startup.specs.declared.Stepped.{Stepped}
use Rattle.startup.specs.Call.{number_of, step_of}
use Rattle.ticks.specs.Ticks.{is_over}
use Rattle.place.specs.Place.{leaves_as_it_was}
use Rattle.capi_startup.specs.Kept.{ticks_part, counts_bytes, noted_bytes}
use Rattle.capi_startup.specs.Calls.{reading_of, call_bytes, Leaves}
use Rattle.capi_startup.proofs.Laying.{fourteen, noted_length}
use Rattle.capi_startup.proofs.Placing.{Front, untouched, still, laid, written_whole, not_written}

module _ (n : ℕ) (m : Answer (ℕ × List ℕ)) (l : List ℕ) where
  -- 32: nothing was touched
  pub short : length l < n → Leaves n m l l 32
  short h = record { number = rw (lt-ltb (length l) n h); lent = rw (lt-ltb (length l) n h) }

  module _ (h : n ≤ length l) where
    -- refused: nothing was touched
    pub refused : (k : ℕ) → m ≡ refuses k → Leaves n m l l k
    refused k e = record { number = rw (le-ltb (length l) n h, e); lent = rw (le-ltb (length l) n h, e) }

    -- these bytes in front, and those behind as they were
    pub left_as : (r : ℕ) (b l' : List ℕ) → m ≡ gives (r, b) → l' ≡ b ++ drop n l → Leaves n m l l' r
    left_as r b l' e q = record { number = rw (le-ltb (length l) n h, e); lent = q ∙ rw (le-ltb (length l) n h, e) }

-- the startup s does a call's work: x
module _ (l : List ℕ) (s : Startup) (w tick : ℕ) (h : 72 ≤ length l) (q : Reading) (e : q ≡ reading_of w) (x : Stepped) (g : x ≡ step_of s q)
    (over leaves : Bool) (a : over ≡ is_over s.over) (b : leaves ≡ leaves_as_it_was x.report) where
  same : step_of s (reading_of w) ≡ x
  same = ap (step_of s) (sym e) ∙ sym g

  pub stays : over || leaves ≡ true → (n : ℕ) → n ≡ number_of x.report → Leaves 72 (call_bytes l s w tick) l l n
  unfolding call_bytes
  stays t n o = left_as 72 (call_bytes l s w tick) l h n (take 72 l) l (rw (same, sym a, sym b, t, o)) (sym (take-append-drop 72 l))

  -- else the image is written to its part, and becomes i
  module _ (t : over || leaves ≡ false) (i : List ℕ) (o : Result (Unit {0}) Refusal) (v : Wrote 8 (image_bytes x.startup.fields) (mid_of 10 8 l) i o) where
    eight : length (mid_of 10 8 l) ≡ 8
    eight = let d : 18 ≤ length l = omega arith in mid_len 10 18 l d

    pub unwritten : (k : Refusal) → o ≡ Err k → Leaves 72 (call_bytes l s w tick) l (put_mid 10 8 l i) (refusal_of k)
    unfolding call_bytes
    unwritten k p =
        let z = not_written 8 (image_bytes x.startup.fields) (mid_of 10 8 l) i o eight v k p in
        let y : put_mid 10 8 l i ≡ l = ap (put_mid 10 8 l) z.1 ∙ put_same 10 8 l in
        rw y (refused 72 (call_bytes l s w tick) l h (refusal_of k) (rw (same, sym a, sym b, t, z.0)))

    -- the counts m and the ticks r behind it
    module _ (p : o ≡ Ok tt) (m r : List ℕ) (c : m ≡ counts_bytes x.startup x.report)
        (d : r ≡ noted_bytes (mid_of 32 40 (put_mid 18 14 (put_mid 10 8 l i) m)) s.unmet tick x.report) where
      imaged : image_bytes x.startup.fields ≡ gives i
      imaged = written_whole 8 (image_bytes x.startup.fields) (mid_of 10 8 l) i o eight v p

      counted : Front 32 l (put_mid 18 14 (put_mid 10 8 l i) m) (take 10 l ++ i ++ m)
      counted =
          let room : 10 ≤ length l = omega arith in
          let first = laid (untouched 10 l room) 8 i ((image.inverse).size x.startup.fields i imaged) in
          laid first 14 m (ap length c ∙ fourteen x.startup x.report)

      noted : r ≡ noted_bytes (ticks_part l) s.unmet tick x.report
      noted = d ∙ ap (λ (y : List ℕ). noted_bytes y s.unmet tick x.report) (still counted 40)

      pub called : (n : ℕ) → n ≡ number_of x.report →
          Leaves 72 (call_bytes l s w tick) l (put_mid 32 40 (put_mid 18 14 (put_mid 10 8 l i) m) r) n
      unfolding call_bytes
      called n f =
          let forty : length r ≡ 40 = ap length noted ∙ noted_length (ticks_part l) s.unmet tick x.report (mid_len 32 72 l h) in
          left_as 72 (call_bytes l s w tick) l h n (take 10 l ++ (i ++ (m ++ r))) _ (rw (same, sym a, sym b, t, imaged, f, sym c, sym noted))
          ((laid counted 40 r forty).bytes
          ∙ ap (λ (y : List ℕ). y ++ drop 72 l) (append_assoc (take 10 l ++ i) m r ∙ append_assoc (take 10 l) i (m ++ r)))
