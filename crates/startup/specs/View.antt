-- One view of a call of a startup that is not over: each event that it can come to, and what is then known. A property of calls is one function over it.
-- The theorems stand in proofs/View.antt. Assumes nothing.
use Rattle.std.specs.Prelude.{ℕ, ◌+◌, ◌≤◌, ◌<◌, ◌≡◌, Bool, true, false, not, ◌||◌, Option, None, Some}
use Rattle.std.proofs.Math.Dec.{ltb}
use Rattle.image.specs.declared.Fields.{Fields}
use Rattle.startup.specs.declared.steps.Work.{Work}
use Rattle.startup.specs.declared.steps.Work.TheVariants.{Wrote, Waits, Reads, Compares}
use Rattle.startup.specs.declared.Startup.{Startup}
use Rattle.startup.specs.Call.{Event, back, wrote, met, waiting, missed, misread, compared}

pub data View (limit : ℕ) (s : Startup) (listed : Bool) : Option Work → Event → Type 0 where
  -- handed back: its step is not listed or is skipped, or its used readings pass 8,000,001; or the list is at its end; or its wait is spent
  off : {w : Option Work} → (not listed || ltb 8000001 s.used) ≡ true → View limit s listed w back
  none : View limit s listed None back
  spent : {ok : Bool} → limit ≤ s.unmet → View limit s listed (Some (Waits ok)) back
  writes : {f : Fields} → s.used ≤ 8000001 → View limit s listed (Some (Wrote f)) (wrote f)
  meets : {ok : Bool} → s.used ≤ 8000001 → s.unmet < limit → ok ≡ true → View limit s listed (Some (Waits ok)) met
  waits : {ok : Bool} → s.used ≤ 8000001 → s.unmet + 1 < limit → ok ≡ false → View limit s listed (Some (Waits ok)) waiting
  misses : {ok : Bool} → s.used ≤ 8000001 → s.unmet + 1 ≡ limit → ok ≡ false → View limit s listed (Some (Waits ok)) missed
  shows : {mode : ℕ} → s.used ≤ 8000001 → View limit s listed (Some (Reads mode)) met
  differs : {mode : ℕ} → s.used ≤ 8000001 → View limit s listed (Some (Reads mode)) misread
  ends : {same : Bool} → s.used ≤ 8000001 → View limit s listed (Some (Compares same)) (compared same)
