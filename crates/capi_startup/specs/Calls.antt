-- What the calls of a startup give.
-- Assumes nothing.
use Rattle.std.specs.Prelude.{ℕ, ◌/◌, ◌%◌, ◌≡◌, cond, ◌||◌, List, ◌++◌, eqb, ltb, length, take, drop}
use Rattle.std.proofs.Common.{sym, ◌∙◌}
use Rattle.answer.specs.Answer.{Answer, gives, refuses, refuse, ◌>>=◌, ◌>>◌}
use Rattle.profile.specs.Profile.{read_profile}
use Rattle.image.specs.Image.{read_image, image_bytes}
use Rattle.startup.specs.declared.Reading.{Reading}
use Rattle.startup.specs.declared.Report.TheVariants.{Worked}
use Rattle.startup.specs.declared.Startup.{Startup}
use Rattle.startup.specs.Call.{number_of, start_of, step_of}
use Rattle.ticks.specs.Ticks.{begun_with, is_over}
use Rattle.place.specs.Place.{leaves_as_it_was}
use Rattle.capi_startup.specs.Kept.{startup_in, ticks_part, counts_bytes, ticks_bytes, noted_bytes}

-- a reading as a number, from its lowest bit on: HSIRDY, HSERDY, PLLRDY, USBHS_PLLRDY, ETH_PLLRDY, two bits of SWS, two of SCKMOD
unfoldable pub reading_of : ℕ → Reading
reading_of w = record {
  seen = record {
    hsirdy = eqb (w / 1 % 2) 1;
    hserdy = eqb (w / 2 % 2) 1;
    pllrdy = eqb (w / 4 % 2) 1;
    usbhs_pllrdy = eqb (w / 8 % 2) 1;
    eth_pllrdy = eqb (w / 16 % 2) 1;
    sws = w / 32 % 4;
  };
  sckmod = w / 128 % 4;
}

-- starting: 29, 30, 31, then the start's refusals; no step is worked
unfoldable pub start_read : List ℕ → List ℕ → Answer Startup
start_read p i = do
  c ← read_profile p
  f ← read_image i
  start_of c f

-- the place as starting leaves it: profile and image as they were handed in, and no step worked
unfoldable pub start_bytes : List ℕ → List ℕ → Answer (List ℕ)
start_bytes p i = do
  s ← start_read p i
  gives (p ++ (i ++ (counts_bytes s (Worked 0 0) ++ ticks_bytes (begun_with s).ticks)))

-- A call of the startup s that the place l holds: the number that it returns, and the place then. Over, a startup stays; and so does a place whose call is
-- refused, but for 21 and 22: these leave the ended startup. The profile stays in any case.
unfoldable pub call_bytes : List ℕ → Startup → ℕ → ℕ → Answer (ℕ × List ℕ)
call_bytes l s w tick =
    let x = step_of s (reading_of w) in
    cond (is_over s.over || leaves_as_it_was x.report) (gives (number_of x.report, take 72 l)) (do
      i ← image_bytes x.startup.fields
      gives (number_of x.report, take 10 l ++ (i ++ (counts_bytes x.startup x.report ++ noted_bytes (ticks_part l) s.unmet tick x.report))))

-- one call: 30, 31, and what the startup answers
unfoldable pub step_bytes : List ℕ → ℕ → ℕ → Answer (ℕ × List ℕ)
step_bytes l w tick = do
  s ← startup_in l
  call_bytes l s w tick

-- The first n of the lent bytes l replaced, with a number returned; 32 first where they are fewer. A refusal leaves all of them.

abbrev pub leaves_of : ℕ → Answer (ℕ × List ℕ) → List ℕ → Answer (ℕ × List ℕ)
leaves_of n m l = do
  refuse 32 (ltb (length l) n)
  x ← m
  gives (x.0, x.1 ++ drop n l)

abbrev pub number_left : Answer (ℕ × List ℕ) → ℕ
number_left (gives x) = x.0
number_left (refuses k) = k

abbrev pub bytes_left : List ℕ → Answer (ℕ × List ℕ) → List ℕ
bytes_left l (gives x) = x.1
bytes_left l (refuses k) = l

pub record Leaves (n : ℕ) (m : Answer (ℕ × List ℕ)) (l l' : List ℕ) (r : ℕ) : Type 0 where
  pub number : r ≡ number_left (leaves_of n m l)
  pub lent : l' ≡ bytes_left l (leaves_of n m l)

-- Nothing is left open: two results that the promise allows are equal.
pub leaves_settled : {n : ℕ} {m : Answer (ℕ × List ℕ)} {l a b : List ℕ} {r s : ℕ} → Leaves n m l a r → Leaves n m l b s → (r ≡ s) × (a ≡ b)
leaves_settled w v = (w.number ∙ sym v.number, w.lent ∙ sym v.lent)
