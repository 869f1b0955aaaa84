-- The calls on bytes: the reader of profile or image, then the call itself.
-- Assumes nothing.
use Rattle.std.specs.Prelude.{ℕ, Option, None, Some, List}
use Rattle.answer.specs.Answer.{Answer, gives, ◌>>=◌}
use Rattle.tree.specs.declared.Clocks.{Clocks}
use Rattle.v4x7.specs.declared.ClockRecord.{ClockRecord}
use Rattle.image.specs.Image.{read_image}
use Rattle.decoder.specs.Decode.{decode_of}
use Rattle.decoder.specs.Queries.{adc_query_of, rng_query_of}
use Rattle.capi_give.specs.Given.{decoder_hse}

-- what a check gives, seven words: the six clocks and the ADC's frequency
abbrev pub seven_of : Answer ClockRecord → Answer (Clocks × ℕ)
seven_of m = do
  x ← m
  gives (x.clocks, x.adc)

-- an image decoded: 31, then the decoder's refusals
unfoldable pub decode_read : List ℕ → ℕ → Answer Clocks
decode_read i hz = do
  f ← read_image i
  decode_of f (decoder_hse hz)

-- the ADC query of an image: 31, then the query's refusals
unfoldable pub adc_read : List ℕ → ℕ → Answer (Option ℕ)
adc_read i sys = do
  f ← read_image i
  adc_query_of f sys

-- the RNG query likewise
unfoldable pub rng_read : List ℕ → ℕ → Answer (Option ℕ)
rng_read i sys = do
  f ← read_image i
  rng_query_of f sys

-- what a query gives, two words: 1 and the frequency; or zeros, "not ready"
abbrev words_of : Option ℕ → ℕ × ℕ
words_of (Some hz) = (1, hz)
words_of None = (0, 0)

abbrev pub pair_of : Answer (Option ℕ) → Answer (ℕ × ℕ)
pair_of m = do
  q ← m
  gives (words_of q)
