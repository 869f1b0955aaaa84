-- The order of refusals of the calls of CH32V1 and CH32L1 on bytes: 32; 28 for the part and the records; then the call's own.
-- Assumes nothing.
use Rattle.std.specs.Prelude.{◌≡◌, not, ◌||◌, List, ◌∷◌, ℕ, ltb, length}
use Rattle.answer.specs.Order.{Test, first_of, bare, order_past}
use Rattle.answer.specs.Lists.{order_map}
use Rattle.layout.specs.Lent.{written}
use Rattle.capi_give.specs.Given.{six_words, seven_words, decoder_hse}
use Rattle.v1.specs.Order.{check_tests, decode_tests, fields_tests}
use Rattle.v1.proofs.Order.{check_in_order, decode_in_order, fields_in_order}
use Rattle.capi_pll32.specs.Bytes.{seven_of}
use Rattle.capi_pll32.specs.Order.{by_list, lent_order}
use Rattle.capi_v1.specs.Calls.{chip_of, config_of, is_config, fields_in, is_fields, bytes_of, field_bytes, check_read, decode_read, init_read}

abbrev pub check_call_tests : ℕ → List ℕ → List ℕ → List Test
check_call_tests part l out =
    (32, ltb (length out) 7)
    ∷ (28, not (is_config l) || ltb 1 part)
    ∷ check_tests (chip_of part) (config_of l)

pub check_call_in_order : (part : ℕ) (l out : List ℕ) → bare (written 7 (seven_words (seven_of (check_read part l))) out) ≡ first_of (check_call_tests part l out)
unfolding check_read
check_call_in_order part l out =
    (lent_order 7 (seven_words (seven_of (check_read part l))) out
    (order_map _ (seven_of (check_read part l)) (order_map _ (check_read part l)
    (order_past 28 (not (is_config l) || ltb 1 part) (λ e.
    by_list (check_tests (chip_of part) (config_of l)) (check_in_order (chip_of part) (config_of l))))))).goes

abbrev pub decode_call_tests : ℕ → List ℕ → ℕ → List ℕ → List Test
decode_call_tests part l hz out =
    (32, ltb (length out) 6)
    ∷ (28, not (is_fields l) || ltb 1 part)
    ∷ decode_tests (chip_of part) (fields_in l) (decoder_hse hz)

pub decode_call_in_order : (part : ℕ) (l : List ℕ) (hz : ℕ) (out : List ℕ) →
    bare (written 6 (six_words (decode_read part l hz)) out) ≡ first_of (decode_call_tests part l hz out)
unfolding decode_read
decode_call_in_order part l hz out =
    (lent_order 6 (six_words (decode_read part l hz)) out
    (order_map _ (decode_read part l hz)
    (order_past 28 (not (is_fields l) || ltb 1 part) (λ e.
    by_list (decode_tests (chip_of part) (fields_in l) (decoder_hse hz)) (decode_in_order (chip_of part) (fields_in l) (decoder_hse hz)))))).goes

abbrev pub fields_call_tests : ℕ → List ℕ → List ℕ → List ℕ → List Test
fields_call_tests part l e out =
    (32, ltb (length out) 8)
    ∷ (28, (not (is_config l) || not (is_fields e)) || ltb 1 part)
    ∷ fields_tests (chip_of part) (config_of l) (fields_in e)

pub fields_call_in_order : (part : ℕ) (l e out : List ℕ) → bare (written 8 (field_bytes (init_read part l e)) out) ≡ first_of (fields_call_tests part l e out)
unfolding init_read
fields_call_in_order part l e out =
    (lent_order 8 (field_bytes (init_read part l e)) out
    (order_map bytes_of (init_read part l e)
    (order_past 28 ((not (is_config l) || not (is_fields e)) || ltb 1 part) (λ q.
    by_list (fields_tests (chip_of part) (config_of l) (fields_in e)) (fields_in_order (chip_of part) (config_of l) (fields_in e)))))).goes
