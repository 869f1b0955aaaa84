-- The order of refusals of the calls of CH32V30x on bytes: 32; 28 for the records; then the call's own.
-- Assumes nothing.
use Rattle.std.specs.Prelude.{◌≡◌, not, ◌||◌, List, ◌∷◌, ℕ, ltb, length}
use Rattle.answer.specs.Order.{Test, first_of, bare, order_past}
use Rattle.answer.specs.Lists.{order_map}
use Rattle.layout.specs.Lent.{written}
use Rattle.capi_give.specs.Given.{six_words, seven_words, decoder_hse}
use Rattle.v30x.specs.Order.{check_tests, decode_tests, fields_tests}
use Rattle.v30x.proofs.Order.{check_in_order, decode_in_order, fields_in_order}
use Rattle.capi_pll32.specs.Bytes.{seven_of}
use Rattle.capi_pll32.specs.Order.{by_list, lent_order}
use Rattle.capi_v30x.specs.Calls.{config_of, is_config, fields_in, is_fields, bytes_of, field_bytes, check_read, decode_read, init_read}

abbrev pub check_call_tests : List ℕ → List ℕ → List Test
check_call_tests l out =
    (32, ltb (length out) 7)
    ∷ (28, not (is_config l))
    ∷ check_tests (config_of l)

pub check_call_in_order : (l out : List ℕ) → bare (written 7 (seven_words (seven_of (check_read l))) out) ≡ first_of (check_call_tests l out)
unfolding check_read
check_call_in_order l out =
    (lent_order 7 (seven_words (seven_of (check_read l))) out
    (order_map _ (seven_of (check_read l)) (order_map _ (check_read l)
    (order_past 28 (not (is_config l)) (λ e. by_list (check_tests (config_of l)) (check_in_order (config_of l))))))).goes

abbrev pub decode_call_tests : List ℕ → ℕ → List ℕ → List Test
decode_call_tests l hz out =
    (32, ltb (length out) 6)
    ∷ (28, not (is_fields l))
    ∷ decode_tests (fields_in l) (decoder_hse hz)

pub decode_call_in_order : (l : List ℕ) (hz : ℕ) (out : List ℕ) →
    bare (written 6 (six_words (decode_read l hz)) out) ≡ first_of (decode_call_tests l hz out)
unfolding decode_read
decode_call_in_order l hz out =
    (lent_order 6 (six_words (decode_read l hz)) out
    (order_map _ (decode_read l hz)
    (order_past 28 (not (is_fields l)) (λ e. by_list (decode_tests (fields_in l) (decoder_hse hz)) (decode_in_order (fields_in l) (decoder_hse hz)))))).goes

abbrev pub fields_call_tests : List ℕ → List ℕ → List ℕ → List Test
fields_call_tests l e out =
    (32, ltb (length out) 9)
    ∷ (28, not (is_config l) || not (is_fields e))
    ∷ fields_tests (config_of l) (fields_in e)

pub fields_call_in_order : (l e out : List ℕ) → bare (written 9 (field_bytes (init_read l e)) out) ≡ first_of (fields_call_tests l e out)
unfolding init_read
fields_call_in_order l e out =
    (lent_order 9 (field_bytes (init_read l e)) out
    (order_map bytes_of (init_read l e)
    (order_past 28 (not (is_config l) || not (is_fields e)) (λ q.
    by_list (fields_tests (config_of l) (fields_in e)) (fields_in_order (config_of l) (fields_in e)))))).goes
