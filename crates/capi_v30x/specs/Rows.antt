-- Worked records of CH32V30x: bytes, and what is read of them. Each byte that says yes or no is once 1 and once 0.
-- Assumes nothing.
use Rattle.std.specs.Prelude.{refl, true, false, None, Some, List, [], ◌∷◌, ℕ}
use Rattle.answer.specs.Answer.{Answer, gives, refuses}
use Rattle.layout.specs.Bits.{bits_at}
use Rattle.pll32.specs.declared.Source.TheVariants as from
use Rattle.pll32.specs.Answers.{Worked}
use Rattle.v30x.specs.declared.PllSource.TheVariants as source
use Rattle.v30x.specs.declared.Config.{Config}
use Rattle.v30x.specs.declared.Fields.{Fields}
use Rattle.capi_pll32.specs.Bytes.{record_in}
use Rattle.capi_v30x.specs.Calls.{config_allowed, is_config, config_of, is_fields, fields_in}

-- 25,000,000 is 01 7D 78 40
pub configs : List (List ℕ × Answer Config)
configs = (
  1 ∷ 0 ∷ 1 ∷ 125 ∷ 120 ∷ 64 ∷ 2 ∷ 1 ∷ 1 ∷ 4 ∷ 10 ∷ 0 ∷ 8 ∷ 4 ∷ 5 ∷ 1 ∷ 1 ∷ 6 ∷ [],
  gives (record {
    hse = Some (record { bypass = false; freq = 25000000 });
    sys = 2;
    pll_src = source.Hse;
    pll = Some (record { prediv = 4; mul = 10 });
    pllx = false;
    ahb_pre = 8;
    apb1_pre = 4;
    apb2_pre = 5;
    hspll_src = from.Hse;
    hspll = Some 6;
  }),
)
    ∷ (
      1 ∷ 1 ∷ 0 ∷ 0 ∷ 0 ∷ 1 ∷ 1 ∷ 2 ∷ 0 ∷ 0 ∷ 0 ∷ 1 ∷ 0 ∷ 0 ∷ 0 ∷ 0 ∷ 0 ∷ 0 ∷ [],
      gives (record {
        hse = Some (record { bypass = true; freq = 1 });
        sys = 1;
        pll_src = source.Pll2;
        pll = None;
        pllx = true;
        ahb_pre = 0;
        apb1_pre = 0;
        apb2_pre = 0;
        hspll_src = from.Hsi;
        hspll = None;
      }),
    )
    ∷ (1 ∷ 1 ∷ 0 ∷ 0 ∷ 0 ∷ 1 ∷ 1 ∷ 2 ∷ 0 ∷ 0 ∷ 0 ∷ 2 ∷ 0 ∷ 0 ∷ 0 ∷ 0 ∷ 0 ∷ 0 ∷ [], refuses 28)
    ∷ []

pub configs_hold : Worked (λ l. record_in (is_config l) (config_of l)) configs
unfolding configs config_allowed config_of bits_at
configs_hold = refl

pub fields : List (List ℕ × Answer Fields)
fields = (
  2 ∷ 1 ∷ 3 ∷ 0 ∷ 7 ∷ 8 ∷ 4 ∷ 5 ∷ 1 ∷ [],
  gives (record { sws = 2; pllsrc = true; prediv1 = 3; prediv1src = false; pllmul = 7; hpre = 8; ppre1 = 4; ppre2 = 5; hsipre = true }),
)
    ∷ (
      1 ∷ 0 ∷ 5 ∷ 1 ∷ 3 ∷ 9 ∷ 6 ∷ 7 ∷ 0 ∷ [],
      gives (record { sws = 1; pllsrc = false; prediv1 = 5; prediv1src = true; pllmul = 3; hpre = 9; ppre1 = 6; ppre2 = 7; hsipre = false }),
    )
    ∷ (1 ∷ 0 ∷ 5 ∷ 1 ∷ 3 ∷ 9 ∷ 6 ∷ 7 ∷ 2 ∷ [], refuses 28)
    ∷ []

pub fields_hold : Worked (λ l. record_in (is_fields l) (fields_in l)) fields
unfolding fields
fields_hold = refl
