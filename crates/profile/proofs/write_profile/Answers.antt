use mathlib.Core.Path.{◌≡◌, refl, sym, ap, ◌∙◌}
use mathlib.Core.Bool.{Bool, true, false, ◌&&◌}
use mathlib.Core.List.{List}
use Prim.Native.Nat.{ℕ, ◌≤◌}
use lib.ListN.{length}
use Rattle.answer.specs.Answer.{gives, refuses}
use Rattle.std.specs.Prelude.{Ok, Err}
use Rattle.answer.specs.declared.Refusal.TheVariants.{ProfileCode}
use Rattle.layout.specs.Layout.{fitting, packed}
use Rattle.layout.specs.Lent.{Wrote}
use Rattle.layout.specs.Stored.{Stored}
use Rattle.layout.proofs.Laws.{fits_narrow}
use Rattle.layout.proofs.Writing as writing
use Rattle.v4x7.specs.declared.Config.{Config}
use Rattle.profile.specs.Profile.{widths, allowed, fields_of, writable, profile_bytes}
use Rattle.profile.proofs.write_profile.Goals as goal

module _ (c : Config) (l xs : List ℕ) (h : 10 ≤ length l) (e : xs ≡ fields_of c) where
  -- whether the configuration is writable, by the fields
  by_fields : writable c ≡ (allowed xs && fitting widths xs)
  unfolding writable
  by_fields = ap (λ (q : List ℕ). allowed q && fitting widths q) (sym e)

  not_writable : writable c ≡ false → profile_bytes c ≡ refuses 30
  unfolding profile_bytes
  not_writable w = rw w

  not_allowed : allowed xs ≡ false → Wrote 10 (profile_bytes c) l l (Err ProfileCode)
  not_allowed t = writing.refused 10 (profile_bytes c) l ProfileCode h (not_writable (by_fields ∙ rw t))

  module _ (t : allowed xs ≡ true) (l' : List ℕ) (r : Bool) (s : Stored widths xs l l' r) where
    -- what was stored fits
    stored : r ≡ writable c
    stored = writing.stored widths xs l l' r refl h s ∙ fits_narrow widths xs refl ∙ sym (by_fields ∙ rw t)

    accepted : r ≡ true → Wrote 10 (profile_bytes c) l l' (Ok tt)
    unfolding profile_bytes
    accepted y =
        let w : writable c ≡ true = sym stored ∙ y in
        writing.placed widths xs l l' r refl h s (profile_bytes c) y (rw w (ap (λ (q : List ℕ). gives (packed 10 widths q)) (sym e)))

    too_wide : r ≡ false → Wrote 10 (profile_bytes c) l l' (Err ProfileCode)
    too_wide y = writing.unplaced widths xs l l' r refl h s (profile_bytes c) ProfileCode y (not_writable (sym stored ∙ y))

pub returns-then-out-lt-SIZE : goal.returns-then-out-lt-SIZE
returns-then-out-lt-SIZE c = let a = c.args in writing.short 10 (profile_bytes a.config) a.out.now c.if-out-lt-SIZE.true

pub returns-then-not-is_allowed : goal.returns-then-not-is_allowed
returns-then-not-is_allowed c =
    let a = c.args in
    not_allowed a.config a.out.now _ c.if-out-lt-SIZE.false c.fields_of-xs.ensures
    (sym c.is_allowed.ensures ∙ c.if-not-is_allowed.true)

pub returns-then-store : goal.returns-then-store
returns-then-store c =
    let a = c.args in
    accepted a.config a.out.now _ c.if-out-lt-SIZE.false c.fields_of-xs.ensures
    (sym c.is_allowed.ensures ∙ c.if-not-is_allowed.false) _ _ c.store.ensures c.if-store.true

pub returns-else-store : goal.returns-else-store
returns-else-store c =
    let a = c.args in
    too_wide a.config a.out.now _ c.if-out-lt-SIZE.false c.fields_of-xs.ensures
    (sym c.is_allowed.ensures ∙ c.if-not-is_allowed.false) _ _ c.store.ensures c.if-store.false
