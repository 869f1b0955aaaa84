-- A writer's answer and bytes, by the way that it took. Assumes nothing.
use Prim.Native.Nat.{ℕ, ◌≤◌, ◌<◌, ◌%◌}
use mathlib.Core.Path.{◌≡◌, sym, ap, ◌∙◌}
use mathlib.Core.Bool.{Bool, true, false}
use mathlib.Core.List.{List, ◌++◌}
use Rattle.std.specs.Prelude.{Result, Ok, Err}
use borrow.Author.Tests.{lt-ltb, le-ltb, ltb-false, le-leb}
use lib.Dec.{ltb}
use lib.ListN.{length, drop}
use Rattle.answer.specs.Answer.{Answer, gives, refuses, ◌>>=◌, bound, followed, passed}
use Rattle.answer.specs.Said.{number_of, says}
use Rattle.answer.specs.declared.Refusal.{Refusal}
use Rattle.answer.specs.declared.Refusal.TheVariants.{OutputTooShort}
use Rattle.layout.specs.Layout.{total, size_of, fields_fit, storable, packed}
use Rattle.layout.specs.Lent.{written, after, Wrote}
use Rattle.layout.specs.Stored.{Stored}
use Rattle.layout.proofs.Laws.{and_true}

module _ (n : ℕ) (m : Answer (List ℕ)) (l : List ℕ) where
  -- 32: nothing was touched
  pub short : length l < n → Wrote n m l l (Err OutputTooShort)
  short h = record { answer = rw (lt-ltb (length l) n h); bytes = rw (lt-ltb (length l) n h) }

  -- refused by the record: nothing was touched
  pub refused : (k : Refusal) → n ≤ length l → m ≡ refuses (number_of k) → Wrote n m l l (Err k)
  refused k h e = record { answer = rw (le-ltb (length l) n h, e); bytes = rw (le-ltb (length l) n h, e) }

  -- the record's bytes, and those beyond it as they were
  pub written_to : (b : List ℕ) → n ≤ length l → m ≡ gives b → Wrote n m l (b ++ drop n l) (Ok tt)
  written_to b h e = record { answer = rw (le-ltb (length l) n h, e); bytes = rw (le-ltb (length l) n h, e) }

-- A write that was done: there was room, and the record's bytes stand before those beyond it.
pub record Held (n : ℕ) (m : Answer (List ℕ)) (l l' : List ℕ) : Type 0 where
  pub room : n ≤ length l
  pub bytes : List ℕ
  pub gave : m ≡ gives bytes
  pub lent : l' ≡ bytes ++ drop n l

pub held : {n : ℕ} {m : Answer (List ℕ)} {l l' : List ℕ} {r : Result (Unit {0}) Refusal} → Wrote n m l l' r → r ≡ Ok tt → Held n m l l'
held {n} {m} {l} w q =
    let done = followed (written n m l) (gives tt) (sym w.answer ∙ ap says q) in
    let fits = passed 32 (ltb (length l) n) (◌>>=◌ m (λ b. gives (b ++ drop n l))) done.gave in
    let its = bound m (λ b. gives (b ++ drop n l)) fits.after in
    let e : done.value ≡ its.value ++ drop n l = (let g : gives (its.value ++ drop n l) ≡ gives done.value = its.after in cc) in
    record { room = ltb-false (length l) n fits.failed; bytes = its.value; gave = its.gave; lent = w.bytes ∙ ap (after l) done.gave ∙ e }

-- fields stored where there is room for the whole bytes that they are
module _ (ws xs l l' : List ℕ) (r : Bool) (whole : total ws % 8 ≡ 0) (room : size_of ws ≤ length l) (s : Stored ws xs l l' r) where
  pub stored : r ≡ fields_fit ws xs
  stored = s.answer ∙ rw (whole, le-leb (size_of ws) (length l) room) (and_true (fields_fit ws xs))

  module _ (m : Answer (List ℕ)) where
    pub placed : r ≡ true → m ≡ gives (packed (size_of ws) ws xs) → Wrote (size_of ws) m l l' (Ok tt)
    placed t e =
        let a : storable ws xs (length l) ≡ true = sym s.answer ∙ t in
        let b : l' ≡ packed (size_of ws) ws xs ++ drop (size_of ws) l = rw a at s.bytes in
        rw b (written_to (size_of ws) m l (packed (size_of ws) ws xs) room e)

    pub unplaced : (k : Refusal) → r ≡ false → m ≡ refuses (number_of k) → Wrote (size_of ws) m l l' (Err k)
    unplaced k t e =
        let a : storable ws xs (length l) ≡ false = sym s.answer ∙ t in
        let b : l' ≡ l = rw a at s.bytes in
        rw b (refused (size_of ws) m l k room e)
