use mathlib.Core.Path.{◌≡◌, sym, ◌∙◌}
use mathlib.Core.List.{List}
use Prim.Native.Nat.{ℕ, ◌-◌}
use native.Mathlib.Omega.{arith}
use borrow.Author.Tests.{not-true}
use lib.ListN.{length, take, drop, length-drop}
use lib.Seq.{take_all}
use Rattle.text.specs.Pieces.{one_piece}
use Rattle.report.specs.Report.{sized}
use Rattle.report.specs.Laws.{other_length}
use Rattle.report.proofs.Showing.{its_profile, few_ports}
use Rattle.report.proofs.put_text.Goals as goal

-- the ports are all that follows the profile
rest : (s : List ℕ) → take (length s - 10) (drop 10 s) ≡ drop 10 s
rest s = take_all (length s - 10) (drop 10 s) (rw length-drop (omega arith))

pub returns-then-not_sized-clause-joined : goal.returns-then-not_sized-clause-joined
returns-then-not_sized-clause-joined c =
    let s = c.args.input.now in
    rw (other_length s (not-true (sized (length s)) (sym c.not_sized.ensures ∙ c.if-not_sized.true)))
    (rw (c.from.ensures ∙ c.number.ensures) at (one_piece c.put_line.ensures))

pub returns : goal.returns
returns c =
    let s = c.args.input.now in
    let t = sym c.not_sized.ensures ∙ c.if-not_sized.false in
    let put = rw (c.check_profile-checked.ensures, rest s) at c.put_answer.ensures in
    rw (its_profile s t) (record { joined = put.joined; input_len_bound = omega (arith, put.ports_bound, few_ports s t, length-drop 10 s) })
