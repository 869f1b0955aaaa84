use mathlib.Core.Path.{◌≡◌, sym, ◌∙◌}
use mathlib.Core.List.{[]}
use native.Mathlib.Omega.{arith}
use lib.ListN.{length, drop}
use lib.Seq.{sets, drop-length}
use Rattle.layout.specs.Numbers.{in_fours}
use Rattle.layout.proofs.Filling.{numbers_put, none_put}
use Rattle.layout.proofs.put_numbers.Goals as goal

pub returns-then-no_room : goal.returns-then-no_room
returns-then-no_room c =
    let args = c.args in
    none_put args.out.now args.xs.now args.at (sym c.no_room.ensures ∙ c.if-no_room.true)

pub returns : goal.returns
returns c =
    let loop = c.loop-i in
    let args = c.args in
    let xs = args.xs.now in
    let all : loop.i ≡ length xs = omega arith in
    let none : drop loop.i xs ≡ [] = rw all (drop-length xs) in
    let done : loop.out ≡ sets args.out.now args.at (in_fours xs) = rw none at loop.invariant.2 in
    done ∙ sym (numbers_put args.out.now xs args.at loop.invariant.1)
