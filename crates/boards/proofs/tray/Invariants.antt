use Rattle.std.specs.Prelude.{◌+◌, ◌*◌, ◌≤◌, ◌≡◌, length}
use Rattle.std.proofs.lemmas.List.Edits.{sets}
use Rattle.boards.specs.Tray.{boards_in}
use Rattle.boards.proofs.Filling.{all_of}
use Rattle.boards.proofs.tray.Given as goal

-- what is stored, and behind it the records of the profiles that are left
abbrev pub invariant-loop-i : goal.invariant-loop-i
invariant-loop-i l =
    let left = l.i-iterator.iter.rest.now in
    let at = l.i-iterator.count * 32 in
    record {
      size : l.i-iterator.iter.size ≡ 10;
      room : at + 32 * boards_in left ≤ length l.out;
      stored : sets l.out at (all_of left) ≡ sets l.initial.out 0 (all_of l.profiles);
    }
