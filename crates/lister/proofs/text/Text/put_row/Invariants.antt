-- `lister::text::Text::put_row` meets its contract: the name and the words passed are put. Assumes nothing.
use Rattle.std.proofs.Common.{◌++◌, ◌+◌, ◌*◌, ◌≤◌, take}
use Rattle.std.specs.List.{flat_map}
use Rattle.lister.specs.Text.{spaced}
use Rattle.lister.specs.TextLaws.{Adds}
use Rattle.lister.proofs.text.Text.put_row.Given as goal

abbrev pub invariant-loop-w : goal.invariant-loop-w
invariant-loop-w l = record {
  adds : Adds l.fn.self (l.name ++ flat_map spaced (take l.w-index l.words)) l.self;
  low : l.self.at ≤ l.fn.self.at + 7 + 12 * l.w-index;
}
