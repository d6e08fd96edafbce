-- `layout::saving::collect` meets its contract: the keys of the records passed are collected. Assumes nothing.
use Rattle.table.specs.Words.{records_of}
use Rattle.table.specs.Sound.{solid_at}
use Rattle.sorting.specs.Keys.{Collecting}
use Rattle.layout.specs.Keys.{key}
use Rattle.layout.proofs.saving.collect.Given as goal

abbrev pub invariant-loop-i : goal.invariant-loop-i
invariant-loop-i l = Collecting (solid_at l.t) (key l.t) (records_of l.t) l.initial.keys l.keys l.i l.n
