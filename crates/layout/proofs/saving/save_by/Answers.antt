-- `layout::saving::save_by` meets its contract: the keys come back sorted, and name the solids in order. Assumes nothing.
use Rattle.std.proofs.Common.{subst}
use Rattle.table.specs.Words.{records_of}
use Rattle.sorting.specs.Sorting.{Sorts}
use Rattle.layout.specs.Keys.{keys_to, record_at}
use Rattle.layout.proofs.Saves.{saves}
use Rattle.layout.proofs.saving.save_by.Goals as goal
use Rattle.layout.proofs.saving.save_by.Goals.{After-sort}

are_sorted : (c : After-sort) → Sorts (keys_to c.args.t.now (records_of c.args.t.now)) c.sort.new.s
are_sorted c = subst (λ l. Sorts l c.sort.new.s) c.collect-n.ensures.are c.sort.ensures

pub write_all-requires-clause-by_index : goal.write_all-requires-clause-by_index
write_all-requires-clause-by_index c = λ k h. (record_at _ c.requires.forms c.requires.size_right _ (are_sorted (goal.at.write_all-requires-clause-by_index c).After-sort) k h).below

pub returns : goal.returns
returns c = saves _ c.requires.forms c.requires.size_right _ (are_sorted (goal.at.returns c).After-sort) _ _ _ c.write_all.ensures.value c.write_all.ensures.out_after
