-- `ushanderi::layouts::load` meets its promise: SIZE and FILE, and else what `load_all` gives. Assumes nothing.
use mathlib.Core.Path.{refl}
use Rattle.geometry.specs.Cases.{yes, no}
use Rattle.ushanderi.specs.Promises.{LoadSays}
use Rattle.ushanderi.proofs.layouts.load.Goals as goal

pub returns-then-not-size_right : goal.returns-then-not-size_right
returns-then-not-size_right c =
    LoadSays.size (no c.size_right.ensures c.if-not-size_right.true) c.from.ensures refl

pub returns-then-bytes-ne0 : goal.returns-then-bytes-ne0
returns-then-bytes-ne0 c =
    LoadSays.file (yes c.size_right.ensures c.if-not-size_right.false) c.if-bytes-ne0.true c.from-then-bytes-ne0.ensures refl

pub load_all-requires : goal.load_all-requires
load_all-requires c =
    record { size_right = yes c.size_right.ensures c.if-not-size_right.false; bytes_len = c.if-bytes-ne0.false }
