-- A table draws a list of solids: they are its solids, in whatever records. What an accepted create and an accepted delete make of that. Assumes nothing.
use Rattle.std.specs.Prelude.{List, ℤ}
use Rattle.geometry.specs.Picture.{Tile}
use Rattle.claims.specs.History.{History}
use Rattle.claims.proofs.HistoryKept.{history_kept}
use Rattle.claims.specs.Drawing.{Draws}
use Rattle.claims.specs.Draws.{kept_draws}

pub history_draws : (t : List ℤ) (S : List Tile) → History t S → Draws t S
history_draws t S h = kept_draws t S (history_kept h)
