-- The lent tables that a round trip asks for include those of a table after any history. Assumes nothing.
use Rattle.std.specs.Prelude.{List, ℕ, ◌*◌, ◌≤◌, ℤ, length}
use Rattle.geometry.specs.Picture.{Tile}
use Rattle.table.specs.Words.{records_of, tile_of}
use Rattle.table.specs.Sound.{SizeRight, capacity, solids_in}
use Rattle.layout.specs.Bytes.{SAVED}
use Rattle.claims.specs.AgreePicture.{shows}
use Rattle.claims.specs.History.{History}
use Rattle.claims.specs.RoundTrip.{Between}
use Rattle.claims.proofs.HistoryKept.{history_kept}

-- and those of a table after any history, so that nothing more is asked of it
pub history_between : (t u : List ℤ) (out : List ℕ) (S : List Tile) → History t S → SAVED * solids_in t ≤ length out → SizeRight u
    → solids_in t ≤ capacity (records_of u) → Between t u out
history_between t u out S h l z r =
    let k = history_kept h in
    record {
      fit = record { size = k.size; sound = k.sound };
      labels = λ i s. k.labels (tile_of t i) ((k.solids (tile_of t i)).1 (shows t i s));
      list = l;
      size = z;
      room = r;
    }
