-- Two answers that load's promise allows agree, but for the records of solids and of space tiles. Assumes nothing.
use Rattle.std.specs.Prelude.{◌≡◌, List, ℤ, length}
use Rattle.std.proofs.Common.{arith}
use Rattle.table.specs.Sound.{SizeRight}
use Rattle.table.specs.Fresh.{fresh_table}
use Rattle.table.specs.FreshSound.{fresh_length}
use Rattle.table.proofs.FreshSound.{fresh_sound}
use Rattle.ushanderi.specs.Promises.{Fit}

-- a fresh plane of the right size is fit
pub fresh_fit : (t : List ℤ) → SizeRight t → Fit (fresh_table (length t))
fresh_fit t s =
    let l : length (fresh_table (length t)) ≡ length t = fresh_length (length t) (omega (arith, s.least)) in
    record {
      size = record { whole = omega (arith, s.whole); least = omega (arith, s.least); most = omega (arith, s.most) };
      sound = fresh_sound (length t) (omega (arith, s.least)) s.most;
    }
