-- The report on the four windows of specs/Examples.antt, worked out. Assumes nothing.
use Rattle.std.specs.Prelude.{◌≡◌, refl, List, [], ◌∷◌, ℕ, zero, suc, ◌≤◌, ◌<◌, Float, get_or}
use Rattle.std.proofs.Common.{arith}
use Rattle.std.specs.Float.Ieee as Ieee
use Rattle.ruler.specs.Ruler.{ruler}
use Rattle.geometry.specs.Counting.{sum_to, count}
use Rattle.table.specs.Words.{num}
use Rattle.table.specs.Examples.{abc}
use Rattle.density.specs.Meaning.{any_to, covered, count_of}
use Rattle.density.specs.Shares.{float, share_of}
use Rattle.density.specs.Report.{Lowest, Highest, Written, Reports}
use Rattle.density.specs.Examples.{four, bits, first_count, second_count, third_count, fourth_count}
use Rattle.density.specs.declared.windows.Report.{Report}

-- ---- the report on those four windows, into a list of five entries: the last one is kept

abbrev sevens : List Float
sevens = float 7 ∷ float 7 ∷ float 7 ∷ float 7 ∷ float 7 ∷ []

-- 3, 4, 8 and 4 of 16
abbrev shares : List Float
shares = bits 4595923419731591168 ∷ bits 4598175219545276416 ∷ bits 4602678819172646912 ∷ bits 4598175219545276416 ∷ float 7 ∷ []

abbrev report : Report
report = record { lowest = bits 4595923419731591168; highest = bits 4602678819172646912; covered = 19 }

each : (P : ℕ → Type 0) → P 0 → P 1 → P 2 → P 3 → (m : ℕ) → m < 4 → P m
each P a b c d zero l = a
each P a b c d (suc zero) l = b
each P a b c d (suc (suc zero)) l = c
each P a b c d (suc (suc (suc zero))) l = d
each P a b c d (suc (suc (suc (suc m)))) l = absurd (omega arith)

past : (m : ℕ) → 4 ≤ m → get_or shares m (float 0) ≡ get_or sevens m (float 0)
past zero l = absurd (omega arith)
past (suc zero) l = absurd (omega arith)
past (suc (suc zero)) l = absurd (omega arith)
past (suc (suc (suc zero))) l = absurd (omega arith)
past (suc (suc (suc (suc m)))) l = refl

four_written : Written abc four 4 4 sevens shares 4
unfolding abc num ruler sum_to count any_to covered share_of Ieee.of_bits Ieee.of_int Ieee.div
four_written =
    record { long = refl; shares = each (λ m. get_or shares m (float 0) ≡ share_of (count_of abc four 4 4 m) 16) refl refl refl refl; rest = past }

four_lowest : Lowest (count_of abc four 4 4) 4 3
four_lowest = record {
  at = 0;
  below = omega arith;
  is = first_count;
  least = each (λ m. 3 ≤ count_of abc four 4 4 m) (omega (arith, first_count)) (omega (arith, second_count)) (omega (arith, third_count)) (omega (arith, fourth_count));
}

four_highest : Highest (count_of abc four 4 4) 4 8
four_highest = record {
  at = 2;
  below = omega arith;
  is = third_count;
  most = each (λ m. count_of abc four 4 4 m ≤ 8) (omega (arith, first_count)) (omega (arith, second_count)) (omega (arith, third_count)) (omega (arith, fourth_count));
}

pub four_report : Reports abc four 4 4 sevens shares report
unfolding abc num ruler sum_to count any_to covered share_of Ieee.of_bits Ieee.of_int Ieee.div
four_report = record {
  written = four_written;
  least = 3;
  least_is = four_lowest;
  lowest = refl;
  most = 8;
  most_is = four_highest;
  highest = refl;
  total = refl;
}
