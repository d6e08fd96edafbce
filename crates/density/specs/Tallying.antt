-- The loop that makes shares of the counts in the lent list, over its first entries. Assumes nothing.
use Rattle.std.specs.Prelude.{◌≡◌, List, ◌++◌, ℕ, ◌+◌, ◌≤◌, ◌<◌, ◌^◌, T, ℤ, Float, length, get_or}
use Rattle.std.proofs.Common.{◌∙◌, le_refl, arith, take, drop, length-take-le, get_or-take}
use Rattle.std.specs.Float.Ieee as Ieee
use Rattle.std.specs.Float.{nan, binary64}
use Rattle.seek.specs.Meaning.{Area, RectRight}
use Rattle.density.specs.Meaning.{Steps, windows_of, count_of}
use Rattle.density.specs.Shares.{float}
use Rattle.density.specs.Report.{Reports}
use Rattle.density.specs.Counts.{Counted, front_long, front_has, front_rest, read_any, float_back}
use Rattle.density.specs.Reporting.{Reporting, small, count_most, total_small}
use Rattle.density.specs.declared.windows.Report.{Report}

-- where the loop starts: the list holds the count of every window, and `many` is how many there are
pub record Ready (t : List ℤ) (A : Area) (w h many : ℕ) (out : List Float) : Type 0 where
  pub rect : RectRight A
  pub steps : Steps A w h
  pub windows : many ≡ windows_of A w h
  pub room : windows_of A w h ≤ length out
  pub counted : Counted t A w h out

-- n windows are done, of any area that the loop can have started from
abbrev pub Tallying : List ℤ → ℕ → ℕ → ℕ → List Float → List Float → ℕ → ℕ → ℕ → ℕ → Type 0
Tallying t w h many old new n low high sum = (A : Area) → Ready t A w h many old → Reporting t A w h old new n low high sum

-- the next window: n are done
module _ (t : List ℤ) (A : Area) (w h many : ℕ) (out new : List Float) (n low high sum : ℕ)
    (r : Ready t A w h many out) (d : Reporting t A w h (take many out) new n low high sum) (l : n < length (take many out)) where
  pub tally_one : n < windows_of A w h
  tally_one = omega (arith, r.windows, r.room, length-take-le many out (omega (arith, r.windows, r.room)))

  pub tally_in : n < length new
  tally_in = omega (arith, d.written.long)

  tally_small : count_of t A w h n ≤ 2 ^ 50
  tally_small = omega (arith, count_most t A r.rect w h r.steps n tally_one, (small A r.rect w h r.steps).cells)

  -- its count is still there
  pub tally_back : T (Ieee.in_unsigned binary64 64 (get_or new n nan)) × (Ieee.to_unsigned 64 (get_or new n nan) ≡ count_of t A w h n)
  tally_back =
      float_back (get_or new n nan) (count_of t A w h n)
      (read_any new n nan (float 0) tally_in
      ∙ d.written.rest n (le_refl n)
      ∙ get_or-take many out n (float 0) (omega (arith, tally_one, r.windows))
      ∙ r.counted n tally_one)
      tally_small

  pub tally_sum : sum + Ieee.to_unsigned 64 (get_or new n nan) ≤ 2 ^ 50
  tally_sum = omega (arith, total_small t A r.rect w h r.steps n tally_one, d.total, tally_back.1)

-- a report on the windows' entries is one on the whole list
pub report_front : (t : List ℤ) (A : Area) (w h : ℕ) (old front : List Float) (many : ℕ) (r : Report) → many ≡ windows_of A w h → windows_of A w h ≤ length old
    → Reports t A w h (take many old) front r → Reports t A w h old (front ++ drop many old) r
report_front t A w h old front many r e room o =
    let l : many ≤ length old = omega arith in
    let i : length front ≡ many = o.written.long ∙ length-take-le many old l in
    record {
      written = record {
        long = front_long front old many i l;
        shares = λ m k. front_has front old many i l m (omega arith) ∙ o.written.shares m k;
        rest = λ m k. front_rest front old many i l m (omega arith);
      };
      least = o.least;
      least_is = o.least_is;
      lowest = o.lowest;
      most = o.most;
      most_is = o.most_is;
      highest = o.highest;
      total = o.total;
    }
