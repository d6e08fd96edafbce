-- 01's drawn rectangles, and tables written out that draw them: A, A and B, A to C, A to C with the gap filled, the whole plane as one solid. Assumes nothing.
use Rattle.std.specs.Prelude.{◌≡◌, refl, List, [], ◌∷◌, ◌++◌, ◌%◌, ℤ, pos, length, T, eqb, leb}
use Rattle.std.proofs.Common.{eqb→eq, leb→le}
use Rattle.ruler.specs.Ruler.{ruler}
use Rattle.geometry.specs.Counting.{sum_to, count}
use Rattle.table.specs.Words.{WIDTH, records_of, num}
use Rattle.table.specs.Sound.{Sound, solids_in, spaces_in}
use Rattle.table.specs.Decide.{soundb}
use Rattle.table.proofs.Decide.{soundb_sound}
use Rattle.table.specs.Examples.{one, abc}
use Rattle.table.proofs.Examples.{one_sound, abc_sound}
use Rattle.ushanderi.specs.Promises.{Fit}
use Rattle.claims.specs.Tests.{drawsb, drawsb_draws}
use Rattle.claims.specs.Drawing.{neg, E, -E, A, B, C, D, W, Draws, rec, full_next, free, full}

-- ---- rectangles: left, bottom, right, top, and a solid's label

-- ---- tables

unfoldable pub ab : List ℤ
ab =
    rec (pos 0) (pos 0) (pos 10) (pos 10) (pos 4) (pos 6) (pos 3) (pos 2) 2 1
    ++ rec (pos 20) (pos 0) (pos 30) (pos 10) (pos 5) (pos 6) (pos 4) (pos 2) 2 2
    ++ rec -E -E E (pos 0) (neg 1) (pos 5) (neg 1) (neg 1) 1 0
    ++ rec -E (pos 0) (pos 0) (pos 10) (pos 0) (pos 6) (neg 1) (pos 2) 1 0
    ++ rec (pos 10) (pos 0) (pos 20) (pos 10) (pos 1) (pos 6) (pos 0) (pos 2) 1 0
    ++ rec (pos 30) (pos 0) E (pos 10) (neg 1) (pos 6) (pos 1) (pos 2) 1 0
    ++ rec -E (pos 10) E E (neg 1) (neg 1) (neg 1) (pos 3) 1 0
    ++ free 17

unfoldable pub abcd : List ℤ
abcd =
    rec (pos 0) (pos 0) (pos 10) (pos 10) (pos 3) (pos 7) (pos 5) (pos 4) 2 1
    ++ rec (pos 20) (pos 0) (pos 30) (pos 10) (pos 6) (pos 7) (pos 3) (pos 4) 2 2
    ++ rec (pos 5) (pos 15) (pos 25) (pos 20) (pos 9) (pos 10) (pos 8) (pos 7) 2 3
    ++ rec (pos 10) (pos 0) (pos 20) (pos 10) (pos 1) (pos 7) (pos 0) (pos 4) 2 4
    ++ rec -E -E E (pos 0) (neg 1) (pos 6) (neg 1) (neg 1) 1 0
    ++ rec -E (pos 0) (pos 0) (pos 10) (pos 0) (pos 7) (neg 1) (pos 4) 1 0
    ++ rec (pos 30) (pos 0) E (pos 10) (neg 1) (pos 7) (pos 1) (pos 4) 1 0
    ++ rec -E (pos 10) E (pos 15) (neg 1) (pos 9) (neg 1) (pos 5) 1 0
    ++ rec -E (pos 15) (pos 5) (pos 20) (pos 2) (pos 10) (neg 1) (pos 7) 1 0
    ++ rec (pos 25) (pos 15) E (pos 20) (neg 1) (pos 10) (pos 2) (pos 7) 1 0
    ++ rec -E (pos 20) E E (neg 1) (neg 1) (neg 1) (pos 8) 1 0
    ++ free 21

-- ---- they are sound

fit_by : (t : List ℤ) → T (eqb (length t % WIDTH) 0) → T (leb 20 (records_of t)) → T (leb (records_of t) 4016) → Sound t → Fit t
fit_by t w l m s = record {
  size = record { whole = eqb→eq (length t % WIDTH) 0 w; least = leb→le 20 (records_of t) l; most = leb→le (records_of t) 4016 m };
  sound = s;
}

pub one_draws : Draws one (A ∷ [])
unfolding one drawsb num ruler
one_draws = drawsb_draws one (A ∷ []) (fit_by one tt tt tt one_sound) tt

pub ab_draws : Draws ab (A ∷ B ∷ [])
unfolding ab soundb drawsb num ruler sum_to count
ab_draws = drawsb_draws ab (A ∷ B ∷ []) (fit_by ab tt tt tt (soundb_sound ab tt)) tt

pub abc_draws : Draws abc (A ∷ B ∷ C ∷ [])
unfolding abc drawsb num ruler
abc_draws = drawsb_draws abc (A ∷ B ∷ C ∷ []) (fit_by abc tt tt tt abc_sound) tt

pub abcd_draws : Draws abcd (A ∷ B ∷ C ∷ D ∷ [])
unfolding abcd soundb drawsb num ruler sum_to count
abcd_draws = drawsb_draws abcd (A ∷ B ∷ C ∷ D ∷ []) (fit_by abcd tt tt tt (soundb_sound abcd tt)) tt

pub full_draws : Draws full (W ∷ [])
unfolding full soundb drawsb num ruler sum_to count
full_draws = drawsb_draws full (W ∷ []) (fit_by full tt tt tt (soundb_sound full tt)) tt

pub full_next_draws : Draws full_next (W ∷ [])
unfolding full_next soundb drawsb num ruler sum_to count
full_next_draws = drawsb_draws full_next (W ∷ []) (fit_by full_next tt tt tt (soundb_sound full_next tt)) tt

-- ---- how many tiles they have

pub ab_spaces : spaces_in ab ≡ 5
unfolding ab num ruler sum_to count
ab_spaces = refl

pub ab_solids : solids_in ab ≡ 2
unfolding ab num ruler sum_to count
ab_solids = refl

pub abcd_spaces : spaces_in abcd ≡ 7
unfolding abcd num ruler sum_to count
abcd_spaces = refl

pub full_spaces : spaces_in full ≡ 0
unfolding full num ruler sum_to count
full_spaces = refl
