-- Tables written out, on which the definitions are tried: sound ones, and some that are not. Assumes nothing.
use Rattle.std.specs.Prelude.{◌≡◌, refl, List, [], ◌∷◌, ◌++◌, ℕ, ◌+◌, ◌-◌, ◌*◌, ℤ, pos, negsuc, set, replicate}
use Rattle.std.proofs.Common.{arith}
use Rattle.ruler.specs.Ruler.{ruler}
use Rattle.geometry.specs.Counting.{sum_to, count}
use Rattle.table.specs.Words.{WIDTH, num}
use Rattle.table.specs.Sound.{solids_in, spaces_in}
use Rattle.table.specs.Fresh.{fresh_table}
use Rattle.table.specs.FreshSound.{fresh_one_space}

abbrev neg : ℕ → ℤ
neg n = negsuc (n - 1)

-- a record: left, bottom, right, top, tr, rt, bl, lb, kind, label
abbrev rec : ℤ → ℤ → ℤ → ℤ → ℤ → ℤ → ℤ → ℤ → ℤ → ℤ → List ℤ
rec l b r t tr rt bl lb kind label = l ∷ b ∷ r ∷ t ∷ tr ∷ rt ∷ bl ∷ lb ∷ kind ∷ label ∷ []

abbrev free : ℕ → List ℤ
free n = replicate (WIDTH * n) (pos 0)

-- the table with word k of record i changed
abbrev pub changed : List ℤ → ℕ → ℕ → ℤ → List ℤ
changed t i k w = set t (WIDTH * i + k) w

-- ---- sound tables

-- 01's A alone: 4 space tiles
unfoldable pub one : List ℤ
one =
    rec (pos 0) (pos 0) (pos 10) (pos 10) (pos 3) (pos 4) (pos 2) (pos 1) (pos 2) (pos 1)
    ++ rec (neg 16777216) (neg 16777216) (pos 16777216) (pos 0) (neg 1) (pos 3) (neg 1) (neg 1) (pos 1) (pos 0)
    ++ rec (neg 16777216) (pos 0) (pos 0) (pos 10) (pos 0) (pos 4) (neg 1) (pos 1) (pos 1) (pos 0)
    ++ rec (pos 10) (pos 0) (pos 16777216) (pos 10) (neg 1) (pos 4) (pos 0) (pos 1) (pos 1) (pos 0)
    ++ rec (neg 16777216) (pos 10) (pos 16777216) (pos 16777216) (neg 1) (neg 1) (neg 1) (pos 2) (pos 1) (pos 0)
    ++ free 15

pub one_spaces : spaces_in one ≡ 4
unfolding one num ruler sum_to count
one_spaces = refl

pub one_solids : solids_in one ≡ 1
unfolding one num ruler sum_to count
one_solids = refl

-- 01's A, B and C: 8 space tiles
unfoldable pub abc : List ℤ
abc =
    rec (pos 0) (pos 0) (pos 10) (pos 10) (pos 5) (pos 7) (pos 4) (pos 3) (pos 2) (pos 1)
    ++ rec (pos 20) (pos 0) (pos 30) (pos 10) (pos 6) (pos 7) (pos 5) (pos 3) (pos 2) (pos 2)
    ++ rec (pos 5) (pos 15) (pos 25) (pos 20) (pos 9) (pos 10) (pos 8) (pos 7) (pos 2) (pos 3)
    ++ rec (neg 16777216) (neg 16777216) (pos 16777216) (pos 0) (neg 1) (pos 6) (neg 1) (neg 1) (pos 1) (pos 0)
    ++ rec (neg 16777216) (pos 0) (pos 0) (pos 10) (pos 0) (pos 7) (neg 1) (pos 3) (pos 1) (pos 0)
    ++ rec (pos 10) (pos 0) (pos 20) (pos 10) (pos 1) (pos 7) (pos 0) (pos 3) (pos 1) (pos 0)
    ++ rec (pos 30) (pos 0) (pos 16777216) (pos 10) (neg 1) (pos 7) (pos 1) (pos 3) (pos 1) (pos 0)
    ++ rec (neg 16777216) (pos 10) (pos 16777216) (pos 15) (neg 1) (pos 9) (neg 1) (pos 4) (pos 1) (pos 0)
    ++ rec (neg 16777216) (pos 15) (pos 5) (pos 20) (pos 2) (pos 10) (neg 1) (pos 7) (pos 1) (pos 0)
    ++ rec (pos 25) (pos 15) (pos 16777216) (pos 20) (neg 1) (pos 10) (pos 2) (pos 7) (pos 1) (pos 0)
    ++ rec (neg 16777216) (pos 20) (pos 16777216) (pos 16777216) (neg 1) (neg 1) (neg 1) (pos 8) (pos 1) (pos 0)
    ++ free 17

pub abc_spaces : spaces_in abc ≡ 8
unfolding abc num ruler sum_to count
abc_spaces = refl

pub abc_solids : solids_in abc ≡ 3
unfolding abc num ruler sum_to count
abc_solids = refl

-- the fresh plane of 20 records
pub fresh_spaces_20 : spaces_in (fresh_table 200) ≡ 1
fresh_spaces_20 = fresh_one_space 200 (omega arith) (omega arith)

-- ---- tables that are not sound

-- A alone, and the strip above it in two parts, stacked: every stitch is right
unfoldable pub stacked : List ℤ
stacked =
    rec (pos 0) (pos 0) (pos 10) (pos 10) (pos 3) (pos 4) (pos 2) (pos 1) (pos 2) (pos 1)
    ++ rec (neg 16777216) (neg 16777216) (pos 16777216) (pos 0) (neg 1) (pos 3) (neg 1) (neg 1) (pos 1) (pos 0)
    ++ rec (neg 16777216) (pos 0) (pos 0) (pos 10) (pos 0) (pos 4) (neg 1) (pos 1) (pos 1) (pos 0)
    ++ rec (pos 10) (pos 0) (pos 16777216) (pos 10) (neg 1) (pos 4) (pos 0) (pos 1) (pos 1) (pos 0)
    ++ rec (neg 16777216) (pos 10) (pos 16777216) (pos 100) (neg 1) (pos 5) (neg 1) (pos 2) (pos 1) (pos 0)
    ++ rec (neg 16777216) (pos 100) (pos 16777216) (pos 16777216) (neg 1) (neg 1) (neg 1) (pos 4) (pos 1) (pos 0)
    ++ free 14

-- A alone, and the strip above it in two parts, side by side: every stitch is right
unfoldable pub paired : List ℤ
paired =
    rec (pos 0) (pos 0) (pos 10) (pos 10) (pos 3) (pos 5) (pos 2) (pos 1) (pos 2) (pos 1)
    ++ rec (neg 16777216) (neg 16777216) (pos 16777216) (pos 0) (neg 1) (pos 3) (neg 1) (neg 1) (pos 1) (pos 0)
    ++ rec (neg 16777216) (pos 0) (pos 0) (pos 10) (pos 0) (pos 4) (neg 1) (pos 1) (pos 1) (pos 0)
    ++ rec (pos 10) (pos 0) (pos 16777216) (pos 10) (neg 1) (pos 5) (pos 0) (pos 1) (pos 1) (pos 0)
    ++ rec (neg 16777216) (pos 10) (pos 5) (pos 16777216) (pos 5) (neg 1) (neg 1) (pos 2) (pos 1) (pos 0)
    ++ rec (pos 5) (pos 10) (pos 16777216) (pos 16777216) (neg 1) (neg 1) (pos 4) (pos 0) (pos 1) (pos 0)
    ++ free 14

-- A and B in 20 records, which take one solid
unfoldable pub many : List ℤ
many =
    rec (pos 0) (pos 0) (pos 10) (pos 10) (pos 4) (pos 6) (pos 3) (pos 2) (pos 2) (pos 1)
    ++ rec (pos 20) (pos 0) (pos 30) (pos 10) (pos 5) (pos 6) (pos 4) (pos 2) (pos 2) (pos 2)
    ++ rec (neg 16777216) (neg 16777216) (pos 16777216) (pos 0) (neg 1) (pos 5) (neg 1) (neg 1) (pos 1) (pos 0)
    ++ rec (neg 16777216) (pos 0) (pos 0) (pos 10) (pos 0) (pos 6) (neg 1) (pos 2) (pos 1) (pos 0)
    ++ rec (pos 10) (pos 0) (pos 20) (pos 10) (pos 1) (pos 6) (pos 0) (pos 2) (pos 1) (pos 0)
    ++ rec (pos 30) (pos 0) (pos 16777216) (pos 10) (neg 1) (pos 6) (pos 1) (pos 2) (pos 1) (pos 0)
    ++ rec (neg 16777216) (pos 10) (pos 16777216) (pos 16777216) (neg 1) (neg 1) (neg 1) (pos 3) (pos 1) (pos 0)
    ++ free 13
