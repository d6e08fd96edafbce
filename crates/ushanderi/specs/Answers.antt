-- 01's and 02's tables of answers: each number by its name, and what an answer carries. Assumes nothing.
use Rattle.std.specs.Prelude.{ℕ, pos, negsuc, ℤ, Result, Ok, Err}
use Rattle.ushanderi.specs.declared.answer.Answer.{Answer}
use Rattle.ushanderi.specs.declared.answer.MetAnswer.{MetAnswer}
use Rattle.seek.specs.Meaning.{Area}
use Rattle.ushanderi.specs.declared.answer.Refusal.TheVariants as Refusals
use Rattle.ushanderi.specs.declared.answer.Refusal.{Refusal}
use Rattle.ruler.specs.Ruler.{ruler, word}
use Rattle.density.specs.Shares.{float}
use Rattle.density.specs.declared.windows.Report.{Report}
use Rattle.ushanderi.specs.declared.reports.DensityAnswer.{DensityAnswer}

abbrev pub DONE : ℕ
DONE = 0

abbrev pub SIZE : ℕ
SIZE = 1

abbrev pub UNSOUND : ℕ
UNSOUND = 2

abbrev pub POINT : ℕ
POINT = 3

abbrev pub RECT : ℕ
RECT = 4

abbrev pub LABEL : ℕ
LABEL = 5

abbrev pub OCCUPIED : ℕ
OCCUPIED = 6

abbrev pub FULL : ℕ
FULL = 7

abbrev pub SPACE : ℕ
SPACE = 8

abbrev pub SIDE : ℕ
SIDE = 9

abbrev pub SHORT : ℕ
SHORT = 10

abbrev pub FILE : ℕ
FILE = 11

abbrev pub ROOM : ℕ
ROOM = 12

abbrev pub STEP : ℕ
STEP = 13

abbrev pub answered : ℕ → ℕ → Answer
answered number value = record { number = pos number; value = pos value }

abbrev pub accepted : ℕ → Answer
accepted value = answered DONE value

-- the value of a refusal is 0 unless said
abbrev pub refused : ℕ → Answer
refused number = answered number 0

-- the number of each refusal
abbrev pub number_of : Refusal → ℕ
number_of Refusals.Size = SIZE
number_of Refusals.Unsound = UNSOUND
number_of Refusals.Point = POINT
number_of Refusals.Rect = RECT
number_of Refusals.Label = LABEL
number_of Refusals.Occupied = OCCUPIED
number_of Refusals.Full = FULL
number_of Refusals.Space = SPACE
number_of Refusals.Side = SIDE
number_of Refusals.Short = SHORT
number_of Refusals.File = FILE
number_of Refusals.Step = STEP

-- area search's value where the rectangle is free: -1
abbrev pub nothing : Answer
nothing = record { number = pos DONE; value = negsuc 0 }

-- an answer that names the cell (x, y) of the plane
abbrev pub with_cell : Answer → ℕ → ℕ → MetAnswer
with_cell a x y = record { number = a.number; value = a.value; x = word x; y = word y }

-- and one that names none: it carries 0 and 0
abbrev pub without_cell : Answer → MetAnswer
without_cell a = record { number = a.number; value = a.value; x = pos 0; y = pos 0 }

-- density's answer: the number of windows, and the report
abbrev pub reported : ℕ → Report → DensityAnswer
reported windows r =
    record { number = pos DONE; value = pos windows; lowest = r.lowest; highest = r.highest; covered = pos r.covered }

-- a refused report has both shares 0.0 and the total 0
abbrev pub unreported : Answer → DensityAnswer
unreported a = record { number = a.number; value = a.value; lowest = float 0; highest = float 0; covered = pos 0 }

-- the number and the value of each case: a find's record, or a refusal
abbrev pub answer_of : Result ℕ Refusal → Answer
answer_of (Ok value) = accepted value
answer_of (Err r) = refused (number_of r)

-- the four words of a rectangle on the ruler
abbrev pub ruler_area : ℤ → ℤ → ℤ → ℤ → Area
ruler_area left bottom right top = record { left = ruler left; bottom = ruler bottom; right = ruler right; top = ruler top }
