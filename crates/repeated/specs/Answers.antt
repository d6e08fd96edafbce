-- The answer to C of what was found or refused: 01's number, and the value beside it. Assumes nothing.
use Rattle.std.specs.Prelude.{ℕ, Result, Ok, Err}
use Rattle.repeated.specs.declared.answer.Answer.{Answer}
use Rattle.repeated.specs.declared.answer.Refusal.{Refusal}
use Rattle.repeated.specs.declared.answer.Refusal.TheVariants.{Size, Unsound, Point, Rect, Label, Occupied, Full, Side, Short, Step}

abbrev pub answered : ℕ → ℕ → Answer
answered number value = record { number = number; value = value }

abbrev pub answer_of : Result ℕ Refusal → Answer
answer_of (Ok value) = answered 0 value
answer_of (Err Size) = answered 1 0
answer_of (Err Unsound) = answered 2 0
answer_of (Err Point) = answered 3 0
answer_of (Err Rect) = answered 4 0
answer_of (Err Label) = answered 5 0
answer_of (Err Occupied) = answered 6 0
answer_of (Err Full) = answered 7 0
answer_of (Err Side) = answered 9 0
answer_of (Err (Short places)) = answered 10 places
answer_of (Err Step) = answered 13 0
