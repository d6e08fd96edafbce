-- The calls that read a plane: what their answers and words say in 01's numbers, and what the checks 1, 2 and 3 give. Assumes nothing.
use Rattle.std.specs.Prelude.{◌≡◌, ◌⊎◌, List, ℕ, ◌<◌, ◌^◌, ℤ, pos, Result, Ok, Err, MatchResult}
use Rattle.std.proofs.Common.{sym, ap, subst, subst₂, inl, inr, arith, SFits, to_z, of_z}
use Rattle.std.specs.Int.{w32}
use Rattle.ruler.specs.Ruler.{ruler, ruler_bits}
use Rattle.table.specs.Words.{records_of}
use Rattle.table.specs.Sound.{SizeRight}
use Rattle.table.specs.Forms.{Forms}
use Rattle.table.proofs.Forms.{sound_forms}
use Rattle.seek.specs.Find.{Finds}
use Rattle.ushanderi.specs.Answers.{SIZE, UNSOUND, POINT, accepted, refused, number_of, answer_of}
use Rattle.ushanderi.specs.Promises.{Unfit, Fit, FindSays}
use Rattle.ushanderi.specs.declared.answer.Answer.{Answer}
use Rattle.ushanderi.specs.declared.answer.Refusal.{Refusal}
use Rattle.ushanderi.specs.declared.answer.Refusal.TheVariants as Refusals

-- ---- the checks 1 and 2

pub fit_forms : (t : List ℤ) → Fit t → Forms t
fit_forms t f = sound_forms t f.size.most f.sound

-- ---- a number that is 0 or 1 is not 2, and one that is 1, 2 or 3 is not 0

pub not_third : {n : ℕ} → (n ≡ 0) ⊎ (n ≡ 1) → n ≡ 2 → ⊥
not_third (inl h) e = omega arith
not_third (inr h) e = omega arith

pub not_first : {n : ℕ} → (n ≡ 1) ⊎ ((n ≡ 2) ⊎ (n ≡ 3)) → n ≡ 0 → ⊥
not_first (inl h) e = omega arith
not_first (inr (inl h)) e = omega arith
not_first (inr (inr h)) e = omega arith

-- ---- find

-- a record's number is a word's
pub low_record : (t : List ℤ) (i : ℕ) → SizeRight t → i < records_of t → i < 2 ^ 31
low_record t i s h = omega (arith, s.most)

-- what an answer can carry
abbrev pub Low : Result ℕ Refusal → Type 0
Low e = MatchResult e (λ n. n < 2 ^ 31) (λ r. Unit {0})

abbrev pub NotFound : Result ℕ Refusal → Type 0
NotFound f = (i : ℕ) → f ≡ Ok i → ⊥

-- an accepted answer is no refusal
not_refused : (n i : ℕ) → 0 < n → accepted i ≡ refused n → ⊥
not_refused n i h e = let p : pos 0 ≡ pos n = ap (λ (a : Answer). a.number) e in let z : 0 ≡ n = cc in omega arith

some_number : (r : Refusal) → 0 < number_of r
some_number Refusals.Size = omega arith
some_number Refusals.Unsound = omega arith
some_number Refusals.Point = omega arith
some_number Refusals.Rect = omega arith
some_number Refusals.Label = omega arith
some_number Refusals.Occupied = omega arith
some_number Refusals.Full = omega arith
some_number Refusals.Space = omega arith
some_number Refusals.Side = omega arith
some_number Refusals.Short = omega arith
some_number Refusals.File = omega arith
some_number Refusals.Step = omega arith

-- an answer that is accepted is a record's
pub found_at : (f : Result ℕ Refusal) (i : ℕ) → answer_of f ≡ accepted i → f ≡ Ok i
found_at (Ok k) i e = let p : pos k ≡ pos i = ap (λ (a : Answer). a.value) e in cc
found_at (Err r) i e = absurd (not_refused (number_of r) i (some_number r) (sym e))

fit_accepted : (t : List ℤ) (i : ℕ) → Unfit t (accepted i) → ⊥
fit_accepted t i (Unfit.size s e) = not_refused SIZE i (omega arith) e
fit_accepted t i (Unfit.unsound s n e) = not_refused UNSOUND i (omega arith) e

accepted_found : (t : List ℤ) (x y i : ℕ) → FindSays t x y (accepted i) → Fit t × Finds t x y i
accepted_found t x y i (FindSays.unfit u) = absurd (fit_accepted t i u)
accepted_found t x y i (FindSays.point f p e) = absurd (not_refused POINT i (omega arith) e)
accepted_found t x y i (FindSays.done f k h e) =
    let p : pos i ≡ pos k = ap (λ (a : Answer). a.value) e in
    let d : k ≡ i = cc in
    (f, subst (Finds t x y) d h)

-- what find says of a record, and of a refusal
pub find_at : (t : List ℤ) (x y i : ℕ) → FindSays t x y (answer_of (Ok i)) → Fit t × Finds t x y i
find_at t x y i s = accepted_found t x y i s

pub find_low : (t : List ℤ) (x y : ℕ) (f : Result ℕ Refusal) → FindSays t x y (answer_of f) → Low f
find_low t x y (Ok i) s = let (k, h) = find_at t x y i s in low_record t i k.size h.used.below
find_low t x y (Err r) s = tt

pub find_bits : (t : List ℤ) (x y : ℤ) (a : Answer) → SFits w32 x → SFits w32 y
    → FindSays t (ruler (to_z w32 (of_z w32 x))) (ruler (to_z w32 (of_z w32 y))) a → FindSays t (ruler x) (ruler y) a
find_bits t x y a f g = subst₂ (λ x y. FindSays t x y a) (ruler_bits x f) (ruler_bits y g)
