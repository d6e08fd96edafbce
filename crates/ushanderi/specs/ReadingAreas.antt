-- Area search and enumeration: how the search, the count and the list give the calls' promises. Assumes nothing.
use Rattle.std.specs.Prelude.{◌≡◌, refl, List, ◌++◌, map, ℕ, ◌≤◌, ◌<◌, ◌^◌, ℤ, pos, length, drop, Result, Ok, Err}
use Rattle.std.proofs.Common.{ap, ◌∙◌, subst, arith, SFits, to_z, of_z}
use Rattle.std.specs.Int.{w32}
use Rattle.ruler.specs.Ruler.{ruler, ruler_bits}
use Rattle.table.specs.Sound.{SizeRight}
use Rattle.seek.specs.Meaning.{Area, RectRight, First, Directed}
use Rattle.seek.specs.Search.{Searches}
use Rattle.seek.specs.Writing.{writes_whole}
use Rattle.seek.specs.Enumerate.{WritesArea, CountsArea, counts_area_short}
use Rattle.seek.specs.declared.rows.Met.{Met}
use Rattle.ushanderi.specs.Answers
use Rattle.ushanderi.specs.Answers.{SHORT, accepted, answered, with_cell, without_cell, ruler_area}
use Rattle.ushanderi.specs.Promises.{Fit, SearchSays, EnumerateSays}
use Rattle.ushanderi.specs.declared.answer.Answer.{Answer}
use Rattle.ushanderi.specs.declared.answer.MetAnswer.{MetAnswer}
use Rattle.ushanderi.specs.Reading.{fit_forms, low_record}

-- ---- the four words of a rectangle

-- numbers that are these, and what is read back from the words' bits
pub area_is : (l b r t : ℕ) (left bottom right top : ℤ) → l ≡ ruler left → b ≡ ruler bottom → r ≡ ruler right → t ≡ ruler top
    → ◌≡◌ {A = Area} (record { left = l; bottom = b; right = r; top = t }) (ruler_area left bottom right top)
area_is l b r t left bottom right top p q u v = λ i. record { left = p i; bottom = q i; right = u i; top = v i }

pub area_bits : (left bottom right top : ℤ) → SFits w32 left → SFits w32 bottom → SFits w32 right → SFits w32 top
    → ruler_area (to_z w32 (of_z w32 left)) (to_z w32 (of_z w32 bottom)) (to_z w32 (of_z w32 right)) (to_z w32 (of_z w32 top)) ≡ ruler_area left bottom right top
area_bits left bottom right top f g h k =
    area_is _ _ _ _ left bottom right top (ruler_bits left f) (ruler_bits bottom g) (ruler_bits right h) (ruler_bits top k)

-- ---- area search

-- the number, the value and the cell of each case
abbrev pub seen_answer : Result ℕ Met → MetAnswer
seen_answer (Ok k) = without_cell Answers.nothing
seen_answer (Err m) = with_cell (accepted m.tile) m.x m.y

pub searches_says : (t : List ℤ) (A : Area) (s : Result ℕ Met) → Fit t → RectRight A → Searches t A s → SearchSays t A (seen_answer s)
searches_says t A (Ok k) f r h = SearchSays.free f r h.0 refl
searches_says t A (Err m) f r h = SearchSays.met f r m.x m.y m.tile h refl

pub search_same : {t : List ℤ} {A B : Area} {a : MetAnswer} → A ≡ B → SearchSays t A a → SearchSays t B a
search_same {t} {A} {B} {a} e s = subst (λ A. SearchSays t A a) e s

-- the solid in the way and its cell are of words
pub first_low : (t : List ℤ) (A : Area) (x y i : ℕ) → SizeRight t → First t A x y i → i < 2 ^ 31
first_low t A x y i z h = low_record t i z (omega (arith, h.solid.below))

pub first_cell : (t : List ℤ) (A : Area) (x y i : ℕ) → RectRight A → First t A x y i → (x < 2 ^ 32) × (y < 2 ^ 32)
first_cell t A x y i r f = (omega (arith, f.inside, r.to_right), omega (arith, f.inside, r.to_top))

-- ---- enumeration

pub area_low : (t : List ℤ) (A : Area) (n : ℕ) → Fit t → CountsArea t A n → n < 2 ^ 31
area_low t A n f c = omega (arith, f.size.most, counts_area_short t (fit_forms t f) A n c)

pub enumerate_same : {t : List ℤ} {A B : Area} {out out' : List ℤ} {a : Answer} → A ≡ B → EnumerateSays t A out out' a → EnumerateSays t B out out' a
enumerate_same {t} {A} {B} {out} {out'} {a} e s = subst (λ A. EnumerateSays t A out out' a) e s

pub enumerate_short : (t : List ℤ) (A : Area) (n : ℕ) (out : List ℤ) → Fit t → RectRight A → CountsArea t A n → length out < n
    → EnumerateSays t A out out (answered SHORT n)
enumerate_short t A n out f r c h = EnumerateSays.short f r c.list c.is (omega (arith, c.count)) (ap (answered SHORT) c.count) refl

pub enumerate_done : (t : List ℤ) (A : Area) (n : ℕ) (out out' : List ℤ) → Fit t → RectRight A → n ≤ length out → WritesArea t A out out' n
    → EnumerateSays t A out out' (accepted n)
enumerate_done t A n out out' f r h w =
    let new = writes_whole (Directed t A) out out' n w h in
    EnumerateSays.done f r w.list w.is (omega (arith, w.count)) (ap accepted w.count) (new ∙ ap (λ n. map pos w.list ++ drop n out) w.count)
