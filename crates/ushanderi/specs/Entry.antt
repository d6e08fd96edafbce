-- The checks 1 and 2, which every call but fresh, view and load runs first, and 4, which then comes on a rectangle. Assumes nothing.
use Rattle.std.specs.Prelude.{◌≡◌, refl, List, ℕ, ◌<◌, ◌^◌, ℤ, Float, Option, Some, None, Result, Ok, Err, MatchResult}
use Rattle.std.specs.Option.{ok_or}
use Rattle.std.proofs.Common.{ap, ◌∙◌, subst, arith, SFits, to_z, of_z}
use Rattle.std.specs.Int.{w32}
use Rattle.geometry.specs.Count.{count_le}
use Rattle.table.specs.Words.{records_of}
use Rattle.table.specs.Sound.{SizeRight, solid_at, solids_in}
use Rattle.seek.specs.Meaning.{Area, RectRight}
use Rattle.seek.specs.Enumerate.{area_of}
use Rattle.seek.specs.Passing.{Passes}
use Rattle.seek.specs.declared.rect.Rect.{Rect}
use Rattle.ushanderi.specs.Answers.{SIZE, UNSOUND, RECT, number_of, accepted, refused, answer_of, without_cell, unreported, ruler_area}
use Rattle.ushanderi.specs.Promises.{Unfit, Fit, CheckSays, SearchSays, DensitySays}
use Rattle.ushanderi.specs.Reading.{Low}
use Rattle.ushanderi.specs.ReadingAreas.{area_bits}
use Rattle.ushanderi.specs.declared.answer.MetAnswer.{MetAnswer}
use Rattle.ushanderi.specs.declared.answer.Refusal.{Refusal}
use Rattle.ushanderi.specs.declared.answer.Refusal.TheVariants as Refusals
use Rattle.ushanderi.specs.declared.reports.DensityAnswer.{DensityAnswer}

-- how many solids the table has, or why it cannot be worked on
abbrev pub Admits : List ℤ → Result ℕ Refusal → Type 0
Admits t e = MatchResult e (λ n. Fit t × (n ≡ solids_in t)) (λ r. Unfit t (refused (number_of r)))

pub admits_check : (t : List ℤ) (e : Result ℕ Refusal) → Admits t e → CheckSays t (answer_of e)
admits_check t (Ok n) (f, i) = CheckSays.done f (ap accepted i)
admits_check t (Err r) u = CheckSays.unfit u

-- what each case says
pub admits_fit : (t : List ℤ) (e : Result ℕ Refusal) (n : ℕ) → Admits t e → e ≡ Ok n → Fit t × (n ≡ solids_in t)
admits_fit t e n a q = subst (Admits t) q a

abbrev pub NotSound : Result ℕ Refusal → Type 0
NotSound e = (n : ℕ) → e ≡ Ok n → ⊥

pub admits_unfit : (t : List ℤ) (e : Result ℕ Refusal) → Admits t e → NotSound e → Unfit t (answer_of e)
admits_unfit t (Ok n) a k = absurd (k n refl)
admits_unfit t (Err r) u k = u

pub size_unfit : (t : List ℤ) (e : Result ℕ Refusal) → Admits t e → e ≡ Err Refusals.Size → Unfit t (refused SIZE)
size_unfit t e a q = subst (Admits t) q a

pub unsound_unfit : (t : List ℤ) (e : Result ℕ Refusal) → Admits t e → e ≡ Err Refusals.Unsound → Unfit t (refused UNSOUND)
unsound_unfit t e a q = subst (Admits t) q a

-- a number of records is a word's
pub few_solids : (t : List ℤ) → SizeRight t → solids_in t < 2 ^ 31
few_solids t s = omega (arith, s.most, count_le (records_of t) (solid_at t))

pub admits_low : (t : List ℤ) (e : Result ℕ Refusal) → Admits t e → Low e
admits_low t (Ok n) (f, i) = omega (arith, few_solids t f.size)
admits_low t (Err r) u = tt

-- the rectangle to work on, or why there is none
pub data RefusesRect (t : List ℤ) (A : Area) (r : Refusal) : Type 0 where
  unfit : Unfit t (refused (number_of r)) → RefusesRect t A r
  rect : Fit t → (RectRight A → ⊥) → number_of r ≡ RECT → RefusesRect t A r

abbrev pub AdmitsRect : List ℤ → Area → Result Rect Refusal → Type 0
AdmitsRect t A e = MatchResult e (λ r. Fit t × (area_of r.area ≡ A)) (RefusesRect t A)

-- as the calls on a rectangle give it
module _ {t : List ℤ} {A : Area} (r : Refusal) where
  pub search_refused : (a : MetAnswer) → RefusesRect t A r → a ≡ without_cell (refused (number_of r)) → SearchSays t A a
  search_refused a (unfit u) e = SearchSays.unfit (refused (number_of r)) u e
  search_refused a (rect f n q) e = SearchSays.rect f n (e ∙ ap (λ n. without_cell (refused n)) q)

  pub density_refused : (w h : ℕ) (out : List Float) (a : DensityAnswer) → RefusesRect t A r → a ≡ unreported (refused (number_of r))
      → DensitySays t A w h out out a
  density_refused w h out a (unfit u) e = DensitySays.unfit (refused (number_of r)) u e refl
  density_refused w h out a (rect f n q) e = DensitySays.rect f n (e ∙ ap (λ n. unreported (refused n)) q) refl

-- where the words of the rectangle are read back from their bits
pub admits_bits : (t : List ℤ) (left bottom right top : ℤ) → SFits w32 left → SFits w32 bottom → SFits w32 right → SFits w32 top → (e : Result Rect Refusal)
    → AdmitsRect t (ruler_area (to_z w32 (of_z w32 left)) (to_z w32 (of_z w32 bottom)) (to_z w32 (of_z w32 right)) (to_z w32 (of_z w32 top))) e
    → AdmitsRect t (ruler_area left bottom right top) e
admits_bits t left bottom right top f g h k e a = subst (λ A. AdmitsRect t A e) (area_bits left bottom right top f g h k) a

-- what `Rect::new` passes, where None becomes a refusal
pub passes_ok : {F : Type 0} (A : Area) (o : Option Rect) (x : F) (r : Rect) → Passes A o → ok_or o x ≡ Ok r → area_of r.area ≡ A
passes_ok A None x r p q = absurd (let z : ◌≡◌ {A = ℕ} 0 1 = cc in omega arith)
passes_ok A (Some s) x r p q = let d : s ≡ r = cc in subst (λ r. area_of r.area ≡ A) d p
