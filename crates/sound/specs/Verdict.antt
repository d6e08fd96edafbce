-- What the check answers. Assumes nothing.
use Rattle.std.specs.Prelude.{Option, Some, None, ◌≡◌, refl, ◌↔◌, Bool, true, false, List, ℕ, ◌^◌, ◌≤◌, T, ℤ}
use Rattle.std.proofs.Common.{sym, ◌∙◌, arith}
use Rattle.geometry.specs.Picture.{LOW, HIGH, SOLID}
use Rattle.table.specs.Words.{records_of}
use Rattle.table.specs.Sound.{SizeRight, capacity, solids_in, UsedIn}
use Rattle.table.specs.Forms.{Forms}
use Rattle.sound.specs.Tally.{Tallied}
use Rattle.sound.specs.Columns.{Rows}
use Rattle.sound.specs.Passed.{Sided, Unstacked, Passed, passed_forms, forms_ready, forms_area}
use Rattle.sound.specs.Sides.{LeftColumn, AllBeside}

-- exact, with the number of solids of a sound table, and 0 of any other
pub record Checked (t : List ℤ) (s : Bool) (n : ℕ) : Type 0 where
  pub sound : T s ↔ Forms t
  pub solids : T s → n ≡ solids_in t
  pub none : (T s → ⊥) → n ≡ 0

-- how many solids a sound table has, or none
abbrev pub Checks : List ℤ → Option ℕ → Type 0
Checks t (Some n) = Checked t true n
Checks t None = Checked t false 0

-- the sums are those of the plane, and of a table that takes as many solids
pub record Measured (t : List ℤ) (a n : ℕ) : Type 0 where
  pub area : a ≡ 2 ^ 50
  pub few : n ≤ capacity (records_of t)

-- how the tiles lie: the second pass
pub record Laid (t : List ℤ) : Type 0 where
  pub first : Rows t LOW SOLID LOW HIGH
  pub sided : (i : ℕ) → UsedIn t i → Sided t i
  pub unstacked : (i : ℕ) → UsedIn t i → Unstacked t i

pub record LaidIs (t : List ℤ) (r : Bool) : Type 0 where
  pub laid : T r → Laid t
  pub passes : Forms t → T r

pub laid_all : (t : List ℤ) (r : Bool) → LeftColumn t true → AllBeside t r → LaidIs t r
laid_all t r c b = record {
  laid = λ h. record { first = c.rows tt; sided = b.sided h; unstacked = b.unstacked h };
  passes = b.passes;
}

pub laid_first : (t : List ℤ) → LeftColumn t false → LaidIs t false
laid_first t c = record { laid = λ b. absurd b; passes = c.passes }

-- ---- the verdict

unsound : (t : List ℤ) → (Forms t → ⊥) → Checked t false 0
unsound t n = record { sound = (λ b. absurd b, n); solids = λ b. absurd b; none = λ _. refl }

pub not_laid : (t : List ℤ) → LaidIs t false → Checked t false 0
not_laid t l = unsound t l.passes

module _ (t : List ℤ) (a n : ℕ) where
  pub not_ready : SizeRight t → Tallied t a n false → Checked t false 0
  not_ready s w = unsound t (λ f. w.ready.1 (forms_ready t f s))

  pub not_measured : Tallied t a n true → (Measured t a n → ⊥) → Checked t false 0
  not_measured w m = unsound t (λ f. m (record { area = w.area tt ∙ forms_area t f; few = omega (arith, f.few, w.solids tt) }))

  pub passed : SizeRight t → Tallied t a n true → Measured t a n → Laid t → Checked t true n
  passed s w m l =
      let p : Passed t =
      record {
        ready = w.ready.0 tt;
        few = omega (arith, m.few, w.solids tt);
        area = sym (w.area tt) ∙ m.area;
        first = l.first;
        sided = l.sided;
        unstacked = l.unstacked;
      } in
      record { sound = (λ _. passed_forms t p s, λ _. tt); solids = λ _. w.solids tt; none = λ n. absurd (n tt) }
