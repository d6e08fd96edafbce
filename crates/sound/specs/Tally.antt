-- The sums of the first pass: the cells that the used records take, and the solids. Assumes nothing.
use Rattle.std.specs.Prelude.{Option, Some, None, ◌≡◌, refl, ◌≢◌, ◌↔◌, Bool, true, false, not, List, ℕ, ◌+◌, ◌-◌, ◌*◌, ◌^◌, ◌≤◌, ◌<◌, T, eqb, ℤ}
use Rattle.std.proofs.Common.{sym, ap, ap₂, ◌∙◌, mul-le-mul, zero-mul, add-one, arith, below_none, below_more, eq-eqb, ne_eqb}
use Rattle.std.specs.Int.{from_bool}
use Rattle.geometry.specs.Cases.{eq_cases}
use Rattle.geometry.specs.Counting.{only, sum_to, count}
use Rattle.geometry.specs.Picture.{FREE, SOLID}
use Rattle.geometry.specs.Plane.{area}
use Rattle.table.specs.Words.{LEFT, BOTTOM, RIGHT, TOP, KIND, num, records_of}
use Rattle.table.specs.Sound.{SizeRight, Zeros, solid_at, solids_in}
use Rattle.table.specs.Forms.{plane_in}
use Rattle.table.specs.Reading.{Reads}
use Rattle.table.specs.declared.Record.{Record}
use Rattle.sound.specs.declared.records.Sums.{Sums}
use Rattle.sound.specs.Records.{Well, AllWell}
use Rattle.sound.specs.Links.{Linked, Ready, Tested, all_stitched}

-- the cells of record k's rectangle
abbrev rectangle : List ℤ → ℕ → ℕ
rectangle t k = (num t k RIGHT - num t k LEFT) * (num t k TOP - num t k BOTTOM)

-- the cells of record k, if it is used, and whether it is a solid
unfoldable pub cells : List ℤ → ℕ → ℕ
cells t k = only (not (eqb (num t k KIND) FREE)) (rectangle t k)

unfoldable pub one : List ℤ → ℕ → ℕ
one t k = only (solid_at t k) 1

pub record CellsAre (t : List ℤ) (k r : ℕ) : Type 0 where
  pub is : r ≡ cells t k
  pub fits : r ≤ 2 ^ 50

pub record OneIs (t : List ℤ) (k r : ℕ) : Type 0 where
  pub is : r ≡ one t k
  pub fits : r ≤ 1

-- the sums over the records below n
unfoldable pub area_to : List ℤ → ℕ → ℕ
area_to t n = sum_to n (cells t)

unfoldable pub solids_to : List ℤ → ℕ → ℕ
solids_to t n = count n (solid_at t)

cells_free : (t : List ℤ) (k : ℕ) → num t k KIND ≡ FREE → cells t k ≡ 0
unfolding cells
cells_free t k e = ap (λ b. only (not b) (rectangle t k)) (eq-eqb (num t k KIND) FREE e)

-- a product of two sides of the plane
pub in_square : (m n : ℕ) → m ≤ 2 ^ 25 → n ≤ 2 ^ 25 → m * n ≤ 2 ^ 50
in_square m n h k = mul-le-mul h k

-- how far the sides of a record that is well lie apart: a free one's are all 0
pub record Spans (t : List ℤ) (k : ℕ) : Type 0 where
  pub left : num t k LEFT ≤ num t k RIGHT
  pub wide : num t k RIGHT ≤ num t k LEFT + 2 ^ 25
  pub bottom : num t k BOTTOM ≤ num t k TOP
  pub high : num t k TOP ≤ num t k BOTTOM + 2 ^ 25

free_spans : (t : List ℤ) (k : ℕ) → Zeros t k → Spans t k
free_spans t k z = omega (arith, z LEFT (omega arith), z BOTTOM (omega arith), z RIGHT (omega arith), z TOP (omega arith))

pub well_spans : (t : List ℤ) (k : ℕ) → Well t k → Spans t k
well_spans t k w = eq_cases (num t k KIND) FREE (λ e. free_spans t k (w.blank e)) (λ n. let f = w.formed n in omega arith)

free_rectangle : (t : List ℤ) (k : ℕ) → Zeros t k → rectangle t k ≡ 0
free_rectangle t k z =
    let e : num t k RIGHT - num t k LEFT ≡ 0 = omega (arith, z LEFT (omega arith), z RIGHT (omega arith)) in
    ap (λ n. n * (num t k TOP - num t k BOTTOM)) e ∙ zero-mul (num t k TOP - num t k BOTTOM)

cells_rectangle : (t : List ℤ) (k : ℕ) → Well t k → rectangle t k ≡ cells t k
unfolding cells
cells_rectangle t k w =
    eq_cases (num t k KIND) FREE
    (λ e. free_rectangle t k (w.blank e) ∙ sym (cells_free t k e))
    (λ n. sym (ap (λ b. only (not b) (rectangle t k)) (ne_eqb (num t k KIND) FREE n)))

pub cells_are : (t : List ℤ) (k : ℕ) (v : Record) → Reads t k v → Well t k → CellsAre t k ((v.right - v.left) * (v.top - v.bottom))
cells_are t k v h w =
    let s = well_spans t k w in
    record {
      is = ap₂ ◌*◌ (ap₂ ◌-◌ h.right h.left) (ap₂ ◌-◌ h.top h.bottom) ∙ cells_rectangle t k w;
      fits = in_square (v.right - v.left) (v.top - v.bottom) (omega arith) (omega arith);
    }

pub one_is : (t : List ℤ) (k : ℕ) (b : Bool) → b ≡ solid_at t k → OneIs t k (from_bool b)
unfolding one
one_is t k true e = record { is = ap (λ b. only b 1) e; fits = omega arith }
one_is t k false e = record { is = ap (λ b. only b 1) e; fits = omega arith }

-- the same of its kind
pub one_solid : (t : List ℤ) (k : ℕ) → num t k KIND ≡ SOLID → one t k ≡ 1
unfolding one
one_solid t k e = ap (λ b. only b 1) (eq-eqb (num t k KIND) SOLID e)

pub one_other : (t : List ℤ) (k : ℕ) → num t k KIND ≢ SOLID → one t k ≡ 0
unfolding one
one_other t k n = ap (λ b. only b 1) (ne_eqb (num t k KIND) SOLID n)

pub area_none : (t : List ℤ) → area_to t 0 ≡ 0
unfolding area_to sum_to
area_none t = refl

pub area_more : (t : List ℤ) (i : ℕ) → area_to t (i + 1) ≡ area_to t i + cells t i
unfolding area_to sum_to
area_more t i = ap (λ n. sum_to n (cells t)) (add-one i)

pub area_all : (t : List ℤ) → area_to t (records_of t) ≡ area (plane_in t)
unfolding area_to area cells
area_all t = refl

pub solids_none : (t : List ℤ) → solids_to t 0 ≡ 0
unfolding solids_to count sum_to
solids_none t = refl

pub solids_more : (t : List ℤ) (i : ℕ) → solids_to t (i + 1) ≡ solids_to t i + one t i
unfolding solids_to count sum_to one
solids_more t i = ap (λ n. count n (solid_at t)) (add-one i)

pub solids_all : (t : List ℤ) → solids_to t (records_of t) ≡ solids_in t
unfolding solids_to
solids_all t = refl

-- what the first pass finds
pub record Tallied (t : List ℤ) (a s : ℕ) (w : Bool) : Type 0 where
  pub ready : T w ↔ Ready t
  pub area : T w → a ≡ area (plane_in t)
  pub solids : T w → s ≡ solids_in t

-- the sums that it finds, or none where it stops
abbrev pub Tallies : List ℤ → Option Sums → Type 0
Tallies t (Some s) = Tallied t s.area s.solids true
Tallies t None = Tallied t 0 0 false

-- the sums over the records below i, all of which passed
pub record Summed (t : List ℤ) (i a s : ℕ) : Type 0 where
  pub area : a ≡ area_to t i
  pub area_fits : a ≤ i * 2 ^ 50
  pub solids : s ≡ solids_to t i
  pub solids_fits : s ≤ i
  pub well : (k : ℕ) → k < i → Well t k
  pub linked : (k : ℕ) → k < i → AllWell t → Linked t k

pub summed_none : (t : List ℤ) → Summed t 0 0 0
summed_none t = record {
  area = sym (area_none t);
  area_fits = omega arith;
  solids = sym (solids_none t);
  solids_fits = omega arith;
  well = below_none (Well t);
  linked = below_none (λ k. AllWell t → Linked t k);
}

pub summed_more : (t : List ℤ) (i a s c o : ℕ) → Summed t i a s → Tested t i true → CellsAre t i c → OneIs t i o → Summed t (i + 1) (a + c) (s + o)
summed_more t i a s c o h w p q = record {
  area = omega (arith, area_more t i);
  area_fits = omega arith;
  solids = omega (arith, solids_more t i);
  solids_fits = omega arith;
  well = below_more (Well t) i h.well (w.well tt);
  linked = below_more (λ k. AllWell t → Linked t k) i h.linked (w.linked tt);
}

pub summed_all : (t : List ℤ) (i a s : ℕ) → SizeRight t → Summed t i a s → i ≡ records_of t → Tallied t a s true
summed_all t i a s z h e =
    let w : AllWell t = λ k l. h.well k (omega arith) in
    record {
      ready = (λ _. record { size = z; well = w; stitched = all_stitched t (λ k l. h.linked k (omega arith) w) }, λ _. tt);
      area = λ _. h.area ∙ ap (area_to t) e ∙ area_all t;
      solids = λ _. h.solids ∙ ap (solids_to t) e ∙ solids_all t;
    }
