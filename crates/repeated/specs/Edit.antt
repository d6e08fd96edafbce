-- A create and the delete of what it created: what both ask for, and that this holds again after them. Assumes nothing.
use Rattle.std.specs.Prelude.{◌≡◌, refl, List, ℕ, ◌≤◌, ◌<◌, ◌/◌, ◌^◌, ℤ, length}
use Rattle.std.proofs.Common.{ap, ◌∙◌, arith, eqb→eq}
use Rattle.geometry.specs.Count.{count_mono}
use Rattle.geometry.specs.Picture.{ZERO, SOLID, solid_paint}
use Rattle.geometry.specs.Tiling.{eq→eqb}
use Rattle.geometry.specs.Counting.{count}
use Rattle.table.specs.Words.{WIDTH, KIND, records_of, num}
use Rattle.table.specs.Sound.{UsedIn, capacity, solid_at, solids_in, SolidIn}
use Rattle.seek.specs.Meaning.{RectRight, FreeArea, First}
use Rattle.edit.specs.Tidy.{SameTile, same_on}
use Rattle.edit.specs.Create.{Rect, Clear, CanLay, Creates, creates_new}
use Rattle.edit.specs.Delete.{CanShrink, Deletes}
use Rattle.repeated.specs.Entry.{Fit, Unfit}

pub record CanEdit (t : List ℤ) (l b r p label : ℕ) : Type 0 where
  pub fit : Fit t
  pub rect : Rect l b r p
  pub clear : Clear t l b r p
  pub named : ZERO < label
  pub word : label < 2 ^ 32
  pub room : solids_in t < capacity (records_of t)

-- why it cannot be created, by 01's numbers, or 0
pub data MayEdit (t : List ℤ) (l b r p label : ℕ) (number : ℕ) : Type 0 where
  unfit : Unfit t number → MayEdit t l b r p label number
  rect : Fit t → (RectRight (record { left = l; bottom = b; right = r; top = p }) → ⊥) → number ≡ 4 → MayEdit t l b r p label number
  unnamed : Fit t → (ZERO < label → label < 2 ^ 32 → ⊥) → number ≡ 5 → MayEdit t l b r p label number
  occupied : Fit t → (x y k : ℕ) → First t (record { left = l; bottom = b; right = r; top = p }) x y k → number ≡ 6 → MayEdit t l b r p label number
  full : Fit t → capacity (records_of t) ≤ solids_in t → number ≡ 7 → MayEdit t l b r p label number
  free : CanEdit t l b r p label → number ≡ 0 → MayEdit t l b r p label number

-- The solids of t' are those of t, at the same records with the same tiles, and the same can be done again; the new solid's record was no solid's.
pub record Edited (t t' : List ℤ) (l b r p label k : ℕ) : Type 0 where
  pub can : CanEdit t' l b r p label
  pub size : length t' ≡ length t
  pub on : (i : ℕ) → SolidIn t i → SolidIn t' i × SameTile t t' i
  pub back : (i : ℕ) → SolidIn t' i → SolidIn t i
  pub new : SolidIn t k → ⊥

pub free_clear : (t : List ℤ) (l b r p : ℕ) → FreeArea t (record { left = l; bottom = b; right = r; top = p }) → Clear t l b r p
free_clear t l b r p f i x y s h q = f x y (omega arith) i s h

pub right_rect : (l b r p : ℕ) → RectRight (record { left = l; bottom = b; right = r; top = p }) → Rect l b r p
right_rect l b r p h = omega arith

-- an edit that nothing forbids
pub can_free : (t : List ℤ) (l b r p label n : ℕ) → MayEdit t l b r p label n → n ≡ 0 → CanEdit t l b r p label
can_free t l b r p label n (unfit (Unfit.size s d)) e = absurd (omega arith)
can_free t l b r p label n (unfit (Unfit.unsound s f d)) e = absurd (omega arith)
can_free t l b r p label n (rect f h d) e = absurd (omega arith)
can_free t l b r p label n (unnamed f h d) e = absurd (omega arith)
can_free t l b r p label n (occupied f x y k h d) e = absurd (omega arith)
can_free t l b r p label n (full f h d) e = absurd (omega arith)
can_free t l b r p label n (free c d) e = c

pub can_lay : (t : List ℤ) (from l b r p label : ℕ) → CanEdit t l b r p label → UsedIn t from → CanLay t from l b r p (solid_paint label)
can_lay t from l b r p label c u = record {
  forms = c.fit.forms;
  size = c.fit.size;
  from = u;
  rect = c.rect;
  clear = c.clear;
  paint = record { kind = refl; label = c.named };
  word = c.word;
}

pub can_shrink : (t t' : List ℤ) (k l b r p label : ℕ) → CanEdit t l b r p label → Creates t t' k l b r p (solid_paint label) → CanShrink t' k
can_shrink t t' k l b r p label e c = record {
  forms = c.forms;
  size = let s = e.fit.size in omega (arith, c.adds.size);
  solid = c.solid;
}

-- ---- one run, and a run after others

-- as many solids, and the same cells free
again : (t t' : List ℤ) (l b r p label : ℕ) → CanEdit t l b r p label → Fit t' → length t' ≡ length t
    → ((i : ℕ) → SolidIn t i → SolidIn t' i × SameTile t t' i) → ((i : ℕ) → SolidIn t' i → SolidIn t i) → CanEdit t' l b r p label
again t t' l b r p label c f e on back = record {
  fit = f;
  rect = c.rect;
  clear = λ i x y s h q. let s₀ = back i s in let m = (on i s₀).1 in c.clear i x y s₀ (omega arith) q;
  named = c.named;
  word = c.word;
  room = omega (arith, c.room, fewer, few);
}
  where
    same : records_of t' ≡ records_of t
    same = ap (λ n. n / WIDTH) e

    few : count (records_of t') (solid_at t) ≡ solids_in t
    few = ap (λ n. count n (solid_at t)) same

    fewer : solids_in t' ≤ count (records_of t') (solid_at t)
    fewer = count_mono (records_of t') (solid_at t') (solid_at t)
        (λ i h s. eq→eqb (num t i KIND) SOLID (back i (record { below = h; kind = eqb→eq (num t' i KIND) SOLID s })).kind)

pub edited_once : (t t₁ t₂ : List ℤ) (l b r p label k : ℕ) → CanEdit t l b r p label → Creates t t₁ k l b r p (solid_paint label) → Deletes t₁ t₂ k
    → Edited t t₂ l b r p label k
edited_once t t₁ t₂ l b r p label k e c d = record {
  can = again t t₂ l b r p label e (record { forms = d.forms; size = let s = e.fit.size in omega (arith, size) }) size on back;
  size = size;
  on = on;
  back = back;
  new = creates_new t t₁ k l b r p (solid_paint label) c;
}
  where
    size : length t₂ ≡ length t
    size = d.size ∙ c.adds.size

    on : (i : ℕ) → SolidIn t i → SolidIn t₂ i × SameTile t t₂ i
    on i s =
        let m = c.adds.on i s in
        let (s₂, m₂) = d.on i m.solid m.other in
        (s₂, same_on t t₁ t₂ i m.tile m₂)

    back : (i : ℕ) → SolidIn t₂ i → SolidIn t i
    back i s = let (s₁, n) = d.back i s in c.adds.back i s₁ n

pub edited_again : (t t₁ t₂ : List ℤ) (l b r p label j k : ℕ) → Edited t t₁ l b r p label j → Edited t₁ t₂ l b r p label k → Edited t t₂ l b r p label k
edited_again t t₁ t₂ l b r p label j k e d = record {
  can = d.can;
  size = d.size ∙ e.size;
  on = λ i s.
      let (s₁, m₁) = e.on i s in
      let (s₂, m₂) = d.on i s₁ in
      (s₂, same_on t t₁ t₂ i m₁ m₂);
  back = λ i s. e.back i (d.back i s);
  new = λ s. d.new (e.on k s).0;
}
