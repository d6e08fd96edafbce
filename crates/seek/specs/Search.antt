-- What area search answers, row by row from the top, and that its answer is determined. Assumes nothing.
use Rattle.std.specs.Prelude.{◌≡◌, List, ◌≢◌, ℕ, ◌-◌, ◌≤◌, ◌<◌, ℤ, MatchResult, Result, Ok, Err}
use Rattle.std.proofs.Common.{sym, subst, arith}
use Rattle.geometry.specs.Cases.{lt_cases}
use Rattle.geometry.specs.Picture.{SOLID, Has}
use Rattle.geometry.specs.Plane.{Holds}
use Rattle.geometry.specs.Strips.{Space}
use Rattle.geometry.specs.Tiling.{neq→eqb, kind_solid}
use Rattle.table.specs.Words.{BOTTOM, RIGHT, KIND, records_of, num, tile_of}
use Rattle.table.specs.Sound.{UsedIn, solid_at, SolidIn}
use Rattle.table.specs.Forms.{plane_in, Forms, used_is, has_holds}
use Rattle.seek.specs.declared.rows.Met.{Met}
use Rattle.seek.specs.Find.{Finds, finds_one}
use Rattle.seek.specs.Meaning.{Area, InArea, Before, higher, same_row, FreeCell, FreeArea, First}

-- ---- the answer

-- no solid, with a tile that is in use, or the first occupied cell
abbrev pub Searches : List ℤ → Area → Result ℕ Met → Type 0
Searches t A r = MatchResult r (λ k. FreeArea t A × UsedIn t k) (λ m. First t A m.x m.y m.tile)

-- ---- one row

-- tile k, no solid, has the row from one column to the other
pub record Spans (t : List ℤ) (left right y k : ℕ) : Type 0 where
  pub used : UsedIn t k
  pub no_solid : num t k KIND ≢ SOLID
  pub has : Has (tile_of t k) left y
  pub far : right ≤ num t k RIGHT

-- (x, y) is the first occupied cell of the row, and solid i holds it
pub record FirstInRow (t : List ℤ) (left right y i x : ℕ) : Type 0 where
  pub solid : SolidIn t i
  pub has : Has (tile_of t i) x y
  pub from : left ≤ x
  pub to : x < right
  pub none_before : (x' : ℕ) → left ≤ x' → x' < x → FreeCell t x' y

abbrev pub InRow : List ℤ → ℕ → ℕ → ℕ → Result ℕ Met → Type 0
InRow t left right y r = MatchResult r (Spans t left right y) (λ m. FirstInRow t left right y m.tile m.x × (m.y ≡ y))

solid_used : (t : List ℤ) (i : ℕ) → SolidIn t i → UsedIn t i
solid_used t i s = record { below = s.below; used = λ e. omega (arith, s.kind) }

-- two records that hold one cell are one
pub one_tile : (t : List ℤ) → Forms t → (i j x y : ℕ) → UsedIn t i → UsedIn t j → Has (tile_of t i) x y → Has (tile_of t j) x y → i ≡ j
one_tile t f i j x y u v h k = finds_one t f x y i j (record { used = u; has = h }) (record { used = v; has = k })

-- a cell that a tile which is no solid holds
pub free_under : (t : List ℤ) → Forms t → (k x y : ℕ) → UsedIn t k → num t k KIND ≢ SOLID → Has (tile_of t k) x y → FreeCell t x y
free_under t f k x y u n h i s g = n (subst (λ j. num t j KIND ≡ SOLID) (one_tile t f i k x y (solid_used t i s) u g h) s.kind)

-- a solid at the row's first cell
pub solid_first : (t : List ℤ) (left right y k : ℕ) → left < right → Finds t left y k → num t k KIND ≡ SOLID → FirstInRow t left right y k left
solid_first t left right y k h f e = record {
  solid = record { below = f.used.below; kind = e };
  has = f.has;
  from = omega arith;
  to = h;
  none_before = λ x' a b. absurd (omega arith);
}

-- beside a space tile stands a solid
pub solid_beside : (t : List ℤ) → Forms t → (left right y k n x : ℕ) → Finds t left y k → num t k KIND ≢ SOLID
    → x ≡ num t k RIGHT → x < right → Finds t x y n → FirstInRow t left right y n x
solid_beside t f left right y k n x u e q h v =
    let s : Space (plane_in t) (solid_at t) k = record { is = used_is t k u.used; space = neq→eqb (num t k KIND) SOLID e } in
    let o : Holds (plane_in t) n (num t k RIGHT) y = has_holds t n (num t k RIGHT) y v.used (omega (arith, v.has)) in
    let b = f.widest.strips.beside k n y s u.has.bottom u.has.top o in
    record {
      solid = record { below = v.used.below; kind = kind_solid (records_of t) (tile_of t) n b };
      has = v.has;
      from = omega (arith, u.has);
      to = h;
      none_before = λ x' a b. free_under t f k x' y u.used e (omega (arith, u.has));
    }

-- a space tile at the row's first cell that ends at its last or after it
pub spans : (t : List ℤ) (left right y k : ℕ) → Finds t left y k → num t k KIND ≢ SOLID → right ≤ num t k RIGHT → Spans t left right y k
spans t left right y k f e h = record { used = f.used; no_solid = e; has = f.has; far = h }

-- what the row's answer says, by its case
pub row_clear : (t : List ℤ) (left right y : ℕ) (r : Result ℕ Met) (k : ℕ) → InRow t left right y r → r ≡ Ok k → Spans t left right y k
row_clear t left right y r k h e = subst (InRow t left right y) e h

pub row_stopped : (t : List ℤ) (left right y : ℕ) (r : Result ℕ Met) (m : Met) → InRow t left right y r → r ≡ Err m → FirstInRow t left right y m.tile m.x
row_stopped t left right y r m h e = let o : InRow t left right y (Err m) = subst (InRow t left right y) e h in o.0

-- ---- row after row: from row y up the area is free, and the search stands at a used tile

pub record FreeFrom (t : List ℤ) (A : Area) (y k : ℕ) : Type 0 where
  pub used : UsedIn t k
  pub to : y ≤ A.top
  pub free : (x' y' : ℕ) → InArea A x' y' → y ≤ y' → FreeCell t x' y'

-- over the top row there is no row
pub free_start : (t : List ℤ) (A : Area) (k : ℕ) → UsedIn t k → FreeFrom t A A.top k
free_start t A k u = record { used = u; to = omega arith; free = λ x' y' a h. absurd (omega (arith, a.top)) }

pub free_on : (t : List ℤ) → Forms t → (A : Area) (y k n : ℕ) → FreeFrom t A y k → A.bottom < y → Spans t A.left A.right (y - 1) n
    → FreeFrom t A (num t n BOTTOM) n
free_on t f A y k n g h s = record {
  used = s.used;
  to = omega (arith, s.has, g.to);
  free = λ x' y' a q. lt_cases y' y
      (λ l. free_under t f n x' y' s.used s.no_solid (omega (arith, s.has, s.far, a)))
      (λ l. g.free x' y' a l);
}

pub free_ends : (t : List ℤ) (A : Area) (y k : ℕ) → FreeFrom t A y k → y ≤ A.bottom → FreeArea t A
free_ends t A y k g h x' y' a = g.free x' y' a (omega (arith, a.bottom))

pub first_of_area : (t : List ℤ) (A : Area) (y k : ℕ) (m : Met) → FreeFrom t A y k → A.bottom < y
    → FirstInRow t A.left A.right (y - 1) m.tile m.x × (m.y ≡ y - 1) → First t A m.x m.y m.tile
first_of_area t A y k m g h (s, e) = subst (λ y. First t A m.x y m.tile) (sym e) (record {
  inside = record { left = s.from; right = s.to; bottom = omega arith; top = omega (arith, g.to) };
  solid = s.solid;
  has = s.has;
  none_before = before;
})
  where
    before : (x' y' : ℕ) → InArea A x' y' → Before x' y' m.x (y - 1) → FreeCell t x' y'
    before x' y' a (higher l) = g.free x' y' a (omega arith)
    before x' y' a (same_row e l) = subst (FreeCell t x') (sym e) (s.none_before x' a.left l)

-- ---- the answer is determined

pub record SameCell (x y i x' y' i' : ℕ) : Type 0 where
  pub column : x ≡ x'
  pub row : y ≡ y'
  pub number : i ≡ i'

pub no_first_before : (t : List ℤ) (A : Area) (x y i x' y' i' : ℕ) → First t A x y i → First t A x' y' i' → Before x y x' y' → ⊥
no_first_before t A x y i x' y' i' f g b = g.none_before x y f.inside b i f.solid f.has

pub first_one : (t : List ℤ) → Forms t → (A : Area) (x y i x' y' i' : ℕ) → First t A x y i → First t A x' y' i' → SameCell x y i x' y' i'
first_one t f A x y i x' y' i' p q =
    let no = no_first_before t A x y i x' y' i' p q in
    let on = no_first_before t A x' y' i' x y i q p in
    let ey : y ≡ y' = lt_cases y y' (λ h. absurd (on (higher h))) (λ h. lt_cases y' y (λ l. absurd (no (higher l))) (λ l. omega arith)) in
    let ex : x ≡ x' = lt_cases x x' (λ h. absurd (no (same_row ey h))) (λ h. lt_cases x' x (λ l. absurd (on (same_row (sym ey) l))) (λ l. omega arith)) in
    record {
      column = ex;
      row = ey;
      number = one_tile t f i i' x y (solid_used t i p.solid) (solid_used t i' q.solid) p.has (omega (arith, q.has));
    }

pub free_no_first : (t : List ℤ) (A : Area) (x y i : ℕ) → FreeArea t A → First t A x y i → ⊥
free_no_first t A x y i h f = h x y f.inside i f.solid f.has

-- what area search saw
pub searches_free : (t : List ℤ) (A : Area) (s : Result ℕ Met) (k : ℕ) → Searches t A s → s ≡ Ok k → FreeArea t A × UsedIn t k
searches_free t A s k h e = subst (Searches t A) e h

pub searches_met : (t : List ℤ) (A : Area) (s : Result ℕ Met) (m : Met) → Searches t A s → s ≡ Err m → First t A m.x m.y m.tile
searches_met t A s m h e = subst (Searches t A) e h
