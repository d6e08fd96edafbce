-- The form of a picture that proofs use, over numbered tiles, and what follows from it. WidestDrawn and DrawnWidest prove it the same as the definition by free runs.
-- Assumes nothing.
use Rattle.std.specs.Prelude.{◌≡◌, Bool, not, ℕ, ◌+◌, ◌*◌, ◌≤◌, ◌<◌, T, eqb}
use Rattle.std.proofs.Common.{sym, ◌∙◌, subst, arith, eqb→eq, T_not}
use Rattle.std.proofs.Math.Dec.{eqb_refl, not_T}
use Rattle.geometry.specs.Cases.{T_and, and_r}
use Rattle.geometry.specs.Count.{count_mono}
use Rattle.geometry.specs.Picture.{ZERO, E, LOW, FREE, SPACE, SOLID, InPlane, Tile, Has, Solids, SpacePaint, Used, Holder}
use Rattle.geometry.specs.declared.Paint.{Paint}
use Rattle.geometry.specs.Plane.{Plane, Is, Holds}
use Rattle.geometry.specs.Runs.{SameSides}
use Rattle.geometry.specs.Strips.{Space, Strips, solids, spaces, three_n_plus_one}
use Rattle.geometry.specs.Counting.{count}

abbrev pub plane_of : ℕ → (ℕ → Tile) → Plane
plane_of R tile =
    record {
      R = R;
      lo = LOW;
      W = E + E;
      used = λ i. not (eqb (tile i).paint.kind FREE);
      l = λ i. (tile i).left;
      b = λ i. (tile i).bottom;
      r = λ i. (tile i).right;
      t = λ i. (tile i).top;
    }

abbrev pub solid_of : (ℕ → Tile) → ℕ → Bool
solid_of tile i = eqb (tile i).paint.kind SOLID

abbrev pub space_of : (ℕ → Tile) → ℕ → Bool
space_of tile i = eqb (tile i).paint.kind SPACE

pub record SolidPaint (p : Paint) : Type 0 where
  pub kind : p.kind ≡ SOLID
  pub label : ZERO < p.label

-- kind and label go together
pub data Kinded (v : Tile) : Type 0 where
  space : SpacePaint v.paint → Kinded v
  solid : SolidPaint v.paint → Kinded v

-- the tiles cover the plane exactly, no space is beside space, and no two space tiles of equal span are stacked
pub record Widest (R : ℕ) (tile : ℕ → Tile) : Type 0 where
  pub kinded : (i : ℕ) → Used R tile i → Kinded (tile i)
  pub strips : Strips (plane_of R tile) (solid_of tile)

-- the solids among the records
abbrev pub solids_of : ℕ → (ℕ → Tile) → Solids
solids_of R tile = record { size = R; is = solid_of tile; at = tile }

-- two tiles with the same words are one
pub tile_ext : (v w : Tile) → SameSides v.left v.bottom v.right v.top w.left w.bottom w.right w.top
    → v.paint ≡ w.paint → v ≡ w
tile_ext v w s e = go
  where
    -- by its words, where `cc` sees a constructor's arguments
    go : ◌≡◌ {A = Tile} (record { left = v.left; bottom = v.bottom; right = v.right; top = v.top; paint = v.paint })
        (record { left = w.left; bottom = w.bottom; right = w.right; top = w.top; paint = w.paint })
    go = cc

pub paint_ext : (p q : Paint) → p.kind ≡ q.kind → p.label ≡ q.label → p ≡ q
paint_ext p q k a = go
  where
    go : ◌≡◌ {A = Paint} (record { kind = p.kind; label = p.label }) (record { kind = q.kind; label = q.label })
    go = cc

-- all space is painted alike
pub space_alike : (p q : Paint) → SpacePaint p → SpacePaint q → p ≡ q
space_alike p q s z = paint_ext p q (s.kind ∙ sym z.kind) (s.label ∙ sym z.label)

-- a tile's own lower left cell
pub first_cell : (v : Tile) → v.left < v.right → v.bottom < v.top → Has v v.left v.bottom
first_cell v h k = omega arith

-- ---- records of the definition as tiles of the plane, and back

pub eq→eqb : (m n : ℕ) → m ≡ n → T (eqb m n)
eq→eqb m n e = subst (λ k. T (eqb m k)) e (eqb_refl m)

pub neq→eqb : (m n : ℕ) → (m ≡ n → ⊥) → T (not (eqb m n))
neq→eqb m n d = not_T (eqb m n) (λ t. d (eqb→eq m n t))

module _ (R : ℕ) (tile : ℕ → Tile) where
  pub used_is : (i : ℕ) → Used R tile i → Is (plane_of R tile) i
  used_is i u = record { below = u.below; used = neq→eqb (tile i).paint.kind FREE u.used }

  pub is_used : (i : ℕ) → Is (plane_of R tile) i → Used R tile i
  is_used i u = record { below = u.below; used = λ e. T_not (eqb (tile i).paint.kind FREE) u.used (eq→eqb (tile i).paint.kind FREE e) }

  pub has_holds : (i x y : ℕ) → Used R tile i → Has (tile i) x y → Holds (plane_of R tile) i x y
  has_holds i x y u h = record { is = used_is i u; at = omega arith }

  pub holds_has : (i x y : ℕ) → Holds (plane_of R tile) i x y → Has (tile i) x y
  holds_has i x y h = omega arith

  -- the kind of a record by a test
  pub kind_solid : (i : ℕ) → T (solid_of tile i) → (tile i).paint.kind ≡ SOLID
  kind_solid i t = eqb→eq (tile i).paint.kind SOLID t

  pub solid_used : (i : ℕ) → i < R → T (solid_of tile i) → Used R tile i
  solid_used i h t = record { below = h; used = λ e. omega (arith, kind_solid i t) }

  pub space_is : (i : ℕ) → i < R → (tile i).paint.kind ≡ SPACE → Space (plane_of R tile) (solid_of tile) i
  space_is i h e = record {
    is = used_is i (record { below = h; used = λ d. omega arith });
    space = neq→eqb (tile i).paint.kind SOLID (λ d. omega arith);
  }

  -- ---- what follows from the form

  -- Ousterhout's bound, by kinds
  pub bound : Widest R tile → count R (space_of tile) ≤ 3 * count R (solid_of tile) + 1
  bound w =
      let P = plane_of R tile in
      omega (
        arith,
        three_n_plus_one P (solid_of tile) w.strips,
        count_mono R (space_of tile) (spaces P (solid_of tile)) (λ i h t. spaced i h (eqb→eq (tile i).paint.kind SPACE t)),
        count_mono R (solids P (solid_of tile)) (solid_of tile) (λ i h t. and_r (P.used i) (solid_of tile i) t),
      )
    where
      spaced : (i : ℕ) → i < R → (tile i).paint.kind ≡ SPACE → T (spaces (plane_of R tile) (solid_of tile) i)
      spaced i h e = let u = space_is i h e in T_and ((plane_of R tile).used i) (not (solid_of tile i)) u.is.used u.space

pub one_holder : (R : ℕ) (tile : ℕ → Tile) → Widest R tile → (x y : ℕ) → InPlane x y → Holder R tile x y
one_holder R tile w x y p =
    let (i, h) = w.strips.covered x y (omega arith) in
    record {
      number = i;
      used = is_used R tile i h.is;
      has = holds_has R tile i x y h;
      only = λ j u k. w.strips.disjoint j i x y (has_holds R tile j x y u k) h;
    }
