-- The definition of a picture by free runs gives the form that proofs use; it has as many solid records as solids; and its space tiles depend on
-- the solids alone. Assumes nothing.
use Rattle.std.specs.Prelude.{◌≡◌, refl, not, ℕ, ◌-◌, ◌≤◌, ◌<◌, T}
use Rattle.std.proofs.Common.{sym, ap, ◌∙◌, subst, arith, T_not}
use Rattle.geometry.specs.Cases.{T_of}
use Rattle.geometry.specs.Count.{inject}
use Rattle.geometry.specs.Picture.{ZERO, SPACE, SOLID, InPlane, Tile, Has, Limits, Solids, In, number, Apart, Free, Run, Strip, TileOf, Used, Drawn}
use Rattle.geometry.specs.Plane.{Plane, Is, Holds, Formed}
use Rattle.geometry.specs.Strips.{Space}
use Rattle.geometry.specs.Runs.{run_span, Within, strip_one, SameSolids, same_strips}
use Rattle.geometry.specs.StripAt.{held_cases, StripAt, strip_at}
use Rattle.geometry.specs.Tiling.{plane_of, solid_of, Kinded, Widest, tile_ext, space_alike, first_cell, eq→eqb, is_used, has_holds, holds_has, kind_solid, solid_used}
use Rattle.geometry.specs.Counting.{count}

module _ (R : ℕ) (tile : ℕ → Tile) (S : Solids) (a : Apart S) (d : Drawn R tile S) where
  abbrev P : Plane
  P = plane_of R tile

  solid_kind : (i k : ℕ) → In S k → tile i ≡ S.at k → (tile i).paint.kind ≡ SOLID
  solid_kind i k u e = ap (λ v. v.paint.kind) e ∙ a.kind k u

  strip_within : (v : Tile) (x y : ℕ) → Has v x y → Within v.left v.bottom v.right v.top x y
  strip_within v x y h = omega arith

  strip_free : (v : Tile) (x y : ℕ) → Strip S v.left v.bottom v.right v.top → Has v x y → Free S x y
  strip_free v x y s h = (s.rows y h.bottom h.top).free x h.left h.right

  kinded : (i : ℕ) → TileOf S (tile i) → Kinded (tile i)
  kinded i (TileOf.solid k u e) = Kinded.solid (record { kind = solid_kind i k u e; label = subst (λ v. ZERO < v.paint.label) (sym e) (a.limits k u).label })
  kinded i (TileOf.space k s) = Kinded.space k

  formed : (i : ℕ) → TileOf S (tile i) → Formed P i
  formed i (TileOf.solid k u e) = let l : Limits (tile i) = subst Limits (sym e) (a.limits k u) in omega arith
  formed i (TileOf.space k s) =
      let p = s.rows (tile i).bottom (omega arith) s.some in
      let q = s.rows ((tile i).top - 1) (omega (arith, s.some)) (omega (arith, s.some)) in
      omega (arith, s.some)

  -- the record of a tile that holds a cell
  tile_held : (v : Tile) (x y : ℕ) → TileOf S v → Has v x y → (i : ℕ) × Holds P i x y
  tile_held v x y o h = let (i, u, e) = d.all v o in (i, has_holds R tile i x y u (subst (λ v. Has v x y) (sym e) h))

  strip_held : (x y : ℕ) → StripAt S x y → (i : ℕ) × Holds P i x y
  strip_held x y s =
      tile_held (record { left = s.left; bottom = s.bottom; right = s.right; top = s.top; paint = record { kind = SPACE; label = ZERO } }) x y
      (TileOf.space (record { kind = refl; label = refl }) s.strip) (record { left = s.within.left; right = s.within.right; bottom = s.within.bottom; top = s.within.top })

  covered : (x y : ℕ) → InPlane x y → (i : ℕ) × Holds P i x y
  covered x y p = held_cases S x y (λ k u h. tile_held (S.at k) x y (TileOf.solid k u refl) h) (λ f. strip_held x y (strip_at S x y p f))

  one_tile : (v w : Tile) (x y : ℕ) → TileOf S v → TileOf S w → Has v x y → Has w x y → v ≡ w
  one_tile v w x y (TileOf.solid k u e) (TileOf.solid m o c) h g =
      e ∙ ap S.at (a.apart k m x y u o (subst (λ v. Has v x y) e h) (subst (λ v. Has v x y) c g)) ∙ sym c
  one_tile v w x y (TileOf.solid k u e) (TileOf.space i s) h g = absurd (strip_free w x y s g k u (subst (λ v. Has v x y) e h))
  one_tile v w x y (TileOf.space i s) (TileOf.solid k u e) h g = absurd (strip_free v x y s h k u (subst (λ v. Has v x y) e g))
  one_tile v w x y (TileOf.space i s) (TileOf.space j q) h g =
      tile_ext v w
      (strip_one S v.left v.bottom v.right v.top w.left w.bottom w.right w.top x y s q (strip_within v x y h) (strip_within w x y g))
      (space_alike v.paint w.paint i j)

  -- a used record that is no solid is a strip
  strip_of : (i : ℕ) → T (not (solid_of tile i)) → TileOf S (tile i) → Strip S (tile i).left (tile i).bottom (tile i).right (tile i).top
  strip_of i t (TileOf.solid k u e) = absurd (T_not (solid_of tile i) t (eq→eqb (tile i).paint.kind SOLID (solid_kind i k u e)))
  strip_of i t (TileOf.space k s) = s

  tile_is : (i : ℕ) → Is P i → TileOf S (tile i)
  tile_is i u = d.each i (is_used R tile i u)

  space_strip : (i : ℕ) → Space P (solid_of tile) i → Strip S (tile i).left (tile i).bottom (tile i).right (tile i).top
  space_strip i u = strip_of i u.space (tile_is i u.is)

  beside : (i j y : ℕ) → Space P (solid_of tile) i → (tile i).bottom ≤ y → y < (tile i).top → Holds P j (tile i).right y → T (solid_of tile j)
  beside i j y u h k v = T_of (solid_of tile j) (λ t.
      let f = formed j (tile_is j v.is) in
      let free = strip_free (tile j) (tile i).right y (strip_of j t (tile_is j v.is)) (holds_has R tile j (tile i).right y v) in
      ((space_strip i u).rows y h k).no_longer_right (omega arith) free)

  merged : (i j : ℕ) → Space P (solid_of tile) i → Space P (solid_of tile) j → (tile i).left ≡ (tile j).left → (tile i).right ≡ (tile j).right
      → (tile i).top ≡ (tile j).bottom → ⊥
  merged i j u v l r t =
      let s = space_strip j v in
      let p : Run S (tile i).top (tile j).left (tile j).right = s.rows (tile i).top (omega arith) (omega (arith, s.some)) in
      (space_strip i u).no_higher (run_span S (tile i).top (tile j).left (tile j).right (tile i).left (tile i).right (record { left = sym l; right = sym r }) p)

pub drawn_widest : (R : ℕ) (tile : ℕ → Tile) (S : Solids) → Apart S → Drawn R tile S → Widest R tile
drawn_widest R tile S a d = record {
  kinded = λ i u. kinded R tile S a d i (d.each i u);
  strips = record {
    formed = λ i u. formed R tile S a d i (tile_is R tile S a d i u);
    covered = λ x y c. covered R tile S a d x y (omega arith);
    disjoint = λ i j x y h k.
        let u = is_used R tile i h.is in
        let v = is_used R tile j k.is in
        d.once i j u v (one_tile R tile S a d (tile i) (tile j) x y (d.each i u) (d.each j v) (holds_has R tile i x y h) (holds_has R tile j x y k));
    beside = beside R tile S a d;
    merged = merged R tile S a d;
  };
}

-- ---- as many solid records as solids

module _ (R : ℕ) (tile : ℕ → Tile) (S : Solids) (a : Apart S) (d : Drawn R tile S) where
  -- record i has solid k
  record Shows (i k : ℕ) : Type 0 where
    used : Used R tile i
    solid : In S k
    tile_at : tile i ≡ S.at k

  shows_solid : (i : ℕ) → Used R tile i → T (solid_of tile i) → TileOf S (tile i) → (k : ℕ) × (k < S.size) × T (S.is k) × Shows i k
  shows_solid i u t (TileOf.solid k o e) = (k, o.below, o.is, record { used = u; solid = o; tile_at = e })
  shows_solid i u t (TileOf.space k s) = absurd (omega (arith, kind_solid R tile i t))

  shown_solid : (k : ℕ) → In S k → (i : ℕ) × (i < R) × T (solid_of tile i) × Shows i k
  shown_solid k o =
      let (i, u, e) = d.all (S.at k) (TileOf.solid k o refl) in
      (i, u.below, eq→eqb (tile i).paint.kind SOLID (solid_kind R tile S a d i k o e), record { used = u; solid = o; tile_at = e })

  one_record : (i j k : ℕ) → Shows i k → Shows j k → i ≡ j
  one_record i j k s q = d.once i j s.used q.used (s.tile_at ∙ sym q.tile_at)

  one_solid : (k m i : ℕ) → Shows i k → Shows i m → k ≡ m
  one_solid k m i s q =
      let v = S.at k in
      let l = a.limits k s.solid in
      let h : Has (S.at k) v.left v.bottom = first_cell v l.wide l.high in
      a.apart k m v.left v.bottom s.solid q.solid h (subst (λ w. Has w v.left v.bottom) (sym s.tile_at ∙ q.tile_at) h)

  pub drawn_count : count R (solid_of tile) ≡ number S
  drawn_count =
      omega (
        arith,
        inject R S.size (solid_of tile) S.is Shows
            (λ i h t. let u = solid_used R tile i h t in shows_solid i u t (d.each i u)) one_record,
        inject S.size R S.is (solid_of tile) (λ k i. Shows i k) (λ k h t. shown_solid k (record { below = h; is = t })) one_solid,
      )

-- ---- the tiles depend on the solids alone

pub same_tile_of : (S S' : Solids) → SameSolids S S' → (v : Tile) → TileOf S v → TileOf S' v
same_tile_of S S' e v (TileOf.solid k u c) = let (j, o, q) = e.there k u in TileOf.solid j o (c ∙ sym q)
same_tile_of S S' e v (TileOf.space k s) = TileOf.space k (same_strips S S' e v.left v.bottom v.right v.top s)

-- two pictures of the same solids have the same tiles, space and solid; `same_turned` gives the other way
pub same_tiles : (R R' : ℕ) (tile tile' : ℕ → Tile) (S S' : Solids) → Drawn R tile S → Drawn R' tile' S' → SameSolids S S'
    → (i : ℕ) → Used R tile i → (j : ℕ) × Used R' tile' j × (tile' j ≡ tile i)
same_tiles R R' tile tile' S S' d d' e i u = d'.all (tile i) (same_tile_of S S' e (tile i) (d.each i u))
