-- The form of a picture that proofs use gives the definition by free runs: space tiles are exactly the strips of the solids. Assumes nothing.
use Rattle.std.specs.Prelude.{◌≡◌, refl, not, ℕ, ◌-◌, ◌≤◌, ◌<◌, T}
use Rattle.std.proofs.Common.{sym, subst, arith, T_not}
use Rattle.geometry.specs.Cases.{lt_cases, T_cases}
use Rattle.geometry.specs.Picture.{SOLID, Tile, Has, Limits, Solids, In, Apart, Free, Run, Strip, SpacePaint, TileOf, Used, Drawn}
use Rattle.geometry.specs.Plane.{Plane, Is, At, Holds}
use Rattle.geometry.specs.Strips.{Space, left_side, above}
use Rattle.geometry.specs.Stitches.{Same, same}
use Rattle.geometry.specs.Runs.{SameSpan, run_one, SameSides, strip_one}
use Rattle.geometry.specs.Tiling.{plane_of, solid_of, Kinded, Widest, solids_of, tile_ext, space_alike, first_cell, eq→eqb, used_is, is_used, has_holds, holds_has, kind_solid, solid_used, space_is}

module _ (R : ℕ) (tile : ℕ → Tile) (w : Widest R tile) where
  abbrev P : Plane
  P = plane_of R tile

  abbrev S : Solids
  S = solids_of R tile

  abbrev Blank : ℕ → Type 0
  Blank i = Space P (solid_of tile) i

  one : (i j x y : ℕ) → Is P i → Is P j → At P i x y → At P j x y → Same P i j
  one = same P w.strips.formed w.strips.disjoint

  in_is : (k : ℕ) → In S k → Is P k
  in_is k u = used_is R tile k (solid_used R tile k u.below u.is)

  in_holds : (k x y : ℕ) → In S k → Has (tile k) x y → Holds P k x y
  in_holds k x y u h = record { is = in_is k u; at = omega arith }

  -- a solid holds no free cell, and a space tile free cells alone
  free_blank : (i x y : ℕ) → Free S x y → Holds P i x y → Blank i
  free_blank i x y f h = T_cases (solid_of tile i)
      (λ t. absurd (f i (record { below = h.is.below; is = t }) (holds_has R tile i x y h)))
      (λ t. record { is = h.is; space = t })

  blank_free : (i x y : ℕ) → Blank i → At P i x y → Free S x y
  blank_free i x y u h k v a =
      let e = w.strips.disjoint k i x y (in_holds k x y v a) (record { is = u.is; at = h }) in
      T_not (solid_of tile i) u.space (subst (λ k. T (solid_of tile k)) e v.is)

  blank_run : (i y : ℕ) → Blank i → (tile i).bottom ≤ y → y < (tile i).top → Run S y (tile i).left (tile i).right
  blank_run i y u h k =
      let f = w.strips.formed i u.is in
      record {
        y_low = omega arith;
        y_high = omega arith;
        from = omega arith;
        some = omega arith;
        to = omega arith;
        free = λ x a b. blank_free i x y u (omega arith);
        no_longer_left = λ a free.
            let (s, v) = w.strips.covered ((tile i).left - 1) y (omega arith) in
            let (e, t) = left_side P (solid_of tile) w.strips i s y u a h k v in
            free s (record { below = v.is.below; is = t }) (holds_has R tile s ((tile i).left - 1) y v);
        no_longer_right = λ a free.
            let (s, v) = w.strips.covered (tile i).right y (omega arith) in
            let t = w.strips.beside i s y u h k v in
            free s (record { below = v.is.below; is = t }) (holds_has R tile s (tile i).right y v);
      }

  -- the tile that holds a cell of a run is space, and has the ends of the run
  run_tile : (j x y l r : ℕ) → Run S y l r → l ≤ x → x < r → Holds P j x y → Blank j × SameSpan (tile j).left (tile j).right l r
  run_tile j x y l r p h k v =
      let u = free_blank j x y (p.free x h k) v in
      (u, run_one S x y (tile j).left (tile j).right l r (blank_run j y u v.at.bottom v.at.top) p v.at.left v.at.right h k)

  blank_no_higher : (i : ℕ) → Blank i → Run S (tile i).top (tile i).left (tile i).right → ⊥
  blank_no_higher i u p =
      let (j, v) = w.strips.covered (tile i).left (tile i).top (omega arith) in
      let (b, e) = run_tile j (tile i).left (tile i).top (tile i).left (tile i).right p (omega arith) p.some v in
      let d = above P (solid_of tile) w.strips i j (tile i).left u.is (omega arith) p.some v in
      w.strips.merged i j u b (sym e.left) (sym e.right) (sym d)

  blank_no_lower : (i : ℕ) → Blank i → Run S ((tile i).bottom - 1) (tile i).left (tile i).right → ⊥
  blank_no_lower i u p =
      let f = w.strips.formed i u.is in
      let (j, v) = w.strips.covered (tile i).left ((tile i).bottom - 1) (omega arith) in
      let (b, e) = run_tile j (tile i).left ((tile i).bottom - 1) (tile i).left (tile i).right p (omega arith) p.some v in
      let d : (tile j).top ≡ (tile i).bottom = lt_cases (tile i).bottom (tile j).top
      (λ q. omega (arith, one i j (tile i).left (tile i).bottom u.is v.is (omega arith) (omega arith)))
      (λ q. omega arith) in
      w.strips.merged j i b u e.left e.right d

  blank_strip : (i : ℕ) → Blank i → Strip S (tile i).left (tile i).bottom (tile i).right (tile i).top
  blank_strip i u = record {
    some = (w.strips.formed i u.is).high;
    rows = λ y h k. blank_run i y u h k;
    no_lower = blank_no_lower i u;
    no_higher = blank_no_higher i u;
  }

  strip_record : (v : Tile) → SpacePaint v.paint → Strip S v.left v.bottom v.right v.top
      → (i : ℕ) × Used R tile i × (tile i ≡ v)
  strip_record v k s =
      let p = s.rows v.bottom (omega arith) s.some in
      let (j, h) = w.strips.covered v.left v.bottom (omega arith) in
      let u = free_blank j v.left v.bottom (p.free v.left (omega arith) p.some) h in
      let q : SameSides (tile j).left (tile j).bottom (tile j).right (tile j).top v.left v.bottom v.right v.top =
      strip_one S (tile j).left (tile j).bottom (tile j).right (tile j).top v.left v.bottom v.right v.top v.left v.bottom
      (blank_strip j u) s (omega arith) (omega (arith, s.some, p.some)) in
      let o = is_used R tile j h.is in
      (j, o, go j u.space q (w.kinded j o))
    where
      go : (j : ℕ) → T (not (solid_of tile j))
          → SameSides (tile j).left (tile j).bottom (tile j).right (tile j).top v.left v.bottom v.right v.top → Kinded (tile j) → tile j ≡ v
      go j t q (Kinded.space e) = tile_ext (tile j) v q (space_alike (tile j).paint v.paint e k)
      go j t q (Kinded.solid e) = absurd (T_not (solid_of tile j) t (eq→eqb (tile j).paint.kind SOLID e.kind))

  widest_apart : Apart S
  widest_apart = record {
    kind = λ k u. kind_solid R tile k u.is;
    limits = λ k u. limits k u (w.kinded k (solid_used R tile k u.below u.is));
    apart = λ j k x y u v a b. w.strips.disjoint j k x y (in_holds j x y u a) (in_holds k x y v b);
  }
    where
      limits : (k : ℕ) → In S k → Kinded (tile k) → Limits (tile k)
      limits k u (Kinded.space e) = absurd (omega (arith, e.kind, kind_solid R tile k u.is))
      limits k u (Kinded.solid e) = let d = e.label in let f = w.strips.formed k (in_is k u) in omega arith

  tile_of_lem : (i : ℕ) → Used R tile i → Kinded (tile i) → TileOf S (tile i)
  tile_of_lem i u (Kinded.space e) = TileOf.space e (blank_strip i (space_is R tile i u.below e.kind))
  tile_of_lem i u (Kinded.solid e) = TileOf.solid i (record { below = u.below; is = eq→eqb (tile i).paint.kind SOLID e.kind }) refl

  record_of_lem : (v : Tile) → TileOf S v → (i : ℕ) × Used R tile i × (tile i ≡ v)
  record_of_lem v (TileOf.solid k u e) = (k, solid_used R tile k u.below u.is, sym e)
  record_of_lem v (TileOf.space k s) = strip_record v k s

  record_once : (i j : ℕ) → Used R tile i → Used R tile j → tile i ≡ tile j → i ≡ j
  record_once i j u v e =
      let f = w.strips.formed i (used_is R tile i u) in
      let h : Has (tile i) (tile i).left (tile i).bottom = first_cell (tile i) f.wide f.high in
      w.strips.disjoint i j (tile i).left (tile i).bottom (has_holds R tile i (tile i).left (tile i).bottom u h)
      (has_holds R tile j (tile i).left (tile i).bottom v (subst (λ v. Has v (tile i).left (tile i).bottom) e h))

pub widest_drawn : (R : ℕ) (tile : ℕ → Tile) → Widest R tile → Apart (solids_of R tile) × Drawn R tile (solids_of R tile)
widest_drawn R tile w =
    (widest_apart R tile w, record { each = λ i u. tile_of_lem R tile w i u (w.kinded i u); all = record_of_lem R tile w; once = record_once R tile w })
