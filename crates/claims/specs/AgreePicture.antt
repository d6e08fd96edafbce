-- Pictures of tables: when two tables show the same solids, and that they then have the same tiles, space too, and equally many. Assumes nothing.
use Rattle.std.specs.Prelude.{◌≡◌, refl, List, ℕ, ◌≤◌, ℤ}
use Rattle.std.proofs.Common.{sym, ◌∙◌, arith, eqb→eq}
use Rattle.geometry.specs.Count.{inject}
use Rattle.geometry.specs.Picture.{SOLID, Tile, Solids, In, Apart, Drawn}
use Rattle.geometry.specs.Runs.{SameSolids}
use Rattle.geometry.specs.Tiling.{solids_of, eq→eqb}
use Rattle.geometry.specs.WidestDrawn.{widest_drawn}
use Rattle.geometry.specs.DrawnWidest.{same_tiles}
use Rattle.table.specs.Words.{KIND, records_of, num, tile_of}
use Rattle.table.specs.Sound.{UsedIn, solid_at, solids_in, SolidIn}
use Rattle.ushanderi.specs.Promises.{Fit}
use Rattle.claims.specs.AgreeChecks.{fit_forms, solid_used}
use Rattle.claims.specs.Terms.{Shows, SamePicture, Tiles, SameTiles}

pub picture_turned : (u v : List ℤ) → SamePicture u v → SamePicture v u
picture_turned u v p w = ((p w).1, (p w).0)

-- solid i of a table
pub shows : (t : List ℤ) (i : ℕ) → SolidIn t i → Shows t (tile_of t i)
shows t i s = record { at = i; solid = s; is = refl }

-- ---- the solids of a table as a set

abbrev pub own_solids : List ℤ → Solids
own_solids t = solids_of (records_of t) (tile_of t)

pub in_solid : (t : List ℤ) (i : ℕ) → In (own_solids t) i → SolidIn t i
in_solid t i u = record { below = u.below; kind = eqb→eq (num t i KIND) SOLID u.is }

pub solid_in : (t : List ℤ) (i : ℕ) → SolidIn t i → In (own_solids t) i
solid_in t i s = record { below = s.below; is = eq→eqb (num t i KIND) SOLID s.kind }

pub own_apart : (t : List ℤ) → Fit t → Apart (own_solids t)
own_apart t f = (widest_drawn (records_of t) (tile_of t) (fit_forms t f).widest).0

pub own_drawn : (t : List ℤ) → Fit t → Drawn (records_of t) (tile_of t) (own_solids t)
own_drawn t f = (widest_drawn (records_of t) (tile_of t) (fit_forms t f).widest).1

pub tile_once : (t : List ℤ) → Fit t → (i j : ℕ) → UsedIn t i → UsedIn t j → tile_of t i ≡ tile_of t j → i ≡ j
tile_once t f i j u v e = (own_drawn t f).once i j u v e

-- ---- the same picture, the same tiles

same_solids : (u v : List ℤ) → SamePicture u v → SameSolids (own_solids u) (own_solids v)
same_solids u v p =
    record {
      there = λ k h. let s = (p (tile_of u k)).0 (shows u k (in_solid u k h)) in (s.at, solid_in v s.at s.solid, s.is);
      back = λ k h. let s = (p (tile_of v k)).1 (shows v k (in_solid v k h)) in (s.at, solid_in u s.at s.solid, s.is);
    }

tiles_there : (u v : List ℤ) → Fit u → Fit v → SamePicture u v → (w : Tile) → Tiles u w → Tiles v w
tiles_there u v f g p w h =
    let (j, o, e) =
    same_tiles (records_of u) (records_of v) (tile_of u) (tile_of v) (own_solids u) (own_solids v) (own_drawn u f) (own_drawn v g) (same_solids u v p) h.at
    h.used in
    record { at = j; used = o; is = e ∙ h.is }

-- two sound tables with the same solids have the same space rectangles
pub space_agrees : (u v : List ℤ) → Fit u → Fit v → SamePicture u v → SameTiles u v
space_agrees u v f g p w = (tiles_there u v f g p w, tiles_there v u g f (picture_turned u v p) w)

-- ---- the same picture, equally many solids

no_more : (u v : List ℤ) → Fit u → SamePicture u v → solids_in u ≤ solids_in v
no_more u v f p =
    inject (records_of u) (records_of v) (solid_at u) (solid_at v) (λ i j. SolidIn u i × (tile_of v j ≡ tile_of u i))
    (λ i h t.
    let o = in_solid u i (record { below = h; is = t }) in
    let s = (p (tile_of u i)).0 (shows u i o) in
    let n = solid_in v s.at s.solid in
    (s.at, n.below, n.is, (o, s.is)))
    (λ i j k a b. tile_once u f i j (solid_used u i a.0) (solid_used u j b.0) (sym a.1 ∙ b.1))

pub picture_count : (u v : List ℤ) → Fit u → Fit v → SamePicture u v → solids_in u ≡ solids_in v
picture_count u v f g p = omega (arith, no_more u v f p, no_more v u g (picture_turned u v p))
